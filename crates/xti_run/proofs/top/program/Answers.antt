use Rattle.std.proofs.Common.{inl, sym, ◌∙◌}
use Rattle.std.proofs.lemmas.Option.{none-some}
use Rattle.xti_run.proofs.Served.{served}
use Rattle.xti_run.proofs.Statuses.{never_unwritten, of_output}
use Rattle.std.specs.Prelude.{ℕ, List, Option}
use Rattle.xti_io.specs.Sink.{TakesUpTo}
use Rattle.xti_io.specs.declared.sink.WriteEnd.{WriteEnd}
use Rattle.xti_io.specs.declared.sink.WriteEnd.TheVariants.{Fault}
use Rattle.xti_run.specs.Program.{IsCutOff, IsOutput}
use Rattle.xti_run.proofs.top.program.Goals as goal

cut_off : (words : List (List ℕ)) (left : Option (List ℕ)) (status : ℕ) (text : List ℕ) (before now : Option (List ℕ)) (e : WriteEnd) → IsOutput words left status text → TakesUpTo e before now text → IsCutOff words left before now
cut_off words left status text before now (Fault written) out h = record { status = status; text = text; written = written; output = out; part = h.0; taken = h.1 }

pub returns-clause-cut_off : goal.returns-clause-cut_off
returns-clause-cut_off g c six =
    let taken : TakesUpTo c.in-Err-hand_over.field-0 (g.W.Sink.held c.args.sink.now) (g.W.Sink.held c.hand_over.new.sink) c.in-Ok.answer.text = rw (← c.as_slice.ensures) c.in-Err-hand_over.ensures.fault in
    cut_off _ _ _ _ _ _ _ c.in-Ok.ensures.ok taken

pub returns-in-Ok-hand_over-clause-complete : goal.returns-in-Ok-hand_over-clause-complete
returns-in-Ok-hand_over-clause-complete g c command named input source_fault sink_fault = inl (served c.never_both.ensures c.never_both-2.ensures c.frames_law.ensures.never_both c.never_both-3.ensures c.args.words.now command (g.R.Source.left c.args.source.now) c.in-Ok.answer.status c.in-Ok.answer.text named input c.in-Ok.ensures.ok)

pub returns-in-Ok-hand_over-clause-unwritten : goal.returns-in-Ok-hand_over-clause-unwritten
returns-in-Ok-hand_over-clause-unwritten g c never = absurd (never_unwritten _ _ (of_output _ _ _ _ c.in-Ok.ensures.ok) never)

pub returns-in-Ok-hand_over-clause-cut_off : goal.returns-in-Ok-hand_over-clause-cut_off
returns-in-Ok-hand_over-clause-cut_off g c six = absurd ((of_output _ _ _ _ c.in-Ok.ensures.ok).no_write_fault six)

pub returns-in-Ok-hand_over-clause-read_fault : goal.returns-in-Ok-hand_over-clause-read_fault
returns-in-Ok-hand_over-clause-read_fault g c five = absurd ((of_output _ _ _ _ c.in-Ok.ensures.ok).no_read_fault five)

pub returns-in-Ok-hand_over-clause-write_fault : goal.returns-in-Ok-hand_over-clause-write_fault
returns-in-Ok-hand_over-clause-write_fault g c six = absurd ((of_output _ _ _ _ c.in-Ok.ensures.ok).no_write_fault six)

pub returns-in-Ok-hand_over-clause-range : goal.returns-in-Ok-hand_over-clause-range
returns-in-Ok-hand_over-clause-range g c = (of_output _ _ _ _ c.in-Ok.ensures.ok).below

pub returns-in-Ok-hand_over-clause-words : goal.returns-in-Ok-hand_over-clause-words
returns-in-Ok-hand_over-clause-words g c one = (of_output _ _ _ _ c.in-Ok.ensures.ok).words one

pub returns-in-Ok-hand_over-clause-plain : goal.returns-in-Ok-hand_over-clause-plain
returns-in-Ok-hand_over-clause-plain g c command plain one =
    none-some command (sym ((of_output _ _ _ _ c.in-Ok.ensures.ok).words one) ∙ c.plain_words_are_commands.ensures.command c.args.words.now command plain)
