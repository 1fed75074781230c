-- An input that the command takes is done.
use Rattle.xti_model.specs.Robin.{robin}
use Rattle.xti_replay.specs.Stalls.{are_through}
use Rattle.std.proofs.Common.{◌≡◌, ◌<◌, inl, inr, Bool, true, false, ℕ, List, Option, Some, None, length, ap, subst, arith}
use Rattle.tpi_grammar.specs.Frames.{IsFrames, IsFirstWrong}
use Rattle.xti_model.specs.declared.entry.Entry.{Entry}
use Rattle.xti_model.specs.declared.script.Script.{Script}
use Rattle.xti_script_reader.specs.Grammar.{IsScript}
use Rattle.xti_script_reader.specs.Refused.{IsRefusedAt}
use Rattle.xti_model.specs.declared.script.Journal.{Journal}
use Rattle.xti_journal.specs.Grammar.{IsJournal}
use Rattle.xti_gbn.specs.declared.events.LinkEvent.{LinkEvent}
use Rattle.xti_gbn.specs.Grammar.{IsLinkScript}
use Rattle.xti_gbn.specs.Refused.{IsRefusedAt as IsNoLinkScriptAt}
use Rattle.xti_command.specs.declared.command.Command.{Command}
use Rattle.xti_command.specs.declared.command.Command.TheVariants.{Read, Gen}
use Rattle.xti_command.specs.declared.command.Reading.{Reading}
use Rattle.xti_command.specs.declared.command.Reading.TheVariants.{Replay, Run, Check, Frames, Link, Sock}
use Rattle.xti_script.specs.Generated.{generated}
use Rattle.xti_outputs.specs.Outputs.{IsGenerated, IsWholeRun, status_with}
use Rattle.xti_run.specs.Program.{IsLeft, IsRun, IsAnswer, IsOutput, IsOutputOf, IsDone, HasInput, HasScript, HasJournal, HasFrames, HasLink, HasCopy, IsFinished}
use Rattle.xti_outputs.proofs.Judged.{NoJournal}
use Rattle.xti_base.specs.declared.limits.TheConstants.{MOST_INPUT}
use Rattle.xti_command.specs.Words.{command_of}

-- no text is a script and refused at a line, nor a journal, nor a link script, and no bytes are frames and wrong first at a place
abbrev pub NoScript : Type 0
NoScript = (text : List ℕ) (s : Script) (line : ℕ) → IsScript s text → IsRefusedAt text line → ⊥

abbrev pub NoFrames : Type 0
NoFrames = (bs : List ℕ) (at : ℕ) → IsFirstWrong bs at → IsFrames bs → ⊥

abbrev pub NoLink : Type 0
NoLink = (events : List LinkEvent) (text : List ℕ) (line : ℕ) → IsLinkScript events text → IsNoLinkScriptAt text line → ⊥

the_left : (left : Option (List ℕ)) (input told : List ℕ) → IsLeft left input → left ≡ Some told → told ≡ input
the_left (Some bytes) input told h e = cc
the_left None input told h e = cc

either-status : (b : Bool) (status : ℕ) → status ≡ status_with b → IsFinished status
either-status true status e = inl e
either-status false status e = inr e

run_finished : (summary : Bool) (s : Script) (entries : List Entry) (status : ℕ) (text : List ℕ) → IsWholeRun summary s entries status text → IsFinished status
run_finished summary s entries status text whole = either-status (are_through s.lines entries) status whole.done

no_refusal : NoScript → (left : Option (List ℕ)) (input : List ℕ) (line : ℕ) → IsLeft left input → HasScript left → IsRefusedAt input line → ⊥
no_refusal never left input line l h refused = never input h.script line (subst (λ bs. IsScript h.script bs) (the_left left input h.input l h.told) h.is_script) refused

not_long : (left : Option (List ℕ)) (input : List ℕ) → IsLeft left input → HasScript left → MOST_INPUT < length input → ⊥
not_long left input l h long = let same : length h.input ≡ length input = ap length (the_left left input h.input l h.told) in omega (arith, long, h.within, same)

script_served : NoScript → (summary : Bool) (left : Option (List ℕ)) (input : List ℕ) (status : ℕ) (text : List ℕ) → IsLeft left input → HasScript left → IsAnswer (Replay summary) input status text → IsFinished status
script_served never summary left input status text l h (inl (within, inl done)) = run_finished summary done.script (robin done.script) status text done.played.whole
script_served never summary left input status text l h (inl (within, inr refused)) = absurd (no_refusal never left input refused.line l h refused.refused)
script_served never summary left input status text l h (inr long) = absurd (not_long left input l h long.long)

threads_served : NoScript → (summary : Bool) (left : Option (List ℕ)) (input : List ℕ) (status : ℕ) (text : List ℕ) → IsLeft left input → HasScript left → IsAnswer (Run summary) input status text → IsFinished status
threads_served never summary left input status text l h (inl (within, inl done)) = run_finished summary done.script done.threaded.entries status text done.threaded.whole
threads_served never summary left input status text l h (inl (within, inr refused)) = absurd (no_refusal never left input refused.line l h refused.refused)
threads_served never summary left input status text l h (inr long) = absurd (not_long left input l h long.long)

journal_served : NoJournal → (left : Option (List ℕ)) (input : List ℕ) (status : ℕ) (text : List ℕ) → IsLeft left input → HasJournal left → IsAnswer Check input status text → IsDone (Read Check) status
journal_served never left input status text l h (inl (within, inl legal)) = inl legal.done
journal_served never left input status text l h (inl (within, inr (inl wrong))) = inr wrong.done
journal_served never left input status text l h (inl (within, inr (inr refused))) = absurd (never input h.journal refused.line (subst (λ bs. IsJournal h.journal bs) (the_left left input h.input l h.told) h.is_journal) refused.refused)
journal_served never left input status text l h (inr long) = let same : length h.input ≡ length input = ap length (the_left left input h.input l h.told) in absurd (omega (arith, long.long, h.within, same))

frames_served : NoFrames → (left : Option (List ℕ)) (input : List ℕ) (status : ℕ) (text : List ℕ) → IsLeft left input → HasFrames left → IsAnswer Frames input status text → status ≡ 0
frames_served never left input status text l h (inl (within, inl done)) = done.done
frames_served never left input status text l h (inl (within, inr refused)) = absurd (never input refused.at refused.wrong (subst IsFrames (the_left left input h.input l h.told) h.are_frames))
frames_served never left input status text l h (inr long) = let same : length h.input ≡ length input = ap length (the_left left input h.input l h.told) in absurd (omega (arith, long.long, h.within, same))

link_served : NoLink → (left : Option (List ℕ)) (input : List ℕ) (status : ℕ) (text : List ℕ) → IsLeft left input → HasLink left → IsAnswer Link input status text → status ≡ 0
link_served never left input status text l h (inl (within, inl done)) = done.done
link_served never left input status text l h (inl (within, inr refused)) = absurd (never h.events input refused.line (subst (λ bs. IsLinkScript h.events bs) (the_left left input h.input l h.told) h.is_script) refused.refused)
link_served never left input status text l h (inr long) = let same : length h.input ≡ length input = ap length (the_left left input h.input l h.told) in absurd (omega (arith, long.long, h.within, same))

copy_served : (summary : Bool) (left : Option (List ℕ)) (input : List ℕ) (status : ℕ) (text : List ℕ) → IsLeft left input → HasCopy left → IsAnswer (Sock summary) input status text → status ≡ 0
copy_served summary left input status text l h (inl (within, copied)) = copied.done
copy_served summary left input status text l h (inr long) = let same : length h.input ≡ length input = ap length (the_left left input h.input l h.told) in absurd (omega (arith, long.long, h.within, same))

run_served : NoScript → NoJournal → NoFrames → NoLink → (reading : Reading) (left : Option (List ℕ)) (status : ℕ) (text : List ℕ) → HasInput (Read reading) left → IsRun reading left status text → IsDone (Read reading) status
run_served scripts journals frames links (Replay summary) left status text h run = script_served scripts summary left run.input status text run.is_left h run.answer
run_served scripts journals frames links (Run summary) left status text h run = threads_served scripts summary left run.input status text run.is_left h run.answer
run_served scripts journals frames links Check left status text h run = journal_served journals left run.input status text run.is_left h run.answer
run_served scripts journals frames links Frames left status text h run = frames_served frames left run.input status text run.is_left h run.answer
run_served scripts journals frames links Link left status text h run = link_served links left run.input status text run.is_left h run.answer
run_served scripts journals frames links (Sock summary) left status text h run = copy_served summary left run.input status text run.is_left h run.answer

gen_served : (seed : ℕ) (summary : Bool) (status : ℕ) (text : List ℕ) → IsGenerated seed summary status text → IsDone (Gen seed summary) status
gen_served seed false status text written = written.0
gen_served seed true status text played = run_finished true (generated seed) (robin (generated seed)) status text played.whole

output_served : NoScript → NoJournal → NoFrames → NoLink → (command : Command) (left : Option (List ℕ)) (status : ℕ) (text : List ℕ) → HasInput command left → IsOutputOf (Some command) left status text → IsDone command status
output_served scripts journals frames links (Read reading) left status text h out = run_served scripts journals frames links reading left status text h out
output_served scripts journals frames links (Gen seed summary) left status text h out = gen_served seed summary status text out

pub served : NoScript → NoJournal → NoFrames → NoLink → (words : List (List ℕ)) (command : Command) (left : Option (List ℕ)) (status : ℕ) (text : List ℕ) → command_of words ≡ Some command → HasInput command left → IsOutput words left status text → IsDone command status
served scripts journals frames links words command left status text e h out = output_served scripts journals frames links command left status text h (subst (λ o. IsOutputOf o left status text) e out)
