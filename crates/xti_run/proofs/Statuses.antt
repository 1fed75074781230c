-- Which statuses come with a text.
use Rattle.std.proofs.Common.{◌≡◌, ◌⊎◌, refl, inl, inr, Bool, true, false, ℕ, ◌<◌, List, Option, Some, None, arith}
use Rattle.xti_model.specs.declared.entry.Entry.{Entry}
use Rattle.xti_model.specs.declared.script.Script.{Script}
use Rattle.xti_model.specs.Robin.{robin}
use Rattle.xti_replay.specs.Stalls.{are_through}
use Rattle.xti_script.specs.Generated.{generated}
use Rattle.xti_command.specs.declared.command.Command.{Command}
use Rattle.xti_command.specs.declared.command.Command.TheVariants.{Read, Gen}
use Rattle.xti_command.specs.declared.command.Reading.{Reading}
use Rattle.xti_command.specs.declared.command.Reading.TheVariants.{Replay, Run, Check, Frames, Link, Sock}
use Rattle.xti_outputs.specs.Outputs.{IsWholeRun, IsAnswered, IsGenerated, status_with}
use Rattle.xti_run.specs.Program.{IsAnswer, IsOutputOf}

-- no fault, and 1 only where there is no command
pub record HasStatus (o : Option Command) (status : ℕ) : Type 0 where
  pub below : status < 8
  pub memory_found : status ≡ 4 → ⊥
  pub no_read_fault : status ≡ 5 → ⊥
  pub no_write_fault : status ≡ 6 → ⊥
  pub words : status ≡ 1 → o ≡ None

pub never_unwritten : (o : Option Command) (status : ℕ) → HasStatus o status → (status ≡ 4) ⊎ (status ≡ 5) → ⊥
never_unwritten o status h (inl four) = h.memory_found four
never_unwritten o status h (inr five) = h.no_read_fault five

zero : (o : Option Command) (status : ℕ) → status ≡ 0 → HasStatus o status
zero o status e = record { below = omega (arith, e); memory_found = λ f. omega (arith, e, f); no_read_fault = λ f. omega (arith, e, f); no_write_fault = λ f. omega (arith, e, f); words = λ f. absurd (omega (arith, e, f)) }

two : (o : Option Command) (status : ℕ) → status ≡ 2 → HasStatus o status
two o status e = record { below = omega (arith, e); memory_found = λ f. omega (arith, e, f); no_read_fault = λ f. omega (arith, e, f); no_write_fault = λ f. omega (arith, e, f); words = λ f. absurd (omega (arith, e, f)) }

seven : (o : Option Command) (status : ℕ) → status ≡ 7 → HasStatus o status
seven o status e = record { below = omega (arith, e); memory_found = λ f. omega (arith, e, f); no_read_fault = λ f. omega (arith, e, f); no_write_fault = λ f. omega (arith, e, f); words = λ f. absurd (omega (arith, e, f)) }

played : (o : Option Command) (b : Bool) (status : ℕ) → status ≡ status_with b → HasStatus o status
played o true status e = zero o status e
played o false status e = record { below = omega (arith, e); memory_found = λ f. omega (arith, e, f); no_read_fault = λ f. omega (arith, e, f); no_write_fault = λ f. omega (arith, e, f); words = λ f. absurd (omega (arith, e, f)) }

of_run : (o : Option Command) (summary : Bool) (s : Script) (entries : List Entry) (status : ℕ) (text : List ℕ) → IsWholeRun summary s entries status text → HasStatus o status
of_run o summary s entries status text whole = played o (are_through s.lines entries) status whole.done

of_input : (o : Option Command) (reading : Reading) (input : List ℕ) (status : ℕ) (text : List ℕ) → IsAnswered reading input status text → HasStatus o status
of_input o (Replay summary) input status text (inl done) = of_run o summary done.script (robin done.script) status text done.played.whole
of_input o (Replay summary) input status text (inr refused) = two o status refused.done
of_input o (Run summary) input status text (inl done) = of_run o summary done.script done.threaded.entries status text done.threaded.whole
of_input o (Run summary) input status text (inr refused) = two o status refused.done
of_input o Check input status text (inl legal) = zero o status legal.done
of_input o Check input status text (inr (inl wrong)) = seven o status wrong.done
of_input o Check input status text (inr (inr refused)) = two o status refused.done
of_input o Frames input status text (inl done) = zero o status done.done
of_input o Frames input status text (inr refused) = two o status refused.done
of_input o Link input status text (inl done) = zero o status done.done
of_input o Link input status text (inr refused) = two o status refused.done
of_input o (Sock summary) input status text copied = zero o status copied.done

of_answer : (o : Option Command) (reading : Reading) (input : List ℕ) (status : ℕ) (text : List ℕ) → IsAnswer reading input status text → HasStatus o status
of_answer o reading input status text (inl (within, answered)) = of_input o reading input status text answered
of_answer o reading input status text (inr long) = two o status long.done

of_generated : (o : Option Command) (seed : ℕ) (summary : Bool) (status : ℕ) (text : List ℕ) → IsGenerated seed summary status text → HasStatus o status
of_generated o seed false status text written = zero o status written.0
of_generated o seed true status text done = of_run o true (generated seed) (robin (generated seed)) status text done.whole

pub of_output : (o : Option Command) (left : Option (List ℕ)) (status : ℕ) (text : List ℕ) → IsOutputOf o left status text → HasStatus o status
of_output None left status text refused =
    let e = refused.done in
    record { below = omega (arith, e); memory_found = λ f. omega (arith, e, f); no_read_fault = λ f. omega (arith, e, f); no_write_fault = λ f. omega (arith, e, f); words = λ f. refl }
of_output (Some (Read reading)) left status text run = of_answer (Some (Read reading)) reading run.input status text run.answer
of_output (Some (Gen seed summary)) left status text done = of_generated (Some (Gen seed summary)) seed summary status text done
