-- A step that is made tells its line.
use Rattle.std.proofs.Common.{◌≡◌, ◌≤◌, ◌<◌, ℕ, List, refl, sym, subst, arith}
use Rattle.std.specs.Prelude.{Option, Some, None}
use Rattle.xti_base.specs.declared.kinds.State.{State}
use Rattle.xti_model.specs.declared.call.Call.{Call}
use Rattle.xti_model.specs.declared.entry.Go.{Go}
use Rattle.xti_model.specs.declared.entry.Outcome.{Outcome}
use Rattle.xti_model.specs.Step.{Step, step}
use Rattle.xti_core.specs.Standing.{Standing}
use Rattle.xti_flat.specs.declared.asked.Asked.{Asked}
use Rattle.xti_flat.specs.declared.bytes.Bytes.{Bytes}
use Rattle.xti_flat.specs.Calls.{Asks, go_of}
use Rattle.xti_flat.specs.Answers.{end_of}
use Rattle.xti_journal_text.specs.JournalText.{entry_text}
use Rattle.xti_c.specs.declared.recording.Place.{Place}
use Rattle.xti_c.specs.declared.stepping.Ended.{Ended}
use Rattle.xti_c.specs.Lines.{TellsEntry, TellsLine, TellsStep, TellsText, entry_of}
use Rattle.xti_c.proofs.Answering.{small}

-- the line of a step that is made is that of its entry
pub made_tells : (p : Place) (c : Call) (g : Go) (w w' : Standing) (o : Outcome) (after : State) (n size : ℕ) (room room' : List ℕ)
    → Some (record { outcome = o; after = after; world = w'.cells }) ≡ step w.providers w.cells c g → n ≡ end_of o
    → TellsText (entry_text p.number (entry_of p c g o after)) size room room'
    → TellsStep p c g w (record { end = n; line = size }) room room'
made_tells p c g w w' o after n size room room' es en told =
    let few : n ≤ 1 = subst (λ (m : ℕ). m ≤ 1) (sym en) (small o) in
    record {
      made = λ _. subst (λ s. TellsEntry p c g s size room room') es told;
      not_made = λ (l : 3 ≤ n). let no : ⊥ = omega arith in absurd no;
    }

-- a step whose line isn't told
pub untold_entry : (p : Place) (c : Call) (g : Go) (s : Option Step) (room : List ℕ) → TellsEntry p c g s 0 room room
untold_entry p c g None room = (refl, refl)
untold_entry p c g (Some s) room = record {
  told = λ (l : 0 < 0). let no : ⊥ = omega arith in absurd no;
  untold = λ _. refl;
}

pub untold_tells : (p : Place) (c : Call) (g : Go) (w : Standing) (n : ℕ) (room : List ℕ) → TellsStep p c g w (record { end = n; line = 0 }) room room
untold_tells p c g w n room = record {
  made = λ _. untold_entry p c g (step w.providers w.cells c g) room;
  not_made = λ _. (refl, refl);
}

-- the line of the call's step is that of the step that was asked for
pub step_tells : (p : Place) (a : Asked) (b : Bytes) (w : Standing) (c : Call) (g : Go) (e : Ended) (room room' : List ℕ)
    → Asks c a b → g ≡ go_of a → TellsStep p c g w e room room' → TellsLine p a b w e room room'
step_tells p a b w c g e room room' asks eg s = record {
  made = λ f. (c, asks, subst (λ h. TellsEntry p c h (step w.providers w.cells c h) e.line room room') eg (s.made f));
  not_made = s.not_made;
}

-- where no step was tried nothing is told
pub nothing_tells : (p : Place) (a : Asked) (b : Bytes) (w : Standing) (n : ℕ) (room : List ℕ)
    → 3 ≤ n → TellsLine p a b w (record { end = n; line = 0 }) room room
nothing_tells p a b w n room l = record {
  made = λ (f : n < 3). let no : ⊥ = omega arith in absurd no;
  not_made = λ _. (refl, refl);
}
