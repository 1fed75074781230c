-- Lent cells after several writes, one after the other.
use Rattle.std.proofs.Common.{◌≡◌, ℕ, ◌<◌, Bool, true, false, eqb, List, [], ◌∷◌, ◌++◌, Some, refl, ap, sym, ◌∙◌, arith}
use Rattle.std.proofs.lemmas.Bool.Decides.{nat_tests}
use Rattle.xti_model.specs.declared.profile.Providers.{Providers}
use Rattle.xti_model.specs.World.{World, Change, places, changed, change, cell_number, new_cell}
use Rattle.xti_end.specs.Held.{Held, cell}
use Rattle.xti_lent.specs.Answers.{Changed}
use Rattle.xti_lent.specs.Fit.{SameCells}
use Rattle.xti_lent.specs.Lending.{Lending, held_at, with_held, cell_lent, cells}
use Rattle.xti_lent.proofs.Places.{not-switch}
use Rattle.xti_lent.proofs.Worlds.{same-is}
use Rattle.xti_lent.proofs.Lendings.{put-same, put-other}

pub changed-append : (p : Providers) (w : World) (cs ds : List Change) → changed p w (cs ++ ds) ≡ changed p (changed p w cs) ds
changed-append p w [] ds = refl
changed-append p w (c ∷ cs) ds = changed-append p (change (cell_number p c) (new_cell p c) w) cs ds

pub same-then : (a b c : Lending) → SameCells a b → SameCells b c → SameCells a c
same-then a b c s t = record { providers = t.providers ∙ s.providers; numbers = t.numbers ∙ s.numbers; places = t.places ∙ s.places }

pub changed-then : (a b c : Lending) (cs ds : List Change) → SameCells a b → Changed cs a b → Changed ds b c → Changed (cs ++ ds) a c
changed-then a b c cs ds s h k =
    k ∙ (ap (λ (q : Providers). changed q (cells b) ds) s.providers ∙ (ap (λ (w : World). changed a.providers w ds) h ∙ sym (changed-append a.providers (cells a) cs ds)))

-- a write that leaves a place's cell as it was
unwritten-step : (b : Bool) (l : Lending) (n k : ℕ) (h new : Held) → n < places l.providers → held_at l n ≡ Some h → cell new ≡ cell h → eqb k n ≡ b → cell_lent (with_held l n new) k ≡ cell_lent l k
unwritten-step true l n k h new lt e c t =
    let s : k ≡ n = grind (arith, nat_tests) in
    rw (s, not-switch l.providers n lt, put-same n l.numbers l.held h new e, e, c) refl
unwritten-step false l n k h new lt e c t = rw (put-other n k l.numbers l.held new t) refl

pub same-cell : (l : Lending) (n : ℕ) (h new : Held) → n < places l.providers → held_at l n ≡ Some h → cell new ≡ cell h → cells (with_held l n new) ≡ cells l
same-cell l n h new lt e c = same-is l.providers (cell_lent (with_held l n new)) (cell_lent l) (λ k small. unwritten-step (eqb k n) l n k h new lt e c refl)
