-- What a step does on some cells of a world settles it on all of them.
use Rattle.std.proofs.Common.{◌≡◌, ℕ, zero, suc, ◌+◌, ◌<◌, Bool, true, false, cond, eqb, List, [], ◌∷◌, ◌++◌, Option, Some, None, refl, sym, ap, ◌∙◌}
use Rattle.std.specs.Prelude.{option_map, is_some}
use Rattle.xti_model.specs.declared.call.Call.{Call}
use Rattle.xti_model.specs.declared.entry.Go.{Go}
use Rattle.xti_model.specs.declared.entry.Applied.{Applied}
use Rattle.xti_model.specs.declared.entry.Applied.TheVariants as applied
use Rattle.xti_model.specs.declared.entry.Outcome.{Outcome}
use Rattle.xti_base.specs.declared.kinds.State.{State}
use Rattle.xti_model.specs.declared.profile.Providers.{Providers}
use Rattle.xti_model.specs.World.{World, Cell, Change, places, Numbered, cell_at, cell_number, new_cell, changed, is_among, only, without}
use Rattle.xti_model.specs.Step.{Step, step, plan}
use Rattle.xti_model.specs.History.{left_by}
use Rattle.xti_end.specs.Taken.{taken}
use Rattle.xti_laws.specs.Laws.{restrict}
use Rattle.xti_laws.proofs.Effects.{step-any}
use Rattle.xti_lent.specs.Lending.{numbered_cell, cells_by}
use Rattle.xti_lent.proofs.Worlds.{at_number, from_number, changed_at, cell_at-is, change-is, same-is}

-- the cells with these numbers alone, and all others
abbrev pub kept_by : List ℕ → (ℕ → Option Cell) → ℕ → Option Cell
kept_by t at n = cond (is_among t n) (at n) None

abbrev pub left_from : List ℕ → (ℕ → Option Cell) → ℕ → Option Cell
left_from t at n = cond (is_among t n) None (at n)

pub only-step : (t : List ℕ) (b : Bool) (n : ℕ) (o : Option Cell) (rest other : World) → is_among t n ≡ b → only t rest ≡ other → only t (numbered_cell n o ++ rest) ≡ numbered_cell n (cond b o None) ++ other
only-step t true n None rest other i e = e
only-step t false n None rest other i e = e
only-step t true n (Some c) rest other i e = rw (i, e) refl
only-step t false n (Some c) rest other i e = rw (i, e) refl

pub only-from : (t : List ℕ) (at : ℕ → Option Cell) (from n : ℕ) → only t (from_number at from n) ≡ from_number (kept_by t at) from n
only-from t at from zero = refl
only-from t at from (suc n) = only-step t (is_among t from) from (at from) (from_number at (from + 1) n) (from_number (kept_by t at) (from + 1) n) refl (only-from t at (from + 1) n)

pub without-step : (t : List ℕ) (b : Bool) (n : ℕ) (o : Option Cell) (rest other : World) → is_among t n ≡ b → without t rest ≡ other → without t (numbered_cell n o ++ rest) ≡ numbered_cell n (cond b None o) ++ other
without-step t true n None rest other i e = e
without-step t false n None rest other i e = e
without-step t true n (Some c) rest other i e = rw (i, e) refl
without-step t false n (Some c) rest other i e = rw (i, e) refl

pub without-from : (t : List ℕ) (at : ℕ → Option Cell) (from n : ℕ) → without t (from_number at from n) ≡ from_number (left_from t at) from n
without-from t at from zero = refl
without-from t at from (suc n) = without-step t (is_among t from) from (at from) (from_number at (from + 1) n) (from_number (left_from t at) (from + 1) n) refl (without-from t at (from + 1) n)

pub only-is : (p : Providers) (t : List ℕ) (at : ℕ → Option Cell) → only t (cells_by p at) ≡ cells_by p (kept_by t at)
unfolding cells_by
only-is p t at = only-from t at 0 (places p + 1)

pub without-is : (p : Providers) (t : List ℕ) (at : ℕ → Option Cell) → without t (cells_by p at) ≡ cells_by p (left_from t at)
unfolding cells_by
without-is p t at = without-from t at 0 (places p + 1)

abbrev pub cell_in : Cell → Option Numbered → Cell
cell_in x None = x
cell_in x (Some c) = c.cell

pub numbered-one : (n : ℕ) (o q : Option Cell) → option_map (at_number n) o ≡ option_map (at_number n) q → o ≡ q
numbered-one n None None e = refl
numbered-one n None (Some c) e = cc
numbered-one n (Some c) None e = cc
numbered-one n (Some c) (Some d) e = ap (λ x. Some x) (ap (cell_in c) e)

-- a world has one cell under a number
pub same-at : (p : Providers) (at bt : ℕ → Option Cell) (n : ℕ) → n < places p + 1 → cells_by p at ≡ cells_by p bt → at n ≡ bt n
same-at p at bt n lt e = numbered-one n (at n) (bt n) (sym (cell_at-is p at n lt) ∙ (ap (λ w. cell_at w n) e ∙ cell_at-is p bt n lt))

-- a step leaves a cell under each number that had one
pub record Stepped (p : Providers) (at : ℕ → Option Cell) (w : World) : Type 0 where
  pub next : ℕ → Option Cell
  pub is : w ≡ cells_by p next
  pub there : (n : ℕ) → is_some (next n) ≡ is_some (at n)

pub mapped-there : (b : Bool) (f : Cell → Cell) (o : Option Cell) → is_some (cond b (option_map f o) o) ≡ is_some o
mapped-there true f None = refl
mapped-there true f (Some c) = refl
mapped-there false f o = refl

pub changed-stepped : (p : Providers) (cs : List Change) (at : ℕ → Option Cell) → Stepped p at (changed p (cells_by p at) cs)
changed-stepped p [] at = record { next = at; is = refl; there = λ n. refl }
changed-stepped p (c ∷ cs) at =
    let r = changed-stepped p cs (changed_at at (cell_number p c) (new_cell p c)) in
    record {
      next = r.next;
      is = ap (λ w. changed p w cs) (change-is p at (cell_number p c) (new_cell p c)) ∙ r.is;
      there = λ n. r.there n ∙ mapped-there (eqb n (cell_number p c)) (new_cell p c) (at n);
    }

pub stepped : (p : Providers) (at : ℕ → Option Cell) (c : Call) (g : Go) → Stepped p at (left_by (cells_by p at) (step p (cells_by p at) c g))
unfolding step
stepped p at c g = step-any (Stepped p at) p (cells_by p at) (plan p (cells_by p at) c g) (record { next = at; is = refl; there = λ n. refl })
    (changed-stepped p (plan p (cells_by p at) c g).changes at) (changed-stepped p (plan p (cells_by p at) c g).marks at) (changed-stepped p (plan p (cells_by p at) c g).lost at)

pub none-taken : (a : Applied) (w v : World) → taken a w ≡ None → taken a v ≡ None
none-taken (applied.Step x after) w v e = cc
none-taken applied.Blocked w v e = refl

-- cells that are the same among these numbers and elsewhere
pub glued : (p : Providers) (t : List ℕ) (at bt nt : ℕ → Option Cell) → only t (cells_by p bt) ≡ only t (cells_by p nt) → without t (cells_by p nt) ≡ without t (cells_by p at) → ((n : ℕ) → n < places p + 1 → is_among t n ≡ false → bt n ≡ at n) → cells_by p bt ≡ cells_by p nt
glued p t at bt nt i j k = same-is p bt nt (λ n lt. go n lt (is_among t n) refl)
  where
    h : cells_by p (kept_by t bt) ≡ cells_by p (kept_by t nt)
    h = sym (only-is p t bt) ∙ (i ∙ only-is p t nt)

    l : cells_by p (left_from t nt) ≡ cells_by p (left_from t at)
    l = sym (without-is p t nt) ∙ (j ∙ without-is p t at)

    go : (n : ℕ) → n < places p + 1 → (b : Bool) → is_among t n ≡ b → bt n ≡ nt n
    go n lt true e = rw e at (same-at p (kept_by t bt) (kept_by t nt) n lt h)
    go n lt false e = k n lt e ∙ sym (rw e at (same-at p (left_from t nt) (left_from t at) n lt l))

abbrev pub outcome_in : Outcome → Option Step → Outcome
outcome_in o None = o
outcome_in o (Some s) = s.outcome

abbrev pub after_in : State → Option Step → State
after_in a None = a
after_in a (Some s) = s.after

abbrev pub world_in : World → Option Step → World
world_in w None = w
world_in w (Some s) = s.world

-- what a step answers on the cells with these numbers it answers on all, if the others stay
pub settled : (p : Providers) (t : List ℕ) (at bt : ℕ → Option Cell) (c : Call) (g : Go) (a : Applied)
    → step p (only t (cells_by p at)) c g ≡ option_map (restrict t) (step p (cells_by p at) c g)
    → without t (left_by (cells_by p at) (step p (cells_by p at) c g)) ≡ without t (cells_by p at)
    → ((n : ℕ) → n < places p + 1 → is_among t n ≡ false → bt n ≡ at n)
    → taken a (only t (cells_by p bt)) ≡ step p (only t (cells_by p at)) c g
    → taken a (cells_by p bt) ≡ step p (cells_by p at) c g
settled p t at bt c g a reads changes others e = go a (step p (cells_by p at) c g) (stepped p at c g) changes (e ∙ reads)
  where
    go : (a : Applied) (o : Option Step) → Stepped p at (left_by (cells_by p at) o) → without t (left_by (cells_by p at) o) ≡ without t (cells_by p at) → taken a (only t (cells_by p bt)) ≡ option_map (restrict t) o → taken a (cells_by p bt) ≡ o
    go a None s i j = none-taken a (only t (cells_by p bt)) (cells_by p bt) j
    go applied.Blocked (Some s) r i j = cc
    go (applied.Step x after) (Some s) r i j =
        let k : only t (cells_by p bt) ≡ only t s.world = ap (world_in (only t (cells_by p bt))) j in
        let l : x ≡ s.outcome = ap (outcome_in x) j in
        let m : after ≡ s.after = ap (after_in after) j in
        let u : cells_by p bt ≡ cells_by p r.next = glued p t at bt r.next (k ∙ ap (only t) r.is) (ap (without t) (sym r.is) ∙ i) others in
        let v : cells_by p bt ≡ s.world = u ∙ sym r.is in
        rw (l, m, v) refl
