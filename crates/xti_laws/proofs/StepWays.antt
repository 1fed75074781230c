-- The ways in which a step goes, and what its refusals answer.
use Rattle.std.proofs.Common.{ℕ, Bool, true, false, List, [], ◌∷◌, ◌≡◌, refl, sym, ap, ◌∙◌, cond, eqb, Option, Some, None, ◌&&◌, eqb}
use Rattle.std.proofs.lemmas.Bool.{false≢true, eqb-true, eq-eqb}
use Rattle.std.specs.List.{list_all}
use Rattle.xti_model.specs.declared.entry.Outcome.TheVariants.{Done}
use Rattle.xti_model.specs.declared.entry.Reply.{Reply}
use Rattle.xti_model.specs.declared.entry.Reply.TheVariants as reply
use Rattle.xti_model.specs.declared.profile.Providers.{Providers}
use Rattle.xti_model.specs.World.{World, changed}
use Rattle.xti_model.specs.Plan.{Plan, Row, Refusal, answers, waits, loses, first}
use Rattle.xti_model.specs.Step.{Step, made, step_by, step_of}

-- how a step goes
pub data Way (p : Providers) (w : World) (x : Plan) (s : Step) : Type 0 where
  takes : first x.rows ≡ None → made p x.fd x.outcome (changed p w x.changes) ≡ s → Way p w x s
  loses_all : (outcome : ℕ) → first x.rows ≡ Some loses → made p x.fd (Done (reply.Overflow (record { 0 = outcome }))) (changed p w x.lost) ≡ s → Way p w x s
  is_refused : (r : Reply) → first x.rows ≡ Some (answers r) → made p x.fd (Done r) w ≡ s → Way p w x s
  is_marked : (r : Reply) → first x.rows ≡ Some (waits r) → made p x.fd (Done r) (changed p w x.marks) ≡ s → Way p w x s

pub some-is : {A : Type 0} (a b : A) → Some a ≡ Some b → a ≡ b
some-is a b h = cc

pub none-is : {A : Type 0} (b : A) → None ≡ Some b → ⊥
none-is b h = cc

pub way : (p : Providers) (w : World) (x : Plan) (s : Step) → step_of p w x ≡ Some s → Way p w x s
way p w x s h = go (first x.rows) refl h
  where
    wait : (r : Reply) (b : Bool) → first x.rows ≡ Some (waits r) → cond b (Some (made p x.fd (Done r) (changed p w x.marks))) None ≡ Some s → Way p w x s
    wait r true i j = is_marked r i (some-is _ _ j)
    wait r false i j = absurd (none-is s j)

    go : (r : Option Refusal) → first x.rows ≡ r → step_by p w x r ≡ Some s → Way p w x s
    go None i j = takes i (some-is _ _ j)
    go (Some loses) i j = loses_all x.lost_number i (some-is _ _ j)
    go (Some (answers r)) i j = is_refused r i (some-is _ _ j)
    go (Some (waits r)) i j = wait r x.nonblock i j

-- a reply that denies
abbrev pub is_denial : Reply → Bool
is_denial (reply.Refused e) = true
is_denial (reply.Look e) = true
is_denial other = false

abbrev pub is_denying : Refusal → Bool
is_denying (answers r) = is_denial r
is_denying (waits r) = is_denial r
is_denying loses = true

abbrev pub all_deny : List Row → Bool
all_deny rows = list_all (λ row. is_denying row.refusal) rows

pub first-denies : (rows : List Row) (r : Refusal) → all_deny rows ≡ true → first rows ≡ Some r → is_denying r ≡ true
first-denies [] r a h = absurd (none-is r h)
first-denies (row ∷ rows) r a h = go row.holds (is_denying row.refusal) refl a h (first-denies rows r)
  where
    go : (b d : Bool) → is_denying row.refusal ≡ d → (d && all_deny rows) ≡ true → cond b (Some row.refusal) (first rows) ≡ Some r → (all_deny rows ≡ true → first rows ≡ Some r → is_denying r ≡ true) → is_denying r ≡ true
    go b false i a h k = absurd (false≢true a)
    go true true i a h k = ap is_denying (sym (some-is row.refusal r h)) ∙ i
    go false true i a h k = k a h

-- rows of which none loses what is returned
abbrev pub is_kept : Refusal → Bool
is_kept loses = false
is_kept other = true

abbrev pub all_kept : List Row → Bool
all_kept rows = list_all (λ row. is_kept row.refusal) rows

pub never-loses : (rows : List Row) → all_kept rows ≡ true → first rows ≡ Some loses → ⊥
never-loses [] a h = none-is loses h
never-loses (row ∷ rows) a h = go row.holds (is_kept row.refusal) refl a h (never-loses rows)
  where
    go : (b d : Bool) → is_kept row.refusal ≡ d → (d && all_kept rows) ≡ true → cond b (Some row.refusal) (first rows) ≡ Some loses → (all_kept rows ≡ true → first rows ≡ Some loses → ⊥) → ⊥
    go b false i a h k = false≢true a
    go true true i a h k = false≢true (ap is_kept (sym (some-is row.refusal loses h)) ∙ i)
    go false true i a h k = k a h

pub not-both : (b : Bool) → b ≡ false → b ≡ true → ⊥
not-both b h k = false≢true (sym h ∙ k)

pub flip : (x y : ℕ) → eqb x y ≡ false → eqb y x ≡ false
flip x y h = go (eqb y x) refl
  where
    go : (d : Bool) → eqb y x ≡ d → d ≡ false
    go false j = refl
    go true j = absurd (not-both (eqb x y) h (eq-eqb x y (sym (eqb-true y x j))))
