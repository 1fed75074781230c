-- What a step tells: the answer of a row that refuses, or the call's outcome where none does.
use Rattle.std.proofs.Common.{ℕ, Bool, true, false, List, [], ◌∷◌, ◌≡◌, refl, sym, subst, cond, map, Option, Some, None}
use Rattle.xti_base.specs.declared.errno.Errno.TheVariants.{TBADF}
use Rattle.xti_model.specs.declared.entry.Outcome.{Outcome}
use Rattle.xti_model.specs.declared.entry.Outcome.TheVariants.{Done}
use Rattle.xti_model.specs.declared.entry.Reply.{Reply}
use Rattle.xti_model.specs.declared.entry.Reply.TheVariants.{Refused, Sent, Overflow}
use Rattle.xti_model.specs.declared.profile.Providers.{Providers}
use Rattle.xti_model.specs.Endpoint.{Endpoint}
use Rattle.xti_model.specs.World.{World, changed}
use Rattle.xti_model.specs.Plan.{Plan, Row, Refusal, answers, waits, loses, first, if_open, later, later_row}
use Rattle.xti_model.specs.Step.{Step, step_of, step_by, made}
use Rattle.xti_laws.proofs.StepWays.{none-is, is_denial, all_deny, first-denies}

abbrev pub StepTells : (Outcome → Type 0) → Option Step → Type 0
StepTells O None = Unit {0}
StepTells O (Some s) = O s.outcome

abbrev pub RefusalTells : (Outcome → Type 0) → Option Refusal → Type 0
RefusalTells O None = Unit {0}
RefusalTells O (Some (answers reply)) = O (Done reply)
RefusalTells O (Some (waits reply)) = O (Done reply)
RefusalTells O (Some loses) = Unit {0}

-- what holds of every outcome of a plan
pub record Tells (O : Outcome → Type 0) (x : Plan) : Type 0 where
  pub refused : RefusalTells O (first x.rows)
  pub done : first x.rows ≡ None → O x.outcome

pub step-told : (O : Outcome → Type 0) (p : Providers) (w : World) (x : Plan) → O (Done (Overflow (record { 0 = x.lost_number }))) → RefusalTells O (first x.rows) → (first x.rows ≡ None → O x.outcome) → StepTells O (step_of p w x)
step-told O p w x lost refused done = go (first x.rows) refl refused
  where
    wait : (reply : Reply) (b : Bool) → O (Done reply) → StepTells O (cond b (Some (made p x.fd (Done reply) (changed p w x.marks))) None)
    wait reply true k = k
    wait reply false k = tt

    go : (r : Option Refusal) → first x.rows ≡ r → RefusalTells O r → StepTells O (step_by p w x r)
    go None i k = done i
    go (Some loses) i k = lost
    go (Some (answers reply)) i k = k
    go (Some (waits reply)) i k = wait reply x.nonblock k

pub step-tells : (O : Outcome → Type 0) → ((n : _) → O (Done (Overflow n))) → (p : Providers) (w : World) (x : Plan) → Tells O x → StepTells O (step_of p w x)
step-tells O lost p w x t = step-told O p w x (lost _) t.refused t.done

-- rows whose answers deny
pub denied : (O : Outcome → Type 0) → ((r : Reply) → is_denial r ≡ true → O (Done r)) → (rows : List Row) → all_deny rows ≡ true → RefusalTells O (first rows)
denied O k rows a = go (first rows) refl
  where
    go : (r : Option Refusal) → first rows ≡ r → RefusalTells O r
    go None i = tt
    go (Some loses) i = tt
    go (Some (answers reply)) i = k reply (first-denies rows (answers reply) a i)
    go (Some (waits reply)) i = k reply (first-denies rows (waits reply) a i)

-- the rows of a later step of a send
pub later-told : (O : Outcome → Type 0) (n : ℕ) → O (Done (Sent n)) → (rows : List Row) → RefusalTells O (first (map (later_row n) rows))
later-told O n k [] = tt
later-told O n k (row ∷ rows) = go row.holds row.refusal (later-told O n k rows)
  where
    go : (b : Bool) (r : Refusal) → RefusalTells O (first (map (later_row n) rows)) → RefusalTells O (cond b (Some (later n r)) (first (map (later_row n) rows)))
    go true (answers y) h = k
    go true (waits y) h = k
    go true loses h = tt
    go false r h = h

pub later-none : (n : ℕ) (rows : List Row) → first (map (later_row n) rows) ≡ None → first rows ≡ None
later-none n [] h = refl
later-none n (row ∷ rows) h = go row.holds h (later-none n rows)
  where
    go : (b : Bool) → cond b (Some (later n row.refusal)) (first (map (later_row n) rows)) ≡ None → (first (map (later_row n) rows) ≡ None → first rows ≡ None) → cond b (Some row.refusal) (first rows) ≡ None
    go true i k = absurd (none-is _ (sym i))
    go false i k = k i

-- no row holds
abbrev pub Clear : List Row → Type 0
Clear [] = Unit {0}
Clear (row ∷ rows) = (row.holds ≡ false) × Clear rows

pub clear : (rows : List Row) → first rows ≡ None → Clear rows
clear [] h = tt
clear (row ∷ rows) h = go row.holds h (clear rows)
  where
    go : (b : Bool) → cond b (Some row.refusal) (first rows) ≡ None → (first rows ≡ None → Clear rows) → (b ≡ false) × Clear rows
    go true i k = absurd (none-is _ (sym i))
    go false i k = (refl, k i)

-- a call on a descriptor
pub open-tells : (O : Outcome → Type 0) (fd : ℕ) (o : Option Endpoint) (f : Endpoint → Plan) → O (Done (Refused TBADF)) → ((e : Endpoint) → o ≡ Some e → Tells O (f e)) → Tells O (if_open fd o f)
open-tells O fd None f k h = record { refused = k; done = λ i. k }
open-tells O fd (Some e) f k h = h e refl

pub told : (O : Outcome → Type 0) (o : Option Step) (s : Step) → StepTells O o → o ≡ Some s → O s.outcome
told O o s t i = subst (StepTells O) i t
