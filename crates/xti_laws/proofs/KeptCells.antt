-- What each kind of change keeps of a cell holds of every cell after any entries.
use Rattle.std.proofs.Common.{Bool, true, false, List, [], ◌∷◌, ◌++◌, Option, Some, None, eqb, cond}
use Rattle.std.specs.Prelude.{option_and_then}
use Rattle.xti_model.specs.declared.call.Call.{Call}
use Rattle.xti_model.specs.declared.entry.Go.{Go}
use Rattle.xti_model.specs.declared.entry.Entry.{Entry}
use Rattle.xti_model.specs.declared.entry.Outcome.TheVariants.{Done}
use Rattle.xti_model.specs.declared.profile.Providers.{Providers}
use Rattle.xti_model.specs.World.{World, Cell, Change, cell_number, new_cell, change, changed}
use Rattle.xti_model.specs.Plan.{Plan, Refusal, answers, waits, loses, first}
use Rattle.xti_model.specs.Step.{plan, step, step_by, made}
use Rattle.xti_model.specs.History.{after_from, step_at, step_going, doing, left_by, Going}
use Rattle.xti_laws.proofs.ChangeKinds.{plan-kinds}
use Rattle.xti_laws.specs.Laws.{AllCells, Keeps}
use Rattle.xti_laws.specs.Updates.{Kind, AllKinds, PlanKinds}

change-kept : (p : Providers) (P : Cell → Type 0) → Keeps p P → (c : Change) → Kind c → (w : World) → AllCells P w → AllCells P (change (cell_number p c) (new_cell p c) w)
change-kept p P k c d [] h = tt
change-kept p P k c d (x ∷ w) h = (go (eqb x.number (cell_number p c)), change-kept p P k c d w h.1)
  where
    go : (b : Bool) → P (cond b (record x { cell = new_cell p c x.cell }) x).cell
    go true = k c d x.cell h.0
    go false = h.0

changed-kept : (p : Providers) (P : Cell → Type 0) → Keeps p P → (cs : List Change) → AllKinds cs → (w : World) → AllCells P w → AllCells P (changed p w cs)
changed-kept p P k [] d w h = h
changed-kept p P k (c ∷ cs) d w h = changed-kept p P k cs d.1 (change (cell_number p c) (new_cell p c) w) (change-kept p P k c d.0 w h)

step_by-kept : (p : Providers) (P : Cell → Type 0) → Keeps p P → (w : World) (x : Plan) → PlanKinds x → AllCells P w → (r : Option Refusal) → AllCells P (left_by w (step_by p w x r))
step_by-kept p P k w x d h None = changed-kept p P k x.changes d.0 w h
step_by-kept p P k w x d h (Some (answers reply)) = h
step_by-kept p P k w x d h (Some (waits reply)) = go x.nonblock
  where
    go : (b : Bool) → AllCells P (left_by w (cond b (Some (made p x.fd (Done reply) (changed p w x.marks))) None))
    go true = changed-kept p P k x.marks d.1 w h
    go false = h
step_by-kept p P k w x d h (Some loses) = changed-kept p P k x.lost d.2 w h

pub step-kept : (p : Providers) (P : Cell → Type 0) → Keeps p P → (w : World) (c : Call) (g : Go) → AllCells P w → AllCells P (left_by w (step p w c g))
unfolding step
step-kept p P k w c g h = step_by-kept p P k w (plan p w c g) (plan-kinds p w c g) h (first (plan p w c g).rows)

going-kept : (p : Providers) (P : Cell → Type 0) → Keeps p P → (w : World) (o : Option Going) → AllCells P w → AllCells P (left_by w (option_and_then (step_going p w) o))
going-kept p P k w None h = h
going-kept p P k w (Some g) h = step-kept p P k w g.call g.so_far h

pub after_from-kept : (p : Providers) (P : Cell → Type 0) → Keeps p P → (w : World) (past es : List Entry) → AllCells P w → AllCells P (after_from p w past es)
after_from-kept p P k w past [] h = h
after_from-kept p P k w past (e ∷ es) h = after_from-kept p P k (left_by w (step_at p w past e)) (past ++ e ∷ []) es (going-kept p P k w (doing past e) h)
