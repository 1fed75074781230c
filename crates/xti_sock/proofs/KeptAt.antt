-- What each kind of change keeps of a cell holds of the cell with a number after any entries.
use Rattle.std.proofs.Common.{ℕ, Bool, true, false, List, [], ◌∷◌, ◌++◌, Option, Some, None, ◌≡◌, refl, sym, subst, eqb, cond}
use Rattle.std.proofs.lemmas.Bool.{eqb-true}
use Rattle.std.specs.Prelude.{option_map, option_and_then}
use Rattle.xti_model.specs.declared.call.Call.{Call}
use Rattle.xti_model.specs.declared.entry.Go.{Go}
use Rattle.xti_model.specs.declared.entry.Entry.{Entry}
use Rattle.xti_model.specs.declared.entry.Outcome.TheVariants.{Done}
use Rattle.xti_model.specs.declared.profile.Providers.{Providers}
use Rattle.xti_model.specs.World.{World, Cell, Numbered, Change, cell_at, cell_number, new_cell, change, changed}
use Rattle.xti_model.specs.Plan.{Plan, Refusal, answers, waits, loses, first}
use Rattle.xti_model.specs.Step.{plan, step, step_by, made}
use Rattle.xti_model.specs.History.{after_from, step_at, step_going, doing, left_by, Going}
use Rattle.xti_laws.specs.Laws.{Keeps}
use Rattle.xti_laws.specs.Updates.{Kind, AllKinds, PlanKinds}
use Rattle.xti_laws.proofs.ChangedEndpoints.{recell, cell_at-same, cell_at-other}

-- it holds of the cell, if that is there
abbrev pub IfThere : (Cell → Type 0) → Option Numbered → Type 0
IfThere P None = Unit {0}
IfThere P (Some c) = P c.cell

abbrev pub HoldsAt : (Cell → Type 0) → ℕ → World → Type 0
HoldsAt P n w = IfThere P (cell_at w n)

recelled : (P : Cell → Type 0) (f : Cell → Cell) → ((x : Cell) → P x → P (f x)) → (o : Option Numbered) → IfThere P o → IfThere P (option_map (recell f) o)
recelled P f k None h = h
recelled P f k (Some c) h = k c.cell h

-- so the law of all calls says of plans
abbrev pub OfKinds : Type 0
OfKinds = (p : Providers) (w : World) (c : Call) (g : Go) → PlanKinds (plan p w c g)

module _ (p : Providers) (P : Cell → Type 0) (n : ℕ) (k : Keeps p P) (kinds : OfKinds) where
  change-at : (c : Change) → Kind c → (w : World) → HoldsAt P n w → HoldsAt P n (change (cell_number p c) (new_cell p c) w)
  change-at c d w h = go (eqb n (cell_number p c)) refl
    where
      go : (b : Bool) → eqb n (cell_number p c) ≡ b → HoldsAt P n (change (cell_number p c) (new_cell p c) w)
      go true i =
          let e = eqb-true n (cell_number p c) i in
          subst (λ m. IfThere P (cell_at (change (cell_number p c) (new_cell p c) w) m)) (sym e)
          (subst (IfThere P) (sym (cell_at-same (cell_number p c) (new_cell p c) w))
          (recelled P (new_cell p c) (k c d) (cell_at w (cell_number p c)) (subst (λ m. IfThere P (cell_at w m)) e h)))
      go false i = subst (IfThere P) (sym (cell_at-other (cell_number p c) n i (new_cell p c) w)) h

  changed-at : (cs : List Change) → AllKinds cs → (w : World) → HoldsAt P n w → HoldsAt P n (changed p w cs)
  changed-at [] d w h = h
  changed-at (c ∷ cs) d w h = changed-at cs d.1 (change (cell_number p c) (new_cell p c) w) (change-at c d.0 w h)

  step_by-at : (w : World) (x : Plan) → PlanKinds x → HoldsAt P n w → (r : Option Refusal) → HoldsAt P n (left_by w (step_by p w x r))
  step_by-at w x d h None = changed-at x.changes d.0 w h
  step_by-at w x d h (Some (answers reply)) = h
  step_by-at w x d h (Some (waits reply)) = go x.nonblock
    where
      go : (b : Bool) → HoldsAt P n (left_by w (cond b (Some (made p x.fd (Done reply) (changed p w x.marks))) None))
      go true = changed-at x.marks d.1 w h
      go false = h
  step_by-at w x d h (Some loses) = changed-at x.lost d.2 w h

  step-at : (w : World) (c : Call) (g : Go) → HoldsAt P n w → HoldsAt P n (left_by w (step p w c g))
  unfolding step
  step-at w c g h = step_by-at w (plan p w c g) (kinds p w c g) h (first (plan p w c g).rows)

  going-at : (w : World) (o : Option Going) → HoldsAt P n w → HoldsAt P n (left_by w (option_and_then (step_going p w) o))
  going-at w None h = h
  going-at w (Some g) h = step-at w g.call g.so_far h

  pub after-at : (w : World) (past es : List Entry) → HoldsAt P n w → HoldsAt P n (after_from p w past es)
  after-at w past [] h = h
  after-at w past (e ∷ es) h = after-at (left_by w (step_at p w past e)) (past ++ e ∷ []) es (going-at w (doing past e) h)
