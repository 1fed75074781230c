-- Worker 0 makes its calls first.
use Rattle.std.proofs.Common.{◌≡◌, ◌≢◌, ℕ, ◌<◌, ◌⊎◌, inl, inr, Bool, true, false, eqb, List, [], ◌∷◌, ◌++◌, get_or, Option, Some, None, refl, sym, ap, ◌∙◌, subst, arith}
use Rattle.std.specs.Prelude.{if◌then◌else◌}
use Rattle.std.proofs.lemmas.Bool.Decides.{eqb_tells}
use Rattle.xti_base.specs.declared.limits.TheConstants.{WORKERS}
use Rattle.xti_model.specs.declared.entry.Entry.{Entry}
use Rattle.xti_model.specs.declared.script.Line.{Line}
use Rattle.xti_model.specs.Robin.{is_through, last_worker, order_after, Turn, first_turn}
use Rattle.xti_replay.specs.declared.workers.Worker.{Worker}
use Rattle.xti_replay.specs.declared.run.Run.{Run}
use Rattle.xti_replay.specs.Progress.{IsKept, AreKept, Asked, is_finished}
use Rattle.xti_replay.specs.Asking.{HasGoneOn}
use Rattle.xti_replay.specs.Turns.{LeavesOutFinished, AreTurns}
use Rattle.xti_replay.specs.Runs.{StandsAfter, GoesOn, Remains}
use Rattle.xti_replay.proofs.Each.{at-worker}
use Rattle.xti_replay.proofs.Steps.{through-other}
use Rattle.xti_replay.proofs.Turns.{leaves-later}
use Rattle.xti_replay.proofs.OthersAsked.{finished-through, turn_in, next_in, last-push}

pub first-through : (past : List Entry) (r : Run) (w : Worker) → StandsAfter past r → w ≡ get_or r.workers.items 0 w → is_finished w ≡ is_through r.lines.now past 0
first-through past r w k at = finished-through r.lines.now past 0 w (at-worker (IsKept r.lines.now past) r.workers.items 0 w k.kept.each (omega (arith, k.kept.many)) at).told

next-first : (past : List Entry) (r : Run) → is_through r.lines.now past 0 ≡ false → next_in past r ≡ turn_in past r 0
next-first past r h = ap (λ (b : Bool). first_turn (turn_in past r) (if b then order_after (last_worker 0 past) else 0 ∷ [])) h ∙ by (turn_in past r 0)
  where
    by : (o : Option Turn) → ◌≡◌ {A = Option Turn} (elim o [ None ↦ None | Some t ↦ Some t ]) o
    by None = refl
    by (Some t) = refl

-- worker 0 was asked, and failed
pub setup-failed : (past : List Entry) (r s : Run) → StandsAfter past r → is_through r.lines.now past 0 ≡ false → ((s.world ≡ r.world) × (s.workers.items ≡ r.workers.items)) ⊎ HasGoneOn s.world (turn_in past r 0)
    → Remains past r s (next_in past r)
setup-failed past r s k through (inl h) = inl (h.0, subst (AreKept r.lines.now past) (sym h.1) k.kept)
setup-failed past r s k through (inr h) = inr (h.0, next-first past r through ∙ h.1, h.2)

pub setup-asked : (past : List Entry) (r s : Run) (entry : Option Entry) → StandsAfter past r → is_through r.lines.now past 0 ≡ false → Asked r.lines.now 0 past r.world s.world s.workers.items entry (turn_in past r 0) → s.lines.now ≡ r.lines.now → s.turns ≡ r.turns
    → GoesOn past r s entry (next_in past r)
setup-asked past r s entry k through a lines turns = subst (GoesOn past r s entry) (sym (next-first past r through)) (by (turn_in past r 0) a)
  where
    by : (o : Option Turn) → Asked r.lines.now 0 past r.world s.world s.workers.items entry o → GoesOn past r s entry o
    by None a = (
      a.0,
      a.1,
      record {
        kept = subst (λ (ls : List Line). AreKept ls past s.workers.items) (sym lines) a.2;
        turns = subst (λ (ls : List Line). AreTurns ls past s.turns.items) (sym lines) (rw turns k.turns);
        last = k.last;
        setup = λ f. k.setup through;
      },
    )
    by (Some t) a = (
      a.0,
      a.1,
      record {
        kept = subst (λ (ls : List Line). AreKept ls later s.workers.items) (sym lines) a.3;
        turns = subst (λ (ls : List Line). AreTurns ls later s.turns.items) (sym lines) (rw turns (subst (λ (w : ℕ). LeavesOutFinished r.lines.now later (order_after w) r.turns.items) (k.setup through ∙ sym last) (leaves-later r.lines.now past later (order_after (last_worker 0 past)) r.turns.items stays k.turns)));
        last = subst (λ (w : ℕ). w < WORKERS) (sym last) (omega arith);
        setup = λ f. last;
      },
    )
      where
        later : List Entry
        later = past ++ t.entry ∷ []

        last : last_worker 0 later ≡ 0
        last = last-push 0 past t.entry ∙ a.2

        stays : (j : ℕ) → is_through r.lines.now past j ≡ true → is_through r.lines.now later j ≡ true
        stays j th = other (eqb_tells j 0)
          where
            other : ((eqb j 0 ≡ true) × (j ≡ 0)) ⊎ ((eqb j 0 ≡ false) × (j ≢ 0)) → is_through r.lines.now later j ≡ true
            other (inl q) = absurd (let no : true ≡ false = sym (subst (λ (m : ℕ). is_through r.lines.now past m ≡ true) q.1 th) ∙ through in cc)
            other (inr q) = through-other r.lines.now past t.entry j (λ same. q.1 (sym same ∙ a.2)) ∙ th
