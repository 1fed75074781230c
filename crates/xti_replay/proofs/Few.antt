-- A run makes no more steps than its script has lines and bytes of arguments.
use Rattle.std.proofs.Common.{◌≡◌, ℕ, zero, suc, ◌+◌, ◌<◌, ◌≤◌, List, [], ◌∷◌, ◌++◌, length, Option, Some, None, refl, inl, arith}
use Rattle.std.specs.Prelude.{IfSome}
use Rattle.std.proofs.lemmas.List.{length_push}
use Rattle.xti_model.specs.declared.entry.Entry.{Entry}
use Rattle.xti_model.specs.declared.script.Line.{Line}
use Rattle.xti_model.specs.declared.script.Script.{Script}
use Rattle.xti_model.specs.declared.profile.Providers.{Providers}
use Rattle.xti_model.specs.World.{World, opening}
use Rattle.xti_model.specs.Work.{script_bytes}
use Rattle.xti_model.specs.Robin.{Turn, next_turn, robin_from, robin, most_steps}
use Rattle.xti_model.proofs.Completing.{IsRun, all_work, turn-run, first-work}

few-step : (p : Providers) (lines : List Line) (n : ℕ) (past : List Entry) (o : Option Turn) → IfSome o (λ t. IsRun p lines t.world (past ++ t.entry ∷ []) × (all_work lines (past ++ t.entry ∷ []) < all_work lines past))
    → ((t : Turn) → IsRun p lines t.world (past ++ t.entry ∷ []) → length (robin_from p lines n t.world (past ++ t.entry ∷ [])) ≤ length (past ++ t.entry ∷ []) + all_work lines (past ++ t.entry ∷ []))
    → length (elim o as (λ _. List Entry) [ None ↦ past | Some t ↦ robin_from p lines n t.world (past ++ t.entry ∷ []) ]) ≤ length past + all_work lines past
few-step p lines n past None h later = omega arith
few-step p lines n past (Some t) h later =
    let one : length (past ++ t.entry ∷ []) ≡ length past + 1 = length_push past t.entry in
    let rest = later t h.0 in
    omega (arith, one, rest, h.1)

few : (p : Providers) (lines : List Line) (n : ℕ) (w : World) (past : List Entry) → IsRun p lines w past → length (robin_from p lines n w past) ≤ length past + all_work lines past
few p lines zero w past k = omega arith
few p lines (suc n) w past k = few-step p lines n past (next_turn p lines w past) (turn-run p lines w past k) (λ t r. few p lines n t.world (past ++ t.entry ∷ []) r)

pub robin-few : (s : Script) → length (robin s) ≤ length s.lines + script_bytes s.lines
robin-few s =
    let run : IsRun s.providers s.lines (opening s.providers) [] = record { legal = (tt, refl); possible = λ worker. tt; phase = inl refl; within = refl } in
    omega (arith, few s.providers s.lines most_steps (opening s.providers) [] run, first-work s.lines)
