-- A script that has a text can be played.
use Rattle.std.proofs.Common.{◌≡◌, ℕ, true, ltb, List, [], ◌∷◌, refl, arith}
use Rattle.std.specs.Prelude.{nat_le}
use Rattle.std.specs.List.{list_all}
use Rattle.std.proofs.lemmas.Bool.{and_parts}
use Rattle.std.proofs.lemmas.Bool.Decides.{nat_tests}
use Rattle.xti_model.specs.declared.script.Line.{Line}
use Rattle.xti_replay.specs.Playable.{are_playable}

below : (n : ℕ) → nat_le n 32 ≡ true → ltb n 33 ≡ true
below n h = grind (arith, nat_tests)

pub lines-playable : (lines : List Line) → list_all (λ line. nat_le line.worker 32) lines ≡ true → are_playable lines ≡ true
lines-playable [] workers = refl
lines-playable (line ∷ lines) workers =
    let w = and_parts (nat_le line.worker 32) (list_all (λ line. nat_le line.worker 32) lines) workers in
    rw (below line.worker w.0, lines-playable lines w.1) refl
