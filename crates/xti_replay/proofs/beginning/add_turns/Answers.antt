use Rattle.std.proofs.Common.{◌≡◌, ◌++◌, ◌∷◌, ◌<◌, ◌≤◌, ◌-◌, ℕ, List, [], Bool, true, false, length, arith, sym, subst, ap, refl, ◌∙◌}
use Rattle.std.specs.Prelude.{if◌then◌else◌}
use Rattle.std.proofs.lemmas.List.{append-nil, append_assoc}
use Rattle.xti_model.specs.Robin.{numbers}
use Rattle.xti_replay.specs.Progress.{is_finished}
use Rattle.xti_replay.specs.Turns.{LeavesOutFinished}
use Rattle.xti_replay.proofs.Fresh.{leaves-more}
use Rattle.xti_replay.proofs.beginning.add_turns.Goals as goal

put : (b : Bool) (all old more : List ℕ) (k : ℕ) → all ≡ old ++ more → (if b then all else all ++ k ∷ []) ≡ old ++ (more ++ (if b then [] else k ∷ []))
put true all old more k e = e ∙ ap (λ (l : List ℕ). old ++ l) (sym (append-nil more))
put false all old more k e = ap (λ (l : List ℕ). l ++ k ∷ []) e ∙ append_assoc old more (k ∷ [])

pub loop-number-init : goal.loop-number-init
loop-number-init c = λ lines past kept. ([], sym (append-nil c.args.turns.now.items), (let none : c.args.from - c.args.from ≡ 0 = omega arith in rw none refl))

pub loop-number-preserved : goal.loop-number-preserved
loop-number-preserved c = λ lines past kept.
    let i = c.loop-number.invariant lines past kept in
    let le : c.args.from ≤ c.loop-number.number = omega arith in
    let lt : c.loop-number.number < length c.args.workers.now = omega (arith, c.requires.to, c.loop-number-test.true) in (
      i.0 ++ (if is_finished c.index-workers-number.result then [] else c.loop-number.number ∷ []),
      c.in_ok-put_back.ensures ∙ put (is_finished c.index-workers-number.result) c.loop-number.turns.items c.args.turns.now.items i.0 c.loop-number.number i.1,
      leaves-more lines past c.args.workers.now c.args.from c.loop-number.number i.0 c.index-workers-number.result kept le lt c.index-workers-number.is i.2,
    )

pub returns : goal.returns
returns c = λ lines past kept.
    let i = c.loop-number.invariant lines past kept in
    let end : c.loop-number.number ≡ c.args.to = omega (arith, c.requires.from, c.loop-number-test.false) in
    (i.0, i.1, subst (λ (n : ℕ). LeavesOutFinished lines past (numbers c.args.from (n - c.args.from)) i.0) end i.2)
