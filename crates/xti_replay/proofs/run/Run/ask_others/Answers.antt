use Rattle.std.proofs.Common.{◌≡◌, ◌∙◌, ap, refl, arith, length, None, Some, ◌<◌, ◌≤◌, ◌++◌}
use Rattle.std.specs.Prelude.{Bool}
use Rattle.xti_replay.specs.Progress.{made_by}
use Rattle.xti_replay.proofs.Errors.{on_any_err}
use Rattle.xti_replay.proofs.OthersAsked.{asked-none, asks-others, next-asked, asked-next, asked-turn, asked-all, others-failed}
use Rattle.xti_replay.proofs.run.Run.ask_others.Goals as goal

pub loop-asked-init : goal.loop-asked-init
loop-asked-init c = (c.requires.none, λ past k through. asked-none past c.args.self.now (length c.args.self.now.turns.items) k refl, refl)

pub ask_first-requires-clause-asks : goal.ask_first-requires-clause-asks
ask_first-requires-clause-asks c =
    (c.requires.stands.0, asks-others c.requires.stands.0 c.args.self.now c.loop-asked.self (length c.args.self.now.turns.items) c.loop-asked._asked c.requires.stands.1 c.requires.stands.2 (c.loop-asked.invariant.1 c.requires.stands.0 c.requires.stands.1 c.requires.stands.2))

pub returns-then-branch-clause-goes_on : goal.returns-then-branch-clause-goes_on
returns-then-branch-clause-goes_on c = λ past k through.
    let lt : c.loop-asked._asked < length c.args.self.now.turns.items = omega arith in
    let a = c.loop-asked.invariant.1 past k through in
    let n = next-asked past c.args.self.now c.loop-asked.self (length c.args.self.now.turns.items) c.loop-asked._asked a lt in
    let e = c.ask_first.new.self.entry in
    let is : made_by c.in_ok-ask_first.field-0 e ≡ Some e = ap (λ (made : Bool). made_by made e) c.if-branch.true in
    asked-turn past c.args.self.now c.loop-asked.self c.ask_first.new.self (length c.args.self.now.turns.items) c.loop-asked._asked (made_by c.in_ok-ask_first.field-0 e) e k through a n
    (c.in_ok-ask_first.ensures.asked past n.number (n.rest ++ n.lasts) (asks-others past c.args.self.now c.loop-asked.self (length c.args.self.now.turns.items) c.loop-asked._asked k through a) n.items)
    c.ask_first.ensures.lines is

pub loop-asked-preserved : goal.loop-asked-preserved
loop-asked-preserved c =
    let none : made_by c.in_ok-ask_first.field-0 c.ask_first.new.self.entry ≡ None = ap (λ (made : Bool). made_by made c.ask_first.new.self.entry) c.if-branch.false in (
      c.in_ok-ask_first.ensures.left c.if-branch.false,
      λ past k through.
          let lt : c.loop-asked._asked < length c.args.self.now.turns.items = omega arith in
          let a = c.loop-asked.invariant.1 past k through in
          let n = next-asked past c.args.self.now c.loop-asked.self (length c.args.self.now.turns.items) c.loop-asked._asked a lt in
          asked-next past c.args.self.now c.loop-asked.self c.ask_first.new.self (length c.args.self.now.turns.items) c.loop-asked._asked (made_by c.in_ok-ask_first.field-0 c.ask_first.new.self.entry) a n
          (c.in_ok-ask_first.ensures.asked past n.number (n.rest ++ n.lasts) (asks-others past c.args.self.now c.loop-asked.self (length c.args.self.now.turns.items) c.loop-asked._asked k through a) n.items)
          c.ask_first.ensures.lines none,
      c.ask_first.ensures.made ∙ c.loop-asked.invariant.2,
    )

pub returns-clause-goes_on : goal.returns-clause-goes_on
returns-clause-goes_on c = λ past k through.
    let le : length c.args.self.now.turns.items ≤ c.loop-asked._asked = omega arith in
    asked-all past c.args.self.now c.loop-asked.self (length c.args.self.now.turns.items) c.loop-asked._asked k through (c.loop-asked.invariant.1 past k through) le

pub returns-in_err-ask_first-clause-err : goal.returns-in_err-ask_first-clause-err
returns-in_err-ask_first-clause-err c = on_any_err c.from_residual.result (λ past k through.
    let lt : c.loop-asked._asked < length c.args.self.now.turns.items = omega arith in
    let a = c.loop-asked.invariant.1 past k through in
    let n = next-asked past c.args.self.now c.loop-asked.self (length c.args.self.now.turns.items) c.loop-asked._asked a lt in
    others-failed past c.args.self.now c.loop-asked.self c.ask_first.new.self (length c.args.self.now.turns.items) c.loop-asked._asked through a n
    (c.in_err-ask_first.ensures.err past n.number (n.rest ++ n.lasts) (asks-others past c.args.self.now c.loop-asked.self (length c.args.self.now.turns.items) c.loop-asked._asked k through a) n.items))
