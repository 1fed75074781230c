use Rattle.std.proofs.Common.{refl, sym, inr, subst, ◌∙◌}
use Rattle.std.specs.List.{AllByRecursion}
use Rattle.std.proofs.lemmas.Result.{IfOk-from_err}
use Rattle.xti_model.specs.Robin.{turn}
use Rattle.xti_replay.specs.Progress.{made_by}
use Rattle.xti_replay.proofs.Errors.{on_any_err}
use Rattle.xti_replay.proofs.OthersAsked.{IsOther, has-asked, first-failed, first-lost}
use Rattle.xti_replay.proofs.run.Run.ask_first.Goals as goal

pub returns-clause-asked : goal.returns-clause-asked
returns-clause-asked c = λ past number rest k items.
    has-asked past c.in-Some.number number c.pop_front.new.self.items rest c.args.self.now
    (record { alloc = c.args.self.now.alloc; lines = c.args.self.now.lines; world = c.ask.new.world; workers = c.ask.new.workers; turns = c.put_back.new.turns; entry = c.ask.new.entry; made = c.args.self.now.made }) (made_by c.in_ok-made.made c.ask.new.entry)
    (turn c.args.self.now.world.providers c.args.self.now.lines.now c.args.self.now.world.cells past) c.index.result.now (sym items ∙ c.in-Some.ensures.items) (subst (AllByRecursion IsOther) items k.within).0.1
    (c.in_ok-made.ensures.asked past k.kept (inr k.through)) c.index.ensures c.in_ok-put_back.ensures

pub returns-in_err-made-clause-err : goal.returns-in_err-made-clause-err
returns-in_err-made-clause-err c = on_any_err c.from_residual.result (λ past number rest k items.
    first-failed past c.in-Some.number number c.pop_front.new.self.items rest c.args.self.now
    (record { alloc = c.args.self.now.alloc; lines = c.args.self.now.lines; world = c.ask.new.world; workers = c.ask.new.workers; turns = c.pop_front.new.self; entry = c.ask.new.entry; made = c.args.self.now.made })
    (turn c.args.self.now.world.providers c.args.self.now.lines.now c.args.self.now.world.cells past) (sym items ∙ c.in-Some.ensures.items) k.kept (c.in_err-made.ensures.err past k.kept (inr k.through)))

pub returns-in_err-put_back-clause-err : goal.returns-in_err-put_back-clause-err
returns-in_err-put_back-clause-err c = on_any_err c.from_residual-in_err-put_back.result (λ past number rest k items.
    first-lost past c.in-Some.number number c.pop_front.new.self.items rest c.args.self.now
    (record { alloc = c.args.self.now.alloc; lines = c.args.self.now.lines; world = c.ask.new.world; workers = c.ask.new.workers; turns = c.put_back.new.turns; entry = c.ask.new.entry; made = c.args.self.now.made }) (made_by c.in_ok-made.made c.ask.new.entry)
    (turn c.args.self.now.world.providers c.args.self.now.lines.now c.args.self.now.world.cells past) (sym items ∙ c.in-Some.ensures.items) (c.in_ok-made.ensures.asked past k.kept (inr k.through)))

pub ask-requires-clause-kept : goal.ask-requires-clause-kept
ask-requires-clause-kept c = (c.requires.asks.0, c.requires.asks.1.kept, inr c.requires.asks.1.through)

pub ask-requires-clause-number : goal.ask-requires-clause-number
ask-requires-clause-number c = (subst (AllByRecursion IsOther) c.in-Some.ensures.items c.requires.asks.1.within).0.1

pub ask-requires-clause-none : goal.ask-requires-clause-none
ask-requires-clause-none c = c.requires.none

pub returns-in_err-made-clause-asked : goal.returns-in_err-made-clause-asked
returns-in_err-made-clause-asked c = IfOk-from_err _ _ c.from_residual.ensures.0

pub returns-in_err-made-clause-left : goal.returns-in_err-made-clause-left
returns-in_err-made-clause-left c = IfOk-from_err _ _ c.from_residual.ensures.0

pub returns-in_err-made-clause-providers : goal.returns-in_err-made-clause-providers
returns-in_err-made-clause-providers c = c.in_err-made.ensures.providers

pub returns-in_err-made-clause-lines : goal.returns-in_err-made-clause-lines
returns-in_err-made-clause-lines c = refl

pub returns-in_err-put_back-clause-asked : goal.returns-in_err-put_back-clause-asked
returns-in_err-put_back-clause-asked c = IfOk-from_err _ _ c.from_residual-in_err-put_back.ensures.0

pub returns-in_err-put_back-clause-left : goal.returns-in_err-put_back-clause-left
returns-in_err-put_back-clause-left c = IfOk-from_err _ _ c.from_residual-in_err-put_back.ensures.0

pub returns-in_err-put_back-clause-providers : goal.returns-in_err-put_back-clause-providers
returns-in_err-put_back-clause-providers c = c.in_ok-made.ensures.providers

pub returns-in_err-put_back-clause-lines : goal.returns-in_err-put_back-clause-lines
returns-in_err-put_back-clause-lines c = refl

pub returns-clause-left : goal.returns-clause-left
returns-clause-left c = c.in_ok-made.ensures.left

pub returns-clause-providers : goal.returns-clause-providers
returns-clause-providers c = c.in_ok-made.ensures.providers

pub returns-clause-lines : goal.returns-clause-lines
returns-clause-lines c = refl
