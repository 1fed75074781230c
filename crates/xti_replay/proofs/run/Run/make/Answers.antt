use Rattle.std.proofs.Common.{refl, sym, inl, ◌∙◌}
use Rattle.std.proofs.lemmas.Result.{IfOk-weaker, on_err_weaker}
use Rattle.xti_replay.specs.Progress.{made_by}
use Rattle.xti_replay.proofs.SetupAsked.{first-through, setup-asked, setup-failed}
use Rattle.xti_replay.proofs.run.Run.make.Goals as goal

pub ask_others-requires-clause-stands : goal.ask_others-requires-clause-stands
ask_others-requires-clause-stands c =
    (c.requires.stands.0, c.requires.stands.1, sym (first-through c.requires.stands.0 c.args.self.now c.index.result.now c.requires.stands.1 c.index.ensures) ∙ sym c.is_finished.ensures ∙ c.if-is_finished.true)

pub returns-then-is_finished-clause-goes_on : goal.returns-then-is_finished-clause-goes_on
returns-then-is_finished-clause-goes_on c = IfOk-weaker c.ask_others.result _ _ (λ made goes past k.
    goes past k (sym (first-through past c.args.self.now c.index.result.now k c.index.ensures) ∙ sym c.is_finished.ensures ∙ c.if-is_finished.true)) c.ask_others.ensures.goes_on

pub returns-clause-goes_on : goal.returns-clause-goes_on
returns-clause-goes_on c = IfOk-weaker c.ask.result _ _ (λ made asked past k.
    setup-asked past c.args.self.now (record { alloc = c.args.self.now.alloc; lines = c.args.self.now.lines; world = c.ask.new.world; workers = c.ask.new.workers; turns = c.args.self.now.turns; entry = c.ask.new.entry; made = c.args.self.now.made }) (made_by made c.ask.new.entry) k
    (sym (first-through past c.args.self.now c.index.result.now k c.index.ensures) ∙ sym c.is_finished.ensures ∙ c.if-is_finished.false)
    (asked past k.kept (inl refl)) refl refl) c.ask.ensures.asked

pub returns-then-is_finished-clause-err : goal.returns-then-is_finished-clause-err
returns-then-is_finished-clause-err c = on_err_weaker c.ask_others.result (λ fails past k.
    fails past k (sym (first-through past c.args.self.now c.index.result.now k c.index.ensures) ∙ sym c.is_finished.ensures ∙ c.if-is_finished.true)) c.ask_others.ensures.err

pub returns-clause-err : goal.returns-clause-err
returns-clause-err c = on_err_weaker c.ask.result (λ fails past k.
    setup-failed past c.args.self.now (record { alloc = c.args.self.now.alloc; lines = c.args.self.now.lines; world = c.ask.new.world; workers = c.ask.new.workers; turns = c.args.self.now.turns; entry = c.ask.new.entry; made = c.args.self.now.made }) k
    (sym (first-through past c.args.self.now c.index.result.now k c.index.ensures) ∙ sym c.is_finished.ensures ∙ c.if-is_finished.false)
    (fails past k.kept (inl refl))) c.ask.ensures.err
