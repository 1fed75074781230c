use Rattle.std.proofs.Common.{sym, ◌∙◌}
use Rattle.std.proofs.lemmas.Result.{on_ok_weaker}
use Rattle.xti_end.specs.Held.{parts}
use Rattle.xti_switch.proofs.Closing.{callers-told}
use Rattle.xti_switch.proofs.close.tell_others.Goals as goal

pub returns-then-asked-clause-ok : goal.returns-then-asked-clause-ok
returns-then-asked-clause-ok c =
    on_ok_weaker c.give_up_callers.result
    (callers-told c.args.lent.now c.give_up_callers.new.lent c.args.fd.0 (parts c.in-Some.e.now) (sym c.in-Some.ensures.endpoint) c.requires.fit (sym c.is_asked-asked.ensures ∙ c.if-asked.true))
    c.give_up_callers.ensures.ok
