use Rattle.std.proofs.Common.{List, [], ◌∷◌, ◌++◌}
use Rattle.xti_model.specs.Calls.Listen.{taken_out}
use Rattle.xti_model.specs.World.{Change, at_endpoint}
use Rattle.xti_end.specs.Frames.{confirmation_in}
use Rattle.xti_lent.proofs.Sequences.{changed-then, same-then}
use Rattle.xti_switch.specs.Accepts.{giving_if, responding_to, accepted_by}
use Rattle.xti_switch.proofs.accept.link.Goals as goal

pub returns-clause-ok : goal.returns-clause-ok
returns-clause-ok c =
    changed-then c.args.lent.now c.take_out.new.lent c.confirm.new.lent (taken ∷ []) (given ++ responds ∷ confirms ∷ [])
    (same-then c.args.lent.now c.reserve.new.lent c.take_out.new.lent c.in-Ok.ensures.kept c.take_out.ensures.kept)
    (changed-then c.args.lent.now c.reserve.new.lent c.take_out.new.lent [] (taken ∷ []) c.in-Ok.ensures.kept c.in-Ok.ensures.cells c.take_out.ensures.changed)
    (changed-then c.take_out.new.lent c.give.new.lent c.confirm.new.lent given (responds ∷ confirms ∷ []) c.give.ensures.kept c.give.ensures.changed
    (changed-then c.give.new.lent c.respond.new.lent c.confirm.new.lent (responds ∷ []) (confirms ∷ []) c.respond.ensures.kept c.respond.ensures.changed c.confirm.ensures.changed))
  where
    taken : Change
    taken = at_endpoint c.args.fd.0 (taken_out c.args.seq.0)

    given : List Change
    given = giving_if c.args.resfd.0 c.args.acceptance.given

    responds : Change
    responds = at_endpoint c.args.resfd.0 (responding_to c.args.acceptance.caller.0 c.args.acceptance.source)

    confirms : Change
    confirms = at_endpoint c.args.acceptance.caller.0 (accepted_by c.args.resfd.0 c.args.acceptance.address (confirmation_in c.args.acceptance.confirmation))
