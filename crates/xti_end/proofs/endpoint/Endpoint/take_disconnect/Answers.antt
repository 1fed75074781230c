use Rattle.std.proofs.Common.{refl}
use Rattle.xti_end.proofs.Views.{disconnect-removed}
use Rattle.xti_end.proofs.endpoint.Endpoint.take_disconnect.Goals as goal

pub returns-clause-taken : goal.returns-clause-taken
returns-clause-taken c = rw (← c.self.view_is, c.remove.ensures.spare, disconnect-removed c.self.inside.body c.self.inside.waiting c.remove.new.self c.args.place c.remove.ensures.items) refl
