use Rattle.xti_gbn.specs.Ready.{start}
use Rattle.std.proofs.Common.{◌∙◌, ap}
use Rattle.xti_model.specs.declared.profile.Providers.{Providers}
use Rattle.xti_model.specs.World.{opening}
use Rattle.xti_core.specs.Standing.{Standing}
use Rattle.xti_gbn.proofs.datagrams.carrier.DatagramCarrier.new.Goals as goal

pub open_both-requires : goal.open_both-requires
unfolding start
open_both-requires c = c.in_ok-world.ensures ∙ ap (λ (p : Providers). let s : Standing = record { providers = p; cells = opening p } in s) c.usual.ensures.values
