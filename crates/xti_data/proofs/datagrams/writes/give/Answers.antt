use Rattle.std.proofs.Common.{◌∙◌, ◌≡◌, sym, subst, true, None, [], ◌∷◌}
use Rattle.std.specs.Prelude.{is_some}
use Rattle.xti_model.specs.declared.profile.Providers.{Providers}
use Rattle.xti_model.specs.Calls.Datagrams.{mark_flow, with_datagram}
use Rattle.xti_model.specs.World.{at_endpoint, place_of}
use Rattle.xti_end.specs.Frames.{datagram_in}
use Rattle.xti_lent.specs.Lending.{held_at}
use Rattle.xti_lent.proofs.Sequences.{changed-then}
use Rattle.xti_lent.proofs.Written.{still-held}
use Rattle.xti_data.proofs.datagrams.writes.give.Goals as goal

pub mark_flow-requires-clause-there : goal.mark_flow-requires-clause-there
mark_flow-requires-clause-there c =
    subst (λ (q : Providers). is_some (held_at c.push_datagram.new.lent (place_of q c.args.fd.0)) ≡ true) (sym c.push_datagram.ensures.kept.providers)
    (still-held c.args.lent.now c.push_datagram.new.lent (place_of c.args.lent.now.providers c.args.fd.0) c.push_datagram.ensures.kept ∙ c.requires.sender)

pub returns-clause-ok : goal.returns-clause-ok
returns-clause-ok c = changed-then c.args.lent.now c.push_datagram.new.lent c.mark_flow.new.lent (at_endpoint c.args.to.0 (with_datagram (datagram_in c.args.frame)) ∷ []) (at_endpoint c.args.fd.0 (mark_flow None) ∷ []) c.push_datagram.ensures.kept c.in_ok-push_datagram.ensures.ok c.mark_flow.ensures.cells
