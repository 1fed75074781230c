use Rattle.std.proofs.Common.{◌∙◌, refl, sym, subst}
use Rattle.xti_base.specs.declared.kinds.Fd.{Fd}
use Rattle.xti_model.specs.Endpoint.{Indication, find_number, reset}
use Rattle.xti_end.specs.Frames.{disconnect_in}
use Rattle.xti_end.specs.Held.{Held, parts}
use Rattle.xti_switch.specs.Hearing.{HasRoom}
use Rattle.xti_switch.specs.declared.notices.News.TheVariants as news
use Rattle.xti_switch.proofs.Heard.{either-second, found-alike, given-up, listener-told, neither, not-told, open-added, open-with, peer-told, pending-dropped, rejected, told-of, unconcerned}
use Rattle.xti_lent.proofs.Returned.{open-as}
use Rattle.xti_switch.proofs.notices.hear.Goals as goal

pub is-requires : goal.is-requires
is-requires c = sym c.requires.place

pub returns-then-not-is : goal.returns-then-not-is
returns-then-not-is c = not-told c.args.p.now c.args.fd.0 c.args.news (disconnect_in c.args.frame) c.args.at.now (sym c.is.ensures ∙ c.if-not-is.true)

pub is_peer-requires : goal.is_peer-requires
is_peer-requires c = open-as c.args.p.now c.args.fd.0 c.args.at.now (sym c.is.ensures ∙ c.if-not-is.false)

pub reset-requires : goal.reset-requires
reset-requires c = open-as c.args.p.now c.args.fd.0 c.args.at.now (sym c.is.ensures ∙ c.if-not-is.false)

pub push_disconnect-requires-clause-open : goal.push_disconnect-requires-clause-open
push_disconnect-requires-clause-open c = open-with reset c.args.at.now c.reset.new.self c.reset.ensures (open-as c.args.p.now c.args.fd.0 c.args.at.now (sym c.is.ensures ∙ c.if-not-is.false))

pub push_disconnect-requires-clause-room : goal.push_disconnect-requires-clause-room
push_disconnect-requires-clause-room c = subst (λ (h : Held). HasRoom h) (sym c.reset.ensures) (c.requires.room (told-of c.args.p.now c.args.fd.0 c.args.at.now (sym c.is.ensures ∙ c.if-not-is.false) c.args.news (news.Broken c.in-Broken.by) c.in-Broken.is (sym c.is_peer.ensures ∙ c.if-is_peer.true)))

pub push_disconnect-requires-clause-kind : goal.push_disconnect-requires-clause-kind
push_disconnect-requires-clause-kind c = c.requires.kind

pub is_pending-requires : goal.is_pending-requires
is_pending-requires c = open-as c.args.p.now c.args.fd.0 c.args.at.now (sym c.is.ensures ∙ c.if-not-is.false)

pub drop_pending-requires : goal.drop_pending-requires
drop_pending-requires c = open-as c.args.p.now c.args.fd.0 c.args.at.now (sym c.is.ensures ∙ c.if-not-is.false)

pub caller-requires : goal.caller-requires
caller-requires c = open-as c.args.p.now c.args.fd.0 c.args.at.now (sym c.is.ensures ∙ c.if-not-is.false)

pub push_disconnect-requires-then-is_some-clause-open : goal.push_disconnect-requires-then-is_some-clause-open
push_disconnect-requires-then-is_some-clause-open c = open-as c.args.p.now c.args.fd.0 c.args.at.now (sym c.is.ensures ∙ c.if-not-is.false)

pub push_disconnect-requires-then-is_some-clause-room : goal.push_disconnect-requires-then-is_some-clause-room
push_disconnect-requires-then-is_some-clause-room c = c.requires.room (told-of c.args.p.now c.args.fd.0 c.args.at.now (sym c.is.ensures ∙ c.if-not-is.false) c.args.news (news.TakenBack c.in-TakenBack.number) c.in-TakenBack.is (either-second _ _ (sym c.is_pending.ensures ∙ c.if-is_pending.false) (sym (c.is_some.ensures ∙ found-alike (λ (fd : Fd). fd.0) (λ (i : Indication). i.caller) c.caller.result (find_number c.in-TakenBack.number.0 (parts c.args.at.now).outstanding) c.caller.ensures) ∙ c.if-is_some.true)))

pub push_disconnect-requires-then-is_some-clause-kind : goal.push_disconnect-requires-then-is_some-clause-kind
push_disconnect-requires-then-is_some-clause-kind c = c.requires.kind

pub asks-requires : goal.asks-requires
asks-requires c = open-as c.args.p.now c.args.fd.0 c.args.at.now (sym c.is.ensures ∙ c.if-not-is.false)

pub push_disconnect-requires-then-asks-clause-open : goal.push_disconnect-requires-then-asks-clause-open
push_disconnect-requires-then-asks-clause-open c = open-as c.args.p.now c.args.fd.0 c.args.at.now (sym c.is.ensures ∙ c.if-not-is.false)

pub push_disconnect-requires-then-asks-clause-room : goal.push_disconnect-requires-then-asks-clause-room
push_disconnect-requires-then-asks-clause-room c = c.requires.room (told-of c.args.p.now c.args.fd.0 c.args.at.now (sym c.is.ensures ∙ c.if-not-is.false) c.args.news (news.GivenUp c.in-GivenUp.listener c.in-GivenUp.number) c.in-GivenUp.is (sym c.asks.ensures ∙ c.if-asks.true))

pub push_disconnect-requires-then-asks-clause-kind : goal.push_disconnect-requires-then-asks-clause-kind
push_disconnect-requires-then-asks-clause-kind c = c.requires.kind

pub set_target-requires : goal.set_target-requires
set_target-requires c = open-added (disconnect_in c.args.frame) c.args.at.now c.push_disconnect-then-asks.new.self c.push_disconnect-then-asks.ensures.added (open-as c.args.p.now c.args.fd.0 c.args.at.now (sym c.is.ensures ∙ c.if-not-is.false))

pub push_disconnect-requires-in-Rejected-clause-open : goal.push_disconnect-requires-in-Rejected-clause-open
push_disconnect-requires-in-Rejected-clause-open c = open-as c.args.p.now c.args.fd.0 c.args.at.now (sym c.is.ensures ∙ c.if-not-is.false)

pub push_disconnect-requires-in-Rejected-clause-room : goal.push_disconnect-requires-in-Rejected-clause-room
push_disconnect-requires-in-Rejected-clause-room c = c.requires.room (told-of c.args.p.now c.args.fd.0 c.args.at.now (sym c.is.ensures ∙ c.if-not-is.false) c.args.news news.Rejected c.in-Rejected.is refl)

pub push_disconnect-requires-in-Rejected-clause-kind : goal.push_disconnect-requires-in-Rejected-clause-kind
push_disconnect-requires-in-Rejected-clause-kind c = c.requires.kind

pub set_target-requires-in-Rejected : goal.set_target-requires-in-Rejected
set_target-requires-in-Rejected c = open-added (disconnect_in c.args.frame) c.args.at.now c.push_disconnect-in-Rejected.new.self c.push_disconnect-in-Rejected.ensures.added (open-as c.args.p.now c.args.fd.0 c.args.at.now (sym c.is.ensures ∙ c.if-not-is.false))

pub returns-then-is_peer : goal.returns-then-is_peer
returns-then-is_peer c = peer-told c.args.p.now c.args.fd.0 c.args.at.now (sym c.is.ensures ∙ c.if-not-is.false) c.args.news (disconnect_in c.args.frame) c.in-Broken.by c.reset.new.self c.push_disconnect.new.self c.in-Broken.is (sym c.is_peer.ensures ∙ c.if-is_peer.true) c.reset.ensures c.push_disconnect.ensures.added

pub returns-else-is_peer : goal.returns-else-is_peer
returns-else-is_peer c = unconcerned c.args.p.now c.args.fd.0 c.args.at.now (sym c.is.ensures ∙ c.if-not-is.false) c.args.news (disconnect_in c.args.frame) (news.Broken c.in-Broken.by) c.in-Broken.is (sym c.is_peer.ensures ∙ c.if-is_peer.false)

pub returns-then-is_pending : goal.returns-then-is_pending
returns-then-is_pending c = pending-dropped c.args.p.now c.args.fd.0 c.args.at.now (sym c.is.ensures ∙ c.if-not-is.false) c.args.news (disconnect_in c.args.frame) c.in-TakenBack.number c.drop_pending.new.self c.in-TakenBack.is (sym c.is_pending.ensures ∙ c.if-is_pending.true) c.drop_pending.ensures

pub returns-then-is_some : goal.returns-then-is_some
returns-then-is_some c =
    listener-told c.args.p.now c.args.fd.0 c.args.at.now (sym c.is.ensures ∙ c.if-not-is.false) c.args.news (disconnect_in c.args.frame) c.in-TakenBack.number c.push_disconnect-then-is_some.new.self c.in-TakenBack.is (sym c.is_pending.ensures ∙ c.if-is_pending.false) (sym (c.is_some.ensures ∙ found-alike (λ (fd : Fd). fd.0) (λ (i : Indication). i.caller) c.caller.result (find_number c.in-TakenBack.number.0 (parts c.args.at.now).outstanding) c.caller.ensures) ∙ c.if-is_some.true) c.push_disconnect-then-is_some.ensures.added

pub returns-else-is_some : goal.returns-else-is_some
returns-else-is_some c = unconcerned c.args.p.now c.args.fd.0 c.args.at.now (sym c.is.ensures ∙ c.if-not-is.false) c.args.news (disconnect_in c.args.frame) (news.TakenBack c.in-TakenBack.number) c.in-TakenBack.is (neither _ _ (sym c.is_pending.ensures ∙ c.if-is_pending.false) (sym (c.is_some.ensures ∙ found-alike (λ (fd : Fd). fd.0) (λ (i : Indication). i.caller) c.caller.result (find_number c.in-TakenBack.number.0 (parts c.args.at.now).outstanding) c.caller.ensures) ∙ c.if-is_some.false))

pub returns-then-asks : goal.returns-then-asks
returns-then-asks c =
    given-up c.args.p.now c.args.fd.0 c.args.at.now (sym c.is.ensures ∙ c.if-not-is.false) c.args.news (disconnect_in c.args.frame) c.in-GivenUp.listener c.in-GivenUp.number c.push_disconnect-then-asks.new.self c.set_target.new.self c.in-GivenUp.is (sym c.asks.ensures ∙ c.if-asks.true) c.push_disconnect-then-asks.ensures.added c.set_target.ensures

pub returns-else-asks : goal.returns-else-asks
returns-else-asks c = unconcerned c.args.p.now c.args.fd.0 c.args.at.now (sym c.is.ensures ∙ c.if-not-is.false) c.args.news (disconnect_in c.args.frame) (news.GivenUp c.in-GivenUp.listener c.in-GivenUp.number) c.in-GivenUp.is (sym c.asks.ensures ∙ c.if-asks.false)

pub returns-in-Rejected : goal.returns-in-Rejected
returns-in-Rejected c = rejected c.args.p.now c.args.fd.0 c.args.at.now (sym c.is.ensures ∙ c.if-not-is.false) c.args.news (disconnect_in c.args.frame) c.push_disconnect-in-Rejected.new.self c.set_target-in-Rejected.new.self c.in-Rejected.is c.push_disconnect-in-Rejected.ensures.added c.set_target-in-Rejected.ensures
