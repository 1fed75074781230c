use Rattle.std.proofs.Common.{sym}
use Rattle.xti_model.specs.World.{endpoint}
use Rattle.xti_end.specs.Held.{parts}
use Rattle.xti_lent.specs.Lending.{cells}
use Rattle.xti_switch.proofs.Breakings.{broken-off, listener-ready}
use Rattle.xti_switch.proofs.Hearings.{room-then}
use Rattle.xti_switch.proofs.Reaching.{listener-reached}
use Rattle.xti_switch.proofs.breaking.break_off.Goals as goal

pub prepare_any-requires-2-clause-there : goal.prepare_any-requires-2-clause-there
prepare_any-requires-2-clause-there c =
    rw c.listener_news.ensures
    (listener-reached c.args.lent.now c.prepare_any.new.lent (endpoint c.args.lent.now.providers (cells c.args.lent.now) c.args.fd.0) (parts c.in-Some.e.now) (sym c.in-Some.ensures.endpoint) c.prepare_any.ensures.room.kept c.requires.reach)

pub tell_any-requires-2-clause-ready : goal.tell_any-requires-2-clause-ready
tell_any-requires-2-clause-ready c =
    listener-ready c.args.lent.now c.prepare_any-2.new.lent c.tell_any.new.lent c.args.fd (parts c.in-Some.e.now) c.args.reason c.args.udata.now c.peer_news.result c.listener_news.result c.in_ok-to_peer.to_peer c.in-Ok.made
    c.peer_news.ensures c.listener_news.ensures c.requires.fit
    (room-then c.args.lent.now c.prepare_any.new.lent c.prepare_any-2.new.lent c.prepare_any.ensures.room c.prepare_any-2.ensures.room) c.in_ok-to_peer.ensures.notice c.in-Ok.ensures.notice c.tell_any.ensures.ready c.in-Ok.ensures.ready

pub returns-clause-ok : goal.returns-clause-ok
returns-clause-ok c =
    broken-off c.args.lent.now c.prepare_any-2.new.lent c.tell_any.new.lent c.tell_any-2.new.lent c.args.fd (parts c.in-Some.e.now) c.args.reason c.args.udata.now c.peer_news.result c.listener_news.result c.in_ok-to_peer.to_peer c.in-Ok.made
    (sym c.in-Some.ensures.endpoint) c.peer_news.ensures c.listener_news.ensures
    (room-then c.args.lent.now c.prepare_any.new.lent c.prepare_any-2.new.lent c.prepare_any.ensures.room c.prepare_any-2.ensures.room) c.in_ok-to_peer.ensures.notice c.in-Ok.ensures.notice c.tell_any.ensures.kept c.tell_any.ensures.cells c.tell_any-2.ensures.cells
