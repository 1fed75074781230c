use Rattle.std.proofs.Common.{◌∙◌, sym}
use Rattle.xti_end.specs.Frames.{disconnect_in}
use Rattle.xti_lent.proofs.Open.{own-place}
use Rattle.xti_lent.proofs.Written.{written-by, written-same}
use Rattle.xti_switch.specs.Hearing.{heard}
use Rattle.xti_switch.proofs.Hearings.{hears-cell, hears-place, told-ready}
use Rattle.xti_switch.proofs.notices.tell.Goals as goal

pub returns-clause-cells : goal.returns-clause-cells
returns-clause-cells c =
    let q = own-place c.args.lent.now.numbers c.args.lent.now.held c.place_of.result c.endpoint.result.now c.requires.own (sym c.endpoint.ensures.now) ∙ c.place_of.ensures.place in
    let n = c.args.notice in
    let d = disconnect_in c.args.notice.frame in
    written-by c.args.lent.now c.providers.result.now c.args.notice.to.0 c.place_of.result c.endpoint.result.now c.hear.new.at (heard c.args.notice.news d) c.providers.ensures.providers c.place_of.ensures.place (sym c.endpoint.ensures.now)
    (hears-cell c.providers.result.now c.args.notice.to.0 c.args.notice.news d c.endpoint.result.now c.hear.new.at q c.hear.ensures)

pub returns-clause-kept : goal.returns-clause-kept
returns-clause-kept c =
    written-same c.args.lent.now c.place_of.result c.endpoint.result.now c.hear.new.at (sym c.endpoint.ensures.now)
    (hears-place c.providers.result.now c.args.notice.to.0 c.args.notice.news (disconnect_in c.args.notice.frame) c.endpoint.result.now c.hear.new.at c.hear.ensures)

pub returns-clause-ready : goal.returns-clause-ready
returns-clause-ready c =
    λ other s r. told-ready c.args.lent.now c.providers.result.now c.place_of.result c.endpoint.result.now c.hear.new.at c.args.notice other c.providers.ensures.providers c.place_of.ensures.place (sym c.endpoint.ensures.now) c.hear.ensures s r

pub hear-requires-clause-place : goal.hear-requires-clause-place
hear-requires-clause-place c =
    own-place c.args.lent.now.numbers c.args.lent.now.held c.place_of.result c.endpoint.result.now c.requires.own (sym c.endpoint.ensures.now) ∙ c.place_of.ensures.place
