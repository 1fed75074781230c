use Rattle.std.proofs.Common.{sym, ap}
use Rattle.xti_switch.specs.Accepts.{responding_to}
use Rattle.xti_end.specs.Held.{Held, cell}
use Rattle.xti_lent.proofs.Opened.{open_here, open_written, open_same, closed_unchanged}
use Rattle.xti_switch.proofs.links.respond.Goals as goal

pub set_responding-requires : goal.set_responding-requires
set_responding-requires c = open_here c.args.lent.now c.args.resfd.0 c.in-Some.place c.endpoint.result.now c.requires c.in-Some.ensures.place (sym c.endpoint.ensures.now)

pub returns-in-Some-clause-changed : goal.returns-in-Some-clause-changed
returns-in-Some-clause-changed c =
    open_written c.args.lent.now c.args.resfd.0 c.in-Some.place c.endpoint.result.now c.set_responding.new.r (responding_to c.args.caller.0 c.args.source) c.requires c.in-Some.ensures.place (sym c.endpoint.ensures.now) (ap (λ (h : Held). cell h) c.set_responding.ensures)

pub returns-in-Some-clause-kept : goal.returns-in-Some-clause-kept
returns-in-Some-clause-kept c = open_same c.args.lent.now c.in-Some.place c.endpoint.result.now c.set_responding.new.r (sym c.endpoint.ensures.now) (ap (λ (h : Held). h.place) c.set_responding.ensures)

pub returns-in_default-clause-changed : goal.returns-in_default-clause-changed
returns-in_default-clause-changed c = closed_unchanged c.args.lent.now c.args.resfd.0 (responding_to c.args.caller.0 c.args.source) c.in_default.ensures.none
