use Rattle.std.proofs.Common.{sym, ap}
use Rattle.xti_switch.specs.Accepts.{with_address}
use Rattle.xti_end.specs.Held.{Held, cell}
use Rattle.xti_lent.proofs.Opened.{open_here, open_written, open_same, closed_unchanged}
use Rattle.xti_switch.proofs.links.bind.Goals as goal

pub set_address-requires : goal.set_address-requires
set_address-requires c = open_here c.args.lent.now c.args.resfd.0 c.in-Some.place c.endpoint.result.now c.requires c.in-Some.ensures.place (sym c.endpoint.ensures.now)

pub returns-in-Some-clause-changed : goal.returns-in-Some-clause-changed
returns-in-Some-clause-changed c =
    open_written c.args.lent.now c.args.resfd.0 c.in-Some.place c.endpoint.result.now c.set_address.new.r (with_address c.args.address) c.requires c.in-Some.ensures.place (sym c.endpoint.ensures.now) (ap (λ (h : Held). cell h) c.set_address.ensures)

pub returns-in-Some-clause-kept : goal.returns-in-Some-clause-kept
returns-in-Some-clause-kept c = open_same c.args.lent.now c.in-Some.place c.endpoint.result.now c.set_address.new.r (sym c.endpoint.ensures.now) (ap (λ (h : Held). h.place) c.set_address.ensures)

pub returns-in_default-clause-changed : goal.returns-in_default-clause-changed
returns-in_default-clause-changed c = closed_unchanged c.args.lent.now c.args.resfd.0 (with_address c.args.address) c.in_default.ensures.none
