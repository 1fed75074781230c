use Rattle.std.proofs.Common.{sym, ap}
use Rattle.xti_model.specs.Calls.Listen.{taken_out}
use Rattle.xti_end.specs.Held.{Held, cell}
use Rattle.xti_lent.proofs.Opened.{open_here, open_written, open_same, closed_unchanged}
use Rattle.xti_switch.proofs.links.take_out.Goals as goal

pub take_out-requires : goal.take_out-requires
take_out-requires c = open_here c.args.lent.now c.args.fd.0 c.in-Some.place c.endpoint.result.now c.requires c.in-Some.ensures.place (sym c.endpoint.ensures.now)

pub returns-in-Some-clause-changed : goal.returns-in-Some-clause-changed
returns-in-Some-clause-changed c =
    open_written c.args.lent.now c.args.fd.0 c.in-Some.place c.endpoint.result.now c.take_out.new.self (taken_out c.args.seq.0) c.requires c.in-Some.ensures.place (sym c.endpoint.ensures.now) (ap (λ (h : Held). cell h) c.take_out.ensures)

pub returns-in-Some-clause-kept : goal.returns-in-Some-clause-kept
returns-in-Some-clause-kept c = open_same c.args.lent.now c.in-Some.place c.endpoint.result.now c.take_out.new.self (sym c.endpoint.ensures.now) (ap (λ (h : Held). h.place) c.take_out.ensures)

pub returns-in_default-clause-changed : goal.returns-in_default-clause-changed
returns-in_default-clause-changed c = closed_unchanged c.args.lent.now c.args.fd.0 (taken_out c.args.seq.0) c.in_default.ensures.none
