use Rattle.std.proofs.Common.{sym, ap}
use Rattle.xti_end.specs.Frames.{confirmation_in}
use Rattle.xti_switch.specs.Accepts.{accepted_by}
use Rattle.xti_end.specs.Held.{Held, cell}
use Rattle.xti_lent.proofs.Opened.{open_here, open_written, open_same, closed_unchanged}
use Rattle.xti_switch.proofs.links.confirm.Goals as goal

pub set_accepted-requires-clause-open : goal.set_accepted-requires-clause-open
set_accepted-requires-clause-open c = open_here c.args.lent.now c.args.caller.0 c.in-Some.place c.endpoint.result.now c.requires.own c.in-Some.ensures.place (sym c.endpoint.ensures.now)

pub returns-in-Some-clause-changed : goal.returns-in-Some-clause-changed
returns-in-Some-clause-changed c =
    open_written c.args.lent.now c.args.caller.0 c.in-Some.place c.endpoint.result.now c.set_accepted.new.c (accepted_by c.args.resfd.0 c.args.address (confirmation_in c.args.confirmation)) c.requires.own c.in-Some.ensures.place (sym c.endpoint.ensures.now) (ap (λ (h : Held). cell h) c.set_accepted.ensures)

pub returns-in-Some-clause-kept : goal.returns-in-Some-clause-kept
returns-in-Some-clause-kept c = open_same c.args.lent.now c.in-Some.place c.endpoint.result.now c.set_accepted.new.c (sym c.endpoint.ensures.now) (ap (λ (h : Held). h.place) c.set_accepted.ensures)

pub returns-in_default-clause-changed : goal.returns-in_default-clause-changed
returns-in_default-clause-changed c = closed_unchanged c.args.lent.now c.args.caller.0 (accepted_by c.args.resfd.0 c.args.address (confirmation_in c.args.confirmation)) c.in_default.ensures.none
