use Rattle.std.proofs.Common.{Option, IfSome, refl, subst}
use Rattle.xti_base.specs.declared.kinds.Fd.{Fd}
use Rattle.xti_lent.specs.Lends.{IsHeld}
use Rattle.xti_lent.proofs.Returned.{on-any-err, on-no-ok, same-cells}
use Rattle.xti_data.proofs.datagrams.sending.deliver.Goals as goal

pub indication-requires-clause-fit : goal.indication-requires-clause-fit
indication-requires-clause-fit c = c.requires.fit

pub indication-requires-clause-open : goal.indication-requires-clause-open
indication-requires-clause-open c = c.requires.open

pub indication-requires-clause-options : goal.indication-requires-clause-options
indication-requires-clause-options c = c.requires.options

pub indication-requires-clause-data : goal.indication-requires-clause-data
indication-requires-clause-data c = c.requires.data

pub give-requires-clause-own : goal.give-requires-clause-own
give-requires-clause-own c = c.requires.fit.places

pub give-requires-clause-sender : goal.give-requires-clause-sender
give-requires-clause-sender c = c.requires.sender

pub give-requires-clause-receiver : goal.give-requires-clause-receiver
give-requires-clause-receiver c = subst (λ (o : Option Fd). IfSome o (λ (x : Fd). IsHeld c.args.lent.now x.0)) c.in-Some.is c.requires.receiver

pub give-requires-clause-kind : goal.give-requires-clause-kind
give-requires-clause-kind c = c.in-Ok.ensures.kind

pub datagram_error-requires-clause-address : goal.datagram_error-requires-clause-address
datagram_error-requires-clause-address c = c.requires.address

pub datagram_error-requires-clause-options : goal.datagram_error-requires-clause-options
datagram_error-requires-clause-options c = c.requires.options

pub returns-in_err-frame-in-None-clause-ok : goal.returns-in_err-frame-in-None-clause-ok
returns-in_err-frame-in-None-clause-ok c = on-no-ok _ _ c.from_residual.ensures.0

pub returns-in_err-frame-in-None-clause-kept : goal.returns-in_err-frame-in-None-clause-kept
returns-in_err-frame-in-None-clause-kept c = same-cells _

pub returns-in_err-frame-in-None-clause-err : goal.returns-in_err-frame-in-None-clause-err
returns-in_err-frame-in-None-clause-err c = on-any-err _ refl

pub push_error-requires-clause-own : goal.push_error-requires-clause-own
push_error-requires-clause-own c = c.requires.fit.places

pub push_error-requires-clause-there : goal.push_error-requires-clause-there
push_error-requires-clause-there c = c.requires.sender

pub push_error-requires-clause-kind : goal.push_error-requires-clause-kind
push_error-requires-clause-kind c = c.in_ok-frame-in-None.ensures.kind

pub returns-in-Ok-clause-kept : goal.returns-in-Ok-clause-kept
returns-in-Ok-clause-kept c = c.give.ensures.kept

pub returns-in-Ok-clause-err : goal.returns-in-Ok-clause-err
returns-in-Ok-clause-err c = c.give.ensures.err

pub returns-in-Err-OutOfMemory-clause-ok : goal.returns-in-Err-OutOfMemory-clause-ok
returns-in-Err-OutOfMemory-clause-ok c = tt

pub returns-in-Err-OutOfMemory-clause-kept : goal.returns-in-Err-OutOfMemory-clause-kept
returns-in-Err-OutOfMemory-clause-kept c = same-cells _

pub returns-in-Err-OutOfMemory-clause-err : goal.returns-in-Err-OutOfMemory-clause-err
returns-in-Err-OutOfMemory-clause-err c = refl

pub returns-in_ok-frame-in-None-clause-kept : goal.returns-in_ok-frame-in-None-clause-kept
returns-in_ok-frame-in-None-clause-kept c = c.push_error.ensures.kept

pub returns-in_ok-frame-in-None-clause-err : goal.returns-in_ok-frame-in-None-clause-err
returns-in_ok-frame-in-None-clause-err c = c.push_error.ensures.err
