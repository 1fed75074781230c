use Rattle.std.proofs.Common.{◌∙◌, ap, sym, Some}
use Rattle.xti_model.specs.declared.entry.Outcome.TheVariants.{Done}
use Rattle.xti_model.specs.declared.entry.Reply.TheVariants.{Overflow}
use Rattle.xti_model.specs.Step.{made}
use Rattle.xti_end.specs.Held.{Held, alone, parts}
use Rattle.xti_end.specs.Taken.{told_confirmation}
use Rattle.xti_end.proofs.Rows.{confirmation-kept, confirmation-lost}
use Rattle.xti_end.proofs.endpoint.Endpoint.tell_confirmation.Goals as goal

pub returns-then-confirmation_overflows-clause-step : goal.returns-then-confirmation_overflows-clause-step
returns-then-confirmation_overflows-clause-step c =
    let p = c.args.p.now in
    let h = c.args.self.now in
    let fd = c.args.fd.0 in
    let long = sym c.confirmation_overflows.ensures ∙ c.if-confirmation_overflows.true in
    c.done.ensures ∙
    (ap (λ (x : Held). Some (made p fd (Done (Overflow (record { 0 = 0 }))) (alone x))) c.take_confirmation.ensures ∙
    confirmation-lost p h fd c.args.amax c.args.omax c.args.umax c.requires.«open» long)

pub returns-clause-step : goal.returns-clause-step
returns-clause-step c =
    let p = c.args.p.now in
    let h = c.args.self.now in
    let fd = c.args.fd.0 in
    let long = sym c.confirmation_overflows.ensures ∙ c.if-confirmation_overflows.false in
    c.done-2.ensures ∙
    (ap (λ r. Some (made p fd (Done r) (alone c.take_confirmation-2.new.self))) c.in_ok-reply.ensures ∙
    (ap (λ (x : Held). Some (made p fd (Done (told_confirmation c.args.amax c.args.omax c.args.umax (parts h))) (alone x))) c.take_confirmation-2.ensures ∙
    confirmation-kept p h fd c.args.amax c.args.omax c.args.umax c.requires.«open» long))
