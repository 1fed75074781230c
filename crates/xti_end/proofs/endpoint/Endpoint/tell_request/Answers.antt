use Rattle.std.proofs.Common.{◌≡◌, ◌∙◌, ℕ, ap, refl, sym, Some}
use Rattle.std.proofs.lemmas.Result.{IfOk-from_err}
use Rattle.xti_model.specs.declared.entry.Outcome.TheVariants.{Done}
use Rattle.xti_model.specs.declared.entry.Reply.TheVariants.{Overflow}
use Rattle.xti_model.specs.Step.{made}
use Rattle.xti_end.specs.Held.{Held, alone, parts}
use Rattle.xti_model.specs.Calls.Listen as Listen
use Rattle.xti_model.specs.Endpoint.{Indication}
use Rattle.xti_end.specs.Taken.{told_request}
use Rattle.xti_end.proofs.Rooms.{after_change, as_before, on_any_err, same_room, stays_at}
use Rattle.xti_end.proofs.Rows.{open-is, request-kept, request-lost}
use Rattle.xti_end.proofs.endpoint.Endpoint.tell_request.Goals as goal

pub returns-then-request_overflows-clause-step : goal.returns-then-request_overflows-clause-step
returns-then-request_overflows-clause-step c =
    let p = c.args.p.now in
    let h = c.args.self.now in
    let fd = c.args.fd.0 in
    let number : c.number-seq.result.0 ≡ (Listen.oldest (parts h)).number = c.number-seq.ensures ∙ ap (λ (i : Indication). i.number) c.oldest_request.ensures.request in
    c.done.ensures ∙
    (ap (λ (n : ℕ). Some (made p fd (Done (Overflow (record { 0 = n }))) (alone c.take_request.new.self))) number ∙
    (ap (λ (x : Held). Some (made p fd (Done (Overflow (record { 0 = (Listen.oldest (parts h)).number }))) (alone x))) c.in_ok-take_request.ensures.ok ∙
    request-lost p h fd c.args.amax c.args.omax c.args.umax c.requires.«open» (sym c.request_overflows.ensures ∙ c.if-request_overflows.true)))

pub returns-clause-step : goal.returns-clause-step
returns-clause-step c =
    let p = c.args.p.now in
    let h = c.args.self.now in
    let fd = c.args.fd.0 in
    c.done-2.ensures ∙
    (ap (λ r. Some (made p fd (Done r) (alone c.take_request-2.new.self))) c.in_ok-reply.ensures ∙
    (ap (λ (x : Held). Some (made p fd (Done (told_request c.args.amax c.args.omax c.args.umax (parts h))) (alone x))) c.in-Ok.ensures.ok ∙
    request-kept p h fd c.args.amax c.args.omax c.args.umax c.requires.«open» (sym c.request_overflows.ensures ∙ c.if-request_overflows.false)))

pub request_overflows-requires-clause-open : goal.request_overflows-requires-clause-open
request_overflows-requires-clause-open c = open-is c.args.p.now c.args.fd.0 c.args.self.now c.requires.«open»

pub request_overflows-requires-clause-waits : goal.request_overflows-requires-clause-waits
request_overflows-requires-clause-waits c = c.requires.waits

pub oldest_request-requires-clause-open : goal.oldest_request-requires-clause-open
oldest_request-requires-clause-open c = open-is c.args.p.now c.args.fd.0 c.args.self.now c.requires.«open»

pub oldest_request-requires-clause-waits : goal.oldest_request-requires-clause-waits
oldest_request-requires-clause-waits c = c.requires.waits

pub take_request-requires-clause-open : goal.take_request-requires-clause-open
take_request-requires-clause-open c = open-is c.args.p.now c.args.fd.0 c.args.self.now c.requires.«open»

pub take_request-requires-clause-waits : goal.take_request-requires-clause-waits
take_request-requires-clause-waits c = c.requires.waits

pub request_reply-requires-clause-open : goal.request_reply-requires-clause-open
request_reply-requires-clause-open c = open-is c.args.p.now c.args.fd.0 c.args.self.now c.requires.«open»

pub request_reply-requires-clause-waits : goal.request_reply-requires-clause-waits
request_reply-requires-clause-waits c = c.requires.waits

pub take_request-requires-2-clause-open : goal.take_request-requires-2-clause-open
take_request-requires-2-clause-open c = open-is c.args.p.now c.args.fd.0 c.args.self.now c.requires.«open»

pub take_request-requires-2-clause-waits : goal.take_request-requires-2-clause-waits
take_request-requires-2-clause-waits c = c.requires.waits

pub number-seq-requires : goal.number-seq-requires
number-seq-requires c = c.oldest_request.ensures.kind

pub done-requires : goal.done-requires
done-requires c = stays_at c.args.self.now c.take_request.new.self _ _ c.in_ok-take_request.ensures.ok c.requires.place

pub done-requires-2 : goal.done-requires-2
done-requires-2 c = stays_at c.args.self.now c.take_request-2.new.self _ _ c.in-Ok.ensures.ok c.requires.place

pub returns-in_err-take_request-clause-step : goal.returns-in_err-take_request-clause-step
returns-in_err-take_request-clause-step c = IfOk-from_err _ _ c.from_residual.ensures.0

pub returns-in_err-take_request-clause-still : goal.returns-in_err-take_request-clause-still
returns-in_err-take_request-clause-still c = IfOk-from_err _ _ c.from_residual.ensures.0

pub returns-in_err-reply-clause-step : goal.returns-in_err-reply-clause-step
returns-in_err-reply-clause-step c = IfOk-from_err _ _ c.from_residual-in_err-reply.ensures.0

pub returns-in_err-reply-clause-still : goal.returns-in_err-reply-clause-still
returns-in_err-reply-clause-still c = IfOk-from_err _ _ c.from_residual-in_err-reply.ensures.0

pub returns-in_err-take_request-clause-room : goal.returns-in_err-take_request-clause-room
returns-in_err-take_request-clause-room c = as_before c.in_err-take_request.ensures.err

pub returns-in_err-take_request-clause-err : goal.returns-in_err-take_request-clause-err
returns-in_err-take_request-clause-err c = on_any_err _ c.in_err-take_request.ensures.err

pub returns-in_err-reply-clause-room : goal.returns-in_err-reply-clause-room
returns-in_err-reply-clause-room c = same_room _

pub returns-in_err-reply-clause-err : goal.returns-in_err-reply-clause-err
returns-in_err-reply-clause-err c = on_any_err _ refl

pub returns-in-Err-clause-room : goal.returns-in-Err-clause-room
returns-in-Err-clause-room c = as_before c.in-Err.ensures.err

pub returns-in-Err-clause-err : goal.returns-in-Err-clause-err
returns-in-Err-clause-err c = c.in-Err.ensures.err

pub returns-then-request_overflows-clause-still : goal.returns-then-request_overflows-clause-still
returns-then-request_overflows-clause-still c = λ none. let no = sym c.done.ensures ∙ none in cc no

pub returns-then-request_overflows-clause-room : goal.returns-then-request_overflows-clause-room
returns-then-request_overflows-clause-room c = after_change _ c.in_ok-take_request.ensures.ok

pub returns-clause-still : goal.returns-clause-still
returns-clause-still c = λ none. let no = sym c.done-2.ensures ∙ none in cc no

pub returns-clause-room : goal.returns-clause-room
returns-clause-room c = after_change _ c.in-Ok.ensures.ok
