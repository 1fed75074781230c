use Rattle.std.proofs.Common.{◌≡◌, ℕ, List, ap, ◌∙◌}
use Rattle.std.proofs.lemmas.Result.{IfOk-from_err}
use Rattle.xti_base.specs.declared.kinds.Seq.{Seq}
use Rattle.xti_model.specs.declared.entry.Reply.TheVariants.{Listened}
use Rattle.xti_model.specs.Calls.Listen as Listen
use Rattle.xti_model.specs.Endpoint.{Indication}
use Rattle.xti_model.specs.Plan.{trimmed}
use Rattle.xti_end.specs.Frames.{indication_of}
use Rattle.xti_end.specs.Held.{parts}
use Rattle.xti_end.proofs.endpoint.Endpoint.request_reply.Goals as goal

-- what is told is what the request says
listened : (oldest i : Indication) (seq : Seq) (addr opt udata address options bytes : List ℕ) (amax omax umax : ℕ) → i ≡ oldest → seq.0 ≡ i.number → addr ≡ trimmed address amax → address ≡ i.address
    → opt ≡ trimmed options omax → options ≡ i.options → udata ≡ trimmed bytes umax → bytes ≡ i.udata → Listened seq addr opt udata ≡ Listen.listen_reply oldest amax omax umax
listened oldest i seq addr opt udata address options bytes amax omax umax e n a a-is o o-is u u-is =
    let addr-is : addr ≡ trimmed i.address amax = a ∙ ap (λ (xs : List ℕ). trimmed xs amax) a-is in
    let opt-is : opt ≡ trimmed i.options omax = o ∙ ap (λ (xs : List ℕ). trimmed xs omax) o-is in
    let udata-is : udata ≡ trimmed i.udata umax = u ∙ ap (λ (xs : List ℕ). trimmed xs umax) u-is in
    let whole : Listened seq addr opt udata ≡ Listen.listen_reply i amax omax umax = λ k. Listened (record { 0 = n k }) (addr-is k) (opt-is k) (udata-is k) in
    whole ∙ ap (λ (x : Indication). Listen.listen_reply x amax omax umax) e

pub oldest_request-ind-requires-clause-open : goal.oldest_request-ind-requires-clause-open
oldest_request-ind-requires-clause-open c = c.requires.«open»

pub oldest_request-ind-requires-clause-waits : goal.oldest_request-ind-requires-clause-waits
oldest_request-ind-requires-clause-waits c = c.requires.waits

pub caller_address-requires : goal.caller_address-requires
caller_address-requires c = c.oldest_request-ind.ensures.kind

pub options-requires : goal.options-requires
options-requires c = c.oldest_request-ind.ensures.kind

pub data-requires : goal.data-requires
data-requires c = c.oldest_request-ind.ensures.kind

pub number-requires : goal.number-requires
number-requires c = c.oldest_request-ind.ensures.kind

pub returns-in_err-addr : goal.returns-in_err-addr
returns-in_err-addr c = IfOk-from_err _ _ c.from_residual.ensures.0

pub returns : goal.returns
returns c =
    listened (Listen.oldest (parts c.args.self.now)) (indication_of c.oldest_request-ind.result.now) c.number.result c.in_ok-addr.addr c.in-Ok.made c.in-Ok-trimmed_copy.made c.caller_address.result.now
    c.options.result.now c.data.result.now c.args.amax c.args.omax c.args.umax c.oldest_request-ind.ensures.request c.number.ensures c.in_ok-addr.ensures.copy c.caller_address.ensures
    c.in-Ok.ensures.copy c.options.ensures c.in-Ok-trimmed_copy.ensures.copy c.data.ensures
