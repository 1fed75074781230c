use Rattle.std.proofs.Common.{◌≡◌, ◌∙◌, refl, ◌+◌, ℕ, true, false, Option, sym, ap, subst, length, Some}
use Rattle.std.specs.Prelude.{IfSome, is_some}
use Rattle.std.specs.List.{concat}
use Rattle.xti_model.specs.Arguments.{is_expedited}
use Rattle.xti_model.specs.Calls.Send as Send
use Rattle.xti_model.specs.Endpoint.{Endpoint}
use Rattle.xti_model.specs.Links.{linked}
use Rattle.xti_model.specs.Plan.{first, answers}
use Rattle.xti_model.specs.Sending.{ready_for, room_for}
use Rattle.xti_model.specs.Step.{made}
use Rattle.xti_model.specs.World.{endpoint, changed}
use Rattle.xti_end.specs.Held.{parts}
use Rattle.xti_lent.specs.Lending.{cells, linked_with, number_of, seen}
use Rattle.xti_data.specs.declared.portions.Portion.{Portion}
use Rattle.xti_data.specs.Portions.{giving, portion_of, IsWithin}
use Rattle.xti_model.specs.History.{taken_before}
use Rattle.xti_data.proofs.Changes.{made-after}
use Rattle.xti_lent.proofs.Returned.{not-blocked, on-any-err, open-as, same-cells}
use Rattle.xti_lent.proofs.Written.{own-kept}
use Rattle.std.proofs.lemmas.Result.{IfOk-from_err}
use Rattle.xti_model.specs.declared.entry.Outcome.TheVariants.{Done}
use Rattle.xti_model.specs.declared.entry.Reply.{Reply}
use Rattle.xti_data.proofs.Reached.{peer-named, peer-reached}
use Rattle.xti_data.proofs.Rows.{early, few-bytes, has-room, portion-of-parts, portion-within, send-blocked, send-flow, send-refused, send-shut, send-went, taken-fits, taken_of, unrefused, wide, Unrefused}
use Rattle.xti_data.proofs.sending.send.Goals as goal

pub returns-in-Some-refusal-clause-step : goal.returns-in-Some-refusal-clause-step
returns-in-Some-refusal-clause-step c =
    let l = c.args.lent.now in
    let e = parts c.in-Some.e.now in
    let o : endpoint l.providers (cells l) c.args.fd.0 ≡ Some e = sym c.in-Some.ensures.endpoint in
    let r : first (early l.providers (length c.args.parts.now) (concat c.args.parts.now) c.args.flags (taken_before c.args.go) e) ≡ Some (answers c.in-Some-refusal.reply) = rw (c.providers.ensures.providers, c.taken_before-before.ensures) at (sym c.in-Some-refusal.ensures) in
    (rw c.told-in-Some-refusal.ensures at c.done-in-Some-refusal.ensures) ∙ sym (send-refused l.providers (cells l) c.args.fd.0 (length c.args.parts.now) (concat c.args.parts.now) c.args.flags c.args.go e c.in-Some-refusal.reply o r)

pub next_portion-portion-requires-clause-few : goal.next_portion-portion-requires-clause-few
next_portion-portion-requires-clause-few c =
    let l = c.args.lent.now in
    let u : Unrefused l.providers (length c.args.parts.now) (concat c.args.parts.now) c.args.flags (taken_before c.args.go) (parts c.in-Some.e.now) = unrefused l.providers c.providers.result.now c.args.parts.now c.args.flags (taken_before c.args.go) c.taken_before-before.result c.in-Some.e.now c.in_default-refusal.ensures c.providers.ensures.providers c.taken_before-before.ensures in
    few-bytes l.providers (length c.args.parts.now) (concat c.args.parts.now) c.args.flags (taken_before c.args.go) (parts c.in-Some.e.now) u

pub is_done-is_done-requires-clause-few : goal.is_done-is_done-requires-clause-few
is_done-is_done-requires-clause-few c =
    let l = c.args.lent.now in
    let u : Unrefused l.providers (length c.args.parts.now) (concat c.args.parts.now) c.args.flags (taken_before c.args.go) (parts c.in-Some.e.now) = unrefused l.providers c.providers.result.now c.args.parts.now c.args.flags (taken_before c.args.go) c.taken_before-before.result c.in-Some.e.now c.in_default-refusal.ensures c.providers.ensures.providers c.taken_before-before.ensures in
    few-bytes l.providers (length c.args.parts.now) (concat c.args.parts.now) c.args.flags (taken_before c.args.go) (parts c.in-Some.e.now) u

pub give-requires-clause-peer : goal.give-requires-clause-peer
give-requires-clause-peer c =
    peer-reached c.args.lent.now c.args.fd.0 (parts c.in-Some.e.now) c.peer-peer.result c.requires.reach (sym c.in-Some.ensures.endpoint) (c.peer-peer.ensures ∙ peer-named c.in-Some.e.now.body)

pub give-requires-clause-within : goal.give-requires-clause-within
give-requires-clause-within c =
    let l = c.args.lent.now in
    let e = parts c.in-Some.e.now in
    let u : Unrefused l.providers (length c.args.parts.now) (concat c.args.parts.now) c.args.flags (taken_before c.args.go) e = unrefused l.providers c.providers.result.now c.args.parts.now c.args.flags (taken_before c.args.go) c.taken_before-before.result c.in-Some.e.now c.in_default-refusal.ensures c.providers.ensures.providers c.taken_before-before.ensures in
    let w = portion-within l.providers c.args.parts.now (length c.args.parts.now) c.args.flags (taken_before c.args.go) c.in-Some-room.room e u in
    let q : c.next_portion-portion.result ≡ portion_of l.providers c.args.parts.now c.args.flags (taken_before c.args.go) c.in-Some-room.room e = rw (c.providers-in-Some-room.ensures.providers, c.taken_before-before.ensures) at c.next_portion-portion.ensures in
    subst (λ (x : Option Endpoint). IfSome x (IsWithin l.providers c.next_portion-portion.result)) c.in-Some.ensures.endpoint
    (subst (λ (x : Portion). IsWithin l.providers x e) (sym q) w)

pub returns-in_err-give-in-Some-room-clause-sure : goal.returns-in_err-give-in-Some-room-clause-sure
returns-in_err-give-in-Some-room-clause-sure c none =
    let l = c.args.lent.now in
    let e = parts c.in-Some.e.now in
    let u : Unrefused l.providers (length c.args.parts.now) (concat c.args.parts.now) c.args.flags (taken_before c.args.go) e = unrefused l.providers c.providers.result.now c.args.parts.now c.args.flags (taken_before c.args.go) c.taken_before-before.result c.in-Some.e.now c.in_default-refusal.ensures c.providers.ensures.providers c.taken_before-before.ensures in
    let peer : number_of c.peer-peer.result ≡ e.peer = c.peer-peer.ensures ∙ peer-named c.in-Some.e.now.body in
    let link : seen c.linked_with.result ≡ linked l.providers (cells l) c.args.fd.0 e = c.linked_with.ensures.linked ∙ ap (linked_with l c.args.fd.0) peer in
    let t : ready_for (is_expedited c.args.flags) e (linked l.providers (cells l) c.args.fd.0 e) ≡ true = rw (link, c.is_expedited.ensures) at (sym c.in-Some-room.ensures.ready) in
    let h = has-room l.providers (cells l) c.args.fd.0 (length c.args.parts.now) (concat c.args.parts.now) c.args.flags c.args.go e (sym c.in-Some.ensures.endpoint) u t in
    let no : true ≡ false = sym h ∙ none in
    cc no

pub returns-in_ok-give-in-Some-room-clause-step : goal.returns-in_ok-give-in-Some-room-clause-step
returns-in_ok-give-in-Some-room-clause-step c =
    let l = c.args.lent.now in
    let m = c.give.new.lent in
    let e = parts c.in-Some.e.now in
    let fd = c.args.fd.0 in
    let bytes = concat c.args.parts.now in
    let before = taken_before c.args.go in
    let u : Unrefused l.providers (length c.args.parts.now) bytes c.args.flags before e = unrefused l.providers c.providers.result.now c.args.parts.now c.args.flags (taken_before c.args.go) c.taken_before-before.result c.in-Some.e.now c.in_default-refusal.ensures c.providers.ensures.providers c.taken_before-before.ensures in
    let peer : number_of c.peer-peer.result ≡ e.peer = c.peer-peer.ensures ∙ peer-named c.in-Some.e.now.body in
    let link : seen c.linked_with.result ≡ linked l.providers (cells l) fd e = c.linked_with.ensures.linked ∙ ap (linked_with l fd) peer in
    let t : ready_for (is_expedited c.args.flags) e (linked l.providers (cells l) fd e) ≡ true = rw (link, c.is_expedited.ensures) at (sym c.in-Some-room.ensures.ready) in
    let room : c.in-Some-room.room ≡ room_for (is_expedited c.args.flags) e (linked l.providers (cells l) fd e) = rw (link, c.is_expedited.ensures) at c.in-Some-room.ensures.room in
    let q : c.next_portion-portion.result ≡ taken_of l.providers (cells l) fd c.args.parts.now c.args.flags before e =
    (rw (c.providers-in-Some-room.ensures.providers, c.taken_before-before.ensures) at c.next_portion-portion.ensures) ∙ ap (λ (n : ℕ). portion_of l.providers c.args.parts.now c.args.flags before n e) room in
    let ends : c.outcome.result ≡ Send.outcome e (length bytes) (before + c.next_portion-portion.result.count) = rw (c.is_done-is_done.ensures, c.taken_before-before.ensures) at c.outcome.ensures in
    made-after l m fd (giving l.providers fd (number_of c.peer-peer.result) bytes c.next_portion-portion.result) c.outcome.result c.with_outcome.result c.in_ok-give-in-Some-room.ensures.kept c.in_ok-give-in-Some-room.ensures.ok c.with_outcome.ensures
    ∙ ap (λ x. Some (made l.providers fd x (changed l.providers (cells l) (giving l.providers fd (number_of c.peer-peer.result) bytes c.next_portion-portion.result)))) ends
    ∙ ap (λ (x : Option ℕ). Some (made l.providers fd (Send.outcome e (length bytes) (before + c.next_portion-portion.result.count)) (changed l.providers (cells l) (giving l.providers fd x bytes c.next_portion-portion.result)))) peer
    ∙ ap (λ (x : Portion). Some (made l.providers fd (Send.outcome e (length bytes) (before + x.count)) (changed l.providers (cells l) (giving l.providers fd e.peer bytes x)))) q
    ∙ sym (send-went l.providers (cells l) fd c.args.parts.now c.args.flags c.args.go e (sym c.in-Some.ensures.endpoint) u t)

pub returns-in-None-clause-step : goal.returns-in-None-clause-step
returns-in-None-clause-step c =
    let l = c.args.lent.now in
    let e = parts c.in-Some.e.now in
    let u : Unrefused l.providers (length c.args.parts.now) (concat c.args.parts.now) c.args.flags (taken_before c.args.go) e = unrefused l.providers c.providers.result.now c.args.parts.now c.args.flags (taken_before c.args.go) c.taken_before-before.result c.in-Some.e.now c.in_default-refusal.ensures c.providers.ensures.providers c.taken_before-before.ensures in
    let peer : number_of c.peer-peer.result ≡ e.peer = c.peer-peer.ensures ∙ peer-named c.in-Some.e.now.body in
    let link : seen c.linked_with.result ≡ linked l.providers (cells l) c.args.fd.0 e = c.linked_with.ensures.linked ∙ ap (linked_with l c.args.fd.0) peer in
    let t : ready_for (is_expedited c.args.flags) e (linked l.providers (cells l) c.args.fd.0 e) ≡ false = rw (link, c.is_expedited.ensures) at (sym c.in-None.ensures.ready) in
    c.refuse_flow.ensures.step ∙ sym (send-flow l.providers (cells l) c.args.fd.0 (length c.args.parts.now) (concat c.args.parts.now) c.args.flags c.args.go e (sym c.in-Some.ensures.endpoint) u t (sym c.nonblock.ensures ∙ c.if-nonblock.true))

pub returns-in-None-2-clause-step : goal.returns-in-None-2-clause-step
returns-in-None-2-clause-step c =
    let l = c.args.lent.now in
    let e = parts c.in-Some.e.now in
    let u : Unrefused l.providers (length c.args.parts.now) (concat c.args.parts.now) c.args.flags (taken_before c.args.go) e = unrefused l.providers c.providers.result.now c.args.parts.now c.args.flags (taken_before c.args.go) c.taken_before-before.result c.in-Some.e.now c.in_default-refusal.ensures c.providers.ensures.providers c.taken_before-before.ensures in
    let peer : number_of c.peer-peer.result ≡ e.peer = c.peer-peer.ensures ∙ peer-named c.in-Some.e.now.body in
    let link : seen c.linked_with.result ≡ linked l.providers (cells l) c.args.fd.0 e = c.linked_with.ensures.linked ∙ ap (linked_with l c.args.fd.0) peer in
    let t : ready_for (is_expedited c.args.flags) e (linked l.providers (cells l) c.args.fd.0 e) ≡ false = rw (link, c.is_expedited.ensures) at (sym c.in-None-2.ensures.ready) in
    sym (send-blocked l.providers (cells l) c.args.fd.0 (length c.args.parts.now) (concat c.args.parts.now) c.args.flags c.args.go e (sym c.in-Some.ensures.endpoint) u t (sym c.nonblock.ensures ∙ c.if-nonblock.false))

pub returns-in_default-clause-still : goal.returns-in_default-clause-still
returns-in_default-clause-still c = λ _. refl

pub returns-in-Some-refusal-clause-still : goal.returns-in-Some-refusal-clause-still
returns-in-Some-refusal-clause-still c = λ _. refl

pub returns-in-None-2-clause-still : goal.returns-in-None-2-clause-still
returns-in-None-2-clause-still c = λ _. refl

pub returns-in_default-clause-sure : goal.returns-in_default-clause-sure
returns-in_default-clause-sure c = λ _. refl

pub returns-in_default-clause-err : goal.returns-in_default-clause-err
returns-in_default-clause-err c = tt

pub returns-in-Some-refusal-clause-sure : goal.returns-in-Some-refusal-clause-sure
returns-in-Some-refusal-clause-sure c = λ _. refl

pub returns-in-Some-refusal-clause-err : goal.returns-in-Some-refusal-clause-err
returns-in-Some-refusal-clause-err c = tt

pub returns-in_ok-give-in-Some-room-clause-sure : goal.returns-in_ok-give-in-Some-room-clause-sure
returns-in_ok-give-in-Some-room-clause-sure c = λ _. refl

pub returns-in_ok-give-in-Some-room-clause-err : goal.returns-in_ok-give-in-Some-room-clause-err
returns-in_ok-give-in-Some-room-clause-err c = tt

pub returns-in-None-clause-sure : goal.returns-in-None-clause-sure
returns-in-None-clause-sure c = λ _. refl

pub returns-in-None-clause-err : goal.returns-in-None-clause-err
returns-in-None-clause-err c = tt

pub returns-in-None-2-clause-sure : goal.returns-in-None-2-clause-sure
returns-in-None-2-clause-sure c = λ _. refl

pub returns-in-None-2-clause-err : goal.returns-in-None-2-clause-err
returns-in-None-2-clause-err c = tt

pub returns-in_ok-give-in-Some-room-clause-kept : goal.returns-in_ok-give-in-Some-room-clause-kept
returns-in_ok-give-in-Some-room-clause-kept c = c.in_ok-give-in-Some-room.ensures.kept

pub returns-in_err-give-in-Some-room-clause-kept : goal.returns-in_err-give-in-Some-room-clause-kept
returns-in_err-give-in-Some-room-clause-kept c = c.in_err-give-in-Some-room.ensures.kept

pub returns-in-None-clause-kept : goal.returns-in-None-clause-kept
returns-in-None-clause-kept c = c.refuse_flow.ensures.kept

pub room-requires-clause-peer : goal.room-requires-clause-peer
room-requires-clause-peer c = c.linked_with.ensures.open

pub give-requires-clause-own : goal.give-requires-clause-own
give-requires-clause-own c = c.requires.fit.places

pub refuse_flow-requires-clause-own : goal.refuse_flow-requires-clause-own
refuse_flow-requires-clause-own c = c.requires.fit.places

pub give-requires-clause-sender : goal.give-requires-clause-sender
give-requires-clause-sender c = ap is_some c.in-Some.ensures.held

pub refuse_flow-requires-clause-there : goal.refuse_flow-requires-clause-there
refuse_flow-requires-clause-there c = ap is_some c.in-Some.ensures.held

pub open_endpoint-requires : goal.open_endpoint-requires
open_endpoint-requires c = c.requires.fit.places

pub done-requires : goal.done-requires
done-requires c = c.requires.fit.places

pub returns-in_default-clause-step : goal.returns-in_default-clause-step
returns-in_default-clause-step c =
    let l = c.args.lent.now in
    c.done.ensures ∙ ap (λ (r : Reply). Some (made l.providers c.args.fd.0 (Done r) (cells l))) c.told.ensures
    ∙ send-shut l.providers (cells l) c.args.fd.0 (length c.args.parts.now) (concat c.args.parts.now) c.args.flags c.args.go (sym c.in_default.ensures.endpoint)

pub returns-in_default-clause-kept : goal.returns-in_default-clause-kept
returns-in_default-clause-kept c = same-cells _

pub overflow_cast-before : goal.overflow_cast-before
overflow_cast-before c = record { fits = wide c.taken_before-before.result c.taken_before-before.type_inv }

pub refusal-requires : goal.refusal-requires
refusal-requires c = open-as c.args.lent.now.providers c.args.fd.0 c.in-Some.e.now c.in-Some.ensures.open

pub done-requires-in-Some-refusal : goal.done-requires-in-Some-refusal
done-requires-in-Some-refusal c = c.requires.fit.places

pub returns-in-Some-refusal-clause-kept : goal.returns-in-Some-refusal-clause-kept
returns-in-Some-refusal-clause-kept c = same-cells _

pub linked_with-requires : goal.linked_with-requires
linked_with-requires c = c.requires.fit.places

pub room-requires-clause-open : goal.room-requires-clause-open
room-requires-clause-open c = open-as c.args.lent.now.providers c.args.fd.0 c.in-Some.e.now c.in-Some.ensures.open

pub next_portion-portion-requires-clause-open : goal.next_portion-portion-requires-clause-open
next_portion-portion-requires-clause-open c = open-as c.args.lent.now.providers c.args.fd.0 c.in-Some.e.now c.in-Some.ensures.open

pub overflow_add-taken : goal.overflow_add-taken
overflow_add-taken c =
    let l = c.args.lent.now in
    let e = parts c.in-Some.e.now in
    let few = few-bytes l.providers (length c.args.parts.now) (concat c.args.parts.now) c.args.flags (taken_before c.args.go) e
    (unrefused l.providers c.providers.result.now c.args.parts.now c.args.flags (taken_before c.args.go) c.taken_before-before.result c.in-Some.e.now c.in_default-refusal.ensures c.providers.ensures.providers c.taken_before-before.ensures) in
    record { fits = wide _ (taken-fits c.providers-in-Some-room.result.now c.args.parts.now c.args.flags c.taken_before-before.result c.in-Some-room.room e c.next_portion-portion.result c.next_portion-portion.ensures few c.taken_before-before.type_inv) }

pub is_done-is_done-requires-clause-open : goal.is_done-is_done-requires-clause-open
is_done-is_done-requires-clause-open c = open-as c.args.lent.now.providers c.args.fd.0 c.in-Some.e.now c.in-Some.ensures.open

pub give-requires-clause-parts : goal.give-requires-clause-parts
give-requires-clause-parts c =
    let l = c.args.lent.now in
    let e = parts c.in-Some.e.now in
    let few = few-bytes l.providers (length c.args.parts.now) (concat c.args.parts.now) c.args.flags (taken_before c.args.go) e
    (unrefused l.providers c.providers.result.now c.args.parts.now c.args.flags (taken_before c.args.go) c.taken_before-before.result c.in-Some.e.now c.in_default-refusal.ensures c.providers.ensures.providers c.taken_before-before.ensures) in
    portion-of-parts c.providers-in-Some-room.result.now c.args.parts.now c.args.flags c.taken_before-before.result c.in-Some-room.room e c.next_portion-portion.result c.next_portion-portion.ensures few

pub returns-in_err-give-in-Some-room-clause-step : goal.returns-in_err-give-in-Some-room-clause-step
returns-in_err-give-in-Some-room-clause-step c = IfOk-from_err _ _ c.from_residual.ensures.0

pub returns-in_err-give-in-Some-room-clause-still : goal.returns-in_err-give-in-Some-room-clause-still
returns-in_err-give-in-Some-room-clause-still c = IfOk-from_err _ _ c.from_residual.ensures.0

pub returns-in_err-give-in-Some-room-clause-err : goal.returns-in_err-give-in-Some-room-clause-err
returns-in_err-give-in-Some-room-clause-err c = on-any-err _ c.in_err-give-in-Some-room.ensures.err

pub overflow_cast-taken : goal.overflow_cast-taken
overflow_cast-taken c =
    let l = c.args.lent.now in
    let e = parts c.in-Some.e.now in
    let few = few-bytes l.providers (length c.args.parts.now) (concat c.args.parts.now) c.args.flags (taken_before c.args.go) e
    (unrefused l.providers c.providers.result.now c.args.parts.now c.args.flags (taken_before c.args.go) c.taken_before-before.result c.in-Some.e.now c.in_default-refusal.ensures c.providers.ensures.providers c.taken_before-before.ensures) in
    record { fits = taken-fits c.providers-in-Some-room.result.now c.args.parts.now c.args.flags c.taken_before-before.result c.in-Some-room.room e c.next_portion-portion.result c.next_portion-portion.ensures few c.taken_before-before.type_inv }

pub with_outcome-requires : goal.with_outcome-requires
with_outcome-requires c = own-kept c.args.lent.now c.give.new.lent c.in_ok-give-in-Some-room.ensures.kept c.requires.fit.places

pub nonblock-requires : goal.nonblock-requires
nonblock-requires c = open-as c.args.lent.now.providers c.args.fd.0 c.in-Some.e.now c.in-Some.ensures.open

pub returns-in_ok-give-in-Some-room-clause-still : goal.returns-in_ok-give-in-Some-room-clause-still
returns-in_ok-give-in-Some-room-clause-still c = not-blocked c.args.lent.now c.give.new.lent c.with_outcome.result _ c.with_outcome.ensures

pub returns-in-None-clause-still : goal.returns-in-None-clause-still
returns-in-None-clause-still c = not-blocked c.args.lent.now c.refuse_flow.new.lent c.refuse_flow.result _ c.refuse_flow.ensures.step

pub returns-in-None-2-clause-kept : goal.returns-in-None-2-clause-kept
returns-in-None-2-clause-kept c = same-cells _
