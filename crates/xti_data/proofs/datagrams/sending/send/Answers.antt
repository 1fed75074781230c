use Rattle.std.proofs.Common.{◌≡◌, ◌∙◌, refl, sym, ap, subst, Option, length, None, Some, true, false}
use Rattle.std.specs.List.{concat}
use Rattle.std.specs.Prelude.{IfSome, is_some}
use Rattle.xti_model.specs.Spot.{spot_bytes}
use Rattle.xti_model.specs.Plan.{first, answers}
use Rattle.xti_model.specs.Sending.{takes_datagram}
use Rattle.xti_model.specs.World.{endpoint}
use Rattle.xti_model.specs.Calls.Datagrams.{send_changes, send_rows}
use Rattle.xti_model.specs.Endpoint.{Endpoint}
use Rattle.xti_end.specs.Held.{parts}
use Rattle.xti_lent.specs.Answers.{Changed}
use Rattle.xti_lent.specs.Lending.{cells, number_of}
use Rattle.xti_lent.proofs.Written.{own-kept}
use Rattle.xti_data.proofs.DatagramReached.{receiver-reached}
use Rattle.xti_data.proofs.DatagramRows.{Unrefused, address-within, datagram-went, there, options-within, send-blocked, send-effect, send-refused, send-shut, small-data, flow-left}
use Rattle.xti_lent.proofs.Returned.{not-blocked, on-any-err, open-as, same-cells}
use Rattle.std.proofs.lemmas.Result.{IfOk-from_err}
use Rattle.xti_data.proofs.datagrams.sending.send.Goals as goal

pub returns-in-Some-refusal-clause-step : goal.returns-in-Some-refusal-clause-step
returns-in-Some-refusal-clause-step c =
    let o : endpoint c.args.lent.now.providers (cells c.args.lent.now) c.args.fd.0 ≡ Some (parts c.in-Some.e.now) = sym c.in-Some.ensures.endpoint in
    let r : first (send_rows c.args.lent.now.providers c.args.address.now c.args.options.now (length c.args.parts.now) (concat c.args.parts.now) None (parts c.in-Some.e.now)) ≡ Some (answers c.in-Some-refusal.reply) = rw c.providers.ensures.providers at (sym c.in-Some-refusal.ensures) in
    c.done.ensures ∙ sym (send-refused c.args.lent.now.providers (cells c.args.lent.now) c.args.fd.0 c.args.address.now c.args.options.now (length c.args.parts.now) (concat c.args.parts.now) (parts c.in-Some.e.now) c.in-Some-refusal.reply o r)

pub deliver-requires-clause-data : goal.deliver-requires-clause-data
deliver-requires-clause-data c =
    let u : Unrefused c.args.lent.now.providers c.args.address.now c.args.options.now (length c.args.parts.now) (concat c.args.parts.now) (parts c.in-Some.e.now) = rw c.providers.ensures.providers at (sym c.in_default-refusal.ensures) in
    small-data c.args.lent.now.providers c.args.address.now c.args.options.now (length c.args.parts.now) (concat c.args.parts.now) (parts c.in-Some.e.now) c.providers.ensures.valid u

pub returns-then-nonblock-clause-step : goal.returns-then-nonblock-clause-step
returns-then-nonblock-clause-step c =
    let o : endpoint c.args.lent.now.providers (cells c.args.lent.now) c.args.fd.0 ≡ Some (parts c.in-Some.e.now) = sym c.in-Some.ensures.endpoint in
    let u : Unrefused c.args.lent.now.providers c.args.address.now c.args.options.now (length c.args.parts.now) (concat c.args.parts.now) (parts c.in-Some.e.now) = rw c.providers.ensures.providers at (sym c.in_default-refusal.ensures) in
    let t : takes_datagram (there c.args.lent.now.providers (cells c.args.lent.now) c.args.address.now (parts c.in-Some.e.now)) ≡ false = rw (c.receiver-to.ensures, c.prov.ensures) at (sym c.takes_datagram.ensures ∙ c.if-takes_datagram.false) in
    flow-left c.args.lent.now c.mark_flow.new.lent c.args.fd.0 c.args.address.now c.args.options.now (length c.args.parts.now) (concat c.args.parts.now) (parts c.in-Some.e.now) (spot_bytes c.of.result) c.refused-then-nonblock.result o u t
    (sym c.nonblock-nonblock.ensures ∙ c.if-nonblock.true) c.of.ensures c.mark_flow.ensures.kept c.mark_flow.ensures.cells c.refused-then-nonblock.ensures

pub returns-in_err-deliver-clause-sure : goal.returns-in_err-deliver-clause-sure
returns-in_err-deliver-clause-sure c =
    λ none.
    let l = c.args.lent.now in
    let e = parts c.in-Some.e.now in
    let u : Unrefused l.providers c.args.address.now c.args.options.now (length c.args.parts.now) (concat c.args.parts.now) e = rw c.providers.ensures.providers at (sym c.in_default-refusal.ensures) in
    let t : takes_datagram (there l.providers (cells l) c.args.address.now e) ≡ true = rw (c.receiver-to.ensures, c.prov.ensures) at (sym c.takes_datagram.ensures ∙ c.if-takes_datagram.true) in
    let no : true ≡ false = sym (send-effect l.providers (cells l) c.args.fd.0 c.args.address.now c.args.options.now (length c.args.parts.now) (concat c.args.parts.now) e (sym c.in-Some.ensures.endpoint) u t) ∙ none in
    cc no

pub returns-else-nonblock-clause-step : goal.returns-else-nonblock-clause-step
returns-else-nonblock-clause-step c =
    let l = c.args.lent.now in
    let e = parts c.in-Some.e.now in
    let u : Unrefused l.providers c.args.address.now c.args.options.now (length c.args.parts.now) (concat c.args.parts.now) e = rw c.providers.ensures.providers at (sym c.in_default-refusal.ensures) in
    let t : takes_datagram (there l.providers (cells l) c.args.address.now e) ≡ false = rw (c.receiver-to.ensures, c.prov.ensures) at (sym c.takes_datagram.ensures ∙ c.if-takes_datagram.false) in
    sym (send-blocked l.providers (cells l) c.args.fd.0 c.args.address.now c.args.options.now (length c.args.parts.now) (concat c.args.parts.now) e (sym c.in-Some.ensures.endpoint) u t (sym c.nonblock-nonblock.ensures ∙ c.if-nonblock.false))

pub returns-in_ok-deliver-clause-step : goal.returns-in_ok-deliver-clause-step
returns-in_ok-deliver-clause-step c =
    let l = c.args.lent.now in
    let m = c.deliver.new.lent in
    let e = parts c.in-Some.e.now in
    let u : Unrefused l.providers c.args.address.now c.args.options.now (length c.args.parts.now) (concat c.args.parts.now) e = rw c.providers.ensures.providers at (sym c.in_default-refusal.ensures) in
    let t : takes_datagram (there l.providers (cells l) c.args.address.now e) ≡ true = rw (c.receiver-to.ensures, c.prov.ensures) at (sym c.takes_datagram.ensures ∙ c.if-takes_datagram.true) in
    let went : Changed (send_changes c.args.fd.0 c.args.address.now c.args.options.now (concat c.args.parts.now) (number_of c.receiver-to.result) e) l m =
    subst (λ (x : Option Endpoint). IfSome x (λ e. Changed (send_changes c.args.fd.0 c.args.address.now c.args.options.now (concat c.args.parts.now) (number_of c.receiver-to.result) e) l m)) (sym c.in-Some.ensures.endpoint) c.in_ok-deliver.ensures.ok in
    datagram-went l m c.args.fd.0 c.args.address.now c.args.options.now (length c.args.parts.now) (concat c.args.parts.now) e (number_of c.receiver-to.result) c.done-then-takes_datagram.result
    (sym c.in-Some.ensures.endpoint) u t (rw c.prov.ensures at c.receiver-to.ensures) c.in_ok-deliver.ensures.kept went c.done-then-takes_datagram.ensures

pub open_endpoint-requires : goal.open_endpoint-requires
open_endpoint-requires c = c.requires.fit.places

pub refused-requires : goal.refused-requires
refused-requires c = c.requires.fit.places

pub returns-in_default-clause-step : goal.returns-in_default-clause-step
returns-in_default-clause-step c =
    let l = c.args.lent.now in
    c.refused.ensures ∙ send-shut l.providers (cells l) c.args.fd.0 c.args.address.now c.args.options.now (length c.args.parts.now) (concat c.args.parts.now) (sym c.in_default.ensures.endpoint)

pub returns-in_default-clause-still : goal.returns-in_default-clause-still
returns-in_default-clause-still c = λ _. refl

pub returns-in_default-clause-kept : goal.returns-in_default-clause-kept
returns-in_default-clause-kept c = same-cells _

pub returns-in_default-clause-err : goal.returns-in_default-clause-err
returns-in_default-clause-err c = tt

pub returns-in_default-clause-sure : goal.returns-in_default-clause-sure
returns-in_default-clause-sure c = λ _. refl

pub refusal-requires : goal.refusal-requires
refusal-requires c = open-as c.args.lent.now.providers c.args.fd.0 c.in-Some.e.now c.in-Some.ensures.open

pub done-requires : goal.done-requires
done-requires c = c.requires.fit.places

pub returns-in-Some-refusal-clause-still : goal.returns-in-Some-refusal-clause-still
returns-in-Some-refusal-clause-still c = λ _. refl

pub returns-in-Some-refusal-clause-kept : goal.returns-in-Some-refusal-clause-kept
returns-in-Some-refusal-clause-kept c = same-cells _

pub returns-in-Some-refusal-clause-err : goal.returns-in-Some-refusal-clause-err
returns-in-Some-refusal-clause-err c = tt

pub returns-in-Some-refusal-clause-sure : goal.returns-in-Some-refusal-clause-sure
returns-in-Some-refusal-clause-sure c = λ _. refl

pub nonblock-nonblock-requires : goal.nonblock-nonblock-requires
nonblock-nonblock-requires c = open-as c.args.lent.now.providers c.args.fd.0 c.in-Some.e.now c.in-Some.ensures.open

pub prov-requires : goal.prov-requires
prov-requires c = open-as c.args.lent.now.providers c.args.fd.0 c.in-Some.e.now c.in-Some.ensures.open

pub receiver-to-requires : goal.receiver-to-requires
receiver-to-requires c = c.requires.reach.table

pub takes_datagram-requires : goal.takes_datagram-requires
takes_datagram-requires c = c.requires.fit.places

pub deliver-requires-clause-fit : goal.deliver-requires-clause-fit
deliver-requires-clause-fit c = c.requires.fit

pub deliver-requires-clause-open : goal.deliver-requires-clause-open
deliver-requires-clause-open c = ap is_some (sym c.in-Some.ensures.endpoint)

pub deliver-requires-clause-sender : goal.deliver-requires-clause-sender
deliver-requires-clause-sender c = ap is_some c.in-Some.ensures.held

pub deliver-requires-clause-receiver : goal.deliver-requires-clause-receiver
deliver-requires-clause-receiver c =
    receiver-reached c.args.lent.now c.args.fd.0 c.args.address.now (parts c.in-Some.e.now) c.receiver-to.result c.requires.reach (sym c.in-Some.ensures.endpoint) (rw c.prov.ensures at c.receiver-to.ensures)

pub deliver-requires-clause-address : goal.deliver-requires-clause-address
deliver-requires-clause-address c =
    let u : Unrefused c.args.lent.now.providers c.args.address.now c.args.options.now (length c.args.parts.now) (concat c.args.parts.now) (parts c.in-Some.e.now) = rw c.providers.ensures.providers at (sym c.in_default-refusal.ensures) in
    address-within c.args.lent.now.providers c.args.address.now c.args.options.now (length c.args.parts.now) (concat c.args.parts.now) (parts c.in-Some.e.now) u

pub deliver-requires-clause-options : goal.deliver-requires-clause-options
deliver-requires-clause-options c =
    let u : Unrefused c.args.lent.now.providers c.args.address.now c.args.options.now (length c.args.parts.now) (concat c.args.parts.now) (parts c.in-Some.e.now) = rw c.providers.ensures.providers at (sym c.in_default-refusal.ensures) in
    options-within c.args.lent.now.providers c.args.address.now c.args.options.now (length c.args.parts.now) (concat c.args.parts.now) (parts c.in-Some.e.now) u

pub returns-in_err-deliver-clause-step : goal.returns-in_err-deliver-clause-step
returns-in_err-deliver-clause-step c = IfOk-from_err _ _ c.from_residual.ensures.0

pub returns-in_err-deliver-clause-still : goal.returns-in_err-deliver-clause-still
returns-in_err-deliver-clause-still c = IfOk-from_err _ _ c.from_residual.ensures.0

pub returns-in_err-deliver-clause-kept : goal.returns-in_err-deliver-clause-kept
returns-in_err-deliver-clause-kept c = c.in_err-deliver.ensures.kept

pub returns-in_err-deliver-clause-err : goal.returns-in_err-deliver-clause-err
returns-in_err-deliver-clause-err c = on-any-err _ c.in_err-deliver.ensures.err

pub done-requires-then-takes_datagram : goal.done-requires-then-takes_datagram
done-requires-then-takes_datagram c = own-kept c.args.lent.now c.deliver.new.lent c.in_ok-deliver.ensures.kept c.requires.fit.places

pub mark_flow-requires-clause-own : goal.mark_flow-requires-clause-own
mark_flow-requires-clause-own c = c.requires.fit.places

pub mark_flow-requires-clause-there : goal.mark_flow-requires-clause-there
mark_flow-requires-clause-there c = ap is_some c.in-Some.ensures.held

pub refused-requires-then-nonblock : goal.refused-requires-then-nonblock
refused-requires-then-nonblock c = own-kept c.args.lent.now c.mark_flow.new.lent c.mark_flow.ensures.kept c.requires.fit.places

pub returns-in_ok-deliver-clause-still : goal.returns-in_ok-deliver-clause-still
returns-in_ok-deliver-clause-still c = not-blocked c.args.lent.now c.deliver.new.lent c.done-then-takes_datagram.result _ c.done-then-takes_datagram.ensures

pub returns-in_ok-deliver-clause-kept : goal.returns-in_ok-deliver-clause-kept
returns-in_ok-deliver-clause-kept c = c.in_ok-deliver.ensures.kept

pub returns-in_ok-deliver-clause-err : goal.returns-in_ok-deliver-clause-err
returns-in_ok-deliver-clause-err c = tt

pub returns-in_ok-deliver-clause-sure : goal.returns-in_ok-deliver-clause-sure
returns-in_ok-deliver-clause-sure c = λ _. refl

pub returns-then-nonblock-clause-still : goal.returns-then-nonblock-clause-still
returns-then-nonblock-clause-still c = not-blocked c.args.lent.now c.mark_flow.new.lent c.refused-then-nonblock.result _ c.refused-then-nonblock.ensures

pub returns-then-nonblock-clause-kept : goal.returns-then-nonblock-clause-kept
returns-then-nonblock-clause-kept c = c.mark_flow.ensures.kept

pub returns-then-nonblock-clause-err : goal.returns-then-nonblock-clause-err
returns-then-nonblock-clause-err c = tt

pub returns-then-nonblock-clause-sure : goal.returns-then-nonblock-clause-sure
returns-then-nonblock-clause-sure c = λ _. refl

pub returns-else-nonblock-clause-still : goal.returns-else-nonblock-clause-still
returns-else-nonblock-clause-still c = λ _. refl

pub returns-else-nonblock-clause-kept : goal.returns-else-nonblock-clause-kept
returns-else-nonblock-clause-kept c = same-cells _

pub returns-else-nonblock-clause-err : goal.returns-else-nonblock-clause-err
returns-else-nonblock-clause-err c = tt

pub returns-else-nonblock-clause-sure : goal.returns-else-nonblock-clause-sure
returns-else-nonblock-clause-sure c = λ _. refl
