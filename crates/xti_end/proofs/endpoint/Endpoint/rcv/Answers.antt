use Rattle.std.proofs.Common.{◌≡◌, ◌∙◌, ap, sym, refl, cond, Some, None, true, false}
use Rattle.std.proofs.lemmas.Bool.{le-ltb, lt-ltb}
use Rattle.std.proofs.lemmas.Result.{IfOk-from_err}
use Rattle.xti_base.specs.declared.errno.Errno.TheVariants.{TNODATA}
use Rattle.xti_base.specs.declared.limits.TheConstants.{MOST_PARTS}
use Rattle.xti_model.specs.declared.entry.Outcome.TheVariants.{Done}
use Rattle.xti_model.specs.declared.entry.Reply.TheVariants.{Look, Refused}
use Rattle.xti_model.specs.Calls.Receive as Receive
use Rattle.xti_model.specs.Plan.{answers, waits}
use Rattle.xti_model.specs.Step.{made}
use Rattle.xti_end.specs.Held.{Held, alone, parts}
use Rattle.xti_end.specs.Taken.{data_reply}
use Rattle.xti_end.proofs.Rows.{alone-changed, alone-open, alone-shut, receive-by, receive-effect, receive-first}
use Rattle.xti_end.proofs.Rooms.{after_change, as_before, on_any_err, same_room}
use Rattle.xti_end.proofs.endpoint.Endpoint.rcv.Goals as goal

pub returns-then-not-has_connections-clause-step : goal.returns-then-not-has_connections-clause-step
returns-then-not-has_connections-clause-step c =
    let opened = alone-open c.args.p.now c.args.fd.0 c.args.self.now (sym c.is.ensures ∙ c.if-not-is.false) in
    let connections = rw c.prov.ensures at (sym c.has_connections.ensures ∙ c.if-not-has_connections.true) in
    c.refused-then-not-has_connections.ensures ∙ rw (opened, connections, opened) refl

pub returns-then-not-is_receiving-clause-step : goal.returns-then-not-is_receiving-clause-step
returns-then-not-is_receiving-clause-step c =
    let opened = alone-open c.args.p.now c.args.fd.0 c.args.self.now (sym c.is.ensures ∙ c.if-not-is.false) in
    let connections = rw c.prov.ensures at (sym c.has_connections.ensures ∙ c.if-not-has_connections.false) in
    let state = rw c.state.ensures at (sym c.is_receiving.ensures ∙ c.if-not-is_receiving.true) in
    c.refused-then-not-is_receiving.ensures ∙ rw (opened, connections, state, opened) refl

pub returns-then-sizes-gt-MOST_PARTS-clause-step : goal.returns-then-sizes-gt-MOST_PARTS-clause-step
returns-then-sizes-gt-MOST_PARTS-clause-step c =
    let opened = alone-open c.args.p.now c.args.fd.0 c.args.self.now (sym c.is.ensures ∙ c.if-not-is.false) in
    let connections = rw c.prov.ensures at (sym c.has_connections.ensures ∙ c.if-not-has_connections.false) in
    let state = rw c.state.ensures at (sym c.is_receiving.ensures ∙ c.if-not-is_receiving.false) in
    let many = lt-ltb MOST_PARTS c.args.sizes.count c.if-sizes-gt-MOST_PARTS.true in
    c.refused-then-sizes-gt-MOST_PARTS.ensures ∙ rw (opened, connections, state, many, opened) refl

pub returns-in-Some-clause-step : goal.returns-in-Some-clause-step
returns-in-Some-clause-step c =
    let p = c.args.p.now in
    let h = c.args.self.now in
    let fd = c.args.fd.0 in
    let s = c.args.sizes in
    let o = sym c.is.ensures ∙ c.if-not-is.false in
    let connections = rw c.prov.ensures at (sym c.has_connections.ensures ∙ c.if-not-has_connections.false) in
    let state = rw c.state.ensures at (sym c.is_receiving.ensures ∙ c.if-not-is_receiving.false) in
    let few = le-ltb MOST_PARTS c.args.sizes.count c.if-sizes-gt-MOST_PARTS.false in
    c.done.ensures ∙ receive-by p h fd s (Some (answers (Look c.in-Some.event))) o (receive-first s.count (parts h) (Some c.in-Some.event) connections state few (sym c.in-Some.ensures))

pub returns-in_err-reply-clause-sure : goal.returns-in_err-reply-clause-sure
returns-in_err-reply-clause-sure c =
    let p = c.args.p.now in
    let h = c.args.self.now in
    let fd = c.args.fd.0 in
    let s = c.args.sizes in
    let o = sym c.is.ensures ∙ c.if-not-is.false in
    let connections = rw c.prov.ensures at (sym c.has_connections.ensures ∙ c.if-not-has_connections.false) in
    let state = rw c.state.ensures at (sym c.is_receiving.ensures ∙ c.if-not-is_receiving.false) in
    let few = le-ltb MOST_PARTS c.args.sizes.count c.if-sizes-gt-MOST_PARTS.false in
    let nothing = sym c.has_nothing.ensures ∙ c.if-not-has_nothing.true in
    let refusal = receive-first s.count (parts h) None connections state few (sym c.in_default.ensures) ∙ ap (λ b. cond b (Some (waits (Refused TNODATA))) None) nothing in
    λ none.
    let no : true ≡ false = sym (receive-effect p h fd s None o refusal) ∙ none in
    cc no

pub returns-in_ok-reply-clause-step : goal.returns-in_ok-reply-clause-step
returns-in_ok-reply-clause-step c =
    let p = c.args.p.now in
    let h = c.args.self.now in
    let fd = c.args.fd.0 in
    let s = c.args.sizes in
    let o = sym c.is.ensures ∙ c.if-not-is.false in
    let connections = rw c.prov.ensures at (sym c.has_connections.ensures ∙ c.if-not-has_connections.false) in
    let state = rw c.state.ensures at (sym c.is_receiving.ensures ∙ c.if-not-is_receiving.false) in
    let few = le-ltb MOST_PARTS c.args.sizes.count c.if-sizes-gt-MOST_PARTS.false in
    let nothing = sym c.has_nothing.ensures ∙ c.if-not-has_nothing.true in
    let refusal = receive-first s.count (parts h) None connections state few (sym c.in_default.ensures) ∙ ap (λ b. cond b (Some (waits (Refused TNODATA))) None) nothing in
    c.done-then-not-has_nothing.ensures ∙
    (ap (λ r. Some (made p fd (Done r) (alone c.receive_data.new.self))) c.in_ok-reply.ensures.reply ∙
    (ap (λ (x : Held). Some (made p fd (Done (data_reply p s.total h)) (alone x))) c.in_ok-reply.ensures.left ∙
    (ap (λ w. Some (made p fd (Done (data_reply p s.total h)) w)) (sym (alone-changed p fd h (Receive.received p s.total) o)) ∙
    receive-by p h fd s None o refusal)))

pub returns-then-nonblock-clause-step : goal.returns-then-nonblock-clause-step
returns-then-nonblock-clause-step c =
    let p = c.args.p.now in
    let h = c.args.self.now in
    let fd = c.args.fd.0 in
    let s = c.args.sizes in
    let o = sym c.is.ensures ∙ c.if-not-is.false in
    let connections = rw c.prov.ensures at (sym c.has_connections.ensures ∙ c.if-not-has_connections.false) in
    let state = rw c.state.ensures at (sym c.is_receiving.ensures ∙ c.if-not-is_receiving.false) in
    let few = le-ltb MOST_PARTS c.args.sizes.count c.if-sizes-gt-MOST_PARTS.false in
    let nothing = sym c.has_nothing.ensures ∙ c.if-not-has_nothing.false in
    let refusal = receive-first s.count (parts h) None connections state few (sym c.in_default.ensures) ∙ ap (λ b. cond b (Some (waits (Refused TNODATA))) None) nothing in
    let wait = Some (made p fd (Done (Refused TNODATA)) (alone h)) in
    c.refused-then-nonblock.ensures ∙ (sym (ap (λ b. cond b wait None) (sym c.nonblock.ensures ∙ c.if-nonblock.true)) ∙ receive-by p h fd s (Some (waits (Refused TNODATA))) o refusal)

pub returns-else-nonblock-clause-step : goal.returns-else-nonblock-clause-step
returns-else-nonblock-clause-step c =
    let p = c.args.p.now in
    let h = c.args.self.now in
    let fd = c.args.fd.0 in
    let s = c.args.sizes in
    let o = sym c.is.ensures ∙ c.if-not-is.false in
    let connections = rw c.prov.ensures at (sym c.has_connections.ensures ∙ c.if-not-has_connections.false) in
    let state = rw c.state.ensures at (sym c.is_receiving.ensures ∙ c.if-not-is_receiving.false) in
    let few = le-ltb MOST_PARTS c.args.sizes.count c.if-sizes-gt-MOST_PARTS.false in
    let nothing = sym c.has_nothing.ensures ∙ c.if-not-has_nothing.false in
    let refusal = receive-first s.count (parts h) None connections state few (sym c.in_default.ensures) ∙ ap (λ b. cond b (Some (waits (Refused TNODATA))) None) nothing in
    let wait = Some (made p fd (Done (Refused TNODATA)) (alone h)) in
    sym (ap (λ b. cond b wait None) (sym c.nonblock.ensures ∙ c.if-nonblock.false)) ∙ receive-by p h fd s (Some (waits (Refused TNODATA))) o refusal

pub returns-then-not-is-clause-still : goal.returns-then-not-is-clause-still
returns-then-not-is-clause-still c = λ none. refl

pub returns-then-not-is-clause-room : goal.returns-then-not-is-clause-room
returns-then-not-is-clause-room c = same_room _

pub returns-then-not-is-clause-sure : goal.returns-then-not-is-clause-sure
returns-then-not-is-clause-sure c = λ none. refl

pub returns-then-not-has_connections-clause-still : goal.returns-then-not-has_connections-clause-still
returns-then-not-has_connections-clause-still c = λ none. refl

pub returns-then-not-has_connections-clause-room : goal.returns-then-not-has_connections-clause-room
returns-then-not-has_connections-clause-room c = same_room _

pub returns-then-not-has_connections-clause-sure : goal.returns-then-not-has_connections-clause-sure
returns-then-not-has_connections-clause-sure c = λ none. refl

pub returns-then-not-is_receiving-clause-still : goal.returns-then-not-is_receiving-clause-still
returns-then-not-is_receiving-clause-still c = λ none. refl

pub returns-then-not-is_receiving-clause-room : goal.returns-then-not-is_receiving-clause-room
returns-then-not-is_receiving-clause-room c = same_room _

pub returns-then-not-is_receiving-clause-sure : goal.returns-then-not-is_receiving-clause-sure
returns-then-not-is_receiving-clause-sure c = λ none. refl

pub returns-then-sizes-gt-MOST_PARTS-clause-still : goal.returns-then-sizes-gt-MOST_PARTS-clause-still
returns-then-sizes-gt-MOST_PARTS-clause-still c = λ none. refl

pub returns-then-sizes-gt-MOST_PARTS-clause-room : goal.returns-then-sizes-gt-MOST_PARTS-clause-room
returns-then-sizes-gt-MOST_PARTS-clause-room c = same_room _

pub returns-then-sizes-gt-MOST_PARTS-clause-sure : goal.returns-then-sizes-gt-MOST_PARTS-clause-sure
returns-then-sizes-gt-MOST_PARTS-clause-sure c = λ none. refl

pub returns-in-Some-clause-still : goal.returns-in-Some-clause-still
returns-in-Some-clause-still c = λ none. refl

pub returns-in-Some-clause-room : goal.returns-in-Some-clause-room
returns-in-Some-clause-room c = same_room _

pub returns-in-Some-clause-sure : goal.returns-in-Some-clause-sure
returns-in-Some-clause-sure c = λ none. refl

pub returns-then-nonblock-clause-still : goal.returns-then-nonblock-clause-still
returns-then-nonblock-clause-still c = λ none. refl

pub returns-then-nonblock-clause-room : goal.returns-then-nonblock-clause-room
returns-then-nonblock-clause-room c = same_room _

pub returns-then-nonblock-clause-sure : goal.returns-then-nonblock-clause-sure
returns-then-nonblock-clause-sure c = λ none. refl

pub returns-else-nonblock-clause-still : goal.returns-else-nonblock-clause-still
returns-else-nonblock-clause-still c = λ none. refl

pub returns-else-nonblock-clause-room : goal.returns-else-nonblock-clause-room
returns-else-nonblock-clause-room c = same_room _

pub returns-else-nonblock-clause-sure : goal.returns-else-nonblock-clause-sure
returns-else-nonblock-clause-sure c = λ none. refl

pub returns-in_err-reply-clause-step : goal.returns-in_err-reply-clause-step
returns-in_err-reply-clause-step c = IfOk-from_err _ _ c.from_residual.ensures.0

pub returns-in_err-reply-clause-still : goal.returns-in_err-reply-clause-still
returns-in_err-reply-clause-still c = IfOk-from_err _ _ c.from_residual.ensures.0

pub returns-in_err-reply-clause-room : goal.returns-in_err-reply-clause-room
returns-in_err-reply-clause-room c = as_before c.in_err-reply.ensures.err

pub returns-in_err-reply-clause-err : goal.returns-in_err-reply-clause-err
returns-in_err-reply-clause-err c = on_any_err _ c.in_err-reply.ensures.err

pub returns-in_ok-reply-clause-still : goal.returns-in_ok-reply-clause-still
returns-in_ok-reply-clause-still c = λ none. let no = sym c.done-then-not-has_nothing.ensures ∙ none in cc no

pub returns-in_ok-reply-clause-room : goal.returns-in_ok-reply-clause-room
returns-in_ok-reply-clause-room c = after_change _ c.in_ok-reply.ensures.left

pub returns-in_ok-reply-clause-sure : goal.returns-in_ok-reply-clause-sure
returns-in_ok-reply-clause-sure c = λ none. refl

pub returns-then-not-is-clause-step : goal.returns-then-not-is-clause-step
returns-then-not-is-clause-step c =
    let shut = alone-shut c.args.p.now c.args.fd.0 c.args.self.now (sym c.is.ensures ∙ c.if-not-is.true) in
    c.refused.ensures ∙ rw (shut, shut) refl
