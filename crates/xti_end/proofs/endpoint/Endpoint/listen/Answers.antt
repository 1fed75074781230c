use Rattle.std.proofs.Common.{◌≡◌, ◌∙◌, refl, sym, subst, true, false}
use Rattle.std.specs.List.{list_any}
use Rattle.std.specs.Prelude.{IfOk}
use Rattle.std.proofs.lemmas.Bool.{eq-eqb, ne_eqb}
use Rattle.xti_model.specs.Calls.Listen as Listen
use Rattle.xti_model.specs.Endpoint.{ocnt}
use Rattle.xti_model.specs.Plan.{is_too_long}
use Rattle.xti_end.specs.Held.{alone, parts}
use Rattle.xti_end.specs.Taken.{taken}
use Rattle.xti_end.proofs.Rows.{alone-open, alone-shut, has-effect, request-told}
use Rattle.xti_end.proofs.Rooms.{same_room}
use Rattle.xti_end.proofs.endpoint.Endpoint.listen.Goals as goal

pub returns-then-has_pending-clause-step : goal.returns-then-has_pending-clause-step
returns-then-has_pending-clause-step c =
    let e = parts c.args.self.now in
    let connections = rw c.prov.ensures at (sym c.has_connections.ensures ∙ c.if-not-has_connections.false) in
    let state = rw c.state.ensures at (sym c.is_listening.ensures ∙ c.if-not-is_listening.false) in
    let queues = ne_eqb e.qlen 0 (λ j. c.if-qlen-eq0.false (c.qlen.ensures ∙ j)) in
    let free = ne_eqb (ocnt e) e.qlen (λ j. c.if-ocnt-qlen.false (c.ocnt.ensures ∙ (j ∙ sym c.qlen-2.ensures))) in
    let t = request-told c.args.p.now c.args.self.now c.args.fd.0 c.args.amax c.args.omax c.args.umax (sym c.is.ensures ∙ c.if-not-is.false) connections state queues free
    (sym c.has_disconnect.ensures ∙ c.if-has_disconnect.false) (sym c.has_pending.ensures ∙ c.if-has_pending.true) in
    subst (λ s. IfOk c.tell_request.result (λ a. taken a (alone c.tell_request.new.self) ≡ s)) t c.tell_request.ensures.step

pub returns-then-not-has_connections-clause-step : goal.returns-then-not-has_connections-clause-step
returns-then-not-has_connections-clause-step c =
    let opened = alone-open c.args.p.now c.args.fd.0 c.args.self.now (sym c.is.ensures ∙ c.if-not-is.false) in
    let connections = rw c.prov.ensures at (sym c.has_connections.ensures ∙ c.if-not-has_connections.true) in
    c.refused-then-not-has_connections.ensures ∙ rw (opened, connections, opened) refl

pub returns-then-not-is_listening-clause-step : goal.returns-then-not-is_listening-clause-step
returns-then-not-is_listening-clause-step c =
    let opened = alone-open c.args.p.now c.args.fd.0 c.args.self.now (sym c.is.ensures ∙ c.if-not-is.false) in
    let connections = rw c.prov.ensures at (sym c.has_connections.ensures ∙ c.if-not-has_connections.false) in
    let state = rw c.state.ensures at (sym c.is_listening.ensures ∙ c.if-not-is_listening.true) in
    c.refused-then-not-is_listening.ensures ∙ rw (opened, connections, state, opened) refl

pub returns-then-qlen-eq0-clause-step : goal.returns-then-qlen-eq0-clause-step
returns-then-qlen-eq0-clause-step c =
    let e = parts c.args.self.now in
    let opened = alone-open c.args.p.now c.args.fd.0 c.args.self.now (sym c.is.ensures ∙ c.if-not-is.false) in
    let connections = rw c.prov.ensures at (sym c.has_connections.ensures ∙ c.if-not-has_connections.false) in
    let state = rw c.state.ensures at (sym c.is_listening.ensures ∙ c.if-not-is_listening.false) in
    let queues = eq-eqb e.qlen 0 (sym c.qlen.ensures ∙ c.if-qlen-eq0.true) in
    c.refused-then-qlen-eq0.ensures ∙ rw (opened, connections, state, queues, opened) refl

pub returns-then-ocnt-qlen-clause-step : goal.returns-then-ocnt-qlen-clause-step
returns-then-ocnt-qlen-clause-step c =
    let e = parts c.args.self.now in
    let opened = alone-open c.args.p.now c.args.fd.0 c.args.self.now (sym c.is.ensures ∙ c.if-not-is.false) in
    let connections = rw c.prov.ensures at (sym c.has_connections.ensures ∙ c.if-not-has_connections.false) in
    let state = rw c.state.ensures at (sym c.is_listening.ensures ∙ c.if-not-is_listening.false) in
    let queues = ne_eqb e.qlen 0 (λ j. c.if-qlen-eq0.false (c.qlen.ensures ∙ j)) in
    let full = eq-eqb (ocnt e) e.qlen (sym c.ocnt.ensures ∙ (c.if-ocnt-qlen.true ∙ c.qlen-2.ensures)) in
    c.refused-then-ocnt-qlen.ensures ∙ rw (opened, connections, state, queues, full, opened) refl

pub returns-then-has_disconnect-clause-step : goal.returns-then-has_disconnect-clause-step
returns-then-has_disconnect-clause-step c =
    let e = parts c.args.self.now in
    let opened = alone-open c.args.p.now c.args.fd.0 c.args.self.now (sym c.is.ensures ∙ c.if-not-is.false) in
    let connections = rw c.prov.ensures at (sym c.has_connections.ensures ∙ c.if-not-has_connections.false) in
    let state = rw c.state.ensures at (sym c.is_listening.ensures ∙ c.if-not-is_listening.false) in
    let queues = ne_eqb e.qlen 0 (λ j. c.if-qlen-eq0.false (c.qlen.ensures ∙ j)) in
    let free = ne_eqb (ocnt e) e.qlen (λ j. c.if-ocnt-qlen.false (c.ocnt.ensures ∙ (j ∙ sym c.qlen-2.ensures))) in
    let disconnects = sym c.has_disconnect.ensures ∙ c.if-has_disconnect.true in
    c.done.ensures ∙ rw (opened, connections, state, queues, free, disconnects, opened) refl

pub returns-then-has_pending-clause-sure : goal.returns-then-has_pending-clause-sure
returns-then-has_pending-clause-sure c =
    let e = parts c.args.self.now in
    let opened = alone-open c.args.p.now c.args.fd.0 c.args.self.now (sym c.is.ensures ∙ c.if-not-is.false) in
    let connections = rw c.prov.ensures at (sym c.has_connections.ensures ∙ c.if-not-has_connections.false) in
    let state = rw c.state.ensures at (sym c.is_listening.ensures ∙ c.if-not-is_listening.false) in
    let queues = ne_eqb e.qlen 0 (λ j. c.if-qlen-eq0.false (c.qlen.ensures ∙ j)) in
    let free = ne_eqb (ocnt e) e.qlen (λ j. c.if-ocnt-qlen.false (c.ocnt.ensures ∙ (j ∙ sym c.qlen-2.ensures))) in
    let disconnects = sym c.has_disconnect.ensures ∙ c.if-has_disconnect.false in
    let pending = sym c.has_pending.ensures ∙ c.if-has_pending.true in
    λ none.
    let long = list_any is_too_long (Listen.fields (Listen.oldest e) c.args.amax c.args.omax c.args.umax) in
    let no : true ≡ false = sym (has-effect long) ∙ (rw (opened, connections, state, queues, free, disconnects, pending) at none) in
    cc no

pub returns-then-nonblock-clause-step : goal.returns-then-nonblock-clause-step
returns-then-nonblock-clause-step c =
    let e = parts c.args.self.now in
    let opened = alone-open c.args.p.now c.args.fd.0 c.args.self.now (sym c.is.ensures ∙ c.if-not-is.false) in
    let connections = rw c.prov.ensures at (sym c.has_connections.ensures ∙ c.if-not-has_connections.false) in
    let state = rw c.state.ensures at (sym c.is_listening.ensures ∙ c.if-not-is_listening.false) in
    let queues = ne_eqb e.qlen 0 (λ j. c.if-qlen-eq0.false (c.qlen.ensures ∙ j)) in
    let free = ne_eqb (ocnt e) e.qlen (λ j. c.if-ocnt-qlen.false (c.ocnt.ensures ∙ (j ∙ sym c.qlen-2.ensures))) in
    let disconnects = sym c.has_disconnect.ensures ∙ c.if-has_disconnect.false in
    let pending = sym c.has_pending.ensures ∙ c.if-has_pending.false in
    let nonblock = sym c.nonblock.ensures ∙ c.if-nonblock.true in
    c.refused-then-nonblock.ensures ∙ rw (opened, connections, state, queues, free, disconnects, pending, nonblock, opened) refl

pub returns-else-nonblock-clause-step : goal.returns-else-nonblock-clause-step
returns-else-nonblock-clause-step c =
    let e = parts c.args.self.now in
    let opened = alone-open c.args.p.now c.args.fd.0 c.args.self.now (sym c.is.ensures ∙ c.if-not-is.false) in
    let connections = rw c.prov.ensures at (sym c.has_connections.ensures ∙ c.if-not-has_connections.false) in
    let state = rw c.state.ensures at (sym c.is_listening.ensures ∙ c.if-not-is_listening.false) in
    let queues = ne_eqb e.qlen 0 (λ j. c.if-qlen-eq0.false (c.qlen.ensures ∙ j)) in
    let free = ne_eqb (ocnt e) e.qlen (λ j. c.if-ocnt-qlen.false (c.ocnt.ensures ∙ (j ∙ sym c.qlen-2.ensures))) in
    let disconnects = sym c.has_disconnect.ensures ∙ c.if-has_disconnect.false in
    let pending = sym c.has_pending.ensures ∙ c.if-has_pending.false in
    let nonblock = sym c.nonblock.ensures ∙ c.if-nonblock.false in
    rw (opened, connections, state, queues, free, disconnects, pending, nonblock) refl

pub returns-then-not-is-clause-still : goal.returns-then-not-is-clause-still
returns-then-not-is-clause-still c = λ none. refl

pub returns-then-not-is-clause-room : goal.returns-then-not-is-clause-room
returns-then-not-is-clause-room c = same_room _

pub returns-then-not-is-clause-sure : goal.returns-then-not-is-clause-sure
returns-then-not-is-clause-sure c = λ none. refl

pub returns-then-not-has_connections-clause-still : goal.returns-then-not-has_connections-clause-still
returns-then-not-has_connections-clause-still c = λ none. refl

pub returns-then-not-has_connections-clause-room : goal.returns-then-not-has_connections-clause-room
returns-then-not-has_connections-clause-room c = same_room _

pub returns-then-not-has_connections-clause-sure : goal.returns-then-not-has_connections-clause-sure
returns-then-not-has_connections-clause-sure c = λ none. refl

pub returns-then-not-is_listening-clause-still : goal.returns-then-not-is_listening-clause-still
returns-then-not-is_listening-clause-still c = λ none. refl

pub returns-then-not-is_listening-clause-room : goal.returns-then-not-is_listening-clause-room
returns-then-not-is_listening-clause-room c = same_room _

pub returns-then-not-is_listening-clause-sure : goal.returns-then-not-is_listening-clause-sure
returns-then-not-is_listening-clause-sure c = λ none. refl

pub returns-then-qlen-eq0-clause-still : goal.returns-then-qlen-eq0-clause-still
returns-then-qlen-eq0-clause-still c = λ none. refl

pub returns-then-qlen-eq0-clause-room : goal.returns-then-qlen-eq0-clause-room
returns-then-qlen-eq0-clause-room c = same_room _

pub returns-then-qlen-eq0-clause-sure : goal.returns-then-qlen-eq0-clause-sure
returns-then-qlen-eq0-clause-sure c = λ none. refl

pub returns-then-ocnt-qlen-clause-still : goal.returns-then-ocnt-qlen-clause-still
returns-then-ocnt-qlen-clause-still c = λ none. refl

pub returns-then-ocnt-qlen-clause-room : goal.returns-then-ocnt-qlen-clause-room
returns-then-ocnt-qlen-clause-room c = same_room _

pub returns-then-ocnt-qlen-clause-sure : goal.returns-then-ocnt-qlen-clause-sure
returns-then-ocnt-qlen-clause-sure c = λ none. refl

pub returns-then-has_disconnect-clause-still : goal.returns-then-has_disconnect-clause-still
returns-then-has_disconnect-clause-still c = λ none. refl

pub returns-then-has_disconnect-clause-room : goal.returns-then-has_disconnect-clause-room
returns-then-has_disconnect-clause-room c = same_room _

pub returns-then-has_disconnect-clause-sure : goal.returns-then-has_disconnect-clause-sure
returns-then-has_disconnect-clause-sure c = λ none. refl

pub returns-then-nonblock-clause-still : goal.returns-then-nonblock-clause-still
returns-then-nonblock-clause-still c = λ none. refl

pub returns-then-nonblock-clause-room : goal.returns-then-nonblock-clause-room
returns-then-nonblock-clause-room c = same_room _

pub returns-then-nonblock-clause-sure : goal.returns-then-nonblock-clause-sure
returns-then-nonblock-clause-sure c = λ none. refl

pub returns-else-nonblock-clause-still : goal.returns-else-nonblock-clause-still
returns-else-nonblock-clause-still c = λ none. refl

pub returns-else-nonblock-clause-room : goal.returns-else-nonblock-clause-room
returns-else-nonblock-clause-room c = same_room _

pub returns-else-nonblock-clause-sure : goal.returns-else-nonblock-clause-sure
returns-else-nonblock-clause-sure c = λ none. refl

pub returns-then-has_pending-clause-still : goal.returns-then-has_pending-clause-still
returns-then-has_pending-clause-still c = c.tell_request.ensures.still

pub returns-then-has_pending-clause-room : goal.returns-then-has_pending-clause-room
returns-then-has_pending-clause-room c = c.tell_request.ensures.room

pub returns-then-has_pending-clause-err : goal.returns-then-has_pending-clause-err
returns-then-has_pending-clause-err c = c.tell_request.ensures.err

pub returns-then-not-is-clause-step : goal.returns-then-not-is-clause-step
returns-then-not-is-clause-step c =
    let shut = alone-shut c.args.p.now c.args.fd.0 c.args.self.now (sym c.is.ensures ∙ c.if-not-is.true) in
    c.refused.ensures ∙ rw (shut, shut) refl
