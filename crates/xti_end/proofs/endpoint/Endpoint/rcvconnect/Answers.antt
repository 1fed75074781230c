use Rattle.std.proofs.Common.{◌≡◌, ◌∙◌, refl, sym, subst, true, false}
use Rattle.std.specs.List.{list_any}
use Rattle.std.specs.Prelude.{IfOk}
use Rattle.xti_model.specs.Calls.Connect as Connect
use Rattle.xti_model.specs.Plan.{is_too_long}
use Rattle.xti_end.specs.Held.{alone, parts}
use Rattle.xti_end.specs.Taken.{confirmation_of, taken}
use Rattle.xti_end.proofs.Rows.{alone-open, confirmation-told, has-effect, none-waits, some-waits}
use Rattle.xti_end.proofs.endpoint.Endpoint.rcvconnect.Goals as goal

pub returns-then-has_confirmation-clause-step : goal.returns-then-has_confirmation-clause-step
returns-then-has_confirmation-clause-step c =
    let connections = rw c.prov.ensures at (sym c.has_connections.ensures ∙ c.if-not-has_connections.false) in
    let state = rw c.state.ensures at (sym c.is-2.ensures ∙ c.if-not-is-2.false) in
    let t = confirmation-told c.args.p.now c.args.self.now c.args.fd.0 c.args.amax c.args.omax c.args.umax (sym c.is.ensures ∙ c.if-not-is.false) connections state
    (sym c.has_disconnect.ensures ∙ c.if-has_disconnect.false) (sym c.has_confirmation.ensures ∙ c.if-has_confirmation.true) in
    subst (λ s. IfOk c.tell_confirmation.result (λ a. taken a (alone c.tell_confirmation.new.self) ≡ s)) t c.tell_confirmation.ensures.step

pub returns-then-not-has_connections-clause-step : goal.returns-then-not-has_connections-clause-step
returns-then-not-has_connections-clause-step c =
    let opened = alone-open c.args.p.now c.args.fd.0 c.args.self.now (sym c.is.ensures ∙ c.if-not-is.false) in
    let connections = rw c.prov.ensures at (sym c.has_connections.ensures ∙ c.if-not-has_connections.true) in
    c.refused-then-not-has_connections.ensures ∙ rw (opened, connections, opened) refl

pub returns-then-not-is-2-clause-step : goal.returns-then-not-is-2-clause-step
returns-then-not-is-2-clause-step c =
    let opened = alone-open c.args.p.now c.args.fd.0 c.args.self.now (sym c.is.ensures ∙ c.if-not-is.false) in
    let connections = rw c.prov.ensures at (sym c.has_connections.ensures ∙ c.if-not-has_connections.false) in
    let state = rw c.state.ensures at (sym c.is-2.ensures ∙ c.if-not-is-2.true) in
    c.refused-then-not-is-2.ensures ∙ rw (opened, connections, state, opened) refl

pub returns-then-has_disconnect-clause-step : goal.returns-then-has_disconnect-clause-step
returns-then-has_disconnect-clause-step c =
    let opened = alone-open c.args.p.now c.args.fd.0 c.args.self.now (sym c.is.ensures ∙ c.if-not-is.false) in
    let connections = rw c.prov.ensures at (sym c.has_connections.ensures ∙ c.if-not-has_connections.false) in
    let state = rw c.state.ensures at (sym c.is-2.ensures ∙ c.if-not-is-2.false) in
    let disconnects = sym c.has_disconnect.ensures ∙ c.if-has_disconnect.true in
    c.done.ensures ∙ rw (opened, connections, state, disconnects, opened) refl

pub returns-then-has_confirmation-clause-sure : goal.returns-then-has_confirmation-clause-sure
returns-then-has_confirmation-clause-sure c =
    let opened = alone-open c.args.p.now c.args.fd.0 c.args.self.now (sym c.is.ensures ∙ c.if-not-is.false) in
    let connections = rw c.prov.ensures at (sym c.has_connections.ensures ∙ c.if-not-has_connections.false) in
    let state = rw c.state.ensures at (sym c.is-2.ensures ∙ c.if-not-is-2.false) in
    let disconnects = sym c.has_disconnect.ensures ∙ c.if-has_disconnect.false in
    let there = none-waits (parts c.args.self.now).confirmation (sym c.has_confirmation.ensures ∙ c.if-has_confirmation.true) in
    λ none.
    let long = list_any is_too_long (Connect.fields (confirmation_of (parts c.args.self.now)) c.args.amax c.args.omax c.args.umax) in
    let no : true ≡ false = sym (has-effect long) ∙ (rw (opened, connections, state, disconnects, there) at none) in
    cc no

pub returns-then-nonblock-clause-step : goal.returns-then-nonblock-clause-step
returns-then-nonblock-clause-step c =
    let opened = alone-open c.args.p.now c.args.fd.0 c.args.self.now (sym c.is.ensures ∙ c.if-not-is.false) in
    let connections = rw c.prov.ensures at (sym c.has_connections.ensures ∙ c.if-not-has_connections.false) in
    let state = rw c.state.ensures at (sym c.is-2.ensures ∙ c.if-not-is-2.false) in
    let disconnects = sym c.has_disconnect.ensures ∙ c.if-has_disconnect.false in
    let none = some-waits (parts c.args.self.now).confirmation (sym c.has_confirmation.ensures ∙ c.if-has_confirmation.false) in
    let nonblock = sym c.nonblock.ensures ∙ c.if-nonblock.true in
    c.refused-then-nonblock.ensures ∙ rw (opened, connections, state, disconnects, none, nonblock, opened) refl

pub returns-else-nonblock-clause-step : goal.returns-else-nonblock-clause-step
returns-else-nonblock-clause-step c =
    let opened = alone-open c.args.p.now c.args.fd.0 c.args.self.now (sym c.is.ensures ∙ c.if-not-is.false) in
    let connections = rw c.prov.ensures at (sym c.has_connections.ensures ∙ c.if-not-has_connections.false) in
    let state = rw c.state.ensures at (sym c.is-2.ensures ∙ c.if-not-is-2.false) in
    let disconnects = sym c.has_disconnect.ensures ∙ c.if-has_disconnect.false in
    let none = some-waits (parts c.args.self.now).confirmation (sym c.has_confirmation.ensures ∙ c.if-has_confirmation.false) in
    let nonblock = sym c.nonblock.ensures ∙ c.if-nonblock.false in
    rw (opened, connections, state, disconnects, none, nonblock) refl
