use Rattle.std.proofs.Common.{◌≡◌, ◌∙◌, refl, sym, subst, true, false}
use Rattle.std.specs.List.{list_any}
use Rattle.std.specs.Prelude.{IfOk, [], ◌∷◌}
use Rattle.xti_model.specs.Calls.Disconnect as Disconnect
use Rattle.xti_model.specs.Plan.{is_too_long, field}
use Rattle.xti_end.specs.Held.{alone, parts}
use Rattle.xti_end.specs.Taken.{taken}
use Rattle.xti_end.proofs.Rows.{alone-open, disconnect-told, has-effect}
use Rattle.xti_end.proofs.endpoint.Endpoint.rcvdis.Goals as goal

pub returns-clause-step : goal.returns-clause-step
returns-clause-step c =
    let connections = rw c.prov.ensures at (sym c.has_connections.ensures ∙ c.if-not-has_connections.false) in
    let state = rw c.state.ensures at (sym c.is_connected_or_asking.ensures ∙ c.if-not-is_connected_or_asking.false) in
    let e = disconnect-told c.args.p.now c.args.self.now c.args.fd.0 c.args.umax (sym c.is.ensures ∙ c.if-not-is.false) connections state (sym c.has_disconnect.ensures ∙ c.if-not-has_disconnect.false) in
    subst (λ s. IfOk c.tell_disconnect.result (λ a. taken a (alone c.tell_disconnect.new.self) ≡ s)) e c.tell_disconnect.ensures.step

pub returns-then-not-has_connections-clause-step : goal.returns-then-not-has_connections-clause-step
returns-then-not-has_connections-clause-step c =
    let opened = alone-open c.args.p.now c.args.fd.0 c.args.self.now (sym c.is.ensures ∙ c.if-not-is.false) in
    let connections = rw c.prov.ensures at (sym c.has_connections.ensures ∙ c.if-not-has_connections.true) in
    c.refused-then-not-has_connections.ensures ∙ rw (opened, connections, opened) refl

pub returns-then-not-is_connected_or_asking-clause-step : goal.returns-then-not-is_connected_or_asking-clause-step
returns-then-not-is_connected_or_asking-clause-step c =
    let opened = alone-open c.args.p.now c.args.fd.0 c.args.self.now (sym c.is.ensures ∙ c.if-not-is.false) in
    let connections = rw c.prov.ensures at (sym c.has_connections.ensures ∙ c.if-not-has_connections.false) in
    let state = rw c.state.ensures at (sym c.is_connected_or_asking.ensures ∙ c.if-not-is_connected_or_asking.true) in
    c.refused-then-not-is_connected_or_asking.ensures ∙ rw (opened, connections, state, opened) refl

pub returns-then-not-has_disconnect-clause-step : goal.returns-then-not-has_disconnect-clause-step
returns-then-not-has_disconnect-clause-step c =
    let opened = alone-open c.args.p.now c.args.fd.0 c.args.self.now (sym c.is.ensures ∙ c.if-not-is.false) in
    let connections = rw c.prov.ensures at (sym c.has_connections.ensures ∙ c.if-not-has_connections.false) in
    let state = rw c.state.ensures at (sym c.is_connected_or_asking.ensures ∙ c.if-not-is_connected_or_asking.false) in
    let disconnects = sym c.has_disconnect.ensures ∙ c.if-not-has_disconnect.true in
    c.refused-then-not-has_disconnect.ensures ∙ rw (opened, connections, state, disconnects, opened) refl

pub returns-clause-sure : goal.returns-clause-sure
returns-clause-sure c =
    let opened = alone-open c.args.p.now c.args.fd.0 c.args.self.now (sym c.is.ensures ∙ c.if-not-is.false) in
    let connections = rw c.prov.ensures at (sym c.has_connections.ensures ∙ c.if-not-has_connections.false) in
    let state = rw c.state.ensures at (sym c.is_connected_or_asking.ensures ∙ c.if-not-is_connected_or_asking.false) in
    let disconnects = sym c.has_disconnect.ensures ∙ c.if-not-has_disconnect.false in
    λ none.
    let long = list_any is_too_long (field (Disconnect.oldest (parts c.args.self.now)).udata c.args.umax ∷ []) in
    let no : true ≡ false = sym (has-effect long) ∙ (rw (opened, connections, state, disconnects) at none) in
    cc no
