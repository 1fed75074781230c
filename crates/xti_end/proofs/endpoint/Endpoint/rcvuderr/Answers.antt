use Rattle.std.proofs.Common.{◌≡◌, ◌∙◌, refl, sym, subst, true, false}
use Rattle.std.specs.List.{list_any}
use Rattle.std.specs.Prelude.{IfOk}
use Rattle.xti_model.specs.Plan.{is_too_long}
use Rattle.xti_end.specs.Held.{alone, parts}
use Rattle.xti_end.specs.Taken.{error_fields, taken}
use Rattle.xti_end.proofs.Rows.{alone-open, error-told, has-effect}
use Rattle.xti_end.proofs.endpoint.Endpoint.rcvuderr.Goals as goal

pub returns-clause-step : goal.returns-clause-step
returns-clause-step c =
    let datagrams = rw c.prov.ensures at (sym c.has_datagrams.ensures ∙ c.if-not-has_datagrams.false) in
    let state = rw c.state.ensures at (sym c.is-2.ensures ∙ c.if-not-is-2.false) in
    let t = error-told c.args.p.now c.args.self.now c.args.fd.0 c.args.amax c.args.omax (sym c.is.ensures ∙ c.if-not-is.false) datagrams state (sym c.has_datagram_error.ensures ∙ c.if-not-has_datagram_error.false) in
    subst (λ s. IfOk c.tell_or_lose.result (λ a. taken a (alone c.tell_or_lose.new.self) ≡ s)) t c.tell_or_lose.ensures.step

pub returns-then-not-has_datagrams-clause-step : goal.returns-then-not-has_datagrams-clause-step
returns-then-not-has_datagrams-clause-step c =
    let opened = alone-open c.args.p.now c.args.fd.0 c.args.self.now (sym c.is.ensures ∙ c.if-not-is.false) in
    let datagrams = rw c.prov.ensures at (sym c.has_datagrams.ensures ∙ c.if-not-has_datagrams.true) in
    c.refused-then-not-has_datagrams.ensures ∙ rw (opened, datagrams, opened) refl

pub returns-then-not-is-2-clause-step : goal.returns-then-not-is-2-clause-step
returns-then-not-is-2-clause-step c =
    let opened = alone-open c.args.p.now c.args.fd.0 c.args.self.now (sym c.is.ensures ∙ c.if-not-is.false) in
    let datagrams = rw c.prov.ensures at (sym c.has_datagrams.ensures ∙ c.if-not-has_datagrams.false) in
    let state = rw c.state.ensures at (sym c.is-2.ensures ∙ c.if-not-is-2.true) in
    c.refused-then-not-is-2.ensures ∙ rw (opened, datagrams, state, opened) refl

pub returns-then-not-has_datagram_error-clause-step : goal.returns-then-not-has_datagram_error-clause-step
returns-then-not-has_datagram_error-clause-step c =
    let opened = alone-open c.args.p.now c.args.fd.0 c.args.self.now (sym c.is.ensures ∙ c.if-not-is.false) in
    let datagrams = rw c.prov.ensures at (sym c.has_datagrams.ensures ∙ c.if-not-has_datagrams.false) in
    let state = rw c.state.ensures at (sym c.is-2.ensures ∙ c.if-not-is-2.false) in
    let errors = sym c.has_datagram_error.ensures ∙ c.if-not-has_datagram_error.true in
    c.refused-then-not-has_datagram_error.ensures ∙ rw (opened, datagrams, state, errors, opened) refl

pub returns-clause-sure : goal.returns-clause-sure
returns-clause-sure c =
    let opened = alone-open c.args.p.now c.args.fd.0 c.args.self.now (sym c.is.ensures ∙ c.if-not-is.false) in
    let datagrams = rw c.prov.ensures at (sym c.has_datagrams.ensures ∙ c.if-not-has_datagrams.false) in
    let state = rw c.state.ensures at (sym c.is-2.ensures ∙ c.if-not-is-2.false) in
    let errors = sym c.has_datagram_error.ensures ∙ c.if-not-has_datagram_error.false in
    λ none.
    let long = list_any is_too_long (error_fields c.args.amax c.args.omax (parts c.args.self.now)) in
    let no : true ≡ false = sym (has-effect long) ∙ (rw (opened, datagrams, state, errors) at none) in
    cc no
