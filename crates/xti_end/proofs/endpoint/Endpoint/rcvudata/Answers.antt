use Rattle.std.proofs.Common.{◌≡◌, ◌∙◌, refl, sym, true, false, ℕ, Result, Ok, Err}
use Rattle.std.specs.List.{list_any}
use Rattle.std.proofs.lemmas.Bool.{le-ltb, lt-ltb}
use Rattle.xti_base.specs.declared.limits.TheConstants.{MOST_PARTS}
use Rattle.xti_model.specs.declared.entry.Applied.{Applied}
use Rattle.xti_model.specs.declared.profile.Providers.{Providers}
use Rattle.xti_model.specs.Calls.Datagrams as Datagrams
use Rattle.xti_model.specs.Plan.{is_too_long}
use Rattle.xti_model.specs.Step.{step_of}
use Rattle.xti_end.specs.Held.{Held, alone, parts}
use Rattle.xti_end.specs.declared.receiving.Sizes.{Sizes}
use Rattle.xti_end.specs.Taken.{receive_step, receiving, MakesBy, Receives}
use Rattle.xti_end.proofs.Rows.{alone-open, alone-shut, has-effect, open-is}
use Rattle.xti_end.proofs.Rooms.{same_room}
use Rattle.xti_end.proofs.endpoint.Endpoint.rcvudata.Goals as goal

-- a datagram that is received, in however many sizes, is received in these
by-sizes : {E : Type 0} (p : Providers) (h new : Held) (fd : ℕ) (s : Sizes) (amax omax : ℕ) (r : Result Applied E)
    → receive_step p (alone h) fd s.count s.total amax omax (parts h) ≡ step_of p (alone h) (receiving fd s amax omax p h)
    → Receives p fd s.total amax omax h new r → MakesBy p (receiving fd s amax omax) h new r
by-sizes p h new fd s amax omax (Ok a) same told = told s.count ∙ same
by-sizes p h new fd s amax omax (Err e) same told = tt

pub returns-then-not-has_datagrams-clause-step : goal.returns-then-not-has_datagrams-clause-step
returns-then-not-has_datagrams-clause-step c =
    let opened = alone-open c.args.p.now c.args.fd.0 c.args.self.now (sym c.is.ensures ∙ c.if-not-is.false) in
    let datagrams = rw c.prov.ensures at (sym c.has_datagrams.ensures ∙ c.if-not-has_datagrams.true) in
    c.refused-then-not-has_datagrams.ensures ∙ rw (opened, datagrams, opened) refl

pub returns-then-not-is-2-clause-step : goal.returns-then-not-is-2-clause-step
returns-then-not-is-2-clause-step c =
    let opened = alone-open c.args.p.now c.args.fd.0 c.args.self.now (sym c.is.ensures ∙ c.if-not-is.false) in
    let datagrams = rw c.prov.ensures at (sym c.has_datagrams.ensures ∙ c.if-not-has_datagrams.false) in
    let state = rw c.state.ensures at (sym c.is-2.ensures ∙ c.if-not-is-2.true) in
    c.refused-then-not-is-2.ensures ∙ rw (opened, datagrams, state, opened) refl

pub returns-then-sizes-gt-MOST_PARTS-clause-step : goal.returns-then-sizes-gt-MOST_PARTS-clause-step
returns-then-sizes-gt-MOST_PARTS-clause-step c =
    let opened = alone-open c.args.p.now c.args.fd.0 c.args.self.now (sym c.is.ensures ∙ c.if-not-is.false) in
    let datagrams = rw c.prov.ensures at (sym c.has_datagrams.ensures ∙ c.if-not-has_datagrams.false) in
    let state = rw c.state.ensures at (sym c.is-2.ensures ∙ c.if-not-is-2.false) in
    let many = lt-ltb MOST_PARTS c.args.sizes.count c.if-sizes-gt-MOST_PARTS.true in
    c.refused-then-sizes-gt-MOST_PARTS.ensures ∙ rw (opened, datagrams, state, many, opened) refl

pub returns-then-has_datagram_error-clause-step : goal.returns-then-has_datagram_error-clause-step
returns-then-has_datagram_error-clause-step c =
    let opened = alone-open c.args.p.now c.args.fd.0 c.args.self.now (sym c.is.ensures ∙ c.if-not-is.false) in
    let datagrams = rw c.prov.ensures at (sym c.has_datagrams.ensures ∙ c.if-not-has_datagrams.false) in
    let state = rw c.state.ensures at (sym c.is-2.ensures ∙ c.if-not-is-2.false) in
    let few = le-ltb MOST_PARTS c.args.sizes.count c.if-sizes-gt-MOST_PARTS.false in
    let errors = sym c.has_datagram_error.ensures ∙ c.if-has_datagram_error.true in
    c.done.ensures ∙ rw (opened, datagrams, state, few, errors, opened) refl

pub returns-then-has_datagram-clause-sure : goal.returns-then-has_datagram-clause-sure
returns-then-has_datagram-clause-sure c =
    let opened = alone-open c.args.p.now c.args.fd.0 c.args.self.now (sym c.is.ensures ∙ c.if-not-is.false) in
    let datagrams = rw c.prov.ensures at (sym c.has_datagrams.ensures ∙ c.if-not-has_datagrams.false) in
    let state = rw c.state.ensures at (sym c.is-2.ensures ∙ c.if-not-is-2.false) in
    let few = le-ltb MOST_PARTS c.args.sizes.count c.if-sizes-gt-MOST_PARTS.false in
    let errors = sym c.has_datagram_error.ensures ∙ c.if-has_datagram_error.false in
    let waits = sym c.has_datagram.ensures ∙ c.if-has_datagram.true in
    λ none.
    let long = list_any is_too_long (Datagrams.fields (Datagrams.told (parts c.args.self.now)) c.args.amax c.args.omax) in
    let no : true ≡ false = sym (has-effect long) ∙ (rw (opened, datagrams, state, few, errors, waits) at none) in
    cc no

pub returns-then-nonblock-clause-step : goal.returns-then-nonblock-clause-step
returns-then-nonblock-clause-step c =
    let opened = alone-open c.args.p.now c.args.fd.0 c.args.self.now (sym c.is.ensures ∙ c.if-not-is.false) in
    let datagrams = rw c.prov.ensures at (sym c.has_datagrams.ensures ∙ c.if-not-has_datagrams.false) in
    let state = rw c.state.ensures at (sym c.is-2.ensures ∙ c.if-not-is-2.false) in
    let few = le-ltb MOST_PARTS c.args.sizes.count c.if-sizes-gt-MOST_PARTS.false in
    let errors = sym c.has_datagram_error.ensures ∙ c.if-has_datagram_error.false in
    let waits = sym c.has_datagram.ensures ∙ c.if-has_datagram.false in
    let nonblock = sym c.nonblock.ensures ∙ c.if-nonblock.true in
    c.refused-then-nonblock.ensures ∙ rw (opened, datagrams, state, few, errors, waits, nonblock, opened) refl

pub returns-else-nonblock-clause-step : goal.returns-else-nonblock-clause-step
returns-else-nonblock-clause-step c =
    let opened = alone-open c.args.p.now c.args.fd.0 c.args.self.now (sym c.is.ensures ∙ c.if-not-is.false) in
    let datagrams = rw c.prov.ensures at (sym c.has_datagrams.ensures ∙ c.if-not-has_datagrams.false) in
    let state = rw c.state.ensures at (sym c.is-2.ensures ∙ c.if-not-is-2.false) in
    let few = le-ltb MOST_PARTS c.args.sizes.count c.if-sizes-gt-MOST_PARTS.false in
    let errors = sym c.has_datagram_error.ensures ∙ c.if-has_datagram_error.false in
    let waits = sym c.has_datagram.ensures ∙ c.if-has_datagram.false in
    let nonblock = sym c.nonblock.ensures ∙ c.if-nonblock.false in
    rw (opened, datagrams, state, few, errors, waits, nonblock) refl

pub prov-requires : goal.prov-requires
prov-requires c = open-is c.args.p.now c.args.fd.0 c.args.self.now (sym c.is.ensures ∙ c.if-not-is.false)

pub state-requires : goal.state-requires
state-requires c = open-is c.args.p.now c.args.fd.0 c.args.self.now (sym c.is.ensures ∙ c.if-not-is.false)

pub has_datagram_error-requires : goal.has_datagram_error-requires
has_datagram_error-requires c = open-is c.args.p.now c.args.fd.0 c.args.self.now (sym c.is.ensures ∙ c.if-not-is.false)

pub has_datagram-requires : goal.has_datagram-requires
has_datagram-requires c = open-is c.args.p.now c.args.fd.0 c.args.self.now (sym c.is.ensures ∙ c.if-not-is.false)

pub nonblock-requires : goal.nonblock-requires
nonblock-requires c = open-is c.args.p.now c.args.fd.0 c.args.self.now (sym c.is.ensures ∙ c.if-not-is.false)

pub is-requires : goal.is-requires
is-requires c = c.requires

pub refused-requires : goal.refused-requires
refused-requires c = c.requires

pub refused-requires-then-not-has_datagrams : goal.refused-requires-then-not-has_datagrams
refused-requires-then-not-has_datagrams c = c.requires

pub refused-requires-then-not-is-2 : goal.refused-requires-then-not-is-2
refused-requires-then-not-is-2 c = c.requires

pub refused-requires-then-sizes-gt-MOST_PARTS : goal.refused-requires-then-sizes-gt-MOST_PARTS
refused-requires-then-sizes-gt-MOST_PARTS c = c.requires

pub done-requires : goal.done-requires
done-requires c = c.requires

pub refused-requires-then-nonblock : goal.refused-requires-then-nonblock
refused-requires-then-nonblock c = c.requires

pub receive_or_lose-requires-clause-place : goal.receive_or_lose-requires-clause-place
receive_or_lose-requires-clause-place c = c.requires

pub receive_or_lose-requires-clause-open : goal.receive_or_lose-requires-clause-open
receive_or_lose-requires-clause-open c = sym c.is.ensures ∙ c.if-not-is.false

pub receive_or_lose-requires-clause-waits : goal.receive_or_lose-requires-clause-waits
receive_or_lose-requires-clause-waits c = sym c.has_datagram.ensures ∙ c.if-has_datagram.true

pub returns-then-not-is-clause-still : goal.returns-then-not-is-clause-still
returns-then-not-is-clause-still c = λ none. refl

pub returns-then-not-is-clause-room : goal.returns-then-not-is-clause-room
returns-then-not-is-clause-room c = same_room _

pub returns-then-not-is-clause-sure : goal.returns-then-not-is-clause-sure
returns-then-not-is-clause-sure c = λ none. refl

pub returns-then-not-has_datagrams-clause-still : goal.returns-then-not-has_datagrams-clause-still
returns-then-not-has_datagrams-clause-still c = λ none. refl

pub returns-then-not-has_datagrams-clause-room : goal.returns-then-not-has_datagrams-clause-room
returns-then-not-has_datagrams-clause-room c = same_room _

pub returns-then-not-has_datagrams-clause-sure : goal.returns-then-not-has_datagrams-clause-sure
returns-then-not-has_datagrams-clause-sure c = λ none. refl

pub returns-then-not-is-2-clause-still : goal.returns-then-not-is-2-clause-still
returns-then-not-is-2-clause-still c = λ none. refl

pub returns-then-not-is-2-clause-room : goal.returns-then-not-is-2-clause-room
returns-then-not-is-2-clause-room c = same_room _

pub returns-then-not-is-2-clause-sure : goal.returns-then-not-is-2-clause-sure
returns-then-not-is-2-clause-sure c = λ none. refl

pub returns-then-sizes-gt-MOST_PARTS-clause-still : goal.returns-then-sizes-gt-MOST_PARTS-clause-still
returns-then-sizes-gt-MOST_PARTS-clause-still c = λ none. refl

pub returns-then-sizes-gt-MOST_PARTS-clause-room : goal.returns-then-sizes-gt-MOST_PARTS-clause-room
returns-then-sizes-gt-MOST_PARTS-clause-room c = same_room _

pub returns-then-sizes-gt-MOST_PARTS-clause-sure : goal.returns-then-sizes-gt-MOST_PARTS-clause-sure
returns-then-sizes-gt-MOST_PARTS-clause-sure c = λ none. refl

pub returns-then-has_datagram_error-clause-still : goal.returns-then-has_datagram_error-clause-still
returns-then-has_datagram_error-clause-still c = λ none. refl

pub returns-then-has_datagram_error-clause-room : goal.returns-then-has_datagram_error-clause-room
returns-then-has_datagram_error-clause-room c = same_room _

pub returns-then-has_datagram_error-clause-sure : goal.returns-then-has_datagram_error-clause-sure
returns-then-has_datagram_error-clause-sure c = λ none. refl

pub returns-then-nonblock-clause-still : goal.returns-then-nonblock-clause-still
returns-then-nonblock-clause-still c = λ none. refl

pub returns-then-nonblock-clause-room : goal.returns-then-nonblock-clause-room
returns-then-nonblock-clause-room c = same_room _

pub returns-then-nonblock-clause-sure : goal.returns-then-nonblock-clause-sure
returns-then-nonblock-clause-sure c = λ none. refl

pub returns-else-nonblock-clause-still : goal.returns-else-nonblock-clause-still
returns-else-nonblock-clause-still c = λ none. refl

pub returns-else-nonblock-clause-room : goal.returns-else-nonblock-clause-room
returns-else-nonblock-clause-room c = same_room _

pub returns-else-nonblock-clause-sure : goal.returns-else-nonblock-clause-sure
returns-else-nonblock-clause-sure c = λ none. refl

pub returns-then-has_datagram-clause-still : goal.returns-then-has_datagram-clause-still
returns-then-has_datagram-clause-still c = c.receive_or_lose.ensures.still

pub returns-then-has_datagram-clause-room : goal.returns-then-has_datagram-clause-room
returns-then-has_datagram-clause-room c = c.receive_or_lose.ensures.room

pub returns-then-has_datagram-clause-err : goal.returns-then-has_datagram-clause-err
returns-then-has_datagram-clause-err c = c.receive_or_lose.ensures.err

pub returns-then-not-is-clause-step : goal.returns-then-not-is-clause-step
returns-then-not-is-clause-step c =
    let shut = alone-shut c.args.p.now c.args.fd.0 c.args.self.now (sym c.is.ensures ∙ c.if-not-is.true) in
    c.refused.ensures ∙ rw (shut, shut) refl

pub returns-then-has_datagram-clause-step : goal.returns-then-has_datagram-clause-step
returns-then-has_datagram-clause-step c =
    let p = c.args.p.now in
    let h = c.args.self.now in
    let fd = c.args.fd.0 in
    let opened = alone-open p fd h (sym c.is.ensures ∙ c.if-not-is.false) in
    let datagrams = rw c.prov.ensures at (sym c.has_datagrams.ensures ∙ c.if-not-has_datagrams.false) in
    let state = rw c.state.ensures at (sym c.is-2.ensures ∙ c.if-not-is-2.false) in
    let few = le-ltb MOST_PARTS c.args.sizes.count c.if-sizes-gt-MOST_PARTS.false in
    let errors = sym c.has_datagram_error.ensures ∙ c.if-has_datagram_error.false in
    let waits = sym c.has_datagram.ensures ∙ c.if-has_datagram.true in
    let same : receive_step p (alone h) fd c.args.sizes.count c.args.sizes.total c.args.amax c.args.omax (parts h) ≡ step_of p (alone h) (receiving fd c.args.sizes c.args.amax c.args.omax p h) =
    rw (opened, datagrams, state, few, errors, waits) refl in
    by-sizes p h c.receive_or_lose.new.self fd c.args.sizes c.args.amax c.args.omax c.receive_or_lose.result same c.receive_or_lose.ensures.step
