use Rattle.std.proofs.Common.{◌≡◌, ◌∙◌, ap, sym, refl, true, false, Some, ℕ, List, [], ◌∷◌}
use Rattle.std.proofs.lemmas.Result.{IfOk-from_err}
use Rattle.std.specs.List.{list_any}
use Rattle.xti_model.specs.declared.entry.Outcome.TheVariants.{Done}
use Rattle.xti_model.specs.declared.entry.Reply.TheVariants.{Addresses, Overflow}
use Rattle.xti_model.specs.declared.profile.Providers.{Providers}
use Rattle.xti_model.specs.Calls.Show as Show
use Rattle.xti_model.specs.Endpoint.{Endpoint, address_of}
use Rattle.xti_model.specs.Plan.{field, if_open, is_too_long, overflows, plan_of, trimmed}
use Rattle.xti_model.specs.Step.{made, step_of}
use Rattle.xti_end.specs.Held.{Held, alone, is_open_as, parts}
use Rattle.xti_end.specs.Taken.{showing_addresses}
use Rattle.xti_end.proofs.Rows.{addresses-effect, addresses-told, alone-open, alone-shut, first-long, open-is, second-long}
use Rattle.xti_end.proofs.endpoint.Endpoint.getprotaddr.Goals as goal
use Rattle.xti_end.proofs.endpoint.Endpoint.getprotaddr.Goals.{then-is_too_long-via-then-is_too_long, then-is_too_long-via-else-is_too_long+then-is_too_long-2}

-- addresses that are too long are not shown
addresses-lost : (p : Providers) (h : Held) (fd amax pmax : ℕ) → is_open_as p fd h ≡ true → list_any is_too_long (Show.address_fields (parts h) amax pmax) ≡ true
    → Some (made p fd (Done (Overflow (record { 0 = 0 }))) (alone h)) ≡ step_of p (alone h) (showing_addresses fd amax pmax p h)
addresses-lost p h fd amax pmax o t =
    let shows = λ (e : Endpoint). plan_of fd e (overflows (Show.address_fields e amax pmax) ∷ []) [] (Done (Addresses (trimmed (address_of e) amax) (trimmed (Show.shown_peer e) pmax))) in
    let lost : Some (made p fd (Done (Overflow (record { 0 = 0 }))) (alone h)) ≡ step_of p (alone h) (shows (parts h)) = rw t refl in
    lost ∙ ap (λ x. step_of p (alone h) (if_open fd x shows)) (sym (alone-open p fd h o))

pub returns-clause-step : goal.returns-clause-step
returns-clause-step c =
    let h = c.args.self.now in
    let p = c.args.p.now in
    let fd = c.args.fd.0 in
    let a : is_too_long (field (address_of (parts h)) c.args.amax) ≡ false = ap (λ x. is_too_long (field x c.args.amax)) (sym c.shown_address-local.ensures) ∙ (sym c.is_too_long.ensures ∙ c.if-is_too_long.false) in
    let b : is_too_long (field (Show.shown_peer (parts h)) c.args.pmax) ≡ false = ap (λ x. is_too_long (field x c.args.pmax)) (sym c.shown_peer-peer.ensures) ∙ (sym c.is_too_long-else-is_too_long.ensures ∙ c.if-is_too_long-2.false) in
    let fits : list_any is_too_long (Show.address_fields (parts h) c.args.amax c.args.pmax) ≡ false = rw (a, b) refl in
    let local : c.in_ok-local.local ≡ trimmed (address_of (parts h)) c.args.amax = c.in_ok-local.ensures.copy ∙ ap (λ x. trimmed x c.args.amax) c.shown_address-local.ensures in
    let peer : c.in-Ok.made ≡ trimmed (Show.shown_peer (parts h)) c.args.pmax = c.in-Ok.ensures.copy ∙ ap (λ x. trimmed x c.args.pmax) c.shown_peer-peer.ensures in
    c.done-2.ensures ∙
    (ap (λ x. Some (made p fd (Done (Addresses x c.in-Ok.made)) (alone h))) local ∙
    (ap (λ x. Some (made p fd (Done (Addresses (trimmed (address_of (parts h)) c.args.amax) x)) (alone h))) peer ∙
    addresses-told p h fd c.args.amax c.args.pmax (sym c.is.ensures ∙ c.if-not-is.false) fits))

pub returns-in_err-local-clause-sure : goal.returns-in_err-local-clause-sure
returns-in_err-local-clause-sure c =
    λ none.
    let no : true ≡ false = sym (addresses-effect c.args.p.now c.args.self.now c.args.fd.0 c.args.amax c.args.pmax (sym c.is.ensures ∙ c.if-not-is.false)) ∙ none in
    cc no

pub returns-in-Err-clause-sure : goal.returns-in-Err-clause-sure
returns-in-Err-clause-sure c =
    λ none.
    let no : true ≡ false = sym (addresses-effect c.args.p.now c.args.self.now c.args.fd.0 c.args.amax c.args.pmax (sym c.is.ensures ∙ c.if-not-is.false)) ∙ none in
    cc no

pub shown_address-local-requires : goal.shown_address-local-requires
shown_address-local-requires c = open-is c.args.p.now c.args.fd.0 c.args.self.now (sym c.is.ensures ∙ c.if-not-is.false)

pub shown_peer-peer-requires : goal.shown_peer-peer-requires
shown_peer-peer-requires c = open-is c.args.p.now c.args.fd.0 c.args.self.now (sym c.is.ensures ∙ c.if-not-is.false)

pub is-requires : goal.is-requires
is-requires c = c.requires

pub refused-requires : goal.refused-requires
refused-requires c = c.requires

pub done-requires : goal.done-requires
done-requires c = c.requires

pub done-requires-2 : goal.done-requires-2
done-requires-2 c = c.requires

pub returns-then-not-is-clause-sure : goal.returns-then-not-is-clause-sure
returns-then-not-is-clause-sure c = λ none. refl

pub returns-then-is_too_long-clause-sure : goal.returns-then-is_too_long-clause-sure
returns-then-is_too_long-clause-sure c = λ none. refl

pub returns-clause-sure : goal.returns-clause-sure
returns-clause-sure c = λ none. refl

pub returns-in_err-local-clause-step : goal.returns-in_err-local-clause-step
returns-in_err-local-clause-step c = IfOk-from_err _ _ c.from_residual.ensures.0

pub returns-then-not-is-clause-step : goal.returns-then-not-is-clause-step
returns-then-not-is-clause-step c =
    let shut = alone-shut c.args.p.now c.args.fd.0 c.args.self.now (sym c.is.ensures ∙ c.if-not-is.true) in
    c.refused.ensures ∙ rw (shut, shut) refl

pub returns-then-is_too_long-clause-step : goal.returns-then-is_too_long-clause-step
returns-then-is_too_long-clause-step c =
    let h = c.args.self.now in
    let local = ap (λ (x : List ℕ). is_too_long (field x c.args.amax)) (sym c.shown_address-local.ensures) ∙ sym c.is_too_long.ensures in
    let peer = ap (λ (x : List ℕ). is_too_long (field x c.args.pmax)) (sym c.shown_peer-peer.ensures) in
    let long : list_any is_too_long (Show.address_fields (parts h) c.args.amax c.args.pmax) ≡ true =
    elim c.then-is_too_long.branch [
      | then-is_too_long-via-then-is_too_long w ↦
          first-long (field (address_of (parts h)) c.args.amax) (field (Show.shown_peer (parts h)) c.args.pmax) (local ∙ w.if-is_too_long.true)
      | then-is_too_long-via-else-is_too_long+then-is_too_long-2 w ↦
          second-long (field (address_of (parts h)) c.args.amax) (field (Show.shown_peer (parts h)) c.args.pmax)
          (peer ∙ (sym w.is_too_long-else-is_too_long.ensures ∙ w.if-is_too_long-2.true))
    ] in
    c.done.ensures ∙ addresses-lost c.args.p.now h c.args.fd.0 c.args.amax c.args.pmax (sym c.is.ensures ∙ c.if-not-is.false) long
