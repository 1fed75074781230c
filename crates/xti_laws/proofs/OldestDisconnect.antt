-- The oldest disconnect of a listener is of an outstanding indication.
use Rattle.std.proofs.Common.{ℕ, true, List, [], ◌∷◌, ◌+◌, ◌≤◌, ◌≡◌, refl, ap, subst, ◌∙◌, cond, Option, Some, None, arith}
use Rattle.std.specs.Prelude.{is_some, slice_get}
use Rattle.std.proofs.lemmas.Bool.{false≢true, eq-eqb}
use Rattle.xti_model.specs.declared.call.Call.{Call}
use Rattle.xti_model.specs.declared.call.Call.TheVariants as call
use Rattle.xti_model.specs.declared.profile.Providers.{Providers}
use Rattle.xti_model.specs.Endpoint.{Endpoint, Indication, Disconnect, find_number}
use Rattle.xti_model.specs.World.{World}
use Rattle.xti_model.specs.Events.{some_wait}
use Rattle.xti_model.specs.Calls.Disconnect.{disconnect_or, oldest}
use Rattle.xti_laws.specs.Counts.{OldestIsOutstanding, TakesOutstanding}
use Rattle.xti_laws.specs.Requests.{SoundLinks, SoundRequests, indications_with, disconnects_with}
use Rattle.xti_laws.proofs.IndicationNumbers.{none-count}

counted-first : (d : Disconnect) (ds : List Disconnect) → 1 ≤ disconnects_with d.number (d ∷ ds)
counted-first d ds = let e : disconnects_with d.number (d ∷ ds) ≡ 1 + disconnects_with d.number ds = ap (λ b. cond b 1 0 + disconnects_with d.number ds) (eq-eqb d.number d.number refl) in omega (arith, e)

found : (n : ℕ) (is : List Indication) → 1 ≤ indications_with n is → is_some (find_number n is) ≡ true
found n is h = go (find_number n is) refl
  where
    go : (o : Option Indication) → find_number n is ≡ o → is_some o ≡ true
    go None k = let z : indications_with n is ≡ 0 = none-count n is k in absurd (omega (arith, z, h))
    go (Some i) k = refl

pub oldest-outstanding : (e : Endpoint) → SoundRequests e → OldestIsOutstanding e
oldest-outstanding e s asked = go e.disconnects refl
  where
    go : (ds : List Disconnect) → e.disconnects ≡ ds → some_wait ds ≡ true → is_some (find_number (oldest e).number e.outstanding) ≡ true
    go [] k h = absurd (false≢true h)
    go (d ∷ ds) k h =
        let same : oldest e ≡ d = ap first-of k in
        let few : disconnects_with d.number (d ∷ ds) ≤ indications_with d.number e.outstanding = subst (λ xs. disconnects_with d.number xs ≤ indications_with d.number e.outstanding) k (s.known asked d.number) in
        let some : 1 ≤ disconnects_with d.number (d ∷ ds) = counted-first d ds in
        ap (λ x. is_some (find_number x.number e.outstanding)) same ∙ found d.number e.outstanding (omega (arith, few, some))
      where
        first-of : List Disconnect → Disconnect
        first-of xs = disconnect_or (slice_get xs 0)

pub takes-outstanding : (p : Providers) (w : World) (c : Call) → SoundLinks p w → TakesOutstanding p w c
takes-outstanding p w (call.TRcvDis fd umax) l = λ e o. oldest-outstanding e (l.good fd.0 e o)
takes-outstanding p w other l = tt
