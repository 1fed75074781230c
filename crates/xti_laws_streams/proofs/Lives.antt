-- A list of steps of an end: what the life has of them where later ones receive nothing.
use Rattle.std.proofs.Common.{ℕ, Bool, true, false, List, [], ◌∷◌, ◌++◌, ◌≡◌, refl, sym, ap, ap₂, ◌∙◌, cond, ◌||◌}
use Rattle.std.proofs.lemmas.Bool.{false≢true}
use Rattle.std.specs.Prelude.{flat_map}
use Rattle.std.specs.List.{list_any}
use Rattle.xti_model.specs.Streams.{Made, Connection, is_over, until_over, got_made}
use Rattle.xti_laws_streams.specs.Laws.{receives_release}
use Rattle.xti_laws_streams.specs.Sockets.{are_some, made_received, after_over}

pub neither : (a b : Bool) → (a || b) ≡ false → (a ≡ false) × (b ≡ false)
neither true b h = absurd (false≢true (sym h))
neither false b h = (refl, h)

pub none-are : (bytes : List ℕ) → are_some bytes ≡ false → bytes ≡ []
none-are [] h = refl
none-are (b ∷ bytes) h = absurd (false≢true (sym h))

module _ (c : Connection) where
  abbrev gets : Made → List ℕ
  gets m = got_made c false m

  nothing-got : (ms : List Made) → list_any (made_received c) ms ≡ false → flat_map gets ms ≡ []
  nothing-got [] h = refl
  nothing-got (m ∷ ms) h =
      let k = neither (made_received c m) (list_any (made_received c) ms) h in
      ap₂ (λ (xs ys : List ℕ). xs ++ ys) (none-are (gets m) (neither (are_some (gets m)) (receives_release m) k.0).0) (nothing-got ms k.1)

  not-released : (ms : List Made) → list_any (made_received c) ms ≡ false → list_any receives_release ms ≡ false
  not-released [] h = refl
  not-released (m ∷ ms) h =
      let k = neither (made_received c m) (list_any (made_received c) ms) h in
      ap (λ b. b || list_any receives_release ms) (neither (are_some (gets m)) (receives_release m) k.0).1 ∙ not-released ms k.1

  -- the life got all
  pub got-in_life : (ms : List Made) → list_any (made_received c) (after_over ms) ≡ false → flat_map gets ms ≡ flat_map gets (until_over ms)
  got-in_life [] h = refl
  got-in_life (m ∷ ms) h = ap (λ (xs : List ℕ). gets m ++ xs) (go (is_over m.after) h (got-in_life ms))
    where
      go : (b : Bool) → list_any (made_received c) (cond b ms (after_over ms)) ≡ false → (list_any (made_received c) (after_over ms) ≡ false → flat_map gets ms ≡ flat_map gets (until_over ms))
          → flat_map gets ms ≡ flat_map gets (cond b [] (until_over ms))
      go true h ih = nothing-got ms h
      go false h ih = ih h

  -- and a release that was received is one of the life
  pub released-in_life : (ms : List Made) → list_any (made_received c) (after_over ms) ≡ false → list_any receives_release ms ≡ list_any receives_release (until_over ms)
  released-in_life [] h = refl
  released-in_life (m ∷ ms) h = ap (λ b. receives_release m || b) (go (is_over m.after) h (released-in_life ms))
    where
      go : (b : Bool) → list_any (made_received c) (cond b ms (after_over ms)) ≡ false → (list_any (made_received c) (after_over ms) ≡ false → list_any receives_release ms ≡ list_any receives_release (until_over ms))
          → list_any receives_release ms ≡ list_any receives_release (cond b [] (until_over ms))
      go true h ih = not-released ms h
      go false h ih = ih h
