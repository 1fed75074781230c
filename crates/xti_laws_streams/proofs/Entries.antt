-- What the socket received among a worker's entries, and among all.
use Rattle.std.proofs.Common.{ℕ, Bool, true, false, List, [], ◌∷◌, ◌++◌, ◌≡◌, refl, sym, ap, ap₂, ◌∙◌, cond, ◌||◌, filter}
use Rattle.std.proofs.lemmas.Bool.{false≢true}
use Rattle.std.specs.Prelude.{flat_map}
use Rattle.std.specs.List.{list_any, list_all}
use Rattle.xti_base.specs.declared.kinds.Fd.{Fd}
use Rattle.xti_model.specs.declared.entry.Entry.{Entry}
use Rattle.xti_model.specs.History.{is_own, own}
use Rattle.xti_sock.specs.Socks.{takes_release, was_released}
use Rattle.xti_sock.specs.Streams.{input}
use Rattle.xti_sock.specs.Streams as socket
use Rattle.xti_laws_streams.specs.Sockets.{gives_bytes, receives}
use Rattle.xti_laws_streams.proofs.ReceiveSteps.{both}
use Rattle.xti_laws_streams.proofs.Lives.{neither, none-are}

module _ (fd : Fd) where
  -- the worker has all bytes that were given
  pub own-input : (number : ℕ) (es : List Entry) → list_all (is_own number) (filter (gives_bytes fd) es) ≡ true → input fd (own es number) ≡ input fd es
  own-input number [] h = refl
  own-input number (e ∷ es) h = go (is_own number e) (gives_bytes fd e) refl refl h (own-input number es)
    where
      go : (mine given : Bool) → is_own number e ≡ mine → gives_bytes fd e ≡ given → list_all (is_own number) (cond given (e ∷ filter (gives_bytes fd) es) (filter (gives_bytes fd) es)) ≡ true
          → (list_all (is_own number) (filter (gives_bytes fd) es) ≡ true → input fd (own es number) ≡ input fd es)
          → flat_map (socket.got_at fd) (cond mine (e ∷ own es number) (own es number)) ≡ socket.got_at fd e ++ input fd es
      go true true i j h ih = ap (λ (xs : List ℕ). socket.got_at fd e ++ xs) (ih (both (is_own number e) (list_all (is_own number) (filter (gives_bytes fd) es)) h).1)
      go true false i j h ih = ap (λ (xs : List ℕ). socket.got_at fd e ++ xs) (ih h)
      go false true i j h ih = absurd (false≢true (sym i ∙ (both (is_own number e) (list_all (is_own number) (filter (gives_bytes fd) es)) h).0))
      go false false i j h ih = ih h ∙ ap (λ (xs : List ℕ). xs ++ input fd es) (sym (none-are (socket.got_at fd e) j))

  -- what a worker's entries took, all did
  pub own-released : (number : ℕ) (es : List Entry) → was_released fd (own es number) ≡ true → was_released fd es ≡ true
  own-released number [] h = h
  own-released number (e ∷ es) h = go (is_own number e) (takes_release fd e) refl h (own-released number es)
    where
      go : (mine taken : Bool) → takes_release fd e ≡ taken → list_any (takes_release fd) (cond mine (e ∷ own es number) (own es number)) ≡ true → (was_released fd (own es number) ≡ true → was_released fd es ≡ true)
          → (takes_release fd e || was_released fd es) ≡ true
      go mine true i h ih = ap (λ b. b || was_released fd es) i
      go true false i h ih = ap (λ b. b || was_released fd es) i ∙ ih (ap (λ b. b || was_released fd (own es number)) (sym i) ∙ h)
      go false false i h ih = ap (λ b. b || was_released fd es) i ∙ ih h

  -- entries that receive nothing

  pub no-input : (es : List Entry) → list_any (receives fd) es ≡ false → input fd es ≡ []
  no-input [] h = refl
  no-input (e ∷ es) h =
      let k = neither (receives fd e) (list_any (receives fd) es) h in
      ap₂ (λ (xs ys : List ℕ). xs ++ ys) (none-are (socket.got_at fd e) (neither (gives_bytes fd e) (takes_release fd e) k.0).0) (no-input es k.1)

  pub no-release : (es : List Entry) → list_any (receives fd) es ≡ false → was_released fd es ≡ false
  no-release [] h = refl
  no-release (e ∷ es) h =
      let k = neither (receives fd e) (list_any (receives fd) es) h in
      ap (λ b. b || was_released fd es) (neither (gives_bytes fd e) (takes_release fd e) k.0).1 ∙ no-release es k.1
