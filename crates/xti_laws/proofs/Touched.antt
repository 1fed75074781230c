-- The touched cells, in rising order, have all that a call names.
use Rattle.std.proofs.Common.{ℕ, Bool, true, false, ◌||◌, List, [], ◌∷◌, ◌≡◌, refl, subst, ◌∙◌, eqb}
use Rattle.std.proofs.lemmas.Bool.{eqb-true, eq-eqb, false≢true}
use Rattle.xti_model.specs.declared.call.Call.{Call}
use Rattle.xti_model.specs.declared.profile.Providers.{Providers}
use Rattle.xti_model.specs.World.{World, is_among}
use Rattle.xti_model.specs.Touched.{named, touched}
use Rattle.xti_model.proofs.RisingNumbers.{among-listed}
use Rattle.xti_laws.specs.Laws.{Within}

here : (n : ℕ) (ns : List ℕ) → is_among (n ∷ ns) n ≡ true
here n ns = rw (eq-eqb n n refl) refl

there : (m n : ℕ) (ns : List ℕ) → is_among ns m ≡ true → is_among (n ∷ ns) m ≡ true
there m n ns h = go (eqb n m)
  where
    go : (b : Bool) → (b || is_among ns m) ≡ true
    go true = refl
    go false = h

within-more : (t : List ℕ) (ns : List ℕ) → ((n : ℕ) → is_among ns n ≡ true → is_among t n ≡ true) → Within t ns
within-more t [] f = tt
within-more t (n ∷ ns) f = (f n (here n ns), within-more t ns (λ m i. f m (there m n ns i)))

pub touched-within : (p : Providers) (w : World) (c : Call) → Within (touched p w c) (named p w c)
touched-within p w c = within-more (touched p w c) (named p w c) (λ n i. among-listed (named p w c) n ∙ i)

-- what has the touched cells has all that are named
among-within : (t ns : List ℕ) (n : ℕ) → Within t ns → is_among ns n ≡ true → is_among t n ≡ true
among-within t [] n h k = absurd (false≢true k)
among-within t (m ∷ ns) n h k = go (eqb m n) refl k (among-within t ns n h.1)
  where
    go : (b : Bool) → eqb m n ≡ b → (b || is_among ns n) ≡ true → (is_among ns n ≡ true → is_among t n ≡ true) → is_among t n ≡ true
    go true e i j = subst (λ z. is_among t z ≡ true) (eqb-true m n e) h.0
    go false e i j = j i

pub within-named : (p : Providers) (t : List ℕ) (w : World) (c : Call) → Within t (touched p w c) → Within t (named p w c)
within-named p t w c h = within-more t (named p w c) (λ n i. among-within t (touched p w c) n h (among-listed (named p w c) n ∙ i))
