-- Lent cells once an endpoint was written.
use Rattle.std.proofs.Common.{◌≡◌, ℕ, ◌<◌, subst, Bool, true, false, cond, eqb, List, [], ◌∷◌, Option, Some, None, refl, sym, ap, ◌∙◌}
use Rattle.std.specs.Prelude.{map, is_some, Result, Ok, Err, OnOk, OnErr}
use Rattle.std.proofs.lemmas.Bool.{eq-eqb}
use Rattle.xti_model.specs.declared.profile.Providers.{Providers}
use Rattle.xti_model.specs.Endpoint.{Endpoint}
use Rattle.xti_model.specs.World.{World, Cell, Switch, places, place_of, generation_of, change, change_endpoint, changed, at_endpoint, at_switch}
use Rattle.xti_registry.specs.Known.{Known}
use Rattle.xti_end.specs.Held.{Held, cell, with_parts}
use Rattle.xti_lent.specs.Lending.{Lending, held_in, held_at, put_in, with_held, with_registry, cells}
use Rattle.xti_lent.specs.Fit.{AtOwnPlaces, place_of_held, SameCells}
use Rattle.xti_lent.proofs.Places.{place-below}
use Rattle.xti_lent.proofs.Lendings.{written, switch-written, endpoint-written}
use Rattle.xti_lent.proofs.Open.{OpenAt, tail_of, own-place}

-- the same endpoint again
back-step : (b : Bool) (x h : Held) (hs rest : List Held) (o : Option Held) → cond b (Some x) o ≡ Some h → (o ≡ Some h → rest ≡ hs) → cond b (h ∷ hs) (x ∷ rest) ≡ x ∷ hs
back-step true x h hs rest o e k = let s : x ≡ h = cc in rw s refl
back-step false x h hs rest o e k = ap (λ (r : List Held). x ∷ r) (k e)

put-back : (n : ℕ) (ms : List ℕ) (hs : List Held) (h : Held) → held_in ms hs n ≡ Some h → put_in ms hs n h ≡ hs
put-back n [] hs h e = refl
put-back n (m ∷ ms) [] h e = cc
put-back n (m ∷ ms) (x ∷ hs) h e = back-step (eqb m n) x h hs (put_in ms hs n h) (held_in ms hs n) e (put-back n ms hs h)

pub unwritten : (l : Lending) (n : ℕ) (h : Held) → held_at l n ≡ Some h → with_held l n h ≡ l
unwritten l n h e = ap (λ (hs : List Held). record l { held = hs }) (put-back n l.numbers l.held h e)

-- an endpoint that was written as it was
pub same-back : (l : Lending) (n : ℕ) (h new : Held) → held_at l n ≡ Some h → new ≡ h → with_held l n new ≡ l
same-back l n h new e i = ap (with_held l n) i ∙ unwritten l n h e

-- another endpoint at the same place
places-step : (b : Bool) (x old h : Held) (hs rest : List Held) (o : Option Held) → cond b (Some x) o ≡ Some old → h.place ≡ old.place → (o ≡ Some old → map place_of_held rest ≡ map place_of_held hs)
    → map place_of_held (cond b (h ∷ hs) (x ∷ rest)) ≡ map place_of_held (x ∷ hs)
places-step true x old h hs rest o e p k = let s : x ≡ old = cc in rw (s, p) refl
places-step false x old h hs rest o e p k = ap (λ (ns : List ℕ). x.place ∷ ns) (k e)

pub put-places : (n : ℕ) (ms : List ℕ) (hs : List Held) (old h : Held) → held_in ms hs n ≡ Some old → h.place ≡ old.place → map place_of_held (put_in ms hs n h) ≡ map place_of_held hs
put-places n [] hs old h e p = refl
put-places n (m ∷ ms) [] old h e p = refl
put-places n (m ∷ ms) (x ∷ hs) old h e p = places-step (eqb m n) x old h hs (put_in ms hs n h) (held_in ms hs n) e p (λ k. put-places n ms hs old h k p)

-- the same cells are lent
pub written-same : (l : Lending) (n : ℕ) (old h : Held) → held_at l n ≡ Some old → h.place ≡ old.place → SameCells l (with_held l n h)
written-same l n old h e p = record { providers = refl; numbers = refl; places = put-places n l.numbers l.held old h e p }

pub both-same : (l : Lending) (n : ℕ) (old h : Held) (k : Known) → held_at l n ≡ Some old → h.place ≡ old.place → SameCells l (with_registry (with_held l n h) k)
both-same l n old h k e p = record { providers = refl; numbers = refl; places = put-places n l.numbers l.held old h e p }

-- endpoints are at their own places still
pub own-kept : (l m : Lending) → SameCells l m → AtOwnPlaces l → AtOwnPlaces m
own-kept l m s own = s.places ∙ (own ∙ sym s.numbers)

-- as many endpoints are held under the same numbers
there-step : (b : Bool) (x y : Held) (o q : Option Held) → is_some o ≡ is_some q → is_some (cond b (Some x) o) ≡ is_some (cond b (Some y) q)
there-step true x y o q e = refl
there-step false x y o q e = e

there-same : (n : ℕ) (ms : List ℕ) (hs gs : List Held) → map place_of_held gs ≡ map place_of_held hs → is_some (held_in ms gs n) ≡ is_some (held_in ms hs n)
there-same n [] hs gs e = refl
there-same n (m ∷ ms) [] [] e = refl
there-same n (m ∷ ms) [] (y ∷ gs) e = cc
there-same n (m ∷ ms) (x ∷ hs) [] e = cc
there-same n (m ∷ ms) (x ∷ hs) (y ∷ gs) e = there-step (eqb m n) y x (held_in ms gs n) (held_in ms hs n) (there-same n ms hs gs (ap tail_of e))

pub still-held : (l k : Lending) (n : ℕ) → SameCells l k → is_some (held_at k n) ≡ is_some (held_at l n)
still-held l k n s = rw s.numbers (there-same n l.numbers l.held k.held s.places)

changed-step : (g : ℕ) (o : Option Endpoint) (f : Endpoint → Endpoint) (h : Held) → h.generation ≡ g → h.body ≡ o → cell (with_parts f h) ≡ change_endpoint g f (cell h)
changed-step g None f h e b = rw b refl
changed-step g (Some x) f h e b = let t = eq-eqb h.generation g e in rw (b, t) refl

-- the open endpoint changes
pub parts-changed : (l : Lending) (fd : ℕ) (h : Held) (f : Endpoint → Endpoint) → OpenAt l fd h → cell (with_parts f h) ≡ change_endpoint (generation_of l.providers fd) f (cell h)
parts-changed l fd h f o = changed-step (generation_of l.providers fd) h.body f h o.generation refl

-- an endpoint is written, and then the switch
pub both-written : (l : Lending) (n : ℕ) (h new : Held) (f : Cell → Cell) (k other : Known) (g : Switch → Switch) → n < places l.providers → held_at l n ≡ Some h → cell new ≡ f (cell h) → l.registry ≡ Some k → other.switch ≡ g k.switch
    → cells (with_registry (with_held l n new) other) ≡ changed l.providers (change n f (cells l)) (at_switch g ∷ [])
both-written l n h new f k other g lt eh c ek s =
    switch-written (with_held l n new) k other g ek s ∙ ap (λ (w : World). changed l.providers w (at_switch g ∷ [])) (written l n h new f lt eh c)

-- the same at the place of a descriptor
pub fd-written : (l : Lending) (fd n : ℕ) (h new : Held) (f : Endpoint → Endpoint) → n ≡ place_of l.providers fd → held_at l n ≡ Some h → cell new ≡ change_endpoint (generation_of l.providers fd) f (cell h)
    → cells (with_held l n new) ≡ changed l.providers (cells l) (at_endpoint fd f ∷ [])
fd-written l fd n h new f q eh c = subst (λ m. cells (with_held l m new) ≡ changed l.providers (cells l) (at_endpoint fd f ∷ [])) (sym q) (endpoint-written l fd h new f (rw q at eh) c)

pub fd-both : (l : Lending) (fd n : ℕ) (h new : Held) (f : Cell → Cell) (k other : Known) (g : Switch → Switch) → n ≡ place_of l.providers fd → held_at l n ≡ Some h → cell new ≡ f (cell h) → l.registry ≡ Some k → other.switch ≡ g k.switch
    → cells (with_registry (with_held l n new) other) ≡ changed l.providers (change (place_of l.providers fd) f (cells l)) (at_switch g ∷ [])
fd-both l fd n h new f k other g q eh c ek s =
    subst (λ m. cells (with_registry (with_held l n new) other) ≡ changed l.providers (change m f (cells l)) (at_switch g ∷ [])) q
    (both-written l n h new f k other g (subst (λ m. m < places l.providers) (sym q) (place-below l.providers fd)) eh c ek s)

-- the same by providers that are those of the cells
pub written-by : (l : Lending) (p : Providers) (fd n : ℕ) (h new : Held) (f : Endpoint → Endpoint) → p ≡ l.providers → n ≡ place_of p fd → held_at l n ≡ Some h → cell new ≡ change_endpoint (generation_of p fd) f (cell h)
    → cells (with_held l n new) ≡ changed l.providers (cells l) (at_endpoint fd f ∷ [])
written-by l p fd n h new f e q eh c = fd-written l fd n h new f (q ∙ ap (λ (x : Providers). place_of x fd) e) eh (c ∙ ap (λ (x : Providers). change_endpoint (generation_of x fd) f (cell h)) e)

pub lent-by : (l : Lending) (p : Providers) (fd n : ℕ) → p ≡ l.providers → n ≡ place_of p fd → is_some (held_at l (place_of l.providers fd)) ≡ true → is_some (held_at l n) ≡ true
lent-by l p fd n e q h = subst (λ m. is_some (held_at l m) ≡ true) (sym (q ∙ ap (λ (x : Providers). place_of x fd) e)) h

-- An endpoint that was found at the place of a descriptor is written.
module _ (l : Lending) (p : Providers) (fd n : ℕ) (h : Held) where
  -- it lies there
  pub placed-by : AtOwnPlaces l → n ≡ place_of p fd → Some h ≡ held_at l n → h.place ≡ place_of p fd
  placed-by own q is = own-place l.numbers l.held n h own (sym is) ∙ q

  -- what the cells become, and that the same are lent
  pub rewritten : (new : Held) (f : Endpoint → Endpoint) → p ≡ l.providers → n ≡ place_of p fd → Some h ≡ held_at l n → cell new ≡ change_endpoint (generation_of p fd) f (cell h) → new.place ≡ h.place
      → (cells (with_held l n new) ≡ changed l.providers (cells l) (at_endpoint fd f ∷ [])) × SameCells l (with_held l n new)
  rewritten new f e q is c s = (written-by l p fd n h new f e q (sym is) c, written-same l n h new (sym is) s)

  -- the same where the change may fail, after which all is as it was
  pub rewritten_or_same : {T E : Type 0} (r : Result T E) (new : Held) (f : Endpoint → Endpoint) → p ≡ l.providers → n ≡ place_of p fd → Some h ≡ held_at l n → OnOk r (cell new ≡ change_endpoint (generation_of p fd) f (cell h)) → new.place ≡ h.place → OnErr r (new ≡ h)
      → OnOk r (cells (with_held l n new) ≡ changed l.providers (cells l) (at_endpoint fd f ∷ [])) × SameCells l (with_held l n new) × OnErr r (with_held l n new ≡ l)
  rewritten_or_same (Ok x) new f e q is c s i = (written-by l p fd n h new f e q (sym is) c, written-same l n h new (sym is) s, tt)
  rewritten_or_same (Err x) new f e q is c s i = (tt, written-same l n h new (sym is) s, same-back l n h new (sym is) i)
