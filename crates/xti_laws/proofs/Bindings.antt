-- Each address is bound by an open endpoint of its provider.
use Rattle.std.proofs.Common.{ℕ, Bool, true, false, List, [], ◌∷◌, ◌++◌, ◌+◌, ◌≡◌, ◌⊎◌, inl, inr, refl, sym, ap, ◌∙◌, subst, cond, eqb, not, ◌&&◌, map, filter, min, Option, Some, None, arith}
use Rattle.std.proofs.lemmas.Bool.{eqb-true, eq-eqb}
use Rattle.std.specs.Prelude.{option_map, ◌%◌, bytes_eq}
use Rattle.xti_base.specs.Kinds.{same_prov}
use Rattle.xti_base.specs.declared.kinds.Prov.{Prov}
use Rattle.xti_model.specs.declared.profile.Providers.{Providers}
use Rattle.xti_model.specs.Endpoint.{Endpoint}
use Rattle.xti_model.specs.World.{World, Numbered, Cell, Change, Switch, Binding, endpoint_cell, switch_cell, at_endpoint, at_switch, opens_place, closes_endpoint, change, changed, cell_at, change_endpoint, change_switch, open_cell, close_cell, endpoint, the_switch, switch_in, switch_or_empty, switch_number, place_of, generation_of, empty_switch}
use Rattle.xti_model.specs.Switch.{listener, least, less, is_listening, give_address, give_up_address, mark_open}
use Rattle.xti_laws.proofs.ChangedEndpoints.{recell, cell_at-same, cell_at-other}
use Rattle.xti_laws.specs.Requests.{IsOpenOf, AllOpen, BoundToOpen}
use Rattle.xti_laws.proofs.KeptEndpoints.{Keep, keeps}
use Rattle.xti_laws.proofs.StepWays.{some-is, none-is, not-both}
use Rattle.xti_laws.proofs.AcceptEnds.{same-prov}

-- an endpoint of the provider is open there
abbrev pub HasProv : Prov → Option Endpoint → Type 0
HasProv prov None = ⊥
HasProv prov (Some e) = e.prov ≡ prov

has-prov : (p : Providers) (w : World) (fd : ℕ) (prov : Prov) → IsOpenOf p w fd prov → HasProv prov (endpoint p w fd)
has-prov p w fd prov b = subst (HasProv prov) (sym b.is_open) b.same_provider

bound-open : (p : Providers) (w : World) (fd : ℕ) (prov : Prov) → HasProv prov (endpoint p w fd) → IsOpenOf p w fd prov
bound-open p w fd prov h = go (endpoint p w fd) refl h
  where
    go : (o : Option Endpoint) → endpoint p w fd ≡ o → HasProv prov o → IsOpenOf p w fd prov
    go None i h = absurd h
    go (Some e) i h = record { e = e; is_open = i; same_provider = h }

abbrev pub KeepsProv : (Endpoint → Endpoint) → Type 0
KeepsProv f = (e : Endpoint) → (f e).prov ≡ e.prov

-- of the switch: what is bound to open endpoints stays so
abbrev pub KeepsBound : Providers → World → (Switch → Switch) → Type 0
KeepsBound p w f = (s : Switch) → AllOpen p w s.bindings → AllOpen p w (f s).bindings

pub data Tidy (p : Providers) : Change → Type 0 where
  tidy_at : (z : ℕ) (f : Endpoint → Endpoint) → KeepsProv f → Tidy p (at_endpoint z f)
  tidy_switch : (f : Switch → Switch) → ((w : World) → KeepsBound p w f) → Tidy p (at_switch f)
  tidy_opens : (place : ℕ) (e : Endpoint) → Tidy p (opens_place place e)

abbrev pub AllTidy : Providers → List Change → Type 0
AllTidy p [] = Unit {0}
AllTidy p (c ∷ cs) = Tidy p c × AllTidy p cs

tidy-keep : (p : Providers) (prov : Prov) (z : ℕ) (c : Change) → Tidy p c → Keep (HasProv prov) z c
tidy-keep p prov z c (tidy_at y f k) = λ i e q. k e ∙ q
tidy-keep p prov z c (tidy_switch f k) = tt
tidy-keep p prov z c (tidy_opens place e) = λ q. absurd q

all-open : (p : Providers) (w w' : World) → ((fd : ℕ) (prov : Prov) → HasProv prov (endpoint p w fd) → HasProv prov (endpoint p w' fd)) → (bs : List Binding) → AllOpen p w bs → AllOpen p w' bs
all-open p w w' h [] a = tt
all-open p w w' h (b ∷ bs) a = (bound-open p w' b.fd b.prov (h b.fd b.prov (has-prov p w b.fd b.prov a.0)), all-open p w w' h bs a.1)

-- The switch after a change.
switch-kept : (p : Providers) (n : ℕ) (f : Cell → Cell) → ((c : Cell) → switch_in (f c) ≡ switch_in c) → (w : World) → the_switch p (change n f w) ≡ the_switch p w
switch-kept p n f h w = go (eqb (switch_number p) n) refl
  where
    there : (o : Option Numbered) → switch_or_empty (option_map (recell f) o) ≡ switch_or_empty o
    there None = refl
    there (Some c) = h c.cell

    go : (b : Bool) → eqb (switch_number p) n ≡ b → the_switch p (change n f w) ≡ the_switch p w
    go true i = ap (λ m. switch_or_empty (cell_at (change m f w) (switch_number p))) (sym (eqb-true (switch_number p) n i)) ∙ (ap switch_or_empty (cell_at-same (switch_number p) f w) ∙ there (cell_at w (switch_number p)))
    go false i = ap switch_or_empty (cell_at-other n (switch_number p) i f w)

endpoint-kept : (g : ℕ) (f : Endpoint → Endpoint) (c : Cell) → switch_in (change_endpoint g f c) ≡ switch_in c
endpoint-kept g f (endpoint_cell m None) = refl
endpoint-kept g f (endpoint_cell m (Some e)) = refl
endpoint-kept g f (switch_cell s) = refl

open-kept : (e : Endpoint) (c : Cell) → switch_in (open_cell e c) ≡ switch_in c
open-kept e (endpoint_cell m None) = refl
open-kept e (endpoint_cell m (Some o)) = refl
open-kept e (switch_cell s) = refl

close-kept : (g : ℕ) (c : Cell) → switch_in (close_cell g c) ≡ switch_in c
close-kept g (switch_cell s) = refl
close-kept g (endpoint_cell m None) = refl
close-kept g (endpoint_cell m (Some e)) = go (eqb m g)
  where
    go : (b : Bool) → switch_in (cond b (endpoint_cell (m + 1) None) (endpoint_cell m (Some e))) ≡ empty_switch
    go true = refl
    go false = refl

switch-either : (p : Providers) (f : Switch → Switch) (w : World) → (the_switch p (changed p w (at_switch f ∷ [])) ≡ f (the_switch p w)) ⊎ (the_switch p (changed p w (at_switch f ∷ [])) ≡ empty_switch)
switch-either p f w = go (cell_at w (switch_number p)) (cell_at-same (switch_number p) (change_switch f) w)
  where
    cell : (c : Cell) → (switch_in (change_switch f c) ≡ f (switch_in c)) ⊎ (switch_in (change_switch f c) ≡ empty_switch)
    cell (endpoint_cell g b) = inr refl
    cell (switch_cell s) = inl refl

    go : (o : Option Numbered) → cell_at (changed p w (at_switch f ∷ [])) (switch_number p) ≡ option_map (recell (change_switch f)) o → (switch_or_empty (cell_at (changed p w (at_switch f ∷ [])) (switch_number p)) ≡ f (switch_or_empty o)) ⊎ (switch_or_empty (cell_at (changed p w (at_switch f ∷ [])) (switch_number p)) ≡ empty_switch)
    go None h = inr (ap switch_or_empty h)
    go (Some c) h = move (cell c.cell)
      where
        move : (switch_in (change_switch f c.cell) ≡ f (switch_in c.cell)) ⊎ (switch_in (change_switch f c.cell) ≡ empty_switch) → (switch_or_empty (cell_at (changed p w (at_switch f ∷ [])) (switch_number p)) ≡ f (switch_in c.cell)) ⊎ (switch_or_empty (cell_at (changed p w (at_switch f ∷ [])) (switch_number p)) ≡ empty_switch)
        move (inl q) = inl (ap switch_or_empty h ∙ q)
        move (inr q) = inr (ap switch_or_empty h ∙ q)

moved-bound : (p : Providers) (w w' : World) → the_switch p w' ≡ the_switch p w → ((fd : ℕ) (prov : Prov) → HasProv prov (endpoint p w fd) → HasProv prov (endpoint p w' fd)) → BoundToOpen p w → BoundToOpen p w'
moved-bound p w w' i h b = subst (λ s. AllOpen p w' s.bindings) (sym i) (all-open p w w' h (the_switch p w).bindings b)

pub switched : (p : Providers) (w : World) (f : Switch → Switch) → KeepsBound p w f → BoundToOpen p w → BoundToOpen p (changed p w (at_switch f ∷ []))
switched p w f k b = go (switch-either p f w)
  where
    same : (fd : ℕ) (prov : Prov) → HasProv prov (endpoint p w fd) → HasProv prov (endpoint p (changed p w (at_switch f ∷ [])) fd)
    same fd prov h = keeps p (HasProv prov) fd (at_switch f ∷ []) (tt, tt) w h

    go : (the_switch p (changed p w (at_switch f ∷ [])) ≡ f (the_switch p w)) ⊎ (the_switch p (changed p w (at_switch f ∷ [])) ≡ empty_switch) → BoundToOpen p (changed p w (at_switch f ∷ []))
    go (inl q) = subst (λ s. AllOpen p (changed p w (at_switch f ∷ [])) s.bindings) (sym q) (all-open p w (changed p w (at_switch f ∷ [])) same (f (the_switch p w)).bindings (k (the_switch p w) b))
    go (inr q) = subst (λ s. AllOpen p (changed p w (at_switch f ∷ [])) s.bindings) (sym q) tt

one-tidy : (p : Providers) (w : World) (c : Change) → Tidy p c → BoundToOpen p w → BoundToOpen p (changed p w (c ∷ []))
one-tidy p w c (tidy_at z f k) b = moved-bound p w (changed p w (at_endpoint z f ∷ [])) (switch-kept p (place_of p z) (change_endpoint (generation_of p z) f) (endpoint-kept (generation_of p z) f) w) (λ fd prov h. keeps p (HasProv prov) fd (at_endpoint z f ∷ []) (tidy-keep p prov fd (at_endpoint z f) (tidy_at z f k), tt) w h) b
one-tidy p w c (tidy_switch f k) b = switched p w f (k w) b
one-tidy p w c (tidy_opens place e) b = moved-bound p w (changed p w (opens_place place e ∷ [])) (switch-kept p place (open_cell e) (open-kept e) w) (λ fd prov h. keeps p (HasProv prov) fd (opens_place place e ∷ []) ((λ q. absurd q), tt) w h) b

pub tidied : (p : Providers) (cs : List Change) → AllTidy p cs → (w : World) → BoundToOpen p w → BoundToOpen p (changed p w cs)
tidied p [] t w b = b
tidied p (c ∷ cs) t w b = tidied p cs t.1 (changed p w (c ∷ [])) (one-tidy p w c t.0 b)

-- The updates of the switch.
filter-open : (p : Providers) (w : World) (test : Binding → Bool) (bs : List Binding) → AllOpen p w bs → AllOpen p w (filter test bs)
filter-open p w test [] a = tt
filter-open p w test (b ∷ bs) a = go (test b) (filter-open p w test bs a.1)
  where
    go : (d : Bool) → AllOpen p w (filter test bs) → AllOpen p w (cond d (b ∷ filter test bs) (filter test bs))
    go true h = (a.0, h)
    go false h = h

append-open : (p : Providers) (w : World) (bs cs : List Binding) → AllOpen p w bs → AllOpen p w cs → AllOpen p w (bs ++ cs)
append-open p w [] cs a b = b
append-open p w (x ∷ bs) cs a b = (a.0, append-open p w bs cs a.1 b)

pub gives-up : (p : Providers) (fd : ℕ) (w : World) → KeepsBound p w (give_up_address fd)
gives-up p fd w s a = filter-open p w _ s.bindings a

pub marks : (p : Providers) (n : ℕ) (w : World) → KeepsBound p w (mark_open n)
marks p n w s a = a

pub gives : (p : Providers) (w : World) (prov : Prov) (address : List ℕ) (fd : ℕ) (listening : Bool) → HasProv prov (endpoint p w fd) → KeepsBound p w (give_address prov address fd listening)
gives p w prov address fd listening h s a = append-open p w s.bindings (record { prov = prov; address = address; fd = fd; listening = listening } ∷ []) a (bound-open p w fd prov h, tt)

-- an endpoint closes, and its address is given up
pub closed-bound : (p : Providers) (w : World) (fd : ℕ) (f : Switch → Switch) → ((s : Switch) → (f s).bindings ≡ (give_up_address fd s).bindings) → BoundToOpen p w → BoundToOpen p (changed p w (closes_endpoint fd ∷ at_switch f ∷ []))
closed-bound p w fd f h b = go (switch-either p f (changed p w (closes_endpoint fd ∷ [])))
  where
    stays : (z : ℕ) (prov : Prov) → eqb z fd ≡ false → HasProv prov (endpoint p w z) → HasProv prov (endpoint p (changed p w (closes_endpoint fd ∷ at_switch f ∷ [])) z)
    stays z prov n q = keeps p (HasProv prov) z (closes_endpoint fd ∷ at_switch f ∷ []) ((λ j. absurd (not-both (eqb z fd) n j)), (tt, tt)) w q

    left : (bs : List Binding) → AllOpen p w bs → AllOpen p (changed p w (closes_endpoint fd ∷ at_switch f ∷ [])) (filter (λ b. not (eqb b.fd fd)) bs)
    left [] a = tt
    left (x ∷ bs) a = by (eqb x.fd fd) refl (left bs a.1)
      where
        by : (d : Bool) → eqb x.fd fd ≡ d → AllOpen p (changed p w (closes_endpoint fd ∷ at_switch f ∷ [])) (filter (λ b. not (eqb b.fd fd)) bs) → AllOpen p (changed p w (closes_endpoint fd ∷ at_switch f ∷ [])) (cond (not d) (x ∷ filter (λ b. not (eqb b.fd fd)) bs) (filter (λ b. not (eqb b.fd fd)) bs))
        by true i r = r
        by false i r = (bound-open p (changed p w (closes_endpoint fd ∷ at_switch f ∷ [])) x.fd x.prov (stays x.fd x.prov i (has-prov p w x.fd x.prov a.0)), r)

    same : the_switch p (changed p w (closes_endpoint fd ∷ [])) ≡ the_switch p w
    same = switch-kept p (place_of p fd) (close_cell (generation_of p fd)) (close-kept (generation_of p fd)) w

    go : (the_switch p (changed p w (closes_endpoint fd ∷ at_switch f ∷ [])) ≡ f (the_switch p (changed p w (closes_endpoint fd ∷ [])))) ⊎ (the_switch p (changed p w (closes_endpoint fd ∷ at_switch f ∷ [])) ≡ empty_switch) → BoundToOpen p (changed p w (closes_endpoint fd ∷ at_switch f ∷ []))
    go (inr q) = subst (λ s. AllOpen p (changed p w (closes_endpoint fd ∷ at_switch f ∷ [])) s.bindings) (sym q) tt
    go (inl q) = subst (AllOpen p (changed p w (closes_endpoint fd ∷ at_switch f ∷ []))) (sym (ap (λ s. s.bindings) (q ∙ ap f same) ∙ h (the_switch p w))) (left (the_switch p w).bindings b)

-- A listener that is found is open, of the provider, and another endpoint.
pub record Found (p : Providers) (w : World) (prov : Prov) (fd l : ℕ) : Type 0 where
  pub e : Endpoint
  pub is_open : endpoint p w l ≡ Some e
  pub same_provider : e.prov ≡ prov
  pub differ : eqb l fd ≡ false

AllFound : Providers → World → Prov → ℕ → List ℕ → Type 0
AllFound p w prov fd [] = Unit {0}
AllFound p w prov fd (l ∷ ls) = Found p w prov fd l × AllFound p w prov fd ls

least-found : (p : Providers) (w : World) (prov : Prov) (fd l : ℕ) (ls : List ℕ) → AllFound p w prov fd ls → least ls ≡ Some l → Found p w prov fd l
unfolding AllFound
least-found p w prov fd l [] a h = absurd (none-is l h)
least-found p w prov fd l (n ∷ ls) a h = go (least ls) h (λ m. least-found p w prov fd m ls a.1)
  where
    choose : (m : ℕ) → Found p w prov fd m → (b : Bool) → eqb (min n m) n ≡ b → Found p w prov fd (min n m)
    choose m k true i = subst (Found p w prov fd) (sym (eqb-true (min n m) n i)) a.0
    choose m k false i = subst (Found p w prov fd) (sym (other i)) k
      where
        other : eqb (min n m) n ≡ false → min n m ≡ m
        other i = let d : (min n m ≡ n) → ⊥ = λ q. not-both (eqb (min n m) n) i (eq-eqb (min n m) n q) in omega (arith, d)

    go : (o : Option ℕ) → less n o ≡ Some l → ((m : ℕ) → o ≡ Some m → Found p w prov fd m) → Found p w prov fd l
    go None h k = subst (Found p w prov fd) (some-is n l h) a.0
    go (Some m) h k = subst (Found p w prov fd) (some-is (min n m) l h) (choose m (k m refl) (eqb (min n m) n) refl)

and-left : (a b : Bool) → (a && b) ≡ true → a ≡ true
and-left true b h = refl
and-left false b h = h

all-found : (p : Providers) (w : World) (prov : Prov) (address : List ℕ) (fd : ℕ) (bs : List Binding) → AllOpen p w bs → AllFound p w prov fd (filter (λ other. not (eqb other fd)) (map (λ b. b.fd) (filter (is_listening prov address) bs)))
unfolding AllFound
all-found p w prov address fd [] a = tt
all-found p w prov address fd (b ∷ bs) a = go (is_listening prov address b) refl (eqb b.fd fd) refl (all-found p w prov address fd bs a.1)
  where
    go : (d : Bool) → is_listening prov address b ≡ d → (y : Bool) → eqb b.fd fd ≡ y → AllFound p w prov fd (filter (λ other. not (eqb other fd)) (map (λ b. b.fd) (filter (is_listening prov address) bs)))
        → AllFound p w prov fd (filter (λ other. not (eqb other fd)) (map (λ b. b.fd) (cond d (b ∷ filter (is_listening prov address) bs) (filter (is_listening prov address) bs))))
    go false i y j r = r
    go true i y j r = by y j
      where
        by : (y : Bool) → eqb b.fd fd ≡ y → AllFound p w prov fd (cond (not (eqb b.fd fd)) (b.fd ∷ filter (λ other. not (eqb other fd)) (map (λ b. b.fd) (filter (is_listening prov address) bs))) (filter (λ other. not (eqb other fd)) (map (λ b. b.fd) (filter (is_listening prov address) bs))))
        by true j = subst (λ v. AllFound p w prov fd (cond (not v) (b.fd ∷ filter (λ other. not (eqb other fd)) (map (λ b. b.fd) (filter (is_listening prov address) bs))) (filter (λ other. not (eqb other fd)) (map (λ b. b.fd) (filter (is_listening prov address) bs))))) (sym j) r
        by false j = subst (λ v. AllFound p w prov fd (cond (not v) (b.fd ∷ filter (λ other. not (eqb other fd)) (map (λ b. b.fd) (filter (is_listening prov address) bs))) (filter (λ other. not (eqb other fd)) (map (λ b. b.fd) (filter (is_listening prov address) bs))))) (sym j)
            (record { e = a.0.e; is_open = a.0.is_open; same_provider = a.0.same_provider ∙ same-prov b.prov prov (and-left (same_prov b.prov prov) (bytes_eq b.address address) (and-left (same_prov b.prov prov && bytes_eq b.address address) b.listening i)); differ = j }, r)

pub listener-found : (p : Providers) (w : World) (prov : Prov) (address : List ℕ) (fd l : ℕ) → BoundToOpen p w → listener (the_switch p w) prov address fd ≡ Some l → Found p w prov fd l
listener-found p w prov address fd l b h = least-found p w prov fd l (filter (λ other. not (eqb other fd)) (map (λ b. b.fd) (filter (is_listening prov address) (the_switch p w).bindings))) (all-found p w prov address fd (the_switch p w).bindings b) h
