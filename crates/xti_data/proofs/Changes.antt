-- What changes of an endpoint leave.
use Rattle.std.proofs.Common.{◌≡◌, ℕ, Bool, true, false, not, cond, eqb, List, [], ◌∷◌, ◌++◌, Option, Some, None, refl, sym, ap, ◌∙◌, subst, append-nil}
use Rattle.std.specs.Prelude.{IfSome, option_and_then}
use Rattle.xti_model.specs.declared.profile.Providers.{Providers}
use Rattle.xti_model.specs.Calls.Release as Release
use Rattle.xti_model.specs.Calls.Send as Send
use Rattle.xti_model.specs.Endpoint.{Endpoint}
use Rattle.xti_model.specs.Links.{at_linked, if_names, names}
use Rattle.xti_model.specs.Symbols.{piece}
use Rattle.xti_model.specs.World.{World, Cell, endpoint_cell, switch_cell, Numbered, Change, at_endpoint, endpoint, endpoint_in, cell_at, change, change_endpoint, changed, place_of, generation_of}
use Rattle.xti_data.specs.declared.portions.Portion.{Portion}
use Rattle.xti_lent.specs.Answers.{Changed, IsMade}
use Rattle.xti_lent.specs.Fit.{SameCells}
use Rattle.xti_lent.specs.Lending.{Lending, cells}
use Rattle.xti_model.specs.declared.entry.Applied.{Applied}
use Rattle.xti_model.specs.declared.entry.Outcome.{Outcome}
use Rattle.xti_model.specs.Step.{made}
use Rattle.xti_end.specs.Taken.{taken}
use Rattle.xti_data.specs.Portions.{bytes_of, piece_of, IsWithin}
use Rattle.xti_data.specs.Sends.{telling, told_of_release}

-- one change after another
pub changed-append : (p : Providers) (w : World) (cs ds : List Change) → changed p w (cs ++ ds) ≡ changed p (changed p w cs) ds
changed-append p w [] ds = refl
changed-append p w (c ∷ cs) ds = changed-append p (changed p w (c ∷ [])) cs ds

-- a change that leaves each endpoint as it was leaves all cells
module _ (f : Endpoint → Endpoint) (same : (e : Endpoint) → f e ≡ e) where
  same-if : (b : Bool) (e : Endpoint) → cond b (f e) e ≡ e
  same-if true e = same e
  same-if false e = refl

  same-cell : (g : ℕ) (c : Cell) → change_endpoint g f c ≡ c
  same-cell g (endpoint_cell k None) = refl
  same-cell g (endpoint_cell k (Some e)) = ap (λ (x : Endpoint). endpoint_cell k (Some x)) (same-if (eqb k g) e)
  same-cell g (switch_cell s) = refl

  same-numbered : (b : Bool) (c : Numbered) (x : Cell) → x ≡ c.cell → cond b (record c { cell = x }) c ≡ c
  same-numbered true c x e = ap (λ (y : Cell). record c { cell = y }) e
  same-numbered false c x e = refl

  same-cells : (n g : ℕ) (w : World) → change n (change_endpoint g f) w ≡ w
  same-cells n g [] = refl
  same-cells n g (c ∷ w) = rw (same-numbered (eqb c.number n) c (change_endpoint g f c.cell) (same-cell g c.cell), same-cells n g w) refl

  pub same-changed : (p : Providers) (fd : ℕ) (w : World) → changed p w (at_endpoint fd f ∷ []) ≡ w
  same-changed p fd w = same-cells (place_of p fd) (generation_of p fd) w

-- nothing comes
nothing : (expedited : Bool) (e : Endpoint) → Send.received expedited [] e ≡ e
nothing true e = ap (λ (s : List ℕ). record e { expedited = s }) (append-nil e.expedited)
nothing false e = ap (λ (s : List ℕ). record e { normal = s }) (append-nil e.normal)

nothing-if : (b expedited : Bool) (e : Endpoint) → cond b (Send.received expedited [] e) e ≡ e
nothing-if true expedited e = nothing expedited e
nothing-if false expedited e = refl

pub nothing-comes : (p : Providers) (fd from : ℕ) (expedited : Bool) (s : List ℕ) (w : World) → s ≡ [] → w ≡ changed p w (at_endpoint fd (if_names from (Send.received expedited s)) ∷ [])
nothing-comes p fd from expedited s w e =
    sym (same-changed (if_names from (Send.received expedited [])) (λ x. nothing-if (names from x.peer) expedited x) p fd w)
    ∙ ap (λ (t : List ℕ). changed p w (at_endpoint fd (if_names from (Send.received expedited t)) ∷ [])) (sym e)

pub empty-piece : (bytes : List ℕ) (portion : Portion) → portion.count ≡ 0 → not portion.ends ≡ true → piece_of bytes portion ≡ []
empty-piece bytes portion n e = go portion.ends e (rw n refl)
  where
    go : (b : Bool) → not b ≡ true → bytes_of bytes portion ≡ [] → piece (bytes_of bytes portion) b ≡ []
    go true e h = cc
    go false e h = h

-- what a change keeps true of each endpoint stays true of one that is open
abbrev found : ℕ → Option Numbered → Option Endpoint
found k o = option_and_then (λ c. endpoint_in k c.cell) o

module _ (P : Endpoint → Type 0) (f : Endpoint → Endpoint) (stays : (e : Endpoint) → P e → P (f e)) where
  stays-if : (b d : Bool) (e : Endpoint) → IfSome (cond b (Some e) None) P → IfSome (cond b (Some (cond d (f e) e)) None) P
  stays-if true true e h = stays e h
  stays-if true false e h = h
  stays-if false d e h = h

  cell-stays : (g k : ℕ) (c : Cell) → IfSome (endpoint_in k c) P → IfSome (endpoint_in k (change_endpoint g f c)) P
  cell-stays g k (endpoint_cell j None) h = h
  cell-stays g k (endpoint_cell j (Some e)) h = stays-if (eqb j k) (eqb j g) e h
  cell-stays g k (switch_cell s) h = h

  found-stays : (t : Bool) (g k : ℕ) (c : Numbered) (o q : Option Numbered) → IfSome (found k (cond t (Some c) o)) P → (IfSome (found k o) P → IfSome (found k q) P)
      → IfSome (found k (cond t (Some (record c { cell = change_endpoint g f c.cell })) q)) P
  found-stays true g k c o q h later = cell-stays g k c.cell h
  found-stays false g k c o q h later = later h

  found-same : (t : Bool) (k : ℕ) (c : Numbered) (o q : Option Numbered) → IfSome (found k (cond t (Some c) o)) P → (IfSome (found k o) P → IfSome (found k q) P)
      → IfSome (found k (cond t (Some c) q)) P
  found-same true k c o q h later = h
  found-same false k c o q h later = later h

  change-stays : (n g m k : ℕ) (w : World) → IfSome (found k (cell_at w m)) P → IfSome (found k (cell_at (change n (change_endpoint g f) w) m)) P
  change-stays n g m k [] h = h
  change-stays n g m k (c ∷ w) h = go (eqb c.number n) (change-stays n g m k w)
    where
      go : (b : Bool) → (IfSome (found k (cell_at w m)) P → IfSome (found k (cell_at (change n (change_endpoint g f) w) m)) P)
          → IfSome (found k (cell_at (cond b (record c { cell = change_endpoint g f c.cell }) c ∷ change n (change_endpoint g f) w) m)) P
      go true later = found-stays (eqb c.number m) g k c (cell_at w m) (cell_at (change n (change_endpoint g f) w) m) h later
      go false later = found-same (eqb c.number m) k c (cell_at w m) (cell_at (change n (change_endpoint g f) w) m) h later

  pub endpoint-stays : (p : Providers) (fd x : ℕ) (w : World) → IfSome (endpoint p w x) P → IfSome (endpoint p (changed p w (at_endpoint fd f ∷ [])) x) P
  endpoint-stays p fd x w h = change-stays (place_of p fd) (generation_of p fd) (place_of p x) (generation_of p x) w h

-- data that come leave the messages that the endpoint itself sends
within-stays : (p : Providers) (portion : Portion) (b expedited : Bool) (s : List ℕ) (e : Endpoint) → IsWithin p portion e → IsWithin p portion (cond b (Send.received expedited s e) e)
within-stays p portion true true s e h = h
within-stays p portion true false s e h = h
within-stays p portion false expedited s e h = h

pub linked-stays : (p : Providers) (fd x : ℕ) (peer : Option ℕ) (portion : Portion) (expedited : Bool) (s : List ℕ) (w : World) → IfSome (endpoint p w x) (IsWithin p portion)
    → IfSome (endpoint p (changed p w (at_linked fd peer (Send.received expedited s))) x) (IsWithin p portion)
linked-stays p fd x None portion expedited s w h = h
linked-stays p fd x (Some peer) portion expedited s w h =
    endpoint-stays (IsWithin p portion) (if_names fd (Send.received expedited s)) (λ e. within-stays p portion (names fd e.peer) expedited s e) p peer x w h

-- a step with this outcome, after changes
pub made-after : (old new : Lending) (fd : ℕ) (cs : List Change) (outcome : Outcome) (a : Applied) → SameCells old new → Changed cs old new → IsMade new fd outcome a
    → taken a (cells new) ≡ Some (made old.providers fd outcome (changed old.providers (cells old) cs))
made-after old new fd cs outcome a s c m =
    m ∙ ap (λ (p : Providers). Some (made p fd outcome (cells new))) s.providers ∙ ap (λ (w : World). Some (made old.providers fd outcome w)) c

-- a sender that sends no more, among these lent cells
abbrev Releases : ℕ → Lending → Lending → Type 0
Releases fd = Changed (at_endpoint fd Release.after_send ∷ [])

pub sender-released : (fd : ℕ) (a b new : Lending) → a ≡ b → Releases fd a new → Releases fd b new
sender-released fd a b new e r = subst (λ (l : Lending). Releases fd l new) e r

-- its peer was told of the release before
pub peer-told : (old mid new : Lending) (fd peer : ℕ) (udata read : List ℕ) → read ≡ udata → SameCells old mid → Changed (told_of_release peer fd read) old mid → Releases fd mid new
    → Changed (telling fd (Some peer) udata) old new
peer-told old mid new fd peer udata read e s t r =
    let p = old.providers in
    let last = at_endpoint fd Release.after_send ∷ [] in
    r ∙ ap (λ (q : Providers). changed q (cells mid) last) s.providers ∙ ap (λ (w : World). changed p w last) t
    ∙ ap (λ (d : List ℕ). changed p (changed p (cells old) (told_of_release peer fd d)) last) e
