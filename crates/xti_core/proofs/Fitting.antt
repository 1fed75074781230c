-- Which lent cells are fit for a step.
use Rattle.std.proofs.Common.{◌≡◌, ℕ, ◌<◌, Bool, true, false, ◌||◌, cond, eqb, List, [], ◌∷◌, map, length, Option, Some, None, refl, sym, ap, ◌∙◌, subst}
use Rattle.std.specs.Prelude.{option_map, is_some}
use Rattle.std.specs.List.{AllByRecursion}
use Rattle.std.proofs.lemmas.Bool.{eq-eqb, eqb-true}
use Rattle.xti_model.specs.Sound.{is_sound_body, Agrees}
use Rattle.xti_model.specs.World.{Cell, Switch, cell_at, switch_cell, switch_number, is_among, the_switch, places}
use Rattle.xti_registry.specs.Known.{Known}
use Rattle.xti_end.specs.Held.{Held, cell}
use Rattle.xti_laws.specs.Invariant.{SoundWorld}
use Rattle.xti_laws.specs.SoundLaws.{SoundWhenLent}
use Rattle.xti_laws.proofs.Lent.{lent-cell}
use Rattle.xti_lent.specs.Kept.{Distinct, IsPlace}
use Rattle.xti_lent.specs.Lending.{Lending, held_in, held_at, cell_lent, cells_by}
use Rattle.xti_lent.specs.Fit.{IsSound, KnownTo, Agree, IsFit, place_of_held}
use Rattle.xti_lent.proofs.Worlds.{at_number, cell_at-is}
use Rattle.xti_lent.proofs.Places.{place-cell}
use Rattle.xti_lent.proofs.Lendings.{cell-is, lent-switch, switch-is}
use Rattle.xti_lent.proofs.Open.{held-all}
use Rattle.xti_lent.proofs.Named.{all-among}
use Rattle.xti_core.specs.Standing.{IsLoan}
use Rattle.xti_core.proofs.SomeCells.{Sub, switch-sub}

pub held-sound : (l : Lending) (n : ℕ) (h : Held) → AllByRecursion IsSound l.held → held_at l n ≡ Some h → is_sound_body h.body ≡ true
held-sound l n h a e = held-all IsSound l.numbers l.held n h e a

-- and what holds of each that is found holds of all
pub held-among : (ms : List ℕ) (hs : List Held) (n : ℕ) (x : Held) → held_in ms hs n ≡ Some x → is_among ms n ≡ true
held-among [] hs n x e = cc
held-among (m ∷ ms) [] n x e = cc
held-among (m ∷ ms) (h ∷ hs) n x e = go (eqb m n) e (held-among ms hs n x)
  where
    go : (b : Bool) → cond b (Some h) (held_in ms hs n) ≡ Some x → (held_in ms hs n ≡ Some x → is_among ms n ≡ true) → (b || is_among ms n) ≡ true
    go true i j = refl
    go false i j = j i

abbrev pub head_or : ℕ → List ℕ → ℕ
head_or d [] = d
head_or d (n ∷ ns) = n

abbrev pub tail_of : List ℕ → List ℕ
tail_of [] = []
tail_of (n ∷ ns) = ns

pub each-held : (P : Held → Type 0) (ms : List ℕ) (hs : List Held) → Distinct ms → map place_of_held hs ≡ ms → ((h : Held) → held_in ms hs h.place ≡ Some h → P h) → AllByRecursion P hs
each-held P ms [] d e f = tt
each-held P [] (h ∷ hs) d e f = cc
each-held P (m ∷ ms) (h ∷ hs) d e f = (f h (rw (eq-eqb m h.place (sym (ap (head_or 0) e))) refl), each-held P ms hs d.1 (ap tail_of e) (λ x i. f x (tail x i (eqb m x.place) refl)))
  where
    tail : (x : Held) → held_in ms hs x.place ≡ Some x → (b : Bool) → eqb m x.place ≡ b → held_in (m ∷ ms) (h ∷ hs) x.place ≡ Some x
    tail x i true j =
        let s : m ≡ x.place = eqb-true m x.place j in
        let t : is_among ms x.place ≡ true = held-among ms hs x.place x i in
        let u : is_among ms m ≡ true = subst (λ z. is_among ms z ≡ true) (sym s) t in
        absurd (let v = d.0 in cc)
    tail x i false j = rw j i

-- a lent endpoint has a place
pub place-of : (l : Lending) (h : Held) → IsLoan l → held_at l h.place ≡ Some h → h.place < places l.providers
place-of l h loan e = all-among (IsPlace l.providers) l.numbers h.place loan.kept.places (held-among l.numbers l.held h.place h e)

-- a lent endpoint is in the cell of its place
pub lent-at : (at : ℕ → Option Cell) (l : Lending) (h : Held) → Sub (cell_lent l) at → IsLoan l → held_at l h.place ≡ Some h → cell_at (cells_by l.providers at) h.place ≡ Some (at_number h.place (cell h))
lent-at at l h u loan e =
    let lt = place-of l h loan e in
    let i : cell_lent l h.place ≡ Some (cell h) = cell-is l h.place h lt e in
    let j : at h.place ≡ Some (cell h) = sym (u h.place (ap is_some i)) ∙ i in
    cell_at-is l.providers at h.place (place-cell l.providers h.place lt) ∙ ap (option_map (at_number h.place)) j

-- a lent endpoint of a sound world
pub held-fits : (at : ℕ → Option Cell) (l : Lending) (h : Held) → SoundWorld l.providers (cells_by l.providers at) → Sub (cell_lent l) at → IsLoan l → held_at l h.place ≡ Some h → SoundWhenLent l.providers (the_switch l.providers (cells_by l.providers at)) h.place (cell h)
held-fits at l h s u loan e = lent-cell l.providers (cells_by l.providers at) h.place (at_number h.place (cell h)) s (place-of l h loan e) (lent-at at l h u loan e)

pub sounds : (at : ℕ → Option Cell) (l : Lending) → SoundWorld l.providers (cells_by l.providers at) → Sub (cell_lent l) at → IsLoan l → AllByRecursion IsSound l.held
sounds at l s u loan = each-held IsSound l.numbers l.held loan.kept.distinct loan.own (λ h e. (held-fits at l h s u loan e).is_sound_alone)

pub table-there : (l : Lending) (k : Known) → l.registry ≡ Some k → is_some (cell_lent l (switch_number l.providers)) ≡ true
table-there l k i = ap is_some (lent-switch l ∙ ap (option_map (λ (k : Known). switch_cell k.switch)) i)

-- lent cells of a sound world are fit
pub fits : (at : ℕ → Option Cell) (l : Lending) → SoundWorld l.providers (cells_by l.providers at) → Sub (cell_lent l) at → IsLoan l → IsFit l
fits at l s u loan = record {
  places = loan.own;
  sound = sounds at l s u loan;
  agree = agree l.registry refl;
}
  where
    agree : (o : Option Known) → l.registry ≡ o → Agree l.providers o l.held
    agree None i = tt
    agree (Some k) i =
        let t : the_switch l.providers (cells_by l.providers at) ≡ k.switch = sym (switch-sub l.providers (cell_lent l) at u (table-there l k i)) ∙ switch-is l k i in
        record {
          places_known = subst (λ (z : Switch). length z.places ≡ places l.providers) t s.registered.agreement.places_known;
          each_agrees = each-held (KnownTo l.providers k.switch) l.numbers l.held loan.kept.distinct loan.own (λ h e. subst (λ z. Agrees l.providers z h.place h.generation h.body) t (held-fits at l h s u loan e).switch_agrees);
        }
