-- What stays of the hall's rule when one cell's turn and one seat move.
use Rattle.std.proofs.Common.{◌≡◌, ◌≢◌, ◌⊎◌, inl, inr, ⊎_elim, ℕ, zero, suc, ◌+◌, ◌<◌, ◌≤◌, true, List, [], ◌∷◌, length, set, refl, ap, sym, subst, ◌∙◌, arith, length-set, get_or-set_other, get_or-set_same}
use mathlib.Core.Option.{none, some, some-injective, some-ne-none}
use mathlib.Core.Option as maybe
use native.Mathlib.Decide.{ℕ_discrete}
use lib.ListN.{get_elem?}
use Rattle.std.specs.Prelude.{Option, Some}
use Rattle.atomic_table.specs.Table.{State}
use Rattle.atomic_table.proofs.Lists.{at_set, set_here, set_else}
use Rattle.xti_model.specs.declared.entry.Entry.{Entry}
use Rattle.xti_model.specs.World.{Cell as MCell}
use Rattle.xti_hall_rule.specs.declared.setting.Setting.{Setting}
use Rattle.xti_hall_rule.specs.Histories.{part, after}
use Rattle.xti_hall_rule.specs.declared.view.Mark.{Mark}
use Rattle.xti_hall_rule.specs.declared.view.View.{View}
use Rattle.xti_hall_rule.specs.Rule.{Slot, Turn, free, kept, opened, bit, by, HasCell, HasPen, HasAsNumber, HasNumber, CellIn, CellOk, PenIn, KnowsHistory, KnowsNumbers, SeatOk, HallRule}
use Rattle.xti_hall_rule.specs.Steps.{with_held}

abbrev pick : {A P : Type 0} → Dec P → A → A → A
pick (yes _) a b = a
pick (no _) a b = b

pub put : {A : Type 0} → (ℕ → A) → ℕ → A → ℕ → A
put f i c j = pick (ℕ_discrete j i) c (f j)

-- what holds of the new value at i, and of each other one, holds after
pub at_put : {A : Type 0} (f : ℕ → A) (i : ℕ) (c : A) (F : ℕ → A → Type 0) (j : ℕ) → F i c → (j ≢ i → F j (f j)) → F j (put f i c j)
unfolding put
at_put {A} f i c F j here other = go (ℕ_discrete j i)
  where
    go : (d : Dec (j ≡ i)) → F j (pick d c (f j))
    go (yes e) = subst (λ (k : ℕ). F k c) (sym e) here
    go (no n) = other n

pub put_here : {A : Type 0} (f : ℕ → A) (i : ℕ) (c : A) → put f i c i ≡ c
put_here {A} f i c = at_put f i c (λ q x. q ≡ i → x ≡ c) i (λ _. refl) (λ n. absurd (n refl)) refl

pub put_else : {A : Type 0} (f : ℕ → A) (i j : ℕ) (c : A) → j ≢ i → put f i c j ≡ f j
put_else {A} f i j c ne = at_put f i c (λ q x. q ≢ i → x ≡ f q) j (λ n. absurd (n refl)) (λ _ _. refl) ne

-- a seat's number is the turn's holder, or nobody's
abbrev pub Nobody : ℕ → ℕ → Type 0
Nobody x id = (x ≡ 0) ⊎ (x ≡ suc id)

pub not_other : (x id j : ℕ) → Nobody x id → j ≢ id → x ≢ suc j
not_other x id j (inl z) ne e = omega arith
not_other x id j (inr z) ne e = ne (omega arith)

pub at_length : {A : Type 0} (l : List A) (i : ℕ) (a : A) → get_elem? l i ≡ some a → i < length l
at_length [] i a e = absurd (some-ne-none a (sym e))
at_length (x ∷ xs) zero a e = omega arith
at_length (x ∷ xs) (suc i) a e = let k = at_length xs i a e in omega arith

-- a view that changes only what it says of cells knows the same of the rest
pub same_history : (p : Setting) (log : List Entry) (v : View) (l : List (Option MCell)) (o : ℕ) → KnowsHistory p log v → KnowsHistory p log (with_held v l o)
same_history p log v l o k = record { setting = k.setting; seen = k.seen; mine = k.mine; mine_seen = k.mine_seen; no_calls = k.no_calls; heard = k.heard }

pub same_numbers : (p : Setting) (log : List Entry) (marks : List Mark) (owner : ℕ → ℕ) (j : ℕ) (v : View) (l : List (Option MCell)) (o : ℕ) → KnowsNumbers p log marks owner j v → KnowsNumbers p log marks owner j (with_held v l o)
same_numbers p log marks owner j v l o k = record { owned = k.owned; below = k.below; small = k.small; marked = k.marked; spare = k.spare }

-- a seat has what it had, where its view still says so
pub has_as : (views : List View) (id j i : ℕ) (v w : View) → get_elem? views id ≡ some v → HasCell views j i → (v.live ≡ true → w.live ≡ true)
    → ((m : MCell) → get_elem? v.held i ≡ some (Some m) → (m' : MCell) × (get_elem? w.held i ≡ some (Some m'))) → HasCell (set views id w) j i
has_as views id j i v w at q alive f = go (ℕ_discrete j id)
  where
    go : Dec (j ≡ id) → HasCell (set views id w) j i
    go (yes same) = let here : get_elem? views j ≡ some v = subst (λ (z : ℕ). get_elem? views z ≡ some v) (sym same) at in
        let is : v ≡ q.0 = some-injective v q.0 (sym here ∙ q.2) in
        let m = f q.1 (ap (λ (z : View). get_elem? z.held i) is ∙ q.4) in
        (w, m.0, subst (λ (z : ℕ). get_elem? (set views id w) z ≡ some w) (sym same) (set_here views id w (at_length views id v at)), alive (ap (λ (z : View). z.live) is ∙ q.3), m.1)
    go (no ne) = (q.0, q.1, set_else views id j w ne ∙ q.2, q.3, q.4)

pub pen_as : (views : List View) (id j : ℕ) (v w : View) → get_elem? views id ≡ some v → HasPen views j → (v.live ≡ true → v.journal ≡ true → (w.live ≡ true) × (w.journal ≡ true)) → HasPen (set views id w) j
pen_as views id j v w at q f = go (ℕ_discrete j id)
  where
    go : Dec (j ≡ id) → HasPen (set views id w) j
    go (yes same) = let here : get_elem? views j ≡ some v = subst (λ (z : ℕ). get_elem? views z ≡ some v) (sym same) at in
        let is : v ≡ q.0 = some-injective v q.0 (sym here ∙ q.1) in
        let m = f (ap (λ (z : View). z.live) is ∙ q.2) (ap (λ (z : View). z.journal) is ∙ q.3) in
        (w, subst (λ (z : ℕ). get_elem? (set views id w) z ≡ some w) (sym same) (set_here views id w (at_length views id v at)), m.0, m.1)
    go (no ne) = (q.0, set_else views id j w ne ∙ q.1, q.2, q.3)

pub number_as : (views : List View) (id j k : ℕ) (v w : View) → get_elem? views id ≡ some v → HasNumber views j k → (HasAsNumber k v → HasAsNumber k w) → HasNumber (set views id w) j k
number_as views id j k v w at q f = go (ℕ_discrete j id)
  where
    go : Dec (j ≡ id) → HasNumber (set views id w) j k
    go (yes same) = let here : get_elem? views j ≡ some v = subst (λ (z : ℕ). get_elem? views z ≡ some v) (sym same) at in
        let is : v ≡ q.0 = some-injective v q.0 (sym here ∙ q.1) in
        (w, subst (λ (z : ℕ). get_elem? (set views id w) z ≡ some w) (sym same) (set_here views id w (at_length views id v at)), f (subst (HasAsNumber k) (sym is) q.2))
    go (no ne) = (q.0, set_else views id j w ne ∙ q.1, q.2)

-- a number is below m, or not
pub over : (m k : ℕ) (P : Type 0) → (k < m → P) → (m ≤ k → P) → P
over zero k P f g = g (omega arith)
over (suc m) zero P f g = f (omega arith)
over (suc m) (suc k) P f g = over m k P (λ lt. f (omega arith)) (λ le. g (omega arith))

module _ {C : Type 0} (stands : C → List (ℕ × MCell) → Type 0) (p : Setting) where
  pub other_value : (homes' homes : List (maybe.Option (Slot C))) (log : List Entry) (k : ℕ) (y : Turn) → get_elem? homes' k ≡ get_elem? homes k → CellIn stands p homes log k y → CellIn stands p homes' log k y
  other_value homes' homes log k free e q = (q.0, e ∙ q.1, q.2)
  other_value homes' homes log k (kept j) e q = e ∙ q
  other_value homes' homes log k (opened j) e q = tt

  pub other_pen : (homes' homes : List (maybe.Option (Slot C))) (log : List Entry) (marks : List Mark) (y : ℕ) → get_elem? homes' p.cells ≡ get_elem? homes p.cells → PenIn stands p homes log marks y → PenIn stands p homes' log marks y
  other_pen homes' homes log marks zero e q = (q.0, e ∙ q.1, q.2, q.3)
  other_pen homes' homes log marks (suc j) e q = tt

  pub cell_step : (s : State (Slot C) View) (r : HallRule stands p s) (id i b : ℕ) (v : View) (homes' : List (maybe.Option (Slot C))) (c : Turn) (h : Option MCell) (o : ℕ)
      → i < p.cells → get_elem? s.views id ≡ some v → v.live ≡ true → length homes' ≡ length s.homes → ((k : ℕ) → k ≢ i → get_elem? homes' k ≡ get_elem? s.homes k)
      → b ≡ bit c → CellIn stands p homes' r.log i c → Nobody (by (r.turns i)) id → Nobody (by c) id
      → ((m : MCell) → h ≡ Some m → (by c ≡ suc id) × (m ≡ part i (after p r.log)))
      → (by c ≡ suc id → (m : MCell) × (h ≡ Some m))
      → (c ≡ opened id → o ≡ suc i) → ((k : ℕ) → o ≡ suc k → (k ≡ i) × (c ≡ opened id))
      → Nobody v.opened i
      → HallRule stands p record { words = set s.words (i + 1) b; homes = homes'; views = set s.views id (with_held v (set v.held i h) o) }
  cell_step s r id i b v homes' c h o lt at live long elsewhere bit_is value mine0 mine1 rec has lends is_opened was =
      let w : View = with_held v (set v.held i h) o in let mineOk = r.each_seat id v at live in let turns' : ℕ → Turn = put r.turns i c in
      let ws : ℕ = length s.words in let wide : ws ≡ p.cells + 35 = r.wide in let hs : ℕ = length v.held in let room : hs ≡ p.cells = mineOk.cells.room in
      let vs : ℕ = length s.views in let there : id < vs = at_length s.views id v at in record {
        log = r.log;
        marks = r.marks;
        turns = turns';
        pen = r.pen;
        owner = r.owner;
        wide = length-set s.words (i + 1) b ∙ r.wide;
        deep = long ∙ r.deep;
        count = get_or-set_other s.words (i + 1) 0 b 0 (λ e. omega arith) ∙ r.count;
        legal = r.legal;
        bytes = r.bytes;
        workers = r.workers;
        many = r.many;
        marked = r.marked;
        each_cell = λ k kt. at_put r.turns i c (λ q x. q < p.cells → CellOk stands p (set s.words (i + 1) b) homes' (set s.views id w) r.log q x) k
            (λ _. record {
              word = get_or-set_same s.words (i + 1) b 0 (omega arith) ∙ bit_is;
              value = value;
              has = λ j e. let same : j ≡ id = ⊎_elim (λ z. absurd (omega arith)) (λ z. omega arith) mine1 in
                  let m = has (e ∙ ap suc same) in
                  (w, m.0, subst (λ (q : ℕ). get_elem? (set s.views id w) q ≡ some w) (sym same) (set_here s.views id w there), live, set_here v.held i h (omega arith) ∙ ap some m.1);
            })
            (λ ne qt. let ok = r.each_cell k qt in record {
              word = get_or-set_other s.words (i + 1) (k + 1) b 0 (λ e. ne (omega arith)) ∙ ok.word;
              value = other_value homes' s.homes r.log k (r.turns k) (elsewhere k ne) ok.value;
              has = λ j e. has_as s.views id j k v w at (ok.has j e) (λ y. y) (λ m x. (m, set_else v.held i k h ne ∙ x));
            }) kt;
        journal = record {
          word = let else = get_or-set_other s.words (i + 1) (p.cells + 1) b 0 (λ q. omega arith) in (λ e. else ∙ r.journal.word.0 e, λ j e. else ∙ r.journal.word.1 j e);
          value = other_pen homes' s.homes r.log r.marks r.pen (elsewhere p.cells (λ q. omega arith)) r.journal.value;
          has = λ j e. pen_as s.views id j v w at (r.journal.has j e) (λ x y. (x, y));
        };
        each_seat = λ j u e alive. ⊎_elim
            (λ (t : (j ≡ id) × (w ≡ u)). subst (λ (z : ℕ × View). SeatOk p r.log turns' r.marks r.pen r.owner z.0 z.1) (λ q. (sym t.0 q, t.1 q)) record {
              history = same_history p r.log v (set v.held i h) o mineOk.history;
              journal = record { held = mineOk.journal.held };
              numbers = λ x. same_numbers p r.log r.marks r.owner id v (set v.held i h) o (mineOk.numbers x);
              cells = record {
                room = length-set v.held i h ∙ mineOk.cells.room;
                held = λ k m x. at_put r.turns i c (λ q y. get_elem? (set v.held i h) q ≡ some (Some m) → (by y ≡ suc id) × (m ≡ part q (after p r.log))) k
                    (λ x'. rec m (some-injective h (Some m) (sym (set_here v.held i h (omega arith)) ∙ x')))
                    (λ ne x'. mineOk.cells.held k m (sym (set_else v.held i k h ne) ∙ x')) x;
                opened_is = λ k kt. at_put r.turns i c (λ q y. y ≡ opened id → o ≡ suc q) k lends
                    (λ ne y. let e' : v.opened ≡ suc k = mineOk.cells.opened_is k kt y in absurd (⊎_elim (λ z. omega arith) (λ z. ne (omega arith)) was));
                is_opened = λ k e'. let q = is_opened k e' in ap turns' q.0 ∙ (put_here r.turns i c ∙ q.1);
              };
            })
            (λ (t : (j ≢ id) × (get_elem? s.views j ≡ some u)). let ok = r.each_seat j u t.1 alive in record {
              history = ok.history;
              journal = ok.journal;
              numbers = ok.numbers;
              cells = record {
                room = ok.cells.room;
                held = λ k m x. at_put r.turns i c (λ q y. get_elem? u.held q ≡ some (Some m) → (by y ≡ suc j) × (m ≡ part q (after p r.log))) k
                    (λ x'. absurd (not_other (by (r.turns i)) id j mine0 t.0 (ok.cells.held i m x').0)) (λ ne x'. ok.cells.held k m x') x;
                opened_is = λ k kt. at_put r.turns i c (λ q y. y ≡ opened j → u.opened ≡ suc q) k (λ y. absurd (not_other (by c) id j mine1 t.0 (ap by y))) (λ ne y. ok.cells.opened_is k kt y);
                is_opened = λ k e'. at_put r.turns i c (λ q y. u.opened ≡ suc q → y ≡ opened j) k (λ y. absurd (not_other (by (r.turns i)) id j mine0 t.0 (ap by (ok.cells.is_opened i y)))) (λ ne y. ok.cells.is_opened k y) e';
              };
            })
            (at_set s.views id j w u e);
        each_number = λ k kt. number_as s.views id (r.owner k) k v w at (r.each_number k kt) (λ x. x);
      }
