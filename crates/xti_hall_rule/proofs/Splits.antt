-- A seat that is cut in two, and a note that is joined, turns the hall's rule.
use Rattle.std.proofs.Common.{◌≡◌, ◌≢◌, ◌⊎◌, inl, inr, ⊎_elim, ℕ, zero, suc, ◌<◌, ◌≤◌, true, false, List, [], ◌∷◌, ◌++◌, length, replicate, set, refl, ap, sym, subst, ◌∙◌, arith, length-set, append_assoc}
use Rattle.std.proofs.lemmas.List.{append-nil, length-replicate}
use mathlib.Core.Option.{some, some-injective, some-ne-none}
use mathlib.Core.List.{IsPrefix}
use native.Mathlib.Decide.{ℕ_discrete}
use lib.ListN.{get_elem?}
use Rattle.std.specs.Prelude.{Some, None}
use Rattle.atomic_table.specs.Table.{State, Splits, Joins}
use Rattle.atomic_table.proofs.Lists.{at_set, set_else, at_longer, at_last}
use Rattle.xti_model.specs.declared.entry.Entry.{Entry}
use Rattle.xti_model.specs.World.{Cell as MCell}
use Rattle.xti_hall_rule.specs.declared.setting.Setting.{Setting}
use Rattle.xti_hall_rule.specs.Histories.{own}
use Rattle.xti_hall_rule.proofs.Laws.{own-append}
use Rattle.xti_hall_rule.specs.declared.view.View.{View}
use Rattle.xti_hall_rule.specs.Rule.{Slot, opened, by, HasCell, HasNumber, KnowsCells, KnowsNumbers, SeatOk, HallRule}
use Rattle.xti_hall_rule.specs.Steps.{giver, given, note_of, told, spent}
use Rattle.xti_hall_rule.proofs.Frames.{put, put_here, put_else, at_put, at_length, has_as, pen_as, number_as}

pub at_end : {A : Type 0} (l : List A) (a b : A) (j : ℕ) → get_elem? (l ++ a ∷ []) j ≡ some b → ((j < length l) × (get_elem? l j ≡ some b)) ⊎ ((j ≡ length l) × (a ≡ b))
at_end [] a b zero e = inr (refl, some-injective a b e)
at_end [] a b (suc j) e = absurd (some-ne-none b (sym e))
at_end (x ∷ xs) a b zero e = inl (omega arith, e)
at_end (x ∷ xs) a b (suc j) e = ⊎_elim (λ t. inl (let k = t.0 in omega arith, t.1)) (λ t. inr (ap suc t.0, t.1)) (at_end xs a b j e)

pub no_hold : (n i : ℕ) (m : MCell) → get_elem? (replicate n None) i ≡ some (Some m) → ⊥
no_hold zero i m e = some-ne-none (Some m) (sym e)
no_hold (suc n) zero m e = absurd (cc)
no_hold (suc n) (suc i) m e = no_hold n i m e

front_nil : {A : Type 0} (xs ys : List A) → xs ++ ys ≡ [] → xs ≡ []
front_nil [] ys e = refl
front_nil (x ∷ xs) ys e = absurd (cc)

pub own_front : (k : ℕ) (xs ys : List Entry) → IsPrefix xs ys → own k ys ≡ [] → own k xs ≡ []
own_front k xs ys p e = front_nil (own k xs) (own k p.0) (sym (own-append k xs p.0) ∙ (ap (own k) p.1 ∙ e))

cancel : {A : Type 0} (m a : List A) → m ++ a ≡ m → a ≡ []
cancel [] a e = e
cancel (x ∷ m) a e = cancel m a (cc)

-- the same calls in a beginning and in the whole are those of what lies between
pub own_between : (k : ℕ) (xs ys zs m : List Entry) → IsPrefix xs ys → IsPrefix ys zs → own k xs ≡ m → own k zs ≡ m → own k ys ≡ m
own_between k xs ys zs m p q e f =
    let a = own k p.0 in let b = own k q.0 in
    let y : own k ys ≡ m ++ a = ap (own k) (sym p.1) ∙ (own-append k xs p.0 ∙ ap (λ z. z ++ a) e) in
    let z : m ++ (a ++ b) ≡ m = sym (append_assoc m a b) ∙ (ap (λ u. u ++ b) (sym y) ∙ (sym (own-append k ys q.0) ∙ (ap (own k) q.1 ∙ f))) in
    y ∙ (ap (λ u. m ++ u) (front_nil a b (cancel m (a ++ b) z)) ∙ append-nil m)

pub prefix_shorter : {A : Type 0} (xs ys zs : List A) → IsPrefix xs zs → IsPrefix ys zs → length xs ≤ length ys → IsPrefix xs ys
prefix_shorter [] ys zs p q le = (ys, refl)
prefix_shorter (x ∷ xs) [] zs p q le = absurd (omega arith)
prefix_shorter (x ∷ xs) (y ∷ ys) [] p q le = absurd (cc (p.1))
prefix_shorter (x ∷ xs) (y ∷ ys) (z ∷ zs) p q le =
    let heads : x ≡ y = cc (p.1, q.1) in
    let rest = prefix_shorter xs ys zs (p.0, cc (p.1)) (q.0, cc (q.1)) (omega arith) in
    (rest.0, cc (heads, rest.1))

module _ {C : Type 0} (stands : C → List (ℕ × MCell) → Type 0) (p : Setting) where
  abbrev H : State (Slot C) View → Type 0
  H = HallRule stands p

  split_step : (s : State (Slot C) View) (r : H s) (id : ℕ) (v left right : View) (owner' : ℕ → ℕ)
      → get_elem? s.views id ≡ some v → v.live ≡ true → left.live ≡ true → left.held ≡ v.held → left.journal ≡ v.journal
      → SeatOk p r.log r.turns r.marks r.pen owner' id left → SeatOk p r.log r.turns r.marks r.pen owner' (length s.views) right
      → ((j : ℕ) (u : View) → j ≢ id → KnowsNumbers p r.log r.marks r.owner j u → KnowsNumbers p r.log r.marks owner' j u)
      → ((k : ℕ) → k < 33 → HasNumber (set s.views id left ++ right ∷ []) (owner' k) k)
      → H record { words = s.words; homes = s.homes; views = set s.views id left ++ right ∷ [] }
  split_step s r id v left right owner' at live alive cells pen okl okr others numbers = let n : ℕ = length s.views in record {
    log = r.log;
    marks = r.marks;
    turns = r.turns;
    pen = r.pen;
    owner = owner';
    wide = r.wide;
    deep = r.deep;
    count = r.count;
    legal = r.legal;
    bytes = r.bytes;
    workers = r.workers;
    many = r.many;
    marked = r.marked;
    each_cell = λ k kt. let ok = r.each_cell k kt in record {
      word = ok.word;
      value = ok.value;
      has = λ j e. let h = has_as s.views id j k v left at (ok.has j e) (λ _. alive) (λ m x. (m, ap (λ l. get_elem? l k) cells ∙ x)) in (h.0, h.1, at_longer (set s.views id left) (right ∷ []) j h.0 h.2, h.3, h.4);
    };
    journal = record {
      word = r.journal.word;
      value = r.journal.value;
      has = λ j e. let h = pen_as s.views id j v left at (r.journal.has j e) (λ _ y. (alive, pen ∙ y)) in (h.0, at_longer (set s.views id left) (right ∷ []) j h.0 h.1, h.2, h.3);
    };
    each_seat = λ j u e a. ⊎_elim
        (λ t. ⊎_elim
        (λ (q : (j ≡ id) × (left ≡ u)). subst (λ (z : ℕ × View). SeatOk p r.log r.turns r.marks r.pen owner' z.0 z.1) (λ i. (sym q.0 i, q.1 i)) okl)
        (λ (q : (j ≢ id) × (get_elem? s.views j ≡ some u)). let ok = r.each_seat j u q.1 a in record { history = ok.history; cells = ok.cells; journal = ok.journal; numbers = λ x. others j u q.0 (ok.numbers x) })
        (at_set s.views id j left u t.1))
        (λ t. subst (λ (z : ℕ × View). SeatOk p r.log r.turns r.marks r.pen owner' z.0 z.1) (λ i. (sym (t.0 ∙ length-set s.views id left) i, t.1 i)) okr)
        (at_end (set s.views id left) right u j e);
    each_number = numbers;
  }

  -- a number's seat stays where another stands behind it
  longer_number : (views : List View) (w : View) (j k : ℕ) → HasNumber views j k → HasNumber (views ++ w ∷ []) j k
  longer_number views w j k q = (q.0, at_longer views (w ∷ []) j q.0 q.1, q.2)

  -- a new seat's number and place are nobody's
  nobody : (s : State (Slot C) View) (r : H s) (i : ℕ) → i < p.cells → r.turns i ≡ opened (length s.views) → ⊥
  nobody s r i lt e = let h = (r.each_cell i lt).has (length s.views) (ap by e) in let k = at_length s.views (length s.views) h.0 h.2 in absurd (omega arith)

  empty_hands : (s : State (Slot C) View) (r : H s) (u : View) → u.held ≡ replicate p.cells None → u.opened ≡ 0 → KnowsCells p r.log r.turns (length s.views) u
  empty_hands s r u h o = record {
    room = ap length h ∙ length-replicate p.cells None;
    held = λ i m e. absurd (no_hold p.cells i m (ap (λ l. get_elem? l i) (sym h) ∙ e));
    opened_is = λ i lt e. absurd (nobody s r i lt e);
    is_opened = λ i e. absurd (omega (arith, o, e));
  }

  pub splits : (id : ℕ) (v : View) → v.live ≡ true → v.numbered ≡ true → v.next < 33 → v.setting ≡ p → Splits H id v (giver v) (given v)
  splits id v live numbered some_left ab s r at = let ok = r.each_seat id v at live in let h = ok.history in let k = ok.numbers numbered in let n : ℕ = v.next in let new : ℕ = length s.views in
      let owner' : ℕ → ℕ = put r.owner n new in let below : v.number < n = k.below in let mine = k.spare n (omega arith) some_left in
      split_step s r id v (giver v) (given v) owner' at live live refl refl
      record {
        history = record { setting = h.setting; seen = h.seen; mine = h.mine; mine_seen = h.mine_seen; no_calls = h.no_calls; heard = h.heard };
        cells = record { room = ok.cells.room; held = ok.cells.held; opened_is = ok.cells.opened_is; is_opened = ok.cells.is_opened };
        journal = record { held = ok.journal.held };
        numbers = λ x. record {
          owned = put_else r.owner n v.number new (λ e. omega arith) ∙ k.owned;
          below = omega arith;
          small = k.small;
          marked = k.marked;
          spare = λ q a b. let t = k.spare q (omega arith) b in (put_else r.owner n q new (λ e. omega arith) ∙ t.0, t.1, t.2);
        };
      }
      record {
        history = record { setting = h.setting; seen = h.seen; mine = λ _. mine.1; mine_seen = λ _. own_front n v.seen r.log h.seen mine.1; no_calls = λ _. refl; heard = h.heard };
        cells = empty_hands s r (given v) (ap (λ (z : Setting). replicate z.cells None) ab) refl;
        journal = record { held = λ e. absurd (cc) };
        numbers = λ _. record { owned = put_here r.owner n new; below = some_left; small = some_left; marked = mine.2; spare = λ q a b. absurd (omega arith) };
      }
      (λ j u ne o. record {
        owned = put_else r.owner n u.number new (λ e. ne (sym o.owned ∙ (ap r.owner e ∙ mine.0))) ∙ o.owned;
        below = o.below;
        small = o.small;
        marked = o.marked;
        spare = λ q a b. let t = o.spare q a b in (put_else r.owner n q new (λ e. ne (sym t.0 ∙ (ap r.owner e ∙ mine.0))) ∙ t.0, t.1, t.2);
      })
      (λ q lt. at_put r.owner n new (λ m x. m < 33 → HasNumber (set s.views id (giver v) ++ given v ∷ []) x m) q
      (λ _. (given v, subst (λ (z : ℕ). get_elem? (set s.views id (giver v) ++ given v ∷ []) z ≡ some (given v)) (length-set s.views id (giver v)) (at_last (set s.views id (giver v)) (given v) (length (set s.views id (giver v))) refl), (live, numbered, inl refl)))
      (λ other qt. longer_number (set s.views id (giver v)) (given v) (r.owner q) q
      (number_as s.views id (r.owner q) q v (giver v) at (r.each_number q qt) (λ x. (x.0, x.1, ⊎_elim (λ (e : v.number ≡ q). inl e) (λ (le : v.next ≤ q). inr (omega (arith, le, other))) x.2)))) lt)

  pub notes : (id : ℕ) (v : View) → v.live ≡ true → v.setting ≡ p → Splits H id v v (note_of v)
  notes id v live ab s r at = let ok = r.each_seat id v at live in let h = ok.history in
      split_step s r id v v (note_of v) r.owner at live live refl refl ok
      record {
        history = record { setting = h.setting; seen = h.seen; mine = λ e. absurd (cc); mine_seen = λ e. absurd (cc); no_calls = λ _. refl; heard = h.heard };
        cells = empty_hands s r (note_of v) (ap (λ (z : Setting). replicate z.cells None) ab) refl;
        journal = record { held = λ e. absurd (cc) };
        numbers = λ e. absurd (cc);
      }
      (λ j u ne o. o)
      (λ k kt. longer_number (set s.views id v) (note_of v) (r.owner k) k (number_as s.views id (r.owner k) k v v at (r.each_number k kt) (λ x. x)))

  pub joins : (id : ℕ) (v : View) (other : ℕ) (w : View) → v.live ≡ true → w.live ≡ true → ((i : ℕ) (m : MCell) → get_elem? w.held i ≡ some (Some m) → ⊥) → w.journal ≡ false → w.numbered ≡ false
      → Joins H id v other w (told v w) spent
  joins id v other w live alive empty off unnumbered s r at ne there =
      let ok = r.each_seat id v at live in let there' : get_elem? s.views other ≡ some w = sym (set_else s.views id other (told v w) ne) ∙ there in let okw = r.each_seat other w there' alive in
      let h = ok.history in let views' = set s.views id (told v w) in record {
        log = r.log;
        marks = r.marks;
        turns = r.turns;
        pen = r.pen;
        owner = r.owner;
        wide = r.wide;
        deep = r.deep;
        count = r.count;
        legal = r.legal;
        bytes = r.bytes;
        workers = r.workers;
        many = r.many;
        marked = r.marked;
        each_cell = λ k kt. let o = r.each_cell k kt in record {
          word = o.word;
          value = o.value;
          has = λ j e. has_not views' j k there (has_as s.views id j k v (told v w) at (o.has j e) (λ _. live) (λ m x. (m, x)));
        };
        journal = record {
          word = r.journal.word;
          value = r.journal.value;
          has = λ j e. pen_as views' other j w spent there (pen_as s.views id j v (told v w) at (r.journal.has j e) (λ _ y. (live, y))) (λ _ y. absurd (true_false (sym y ∙ off)));
        };
        each_seat = λ j u e a. ⊎_elim
            (λ (t : (j ≡ other) × (spent ≡ u)). absurd (true_false (sym a ∙ ap (λ (z : View). z.live) (sym t.1))))
            (λ (t : (j ≢ other) × (get_elem? views' j ≡ some u)). ⊎_elim
            (λ (q : (j ≡ id) × (told v w ≡ u)). subst (λ (z : ℕ × View). SeatOk p r.log r.turns r.marks r.pen r.owner z.0 z.1) (λ i. (sym q.0 i, q.1 i)) record {
              history = record { setting = h.setting; seen = h.seen; mine = h.mine; mine_seen = h.mine_seen; no_calls = h.no_calls; heard = okw.history.seen };
              cells = record { room = ok.cells.room; held = ok.cells.held; opened_is = ok.cells.opened_is; is_opened = ok.cells.is_opened };
              journal = record { held = ok.journal.held };
              numbers = λ x. let k = ok.numbers x in record { owned = k.owned; below = k.below; small = k.small; marked = k.marked; spare = k.spare };
            })
            (λ (q : (j ≢ id) × (get_elem? s.views j ≡ some u)). r.each_seat j u q.1 a)
            (at_set s.views id j (told v w) u t.1))
            (at_set views' other j spent u e);
        each_number = λ k kt. number_as views' other (r.owner k) k w spent there (number_as s.views id (r.owner k) k v (told v w) at (r.each_number k kt) (λ x. x)) (λ x. absurd (true_false (sym x.1 ∙ unnumbered)));
      }
    where
      true_false : true ≡ false → ⊥
      true_false e = absurd (cc)

      has_not : (views : List View) (j k : ℕ) → get_elem? views other ≡ some w → HasCell views j k → HasCell (set views other spent) j k
      has_not views j k there q = go (ℕ_discrete j other)
        where
          go : Dec (j ≡ other) → HasCell (set views other spent) j k
          go (yes same) = let here : get_elem? views j ≡ some w = subst (λ (z : ℕ). get_elem? views z ≡ some w) (sym same) there in
              let is : w ≡ q.0 = some-injective w q.0 (sym here ∙ q.2) in absurd (empty k q.1 (ap (λ (z : View). get_elem? z.held k) is ∙ q.4))
          go (no n) = (q.0, q.1, set_else views other j spent n ∙ q.2, q.3, q.4)

  -- a note is joined
  pub joins_note : (id : ℕ) (v : View) (other : ℕ) (u w : View) → v.live ≡ true → u.live ≡ true → w ≡ note_of u → Joins H id v other w (told v w) spent
  joins_note id v other u w live alive e = joins id v other w live (ap (λ (z : View). z.live) e ∙ alive) (λ i m h. no_hold u.setting.cells i m (ap (λ (z : View). get_elem? z.held i) (sym e) ∙ h)) (ap (λ (z : View). z.journal) e) (ap (λ (z : View). z.numbered) e)
