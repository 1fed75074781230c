-- The opening state, a load of the length, and a ring turns the hall's rule.
use Rattle.std.proofs.Common.{◌≡◌, ◌≢◌, ◌⊎◌, inl, inr, ⊎_elim, ℕ, zero, suc, ◌+◌, ◌%◌, ◌^◌, ◌<◌, ◌≤◌, true, List, [], ◌∷◌, ◌++◌, map, length, replicate, set, refl, ap, sym, subst, ◌∙◌, arith, length-set, get_or-set_other}
use Rattle.std.proofs.lemmas.List.{append-nil, length_push, length-map, length-replicate, set-get_or}
use mathlib.Core.Option.{some, some-injective, some-ne-none}
use lib.ListN.{get_or, get_elem?}
use Rattle.std.specs.Prelude.{Some, None}
use Rattle.atomic_table.specs.Table.{State, Allows, keeps, opening}
use Rattle.atomic_table.proofs.Lists.{at_set, set_here, set_else, set_again, at_map, at_last}
use Rattle.xti_model.specs.World.{Cell as MCell}
use Rattle.xti_hall_rule.specs.declared.setting.Setting.{Setting}
use Rattle.xti_hall_rule.specs.Histories as histories
use Rattle.xti_hall_rule.specs.Histories.{part, own, after, Legal}
use Rattle.xti_hall_rule.specs.declared.view.Mark.TheVariants.{Absent}
use Rattle.xti_hall_rule.specs.declared.view.View.{View}
use Rattle.xti_hall_rule.specs.declared.view.Held.TheVariants.{Cell, Journal}
use Rattle.xti_hall_rule.specs.Rule.{Slot, Boxed, HasLog, free, HasAsNumber, SeatOk, HallRule, mark_of, MarkFits, newcomer, opening_marks}
use Rattle.xti_hall_rule.specs.Steps.{Seated, with_seen, looked}
use Rattle.xti_hall_rule.proofs.Frames.{has_as, pen_as, number_as, over}

at_one : {A : Type 0} (a b : A) (j : ℕ) → get_elem? (a ∷ []) j ≡ some b → (j ≡ 0) × (a ≡ b)
at_one a b zero e = (refl, some-injective a b e)
at_one a b (suc j) e = absurd (some-ne-none b (sym e))

no_hold : (n i : ℕ) (m : MCell) → get_elem? (replicate n None) i ≡ some (Some m) → ⊥
no_hold zero i m e = some-ne-none (Some m) (sym e)
no_hold (suc n) zero m e = absurd (cc)
no_hold (suc n) (suc i) m e = no_hold n i m e

absent : (n k : ℕ) → get_or (replicate n Absent) k Absent ≡ Absent
absent zero k = refl
absent (suc n) zero = refl
absent (suc n) (suc k) = absent n k

opening_fits : (p : Setting) (k : ℕ) → MarkFits p [] (mark_of opening_marks k)
opening_fits p zero = tt
opening_fits p (suc k) = subst (MarkFits p []) (sym (absent 32 k)) tt

module _ {C : Type 0} (stands : C → List (ℕ × MCell) → Type 0) (p : Setting) where
  abbrev H : State (Slot C) View → Type 0
  H = HallRule stands p

  pub record Opens (ws : List ℕ) (xs : List (Slot C)) : Type 0 where
    pub wide : length ws ≡ p.cells + 35
    pub zeros : (k : ℕ) → get_or ws k 0 ≡ 0
    pub deep : length xs ≡ p.cells + 1
    pub cells : (i : ℕ) → i < p.cells → (x : C) × (get_elem? xs i ≡ some (Some (Cell x))) × stands x ((i, part i (histories.opening p)) ∷ [])
    pub book : (b : Boxed) × (get_elem? xs p.cells ≡ some (Some (Journal b))) × HasLog p b.value [] × (b.value.marks.items ≡ opening_marks)

  pub starts : (ws : List ℕ) (xs : List (Slot C)) → Opens ws xs → H (opening ws xs (newcomer p))
  starts ws xs o = let v : View = newcomer p in record {
    log = [];
    marks = opening_marks;
    turns = λ _. free;
    pen = 0;
    owner = λ _. 0;
    wide = o.wide;
    deep = length-map xs some ∙ o.deep;
    count = o.zeros 0;
    legal = tt;
    bytes = tt;
    workers = λ _ _. refl;
    many = ap suc (length-replicate 32 Absent);
    marked = opening_fits p;
    each_cell = λ i lt. let c = o.cells i lt in record { word = o.zeros (i + 1); value = (c.0, at_map some xs i (Some (Cell c.0)) c.1, c.2); has = λ j e. absurd (omega arith) };
    journal = record { word = (λ _. o.zeros (p.cells + 1), λ j e. absurd (omega arith)); value = (o.book.0, at_map some xs p.cells (Some (Journal o.book.0)) o.book.1, o.book.2, o.book.3); has = λ j e. absurd (omega arith) };
    each_seat = λ j u e a. let t = at_one v u j e in subst (λ (z : ℕ × View). SeatOk p [] (λ _. free) opening_marks 0 (λ _. 0) z.0 z.1) (λ i. (sym t.0 i, t.1 i)) record {
      history = record { setting = refl; seen = ([], refl); mine = λ _. refl; mine_seen = λ _. refl; no_calls = λ _. refl; heard = ([], refl) };
      cells = record { room = length-replicate p.cells None; held = λ i m e'. absurd (no_hold p.cells i m e'); opened_is = λ i lt e'. absurd (cc); is_opened = λ i e'. absurd (omega arith) };
      journal = record { held = λ e'. absurd (cc) };
      numbers = λ _. record { owned = refl; below = omega arith; small = omega arith; marked = refl; spare = λ k a' b. (refl, refl, later k a') };
    };
    each_number = λ k kt. (v, refl, (refl, refl, own_or_spare k));
  }
    where
      own_or_spare : (k : ℕ) → (0 ≡ k) ⊎ (1 ≤ k)
      own_or_spare zero = inl refl
      own_or_spare (suc k) = inr (omega arith)

      later : (k : ℕ) → 1 ≤ k → mark_of opening_marks k ≡ Absent
      later zero le = absurd (omega arith)
      later (suc k) le = absent 32 k

  -- a step that changes no word but a bell, and one view
  pub view_step : (s : State (Slot C) View) (r : H s) (id : ℕ) (ws : List ℕ) (v w : View) → length ws ≡ length s.words → ((k : ℕ) → k < p.cells + 2 → get_or ws k 0 ≡ get_or s.words k 0)
      → get_elem? s.views id ≡ some v → w.live ≡ true → w.held ≡ v.held → w.journal ≡ v.journal → ((k : ℕ) → HasAsNumber k v → HasAsNumber k w) → SeatOk p r.log r.turns r.marks r.pen r.owner id w
      → H record { words = ws; homes = s.homes; views = set s.views id w }
  view_step s r id ws v w long same at live cells pen numbers ok = record {
    log = r.log;
    marks = r.marks;
    turns = r.turns;
    pen = r.pen;
    owner = r.owner;
    wide = long ∙ r.wide;
    deep = r.deep;
    count = same 0 (omega arith) ∙ r.count;
    legal = r.legal;
    bytes = r.bytes;
    workers = r.workers;
    many = r.many;
    marked = r.marked;
    each_cell = λ k kt. let o = r.each_cell k kt in record { word = same (k + 1) (omega arith) ∙ o.word; value = o.value; has = λ j e. has_as s.views id j k v w at (o.has j e) (λ _. live) (λ m x. (m, ap (λ l. get_elem? l k) cells ∙ x)) };
    journal = record {
      word = let e = same (p.cells + 1) (omega arith) in (λ x. e ∙ r.journal.word.0 x, λ j x. e ∙ r.journal.word.1 j x);
      value = r.journal.value;
      has = λ j e. pen_as s.views id j v w at (r.journal.has j e) (λ _ y. (live, pen ∙ y));
    };
    each_seat = λ j u e a. ⊎_elim
        (λ (t : (j ≡ id) × (w ≡ u)). subst (λ (z : ℕ × View). SeatOk p r.log r.turns r.marks r.pen r.owner z.0 z.1) (λ q. (sym t.0 q, t.1 q)) ok)
        (λ (t : (j ≢ id) × (get_elem? s.views j ≡ some u)). r.each_seat j u t.1 a)
        (at_set s.views id j w u e);
    each_number = λ k kt. number_as s.views id (r.owner k) k v w at (r.each_number k kt) (numbers k);
  }

  pub looks : (n id : ℕ) (me : Seated C) → me.0.live ≡ true → Allows H n id me 0 (λ k. k) (looked me)
  looks n id me live s r wide at small = let v : View = me.0 in let ok = r.each_seat id v at live in let h = ok.history in let w : View = with_seen v r.log in (
    w,
    keeps,
    tt,
    subst (λ (z : List ℕ). H record { words = z; homes = s.homes; views = set s.views id w }) (sym (set-get_or s.words 0 0)) (view_step s r id s.words v w refl (λ _ _. refl) at live refl refl (λ k x. x) record {
      history = record { setting = h.setting; seen = ([], append-nil r.log); mine = h.mine; mine_seen = h.mine; no_calls = h.no_calls; heard = h.heard };
      cells = record { room = ok.cells.room; held = ok.cells.held; opened_is = ok.cells.opened_is; is_opened = ok.cells.is_opened };
      journal = record { held = ok.journal.held };
      numbers = λ x. let k = ok.numbers x in record { owned = k.owned; below = k.below; small = k.small; marked = k.marked; spare = k.spare };
    }),
    (
      r.log,
      refl,
      record {
        length_is = r.count;
        heard = h.heard;
        legal = subst (λ z. Legal z r.log) (sym h.setting) r.legal;
        bytes = r.bytes;
        seen = h.seen;
        mine = h.mine;
        spare = λ x k le. over 33 k (own k r.log ≡ []) (λ lt. ((ok.numbers x).spare k le lt).1) (λ big. r.workers k big);
        parts = λ i m e. (ok.cells.held i m e).1 ∙ ap (λ (z : Setting). part i (after z r.log)) (sym h.setting);
        recorded = λ e. sym (ok.journal.held e).1;
      },
    ),
  )

  pub rings : (n id : ℕ) (me : Seated C) (seat : ℕ) → seat < 33 → me.0.live ≡ true → Allows H n id me (p.cells + 2 + seat) (λ k. (k + 1) % 2 ^ 64) (λ _ m'. m' ≡ me)
  rings n id me seat few live s r wide at small = let bell : ℕ = p.cells + 2 + seat in let b : ℕ = (get_or s.words bell 0 + 1) % 2 ^ 64 in (
    me.0,
    keeps,
    tt,
    view_step s r id (set s.words bell b) me.0 me.0 (length-set s.words bell b) (λ k lt. get_or-set_other s.words bell k b 0 (λ e. omega arith)) at live refl refl (λ k x. x) (r.each_seat id me.0 at live),
    refl,
  )

  pub rings_at : (n id i : ℕ) (me : Seated C) (seat : ℕ) → i ≡ p.cells → seat < 33 → me.0.live ≡ true → Allows H n id me (i + 2 + seat) (λ k. (k + 1) % 2 ^ 64) (λ _ m'. m' ≡ me)
  rings_at n id i me seat is few live = subst (λ (z : ℕ). Allows H n id me (z + 2 + seat) (λ k. (k + 1) % 2 ^ 64) (λ _ m'. m' ≡ me)) (sym is) (rings n id me seat few live)

at_front : {A : Type 0} (l m : List A) (i : ℕ) (a : A) → get_elem? l i ≡ some a → get_elem? (l ++ m) i ≡ some a
at_front l m i a e = Rattle.atomic_table.proofs.Lists.at_longer l m i a e

there : {A : Type 0} (l : List A) (i : ℕ) → i < length l → (a : A) × (get_elem? l i ≡ some a)
there [] i h = absurd (omega arith)
there (x ∷ xs) zero h = (x, refl)
there (x ∷ xs) (suc i) h = there xs i (omega arith)

-- the words, the cells and the journal of a new hall
pub opens_with : {C : Type 0} (stands : C → List (ℕ × MCell) → Type 0) (p : Setting) (n : ℕ) (xs : List C) (ws : List ℕ) (slots : List (Slot C)) (b : Boxed) → n ≡ p.cells → length xs ≡ p.cells
    → ((i : ℕ) (x : C) → get_elem? xs i ≡ some x → stands x ((i, part i (histories.opening p)) ∷ [])) → ws ≡ replicate (n + 35) 0 → slots ≡ map (λ x. Some (Cell x)) xs ++ Some (Journal b) ∷ [] → HasLog p b.value [] → b.value.marks.items ≡ opening_marks
    → HallRule stands p (opening ws slots (newcomer p))
opens_with {C} stands p n xs ws slots b num many good words all clean marks = starts stands p ws slots record {
  wide = ap length words ∙ (length-replicate (n + 35) 0 ∙ ap (λ (z : ℕ). z + 35) num);
  zeros = λ k. ap (λ (l : List ℕ). get_or l k 0) words ∙ zero_at (n + 35) k;
  deep = ap length all ∙ (length_push (map (λ (x : C). Some (Cell x)) xs) (Some (Journal b)) ∙ ap (λ (z : ℕ). z + 1) (length-map xs (λ (x : C). Some (Cell x)) ∙ many));
  cells = λ i lt. let x = there xs i (omega (arith, many)) in (x.0, ap (λ (l : List (Slot C)). get_elem? l i) all ∙ at_front (map (λ (y : C). Some (Cell y)) xs) (Some (Journal b) ∷ []) i (Some (Cell x.0)) (at_map (λ (y : C). Some (Cell y)) xs i x.0 x.1), good i x.0 x.1);
  book = (b, ap (λ (l : List (Slot C)). get_elem? l p.cells) all ∙ at_last (map (λ (y : C). Some (Cell y)) xs) (Some (Journal b)) p.cells (length-map xs (λ (x : C). Some (Cell x)) ∙ many), clean, marks);
}
  where
    zero_at : (m k : ℕ) → get_or (replicate m zero) k zero ≡ zero
    zero_at zero k = refl
    zero_at (suc m) zero = refl
    zero_at (suc m) (suc k) = zero_at m k
