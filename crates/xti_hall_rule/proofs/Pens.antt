-- The steps on the journal's turn turns the hall's rule.
use Rattle.std.proofs.Common.{◌≡◌, ◌≢◌, inl, inr, ⊎_elim, ℕ, zero, suc, ◌+◌, ◌<◌, eqb, true, List, [], ◌∷◌, length, set, refl, ap, sym, subst, ◌∙◌, arith, length-set, get_or-set_other, get_or-set_same}
use Rattle.std.proofs.lemmas.List.{append-nil}
use mathlib.Core.Option.{none, some, some-injective, some-ne-none}
use mathlib.Core.Option as maybe
use mathlib.Core.List.{IsPrefix}
use native.Mathlib.Decide.{ℕ_discrete}
use lib.ListN.{get_or, get_elem?}
use prog.Atomic.{either}
use Rattle.std.specs.Prelude.{Some, None}
use Rattle.atomic_table.specs.Table.{State, step, takes, gives, rest, Allows}
use Rattle.atomic_table.proofs.Lists.{at_set, set_here, set_else, exchanged}
use Rattle.xti_model.specs.declared.entry.Entry.{Entry}
use Rattle.xti_model.specs.World.{Cell as MCell}
use Rattle.xti_hall_rule.specs.declared.setting.Setting.{Setting}
use Rattle.xti_hall_rule.specs.Histories.{part, own, after, Legal}
use Rattle.xti_hall_rule.specs.declared.view.View.{View}
use Rattle.xti_hall_rule.specs.declared.view.Held.TheVariants.{Cell, Journal}
use Rattle.xti_hall_rule.specs.Rule.{Slot, Boxed, HasLog, HasAsNumber, PenIn, KnowsHistory, KnowsNumbers, SeatOk, HallRule, mark_of, MarkFits}
use Rattle.xti_hall_rule.specs.Steps.{with_pen, given_back, gave_back, Seated, Began, began}
use Rattle.xti_hall_rule.specs.declared.view.Mark.{Mark}
use Rattle.xti_hall_rule.specs.Steps.{Marked}
use Rattle.xti_hall_rule.proofs.Frames.{Nobody, not_other, at_length, has_as, number_as, other_value, over}
use Rattle.xti_hall_rule.proofs.Turns.{Goes, stays}

-- whether the word of the journal's turn fits
abbrev pub Shows : ℕ → ℕ → Type 0
Shows pen b = (pen ≡ 0 → b ≡ 0) × ((j : ℕ) → pen ≡ suc j → b ≡ 1)

pub prefix_of : {A : Type 0} (xs ys zs : List A) → IsPrefix xs ys → ys ≡ zs → IsPrefix xs zs
prefix_of xs ys zs p e = (p.0, p.1 ∙ e)

-- the marks of others stay
pub other_numbers : (p : Setting) (log : List Entry) (marks marks' : List Mark) (owner : ℕ → ℕ) (id j : ℕ) (u : View) → j ≢ id → ((k : ℕ) → owner k ≢ id → mark_of marks' k ≡ mark_of marks k)
    → KnowsNumbers p log marks owner j u → KnowsNumbers p log marks' owner j u
other_numbers p log marks marks' owner id j u ne same k = record {
  owned = k.owned;
  below = k.below;
  small = k.small;
  marked = same u.number (λ e. ne (sym k.owned ∙ e)) ∙ k.marked;
  spare = λ q a b. let t = k.spare q a b in (t.0, t.1, same q (λ e. ne (sym t.0 ∙ e)) ∙ t.2);
}

-- what is seen when the journal goes back begins the history, and has the seat's own entries
abbrev pub Sees : Setting → (View → List Entry) → View → Type 0
Sees p sees v = (log : List Entry) → KnowsHistory p log v → v.history ≡ log → IsPrefix (sees v) log × (v.numbered ≡ true → own v.number (sees v) ≡ v.mine)

pub sees_all : (p : Setting) (v : View) → Sees p (λ v. v.history) v
sees_all p v log h e = (([], append-nil v.history ∙ e), λ x. ap (own v.number) e ∙ h.mine x)

pub sees_no_more : (p : Setting) (v : View) → Sees p (λ v. v.seen) v
sees_no_more p v log h e = (h.seen, h.mine_seen)

module _ {C : Type 0} (stands : C → List (ℕ × MCell) → Type 0) (p : Setting) where
  abbrev H : State (Slot C) View → Type 0
  H = HallRule stands p

  pub pen_step : (s : State (Slot C) View) (r : H s) (id b : ℕ) (v w : View) (homes' : List (maybe.Option (Slot C))) (pen' : ℕ) (marks' : List Mark)
      → get_elem? s.views id ≡ some v → v.live ≡ true → length homes' ≡ length s.homes → ((k : ℕ) → k ≢ p.cells → get_elem? homes' k ≡ get_elem? s.homes k)
      → Shows pen' b → PenIn stands p homes' r.log marks' pen' → Nobody r.pen id → Nobody pen' id
      → length marks' ≡ 33 → ((k : ℕ) → MarkFits p r.log (mark_of marks' k)) → ((k : ℕ) → r.owner k ≢ id → mark_of marks' k ≡ mark_of r.marks k)
      → w.live ≡ true → w.held ≡ v.held → ((k : ℕ) → HasAsNumber k v → HasAsNumber k w) → SeatOk p r.log r.turns marks' pen' r.owner id w → (pen' ≡ suc id → w.journal ≡ true)
      → H record { words = set s.words (p.cells + 1) b; homes = homes'; views = set s.views id w }
  pen_step s r id b v w homes' pen' marks' at live long elsewhere shows value mine0 mine1 many fits unmarked live' cells numbers knows has =
      let ws : ℕ = length s.words in let wide : ws ≡ p.cells + 35 = r.wide in record {
        log = r.log;
        marks = marks';
        turns = r.turns;
        pen = pen';
        owner = r.owner;
        wide = length-set s.words (p.cells + 1) b ∙ r.wide;
        deep = long ∙ r.deep;
        count = get_or-set_other s.words (p.cells + 1) 0 b 0 (λ e. omega arith) ∙ r.count;
        legal = r.legal;
        bytes = r.bytes;
        workers = r.workers;
        many = many;
        marked = fits;
        each_cell = λ k kt. let ok = r.each_cell k kt in record {
          word = get_or-set_other s.words (p.cells + 1) (k + 1) b 0 (λ e. omega arith) ∙ ok.word;
          value = other_value stands p homes' s.homes r.log k (r.turns k) (elsewhere k (λ e. omega arith)) ok.value;
          has = λ j e. has_as s.views id j k v w at (ok.has j e) (λ _. live') (λ m x. (m, ap (λ l. get_elem? l k) cells ∙ x));
        };
        journal = record {
          word = let here = get_or-set_same s.words (p.cells + 1) b 0 (omega arith) in (λ e. here ∙ shows.0 e, λ j e. here ∙ shows.1 j e);
          value = value;
          has = λ j e. let same : j ≡ id = ⊎_elim (λ z. absurd (omega arith)) (λ z. omega arith) mine1 in
              (w, subst (λ (q : ℕ). get_elem? (set s.views id w) q ≡ some w) (sym same) (set_here s.views id w (at_length s.views id v at)), live', has (e ∙ ap suc same));
        };
        each_seat = λ j u e alive. ⊎_elim
            (λ (t : (j ≡ id) × (w ≡ u)). subst (λ (z : ℕ × View). SeatOk p r.log r.turns marks' pen' r.owner z.0 z.1) (λ q. (sym t.0 q, t.1 q)) knows)
            (λ (t : (j ≢ id) × (get_elem? s.views j ≡ some u)). let ok = r.each_seat j u t.1 alive in record {
              history = ok.history;
              cells = ok.cells;
              journal = record { held = λ y. absurd (not_other r.pen id j mine0 t.0 (ok.journal.held y).0) };
              numbers = λ x. other_numbers p r.log r.marks marks' r.owner id j u t.0 unmarked (ok.numbers x);
            })
            (at_set s.views id j w u e);
        each_number = λ k kt. number_as s.views id (r.owner k) k v w at (r.each_number k kt) (numbers k);
      }

  free_pen : (pen b : ℕ) → Shows pen b → b ≡ 0 → pen ≡ 0
  free_pen zero b sh e = refl
  free_pen (suc j) b sh e = let o : b ≡ 1 = sh.1 j refl in absurd (omega arith)

  pub begins : (n id : ℕ) (me : Seated C) → me.0.live ≡ true
      → Allows H n id me (p.cells + 1) (λ k. either (eqb k 0) 1 k) (began (step n (p.cells + 1) 0 1 none) me)
  begins n id me live s r wide at small = let f : ℕ = get_or s.words (p.cells + 1) 0 in let told = began (step n (p.cells + 1) 0 1 none) me in let i : ℕ = p.cells in let v : View = me.0 in
      exchanged f 0 1 (Goes stands p s (i + 1) id me told f)
      (λ hit. let ok = r.each_seat id v at live in let unheld : r.pen ≡ 0 = free_pen r.pen f r.journal.word hit in
      let here = subst (PenIn stands p s.homes r.log r.marks) unheld r.journal.value in let b : Boxed = here.0 in let h = ok.history in
      let w : View = with_pen v r.log b.value.marks.items in
      let knows : SeatOk p r.log r.turns r.marks (suc id) r.owner id w = record {
        history = record { setting = h.setting; seen = h.seen; mine = h.mine; mine_seen = h.mine_seen; no_calls = h.no_calls; heard = h.heard };
        cells = record { room = ok.cells.room; held = ok.cells.held; opened_is = ok.cells.opened_is; is_opened = ok.cells.is_opened };
        journal = record { held = λ _. (refl, refl, here.3) };
        numbers = λ x. let k = ok.numbers x in record { owned = k.owned; below = k.below; small = k.small; marked = k.marked; spare = k.spare };
      } in
      let r' = pen_step s r id 1 v w (set s.homes i none) (suc id) r.marks at live (length-set s.homes i none) (λ k ne. set_else s.homes i k none ne) ((λ e. absurd (omega arith)), (λ j e. refl)) tt
      (inl unheld) (inr refl) r.many r.marked (λ k _. refl) live refl (λ k x. x) knows (λ _. refl) in (
        w,
        takes i (Some (Journal b)),
        here.1,
        r',
        (
          (λ _ k is. let same : i ≡ k = omega arith in subst (λ (z : ℕ). Began me z (w, (i, Some (Journal b)) ∷ me.1)) same (
            b,
            r.log,
            refl,
            subst (λ (z : Setting). HasLog z b.value r.log) (sym h.setting) here.2,
            record {
              journal = refl;
              legal = subst (λ (z : Setting). Legal z r.log) (sym h.setting) r.legal;
              bytes = r.bytes;
              seen = h.seen;
              mine = h.mine;
              spare = λ x q le. over 33 q (own q r.log ≡ []) (λ lt. ((ok.numbers x).spare q le lt).1) (λ big. r.workers q big);
              marked = λ x. ap (λ (l : List Mark). mark_of l v.number) here.3 ∙ (ok.numbers x).marked;
              many = ap length here.3 ∙ r.many;
              fits = λ q. subst (λ (z : Setting × List Mark). MarkFits z.0 r.log (mark_of z.1 q)) (λ y. (sym h.setting y, sym here.3 y)) (r.marked q);
              parts = λ q m e. (ok.cells.held q m e).1 ∙ (λ k. part q (after (sym h.setting k) r.log));
            },
          )),
          λ miss. absurd (miss hit),
        ),
      ))
      (λ miss. stays stands p s r (i + 1) id me told at ((λ hit. absurd (miss hit)), λ _. refl))

  returns' : (sees : View → List Entry) (n id : ℕ) (v : View) (b : Boxed) (more : List (ℕ × Slot C)) → Sees p sees v → v.live ≡ true → v.numbered ≡ true → v.journal ≡ true → HasLog v.setting b.value v.history → Marked v b.value.marks.items → v.setting ≡ p
      → Allows H n id (v, (p.cells, Some (Journal b)) ∷ more) (p.cells + 1) (λ _. 0) (λ _ m'. gave_back sees (v, (p.cells, Some (Journal b)) ∷ more) m')
  returns' sees n id v b more sight live numbered on is marked ab s r wide at small = let ok = r.each_seat id v at live in let i : ℕ = p.cells in let y : maybe.Option (Slot C) = some (Some (Journal b)) in let q = ok.journal.held on in
      let hs : ℕ = length s.homes in let deep : hs ≡ p.cells + 1 = r.deep in let k = ok.numbers numbered in let h = ok.history in
      let w : View = given_back v (sees v) (mark_of b.value.marks.items v.number) in let saw = sight r.log h q.1 in
      let fits : (j : ℕ) → Dec (j ≡ v.number) → MarkFits p r.log (mark_of b.value.marks.items j) = λ j. elim [
        | yes e ↦ subst (λ (z : Setting × (ℕ × List Entry)). MarkFits z.0 z.1.1 (mark_of b.value.marks.items z.1.0)) (λ x. (ab x, (sym e x, q.1 x))) marked.fits
        | no ne ↦ subst (λ (z : Mark). MarkFits p r.log z) (sym (marked.others j ne ∙ ap (λ (l : List Mark). mark_of l j) q.2)) (r.marked j)
      ] in
      let knows : SeatOk p r.log r.turns b.value.marks.items 0 r.owner id w = record {
        history = record { setting = h.setting; seen = saw.0; mine = h.mine; mine_seen = saw.1; no_calls = h.no_calls; heard = h.heard };
        cells = record { room = ok.cells.room; held = ok.cells.held; opened_is = ok.cells.opened_is; is_opened = ok.cells.is_opened };
        journal = record { held = λ e. absurd (cc) };
        numbers = λ x. record { owned = k.owned; below = k.below; small = k.small; marked = refl; spare = λ j x y. let t = k.spare j x y in let b : v.number < v.next = k.below in (t.0, t.1, marked.others j (λ e. omega arith) ∙ (ap (λ (l : List Mark). mark_of l j) q.2 ∙ t.2)) };
      } in (
        w,
        gives,
        tt,
        pen_step s r id 0 v w (set s.homes i y) 0 b.value.marks.items at live (length-set s.homes i y) (λ k ne. set_else s.homes i k y ne) ((λ e. refl), (λ j e. absurd (omega arith)))
            (b, set_here s.homes i y (omega arith), subst (λ (z : Setting × List Entry). HasLog z.0 b.value z.1) (λ x. (ab x, q.1 x)) is, refl) (inr q.0) (inl refl) marked.many (λ j. fits j (ℕ_discrete j v.number))
            (λ j ne. marked.others j (λ e. ne (ap r.owner e ∙ k.owned)) ∙ ap (λ (l : List Mark). mark_of l j) q.2) live refl (λ k x. x) knows (λ e. absurd (omega arith)),
        λ m b' more' z. let e = fronts m b' more' z in λ t. (given_back v (sees v) (mark_of (e.0 t).value.marks.items v.number), e.1 t),
      )
    where
      inner : Boxed → List (ℕ × Slot C) → Boxed
      inner d [] = d
      inner d ((k, Some (Journal x)) ∷ xs) = x
      inner d ((k, Some (Cell x)) ∷ xs) = d
      inner d ((k, None) ∷ xs) = d

      fronts : (m : ℕ) (b' : Boxed) (more' : List (ℕ × Slot C)) → (p.cells, Some (Journal b)) ∷ more ≡ (m, Some (Journal b')) ∷ more' → (b ≡ b') × (more ≡ more')
      fronts m b' more' z = (ap (inner b) z, ap rest z)

  -- the same at a word that is the journal's
  pub begins_at : (n id i : ℕ) (me : Seated C) → i ≡ p.cells → me.0.live ≡ true → Allows H n id me (i + 1) (λ k. either (eqb k 0) 1 k) (began (step n (i + 1) 0 1 none) me)
  begins_at n id i me is live = subst (λ (z : ℕ). Allows H n id me (z + 1) (λ k. either (eqb k 0) 1 k) (began (step n (z + 1) 0 1 none) me)) (sym is) (begins n id me live)

  -- me is the seat v with the journal b in its slot
  pub returns_at : (sees : View → List Entry) (n id i : ℕ) (v : View) (me : Seated C) (b : Boxed) (more : List (ℕ × Slot C)) → me ≡ (v, (p.cells, Some (Journal b)) ∷ more) → Sees p sees v → i ≡ p.cells → v.live ≡ true → v.numbered ≡ true → v.journal ≡ true
      → HasLog v.setting b.value v.history → Marked v b.value.marks.items → v.setting ≡ p → Allows H n id me (i + 1) (λ _. 0) (λ _ m'. gave_back sees me m')
  returns_at sees n id i v me b more e sight is live numbered on h marked ab =
      subst (λ (z : ℕ × Seated C). Allows H n id z.1 (z.0 + 1) (λ _. 0) (λ _ m'. gave_back sees z.1 m')) (λ k. (sym is k, sym e k)) (returns' sees n id v b more sight live numbered on h marked ab)

-- what the seat is afterwards
pub after_return : {C : Type 0} (sees : View → List Entry) (k : ℕ) (v : View) (me m' : Seated C) (b : Boxed) (more : List (ℕ × Slot C)) → me ≡ (v, (k, Some (Journal b)) ∷ more) → gave_back sees me m'
    → m' ≡ (given_back v (sees v) (mark_of b.value.marks.items v.number), more)
after_return sees k v me m' b more e r = r k b more (ap (λ z. z.1) e) ∙ (λ i. (given_back (e i).0 (sees (e i).0) (mark_of b.value.marks.items (e i).0.number), more))
