-- A commit keeps the hall's rule.
use Rattle.std.proofs.Common.{◌≡◌, ◌≢◌, ⊎_elim, ℕ, zero, suc, ◌+◌, ◌%◌, ◌^◌, ◌<◌, true, false, List, [], ◌∷◌, ◌++◌, length, set, refl, ap, sym, subst, ◌∙◌, arith, length-append, length-set, get_or-set_other, get_or-set_same, append_assoc}
use Rattle.std.proofs.lemmas.List.{append-nil, take-append-le}
use mathlib.Core.Option.{none, some, some-injective, some-ne-none}
use mathlib.Core.Option as maybe
use mathlib.Core.List.{IsPrefix}
use native.Mathlib.Nat.{mod-eq_of_lt}
use lib.ListN.{get_or, get_elem?}
use Rattle.std.specs.Prelude.{Option, Some, None}
use Rattle.atomic_table.specs.Table.{State, keeps, Allows}
use Rattle.atomic_table.proofs.Lists.{at_set, set_here}
use Rattle.xti_model.specs.declared.entry.Entry.{Entry}
use Rattle.xti_model.specs.World.{Cell as MCell}
use Rattle.xti_model.specs.History.{doing}
use Rattle.xti_model.specs.SentBytes.{BeginsBytes}
use Rattle.xti_hall_rule.specs.declared.setting.Setting.{Setting}
use Rattle.xti_hall_rule.specs.Histories.{World, Blocked, part, own, next_world, Touches, after, Right}
use Rattle.xti_hall_rule.proofs.Laws.{own-append, own-other, after-more, legal-more, bytes-more, untouched}
use Rattle.xti_hall_rule.specs.declared.view.View.{View}
use Rattle.xti_hall_rule.specs.declared.view.Held.TheVariants.{Cell, Journal}
use Rattle.xti_hall_rule.specs.Rule.{Slot, Boxed, Turn, free, kept, opened, by, CellIn, PenIn, SeatOk, HallRule, mark_of, MarkFits}
use Rattle.xti_hall_rule.specs.Steps.{renew_from, renew, committed, Seated, wrote, added}
use Rattle.xti_hall_rule.specs.Steps.{Marked, Commits, at}
use Rattle.xti_hall_rule.proofs.Lookups.{at_has}
use Rattle.xti_hall_rule.proofs.Frames.{at_length, has_as, number_as}
use Rattle.xti_hall_rule.specs.declared.view.Mark.{Mark}
use Rattle.xti_hall_rule.specs.declared.view.Mark.TheVariants.{Absent, Free, Waiting, Resting}

pub renew_at : (i : ℕ) (w : World) (hs : List (Option MCell)) (k : ℕ) (m : MCell) → get_elem? hs k ≡ some (Some m) → get_elem? (renew_from i w hs) k ≡ some (Some (part (i + k) w))
renew_at i w [] k m e = absurd (some-ne-none (Some m) (sym e))
renew_at i w (None ∷ hs) zero m e = absurd (cc)
renew_at i w (None ∷ hs) (suc k) m e = renew_at (i + 1) w hs k m e ∙ ap (λ (z : ℕ). some (Some (part z w))) (omega arith)
renew_at i w (Some m' ∷ hs) zero m e = ap (λ (z : ℕ). some (Some (part z w))) (omega arith)
renew_at i w (Some m' ∷ hs) (suc k) m e = renew_at (i + 1) w hs k m e ∙ ap (λ (z : ℕ). some (Some (part z w))) (omega arith)

pub renew_back : (i : ℕ) (w : World) (hs : List (Option MCell)) (k : ℕ) (m' : MCell) → get_elem? (renew_from i w hs) k ≡ some (Some m') → (m : MCell) × (get_elem? hs k ≡ some (Some m)) × (m' ≡ part (i + k) w)
renew_back i w [] k m' e = absurd (some-ne-none (Some m') (sym e))
renew_back i w (None ∷ hs) zero m' e = absurd (cc)
renew_back i w (None ∷ hs) (suc k) m' e = let q = renew_back (i + 1) w hs k m' e in (q.0, q.1, q.2 ∙ ap (λ (z : ℕ). part z w) (omega arith))
renew_back i w (Some m ∷ hs) zero m' e = (m, refl, (let z : m' ≡ part i w = cc in z) ∙ ap (λ (z : ℕ). part z w) (omega arith))
renew_back i w (Some m ∷ hs) (suc k) m' e = let q = renew_back (i + 1) w hs k m' e in (q.0, q.1, q.2 ∙ ap (λ (z : ℕ). part z w) (omega arith))

pub renew_length : (i : ℕ) (w : World) (hs : List (Option MCell)) → length (renew_from i w hs) ≡ length hs
renew_length i w [] = refl
renew_length i w (None ∷ hs) = ap suc (renew_length (i + 1) w hs)
renew_length i w (Some m ∷ hs) = ap suc (renew_length (i + 1) w hs)

pub renewed_at : (w : World) (hs : List (Option MCell)) (k : ℕ) (m : MCell) → get_elem? hs k ≡ some (Some m) → get_elem? (renew w hs) k ≡ some (Some (part k w))
renewed_at w hs k m e = renew_at 0 w hs k m e ∙ ap (λ (z : ℕ). some (Some (part z w))) (omega arith)

pub renewed_back : (w : World) (hs : List (Option MCell)) (k : ℕ) (m' : MCell) → get_elem? (renew w hs) k ≡ some (Some m') → (m : MCell) × (get_elem? hs k ≡ some (Some m)) × (m' ≡ part k w)
renewed_back w hs k m' e = let q = renew_back 0 w hs k m' e in (q.0, q.1, q.2 ∙ ap (λ (z : ℕ). part z w) (omega arith))

pub prefix_more : (xs ys : List Entry) (e : Entry) → IsPrefix xs ys → IsPrefix xs (ys ++ e ∷ [])
prefix_more xs ys e p = (p.0 ++ e ∷ [], sym (append_assoc xs p.0 (e ∷ [])) ∙ ap (λ z. z ++ e ∷ []) p.1)

true_false : true ≡ false → ⊥
true_false e = absurd (cc)

pub fits_more : (p : Setting) (log : List Entry) (e : Entry) (m : Mark) → MarkFits p log m → MarkFits p (log ++ e ∷ []) m
fits_more p log e Absent f = tt
fits_more p log e Free f = tt
fits_more p log e (Waiting want len) f = (omega (arith, f.0, length-append log (e ∷ [])), subst (λ (z : List Entry). Blocked p z want) (sym (take-append-le len log (e ∷ []) f.0)) f.1)
fits_more p log e Resting f = tt

-- the marks go back with the longer history
pub marked_more : (v : View) (marks : List Mark) (e : Entry) → Marked v marks → Marked (committed v (v.history ++ e ∷ [])) marks
marked_more v marks e m = record { many = m.many; others = m.others; fits = fits_more v.setting v.history e (mark_of marks v.number) m.fits }

module _ {C : Type 0} (stands : C → List (ℕ × MCell) → Type 0) (p : Setting) where
  abbrev H : State (Slot C) View → Type 0
  H = HallRule stands p

  commit_step : (s : State (Slot C) View) (r : H s) (id : ℕ) (v : View) (e : Entry) → get_elem? s.views id ≡ some v → v.live ≡ true → v.numbered ≡ true → v.journal ≡ true → e.worker ≡ v.number → Right p r.log e → BeginsBytes e.act
      → ((i : ℕ) → Touches p (after p r.log) (doing r.log e) i → (m : MCell) × (get_elem? v.held i ≡ some (Some m)))
      → H record { words = set s.words 0 (length r.log + 1); homes = s.homes; views = set s.views id (committed v (r.log ++ e ∷ [])) }
  commit_step s r id v e at live numbered on self right sent covers =
      let log' : List Entry = r.log ++ e ∷ [] in let w : View = committed v log' in let mineOk = r.each_seat id v at live in let pen = mineOk.journal.held on in let mh = mineOk.history in let mn = mineOk.numbers numbered in
      let ws : ℕ = length s.words in let wide : ws ≡ p.cells + 35 = r.wide in let there : id < length s.views = at_length s.views id v at in
      let world' : after p log' ≡ next_world p (after p r.log) (doing r.log e) = after-more p r.log e in
      let still : (i : ℕ) → ¬ Touches p (after p r.log) (doing r.log e) i → part i (after p log') ≡ part i (after p r.log) = λ i n. ap (part i) world' ∙ untouched p r.log (doing r.log e) i n in
      let foreign : (i : ℕ) → by (r.turns i) ≢ suc id → part i (after p log') ≡ part i (after p r.log) = λ i n. still i (λ t. let c = covers i t in n (mineOk.cells.held i c.0 c.1).0) in
      let alien : (k : ℕ) → e.worker ≢ k → own k log' ≡ own k r.log = λ k n. own-append k r.log (e ∷ []) ∙ (ap (λ z. own k r.log ++ z) (own-other k e n) ∙ append-nil (own k r.log)) in
      let small : v.number < 33 = mn.small in let same_worker : e.worker ≡ v.number = self in record {
        log = log';
        marks = r.marks;
        turns = r.turns;
        pen = r.pen;
        owner = r.owner;
        wide = length-set s.words 0 (length r.log + 1) ∙ r.wide;
        deep = r.deep;
        count = get_or-set_same s.words 0 (length r.log + 1) 0 (omega arith) ∙ sym (length-append r.log (e ∷ []));
        legal = legal-more p r.log e r.legal right;
        bytes = bytes-more r.log e r.bytes sent;
        workers = λ k far. alien k (λ z. omega arith) ∙ r.workers k far;
        many = r.many;
        marked = λ k. fits_more p r.log e (mark_of r.marks k) (r.marked k);
        each_cell = λ k kt. let ok = r.each_cell k kt in record {
          word = get_or-set_other s.words 0 (k + 1) (length r.log + 1) 0 (λ z. omega arith) ∙ ok.word;
          value = value s.homes log' k (r.turns k) (λ z. let b : by (r.turns k) ≡ 0 = ap by z in sym (foreign k (λ y. omega arith))) ok.value;
          has = λ j y. has_as s.views id j k v w at (ok.has j y) (λ x. x) (λ m z. (part k (after p log'), renewed_at (after v.setting log') v.held k m z ∙ ap (λ (u : Setting). some (Some (part k (after u log')))) mh.setting));
        };
        journal = record {
          word = let else = get_or-set_other s.words 0 (p.cells + 1) (length r.log + 1) 0 (λ z. omega arith) in (λ y. else ∙ r.journal.word.0 y, λ j y. else ∙ r.journal.word.1 j y);
          value = subst (PenIn stands p s.homes log' r.marks) (sym pen.0) tt;
          has = λ j y. let same : j ≡ id = omega (arith, pen.0) in (w, subst (λ (q : ℕ). get_elem? (set s.views id w) q ≡ some w) (sym same) (set_here s.views id w there), live, on);
        };
        each_seat = λ j u y alive. ⊎_elim
            (λ (t : (j ≡ id) × (w ≡ u)). subst (λ (z : ℕ × View). SeatOk p log' r.turns r.marks r.pen r.owner z.0 z.1) (λ q. (sym t.0 q, t.1 q)) record {
              history = record { setting = mh.setting; seen = ([], append-nil log'); mine = λ _. refl; mine_seen = λ _. refl; no_calls = λ z. absurd (true_false (sym numbered ∙ z)); heard = prefix_more v.heard r.log e mh.heard };
              cells = record {
                room = renew_length 0 (after v.setting log') v.held ∙ mineOk.cells.room;
                held = λ i m z. let q = renewed_back (after v.setting log') v.held i m z in ((mineOk.cells.held i q.0 q.1).0, q.2 ∙ ap (λ (u : Setting). part i (after u log')) mh.setting);
                opened_is = mineOk.cells.opened_is;
                is_opened = mineOk.cells.is_opened;
              };
              journal = record { held = λ _. (pen.0, refl, pen.2) };
              numbers = λ _. record { owned = mn.owned; below = mn.below; small = mn.small; marked = mn.marked; spare = λ k a b. let q = mn.spare k a b in let low : v.number < v.next = mn.below in (q.0, alien k (λ z. omega arith) ∙ q.1, q.2) };
            })
            (λ (t : (j ≢ id) × (get_elem? s.views j ≡ some u)). let ok = r.each_seat j u t.1 alive in let oh = ok.history in
            let apart : u.numbered ≡ true → e.worker ≢ u.number = λ x z. t.0 (sym (ok.numbers x).owned ∙ (ap r.owner (sym z ∙ self) ∙ mn.owned)) in record {
              history = record { setting = oh.setting; seen = prefix_more u.seen r.log e oh.seen; mine = λ x. alien u.number (apart x) ∙ oh.mine x; mine_seen = oh.mine_seen; no_calls = oh.no_calls; heard = prefix_more u.heard r.log e oh.heard };
              cells = record {
                room = ok.cells.room;
                held = λ i m z. let q = ok.cells.held i m z in (q.0, q.1 ∙ sym (foreign i (λ x. t.0 (omega (arith, q.0)))));
                opened_is = ok.cells.opened_is;
                is_opened = ok.cells.is_opened;
              };
              journal = record { held = λ z. absurd (t.0 (omega (arith, (ok.journal.held z).0, pen.0))) };
              numbers = λ x. let k = ok.numbers x in record {
                owned = k.owned;
                below = k.below;
                small = k.small;
                marked = k.marked;
                spare = λ q a b. let y = k.spare q a b in (y.0, alien q (λ z. t.0 (sym y.0 ∙ (ap r.owner (sym z ∙ self) ∙ mn.owned))) ∙ y.1, y.2);
              };
            })
            (at_set s.views id j w u y);
        each_number = λ k kt. number_as s.views id (r.owner k) k v w at (r.each_number k kt) (λ x. x);
      }
    where
      value : (homes : List (maybe.Option (Slot C))) (log' : List Entry) (k : ℕ) (y : Turn) → (y ≡ free → part k (after p r.log) ≡ part k (after p log')) → CellIn stands p homes r.log k y → CellIn stands p homes log' k y
      value homes log' k free e q = (q.0, q.1, subst (λ (z : MCell). stands q.0 ((k, z) ∷ [])) (e refl) q.2)
      value homes log' k (kept j) e q = q
      value homes log' k (opened j) e q = tt

  commits' : (n id : ℕ) (v : View) (b : Boxed) (e : Entry) (more : List (ℕ × Slot C)) → v.live ≡ true → v.numbered ≡ true → v.journal ≡ true → e.worker ≡ v.number → added b.value.last.value ≡ e ∷ [] → Right p v.history e → BeginsBytes e.act → ((i : ℕ) → Touches p (after p v.history) (doing v.history e) i → (m : MCell) × (get_elem? v.held i ≡ some (Some m)))
      → length v.history + 1 < 2 ^ 64
      → Allows H n id (v, (p.cells, Some (Journal b)) ∷ more) 0 (λ k. (k + 1) % 2 ^ 64) (λ _ m'. wrote (v, (p.cells, Some (Journal b)) ∷ more) m')
  commits' n id v b e more live numbered on self is right sent covers small s r wide at fits = let ok = r.each_seat id v at live in let pen = ok.journal.held on in let f : ℕ = get_or s.words 0 0 in
      let log' : List Entry = r.log ++ e ∷ [] in let same : v.history ++ added b.value.last.value ≡ log' = ap (λ z. v.history ++ z) is ∙ ap (λ z. z ++ e ∷ []) pen.1 in let long : length v.history ≡ length r.log = ap length pen.1 in let count : f ≡ length r.log = r.count in
      let word : (f + 1) % 2 ^ 64 ≡ length r.log + 1 = mod-eq_of_lt (omega arith) ∙ (omega arith) in
      let r' = commit_step s r id v e at live numbered on self (subst (λ z. Right p z e) pen.1 right) sent (λ i t. covers i (subst (λ z. Touches p (after p z) (doing z e) i) (sym pen.1) t)) in (
        committed v (v.history ++ added b.value.last.value),
        keeps,
        tt,
        subst (λ (z : ℕ × List Entry). H record { words = set s.words 0 z.0; homes = s.homes; views = set s.views id (committed v z.1) }) (λ q. (sym word q, sym same q)) r',
        λ m b' more' z. let y : b ≡ b' = front_book m b' more' z in λ q. (committed v (v.history ++ added (y q).value.last.value), (p.cells, Some (Journal b)) ∷ more),
      )
    where
      inner : Boxed → List (ℕ × Slot C) → Boxed
      inner d [] = d
      inner d ((k, Some (Journal x)) ∷ xs) = x
      inner d ((k, Some (Cell x)) ∷ xs) = d
      inner d ((k, None) ∷ xs) = d

      front_book : (m : ℕ) (b' : Boxed) (more' : List (ℕ × Slot C)) → (p.cells, Some (Journal b)) ∷ more ≡ (m, Some (Journal b')) ∷ more' → b ≡ b'
      front_book m b' more' z = ap (inner b) z

  pub commits_at : (n id : ℕ) (v : View) (me : Seated C) (b : Boxed) (e : Entry) (more : List (ℕ × Slot C)) → me ≡ (v, (p.cells, Some (Journal b)) ∷ more) → v.live ≡ true → v.numbered ≡ true → v.journal ≡ true → added b.value.last.value ≡ e ∷ [] → length v.history + 1 < 2 ^ 64
      → v.setting ≡ p → Commits v e → Allows H n id me 0 (λ k. (k + 1) % 2 ^ 64) (λ _ m'. wrote me m')
  commits_at n id v me b e more is live numbered on h small ab c = subst (λ (z : Seated C). Allows H n id z 0 (λ k. (k + 1) % 2 ^ 64) (λ _ m'. wrote z m')) (sym is)
      (commits' n id v b e more live numbered on c.mine h (subst (λ (z : Setting). Right z v.history e) ab c.right) c.bytes (λ i t. let q = c.covers i (subst (λ (z : Setting). Touches z (after z v.history) (doing v.history e) i) (sym ab) t) in (q.0, at_has v.held i q.0 q.1)) small)

pub written : {C : Type 0} (k : ℕ) (v : View) (me m' : Seated C) (b : Boxed) (more : List (ℕ × Slot C)) → me ≡ (v, (k, Some (Journal b)) ∷ more) → wrote me m' → (e : Entry) → added b.value.last.value ≡ e ∷ [] → m' ≡ (committed v (v.history ++ e ∷ []), (k, Some (Journal b)) ∷ more)
written k v me m' b more is r e adds = r k b more (ap (λ z. z.1) is) ∙ (λ i. (committed (is i).0 ((is i).0.history ++ adds i), (is i).1))
