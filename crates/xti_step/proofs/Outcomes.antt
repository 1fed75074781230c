-- A step on the lent cells is a step of the world after the recorded history.
use Rattle.std.proofs.Common.{◌≡◌, ◌<◌, ◌+◌, ℕ, zero, suc, ltb, Bool, true, false, List, [], ◌∷◌, ◌++◌, Option, Some, None, refl, sym, ap, ◌∙◌, subst, arith}
use Rattle.std.specs.Prelude.{is_some, option_map, option_and_then}
use Rattle.std.proofs.lemmas.Bool.Decides.{nat_tests}
use mathlib.Core.List.{IsPrefix}
use lib.ListN.{get_or}
use Rattle.xti_base.specs.declared.kinds.State.{State}
use Rattle.xti_model.specs.declared.call.Call.{Call}
use Rattle.xti_model.specs.declared.entry.Go.{Go}
use Rattle.xti_model.specs.declared.entry.Go.TheVariants.{Begin, More}
use Rattle.xti_model.specs.declared.entry.Entry.{Entry}
use Rattle.xti_model.specs.declared.entry.Outcome.{Outcome}
use Rattle.xti_model.specs.declared.entry.Applied.{Applied}
use Rattle.xti_model.specs.declared.entry.Applied.TheVariants as applied
use Rattle.xti_model.specs.declared.profile.Providers.{Providers}
use Rattle.xti_model.specs.Profile.{valid}
use Rattle.xti_model.specs.Robin.{act_of}
use Rattle.xti_model.specs.SentBytes.{SendsBytes, BeginsBytes}
use Rattle.xti_model.specs.World.{World, Cell, is_among, places}
use Rattle.xti_model.specs.Step.{Step, step}
use Rattle.xti_model.specs.Touched.{touched}
use Rattle.xti_model.specs.History.{Going, doing, made_by, unfinished_from, step_going, left_by, Fits}
use Rattle.xti_end.specs.Taken.{taken}
use Rattle.xti_laws.specs.Invariant.{SoundWorld}
use Rattle.xti_laws.specs.Replies.{lengths_of, IsShortOutcome}
use Rattle.xti_laws.proofs.SoundSteps.{after-sound}
use Rattle.xti_laws.proofs.ShortReplies.{replies-short}
use Rattle.xti_lent.specs.Lending.{Lending, cell_lent, cells, cells_by}
use Rattle.xti_lent.specs.Fit.{SameCells}
use Rattle.xti_lent.proofs.Named.{all-among}
use Rattle.xti_lent.proofs.Worlds.{at_number, cell_at-is, same-is}
use Rattle.xti_core.specs.Standing.{IsLoan}
use Rattle.xti_core.proofs.Settling.{stepped, same-at}
use Rattle.xti_core.proofs.Stepping.{lent_or_kept, step-whole, touched-all}
use Rattle.xti_hall_rule.specs.declared.setting.Setting.{Setting}
use Rattle.xti_hall_rule.specs.declared.view.View.{View}
use Rattle.xti_hall_rule.specs.declared.view.Mark.TheVariants.{Free}
use Rattle.xti_hall_rule.specs.Histories.{part, cell_or_closed, own, after, Legal, Touches}
use Rattle.xti_hall_rule.specs.Steps.{at, with_pen, without_pen, renew_from, Commits}
use Rattle.xti_hall_rule.proofs.Laws.{own-append, own-mine, after-more, legal-more}
use Rattle.xti_hall_rule.proofs.Lookups.{at_has}
use Rattle.xti_hall.specs.Pens.{PenView}
use Rattle.xti_hall.specs.Seats.{bare, entry_of, wrote_entry}
use Rattle.xti_gather.specs.Lends.{Lends}
use Rattle.xti_gather.proofs.Loans.{lent-cell, loan-after}
use Rattle.xti_gather.proofs.Wholes.{kept, whole-world, Of, sub-of}
use Rattle.xti_step.specs.Steps.{IsReady, MayGo, Made, Waits}

-- a seat goes on lending while the journal comes and goes
pub lends_same : (v v' : View) (l : Lending) → v'.setting ≡ v.setting → v'.held ≡ v.held → Lends v l → Lends v' l
lends_same v v' l setting held lends = record {
  providers = lends.providers ∙ ap (λ (p : Setting). p.providers) (sym setting);
  loan = lends.loan;
  held = λ n. ap (λ hs. get_or hs n None) held ∙ lends.held n;
  somewhen = subst (λ (p : Setting). (h : List Entry) × Legal p h × ((n : ℕ) (m : Cell) → cell_lent l n ≡ Some m → m ≡ part n (after p h))) (sym setting) lends.somewhen;
}

one_of : {A : Type 0} (o : Option A) → is_some o ≡ true → (m : A) × (o ≡ Some m)
one_of None e = absurd (cc)
one_of (Some m) e = (m, refl)

-- a recorded value in another world
abbrev renewed : Option Cell → Cell → Option Cell
renewed None m = None
renewed (Some old) m = Some m

renew-at : (i : ℕ) (w : World) (hs : List (Option Cell)) (k : ℕ) → get_or (renew_from i w hs) k None ≡ renewed (get_or hs k None) (part (i + k) w)
renew-at i w [] k = refl
renew-at i w (None ∷ hs) zero = refl
renew-at i w (None ∷ hs) (suc k) = renew-at (i + 1) w hs k ∙ ap (λ z. renewed (get_or hs k None) (part z w)) (omega arith)
renew-at i w (Some m ∷ hs) zero = ap (λ z. Some (part z w)) (omega arith)
renew-at i w (Some m ∷ hs) (suc k) = renew-at (i + 1) w hs k ∙ ap (λ z. renewed (get_or hs k None) (part z w)) (omega arith)

by_bound : (b n : ℕ) (A : Type 0) → (n < b → A) → ((n < b → ⊥) → A) → A
by_bound b n A f g = go (ltb n b) refl
  where
    go : (t : Bool) → ltb n b ≡ t → A
    go true e = f (grind (arith, nat_tests))
    go false e = g (λ lt. grind (arith, nat_tests))

-- unchanged cells are lent as before
pub lends_unchanged : (v : View) (l l' : Lending) → Lends v l → SameCells l l' → cells l' ≡ cells l → Lends v l'
lends_unchanged v l l' lends still e = record {
  providers = still.providers ∙ lends.providers;
  loan = loan;
  held = λ n. lends.held n ∙ sym (unmoved n);
  somewhen = (lends.somewhen.0, lends.somewhen.1, λ n m q. lends.somewhen.2 n m (sym (unmoved n) ∙ q));
}
  where
    loan : IsLoan l'
    loan = loan-after l l' lends.loan still

    far : (m : Lending) (n : ℕ) → IsLoan m → (n < places m.providers + 1 → ⊥) → cell_lent m n ≡ None
    far m n loan b = go (cell_lent m n) refl
      where
        go : (q : Option Cell) → cell_lent m n ≡ q → cell_lent m n ≡ None
        go None i = i
        go (Some x) i = absurd (b (lent-cell m n x loan i))

    unmoved : (n : ℕ) → cell_lent l' n ≡ cell_lent l n
    unmoved n = by_bound (places l.providers + 1) n (cell_lent l' n ≡ cell_lent l n)
        (λ b. same-at l.providers (cell_lent l') (cell_lent l) n b (ap (λ (p : Providers). cells_by p (cell_lent l')) (sym still.providers) ∙ e))
        (λ b. far l' n loan (λ x. b (subst (λ (p : Providers). n < places p + 1) still.providers x)) ∙ sym (far l n lends.loan b))

abbrev pub entry : ℕ → Call → Go → Outcome → State → Entry
entry k c g o s = record { worker = k; act = act_of g c; outcome = o; after = s }

begins-bytes : (g : Go) (c : Call) → SendsBytes c → BeginsBytes (act_of g c)
begins-bytes Begin c h = h
begins-bytes (More n) c h = tt

module _ {v0 v2 : View} {l : Lending} {c : Call} {g : Go} {p : PenView} (may : MayGo v0 c g) (r : IsReady v0 v2 l c p) where
  abbrev base : bare v2 ≡ bare (with_pen v0 p.history p.marks)
  base = ap bare r.pen ∙ ap (λ (z : View). with_pen z p.history p.marks) r.rest

  pub ready_lent : Lends v2 l
  ready_lent = lends_same r.gathered v2 l (ap (λ (z : View). z.setting) r.pen) (ap (λ (z : View). z.held) r.pen) r.lends

  abbrev P : Providers
  P = l.providers

  abbrev W : World
  W = after v2.setting v2.history

  abbrev lt : ℕ → Option Cell
  lt = cell_lent l

  same : P ≡ v2.setting.providers
  same = ready_lent.providers

  sound : SoundWorld P W
  sound = subst (λ (p : Providers). SoundWorld p W) (sym same) (after-sound v2.setting.providers v2.history (ap valid (sym same) ∙ r.lends.loan.kept.valid_providers))

  ready_of : Of l W
  ready_of = sub-of l W r.lends.loan sound (λ n m e. r.holds.parts n m (at_has v2.held n m (ready_lent.held n ∙ e)))

  -- the lent cells among all
  abbrev mixed : (ℕ → Option Cell) → ℕ → Option Cell
  mixed mt n = lent_or_kept (mt n) (kept W n)

  unmixed : (n : ℕ) → mixed lt n ≡ kept W n
  unmixed n = go (lt n) refl
    where
      go : (o : Option Cell) → lt n ≡ o → lent_or_kept (lt n) (kept W n) ≡ kept W n
      go None e = ap (λ z. lent_or_kept z (kept W n)) e
      go (Some m) e = ap (λ z. lent_or_kept z (kept W n)) e ∙ (sym e ∙ ready_of.sub n (ap is_some e))

  mixed-whole : cells_by P (mixed lt) ≡ W
  mixed-whole = same-is P (mixed lt) (kept W) (λ n b. unmixed n) ∙ whole-world P W sound

  -- the step on the lent cells is the step of the world
  ready_step : (l' : Lending) (a : Applied) → SameCells l l' → taken a (cells l') ≡ step P (cells l) c g → taken a (cells_by P (mixed (cell_lent l'))) ≡ step v2.setting.providers W c g
  ready_step l' a is e =
      step-whole P lt (cell_lent l') (kept W) c g a (subst (SoundWorld P) (sym mixed-whole) sound) r.just.all (ap (λ (p : Providers). taken a (cells_by p (cell_lent l'))) (sym is.providers) ∙ e)
      ∙ (ap (λ w. step P w c g) mixed-whole ∙ ap (λ (p : Providers). step p W c g) same)

  -- the entry does just this step
  mine : own v2.number v2.history ≡ v0.mine
  mine = r.holds.mine r.numbered ∙ ap (λ (z : View). z.mine) base

  number : v2.number ≡ v0.number
  number = ap (λ (z : View). z.number) base

  ready_doing : (k : ℕ) (o : Outcome) (s : State) → k ≡ v2.number → doing v2.history (entry k c g o s) ≡ Some (record { call = c; so_far = g })
  ready_doing k o s is = ap (λ z. made_by (unfinished_from None None z) (act_of g c)) (ap (λ n. own n v2.history) is ∙ mine) ∙ may

  touched-same : touched v2.setting.providers W c ≡ touched P (cells l) c
  touched-same =
      sym (touched-all P lt (kept W) c ready_of.sub r.just.all ∙ (ap (λ w. touched P w c) (whole-world P W sound) ∙ ap (λ (p : Providers). touched p W c) same))

  pub ready_commits : (l' : Lending) (k : ℕ) (o : Outcome) (s : State) → k ≡ v2.number → SameCells l l' → taken (applied.Step o s) (cells l') ≡ step P (cells l) c g → Commits v2 (entry k c g o s)
  ready_commits l' k o s is still e =
      let w = ready_step l' (applied.Step o s) still e in
      let d = ready_doing k o s is in record {
        mine = is;
        bytes = begins-bytes g c r.sends;
        right = subst (λ (z : Option Step). Fits z (entry k c g o s)) (w ∙ sym (ap (option_and_then (step_going v2.setting.providers W)) d)) (refl, refl);
        covers = λ i t.
            let u : is_among (touched v2.setting.providers W c) i ≡ true = subst (λ (z : Option Going). Touches v2.setting W z i) d t in
            let q = one_of (lt i) (all-among (λ n. is_some (lt n) ≡ true) (touched P (cells l) c) i r.just.all (sym (ap (λ z. is_among z i) touched-same) ∙ u)) in
            (q.0, ready_lent.held i ∙ q.1);
      }

  -- the world after the entry
  ready_after : (l' : Lending) (k : ℕ) (o : Outcome) (s : State) → k ≡ v2.number → SameCells l l' → taken (applied.Step o s) (cells l') ≡ step P (cells l) c g
      → after v2.setting (v2.history ++ entry k c g o s ∷ []) ≡ cells_by P (mixed (cell_lent l'))
  ready_after l' k o s is still e =
      let w = ready_step l' (applied.Step o s) still e in
      after-more v2.setting v2.history (entry k c g o s) ∙ (ap (λ z. left_by W (option_and_then (step_going v2.setting.providers W) z)) (ready_doing k o s is) ∙ ap (left_by W) (sym w))

  -- the same cells are lent after the step
  lent-same : (l' : Lending) (o : Outcome) (s : State) → IsLoan l' → SameCells l l' → taken (applied.Step o s) (cells l') ≡ step P (cells l) c g → (n : ℕ) → is_some (cell_lent l' n) ≡ is_some (lt n)
  lent-same l' o s loan still e n = by_bound (places P + 1) n (is_some (cell_lent l' n) ≡ is_some (lt n)) (λ b. inside b)
      (λ b. sym (far l' loan (λ x. b (subst (λ (p : Providers). n < places p + 1) still.providers x))) ∙ far l r.lends.loan b)
    where
      far : (m : Lending) → IsLoan m → (n < places m.providers + 1 → ⊥) → false ≡ is_some (cell_lent m n)
      far m loan b = go (cell_lent m n) refl
        where
          go : (q : Option Cell) → cell_lent m n ≡ q → false ≡ is_some (cell_lent m n)
          go None i = sym (ap is_some i)
          go (Some x) i = absurd (b (lent-cell m n x loan i))

      inside : n < places P + 1 → is_some (cell_lent l' n) ≡ is_some (lt n)
      inside b =
          let t = stepped P lt c g in
          let m : cells_by P (cell_lent l') ≡ left_by (cells l) (step P (cells l) c g) = ap (λ (p : Providers). cells_by p (cell_lent l')) (sym still.providers) ∙ ap (left_by (cells l)) e in
          ap is_some (same-at P (cell_lent l') t.next n b (m ∙ t.is)) ∙ t.there n

  -- a lent cell is that of the world after the step
  lent-part : (l' : Lending) (n : ℕ) (m : Cell) → IsLoan l' → SameCells l l' → cell_lent l' n ≡ Some m → part n (cells_by P (mixed (cell_lent l'))) ≡ m
  lent-part l' n m loan still e =
      ap cell_or_closed (cell_at-is P (mixed (cell_lent l')) n (subst (λ (p : Providers). n < places p + 1) still.providers (lent-cell l' n m loan e)) ∙ ap (λ z. option_map (at_number n) (lent_or_kept z (kept W n))) e)

  -- after the commit the seat lends the cells as the step left them
  pub ready_lends : (l' : Lending) (k : ℕ) (o : Outcome) (s : State) → k ≡ v2.number → taken (applied.Step o s) (cells l') ≡ step P (cells l) c g → SameCells l l' → Lends (without_pen (wrote_entry v2 (entry k c g o s)) Free) l'
  ready_lends l' k o s is e still =
      let x : Entry = entry k c g o s in
      let log' : List Entry = v2.history ++ x ∷ [] in
      let loan : IsLoan l' = loan-after l l' r.lends.loan still in
      let w : after v2.setting log' ≡ cells_by P (mixed (cell_lent l')) = ready_after l' k o s is still e in
      let parts : (n : ℕ) (m : Cell) → cell_lent l' n ≡ Some m → m ≡ part n (after v2.setting log') = λ n m q. sym (ap (part n) w ∙ lent-part l' n m loan still q) in
      let legal : Legal v2.setting log' = legal-more v2.setting v2.history x r.holds.legal (ready_commits l' k o s is still e).right in
      record {
        providers = still.providers ∙ same;
        loan = loan;
        held = λ n. renew-at 0 (after v2.setting log') v2.held n ∙ (ap (λ z. renewed (at v2 n) (part z (after v2.setting log'))) (omega arith) ∙ (ap (λ (z : Option Cell). renewed z (part n (after v2.setting log'))) (ready_lent.held n)
            ∙ new l' (after v2.setting log') n (lt n) refl (cell_lent l' n) refl (lent-same l' o s loan still e n) (parts n)));
        somewhen = (log', legal, parts);
      }
    where
      new : (l' : Lending) (w : World) (n : ℕ) (q : Option Cell) → lt n ≡ q → (q' : Option Cell) → cell_lent l' n ≡ q' → is_some (cell_lent l' n) ≡ is_some (lt n) → ((m : Cell) → cell_lent l' n ≡ Some m → m ≡ part n w) → renewed (lt n) (part n w) ≡ cell_lent l' n
      new l' w n None i None j t f = ap (λ (z : Option Cell). renewed z (part n w)) i ∙ sym j
      new l' w n None i (Some m) j t f = absurd (let a = sym (ap is_some j) ∙ (t ∙ ap is_some i) in cc)
      new l' w n (Some m) i None j t f = absurd (let a = sym (ap is_some j) ∙ (t ∙ ap is_some i) in cc)
      new l' w n (Some m) i (Some m') j t f = ap (λ (z : Option Cell). renewed z (part n w)) i ∙ (ap (λ z. Some z) (sym (f m' j)) ∙ sym j)

  seen-before : IsPrefix v0.seen v2.history
  seen-before = subst (λ (z : List Entry). IsPrefix z v2.history) (ap (λ (z : View). z.seen) base) r.holds.seen

  pub ready_made : (l' : Lending) (k : ℕ) (o o' : Outcome) (s : State) (v4 : View) → k ≡ v2.number → SameCells l l' → taken (applied.Step o s) (cells l') ≡ step P (cells l) c g → o' ≡ o → bare v4 ≡ bare (without_pen (wrote_entry v2 (entry k c g o s)) Free) → Made v0 c g o' s v4
  ready_made l' k o o' s v4 is still e copy all =
      let x : entry k c g o s ≡ entry_of v0 c g o' s = λ i. entry ((is ∙ number) i) c g (sym copy i) s in record {
        before = v2.history;
        seen = seen-before;
        right = subst (λ (z : Setting). Fits (step z.providers (after z v2.history) c g) (entry_of v0 c g o' s)) (ap (λ (z : View). z.setting) base) (subst (λ (z : Option Step). Fits z (entry_of v0 c g o' s)) (ready_step l' (applied.Step o s) still e) (copy, refl));
        ends = ap (λ (z : View). z.seen) all ∙ ap (λ (z : Entry). v2.history ++ z ∷ []) x;
        mine = ap (λ (z : View). z.mine) all ∙ (own-append v2.number v2.history (entry k c g o s ∷ []) ∙ (ap (λ z. z ++ own v2.number (entry k c g o s ∷ [])) mine ∙ (ap (λ z. v0.mine ++ z) (own-mine v2.number (entry k c g o s) is) ∙ ap (λ (z : Entry). v0.mine ++ z ∷ []) x)));
      }

  pub ready_mine : (v4 : View) → bare v4 ≡ bare (without_pen v2 Free) → v4.mine ≡ v0.mine
  ready_mine v4 all = ap (λ (z : View). z.mine) all ∙ ap (λ (z : View). z.mine) base

  -- a blocked step
  pub ready_waits : (l' : Lending) (v4 : View) → SameCells l l' → taken applied.Blocked (cells l') ≡ step P (cells l) c g → bare v4 ≡ bare (without_pen v2 Free) → Waits v0 c g v4
  ready_waits l' v4 still e all = record {
    mine = ready_mine v4 all;
    blocked = subst (λ (z : View). step z.setting.providers (after z.setting z.seen) c g ≡ None) (sym all) (sym (ready_step l' applied.Blocked still e));
  }

  -- what is answered has room
  pub ready_short : (l' : Lending) (o : Outcome) (s : State) → SameCells l l' → taken (applied.Step o s) (cells l') ≡ step P (cells l) c g → IsShortOutcome (lengths_of c) o
  ready_short l' o s still e =
      let sound' : SoundWorld v2.setting.providers W = subst (λ (p : Providers). SoundWorld p W) same sound in
      replies-short v2.setting.providers W sound' c g (record { outcome = o; after = s; world = cells_by P (mixed (cell_lent l')) }) (sym (ready_step l' (applied.Step o s) still e))
