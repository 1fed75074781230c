-- How a glance ends: what the seat's view tells at first, while cells are tried, and once all are given back.
use Rattle.std.proofs.Common.{◌≡◌, ◌≢◌, ℕ, suc, ◌+◌, ◌-◌, ◌<◌, ◌≤◌, Bool, true, false, List, [], ◌∷◌, ◌++◌, length, refl, sym, ap, ◌∙◌, subst, arith}
use Rattle.std.specs.Prelude.{filter, MatchBool}
use Rattle.std.proofs.lemmas.List.{append-nil}
use mathlib.Core.List.{IsPrefix}
use Rattle.xti_base.specs.declared.kinds.Fd.{Fd}
use Rattle.xti_model.specs.declared.call.Call.TheVariants.{TLookAt}
use Rattle.xti_model.specs.declared.entry.Entry.{Entry}
use Rattle.xti_model.specs.declared.profile.Providers.{Providers}
use Rattle.xti_model.specs.Robin.{numbers}
use Rattle.xti_model.specs.Touched.{touched}
use Rattle.xti_model.specs.World.{World, is_among, places}
use Rattle.xti_lent.specs.Lending.{Lending, cell_lent, is_lent, cells, cells_by}
use Rattle.xti_lent.specs.Fit.{AllLent}
use Rattle.xti_lent.proofs.Worlds.{same-is}
use Rattle.xti_core.specs.Looks.{sight_in}
use Rattle.xti_core.specs.Standing.{IsLoan}
use Rattle.xti_core.proofs.OpeningWorld.{numbers-length}
use Rattle.xti_hall_rule.specs.declared.view.Refusal.{Refusal}
use Rattle.xti_hall_rule.specs.declared.view.View.{View}
use Rattle.xti_hall_rule.specs.Steps.{at, refused_at, with_seen, Looked}
use Rattle.xti_hall_rule.proofs.Lookups.{at_has}
use Rattle.xti_hall.specs.Seats.{bare}
use Rattle.xti_gather.specs.Lends.{Lends}
use Rattle.xti_gather.specs.Orders.{IsLeastMissing}
use Rattle.xti_gather.proofs.Numbers.{is-not}
use Rattle.xti_gather.proofs.Orders.{count_lent, fewer-lent}
use Rattle.xti_gather.specs.Glances.{IsSameLater, LooksOver, IsHeldUp, shown_after}
use Rattle.xti_gather.proofs.Sights.{sight-whole}

-- what a test says, where it is met and where it isn't
pub when-true : (b : Bool) (A B : Type 0) → b ≡ true → MatchBool b A B → A
when-true true A B e m = m
when-true false A B e m = absurd (cc)

pub when-false : (b : Bool) (A B : Type 0) → b ≡ false → MatchBool b A B → B
when-false false A B e m = m
when-false true A B e m = absurd (cc)

-- all but what was seen, the cells held and the tries is as before
same-later : (v v' : View) (h : List Entry) → IsPrefix v.seen h → bare v' ≡ bare (with_seen v h) → IsSameLater v v'
same-later v v' h more e = record {
  setting = ap (λ (z : View). z.setting) e;
  number = ap (λ (z : View). z.number) e;
  next = ap (λ (z : View). z.next) e;
  mine = ap (λ (z : View). z.mine) e;
  mark = ap (λ (z : View). z.mark) e;
  journal = ap (λ (z : View). z.journal) e;
  seen = subst (λ (z : List Entry). IsPrefix v.seen z) (sym (ap (λ (z : View). z.seen) e)) more;
}

pub still-same : (v v1 v2 v3 : View) (cell : ℕ) → bare v1 ≡ bare v → v2 ≡ refused_at v1 cell → bare v3 ≡ bare v2 → IsSameLater v v3
still-same v v1 v2 v3 cell rest held back = same-later v v3 v.seen ([], append-nil v.seen) (back ∙ (ap bare held ∙ rest))

-- the whole history, where it was looked at
over : (v v1 v2 v3 : View) (h : List Entry) → bare v1 ≡ bare v → v2 ≡ with_seen v1 h → bare v3 ≡ bare v2 → bare v3 ≡ bare (with_seen v h)
over v v1 v2 v3 h rest sees back = back ∙ (ap bare sees ∙ ap (λ (z : View). with_seen z h) rest)

pub later-same : (v v1 v2 v3 : View) (h : List Entry) (n : ℕ) → bare v1 ≡ bare v → v2 ≡ with_seen v1 h → Looked v1 n h → bare v3 ≡ bare v2 → IsSameLater v v3
later-same v v1 v2 v3 h n rest sees looked back =
    same-later v v3 h (subst (λ (z : List Entry). IsPrefix z h) (ap (λ (z : View). z.seen) rest) looked.seen) (over v v1 v2 v3 h rest sees back)

-- a turn was held when it was tried
pub held-up : (v v1 v2 v3 : View) (l : Lending) (fd : Fd) (cell : ℕ) → bare v1 ≡ bare v → v1.refused ≡ v.refused → Lends v1 l → is_among (touched l.providers (cells l) (TLookAt fd)) cell ≡ true → v2 ≡ refused_at v1 cell → bare v3 ≡ bare v2 → v3.refused ≡ v2.refused → IsHeldUp v v3 fd cell
held-up v v1 v2 v3 l fd cell rest tries lends among held back kept =
    let all : bare v3 ≡ bare v = back ∙ (ap bare held ∙ rest) in
    let met : Refusal = record { cell = cell; held = v1.held } in
    let p : l.providers ≡ v.setting.providers = lends.providers ∙ ap (λ (z : View). z.setting.providers) rest in
    let same : cells_by l.providers (at v1) ≡ cells l = same-is l.providers (at v1) (cell_lent l) (λ n lt. lends.held n) in
    record {
      seen = ap (λ (z : View). z.seen) all;
      met = met;
      refused = kept ∙ (ap (λ (z : View). z.refused) held ∙ ap (λ (z : List Refusal). z ++ met ∷ []) tries);
      at = refl;
      touches = subst (λ (q : Providers). is_among (touched q (cells_by q (at v1)) (TLookAt fd)) cell ≡ true) p (ap (λ (w : World). is_among (touched l.providers w (TLookAt fd)) cell) same ∙ among);
    }

-- a seat that looks goes on lending
pub lends-still : (v v' : View) (l : Lending) (h : List Entry) → v' ≡ with_seen v h → Lends v l → Lends v' l
lends-still v v' l h e lends = subst (λ (z : View). Lends z l) (sym e) (record { providers = lends.providers; loan = lends.loan; held = lends.held; somewhen = lends.somewhen })

-- the whole history was looked at
pub looks-over : (v v1 v2 v3 : View) (h : List Entry) (n : ℕ) → bare v1 ≡ bare v → v1.refused ≡ v.refused → v2 ≡ with_seen v1 h → Looked v1 n h → bare v3 ≡ bare v2 → v3.refused ≡ v2.refused → LooksOver v v3 n
looks-over v v1 v2 v3 h n rest tries sees looked back kept =
    record {
      all = looked.length_is ∙ ap length (sym (ap (λ (z : View). z.seen) (over v v1 v2 v3 h rest sees back)));
      refused = kept ∙ (ap (λ (z : View). z.refused) sees ∙ tries);
    }

-- what the lent cells show is what the world shows after all that the seat has seen
pub shown-then : (v1 v2 v3 : View) (l : Lending) (fd : Fd) (h : List Entry) (n : ℕ) → Lends v1 l → AllLent l (touched l.providers (cells l) (TLookAt fd)) → v2 ≡ with_seen v1 h → Looked v1 n h → bare v3 ≡ bare v2 → shown_after v3 fd ≡ sight_in l.providers (cells l) fd.0
shown-then v1 v2 v3 l fd h n lends all sees looked back =
    ap (λ (z : View). shown_after z fd) (back ∙ ap bare sees) ∙ sym (sight-whole v1 l fd h lends all (λ i m e. looked.parts i m (at_has v1.held i m (lends.held i ∙ e))))

-- Each try that succeeds leaves fewer cells that aren't lent.
fewer-kept : (f : ℕ → Bool) (ns : List ℕ) → length (filter f ns) ≤ length ns
fewer-kept f [] = omega arith
fewer-kept f (n ∷ ns) = go (f n) refl (fewer-kept f ns)
  where
    go : (b : Bool) → f n ≡ b → length (filter f ns) ≤ length ns → length (filter f (n ∷ ns)) ≤ suc (length ns)
    go true i le = rw i (omega (arith, le))
    go false i le = rw i (omega (arith, le))

most-lent : (l : Lending) → count_lent l ≤ places l.providers + 1
most-lent l =
    let a = fewer-kept (is_lent l) (numbers 0 (places l.providers + 1)) in
    let b = numbers-length 0 (places l.providers + 1) in
    omega (arith, a, b)

pub less-left : (l l' : Lending) (ns : List ℕ) (k : ℕ) → IsLoan l' → l'.providers ≡ l.providers → IsLeastMissing l ns k → is_lent l' k ≡ true → ((n : ℕ) → n ≢ k → cell_lent l' n ≡ cell_lent l n) → places l'.providers + 1 - count_lent l' < places l.providers + 1 - count_lent l
less-left l l' ns k loan same least here others =
    let more : count_lent l < count_lent l' = fewer-lent l' l k loan (sym same) here (is-not (cell_lent l k) least.gone) (λ n ne. sym (others n ne)) in
    let most = most-lent l' in
    let as-many : places l'.providers ≡ places l.providers = ap places same in
    omega (arith, more, most, as-many)
