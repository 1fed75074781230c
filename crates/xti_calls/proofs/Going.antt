-- The loop of a call: each step that is made is one more of its own, and a wait leaves them.
use Rattle.std.proofs.Common.{◌≡◌, ℕ, List, [], ◌∷◌, ◌++◌, length, Option, Some, None, refl, sym, ap, ◌∙◌, subst, arith, append_assoc, length-append, ◌⊎◌, inl, inr, false}
use Rattle.std.specs.List.{AllByRecursion}
use Rattle.std.proofs.lemmas.List.{append-nil, take_all}
use mathlib.Core.List.{IsPrefix}
use lib.ListN.{get_or}
use Rattle.xti_base.specs.declared.kinds.State.{State}
use Rattle.xti_model.specs.declared.call.Call.{Call}
use Rattle.xti_model.specs.declared.entry.Act.{Act}
use Rattle.xti_model.specs.declared.entry.Act.TheVariants as act
use Rattle.xti_model.specs.declared.entry.Go.{Go}
use Rattle.xti_model.specs.declared.entry.Go.TheVariants as go
use Rattle.xti_model.specs.declared.entry.Entry.{Entry}
use Rattle.xti_model.specs.declared.entry.Outcome.{Outcome}
use Rattle.xti_model.specs.declared.entry.Outcome.TheVariants.{Done, Part}
use Rattle.xti_model.specs.declared.entry.Reply.{Reply}
use Rattle.xti_model.specs.Robin.{act_of}
use Rattle.xti_model.specs.Step.{step}
use Rattle.xti_model.specs.Wants.{HasLeft}
use Rattle.xti_model.specs.History.{taken_before}
use Rattle.xti_model.specs.History.{Going, call_after, going_after, unfinished_from, made_by}
use Rattle.xti_model.proofs.Working.{call_from, unfinished_from-snoc, call_of-from}
use Rattle.xti_model.proofs.Appending.{all-append}
use Rattle.xti_hall_rule.specs.declared.setting.Setting.{Setting}
use Rattle.xti_hall_rule.specs.declared.view.Mark.{Mark}
use Rattle.xti_hall_rule.specs.declared.view.Mark.TheVariants.{Free}
use Rattle.xti_hall_rule.specs.declared.view.View.{View}
use Rattle.xti_hall_rule.specs.Histories.{Blocked, after}
use Rattle.xti_hall.specs.Seats.{Looks, entry_of}
use Rattle.xti_hall.specs.Stalls.{WasBlocked, waits}
use Rattle.xti_wants.specs.declared.want.Want.{Want}
use Rattle.xti_step.specs.Steps.{HoldsNothing, Later, MayGo, Made}
use Rattle.xti_calls.specs.Calling.{IsMore, IsPart, AreSteps, Answered, Stopped, going_at, IsAt}
use Rattle.xti_calls.proofs.Unfinished.{GoingHasLeft, made-call, entry-left}

prefix-trans : (xs ys zs : List Entry) → IsPrefix xs ys → IsPrefix ys zs → IsPrefix xs zs
prefix-trans xs ys zs a b = (a.0 ++ b.0, sym (append_assoc xs a.0 b.0) ∙ (ap (λ l. l ++ b.0) a.1 ∙ b.1))

pub later-still : (v v1 v2 : View) → Later v v1 → Later v1 v2 → Later v v2
later-still v v1 v2 a b = record { setting = b.setting ∙ a.setting; number = b.number ∙ a.number; next = b.next ∙ a.next; seen = prefix-trans v.seen v1.seen v2.seen a.seen b.seen }

-- how far a call has come since the first view, where this step was its next
pub record Goes (v : View) (c : Call) (from g : Go) (v' : View) : Type 0 where
  pub later : Later v v'
  pub parts : List Entry
  pub steps : AreSteps c from parts
  pub are_parts : AllByRecursion IsPart parts
  pub mine : v'.mine ≡ v.mine ++ parts
  pub begun : g ≡ go.Begin → parts ≡ []
  pub unmoved : parts ≡ [] → g ≡ from
  pub is_at : IsAt v' c g
  pub left : HasLeft c g

may-by : (u : Option Going) (c : Call) (g : Go) → u ≡ going_at c g → made_by u (act_of g c) ≡ Some (record { call = c; so_far = g })
may-by u c go.Begin e = ap (λ z. made_by z (act.Begin c)) e
may-by u c (go.More n) e = e

pub goes-may : {v : View} {c : Call} {from g : Go} {v' : View} → Goes v c from g v' → MayGo v' c g
goes-may {v} {c} {from} {g} {v'} k = may-by (unfinished_from None None v'.mine) c g k.is_at

-- what is unfinished after one more step
after-step : (c : Call) (g : Go) (mine : List Entry) (e : Entry) → made_by (unfinished_from None None mine) (act_of g c) ≡ Some (record { call = c; so_far = g }) → e.act ≡ act_of g c →
    unfinished_from None None (mine ++ e ∷ []) ≡ going_after (Some c) e.outcome
after-step c g mine e may a =
    unfinished_from-snoc None None mine e
    ∙ ap (λ (x : Act). going_after (call_after (call_from None mine) x) e.outcome) a
    ∙ ap (λ (x : Option Call). going_after x e.outcome) (made-call (unfinished_from None None mine) (call_from None mine) (act_of g c) (record { call = c; so_far = g }) (call_of-from None None mine tt) may)

steps-more : (c : Call) (from g : Go) (parts : List Entry) (e : Entry) → AreSteps c from parts → (g ≡ go.Begin → parts ≡ []) → (parts ≡ [] → g ≡ from) → e.act ≡ act_of g c → AreSteps c from (parts ++ e ∷ [])
steps-more c from g [] e s f b a = (a ∙ ap (λ x. act_of x c) (b refl), tt)
steps-more c from go.Begin (x ∷ parts) e s f b a = absurd (let n = f refl in cc)
steps-more c from (go.More n) (x ∷ parts) e s f b a = (s.0, all-append IsMore parts (e ∷ []) s.1 (a, tt))

not-empty : (xs : List Entry) (x : Entry) → xs ++ x ∷ [] ≡ [] → ⊥
not-empty [] x e = cc
not-empty (y ∷ xs) x e = cc

module _ {v : View} {c : Call} {from g : Go} {v1 v2 : View} (k : Goes v c from g v1) {outcome : Outcome} {state : State} (m : Made v1 c g outcome state v2) (l : Later v1 v2) where
  abbrev x : Entry
  x = entry_of v1 c g outcome state

  abbrev more : AreSteps c from (k.parts ++ x ∷ [])
  more = steps-more c from g k.parts x k.steps k.begun k.unmoved refl

  abbrev mine' : v2.mine ≡ v.mine ++ (k.parts ++ x ∷ [])
  mine' = m.mine ∙ (ap (λ z. z ++ x ∷ []) k.mine ∙ append_assoc v.mine k.parts (x ∷ []))

  abbrev going' : unfinished_from None None v2.mine ≡ going_after (Some c) outcome
  going' = ap (unfinished_from None None) m.mine ∙ after-step c g v1.mine x (goes-may k) refl

  pub goes-done : (reply : Reply) → outcome ≡ Done reply → v2.mark ≡ Free → Answered v c from v2 reply
  goes-done reply e free = record {
    parts = k.parts;
    last = x;
    steps = more;
    are_parts = k.are_parts;
    mine = mine';
    outcome = e;
    finished = going' ∙ ap (going_after (Some c)) e;
    before = m.before;
    ends = m.ends;
    free = free;
  }

  pub goes-part : (n : ℕ) → outcome ≡ Part n → Goes v c from (go.More n) v2
  goes-part n e = record {
    later = later-still v v1 v2 k.later l;
    parts = k.parts ++ x ∷ [];
    steps = more;
    are_parts = all-append IsPart k.parts (x ∷ []) k.are_parts ((n, e), tt);
    mine = mine';
    begun = λ i. cc;
    unmoved = λ i. absurd (not-empty k.parts x i);
    is_at = going' ∙ ap (going_after (Some c)) e;
    left = subst (λ z. GoingHasLeft (going_after (Some c) z)) e (entry-left v1.setting.providers (after v1.setting m.before) c g x m.right k.left);
  }

-- no step was made, and more was seen
pub goes-on : {v : View} {c : Call} {from g : Go} {v1 v2 : View} → Goes v c from g v1 → v2.mine ≡ v1.mine → Later v1 v2 → Goes v c from g v2
goes-on {v} {c} {from} {g} {v1} {v2} k m l = record {
  later = later-still v v1 v2 k.later l;
  parts = k.parts;
  steps = k.steps;
  are_parts = k.are_parts;
  mine = m ∙ k.mine;
  begun = k.begun;
  unmoved = k.unmoved;
  is_at = ap (unfinished_from None None) m ∙ k.is_at;
  left = k.left;
}

abbrev pub goes-stopped : {v : View} {c : Call} {from g : Go} {v1 : View} → Goes v c from g v1 → (n : ℕ) → n ≡ taken_before g → Stopped v c from v1 n
goes-stopped {v} {c} {from} {g} {v1} k n e = record { parts = k.parts; steps = k.steps; are_parts = k.are_parts; mine = k.mine; so_far = g; unmoved = k.unmoved; taken_is = e; is_at = k.is_at }

-- a seat that is free, or marked as before, waits no more than before
pub waits-no-more : (m m' : Mark) → (m' ≡ m) ⊎ (m' ≡ Free) → waits m ≡ false → waits m' ≡ false
waits-no-more m m' (inl e) w = ap waits e ∙ w
waits-no-more m m' (inr e) w = ap waits e

-- a look at the history leaves the seat idle
pub looks-idle : (v v' : View) → HoldsNothing v → Looks v v' → HoldsNothing v'
looks-idle v v' s l = (l.journal ∙ s.0, λ n. ap (λ hs. get_or hs n None) l.held ∙ s.1 n)

pub looks-later : (v v' : View) → Looks v v' → Later v v'
looks-later v v' l = record { setting = l.setting; number = l.number; next = l.next; seen = l.seen }

-- of a longer history with the same length
same-length : (xs ys : List Entry) → IsPrefix xs ys → length ys ≡ length xs → ys ≡ xs
same-length xs ys (rest, e) n = by rest e
  where
    by : (rest : List Entry) → xs ++ rest ≡ ys → ys ≡ xs
    by [] e = sym e ∙ append-nil xs
    by (x ∷ rest) e = absurd (let l : length (xs ++ x ∷ rest) ≡ length ys = ap length e in let a = length-append xs (x ∷ rest) in omega (arith, n, l, a))

-- a step that was blocked is blocked still, where nothing more was seen
pub still-blocked : (v v' : View) (c : Call) (g : Go) → Looks v v' → length v'.seen ≡ length v.seen → step v.setting.providers (after v.setting v.seen) c g ≡ None → step v'.setting.providers (after v'.setting v'.seen) c g ≡ None
still-blocked v v' c g l n b =
    let same : v'.seen ≡ v.seen = same-length v.seen v'.seen l.seen n in
    subst (λ (a : Setting). step a.providers (after a v'.seen) c g ≡ None) (sym l.setting) (subst (λ (h : List Entry). step v.setting.providers (after v.setting h) c g ≡ None) (sym same) b)

-- what is blocked after all that was seen was blocked after so many entries
pub was-blocked : (v : View) (want : Want) (at : ℕ) → length v.seen ≡ at → Blocked v.setting v.seen want → WasBlocked v at want
was-blocked v want at e b =
    (omega (arith, e), subst (λ (h : List Entry). Blocked v.setting h want) (sym (take_all at v.seen (omega (arith, e)))) b)
