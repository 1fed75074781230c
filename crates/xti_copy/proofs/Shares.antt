-- What a call of the library tells a seat, it tells the sight of a socket.
use Rattle.std.proofs.Common.{◌≡◌, ℕ, ◌≤◌, Bool, true, false, List, [], ◌∷◌, ◌++◌, length, take, Option, Some, None, refl, sym, ap, ◌∙◌, subst, arith, length-append, append_assoc}
use Rattle.std.specs.Prelude.{Result, Ok, Err, MatchResult, OnOk, is_none, option_and_then}
use Rattle.std.specs.List.{AllByRecursion}
use Rattle.std.proofs.lemmas.List.{append-nil}
use mathlib.Core.List.{IsPrefix}
use Rattle.xti_model.specs.declared.call.Call.{Call}
use Rattle.xti_model.specs.declared.call.Call.TheVariants as call
use Rattle.xti_model.specs.declared.entry.Act.TheVariants as act
use Rattle.xti_model.specs.declared.entry.Go.{Go}
use Rattle.xti_model.specs.declared.entry.Go.TheVariants as go
use Rattle.xti_model.specs.declared.entry.Entry.{Entry}
use Rattle.xti_model.specs.declared.entry.Outcome.{Outcome}
use Rattle.xti_model.specs.declared.entry.Outcome.TheVariants.{Done, Part}
use Rattle.xti_model.specs.declared.entry.Reply.{Reply}
use Rattle.xti_model.specs.declared.profile.Providers.{Providers}
use Rattle.xti_model.specs.World.{World, opening}
use Rattle.xti_model.specs.Step.{Step, step}
use Rattle.xti_model.specs.Profile.{valid}
use Rattle.xti_model.specs.History.{Going, is_own, own, unfinished, unfinished_from, begins, made_by, doing, step_going, step_at, left_by, after_from, after, Fits, LegalFrom, Legal}
use Rattle.xti_laws.specs.Progress.{Progress}
use Rattle.xti_laws.proofs.ProgressOfSteps.{progress}
use Rattle.xti_hall_rule.specs.declared.view.View.{View}
use Rattle.xti_hall.specs.Seats.{IsStanding}
use Rattle.xti_step.specs.Steps as steps
use Rattle.xti_calls.specs.Calling as calling
use Rattle.xti_calls.specs.declared.calling.Halt.{Halt}
use Rattle.xti_calls.specs.declared.calling.Halt.TheVariants as halt
use Rattle.xti_sock.specs.Sights as sights
use Rattle.xti_sock.specs.Sights.{Sight}
use Rattle.xti_sock.specs.SightSteps.{AreParts, AreSteps, Answered, Stopped, StoppedAtStall, IsPart, going_at, has_parts}
use Rattle.xti_sock.specs.Calling.{Calls, Halted}
use Rattle.xti_sock.specs.declared.caller.CallEnd.{CallEnd}
use Rattle.xti_copy.specs.Sharing.{sight_of, end_of, TellsStall}

-- ---- only a request or a send is made in parts

empty-end : (xs ys : List Entry) (e : Entry) → xs ++ e ∷ ys ≡ [] → ⊥
empty-end [] ys e h = cc
empty-end (x ∷ xs) ys e h = cc

-- the entry stands among these, with others before and behind
record StandsIn (e : Entry) (es : List Entry) : Type 0 where
  past : List Entry
  others : List Entry
  is : es ≡ past ++ e ∷ others

abbrev tail-of : List Entry → List Entry
tail-of [] = []
tail-of (x ∷ xs) = xs

later-in : (x e : Entry) (es : List Entry) → StandsIn e es → StandsIn e (x ∷ es)
later-in x e es s = record { past = x ∷ s.past; others = s.others; is = ap (λ l. x ∷ l) s.is }

-- one of a worker's own entries stands in the history
stands-own : (n : ℕ) (es pre rest : List Entry) (e : Entry) → own es n ≡ pre ++ e ∷ rest → StandsIn e es
stands-own n [] pre rest e h = absurd (empty-end pre rest e (sym h))
stands-own n (x ∷ es) pre rest e h = by (is_own n x) pre refl h (λ p. stands-own n es p rest e)
  where
    by : (b : Bool) (pre : List Entry) → is_own n x ≡ b → own (x ∷ es) n ≡ pre ++ e ∷ rest → ((p : List Entry) → own es n ≡ p ++ e ∷ rest → StandsIn e es) → StandsIn e (x ∷ es)
    by false pre t k again = later-in x e es (again pre (rw t at k))
    by true [] t k again = let same : x ∷ own es n ≡ e ∷ rest = rw t at k in record { past = []; others = es; is = let e' : x ≡ e = cc in ap (λ y. y ∷ es) e' }
    by true (y ∷ pre) t k again = let same : x ∷ own es n ≡ y ∷ (pre ++ e ∷ rest) = rw t at k in later-in x e es (again pre (ap tail-of same))

-- each entry of a legal history is the step of its call
entry-fits : (p : Providers) (w : World) (past front others : List Entry) (e : Entry) → LegalFrom p w past (front ++ e ∷ others) → Fits (step_at p (after_from p w past front) (past ++ front) e) e
entry-fits p w past [] others e l = subst (λ q. Fits (step_at p w q e) e) (sym (append-nil past)) l.0
entry-fits p w past (x ∷ front) others e l =
    let v = left_by w (step_at p w past x) in
    subst (λ q. Fits (step_at p (after_from p v (past ++ x ∷ []) front) q e) e) (append_assoc past (x ∷ []) front) (entry-fits p v (past ++ x ∷ []) front others e l.1)

-- the step of a call that begins
begun-fits : (p : Providers) (w : World) (going : Option Going) (c : Call) (e : Entry) → Fits (option_and_then (step_going p w) (begins going c)) e → Fits (step p w c go.Begin) e
begun-fits p w None c e f = f
begun-fits p w (Some g) c e f = absurd f

made-whole : (c : Call) (n : ℕ) → has_parts c ≡ false → Progress c go.Begin (Part n) → ⊥
made-whole (call.TConnect fd addr opt udata amax omax umax) n h k = cc
made-whole (call.TSnd fd bytes flags) n h k = cc
made-whole (call.TSndV fd parts flags) n h k = cc
made-whole other n h k = k

-- the first step of a call that isn't made in parts is no part
never-part : (p : Providers) (w : World) (c : Call) (e : Entry) → has_parts c ≡ false → IsPart e → Fits (step p w c go.Begin) e → ⊥
never-part p w c e h part f = by (step p w c go.Begin) refl f
  where
    by : (o : Option Step) → step p w c go.Begin ≡ o → Fits o e → ⊥
    by None i f = f
    by (Some s) i f = made-whole c part.0 h (subst (Progress c go.Begin) (sym f.0 ∙ part.1) (progress p w c go.Begin s i))

-- parts that stand among a worker's own entries are those of a request or a send
no-parts : (p : Providers) (c : Call) (seen : List Entry) (n : ℕ) (before parts behind : List Entry) → Legal p seen → own seen n ≡ before ++ (parts ++ behind) → AreSteps c go.Begin parts → AllByRecursion IsPart parts → has_parts c ≡ false → parts ≡ []
no-parts p c seen n before [] behind legal mine are each h = refl
no-parts p c seen n before (e ∷ parts) behind legal mine are each h =
    let s = stands-own n seen before (parts ++ behind) e mine in
    let w = after_from p (opening p) [] s.past in
    let fits = entry-fits p (opening p) [] s.past s.others e (subst (Legal p) s.is legal) in
    let begun : Fits (option_and_then (step_going p w) (begins (unfinished s.past e.worker) c)) e = subst (λ a. Fits (option_and_then (step_going p w) (made_by (unfinished s.past e.worker) a)) e) are.0 fits in
    absurd (never-part p w c e h each.0 (begun-fits p w (unfinished s.past e.worker) c e begun))

-- ---- the same of a sight

steps-of : (c : Call) (es : List Entry) → calling.AreSteps c go.Begin es → AreSteps c go.Begin es
steps-of c [] h = tt
steps-of c (e ∷ es) h = h

steps-first : (c : Call) (xs ys : List Entry) → AreSteps c go.Begin (xs ++ ys) → AreSteps c go.Begin xs
steps-first c [] ys h = tt
steps-first c (x ∷ xs) ys h = (h.0, more xs ys h.1)
  where
    more : (xs ys : List Entry) → AllByRecursion calling.IsMore (xs ++ ys) → AllByRecursion calling.IsMore xs
    more [] ys h = tt
    more (x ∷ xs) ys h = (h.0, more xs ys h.1)

going-of : (c : Call) (g : Go) → calling.going_at c g ≡ going_at c g
going-of c go.Begin = refl
going-of c (go.More n) = refl

pub standing : (v : View) → valid v.setting.providers ≡ true → IsStanding v → sights.IsStanding (sight_of v)
standing v ok s = record { valid_providers = ok; legal = s.legal; bytes = s.bytes; mine = s.mine; free = refl }

later : (v v' : View) → steps.Later v v' → sights.Later (sight_of v) (sight_of v')
later v v' l = record { providers = ap (λ s. s.providers) l.setting; number = l.number; seen = l.seen }

answered : (v v' : View) (c : Call) (reply : Reply) → IsStanding v' → calling.Answered v c go.Begin v' reply → Answered c (sight_of v) (sight_of v') reply
answered v v' c reply s a =
    let are = steps-of c (a.parts ++ a.last ∷ []) a.steps in
    record {
      parts = a.parts;
      last = a.last;
      are_parts = record { each = a.are_parts; none = no-parts v'.setting.providers c v'.seen v'.number v.mine a.parts (a.last ∷ []) s.legal (s.mine ∙ a.mine) (steps-first c a.parts (a.last ∷ []) are) a.are_parts };
      steps = are;
      mine = a.mine;
      outcome = a.outcome;
      before = a.before;
      ends = a.ends;
    }

abbrev stopped : (v v' : View) (c : Call) (taken : ℕ) → IsStanding v' → calling.Stopped v c go.Begin v' taken → Stopped c (sight_of v) (sight_of v') taken
stopped v v' c taken s a =
    let are = steps-of c a.parts a.steps in
    record {
      parts = a.parts;
      are_parts = record { each = a.are_parts; none = no-parts v'.setting.providers c v'.seen v'.number v.mine a.parts [] s.legal (s.mine ∙ (a.mine ∙ ap (λ l. v.mine ++ l) (sym (append-nil a.parts)))) are a.are_parts };
      steps = are;
      mine = a.mine;
      so_far = a.so_far;
      unmoved = a.unmoved;
      taken_is = a.taken_is;
      is_at = a.is_at ∙ going-of c a.so_far;
    }

take-whole : (l : List Entry) → take (length l) l ≡ l
take-whole [] = refl
take-whole (x ∷ l) = ap (λ k. x ∷ k) (take-whole l)

most-length : (n m : ℕ) → n ≡ m → n ≤ m
most-length n m e = omega (arith, e)

from-length : (n m k : ℕ) → n ≡ m → k ≤ m → k ≤ n
from-length n m k e h = omega (arith, e, h)

prefix-length : (xs ys : List Entry) → IsPrefix xs ys → length xs ≤ length ys
prefix-length xs ys h = let k = ap length h.1 in omega (arith, k, length-append xs h.0)

blocked-at : (v' : View) (c : Call) (g : Go) (at : ℕ) → at ≡ length v'.seen → step v'.setting.providers (after v'.setting.providers v'.seen) c g ≡ None
    → step v'.setting.providers (after v'.setting.providers (take at v'.seen)) c g ≡ None
blocked-at v' c g at is b = ap (λ l. step v'.setting.providers (after v'.setting.providers l) c g) (ap (λ n. take n v'.seen) is ∙ take-whole v'.seen) ∙ b

halted : (v v' : View) (c : Call) (h : Halt) → IsStanding v' → steps.Later v v' → calling.Halted v c go.Begin v' h → Halted c (sight_of v) (sight_of v') (end_of h)
halted v v' c (halt.OutOfMemory taken) s l a = stopped v v' c taken s a
halted v v' c (halt.Stalled taken stall) s l a = record {
  stopped = stopped v v' c taken s a.stopped;
  later = from-length stall.at (length v'.seen) (length v.seen) a.stall.at (prefix-length v.seen v'.seen l.seen);
  within = most-length stall.at (length v'.seen) a.stall.at;
  blocked = blocked-at v' c a.stopped.so_far stall.at a.stall.at a.blocked;
}

free-of : (v' : View) → unfinished_from None None v'.mine ≡ None → (sight_of v').free ≡ true
free-of v' e = ap is_none e

abbrev pub mapped : Result Reply Halt → Result Reply CallEnd
mapped (Ok reply) = Ok reply
mapped (Err h) = Err (end_of h)

pub calls : (v v' : View) (c : Call) (r : Result Reply Halt) (result : Result Reply CallEnd) → valid v'.setting.providers ≡ true → IsStanding v' → steps.Later v v' → MatchResult r (calling.Answered v c go.Begin v') (calling.Halted v c go.Begin v') → result ≡ mapped r → Calls (sight_of v) c result (sight_of v')
calls v v' c (Ok reply) result ok s l m e = rw e (record { later = later v v' l; standing = standing v' ok s; made = answered v v' c reply s m; free = free-of v' m.finished })
calls v v' c (Err h) result ok s l m e = rw e (record { later = later v v' l; standing = standing v' ok s; made = halted v v' c h s l m; free = tt })

stall-told : (v v' : View) (c : Call) (h : Halt) → calling.Halted v c go.Begin v' h → TellsStall (Err (end_of h)) v'
stall-told v v' c (halt.OutOfMemory taken) a = tt
stall-told v v' c (halt.Stalled taken stall) a = record { want = a.want; stall = stall; is_stall = a.stall; at_is = refl; rests = a.rests }

pub stalled : (v v' : View) (c : Call) (r : Result Reply Halt) (result : Result Reply CallEnd) → MatchResult r (calling.Answered v c go.Begin v') (calling.Halted v c go.Begin v') → result ≡ mapped r → TellsStall result v'
stalled v v' c (Ok reply) result m e = rw e tt
stalled v v' c (Err h) result m e = rw e (stall-told v v' c h m)
