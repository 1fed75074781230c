-- A script whose calls have just one answer each.
use Rattle.std.proofs.Common.{◌≡◌, ◌≤◌, ℕ, suc, Bool, true, false, List, [], ◌∷◌, ◌++◌, length, take, Option, Some, None, Result, Ok, Err, ◌⊎◌, inl, inr, refl, sym, ap, ◌∙◌, subst, arith, append_assoc}
use Rattle.std.specs.Prelude.{MatchResult, OnOk, option_and_then}
use Rattle.std.specs.List.{AllByRecursion}
use Rattle.std.proofs.lemmas.Bool.{eqb-true}
use Rattle.std.proofs.lemmas.List.{append-nil, take_all}
use mathlib.Core.List.{IsPrefix}
use Rattle.xti_model.specs.declared.call.Call.{Call}
use Rattle.xti_model.specs.declared.entry.Act.TheVariants as act
use Rattle.xti_model.specs.declared.entry.Entry.{Entry}
use Rattle.xti_model.specs.declared.entry.Go.TheVariants as go
use Rattle.xti_model.specs.declared.entry.Outcome.{Outcome}
use Rattle.xti_model.specs.declared.entry.Outcome.TheVariants.{Done, Part}
use Rattle.xti_model.specs.declared.entry.Reply.{Reply}
use Rattle.xti_model.specs.declared.profile.Providers.{Providers}
use Rattle.xti_model.specs.History.{Going, is_own, own, unfinished, begins, made_by, step_going, step_at, left_by, after_from, after, Fits, LegalFrom, Legal}
use Rattle.xti_model.specs.Profile.{usual}
use Rattle.xti_model.specs.Step.{step}
use Rattle.xti_model.specs.World.{World, opening}
use Rattle.xti_laws_streams.specs.CopyLaws.{IsNextEntry}
use Rattle.xti_sock.specs.Sights.{Sight, IsStanding, Later}
use Rattle.xti_sock.specs.SightSteps.{AreSteps, IsPart, Answered, StoppedAtStall}
use Rattle.xti_sock.specs.declared.caller.CallEnd.{CallEnd}
use Rattle.xti_sock.specs.declared.caller.CallEnd.TheVariants.{OutOfMemory as NoMemory, Stalled}
use Rattle.xti_sock.specs.declared.heard.Heard.TheVariants.{Ended}
use Rattle.xti_sock.specs.declared.sock.Sock.{Sock}
use Rattle.xti_sock.specs.Calling.{Halted}
use Rattle.xti_sock.specs.Scripts.{Answer, Script, gives, asks, Asked, Runs, Makes, heard_of, heard_in}
use Rattle.xti_copy.specs.Going.{Comes, IsMemory}

-- ---- a script of which each answer is known

-- this entry is the call with this reply
pub record IsAnswer (c : Call) (r : Reply) (e : Entry) : Type 0 where
  pub worker : e.worker ≡ 0
  pub begins : e.act ≡ act.Begin c
  pub outcome : e.outcome ≡ Done r

-- the script ends where memory ran out
abbrev pub EndsOut : Script → Type 0
EndsOut (gives (Err f) k) = IsMemory f
EndsOut other = ⊥

-- the script, whose calls are answered as in these entries, and the answer and the socket that it then gives
abbrev pub Follows : Script → List Entry → Answer → Sock → Type 0
Follows (gives a k) [] b j = (a ≡ b) × (k ≡ j)
Follows (gives a k) (e ∷ es) b j = ⊥
Follows (asks c next) [] b j = ⊥
Follows (asks c next) (e ∷ es) b j = (r : Reply) × IsAnswer c r e × ((n : ℕ) → EndsOut (next (Ended (NoMemory n)))) × Follows (next (heard_of r)) es b j

-- ---- histories of one worker

own-shorter : (es : List Entry) → length (own es 0) ≤ length es
own-shorter [] = omega arith
own-shorter (e ∷ es) = by (is_own 0 e) refl (own-shorter es)
  where
    by : (b : Bool) → is_own 0 e ≡ b → length (own es 0) ≤ length es → length (own (e ∷ es) 0) ≤ suc (length es)
    by true h l = rw h (omega (arith, l))
    by false h l = rw h (omega (arith, l))

tail-of : (x : Entry) (xs ys : List Entry) → x ∷ xs ≡ x ∷ ys → xs ≡ ys
tail-of x xs ys e = cc

-- the first of them is the worker's, and so are the rest
own-first : (x : Entry) (xs : List Entry) → own (x ∷ xs) 0 ≡ x ∷ xs → (x.worker ≡ 0) × (own xs 0 ≡ xs)
own-first x xs e = by (is_own 0 x) refl
  where
    by : (b : Bool) → is_own 0 x ≡ b → (x.worker ≡ 0) × (own xs 0 ≡ xs)
    by true h = (eqb-true x.worker 0 h, tail-of x (own xs 0) xs (subst (λ z. z ≡ x ∷ xs) (rw h refl) e))
    by false h =
        let short : own xs 0 ≡ x ∷ xs = subst (λ z. z ≡ x ∷ xs) (rw h refl) e in
        let n = own-shorter xs in
        let m = ap length short in
        absurd (omega (arith, n, m))

own-rest : (xs ys : List Entry) → own (xs ++ ys) 0 ≡ xs ++ ys → own ys 0 ≡ ys
own-rest [] ys e = e
own-rest (x ∷ xs) ys e = own-rest xs ys (own-first x (xs ++ ys) e).1

own-front : (xs ys : List Entry) → own (xs ++ ys) 0 ≡ xs ++ ys → own xs 0 ≡ xs
own-front [] ys e = refl
own-front (x ∷ xs) ys e =
    let f = own-first x (xs ++ ys) e in
    by (is_own 0 x) refl f.0 (own-front xs ys f.1)
  where
    by : (b : Bool) → is_own 0 x ≡ b → x.worker ≡ 0 → own xs 0 ≡ xs → own (x ∷ xs) 0 ≡ x ∷ xs
    by true h w r = rw (h, r) refl
    by false h w r = absurd (let z : is_own 0 x ≡ true = rw w refl in cc)

legal-front-from : (p : Providers) (w : World) (past xs ys : List Entry) → LegalFrom p w past (xs ++ ys) → LegalFrom p w past xs
legal-front-from p w past [] ys l = tt
legal-front-from p w past (x ∷ xs) ys l = (l.0, legal-front-from p (left_by w (step_at p w past x)) (past ++ x ∷ []) xs ys l.1)

fits-next : (p : Providers) (w : World) (past es : List Entry) (e : Entry) (rest : List Entry) → LegalFrom p w past (es ++ e ∷ rest) → Fits (step_at p (after_from p w past es) (past ++ es) e) e
fits-next p w past [] e rest l = subst (λ z. Fits (step_at p w z e) e) (sym (append-nil past)) l.0
fits-next p w past (x ∷ es) e rest l =
    subst (λ z. Fits (step_at p (after_from p (left_by w (step_at p w past x)) (past ++ x ∷ []) es) z e) e) (append_assoc past (x ∷ []) es)
    (fits-next p (left_by w (step_at p w past x)) (past ++ x ∷ []) es e rest l.1)

-- the call of an entry that is right isn't blocked
not-blocked : (p : Providers) (w : World) (past : List Entry) (c : Call) (e : Entry) → e.act ≡ act.Begin c → Fits (step_at p w past e) e → step p w c go.Begin ≡ None → ⊥
not-blocked p w past c e a f none = by (unfinished past e.worker) (subst (λ z. Fits (option_and_then (step_going p w) (made_by (unfinished past e.worker) z)) e) a f)
  where
    by : (o : Option Going) → Fits (option_and_then (step_going p w) (begins o c)) e → ⊥
    by None f = subst (λ z. Fits z e) none f
    by (Some g) f = f

-- ---- sights

-- it has made and seen just these entries, and no call is unfinished
pub record At (front : List Entry) (s : Sight) : Type 0 where
  pub providers : s.providers ≡ usual
  pub number : s.number ≡ 0
  pub seen : s.seen ≡ front
  pub mine : s.mine ≡ front
  pub free : s.free ≡ true

prefix-trans : (xs ys zs : List Entry) → IsPrefix xs ys → IsPrefix ys zs → IsPrefix xs zs
prefix-trans xs ys zs a b = (a.0 ++ b.0, sym (append_assoc xs a.0 b.0) ∙ (ap (λ l. l ++ b.0) a.1 ∙ b.1))

runs-prefix : (x : Script) (s t : Sight) (a : Answer) (k : Sock) → Runs x s t a k → IsPrefix s.seen t.seen
runs-prefix (gives b j) s t a k r = ([], append-nil s.seen ∙ ap (λ (z : Sight). z.seen) (sym r.0))
runs-prefix (asks c next) s t a k r = prefix-trans s.seen r.1.seen t.seen r.2.made.later.seen (runs-prefix (next r.0) r.1 t a k r.3)

runs-standing : (x : Script) (s t : Sight) (a : Answer) (k : Sock) → Runs x s t a k → IsStanding s → IsStanding t
runs-standing (gives b j) s t a k r i = subst IsStanding (sym r.0) i
runs-standing (asks c next) s t a k r i = runs-standing (next r.0) r.1 t a k r.3 r.2.made.standing

-- ---- one call

done-part : (o : Outcome) (r : Reply) (n : ℕ) → o ≡ Done r → o ≡ Part n → ⊥
done-part o r n a b = cc

same-reply : (o : Outcome) (q r : Reply) → o ≡ Done q → o ≡ Done r → q ≡ r
same-reply o q r a b = cc

module _ {front : List Entry} {c : Call} {r : Reply} {f : Entry} {es : List Entry} {s u : Sight} (comes : Comes front (f ∷ es)) (is : IsAnswer c r f) (at : At front s) (standing : IsStanding u) (later : Later s u) (whole : own u.seen 0 ≡ u.seen) where
  here : u.providers ≡ usual
  here = later.providers ∙ at.providers

  all-seen : u.seen ≡ u.mine
  all-seen = sym whole ∙ (ap (own u.seen) (sym (later.number ∙ at.number)) ∙ standing.mine)

  -- the first entry that the call added
  first : (x : Entry) (xs : List Entry) → u.mine ≡ front ++ x ∷ xs → x.act ≡ act.Begin c → x ≡ f
  first x xs e a =
      let seen : u.seen ≡ front ++ x ∷ xs = all-seen ∙ e in
      let mine : own (front ++ x ∷ xs) 0 ≡ front ++ x ∷ xs = subst (λ z. own z 0 ≡ z) seen whole in
      let legal : Legal usual (front ++ x ∷ xs) = subst (Legal usual) seen (subst (λ (p : Providers). Legal p u.seen) here standing.legal) in
      let one : Legal usual (front ++ x ∷ []) = legal-front-from usual (opening usual) [] (front ++ x ∷ []) xs (subst (Legal usual) (sym (append_assoc front (x ∷ []) xs)) legal) in
      comes.only front (es ++ comes.rest) x f refl one ((own-first x xs (own-rest front (x ∷ xs) mine)).0 ∙ sym is.worker) (a ∙ sym is.begins)

  added : (xs : List Entry) → u.mine ≡ s.mine ++ xs → u.mine ≡ front ++ xs
  added xs e = e ∙ ap (λ z. z ++ xs) at.mine

  no-part : (x : Entry) (xs : List Entry) → u.mine ≡ front ++ x ∷ xs → x.act ≡ act.Begin c → IsPart x → ⊥
  no-part x xs e a p = done-part f.outcome r p.0 is.outcome (ap (λ (z : Entry). z.outcome) (sym (first x xs e a)) ∙ p.1)

  answered-one : (q : Reply) → Answered c s u q → (u.mine ≡ front ++ f ∷ []) × (q ≡ r)
  answered-one q k = by k.parts k.are_parts.each k.steps (added (k.parts ++ k.last ∷ []) k.mine)
    where
      by : (parts : List Entry) → AllByRecursion IsPart parts → AreSteps c go.Begin (parts ++ k.last ∷ []) → u.mine ≡ front ++ (parts ++ k.last ∷ []) → (u.mine ≡ front ++ f ∷ []) × (q ≡ r)
      by [] p z e =
          let same = first k.last [] e z.0 in
          (e ∙ ap (λ (y : Entry). front ++ y ∷ []) same, same-reply f.outcome q r (ap (λ (y : Entry). y.outcome) (sym same) ∙ k.outcome) is.outcome)
      by (x ∷ parts) p z e = absurd (no-part x (parts ++ k.last ∷ []) e z.0 p.0)

  never-stalled : (n m : ℕ) → StoppedAtStall c s u n m → ⊥
  never-stalled n m k = by k.stopped.parts k.stopped.are_parts.each k.stopped.steps (added k.stopped.parts k.stopped.mine) k.stopped.unmoved
    where
      by : (parts : List Entry) → AllByRecursion IsPart parts → AreSteps c go.Begin parts → u.mine ≡ front ++ parts → (parts ≡ [] → k.stopped.so_far ≡ go.Begin) → ⊥
      by [] p z e g =
          let seen : u.seen ≡ front = all-seen ∙ (e ∙ append-nil front) in
          let long : length u.seen ≤ m = let l = k.later in let a = ap length at.seen in let b = ap length seen in omega (arith, l, a, b) in
          let blocked : step u.providers (after u.providers u.seen) c go.Begin ≡ None = subst (λ z. step u.providers (after u.providers z) c go.Begin ≡ None) (take_all m u.seen long) (subst (λ y. step u.providers (after u.providers (take m u.seen)) c y ≡ None) (g refl) k.blocked) in
          let there : step usual (after usual front) c go.Begin ≡ None = subst (λ z. step usual (after usual z) c go.Begin ≡ None) seen (subst (λ (y : Providers). step y (after y u.seen) c go.Begin ≡ None) here blocked) in
          not-blocked usual (after usual front) front c f is.begins (fits-next usual (opening usual) [] front f (es ++ comes.rest) comes.legal) there
      by (x ∷ parts) p z e g = no-part x parts e z.0 p.0

-- ---- all calls of a script

abbrev pub Lacks : Answer → Type 0
Lacks (Ok v) = ⊥
Lacks (Err f) = IsMemory f

-- the entries were made, and it ended so; or memory ran out
abbrev pub Went : List Entry → List Entry → Sight → Answer → Sock → Answer → Sock → Type 0
Went front es t a k b j = (At (front ++ es) t × (a ≡ b) × (k ≡ j)) ⊎ Lacks a

comes-on : (front : List Entry) (f : Entry) (es : List Entry) → Comes front (f ∷ es) → Comes (front ++ f ∷ []) es
comes-on front f es k =
    let e = sym (append_assoc front (f ∷ []) (es ++ k.rest)) in
    record { rest = k.rest; legal = subst (Legal usual) e k.legal; only = subst IsNextEntry e k.only }

pub went : (x : Script) (es front : List Entry) (s t : Sight) (a : Answer) (k : Sock) (b : Answer) (j : Sock) →
    Comes front es → Follows x es b j → At front s → t.mine ≡ t.seen → t.number ≡ 0 → Runs x s t a k → Went front es t a k b j
went (gives c i) [] front s t a k b j comes f at same zero r =
    inl (subst (λ z. At z t) (sym (append-nil front)) (subst (At front) (sym r.0) at), r.1 ∙ f.0, r.2 ∙ f.1)
went (gives c i) (e ∷ es) front s t a k b j comes f at same zero r = absurd f
went (asks c next) [] front s t a k b j comes f at same zero r = absurd f
went (asks c next) (e ∷ es) front s t a k b j comes f at same zero r =
    by asked.answer asked.made.made asked.made.free asked.heard
    (λ there rest. went (next (heard_of f.0)) es (front ++ e ∷ []) r.1 t a k b j (comes-on front e es comes) f.3 there same zero rest)
  where
    u : Sight
    u = r.1

    asked : Asked s c r.0 u
    asked = r.2

    standing : IsStanding t
    standing = runs-standing (next r.0) u t a k r.3 asked.made.standing

    all-own : own t.seen 0 ≡ t.seen
    all-own = ap (own t.seen) (sym zero) ∙ (standing.mine ∙ same)

    whole : own u.seen 0 ≡ u.seen
    whole =
        let p = runs-prefix (next r.0) u t a k r.3 in
        own-front u.seen p.0 (subst (λ z. own z 0 ≡ z) (sym p.1) all-own)

    by : (q : Result Reply CallEnd) → MatchResult q (Answered c s u) (Halted c s u) → OnOk q (u.free ≡ true) → r.0 ≡ heard_in q
        → (At (front ++ e ∷ []) u → Runs (next (heard_of f.0)) u t a k → Went (front ++ e ∷ []) es t a k b j) → Went front (e ∷ es) t a k b j
    by (Ok reply) m free h again =
        let one = answered-one comes f.1 at asked.made.standing asked.made.later whole reply m in
        let there : At (front ++ e ∷ []) u = record {
          providers = asked.made.later.providers ∙ at.providers;
          number = asked.made.later.number ∙ at.number;
          seen = all-seen comes f.1 at asked.made.standing asked.made.later whole ∙ one.0;
          mine = one.0;
          free = free;
        } in
        let heard : r.0 ≡ heard_of f.0 = h ∙ ap heard_of one.1 in
        let rest : Runs (next (heard_of f.0)) u t a k = subst (λ z. Runs (next z) u t a k) heard r.3 in
        subst (λ z. (At z t × (a ≡ b) × (k ≡ j)) ⊎ Lacks a) (append_assoc front (e ∷ []) es) (again there rest)
    by (Err (NoMemory n)) m free h again = inr (out (next (Ended (NoMemory n))) (f.2 n) (subst (λ z. Runs (next z) u t a k) h r.3))
      where
        out : (y : Script) → EndsOut y → Runs y u t a k → Lacks a
        out (gives (Err g) i) l z = subst Lacks (sym z.1) l
        out (gives (Ok v) i) l z = absurd l
        out (asks d more) l z = absurd l
    by (Err (Stalled n m)) w free h again = absurd (never-stalled comes f.1 at asked.made.standing asked.made.later whole n m w)

pub went-makes : (x : Script) (es front : List Entry) (old : Sock) (s t : Sight) (a : Answer) (k : Sock) (b : Answer) (j : Sock) →
    Comes front es → Follows x es b j → At front s → t.mine ≡ t.seen → t.number ≡ 0 → Makes x old s t a k → Went front es t a k b j
went-makes x es front old s t a k b j comes f at same zero (inl r) = went x es front s t a k b j comes f at same zero r
went-makes x es front old s t a k b j comes f at same zero (inr l) = inr (subst Lacks (sym l.2) tt)
