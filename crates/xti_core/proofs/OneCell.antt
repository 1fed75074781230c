-- A step on the lent cell of its descriptor alone is the step on all lent cells.
use Rattle.std.proofs.Common.{◌≡◌, ℕ, zero, suc, ◌+◌, ◌<◌, ◌≤◌, Bool, true, false, cond, eqb, [], ◌∷◌, Option, Some, None, refl, sym, ap, ◌∙◌, subst, arith}
use Rattle.std.specs.Prelude.{option_map, ◌&&◌, Result, Ok, Err, IfOk, OnErr}
use Rattle.std.proofs.lemmas.Bool.{ne_eqb, eq-eqb, eqb-true}
use Rattle.std.proofs.lemmas.Bool.Decides.{nat_tests}
use Rattle.xti_model.specs.declared.call.Call.{Call}
use Rattle.xti_model.specs.declared.call.Call.TheVariants as call
use Rattle.xti_model.specs.declared.entry.Go.{Go}
use Rattle.xti_model.specs.declared.entry.Go.TheVariants as go
use Rattle.xti_model.specs.declared.entry.Applied.{Applied}
use Rattle.xti_model.specs.declared.profile.Providers.{Providers}
use Rattle.xti_model.specs.World.{World, Cell, switch_cell, switch_number, is_among, only, place_of, places}
use Rattle.xti_model.specs.Memory.{takes_memory, may_run_out}
use Rattle.xti_model.specs.Plan.{Plan, Refusal, first, has_effect}
use Rattle.xti_model.specs.Step.{plan, step, step_of, first_refusal}
use Rattle.xti_model.specs.Touched.{named}
use Rattle.xti_end.specs.Held.{Held, cell, alone, SameRoom}
use Rattle.xti_registry.specs.Known.{Known}
use Rattle.xti_end.specs.Taken.{taken, IsAt}
use Rattle.xti_laws.specs.Laws.{Within}
use Rattle.xti_laws.proofs.Local.{plan-local, step-local}
use Rattle.xti_laws.proofs.Others.{step-others}
use Rattle.xti_laws.proofs.TableWalk.{told-fd}
use Rattle.xti_lent.specs.Lending.{Lending, held_at, with_held, cell_lent, cells, cells_by}
use Rattle.xti_lent.specs.Fit.{AtOwnPlaces, SameCells}
use Rattle.xti_lent.proofs.Worlds.{from_number}
use Rattle.xti_lent.proofs.Places.{place-cell}
use Rattle.xti_lent.proofs.Lendings.{cell-is, put-same, put-other}
use Rattle.xti_lent.proofs.Written.{written-same, own-kept}
use Rattle.xti_lent.proofs.Open.{own-place}
use Rattle.xti_core.proofs.Settling.{kept_by, only-is, settled}

-- what a call of one cell names, and whose state it tells
pub record Reads (p : Providers) (w : World) (n : ℕ) (c : Call) (g : Go) : Type 0 where
  pub named : Within (n ∷ []) (named p w c)
  pub told : is_among (n ∷ []) (place_of p (plan p w c g).fd) ≡ true

pub own : (n m : ℕ) → m ≡ n → is_among (n ∷ []) m ≡ true
own n m e = rw (eq-eqb n m (sym e)) refl

-- once it has asked, t_connect goes on as t_rcvconnect
abbrev pub goes_on_as : Call → Go → Call
goes_on_as (call.TConnect fd addr opt udata amax omax umax) (go.More n) = call.TRcvConnect fd amax omax umax
goes_on_as c g = c

pub plan-alike : (p : Providers) (w : World) (c : Call) (g : Go) → plan p w c g ≡ plan p w (goes_on_as c g) g
unfolding plan
plan-alike p w (call.TConnect fd addr opt udata amax omax umax) (go.More n) = refl
plan-alike p w (call.TConnect fd addr opt udata amax omax umax) go.Begin = refl
plan-alike p w other g = refl

pub step-alike : (p : Providers) (w : World) (c : Call) (g : Go) → step p w c g ≡ step p w (goes_on_as c g) g
unfolding step
step-alike p w c g = ap (step_of p w) (plan-alike p w c g)

pub reads : (p : Providers) (w : World) (n : ℕ) (c : Call) (g : Go) → IsAt p n c g → Reads p w n (goes_on_as c g) g
reads p w n (call.TConnect fd addr opt udata amax omax umax) (go.More m) h = record { named = (own n (place_of p fd.0) h, tt); told = own n _ (ap (place_of p) (told-fd p w (call.TRcvConnect fd amax omax umax) (go.More m)) ∙ h) }
reads p w n (call.TRcvUData fd max amax omax) g h = record { named = (own n (place_of p fd.0) h, tt); told = own n _ (ap (place_of p) (told-fd p w (call.TRcvUData fd max amax omax) g) ∙ h) }
reads p w n (call.TRcvVUData fd sizes amax omax) g h = record { named = (own n (place_of p fd.0) h, tt); told = own n _ (ap (place_of p) (told-fd p w (call.TRcvVUData fd sizes amax omax) g) ∙ h) }
reads p w n (call.TRcvUDErr fd amax omax) g h = record { named = (own n (place_of p fd.0) h, tt); told = own n _ (ap (place_of p) (told-fd p w (call.TRcvUDErr fd amax omax) g) ∙ h) }
reads p w n (call.TGetState fd) g h = record { named = (own n (place_of p fd.0) h, tt); told = own n _ (ap (place_of p) (told-fd p w (call.TGetState fd) g) ∙ h) }
reads p w n (call.TSync fd) g h = record { named = (own n (place_of p fd.0) h, tt); told = own n _ (ap (place_of p) (told-fd p w (call.TSync fd) g) ∙ h) }
reads p w n (call.SetMode fd nonblock) g h = record { named = (own n (place_of p fd.0) h, tt); told = own n _ (ap (place_of p) (told-fd p w (call.SetMode fd nonblock) g) ∙ h) }
reads p w n (call.TRcvConnect fd amax omax umax) g h = record { named = (own n (place_of p fd.0) h, tt); told = own n _ (ap (place_of p) (told-fd p w (call.TRcvConnect fd amax omax umax) g) ∙ h) }
reads p w n (call.TListen fd amax omax umax) g h = record { named = (own n (place_of p fd.0) h, tt); told = own n _ (ap (place_of p) (told-fd p w (call.TListen fd amax omax umax) g) ∙ h) }
reads p w n (call.TRcv fd max) g h = record { named = (own n (place_of p fd.0) h, tt); told = own n _ (ap (place_of p) (told-fd p w (call.TRcv fd max) g) ∙ h) }
reads p w n (call.TRcvV fd sizes) g h = record { named = (own n (place_of p fd.0) h, tt); told = own n _ (ap (place_of p) (told-fd p w (call.TRcvV fd sizes) g) ∙ h) }
reads p w n (call.TRcvDis fd umax) g h = record { named = (own n (place_of p fd.0) h, tt); told = own n _ (ap (place_of p) (told-fd p w (call.TRcvDis fd umax) g) ∙ h) }
reads p w n (call.TRcvRel fd) g h = record { named = (own n (place_of p fd.0) h, tt); told = own n _ (ap (place_of p) (told-fd p w (call.TRcvRel fd) g) ∙ h) }
reads p w n (call.TRcvRelData fd umax) g h = record { named = (own n (place_of p fd.0) h, tt); told = own n _ (ap (place_of p) (told-fd p w (call.TRcvRelData fd umax) g) ∙ h) }
reads p w n (call.TGetInfo fd) g h = record { named = (own n (place_of p fd.0) h, tt); told = own n _ (ap (place_of p) (told-fd p w (call.TGetInfo fd) g) ∙ h) }
reads p w n (call.TGetProtAddr fd amax pmax) g h = record { named = (own n (place_of p fd.0) h, tt); told = own n _ (ap (place_of p) (told-fd p w (call.TGetProtAddr fd amax pmax) g) ∙ h) }
reads p w n (call.TOptMgmt fd action opt omax) g h = record { named = (own n (place_of p fd.0) h, tt); told = own n _ (ap (place_of p) (told-fd p w (call.TOptMgmt fd action opt omax) g) ∙ h) }
reads p w n other g h = absurd h

-- one cell of those by number
pub none-from : (at : ℕ → Option Cell) (from k : ℕ) → ((m : ℕ) → from ≤ m → at m ≡ None) → from_number at from k ≡ []
none-from at from zero h = refl
none-from at from (suc k) h = rw (h from (omega arith), none-from at (from + 1) k (λ m le. h m (omega arith))) refl

pub one-from : (at : ℕ → Option Cell) (from k n : ℕ) (c : Cell) → from ≤ n → n < from + k → at n ≡ Some c → ((m : ℕ) → eqb n m ≡ false → at m ≡ None) → from_number at from k ≡ record { number = n; cell = c } ∷ []
one-from at from zero n c le lt e h = absurd (omega arith)
one-from at from (suc k) n c le lt e h = go (eqb n from) refl (λ ne. one-from at (from + 1) k n c ne (omega arith) e h)
  where
    go : (b : Bool) → eqb n from ≡ b → (from + 1 ≤ n → from_number at (from + 1) k ≡ record { number = n; cell = c } ∷ []) → from_number at from (suc k) ≡ record { number = n; cell = c } ∷ []
    go true i later =
        let s : n ≡ from = eqb-true n from i in
        let q : from_number at (from + 1) k ≡ [] = none-from at (from + 1) k (λ m le. h m (ne_eqb n m (λ z. omega arith))) in
        let r : at from ≡ Some c = subst (λ z. at z ≡ Some c) s e in
        rw (r, q) (ap (λ z. record { number = z; cell = c } ∷ []) (sym s))
    go false i later =
        let ne : from + 1 ≤ n = grind (arith, nat_tests) in
        rw (h from i) (later ne)

pub one-kept : (p : Providers) (at : ℕ → Option Cell) (n : ℕ) (c : Cell) → n < places p + 1 → at n ≡ Some c → only (n ∷ []) (cells_by p at) ≡ record { number = n; cell = c } ∷ []
unfolding cells_by
one-kept p at n c lt e = only-is p (n ∷ []) at ∙ one-from (kept_by (n ∷ []) at) 0 (places p + 1) n c (omega arith) (omega arith) (rw (own n n refl) e) (λ m i. rw i refl)

pub alone-is : (l : Lending) (n : ℕ) (h : Held) → n < places l.providers → AtOwnPlaces l → held_at l n ≡ Some h → only (n ∷ []) (cells l) ≡ alone h
alone-is l n h lt own e = one-kept l.providers (cell_lent l) n (cell h) (place-cell l.providers n lt) (cell-is l n h lt e) ∙ ap (λ m. record { number = m; cell = cell h } ∷ []) (sym (own-place l.numbers l.held n h own e))

pub same-cells : (l : Lending) (n : ℕ) (h new : Held) → held_at l n ≡ Some h → SameRoom h new → SameCells l (with_held l n new)
same-cells l n h new e r = written-same l n h new e r.place

pub not-own : (n m : ℕ) → is_among (n ∷ []) m ≡ false → eqb m n ≡ false
not-own n m e = grind (arith, nat_tests)

-- a step of one cell, of a call that names no other
pub lifted-as : (l : Lending) (n : ℕ) (h new : Held) (c : Call) (g : Go) (a : Applied) → n < places l.providers → Reads l.providers (cells l) n c g → AtOwnPlaces l → held_at l n ≡ Some h → SameRoom h new
    → taken a (alone new) ≡ step l.providers (alone h) c g → taken a (cells (with_held l n new)) ≡ step l.providers (cells l) c g
lifted-as l n h new c g a lt q own e r s =
    let p = l.providers in
    let o : AtOwnPlaces (with_held l n new) = own-kept l (with_held l n new) (same-cells l n h new e r) own in
    let m : held_at (with_held l n new) n ≡ Some new = put-same n l.numbers l.held h new e in
    settled p (n ∷ []) (cell_lent l) (cell_lent (with_held l n new)) c g a
    (step-local p (n ∷ []) (cells l) c g q.named q.told) (step-others p (n ∷ []) (cells l) c g q.named)
    (λ k b j. ap (λ z. cond (eqb k (switch_number p)) (option_map (λ (k : Known). switch_cell k.switch) l.registry) (option_map cell z)) (put-other n k l.numbers l.held new (not-own n k j)))
    (ap (taken a) (alone-is (with_held l n new) n new lt o m) ∙ (s ∙ ap (λ w. step p w c g) (sym (alone-is l n h lt own e))))

-- a step of one cell
pub lifted : (l : Lending) (n : ℕ) (h new : Held) (c : Call) (g : Go) (a : Applied) → n < places l.providers → IsAt l.providers n c g → AtOwnPlaces l → held_at l n ≡ Some h → SameRoom h new
    → taken a (alone new) ≡ step l.providers (alone h) c g → taken a (cells (with_held l n new)) ≡ step l.providers (cells l) c g
lifted l n h new c g a lt i own e r s =
    let p = l.providers in
    lifted-as l n h new (goes_on_as c g) g a lt (reads p (cells l) n c g i) own e r (s ∙ step-alike p (alone h) c g) ∙ sym (step-alike p (cells l) c g)

pub takes-alike : (p : Providers) (v w : World) (n : ℕ) (c : Call) (g : Go) → IsAt p n c g → takes_memory p v c ≡ takes_memory p w c
takes-alike p v w n (call.TConnect fd addr opt udata amax omax umax) g i = refl
takes-alike p v w n (call.TRcvUData fd max amax omax) g i = refl
takes-alike p v w n (call.TRcvVUData fd sizes amax omax) g i = refl
takes-alike p v w n (call.TRcvUDErr fd amax omax) g i = refl
takes-alike p v w n (call.TGetState fd) g i = refl
takes-alike p v w n (call.TSync fd) g i = refl
takes-alike p v w n (call.SetMode fd nonblock) g i = refl
takes-alike p v w n (call.TRcvConnect fd amax omax umax) g i = refl
takes-alike p v w n (call.TListen fd amax omax umax) g i = refl
takes-alike p v w n (call.TRcv fd max) g i = refl
takes-alike p v w n (call.TRcvV fd sizes) g i = refl
takes-alike p v w n (call.TRcvDis fd umax) g i = refl
takes-alike p v w n (call.TRcvRel fd) g i = refl
takes-alike p v w n (call.TRcvRelData fd umax) g i = refl
takes-alike p v w n (call.TGetInfo fd) g i = refl
takes-alike p v w n (call.TGetProtAddr fd amax pmax) g i = refl
takes-alike p v w n (call.TOptMgmt fd action opt omax) g i = refl
takes-alike p v w n other g i = absurd i

-- one cell tells whether its step may run out of memory
pub runs-out-alike : (l : Lending) (n : ℕ) (h : Held) (c : Call) (g : Go) → n < places l.providers → IsAt l.providers n c g → AtOwnPlaces l → held_at l n ≡ Some h → may_run_out l.providers (alone h) c g ≡ may_run_out l.providers (cells l) c g
runs-out-alike l n h c g lt i own e =
    let p = l.providers in
    let q : plan p (alone h) c g ≡ plan p (cells l) c g =
    plan-alike p (alone h) c g ∙
    (ap (λ w. plan p w (goes_on_as c g) g) (sym (alone-is l n h lt own e)) ∙
    (plan-local p (n ∷ []) (cells l) (goes_on_as c g) g (reads p (cells l) n c g i).named ∙ sym (plan-alike p (cells l) c g))) in
    let r : first_refusal p (alone h) c g ≡ first_refusal p (cells l) c g = ap (λ (x : Plan). first x.rows) q in
    ap (λ (b : Bool). b && has_effect (first_refusal p (alone h) c g)) (takes-alike p (alone h) (cells l) n c g i) ∙ ap (λ (x : Option Refusal). takes_memory p (cells l) c && has_effect x) r

-- what is said of an answer
pub if-ok : {E : Type 0} (r : Result Applied E) (P Q : Applied → Type 0) → ((a : Applied) → P a → Q a) → IfOk r P → IfOk r Q
if-ok (Ok a) P Q f h = f a h
if-ok (Err e) P Q f h = tt

pub on-err : {E : Type 0} (r : Result Applied E) (A B : Type 0) → (A → B) → OnErr r A → OnErr r B
on-err (Ok a) A B f h = tt
on-err (Err e) A B f h = f h
