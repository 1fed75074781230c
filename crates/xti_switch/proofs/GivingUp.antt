-- The callers of a listener hear one after the other that it closed.
use Rattle.std.proofs.Common.{◌≡◌, ℕ, zero, suc, ◌+◌, ◌≤◌, true, false, List, [], ◌∷◌, ◌++◌, length, take, drop, Option, Some, None, refl, sym, ap, ◌∙◌, subst, arith}
use Rattle.std.specs.Prelude.{map, option_map, slice_get}
use Rattle.std.specs.List.{AllByRecursion}
use Rattle.xti_base.specs.declared.kinds.Fd.{Fd}
use Rattle.xti_base.specs.declared.kinds.Seq.{Seq}
use Rattle.xti_base.specs.declared.reasons.TheConstants.{PEER_CLOSED}
use Rattle.xti_model.specs.declared.profile.Providers.{Providers}
use Rattle.xti_model.specs.Calls.Close.{give_up_caller}
use Rattle.xti_model.specs.Endpoint.{Endpoint, Disconnect, Indication}
use Rattle.xti_model.specs.World.{World, Change, changed, endpoint}
use Rattle.xti_model.proofs.Appending.{all-append}
use Rattle.xti_end.specs.Callers.{caller_and_number, numbers_of}
use Rattle.xti_end.specs.Frames.{disconnect_in}
use Rattle.xti_lent.specs.Answers.{Changed}
use Rattle.xti_lent.specs.Fit.{SameCells}
use Rattle.xti_lent.specs.Lending.{Lending, cells}
use Rattle.xti_lent.specs.Lends.{IsHeld}
use Rattle.xti_lent.proofs.Sequences.{same-then}
use Rattle.xti_switch.specs.declared.notices.News.{News}
use Rattle.xti_switch.specs.declared.notices.News.TheVariants as news
use Rattle.xti_switch.specs.declared.notices.Notice.{Notice}
use Rattle.xti_switch.specs.Closes.{unanswered, unanswered_at, AreOfClose, IsReadyAmong}
use Rattle.xti_switch.specs.Hearing.{concerns, heard, telling, IsNotice, IsReady, Silences, TakesRoom}
use Rattle.xti_switch.proofs.Hearings.{room-then}
use Rattle.xti_switch.proofs.Reaching.{some-all, held-kept}

-- who heard it asks nobody, and so hears no more
no-target : (n : News) (d : Disconnect) (x : Endpoint) → AreOfClose n → concerns n x ≡ true → (heard n d x).target ≡ None
no-target (news.GivenUp listener number) d x a c = rw c refl
no-target (news.Broken by) d x a c = absurd a
no-target (news.TakenBack number) d x a c = absurd a
no-target news.Rejected d x a c = absurd a

not-concerned : (m : News) (e : Endpoint) → e.target ≡ None → AreOfClose m → concerns m e ≡ false
not-concerned (news.GivenUp listener number) e t a = rw t refl
not-concerned (news.Broken by) e t a = absurd a
not-concerned (news.TakenBack number) e t a = absurd a
not-concerned news.Rejected e t a = absurd a

silences-next : (l : Lending) (n m : Notice) → AreOfClose n.news → AreOfClose m.news → Silences l n m
silences-next l n m a b = some-all (endpoint l.providers (cells l) n.to.0) (λ x o c. not-concerned m.news (heard n.news (disconnect_in n.frame) x) (no-target n.news (disconnect_in n.frame) x a c) b)

all-mapped : {X : Type 0} (P Q : X → Type 0) (xs : List X) → ((x : X) → P x → Q x) → AllByRecursion P xs → AllByRecursion Q xs
all-mapped P Q [] f a = tt
all-mapped P Q (x ∷ xs) f a = (f x a.0, all-mapped P Q xs f a.1)

-- so far of all notices some are left, and telling them leaves what telling all leaves
pub record StillTelling (first : Lending) (all : List Notice) (l : Lending) (left : List Notice) : Type 0 where
  pub kept : SameCells first l
  pub registry : l.registry ≡ first.registry
  pub ready : AllByRecursion (IsReadyAmong l) left
  pub told : changed first.providers (cells l) (map telling left) ≡ changed first.providers (cells first) (map telling all)

pub told-none : (l : Lending) (all : List Notice) → AllByRecursion (IsReadyAmong l) all → StillTelling l all l all
told-none l all a = record { kept = record { providers = refl; numbers = refl; places = refl }; registry = refl; ready = a; told = refl }

pub told-one : (first : Lending) (all : List Notice) (l k : Lending) (n : Notice) (left : List Notice) → StillTelling first all l (n ∷ left) → SameCells l k → k.registry ≡ l.registry → Changed (telling n ∷ []) l k
    → ((m : Notice) → Silences l n m → IsReady l m → IsReady k m) → StillTelling first all k left
told-one first all l k n left s t r h f = record {
  kept = same-then first l k s.kept t;
  registry = r ∙ s.registry;
  ready = all-mapped (IsReadyAmong l) (IsReadyAmong k) left (λ m a. record { ready = f m (silences-next l n m s.ready.0.of_close a.of_close) a.ready; of_close = a.of_close }) s.ready.1;
  told = ap (λ (w : World). changed first.providers w (map telling left)) (h ∙ ap (λ (q : Providers). changed q (cells l) (telling n ∷ [])) s.kept.providers) ∙ s.told;
}

pub no-first : {X : Type 0} (xs ys : List X) → xs ≡ ys → ys ≡ drop 1 xs → xs ≡ []
no-first [] ys e f = refl
no-first (x ∷ xs) ys e f = let h : suc (length xs) ≡ length xs = ap length (e ∙ f) in absurd (omega (arith, h))

pub all-told : (first : Lending) (all : List Notice) (l : Lending) (left : List Notice) → StillTelling first all l left → left ≡ [] → Changed (map telling all) first l
all-told first all l left s e = let t = rw e at s.told in t

-- notices for the first of the callers
pub record Gathered (first : Lending) (fd place : ℕ) (l : Lending) (ns : List Notice) : Type 0 where
  pub room : TakesRoom first l
  pub told : map telling ns ≡ map (give_up_caller fd) (take place (unanswered_at first fd))
  pub ready : AllByRecursion (IsReadyAmong l) ns

pub unanswered-same : (first l : Lending) (fd : ℕ) → TakesRoom first l → unanswered_at l fd ≡ unanswered_at first fd
unanswered-same first l fd t = ap (λ (q : Providers). unanswered (endpoint q (cells l) fd)) t.kept.providers ∙ ap (λ (w : World). unanswered (endpoint first.providers w fd)) t.unchanged

get-within : {A B : Type 0} (f : A → B) (o : Option A) (b : B) → Some b ≡ option_map f o → (a : A) × (o ≡ Some a) × (b ≡ f a)
get-within f None b e = cc
get-within f (Some a) b e = (a, refl, cc)

all-get : {X : Type 0} (P : X → Type 0) (xs : List X) (k : ℕ) (x : X) → slice_get xs k ≡ Some x → AllByRecursion P xs → P x
all-get P [] k x e a = cc
all-get P (y ∷ ys) zero x e a = let q : y ≡ x = cc in subst P q a.0
all-get P (y ∷ ys) (suc k) x e a = all-get P ys k x e a.1

take-get : {X : Type 0} (xs : List X) (k : ℕ) (x : X) → slice_get xs k ≡ Some x → take (k + 1) xs ≡ take k xs ++ x ∷ []
take-get [] k x e = cc
take-get (y ∷ ys) zero x e = let q : y ≡ x = cc in ap (λ z. z ∷ []) q
take-get (y ∷ ys) (suc k) x e = let j : suc k + 1 ≡ suc (k + 1) = omega arith in rw j (ap (λ zs. y ∷ zs) (take-get ys k x e))

map-last : {A B : Type 0} (f : A → B) (xs : List A) (x : A) → map f (xs ++ x ∷ []) ≡ map f xs ++ f x ∷ []
map-last f [] x = refl
map-last f (y ∷ ys) x = ap (λ zs. f y ∷ zs) (map-last f ys x)

-- the request at a place, as it was at first
request-first : (first l : Lending) (fd place : ℕ) (r : Fd × Seq) → TakesRoom first l → Some (numbers_of r) ≡ option_map caller_and_number (slice_get (unanswered_at l fd) place)
    → (i : Indication) × (slice_get (unanswered_at first fd) place ≡ Some i) × (numbers_of r ≡ caller_and_number i)
request-first first l fd place r t e = get-within caller_and_number (slice_get (unanswered_at first fd) place) (numbers_of r) (e ∙ ap (λ (is : List Indication). option_map caller_and_number (slice_get is place)) (unanswered-same first l fd t))

pub caller-held : (first l : Lending) (fd place : ℕ) (r : Fd × Seq) → TakesRoom first l → Some (numbers_of r) ≡ option_map caller_and_number (slice_get (unanswered_at l fd) place)
    → AllByRecursion (λ (i : Indication). IsHeld first i.caller) (unanswered_at first fd) → IsHeld l r.0.0
caller-held first l fd place r t e a =
    let g = request-first first l fd place r t e in
    let c : r.0.0 ≡ g.0.caller = ap (λ (q : ℕ × ℕ). q.0) g.2 in
    rw c (held-kept first l g.0.caller t.kept (all-get (λ (i : Indication). IsHeld first i.caller) (unanswered_at first fd) place g.0 g.1 a))

tells-caller : (fd : Fd) (r : Fd × Seq) (i : Indication) (n : Notice) → numbers_of r ≡ caller_and_number i → IsNotice r.0 (news.GivenUp fd r.1) PEER_CLOSED [] n → telling n ≡ give_up_caller fd.0 i
tells-caller fd r i n q s =
    let a : r.0.0 ≡ i.caller = ap (λ (x : ℕ × ℕ). x.0) q in
    let b : r.1.0 ≡ i.number = ap (λ (x : ℕ × ℕ). x.1) q in
    rw (s.receiver, s.told, s.disconnect, a, b) refl

pub gathered-none : (l : Lending) (fd : ℕ) (ns : List Notice) → TakesRoom l l → ns ≡ [] → Gathered l fd 0 l ns
gathered-none l fd ns t e = record { room = t; told = rw e refl; ready = rw e tt }

pub gathered-one : (first l k : Lending) (fd : Fd) (place : ℕ) (ns : List Notice) (r : Fd × Seq) (n : Notice) → Gathered first fd.0 place l ns → TakesRoom l k → Some (numbers_of r) ≡ option_map caller_and_number (slice_get (unanswered_at l fd.0) place)
    → IsNotice r.0 (news.GivenUp fd r.1) PEER_CLOSED [] n → IsReady k n → Gathered first fd.0 (place + 1) k (ns ++ n ∷ [])
gathered-one first l k fd place ns r n g t e s y =
    let q = request-first first l fd.0 place r g.room e in
    let c : AreOfClose n.news = rw s.told tt in
    let v : telling n ≡ give_up_caller fd.0 q.0 = tells-caller fd r q.0 n q.2 s in
    let w : map (give_up_caller fd.0) (take place (unanswered_at first fd.0) ++ q.0 ∷ []) ≡ map (give_up_caller fd.0) (take place (unanswered_at first fd.0)) ++ give_up_caller fd.0 q.0 ∷ [] = map-last (give_up_caller fd.0) (take place (unanswered_at first fd.0)) q.0 in
    record {
      room = room-then first l k g.room t;
      told = map-last telling ns n ∙ (ap (λ (zs : List Change). zs ++ telling n ∷ []) g.told ∙ (ap (λ (z : Change). map (give_up_caller fd.0) (take place (unanswered_at first fd.0)) ++ z ∷ []) v
          ∙ (sym w ∙ ap (map (give_up_caller fd.0)) (sym (take-get (unanswered_at first fd.0) place q.0 q.1)))));
      ready = all-append (IsReadyAmong k) ns (n ∷ []) (all-mapped (IsReadyAmong l) (IsReadyAmong k) ns (λ m a. record { ready = t.ready m a.ready; of_close = a.of_close }) g.ready) (record { ready = y; of_close = c }, tt);
    }

take-past : {X : Type 0} (xs : List X) (k : ℕ) → length xs ≤ k → take k xs ≡ xs
take-past [] zero le = refl
take-past [] (suc k) le = refl
take-past (x ∷ xs) zero le = absurd (omega (arith, le))
take-past (x ∷ xs) (suc k) le = ap (λ ys. x ∷ ys) (take-past xs k (omega (arith, le)))

pub gathered-all : (first l : Lending) (fd place : ℕ) (ns : List Notice) → Gathered first fd place l ns → length (unanswered_at first fd) ≤ place → map telling ns ≡ map (give_up_caller fd) (unanswered_at first fd)
gathered-all first l fd place ns g le = g.told ∙ ap (map (give_up_caller fd)) (take-past (unanswered_at first fd) place le)
