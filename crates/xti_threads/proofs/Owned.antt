-- Each worker's own entries in a history, and when the history follows its script.
use Rattle.std.specs.Prelude.{ℕ, ◌<◌, ◌≤◌, ◌≢◌, ◌==◌, ◌&&◌, not, nat_lt, Bool, true, false, List, [], ◌∷◌, ◌++◌, length, map, take, filter, IfSome, ◌≡◌, if◌then◌else◌}
use Rattle.std.specs.List.{AllByRecursion, list_all, list_any}
use Rattle.std.proofs.Common.{refl, sym, ap, subst, ◌∙◌, arith, length-append, inl, inr}
use Rattle.std.proofs.lemmas.Bool.{eq-eqb, eqb-true, ne_eqb, false≢true}
use Rattle.std.proofs.lemmas.Bool.Decides.{nat_tests}
use Rattle.xti_base.specs.declared.limits.TheConstants.{WORKERS}
use Rattle.xti_model.specs.declared.entry.Entry.{Entry}
use Rattle.xti_model.specs.declared.script.Line.{Line}
use Rattle.xti_model.specs.declared.profile.Providers.{Providers}
use Rattle.xti_model.specs.History.{is_own, own, Legal}
use Rattle.xti_model.specs.Resolve.{Placed, placed, begun, is_begin, answer_of, or_else, opens, listens, opened_fd, listened_number, lines_of, with_numbers}
use Rattle.xti_model.specs.Robin.{is_through}
use Rattle.xti_model.specs.Complete.{Follows, IsHistoryOf, workers, begun_calls, resolved_in, is_setup, is_worker, setup_first}
use Rattle.xti_model.proofs.Appending.{own-append, map-same}
use Rattle.xti_model.proofs.Following.{IsPlace, placed-place, each-of_all}
use Rattle.xti_model.proofs.GoingOn.{all-first}
use Rattle.xti_model.proofs.Phases.{through-same}

-- what a line's names stand for rests on the entries of its worker and of worker 0
resolved-same : (h g : List Entry) (k : ℕ) (l : Placed) → l.line.worker ≡ k → begun h k ≡ begun g k → begun h 0 ≡ begun g 0 → resolved_in h l ≡ resolved_in g l
resolved-same h g k l w a z = λ i. with_numbers (record {
  fd = λ name. record { 0 = opened_fd (or_else (answer_of (opens name) (lines_of l.earlier l.line.worker) (a' i)) (answer_of (opens name) (lines_of l.earlier 0) (z i))) };
  seq = λ name. record { 0 = listened_number (or_else (answer_of (listens name) (lines_of l.earlier l.line.worker) (a' i)) (answer_of (listens name) (lines_of l.earlier 0) (z i))) };
}) l.line.call
  where
    a' : begun h l.line.worker ≡ begun g l.line.worker
    a' = subst (λ n. begun h n ≡ begun g n) (sym w) a

-- and so does whether a worker's calls follow its lines
pub follows-same : (lines : List Line) (h g : List Entry) (k : ℕ) → own h k ≡ own g k → own h 0 ≡ own g 0 → Follows g lines k → Follows h lines k
follows-same lines h g k a z f =
    ap begun_calls a ∙ (f ∙ (sym (map-same (resolved_in h) (resolved_in g) (take (length (begun g k)) (placed lines k)) same) ∙ ap (λ n. map (resolved_in h) (take n (placed lines k))) (ap length (sym ba))))
  where
    ba : begun h k ≡ begun g k
    ba = ap (filter (λ (e : Entry). is_begin e.act)) a

    bz : begun h 0 ≡ begun g 0
    bz = ap (filter (λ (e : Entry). is_begin e.act)) z

    same : AllByRecursion (λ l. resolved_in h l ≡ resolved_in g l) (take (length (begun g k)) (placed lines k))
    same = all-first (λ l. resolved_in h l ≡ resolved_in g l) (placed lines k) (length (begun g k))
        (λ n l lt e. resolved-same h g k l (subst (λ o. IfSome o (IsPlace [] k n)) e (placed-place [] lines k n)).0 ba bz)

-- a worker without entries has begun none of its lines
pub follows-none : (lines : List Line) (h : List Entry) (k : ℕ) → own h k ≡ [] → Follows h lines k
follows-none lines h k n = rw n refl

-- a worker's entries are its own
pub own-again : (h : List Entry) (k : ℕ) → own (own h k) k ≡ own h k
own-again [] k = refl
own-again (e ∷ h) k = by (is_own k e) refl (own-again h k)
  where
    by : (b : Bool) → is_own k e ≡ b → own (own h k) k ≡ own h k → own (if b then e ∷ own h k else own h k) k ≡ (if b then e ∷ own h k else own h k)
    by true i r = rw i (ap (λ l. e ∷ l) r)
    by false i r = r

-- and none of another's
pub own-another : (h : List Entry) (k n : ℕ) → k ≢ n → own (own h k) n ≡ []
own-another [] k n ne = refl
own-another (e ∷ h) k n ne = by (is_own k e) refl (own-another h k n ne)
  where
    by : (b : Bool) → is_own k e ≡ b → own (own h k) n ≡ [] → own (if b then e ∷ own h k else own h k) n ≡ []
    by true i r = let same : e.worker ≡ k = eqb-true e.worker k i in rw (ne_eqb e.worker n (λ x. ne (sym same ∙ x))) r
    by false i r = r

-- no entry is of a worker that has none
own-first : (e : Entry) (h : List Entry) → own (e ∷ h) e.worker ≡ [] → ⊥
own-first e h x = absurd (let y : own (e ∷ h) e.worker ≡ e ∷ own h e.worker = rw (eq-eqb e.worker e.worker refl) refl in let z = sym y ∙ x in cc)

own-rest : (e : Entry) (h : List Entry) (k : ℕ) → own (e ∷ h) k ≡ [] → own h k ≡ []
own-rest e h k x = by (is_own k e) refl x
  where
    by : (b : Bool) → is_own k e ≡ b → (if b then e ∷ own h k else own h k) ≡ [] → own h k ≡ []
    by true i x = absurd (cc)
    by false i x = x

pub workers-only : (h : List Entry) → ((k : ℕ) → WORKERS ≤ k → own h k ≡ []) → list_all is_worker h ≡ true
workers-only [] f = refl
workers-only (e ∷ h) f = by (is_worker e) refl (workers-only h (λ k le. own-rest e h k (f k le)))
  where
    by : (b : Bool) → is_worker e ≡ b → list_all is_worker h ≡ true → (b && list_all is_worker h) ≡ true
    by true i r = r
    by false i r = absurd (own-first e h (f e.worker (let u : 33 ≤ e.worker = grind (arith, nat_tests) in u)))

-- worker 0 alone has entries where no other has
pub setup-only : (h : List Entry) → ((k : ℕ) → 1 ≤ k → own h k ≡ []) → list_all is_setup h ≡ true
setup-only [] f = refl
setup-only (e ∷ h) f = by (is_setup e) refl (setup-only h (λ k le. own-rest e h k (f k le)))
  where
    by : (b : Bool) → is_setup e ≡ b → list_all is_setup h ≡ true → (b && list_all is_setup h) ≡ true
    by true i r = r
    by false i r = absurd (own-first e h (f e.worker (let u : 1 ≤ e.worker = grind (arith, nat_tests) in u)))

-- and then they are all of the history
pub own-setup : (h : List Entry) → list_all is_setup h ≡ true → own h 0 ≡ h
own-setup [] a = refl
own-setup (e ∷ h) a = by (is_setup e) refl a (own-setup h)
  where
    by : (b : Bool) → is_setup e ≡ b → (b && list_all is_setup h) ≡ true → (list_all is_setup h ≡ true → own h 0 ≡ h) → (if b then e ∷ own h 0 else own h 0) ≡ e ∷ h
    by true i a r = ap (λ l. e ∷ l) (r a)
    by false i a r = absurd (false≢true a)

none-setup : (h : List Entry) → own h 0 ≡ [] → list_any is_setup h ≡ false
none-setup [] n = refl
none-setup (e ∷ h) n = by (is_setup e) refl n (λ x. none-setup h x)
  where
    by : (b : Bool) → is_setup e ≡ b → (if b then e ∷ own h 0 else own h 0) ≡ [] → (own h 0 ≡ [] → list_any is_setup h ≡ false) → list_any is_setup (e ∷ h) ≡ false
    by true i x f = absurd (cc)
    by false i x f = rw i (f x)

first-none : (h : List Entry) → own h 0 ≡ [] → setup_first h ≡ true
first-none [] n = refl
first-none (e ∷ h) n = by (is_setup e) refl n
  where
    by : (b : Bool) → is_setup e ≡ b → (if b then e ∷ own h 0 else own h 0) ≡ [] → setup_first (e ∷ h) ≡ true
    by true i x = absurd (cc)
    by false i x = rw i (ap not (none-setup h x))

-- worker 0's entries come first
pub first-setup : (setup rest : List Entry) → list_all is_setup setup ≡ true → own rest 0 ≡ [] → setup_first (setup ++ rest) ≡ true
first-setup [] rest a n = first-none rest n
first-setup (e ∷ setup) rest a n = by (is_setup e) refl a (λ a. first-setup setup rest a n)
  where
    by : (b : Bool) → is_setup e ≡ b → (b && list_all is_setup setup) ≡ true → (list_all is_setup setup ≡ true → setup_first (setup ++ rest) ≡ true) → setup_first (e ∷ setup ++ rest) ≡ true
    by true i a f = rw i (f a)
    by false i a f = absurd (false≢true a)

nothing-more : (xs ys : List Entry) → xs ++ ys ≡ xs → ys ≡ []
nothing-more xs [] p = refl
nothing-more xs (y ∷ ys) p = absurd (let a : length (xs ++ y ∷ ys) ≡ length xs = ap length p in let b = length-append xs (y ∷ ys) in omega (arith, a, b))

-- worker 0 alone has entries, in the order of its lines
pub history-alone : (p : Providers) (lines : List Line) (h : List Entry) → Legal p h → Follows h lines 0 → ((k : ℕ) → 1 ≤ k → own h k ≡ []) → IsHistoryOf p lines h
history-alone p lines h l f none = record {
  legal = l;
  workers_only = workers-only h (λ k le. none k (omega arith));
  follows = each-of_all (Follows h lines) (λ k. by k (k == 0) refl) workers;
  phase = inl (setup-only h none);
}
  where
    by : (k : ℕ) → (b : Bool) → (k == 0) ≡ b → Follows h lines k
    by k true i = subst (Follows h lines) (sym (eqb-true k 0 i)) f
    by k false i = follows-none lines h k (none k (let x : 1 ≤ k = grind (arith, nat_tests) in x))

-- each worker follows its lines, and none begins before worker 0 is finished
pub history-whole : (p : Providers) (lines : List Line) (setup rest : List Entry) (next : ℕ) → Legal p (setup ++ rest) → list_all is_setup setup ≡ true → Follows setup lines 0 → is_through lines setup 0 ≡ true → own (setup ++ rest) 0 ≡ own setup 0
    → next ≤ WORKERS → ((k : ℕ) → next ≤ k → own (setup ++ rest) k ≡ []) → ((k : ℕ) → 0 < k → k < next → Follows (setup ++ rest) lines k) → IsHistoryOf p lines (setup ++ rest)
history-whole p lines setup rest next l a f t z le none each = record {
  legal = l;
  workers_only = workers-only h (λ k u. none k (omega arith));
  follows = each-of_all (Follows h lines) (λ k. by k (k == 0) (nat_lt k next) refl refl) workers;
  phase = inr (first-setup setup rest a (nothing-more (own setup 0) (own rest 0) (sym (own-append setup rest 0) ∙ z)), through-same lines setup h 0 z ∙ t);
}
  where
    h : List Entry
    h = setup ++ rest

    by : (k : ℕ) → (b d : Bool) → (k == 0) ≡ b → nat_lt k next ≡ d → Follows h lines k
    by k true d i j = subst (Follows h lines) (sym (eqb-true k 0 i)) (follows-same lines h setup 0 z z f)
    by k false true i j = each k (let x : 0 < k = grind (arith, nat_tests) in x) (let x : k < next = grind (arith, nat_tests) in x)
    by k false false i j = follows-none lines h k (none k (let x : next ≤ k = grind (arith, nat_tests) in x))
