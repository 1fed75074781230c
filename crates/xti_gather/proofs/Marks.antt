-- Marks of cells, as they are set and as marked cells are entered.
use Rattle.std.proofs.Common.{◌≡◌, ◌≢◌, ℕ, zero, suc, ◌+◌, ◌<◌, ◌≤◌, ltb, Bool, true, false, List, [], ◌∷◌, length, get_or, set, Option, Some, None, refl, sym, ap, ◌∙◌, subst, arith}
use Rattle.std.specs.Prelude.{slice_get, is_some, replicate, MatchOption}
use Rattle.std.specs.List.{AllByRecursion}
use Rattle.std.proofs.lemmas.List.{get_or-set_same}
use Rattle.std.proofs.lemmas.Bool.Decides.{nat_tests}
use Rattle.xti_base.specs.declared.kinds.Fd.{Fd}
use Rattle.xti_lent.specs.Lending.{Lending, cell_lent, is_lent}
use Rattle.xti_gather.specs.Orders.{AllBelow}
use Rattle.xti_gather.proofs.Numbers.{cases, one-get, not-both}
use Rattle.xti_gather.specs.Marks.{is_marked, looked_at, AllMarked, AreFor, Keep, MarkedAreLent, IsFirstUnlent, CanBeEntered, IsSeen, StayBelow}

-- a mark that is read
pub mark-read : (ms : List Bool) (n : ℕ) (b : Bool) → n < length ms → b ≡ get_or ms n b → b ≡ is_marked ms n
mark-read [] n b lt e = absurd (omega arith)
mark-read (m ∷ ms) zero b lt e = e
mark-read (m ∷ ms) (suc n) b lt e = mark-read ms n b (omega arith) e

-- a mark is one of those that there are
pub marked-within : (ms : List Bool) (n : ℕ) → is_marked ms n ≡ true → n < length ms
marked-within [] n e = absurd (cc)
marked-within (m ∷ ms) zero e = omega arith
marked-within (m ∷ ms) (suc n) e = let r = marked-within ms n e in omega (arith, r)

-- what is marked stays marked where one more is
pub set-keeps : (ms : List Bool) (i : ℕ) → Keep ms (set ms i true)
set-keeps [] i n e = e
set-keeps (b ∷ ms) zero zero e = refl
set-keeps (b ∷ ms) zero (suc n) e = e
set-keeps (b ∷ ms) (suc i) zero e = e
set-keeps (b ∷ ms) (suc i) (suc n) e = set-keeps ms i n e

-- the first cells of a list are marked
abbrev pub MarkedTo : List Bool → List ℕ → ℕ → Type 0
MarkedTo ms ns k = (j n : ℕ) → j < k → slice_get ns j ≡ Some n → is_marked ms n ≡ true

pub marked-more : (ms : List Bool) (ns : List ℕ) (k n : ℕ) → n < length ms → slice_get ns k ≡ Some n → MarkedTo ms ns k → MarkedTo (set ms n true) ns (k + 1)
marked-more ms ns k n lt here so j m le e =
    cases j k (is_marked (set ms n true) m ≡ true)
    (λ s. let q : m ≡ n = one-get ns j k m n s e here in subst (λ z. is_marked (set ms n true) z ≡ true) (sym q) (get_or-set_same ms n true false lt))
    (λ ne. set-keeps ms n m (so j m (omega (arith, le, ne)) e))

-- what holds of each, by its place, holds of all
pub all-at : {A : Type 0} (P : A → Type 0) (xs : List A) → ((k : ℕ) (x : A) → k < length xs → slice_get xs k ≡ Some x → P x) → AllByRecursion P xs
all-at P [] h = tt
all-at P (x ∷ xs) h = (h 0 x (omega arith) refl, all-at P xs (λ k y lt e. h (suc k) y (omega arith) e))

pub keeps-all : (old new : List Bool) (ns : List ℕ) → Keep old new → AllMarked old ns → AllMarked new ns
keeps-all old new [] kept a = tt
keeps-all old new (n ∷ ns) kept a = (kept n a.0, keeps-all old new ns kept a.1)

-- the item at a place
item-at : {A : Type 0} (xs : List A) (k : ℕ) (x d : A) → slice_get xs k ≡ Some x → get_or xs k d ≡ x
item-at [] k x d e = absurd (cc)
item-at (y ∷ xs) zero x d e = cc
item-at (y ∷ xs) (suc k) x d e = item-at xs k x d e

-- one look more is marked
pub marked-looks : (l : Lending) (ms ms' : List Bool) (fds : List Fd) (i : ℕ) (d : Fd) (cells : List ℕ) → cells ≡ looked_at l (get_or fds i d) → AllMarked ms' cells → Keep ms ms' → ((k : ℕ) (fd : Fd) → k < i → slice_get fds k ≡ Some fd → AreFor l ms fd)
    → (k : ℕ) (fd : Fd) → k < i + 1 → slice_get fds k ≡ Some fd → AreFor l ms' fd
marked-looks l ms ms' fds i d cells is now kept before k fd lt e =
    cases k i (AreFor l ms' fd)
    (λ s. subst (AllMarked ms') (is ∙ ap (looked_at l) (ap (λ j. get_or fds j d) (sym s) ∙ item-at fds k fd d e)) now)
    (λ ne. keeps-all ms ms' (looked_at l fd) kept (before k fd (omega (arith, lt, ne)) e))

-- the cells of looks that are marked are lent, where each marked one is
lent-of : (l : Lending) (ms : List Bool) (ns : List ℕ) → MarkedAreLent l ms → AllMarked ms ns → AllByRecursion (λ n. is_lent l n ≡ true) ns
lent-of l ms [] all a = tt
lent-of l ms (n ∷ ns) all a = (all n a.0, lent-of l ms ns all a.1)

all-seen : (l : Lending) (ms : List Bool) (fds : List Fd) → MarkedAreLent l ms → AllByRecursion (AreFor l ms) fds → AllByRecursion (IsSeen l) fds
all-seen l ms [] all a = tt
all-seen l ms (fd ∷ fds) all a = (lent-of l ms (looked_at l fd) all a.0, all-seen l ms fds all a.1)

pub seen-or-next : (l : Lending) (ms : List Bool) (fds : List Fd) (o : Option ℕ) → AllByRecursion (AreFor l ms) fds → MatchOption o (MarkedAreLent l ms) (IsFirstUnlent l ms) → MatchOption o (AllByRecursion (IsSeen l) fds) (IsFirstUnlent l ms)
seen-or-next l ms fds None a m = all-seen l ms fds m a
seen-or-next l ms fds (Some k) a m = m

-- nothing is marked
pub none-marked : (k n : ℕ) → is_marked (replicate k false) n ≡ true → ⊥
none-marked zero n e = cc
none-marked (suc k) zero e = cc
none-marked (suc k) (suc n) e = none-marked k n e

-- What is lent while the marked cells are entered in rising order.
pub record EnteredTo (l : Lending) (ms : List Bool) (k : ℕ) : Type 0 where
  pub before : (n : ℕ) → n < k → is_marked ms n ≡ true → is_lent l n ≡ true
  pub order : (n m : ℕ) → k ≤ m → is_lent l n ≡ true → is_marked ms m ≡ true → is_lent l m ≡ false → n < m

pub entered-none : (l : Lending) (ms : List Bool) → CanBeEntered l ms → EnteredTo l ms 0
entered-none l ms order = record {
  before = λ n lt e. absurd (omega (arith, lt));
  order = λ n m le h e g. order n m h e g;
}

pub entered-below : (l : Lending) (ms : List Bool) (k : ℕ) → EnteredTo l ms k → is_marked ms k ≡ true → is_lent l k ≡ false → AllBelow l k
entered-below l ms k so e g n h = so.order n k (omega arith) h e g

pub entered-one : (l l' : Lending) (ms : List Bool) (k : ℕ) → EnteredTo l ms k → is_lent l' k ≡ true → ((n : ℕ) → n ≢ k → cell_lent l' n ≡ cell_lent l n) → EnteredTo l' ms (k + 1)
entered-one l l' ms k so now others = record {
  before = λ n lt e. cases n k (is_lent l' n ≡ true) (λ s. subst (λ z. is_lent l' z ≡ true) (sym s) now) (λ ne. ap is_some (others n ne) ∙ so.before n (omega (arith, lt, ne)) e);
  order = λ n m le h e g. let ne : m ≢ k = λ s. absurd (omega (arith, le, s)) in
      cases n k (n < m) (λ s. omega (arith, le, s)) (λ nk. so.order n m (omega (arith, le)) (sym (ap is_some (others n nk)) ∙ h) e (sym (ap is_some (others m ne)) ∙ g));
}

pub entered-past : (l : Lending) (ms : List Bool) (k : ℕ) → EnteredTo l ms k → is_marked ms k ≡ false → EnteredTo l ms (k + 1)
entered-past l ms k so off = record {
  before = λ n lt e. cases n k (is_lent l n ≡ true) (λ s. absurd (not-both (is_marked ms k) (subst (λ z. is_marked ms z ≡ true) s e) off)) (λ ne. so.before n (omega (arith, lt, ne)) e);
  order = λ n m le h e g. so.order n m (omega (arith, le)) h e g;
}

pub entered-all : (l : Lending) (ms : List Bool) (k : ℕ) → EnteredTo l ms k → length ms ≤ k → MarkedAreLent l ms
entered-all l ms k so le n e = let lt = marked-within ms n e in so.before n (omega (arith, lt, le)) e

-- the first marked cell that isn't lent, and that there is none
pub first-at : (l : Lending) (ms : List Bool) (k : ℕ) → ((n : ℕ) → n < k → is_marked ms n ≡ true → is_lent l n ≡ true) → is_marked ms k ≡ true → is_lent l k ≡ false → IsFirstUnlent l ms k
first-at l ms k before e g = record {
  marked = e;
  gone = g;
  first = λ n i h. not-before n i h;
}
  where
    not-before : (n : ℕ) → is_marked ms n ≡ true → is_lent l n ≡ false → k ≤ n
    not-before n i h = go (ltb n k) refl
      where
        go : (b : Bool) → ltb n k ≡ b → k ≤ n
        go true e = absurd (not-both (is_lent l n) (before n (grind (arith, nat_tests)) i) h)
        go false e = grind (arith, nat_tests)

pub none-at : (l : Lending) (ms : List Bool) (k : ℕ) → ((n : ℕ) → n < k → is_marked ms n ≡ true → is_lent l n ≡ true) → length ms ≤ k → MarkedAreLent l ms
none-at l ms k before le n e = let lt = marked-within ms n e in before n (omega (arith, lt, le)) e

-- cells that are lent below the first that is to be entered stay, or all are given back
pub can-enter : (old new : Lending) (ms : List Bool) (k : ℕ) → IsFirstUnlent old ms k → StayBelow k old new → CanBeEntered new ms
can-enter old new ms k first kept n m h e g =
    let below = kept n h in
    let le = first.first m e (sym (ap is_some (below.1 m)) ∙ g) in
    omega (arith, below.0, le)

-- how many cells aren't marked
abbrev pub unmarked : List Bool → ℕ
unmarked [] = 0
unmarked (true ∷ ms) = unmarked ms
unmarked (false ∷ ms) = suc (unmarked ms)

no-more : (old new : List Bool) → length new ≡ length old → Keep old new → unmarked new ≤ unmarked old
no-more [] [] e kept = omega arith
no-more [] (y ∷ ys) e kept = absurd (omega arith)
no-more (x ∷ xs) [] e kept = absurd (omega arith)
no-more (true ∷ xs) (true ∷ ys) e kept = no-more xs ys (omega (arith, e)) (λ n i. kept (suc n) i)
no-more (true ∷ xs) (false ∷ ys) e kept = absurd (let q = kept 0 refl in cc)
no-more (false ∷ xs) (true ∷ ys) e kept = let r = no-more xs ys (omega (arith, e)) (λ n i. kept (suc n) i) in omega (arith, r)
no-more (false ∷ xs) (false ∷ ys) e kept = let r = no-more xs ys (omega (arith, e)) (λ n i. kept (suc n) i) in omega (arith, r)

pub fewer-unmarked : (old new : List Bool) (k : ℕ) → length new ≡ length old → Keep old new → is_marked old k ≡ false → is_marked new k ≡ true → unmarked new < unmarked old
fewer-unmarked old [] k e kept f t = absurd (cc)
fewer-unmarked [] (y ∷ ys) k e kept f t = absurd (omega arith)
fewer-unmarked (true ∷ xs) (y ∷ ys) zero e kept f t = absurd (cc)
fewer-unmarked (false ∷ xs) (false ∷ ys) zero e kept f t = absurd (cc)
fewer-unmarked (false ∷ xs) (true ∷ ys) zero e kept f t = let r = no-more xs ys (omega (arith, e)) (λ n i. kept (suc n) i) in omega (arith, r)
fewer-unmarked (true ∷ xs) (true ∷ ys) (suc k) e kept f t = fewer-unmarked xs ys k (omega (arith, e)) (λ n i. kept (suc n) i) f t
fewer-unmarked (true ∷ xs) (false ∷ ys) (suc k) e kept f t = absurd (let q = kept 0 refl in cc)
fewer-unmarked (false ∷ xs) (true ∷ ys) (suc k) e kept f t = let r = fewer-unmarked xs ys k (omega (arith, e)) (λ n i. kept (suc n) i) f t in omega (arith, r)
fewer-unmarked (false ∷ xs) (false ∷ ys) (suc k) e kept f t = let r = fewer-unmarked xs ys k (omega (arith, e)) (λ n i. kept (suc n) i) f t in omega (arith, r)

-- a cell that isn't lent isn't marked, where each marked one is lent
pub not-marked : (l : Lending) (ms : List Bool) (k : ℕ) → MarkedAreLent l ms → is_lent l k ≡ false → is_marked ms k ≡ false
not-marked l ms k all g = go (is_marked ms k) refl
  where
    go : (b : Bool) → is_marked ms k ≡ b → is_marked ms k ≡ false
    go true e = absurd (not-both (is_lent l k) (all k e) g)
    go false e = e
