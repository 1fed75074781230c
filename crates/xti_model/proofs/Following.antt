-- In round robin each worker begins the calls of its lines, in order: what a name stands for stays as the history grows.
use Rattle.std.specs.Prelude.{ℕ, zero, suc, ◌+◌, ◌≤◌, Bool, true, false, List, [], ◌∷◌, ◌++◌, length, map, take, slice_get, Option, Some, None, IfSome, option_map, option_and_then, is_none, ◌≡◌, ◌⊎◌, if◌then◌else◌}
use Rattle.std.specs.List.{AllByRecursion}
use Rattle.std.proofs.Common.{refl, sym, ap, subst, ◌∙◌, arith, length-append, append_assoc, get_or, inl, inr, ◌<◌}
use Rattle.std.proofs.lemmas.Bool.{eqb-true, false≢true}
use Rattle.std.proofs.lemmas.List.{append-nil, map-append}
use Rattle.std.proofs.lemmas.List.Elements.{filter-append}
use Rattle.std.proofs.lemmas.Option.{IfSome_then, slice_get_cases}
use Rattle.xti_model.specs.declared.entry.Act.{Act}
use Rattle.xti_model.specs.declared.entry.Act.TheVariants as act
use Rattle.xti_model.specs.declared.entry.Entry.{Entry}
use Rattle.xti_model.specs.declared.script.NamedCall.{NamedCall}
use Rattle.xti_model.specs.declared.script.Line.{Line}
use Rattle.xti_model.specs.declared.profile.Providers.{Providers}
use Rattle.xti_model.specs.World.{World}
use Rattle.xti_model.specs.Step.{Step}
use Rattle.xti_model.specs.History.{Going, is_own, own, unfinished, step_going}
use Rattle.xti_model.specs.Resolve.{Placed, placed, placed_from, if_own, is_of, lines_of, begun, answer_of, or_else, answer_to, opens, listens, opened_fd, listened_number, with_numbers}
use Rattle.xti_model.specs.Robin.{begin_line, next_line, next_or, next_going, is_through, act_of, turn_of, turn_going, turn, next_turn, robin_from}
use Rattle.xti_model.specs.Complete.{begun_calls, resolved_in, Each}
use Rattle.xti_model.specs.Following.{HasBegunAll, IsSettled, IsFollowed}
use Rattle.xti_model.proofs.Appending.{own-append, begun-append, begun_calls-append, answer_of-more, take-one_more, all-append, all-then, map-same}
use Rattle.xti_model.proofs.Legality.{GoesOn, unfinished-goes_on}
use Rattle.xti_model.proofs.Turns.{MayGo, next_turn-each, robin_from-keeps}

pub has_begun-more : (lines : List Line) (past more : List Entry) (worker : ℕ) → HasBegunAll lines past worker → HasBegunAll lines (past ++ more) worker
has_begun-more lines past more worker h = rw (begun-append past more worker, length-append (begun past worker) (begun more worker)) (omega arith)

pub settled-more : (past more : List Entry) (l : Placed) → IsSettled past l → IsSettled (past ++ more) l
settled-more past more l h = (has_begun-more l.earlier past more l.line.worker h.0, has_begun-more l.earlier past more 0 h.1)

pub answer_to-more : (earlier : List Line) (worker : ℕ) (past more : List Entry) (test : NamedCall → Bool) → HasBegunAll earlier past worker → HasBegunAll earlier past 0 →
    answer_to earlier worker (past ++ more) test ≡ answer_to earlier worker past test
answer_to-more earlier worker past more test h z = λ i. or_else (own_answer i) (setup_answer i)
  where
    own_answer : answer_of test (lines_of earlier worker) (begun (past ++ more) worker) ≡ answer_of test (lines_of earlier worker) (begun past worker)
    own_answer = ap (answer_of test (lines_of earlier worker)) (begun-append past more worker) ∙ answer_of-more test (lines_of earlier worker) (begun past worker) (begun more worker) h

    setup_answer : answer_of test (lines_of earlier 0) (begun (past ++ more) 0) ≡ answer_of test (lines_of earlier 0) (begun past 0)
    setup_answer = ap (answer_of test (lines_of earlier 0)) (begun-append past more 0) ∙ answer_of-more test (lines_of earlier 0) (begun past 0) (begun more 0) z

pub resolved-more : (past more : List Entry) (l : Placed) → IsSettled past l → resolved_in (past ++ more) l ≡ resolved_in past l
resolved-more past more l h = λ i. with_numbers (record {
  fd = λ name. record { 0 = opened_fd (answer_to-more l.earlier l.line.worker past more (opens name) h.0 h.1 i) };
  seq = λ name. record { 0 = listened_number (answer_to-more l.earlier l.line.worker past more (listens name) h.0 h.1 i) };
}) l.line.call

-- one line more, own or not
pub lines_of-more : (earlier : List Line) (line : Line) (worker : ℕ) (b : Bool) → is_of worker line ≡ b →
    length (lines_of (earlier ++ line ∷ []) worker) ≡ length (lines_of earlier worker) + (if b then 1 else 0)
lines_of-more earlier line worker b e =
    ap length (filter-append (is_of worker) earlier (line ∷ [])) ∙ length-append (lines_of earlier worker) (lines_of (line ∷ []) worker)
    ∙ ap (λ n. length (lines_of earlier worker) + n) (alone b e)
  where
    alone : (b : Bool) → is_of worker line ≡ b → length (lines_of (line ∷ []) worker) ≡ (if b then 1 else 0)
    alone true e = simp e refl
    alone false e = simp e refl

pub placed-lines : (earlier lines : List Line) (worker : ℕ) → length (placed_from earlier lines worker) ≡ length (lines_of lines worker)
placed-lines earlier [] worker = refl
placed-lines earlier (line ∷ lines) worker = by (is_of worker line) (placed-lines (earlier ++ line ∷ []) lines worker)
  where
    by : (b : Bool) → length (placed_from (earlier ++ line ∷ []) lines worker) ≡ length (lines_of lines worker) →
        length (if_own b (record { earlier = earlier; line = line }) (placed_from (earlier ++ line ∷ []) lines worker)) ≡ length (if b then line ∷ lines_of lines worker else lines_of lines worker)
    by true ih = ap suc ih
    by false ih = ih

-- the n-th line of a worker is its own, and comes after n of its lines
abbrev pub IsPlace : List Line → ℕ → ℕ → Placed → Type 0
IsPlace earlier worker n l = (l.line.worker ≡ worker) × (length (lines_of l.earlier worker) ≡ length (lines_of earlier worker) + n)

pub placed-place : (earlier lines : List Line) (worker n : ℕ) → IfSome (slice_get (placed_from earlier lines worker) n) (IsPlace earlier worker n)
placed-place earlier [] worker n = tt
placed-place earlier (line ∷ lines) worker n = by (is_of worker line) refl n (placed-place (earlier ++ line ∷ []) lines worker)
  where
    by : (b : Bool) → is_of worker line ≡ b → (n : ℕ) → ((m : ℕ) → IfSome (slice_get (placed_from (earlier ++ line ∷ []) lines worker) m) (IsPlace (earlier ++ line ∷ []) worker m)) →
        IfSome (slice_get (if_own b (record { earlier = earlier; line = line }) (placed_from (earlier ++ line ∷ []) lines worker)) n) (IsPlace earlier worker n)
    by true e zero ih = (eqb-true line.worker worker e, omega arith)
    by true e (suc n) ih = IfSome_then (slice_get (placed_from (earlier ++ line ∷ []) lines worker) n) (ih n) (λ l h. (h.0, omega (arith, h.1, lines_of-more earlier line worker true e)))
    by false e n ih = IfSome_then (slice_get (placed_from (earlier ++ line ∷ []) lines worker) n) (ih n) (λ l h. (h.0, omega (arith, h.1, lines_of-more earlier line worker false e)))

pub lines_of-front : (front back : List Line) (worker : ℕ) → length (lines_of front worker) ≤ length (lines_of (front ++ back) worker)
lines_of-front front back worker = rw (filter-append (is_of worker) front back, length-append (lines_of front worker) (lines_of back worker)) (omega arith)

-- the lines before a line are among all
abbrev pub IsWithin : List Line → ℕ → Placed → Type 0
IsWithin all worker l = length (lines_of l.earlier worker) ≤ length (lines_of all worker)

pub placed-within : (earlier lines : List Line) (worker other n : ℕ) → IfSome (slice_get (placed_from earlier lines worker) n) (IsWithin (earlier ++ lines) other)
placed-within earlier [] worker other n = tt
placed-within earlier (line ∷ lines) worker other n =
    by (is_of worker line) n (rw (append_assoc earlier (line ∷ []) lines) at (placed-within (earlier ++ line ∷ []) lines worker other))
  where
    by : (b : Bool) (n : ℕ) → ((m : ℕ) → IfSome (slice_get (placed_from (earlier ++ line ∷ []) lines worker) m) (IsWithin (earlier ++ line ∷ lines) other)) →
        IfSome (slice_get (if_own b (record { earlier = earlier; line = line }) (placed_from (earlier ++ line ∷ []) lines worker)) n) (IsWithin (earlier ++ line ∷ lines) other)
    by true zero ih = lines_of-front earlier (line ∷ lines) other
    by true (suc n) ih = ih n
    by false n ih = ih n

-- a worker that is finished has begun all its lines
pub through-begun : (lines : List Line) (past : List Entry) (worker : ℕ) → is_through lines past worker ≡ true → length (placed lines worker) ≤ length (begun past worker)
through-begun lines past worker h = by (unfinished past worker) h
  where
    by_place : ((x : Placed) × (length (begun past worker) < length (placed lines worker)) × (next_line lines past worker ≡ Some x) × (get_or (placed lines worker) (length (begun past worker)) x ≡ x))
        ⊎ ((length (placed lines worker) ≤ length (begun past worker)) × (next_line lines past worker ≡ None)) →
        is_none (option_map (begin_line past) (next_line lines past worker)) ≡ true → length (placed lines worker) ≤ length (begun past worker)
    by_place (inl l) h = absurd (false≢true (ap (λ o. is_none (option_map (begin_line past) o)) (sym l.2) ∙ h))
    by_place (inr n) h = n.0

    by : (u : Option Going) → is_none (next_or lines past worker u) ≡ true → length (placed lines worker) ≤ length (begun past worker)
    by (Some g) h = absurd (false≢true h)
    by None h = by_place (slice_get_cases (placed lines worker) (length (begun past worker))).1 h

-- the entry goes on, or begins the worker's next line, whose names are settled
abbrev pub Continues : List Line → List Entry → ℕ → Act → Type 0
Continues lines past worker act.More = Unit
Continues lines past worker (act.Begin c) = (l : Placed) × (next_line lines past worker ≡ Some l) × (c ≡ resolved_in past l) × IsSettled past l

-- the names of the next line are settled: its worker has begun those before it, and so has worker 0
pub next-settled : (lines : List Line) (past : List Entry) (worker : ℕ) → MayGo lines past worker → (l : Placed) → next_line lines past worker ≡ Some l → IsSettled past l
next-settled lines past worker may l e = (subst (HasBegunAll l.earlier past) (sym place.0) own_begun, setup may.setup)
  where
    place : IsPlace [] worker (length (begun past worker)) l
    place = subst (λ o. IfSome o (IsPlace [] worker (length (begun past worker)))) e (placed-place [] lines worker (length (begun past worker)))

    within : IsWithin lines 0 l
    within = subst (λ o. IfSome o (IsWithin lines 0)) e (placed-within [] lines worker 0 (length (begun past worker)))

    own_begun : HasBegunAll l.earlier past worker
    own_begun = omega (arith, place.1)

    setup : (worker ≡ 0) ⊎ (is_through lines past 0 ≡ true) → HasBegunAll l.earlier past 0
    setup (inl z) = subst (HasBegunAll l.earlier past) z own_begun
    setup (inr h) = omega (arith, within, through-begun lines past 0 h, placed-lines [] lines 0)

pub next-continues : (lines : List Line) (past : List Entry) (worker : ℕ) → MayGo lines past worker → (u : Option Going) → GoesOn u →
    IfSome (next_or lines past worker u) (λ g. Continues lines past worker (act_of g.so_far g.call))
next-continues lines past worker may (Some g) h = rw h tt
next-continues lines past worker may None h = by (next_line lines past worker) refl
  where
    by : (l : Option Placed) → next_line lines past worker ≡ l → IfSome (option_map (begin_line past) l) (λ g. Continues lines past worker (act_of g.so_far g.call))
    by None e = tt
    by (Some l) e = (l, e, refl, next-settled lines past worker may l e)

pub turn-continues : (p : Providers) (lines : List Line) (w : World) (past : List Entry) (worker : ℕ) → MayGo lines past worker →
    IfSome (turn p lines w past worker) (λ t. Continues lines past t.entry.worker t.entry.act)
turn-continues p lines w past worker may = next (next_going lines past worker) (next-continues lines past worker may (unfinished past worker) (unfinished-goes_on past worker))
  where
    stepped : (g : Going) → Continues lines past worker (act_of g.so_far g.call) → (s : Option Step) →
        IfSome (option_map (turn_of worker g) s) (λ t. Continues lines past t.entry.worker t.entry.act)
    stepped g h None = tt
    stepped g h (Some s) = h

    next : (g : Option Going) → IfSome g (λ g. Continues lines past worker (act_of g.so_far g.call)) →
        IfSome (option_and_then (turn_going p w worker) g) (λ t. Continues lines past t.entry.worker t.entry.act)
    next None h = tt
    next (Some g) h = stepped g h (step_going p w g)

-- more entries, which begin the next lines
pub followed-grown : (lines : List Line) (past more : List Entry) (worker : ℕ) (next : List Placed) →
    take (length (begun past worker) + length (begun more worker)) (placed lines worker) ≡ take (length (begun past worker)) (placed lines worker) ++ next →
    begun_calls (own more worker) ≡ map (resolved_in past) next → AllByRecursion (IsSettled past) next →
    IsFollowed lines past worker → IsFollowed lines (past ++ more) worker
followed-grown lines past more worker next t c s f = record {
  follows =
      ap begun_calls (own-append past more worker)
      ∙ begun_calls-append (own past worker) (own more worker)
      ∙ (λ i. f.follows i ++ c i)
      ∙ sym (map-append (resolved_in past) (take (length (begun past worker)) (placed lines worker)) next)
      ∙ map-same (resolved_in past) (resolved_in (past ++ more)) (take (length (begun past worker)) (placed lines worker) ++ next)
      (all-then (IsSettled past) (λ l. resolved_in past l ≡ resolved_in (past ++ more) l) (λ l h. sym (resolved-more past more l h)) (take (length (begun past worker)) (placed lines worker) ++ next) settled)
      ∙ ap (map (resolved_in (past ++ more))) (sym taken);
  settled = rw taken (all-then (IsSettled past) (IsSettled (past ++ more)) (settled-more past more) (take (length (begun past worker)) (placed lines worker) ++ next) settled);
}
  where
    settled : AllByRecursion (IsSettled past) (take (length (begun past worker)) (placed lines worker) ++ next)
    settled = all-append (IsSettled past) (take (length (begun past worker)) (placed lines worker)) next f.settled s

    taken : take (length (begun (past ++ more) worker)) (placed lines worker) ≡ take (length (begun past worker)) (placed lines worker) ++ next
    taken = ap (λ n. take n (placed lines worker)) (ap length (begun-append past more worker) ∙ length-append (begun past worker) (begun more worker)) ∙ t

-- entries that begin nothing of the worker's
pub followed-quiet : (lines : List Line) (past more : List Entry) (worker : ℕ) → begun more worker ≡ [] → begun_calls (own more worker) ≡ [] →
    IsFollowed lines past worker → IsFollowed lines (past ++ more) worker
followed-quiet lines past more worker b c f = followed-grown lines past more worker [] (same ∙ sym (append-nil (take (length (begun past worker)) (placed lines worker)))) c tt f
  where
    same : take (length (begun past worker) + length (begun more worker)) (placed lines worker) ≡ take (length (begun past worker)) (placed lines worker)
    same = ap (λ n. take n (placed lines worker)) (ap (λ es. length (begun past worker) + length es) b ∙ omega arith)

pub followed-more : (lines : List Line) (past : List Entry) (e : Entry) (worker : ℕ) → IsFollowed lines past worker → Continues lines past e.worker e.act → IsFollowed lines (past ++ e ∷ []) worker
followed-more lines past e worker f c = by (is_own worker e) refl e.act refl c
  where
    by : (b : Bool) → is_own worker e ≡ b → (a : Act) → e.act ≡ a → Continues lines past e.worker a → IsFollowed lines (past ++ e ∷ []) worker
    by false h a g c = followed-quiet lines past (e ∷ []) worker (simp h refl) (simp h refl) f
    by true h act.More g c = followed-quiet lines past (e ∷ []) worker (simp (h, g) refl) (simp (h, g) refl) f
    by true h (act.Begin call) g c =
        let one : length (begun (e ∷ []) worker) ≡ 1 = simp (h, g) refl in
        let next : next_line lines past worker ≡ Some c.0 = subst (λ n. next_line lines past n ≡ Some c.0) (eqb-true e.worker worker h) c.1 in
        let taken = take-one_more (placed lines worker) (length (begun past worker)) c.0 next in
        followed-grown lines past (e ∷ []) worker (c.0 ∷ []) (ap (λ n. take (length (begun past worker) + n) (placed lines worker)) one ∙ taken) (simp (h, g) (ap (λ k. k ∷ []) c.2)) (c.3, tt) f

pub robin_from-follows : (p : Providers) (lines : List Line) (n : ℕ) (w : World) (past : List Entry) → ((worker : ℕ) → IsFollowed lines past worker) →
    (worker : ℕ) → IsFollowed lines (robin_from p lines n w past) worker
robin_from-follows p lines n w past f = (robin_from-keeps p lines (λ v es. (worker : ℕ) → IsFollowed lines es worker) keeps n w past f).1
  where
    keeps : (w : World) (past : List Entry) → ((worker : ℕ) → IsFollowed lines past worker) → IfSome (next_turn p lines w past) (λ t. (worker : ℕ) → IsFollowed lines (past ++ t.entry ∷ []) worker)
    keeps w past f = next_turn-each p lines w past (λ t. (worker : ℕ) → IsFollowed lines (past ++ t.entry ∷ []) worker)
        (λ worker may. IfSome_then (turn p lines w past worker) (turn-continues p lines w past worker may) (λ t c other. followed-more lines past t.entry other (f other) c))

-- what holds of every number holds of each of a list
pub each-of_all : (P : ℕ → Type 0) → ((n : ℕ) → P n) → (ns : List ℕ) → Each P ns
each-of_all P h [] = tt
each-of_all P h (n ∷ ns) = (h n, each-of_all P h ns)
