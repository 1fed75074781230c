-- The work that is left of a script falls with each turn: a line and each byte of its arguments stand for a step.
use Rattle.std.specs.Prelude.{ℕ, ◌+◌, ◌<◌, ◌≤◌, Bool, true, false, List, [], ◌∷◌, ◌++◌, length, drop, Option, Some, None, IfSome, option_map, option_and_then, ◌≡◌, if◌then◌else◌}
use Rattle.std.specs.List.{sum_by}
use Rattle.std.proofs.Common.{refl, sym, ap, ◌∙◌, arith, length-append}
use Rattle.std.proofs.lemmas.Bool.{eq-eqb}
use Rattle.std.proofs.lemmas.List.{append-nil}
use Rattle.std.proofs.lemmas.List.Sums.{sum_by-drop_more}
use Rattle.std.proofs.lemmas.Option.{slice_get_within, get_or_from_slice_get}
use Rattle.xti_model.specs.declared.call.Call.{Call}
use Rattle.xti_model.specs.declared.call.Call.TheVariants as call
use Rattle.xti_model.specs.declared.script.NamedCall.{NamedCall}
use Rattle.xti_model.specs.declared.script.NamedCall.TheVariants as named
use Rattle.xti_model.specs.declared.script.Line.{Line}
use Rattle.xti_model.specs.declared.entry.Act.TheVariants as act
use Rattle.xti_model.specs.declared.entry.Go.{Go}
use Rattle.xti_model.specs.declared.entry.Go.TheVariants as go
use Rattle.xti_model.specs.declared.entry.Outcome.{Outcome}
use Rattle.xti_model.specs.declared.entry.Outcome.TheVariants.{Done, Part}
use Rattle.xti_model.specs.declared.entry.Entry.{Entry}
use Rattle.xti_model.specs.declared.profile.Providers.{Providers}
use Rattle.xti_model.specs.World.{World}
use Rattle.xti_model.specs.Step.{Step}
use Rattle.xti_model.specs.History.{Going, is_own, own, call_after, going_after, unfinished, unfinished_from, step_going}
use Rattle.xti_model.specs.Resolve.{Placed, placed, is_begin, begun, Meanings, meanings, with_numbers, resolved}
use Rattle.xti_model.specs.Robin.{begin_line, next_line, next_or, next_going, act_of, Turn, turn_of, turn_going, turn}
use Rattle.xti_model.specs.Work.{argument_bytes}
use Rattle.xti_model.proofs.Appending.{own-append, begun-append}
use Rattle.xti_model.proofs.Legality.{GoesOn, unfinished-goes_on}
use Rattle.xti_model.proofs.Outcomes.{left, left-positive, IsPossible, Falls, step-falls}

-- the last call that the entries began
abbrev pub call_from : Option Call → List Entry → Option Call
call_from c [] = c
call_from c (e ∷ es) = call_from (call_after c e.act) es

pub unfinished_from-snoc : (c : Option Call) (going : Option Going) (es : List Entry) (e : Entry) →
    unfinished_from c going (es ++ e ∷ []) ≡ going_after (call_after (call_from c es) e.act) e.outcome
unfinished_from-snoc c going [] e = refl
unfinished_from-snoc c going (x ∷ es) e = unfinished_from-snoc (call_after c x.act) (going_after (call_after c x.act) x.outcome) es e

-- the call that goes on is the last that was begun
abbrev pub IsCallOf : Option Call → Option Going → Type 0
IsCallOf c None = Unit
IsCallOf c (Some g) = c ≡ Some g.call

pub call_of-after : (c : Option Call) (o : Outcome) → IsCallOf c (going_after c o)
call_of-after None o = tt
call_of-after (Some c) (Done reply) = tt
call_of-after (Some c) (Part n) = refl

pub call_of-from : (c : Option Call) (going : Option Going) (es : List Entry) → IsCallOf c going → IsCallOf (call_from c es) (unfinished_from c going es)
call_of-from c going [] h = h
call_of-from c going (e ∷ es) h = call_of-from (call_after c e.act) (going_after (call_after c e.act) e.outcome) es (call_of-after (call_after c e.act) e.outcome)

-- the work of a line, and that of a call that goes on
abbrev pub line_work : Line → ℕ
line_work line = 1 + argument_bytes line.call

abbrev pub placed_work : Placed → ℕ
placed_work l = line_work l.line

abbrev pub going_work : Option Going → ℕ
going_work None = 0
going_work (Some g) = left g.call g.so_far

-- what is left to a worker: its unfinished call, and the lines that it has not begun
abbrev pub lines_left : List Line → List Entry → ℕ → ℕ
lines_left lines past worker = sum_by placed_work (drop (length (begun past worker)) (placed lines worker))

abbrev pub worker_work : List Line → List Entry → ℕ → ℕ
worker_work lines past worker = lines_left lines past worker + going_work (unfinished past worker)

pub left-named : (m : Meanings) (c : NamedCall) → left (with_numbers m c) go.Begin ≤ 1 + argument_bytes c
left-named m (named.TConnect fd addr opt udata amax omax umax) = omega arith
left-named m (named.TSnd fd bytes flags) = omega arith
left-named m (named.TSndV fd parts flags) = omega arith
left-named m other = omega arith

pub possible-begin : (c : Call) → IsPossible c go.Begin
possible-begin (call.TSnd fd bytes flags) = tt
possible-begin (call.TSndV fd parts flags) = tt
possible-begin other = tt

-- what a turn of the worker does: it goes on with a call, and the lines left and the call are at most the work before
pub record IsNext (lines : List Line) (past : List Entry) (worker : ℕ) (g : Going) : Type 0 where
  pub call : call_after (call_from None (own past worker)) (act_of g.so_far g.call) ≡ Some g.call
  pub possible : IsPossible g.call g.so_far
  pub work : (e : Entry) → is_own worker e ≡ true → e.act ≡ act_of g.so_far g.call → lines_left lines (past ++ e ∷ []) worker + left g.call g.so_far ≤ worker_work lines past worker

abbrev pub IsPossibleGoing : Option Going → Type 0
IsPossibleGoing g = IfSome g (λ g. IsPossible g.call g.so_far)

pub begun-own : (past : List Entry) (e : Entry) (worker : ℕ) (b : Bool) → is_own worker e ≡ true → is_begin e.act ≡ b →
    length (begun (past ++ e ∷ []) worker) ≡ length (begun past worker) + (if b then 1 else 0)
begun-own past e worker b h a = ap length (begun-append past (e ∷ []) worker) ∙ length-append (begun past worker) (begun (e ∷ []) worker) ∙ ap (λ n. length (begun past worker) + n) (alone b a)
  where
    alone : (b : Bool) → is_begin e.act ≡ b → length (begun (e ∷ []) worker) ≡ (if b then 1 else 0)
    alone true a = simp (h, a) refl
    alone false a = simp (h, a) refl

pub lines_left-goes_on : (lines : List Line) (past : List Entry) (e : Entry) (worker : ℕ) → is_own worker e ≡ true → e.act ≡ act.More →
    lines_left lines (past ++ e ∷ []) worker ≡ lines_left lines past worker
lines_left-goes_on lines past e worker h a =
    ap (λ n. sum_by placed_work (drop n (placed lines worker))) (begun-own past e worker false h (ap is_begin a) ∙ omega arith)

pub lines_left-begins : (lines : List Line) (past : List Entry) (e : Entry) (worker : ℕ) (l : Placed) → is_own worker e ≡ true → is_begin e.act ≡ true → next_line lines past worker ≡ Some l →
    placed_work l + lines_left lines (past ++ e ∷ []) worker ≡ lines_left lines past worker
lines_left-begins lines past e worker l h a n =
    let here = get_or_from_slice_get (placed lines worker) (length (begun past worker)) l l n in
    let on = begun-own past e worker true h a in
    (λ i. placed_work (sym here i) + sum_by placed_work (drop (on i) (placed lines worker)))
    ∙ sym (sum_by-drop_more placed_work (placed lines worker) (length (begun past worker)) l (slice_get_within (placed lines worker) (length (begun past worker)) l n))

pub next-is : (lines : List Line) (past : List Entry) (worker : ℕ) → IsPossibleGoing (unfinished past worker) →
    IfSome (next_going lines past worker) (IsNext lines past worker)
next-is lines past worker k = by (unfinished past worker) refl (unfinished-goes_on past worker) (call_of-from None None (own past worker) tt) k
  where
    begins : (l : Option Placed) → next_line lines past worker ≡ l → IfSome (option_map (begin_line past) l) (IsNext lines past worker)
    begins None n = tt
    begins (Some l) n = record {
      call = refl;
      possible = possible-begin (resolved l.earlier l.line past);
      work = λ e h a. omega (arith, lines_left-begins lines past e worker l h (ap is_begin a) n, left-named (meanings l.earlier l.line.worker past) l.line.call);
    }

    by : (u : Option Going) → unfinished past worker ≡ u → GoesOn u → IsCallOf (call_from None (own past worker)) u → IsPossibleGoing u → IfSome (next_or lines past worker u) (IsNext lines past worker)
    by None u m c k = begins (next_line lines past worker) refl
    by (Some g) u m c k = record {
      call = rw m c;
      possible = k;
      work = λ e h a. omega (arith, lines_left-goes_on lines past e worker h (a ∙ m), ap going_work u);
    }

-- the call's work after a step, which is possible again
pub going_after-falls : (c : Call) (g : Go) (o : Outcome) → Falls c g o → (going_work (going_after (Some c) o) < left c g) × IsPossibleGoing (going_after (Some c) o)
going_after-falls c g (Done reply) h = (left-positive c g, tt)
going_after-falls c g (Part n) h = (h.1, h.0)

pub own-more : (past : List Entry) (e : Entry) (worker : ℕ) (b : Bool) → is_own worker e ≡ b → own (past ++ e ∷ []) worker ≡ (if b then own past worker ++ e ∷ [] else own past worker)
own-more past e worker b h = own-append past (e ∷ []) worker ∙ alone b h
  where
    alone : (b : Bool) → is_own worker e ≡ b → own past worker ++ own (e ∷ []) worker ≡ (if b then own past worker ++ e ∷ [] else own past worker)
    alone true h = simp h refl
    alone false h = simp h (append-nil (own past worker))

-- a turn of the worker leaves less to it
abbrev pub Lessens : List Line → List Entry → ℕ → Turn → Type 0
Lessens lines past worker t = (t.entry.worker ≡ worker) × (worker_work lines (past ++ t.entry ∷ []) worker < worker_work lines past worker) × IsPossibleGoing (unfinished (past ++ t.entry ∷ []) worker)

pub turn-lessens : (p : Providers) (lines : List Line) (w : World) (past : List Entry) (worker : ℕ) → IsPossibleGoing (unfinished past worker) →
    IfSome (turn p lines w past worker) (Lessens lines past worker)
turn-lessens p lines w past worker k = next (next_going lines past worker) (next-is lines past worker k)
  where
    lessens : (g : Going) → IsNext lines past worker g → (s : Step) → Falls g.call g.so_far s.outcome → Lessens lines past worker (turn_of worker g s)
    lessens g n s f =
        let e = (turn_of worker g s).entry in
        let own_entry : is_own worker e ≡ true = eq-eqb worker worker refl in
        let goes : unfinished (past ++ e ∷ []) worker ≡ going_after (Some g.call) s.outcome =
        ap (unfinished_from None None) (own-more past e worker true own_entry) ∙ unfinished_from-snoc None None (own past worker) e ∙ ap (λ c. going_after c s.outcome) n.call in
        let falls = going_after-falls g.call g.so_far s.outcome f in
        (refl, omega (arith, n.work e own_entry refl, ap going_work goes, falls.0), rw goes falls.1)

    stepped : (g : Going) → IsNext lines past worker g → (s : Option Step) → IfSome s (λ s. Falls g.call g.so_far s.outcome) → IfSome (option_map (turn_of worker g) s) (Lessens lines past worker)
    stepped g n None f = tt
    stepped g n (Some s) f = lessens g n s f

    next : (g : Option Going) → IfSome g (IsNext lines past worker) → IfSome (option_and_then (turn_going p w worker) g) (Lessens lines past worker)
    next None n = tt
    next (Some g) n = stepped g n (step_going p w g) (step-falls p w g.call g.so_far n.possible)
