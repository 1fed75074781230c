-- A history that follows a script has no more entries than the script has lines and bytes of arguments.
use Rattle.std.specs.Prelude.{ℕ, ◌+◌, ◌<◌, ◌≤◌, nat_lt, Bool, true, false, List, [], ◌∷◌, ◌++◌, length, take, map, Option, Some, None, IfSome, option_and_then, ◌≡◌}
use Rattle.std.specs.List.{sum_by, list_all}
use Rattle.std.proofs.Common.{refl, sym, ap, subst, ◌∙◌, cond, arith}
use Rattle.std.proofs.lemmas.Bool.{and_parts, eq-eqb, eqb-true, ltb-true}
use Rattle.std.proofs.lemmas.Bool.Decides.{nat_tests}
use Rattle.std.proofs.lemmas.List.Sums.{sum_by-cons, sum_by-take-drop}
use Rattle.std.proofs.lemmas.Option.{none-some}
use Rattle.xti_model.specs.declared.call.Call.{Call}
use Rattle.xti_model.specs.declared.entry.Act.{Act}
use Rattle.xti_model.specs.declared.entry.Act.TheVariants as act
use Rattle.xti_model.specs.declared.entry.Go.TheVariants as go
use Rattle.xti_model.specs.declared.entry.Entry.{Entry}
use Rattle.xti_model.specs.declared.script.Line.{Line}
use Rattle.xti_model.specs.declared.profile.Providers.{Providers}
use Rattle.xti_model.specs.World.{World, opening}
use Rattle.xti_model.specs.Step.{Step}
use Rattle.xti_model.specs.History.{Going, is_own, own, call_after, going_after, unfinished, unfinished_from, made_by, doing, step_going, step_at, left_by, Fits, LegalFrom, Legal}
use Rattle.xti_model.specs.Resolve.{Placed, placed, begun, meanings, lines_of}
use Rattle.xti_model.specs.Complete.{begun_calls, resolved_in, Follows, Each, workers, is_worker}
use Rattle.xti_model.specs.Robin.{numbers}
use Rattle.xti_model.specs.Work.{script_bytes}
use Rattle.xti_model.proofs.Outcomes.{left, Falls, step-falls, IsPossible}
use Rattle.xti_model.proofs.Working.{call_from, unfinished_from-snoc, call_of-from, possible-begin, IsPossibleGoing, going_after-falls, own-more, going_work, line_work, placed_work, left-named}
use Rattle.xti_model.proofs.Sums.{sum-at_most, sum-falls, placed-work, lines-all, lines-bytes}
use Rattle.xti_model.proofs.GoingOn.{at-each, own-none}
use Rattle.xti_model.proofs.Unfinished.{possible-one}
use Rattle.xti_laws_texts.proofs.Entries.{made-call}

-- the most steps of a call from its beginning
call_work : Call → ℕ
call_work c = left c go.Begin

-- the most steps of the calls that the entries begin
begun_work : List Entry → ℕ
begun_work es = sum_by (λ c. left c go.Begin) (begun_calls es)

-- the work that an act brings
act_work : Act → ℕ
act_work (act.Begin c) = left c go.Begin
act_work act.More = 0

begun-first : (e : Entry) (es : List Entry) → begun_work (e ∷ es) ≡ act_work e.act + begun_work es
unfolding begun_work act_work
begun-first e es = by e.act refl
  where
    by : (a : Act) → e.act ≡ a → sum_by (λ c. left c go.Begin) (begun_calls (e ∷ es)) ≡ act_work a + sum_by (λ c. left c go.Begin) (begun_calls es)
    by (act.Begin c) i = simp i (sum_by-cons (λ c. left c go.Begin) c (begun_calls es))
    by act.More i = simp i (omega arith)

made-possible : (u : Option Going) (a : Act) (g : Going) → IsPossibleGoing u → made_by u a ≡ Some g → IsPossible g.call g.so_far
made-possible None (act.Begin x) g k e = subst IsPossibleGoing e (possible-begin x)
made-possible (Some u) (act.Begin x) g k e = absurd (none-some g e)
made-possible u act.More g k e = subst IsPossibleGoing e k

-- the step's work is that of the worker's call, or of the one that it begins
made-work : (u : Option Going) (a : Act) (g : Going) → made_by u a ≡ Some g → left g.call g.so_far ≤ going_work u + act_work a
unfolding act_work
made-work None (act.Begin x) g e = (let k : left x go.Begin ≡ left g.call g.so_far = ap going_work e in omega arith)
made-work (Some u) (act.Begin x) g e = absurd (none-some g e)
made-work u act.More g e = (let k : going_work u ≡ left g.call g.so_far = ap going_work e in omega arith)

-- after an entry of its own less is left to a worker
one-less : (p : Providers) (w : World) (past : List Entry) (e : Entry) → Fits (step_at p w past e) e → IsPossibleGoing (unfinished past e.worker)
    → going_work (unfinished (past ++ e ∷ []) e.worker) < going_work (unfinished past e.worker) + act_work e.act
one-less p w past e f k = made (doing past e) refl f
  where
    made : (o : Option Going) → doing past e ≡ o → Fits (option_and_then (step_going p w) o) e → going_work (unfinished (past ++ e ∷ []) e.worker) < going_work (unfinished past e.worker) + act_work e.act
    made None d f = absurd f
    made (Some g) d f = stepped (step_going p w g) (step-falls p w g.call g.so_far (made-possible (unfinished past e.worker) e.act g k d)) f
      where
        call : call_after (call_from None (own past e.worker)) e.act ≡ Some g.call
        call = made-call (unfinished past e.worker) (call_from None (own past e.worker)) e.act g (call_of-from None None (own past e.worker) tt) d

        goes : unfinished (past ++ e ∷ []) e.worker ≡ going_after (Some g.call) e.outcome
        goes = ap (unfinished_from None None) (own-more past e e.worker true (eq-eqb e.worker e.worker refl)) ∙ unfinished_from-snoc None None (own past e.worker) e ∙ ap (λ c. going_after c e.outcome) call

        stepped : (s : Option Step) → IfSome s (λ s. Falls g.call g.so_far s.outcome) → Fits s e → going_work (unfinished (past ++ e ∷ []) e.worker) < going_work (unfinished past e.worker) + act_work e.act
        stepped None h f = absurd f
        stepped (Some s) h f =
            let falls = going_after-falls g.call g.so_far e.outcome (subst (Falls g.call g.so_far) (sym f.0) h) in
            omega (arith, ap going_work goes, falls.0, made-work (unfinished past e.worker) e.act g d)

-- a worker has no more entries than its calls have steps
own-few : (p : Providers) (w : World) (past es : List Entry) (worker : ℕ) → LegalFrom p w past es → ((n : ℕ) → IsPossibleGoing (unfinished past n))
    → length (own es worker) ≤ going_work (unfinished past worker) + begun_work (own es worker)
own-few p w past [] worker l k = omega arith
own-few p w past (e ∷ es) worker l k = by (is_own worker e) refl (own-few p (left_by w (step_at p w past e)) (past ++ e ∷ []) es worker l.1 (possible-one p w past e l.0 k))
  where
    by : (b : Bool) → is_own worker e ≡ b → length (own es worker) ≤ going_work (unfinished (past ++ e ∷ []) worker) + begun_work (own es worker)
        → length (cond b (e ∷ own es worker) (own es worker)) ≤ going_work (unfinished past worker) + begun_work (cond b (e ∷ own es worker) (own es worker))
    by true i h =
        let same : e.worker ≡ worker = eqb-true e.worker worker i in
        let less : going_work (unfinished (past ++ e ∷ []) worker) < going_work (unfinished past worker) + act_work e.act =
        subst (λ n. going_work (unfinished (past ++ e ∷ []) n) < going_work (unfinished past n) + act_work e.act) same (one-less p w past e l.0 (k e.worker)) in
        omega (arith, h, less, begun-first e (own es worker))
    by false i h =
        let same : unfinished (past ++ e ∷ []) worker ≡ unfinished past worker = ap (unfinished_from None None) (own-more past e worker false i) in
        omega (arith, h, ap going_work same)

-- the calls of lines have no more steps than the lines have work
lines-few : (es : List Entry) (ls : List Placed) → sum_by (λ c. left c go.Begin) (map (resolved_in es) ls) ≤ sum_by placed_work ls
lines-few es [] = omega arith
lines-few es (l ∷ ls) =
    omega (arith, sum_by-cons (λ c. left c go.Begin) (resolved_in es l) (map (resolved_in es) ls), sum_by-cons placed_work l ls, left-named (meanings l.earlier l.line.worker es) l.line.call, lines-few es ls)

-- a worker's entries are no more than its lines have work
worker-few : (p : Providers) (lines : List Line) (es : List Entry) (worker : ℕ) → Legal p es → Follows es lines worker → length (own es worker) ≤ sum_by line_work (lines_of lines worker)
unfolding begun_work
worker-few p lines es worker l f =
    let n : ℕ = length (begun es worker) in
    let few : length (own es worker) ≤ 0 + sum_by (λ c. left c go.Begin) (begun_calls (own es worker)) = own-few p (opening p) [] es worker l (λ n. tt) in
    let same : sum_by (λ c. left c go.Begin) (begun_calls (own es worker)) ≡ sum_by (λ c. left c go.Begin) (map (resolved_in es) (take n (placed lines worker))) = ap (sum_by (λ c. left c go.Begin)) f in
    omega (arith, few, same, lines-few es (take n (placed lines worker)), sum_by-take-drop placed_work (placed lines worker) n, placed-work [] lines worker)

-- all entries are those of the workers together
entries-split : (es : List Entry) → list_all is_worker es ≡ true → length es ≤ sum_by (λ worker. length (own es worker)) (numbers 0 33)
entries-split [] h = omega arith
entries-split (e ∷ es) h =
    let parts = and_parts (is_worker e) (list_all is_worker es) h in
    let small : e.worker < 33 = ltb-true e.worker 33 parts.0 in
    let rises : sum_by (λ worker. length (own es worker)) (numbers 0 33) < sum_by (λ worker. length (own (e ∷ es) worker)) (numbers 0 33) =
    sum-falls (λ worker. length (own es worker)) (λ worker. length (own (e ∷ es) worker)) (λ n. most (is_own n e) n) e.worker (least (is_own e.worker e) (eq-eqb e.worker e.worker refl)) 0 33 (omega arith) (omega (arith, small)) in
    omega (arith, entries-split es parts.1, rises)
  where
    most : (b : Bool) (n : ℕ) → length (own es n) ≤ length (cond b (e ∷ own es n) (own es n))
    most true n = omega arith
    most false n = omega arith

    least : (b : Bool) → b ≡ true → length (own es e.worker) < length (cond b (e ∷ own es e.worker) (own es e.worker))
    least true i = omega arith
    least false i = absurd cc

pub few-entries : (p : Providers) (lines : List Line) (es : List Entry) → Legal p es → list_all is_worker es ≡ true → Each (Follows es lines) workers → length es ≤ length lines + script_bytes lines
few-entries p lines es l h f =
    omega (arith, entries-split es h, sum-at_most (λ worker. length (own es worker)) (λ worker. sum_by line_work (lines_of lines worker)) of_worker (numbers 0 33), lines-all lines 0 33, lines-bytes lines 0)
  where
    of_worker : (worker : ℕ) → length (own es worker) ≤ sum_by line_work (lines_of lines worker)
    of_worker worker = by (nat_lt worker 33) refl
      where
        by : (b : Bool) → nat_lt worker 33 ≡ b → length (own es worker) ≤ sum_by line_work (lines_of lines worker)
        by true i = (let u : worker < 33 = grind (arith, nat_tests) in worker-few p lines es worker l (at-each (Follows es lines) 0 33 f worker (omega arith) (omega (arith, u))))
        by false i = (let u : 33 ≤ worker = grind (arith, nat_tests) in let none = own-none es worker u h in omega (arith, ap length none))
