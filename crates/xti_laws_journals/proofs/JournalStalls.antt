-- The stall lines of a run are those of a journal, and they are right where nobody can go on.
use Rattle.std.proofs.Common.{◌≡◌, ℕ, zero, suc, ◌+◌, ◌≤◌, ◌<◌, Bool, true, false, cond, List, [], ◌∷◌, ◌++◌, Option, Some, None, refl, sym, subst, arith, ◌||◌}
use Rattle.std.specs.Prelude.{option_map, is_none, IsTrue, IfSome}
use Rattle.std.specs.List.{list_all, flat_map}
use Rattle.std.proofs.lemmas.Bool.{and_parts, false≢true}
use Rattle.std.proofs.lemmas.Option.{none-some}
use Rattle.xti_model.specs.declared.entry.Act.TheVariants.{Begin, More}
use Rattle.xti_model.specs.declared.entry.Entry.{Entry}
use Rattle.xti_model.specs.declared.profile.Providers.{Providers}
use Rattle.xti_model.specs.declared.script.Line.{Line}
use Rattle.xti_model.specs.declared.profile.Version.{Version}
use Rattle.xti_model.specs.declared.script.StallLine.{StallLine}
use Rattle.xti_model.specs.Complete.{Complete, resolved_in, workers, is_stuck, is_stuck_by, is_setup, is_setup_stuck, is_rest_done, setup_first}
use Rattle.xti_model.specs.History.{Going, unfinished, made_by, step_going, after}
use Rattle.xti_model.specs.Resolve.{Placed}
use Rattle.xti_model.specs.Robin.{act_of, begin_line, next_line, next_or, next_going, is_through, numbers}
use Rattle.xti_model.specs.Step.{Step}
use Rattle.xti_model.proofs.Legality.{GoesOn, unfinished-goes_on, next-doing}
use Rattle.xti_verbs.specs.Verbs.{verb_of}
use Rattle.xti_journal.specs.Grammar.{last_verb, IsAct, IsStall, AreStalls, AreStallsAfter}
use Rattle.xti_replay.specs.Stalls.{stall_of, stall_at, stalls_after}
use Rattle.xti_check.specs.Verdicts.{IsBlockedAt, IsRightStall, AreRightStalls}
use Rattle.xti_laws_journals.proofs.ValuedScripts.{IsWritable}
use Rattle.xti_laws_journals.proofs.JournalEntries.{going-verb, is-act}

-- ---- in the form of journals

module _ (version : Version) (lines : List Line) (es : List Entry) (writable : (worker : ℕ) (l : Placed) → next_line lines es worker ≡ Some l → IsWritable version (resolved_in es l)) where
  -- the next step of a worker, as a stall line shows it
  shown : (worker : ℕ) (g : Going) → worker ≤ 32 → next_going lines es worker ≡ Some g → IsStall version es (record { worker = worker; act = act_of g.so_far g.call })
  shown worker g small n = record { worker = small; act = by (unfinished es worker) refl (unfinished-goes_on es worker) n }
    where
      begins : (l : Option Placed) → next_line lines es worker ≡ l → option_map (begin_line es) l ≡ Some g → IsAct version (last_verb es worker) (act_of g.so_far g.call)
      begins None i e = absurd (none-some g e)
      begins (Some l) i e =
          let same : begin_line es l ≡ g = cc in
          subst (λ (x : Going). IsAct version (last_verb es worker) (act_of x.so_far x.call)) same (is-act version (last_verb es worker) (Begin (resolved_in es l)) (verb_of (resolved_in es l)) (writable worker l i) (λ m. absurd cc))

      by : (u : Option Going) → unfinished es worker ≡ u → GoesOn u → next_or lines es worker u ≡ Some g → IsAct version (last_verb es worker) (act_of g.so_far g.call)
      by None i m e = begins (next_line lines es worker) refl e
      by (Some x) i m e =
          let same : x ≡ g = cc in
          subst (λ (y : Going). IsAct version (last_verb es worker) (act_of y.so_far y.call)) same (subst (IsAct version (last_verb es worker)) (sym m) (is-act version (last_verb es worker) More (verb_of x.call) tt (λ k. going-verb es worker x i)))

  -- after a stall line of a lower worker
  stalls-behind : (before : StallLine) (from n : ℕ) → 0 < before.worker → before.worker < from → from + n ≤ 33 → AreStallsAfter version es before (flat_map (stall_at lines es) (numbers from n))
  stalls-behind before from zero a b c = tt
  stalls-behind before from (suc n) a b c = by (next_going lines es from) refl (λ x i j. stalls-behind x (from + 1) n i j (omega (arith, c)))
    where
      by : (o : Option Going) → next_going lines es from ≡ o → ((x : StallLine) → 0 < x.worker → x.worker < from + 1 → AreStallsAfter version es x (flat_map (stall_at lines es) (numbers (from + 1) n)))
          → AreStallsAfter version es before (stall_of from o ++ flat_map (stall_at lines es) (numbers (from + 1) n))
      by None i later = later before a (omega (arith, b))
      by (Some g) i later = ((a, b), shown from g (omega (arith, c)) i, later (record { worker = from; act = act_of g.so_far g.call }) (omega (arith, a, b)) (omega arith))

  stalls-from : (from n : ℕ) → 0 < from → from + n ≤ 33 → AreStalls version es (flat_map (stall_at lines es) (numbers from n))
  stalls-from from zero a c = tt
  stalls-from from (suc n) a c = by (next_going lines es from) refl (stalls-from (from + 1) n (omega arith) (omega (arith, c)))
    where
      by : (o : Option Going) → next_going lines es from ≡ o → AreStalls version es (flat_map (stall_at lines es) (numbers (from + 1) n)) → AreStalls version es (stall_of from o ++ flat_map (stall_at lines es) (numbers (from + 1) n))
      by None i later = later
      by (Some g) i later = (shown from g (omega (arith, c)) i, stalls-behind (record { worker = from; act = act_of g.so_far g.call }) (from + 1) n a (omega arith) (omega (arith, c)))

  pub stalls-are : AreStalls version es (stalls_after lines es)
  unfolding stalls_after
  stalls-are = by (next_going lines es 0) refl
    where
      by : (o : Option Going) → next_going lines es 0 ≡ o → AreStalls version es (cond (is_none o) (stall_of 0 o ++ flat_map (stall_at lines es) (numbers 1 32)) (stall_of 0 o))
      by None i = stalls-from 1 32 (omega arith) (omega arith)
      by (Some g) i = (shown 0 g (omega arith) i, tt)

-- ---- right

module _ (p : Providers) (lines : List Line) (es : List Entry) where
  -- the step of a worker that is stuck is blocked
  right : (worker : ℕ) (g : Going) → next_going lines es worker ≡ Some g → is_stuck p es lines worker ≡ true → IsRightStall p es (record { worker = worker; act = act_of g.so_far g.call })
  right worker g n s = subst (IsBlockedAt p (after p es)) (sym (subst (λ o. IfSome o (λ g. made_by (unfinished es worker) (act_of g.so_far g.call) ≡ Some g)) n (next-doing lines es worker (unfinished es worker) (unfinished-goes_on es worker)))) (blocked (step_going p (after p es) g) (stuck n s))
    where
      stuck : next_going lines es worker ≡ Some g → is_stuck p es lines worker ≡ true → is_none (step_going p (after p es) g) ≡ true
      stuck i j = subst (λ (o : Option Going). elim o as (λ _. Bool) [ None ↦ false | Some x ↦ is_none (step_going p (after p es) x) ] ≡ true) i (same (next_going lines es worker) j)
        where
          same : (o : Option Going) → is_stuck_by p (after p es) o ≡ true → elim o as (λ _. Bool) [ None ↦ false | Some x ↦ is_none (step_going p (after p es) x) ] ≡ true
          same None k = k
          same (Some x) k = k

      blocked : (o : Option Step) → is_none o ≡ true → o ≡ None
      blocked None k = refl
      blocked (Some s) k = absurd (false≢true k)

  both-right : (xs ys : List StallLine) → AreRightStalls p es xs → AreRightStalls p es ys → AreRightStalls p es (xs ++ ys)
  both-right [] ys a b = b
  both-right (x ∷ xs) ys a b = (a.0, both-right xs ys a.1 b)

  one-right : (worker : ℕ) → (is_through lines es worker || is_stuck p es lines worker) ≡ true → AreRightStalls p es (stall_at lines es worker)
  one-right worker h = by (next_going lines es worker) refl h
    where
      by : (o : Option Going) → next_going lines es worker ≡ o → (is_none o || is_stuck p es lines worker) ≡ true → AreRightStalls p es (stall_of worker o)
      by None i k = tt
      by (Some g) i k = (right worker g i k, tt)

  each-right : (ns : List ℕ) → list_all (λ worker. is_through lines es worker || is_stuck p es lines worker) ns ≡ true → AreRightStalls p es (flat_map (stall_at lines es) ns)
  each-right [] h = tt
  each-right (n ∷ ns) h =
      let parts = and_parts (is_through lines es n || is_stuck p es lines n) (list_all (λ worker. is_through lines es worker || is_stuck p es lines worker) ns) h in
      both-right (stall_at lines es n) (flat_map (stall_at lines es) ns) (one-right n parts.0) (each-right ns parts.1)

  pub stalls-right : Complete p es lines → AreRightStalls p es (stalls_after lines es)
  unfolding stalls_after
  stalls-right c = by (is_through lines es 0) refl c.ends
    where
      either : (b : Bool) → is_stuck p es lines 0 ≡ true → (b || is_stuck p es lines 0) ≡ true
      either true h = refl
      either false h = h

      by : (b : Bool) → is_through lines es 0 ≡ b → IsTrue (cond b (is_rest_done p es lines) (is_setup_stuck p es lines)) → AreRightStalls p es (cond b (flat_map (stall_at lines es) workers) (stall_at lines es 0))
      by true i k = each-right workers (and_parts (setup_first es) (list_all (λ worker. is_through lines es worker || is_stuck p es lines worker) workers) k).1
      by false i k = one-right 0 (either (is_through lines es 0) (and_parts (is_stuck p es lines 0) (list_all is_setup es) k).0)
