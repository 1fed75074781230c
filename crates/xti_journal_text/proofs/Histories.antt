-- One entry more in a history, and in what is kept of it.
use Rattle.std.proofs.Common.{◌≡◌, ℕ, ◌+◌, ◌<◌, ◌≤◌, Bool, true, false, eqb, List, [], ◌∷◌, ◌++◌, length, get_or, set, Option, Some, None, refl, sym, ap, subst, ◌∙◌, append_assoc, arith}
use Rattle.std.specs.Prelude.{◌-◌, ◌^◌, cond, replicate, option_map, sum_by, codes}
use Rattle.std.proofs.lemmas.Bool.{eqb-true, eq-eqb}
use Rattle.std.proofs.lemmas.Grind.{get_or-set_at}
use Rattle.std.proofs.lemmas.List.{append-nil, get_or-set_other, length-set, length_push}
use Rattle.std.proofs.lemmas.List.Sums.{sum_by-append, sum_by_push}
use Rattle.std.proofs.lemmas.Simd.{get_or-replicate}
use Rattle.xti_base.specs.declared.limits.TheConstants.{WORKERS, LAST_WORKER}
use Rattle.xti_model.specs.declared.call.Call.{Call}
use Rattle.xti_model.specs.declared.entry.Entry.{Entry}
use Rattle.xti_model.specs.declared.entry.Outcome.{Outcome}
use Rattle.xti_model.specs.declared.script.Journal.{Journal}
use Rattle.xti_model.specs.declared.script.StallLine.{StallLine}
use Rattle.xti_model.specs.History.{Going, own, unfinished, unfinished_from, call_after, going_after, doing}
use Rattle.xti_model.specs.Streams.{Made, made_of, add, made_from}
use Rattle.xti_model.proofs.Working.{own-more}
use Rattle.xti_words.specs.WrittenWords.{number_word}
use Rattle.xti_journal_text.proofs.Parts.{capped-add, capped-both}
use Rattle.xti_journal_text.specs.declared.totals.Totals.{Totals}
use Rattle.xti_journal_text.specs.declared.worker.Worker.{Worker}
use Rattle.xti_journal_text.specs.declared.counting.Summary.{Summary}
use Rattle.xti_journal_text.specs.Summaries.{is_ok, is_err, is_part, sent_by_step, got_by, sent_in, got_in, how_many, summary_text}
use Rattle.xti_journal_text.specs.Counting.{capped, CountsEntry, AreTotals, IsExact, totals_text, Keeps, sent_going, Sends, Steps, call_from, last_call, Counts}

-- ---- the last call of a worker

call_from-snoc : (c : Option Call) (es : List Entry) (e : Entry) → call_from c (es ++ e ∷ []) ≡ call_after (call_from c es) e.act
call_from-snoc c [] e = refl
call_from-snoc c (x ∷ es) e = call_from-snoc (call_after c x.act) es e

left-snoc : (c : Option Call) (going : Option Going) (es : List Entry) (e : Entry) → unfinished_from c going (es ++ e ∷ []) ≡ going_after (call_after (call_from c es) e.act) e.outcome
left-snoc c going [] e = refl
left-snoc c going (x ∷ es) e = left-snoc (call_after c x.act) (going_after (call_after c x.act) x.outcome) es e

own-same : (past : List Entry) (e : Entry) (worker : ℕ) → eqb e.worker worker ≡ true → own (past ++ e ∷ []) worker ≡ own past worker ++ e ∷ []
own-same past e worker s = own-more past e worker true s

own-other : (past : List Entry) (e : Entry) (worker : ℕ) → eqb e.worker worker ≡ false → own (past ++ e ∷ []) worker ≡ own past worker
own-other past e worker s = own-more past e worker false s

-- ---- what was sent

add-append : (m : Option Made) (a b : List Made) → add m (a ++ b) ≡ add m a ++ b
add-append None a b = refl
add-append (Some m) a b = refl

made-snoc : (past es : List Entry) (e : Entry) → made_from past (es ++ e ∷ []) ≡ made_from past es ++ add (option_map (made_of e) (doing (past ++ es) e)) []
made-snoc past [] e = ap (λ (before : List Entry). add (option_map (made_of e) (doing before e)) []) (sym (append-nil past))
made-snoc past (x ∷ es) e =
    ap (add (option_map (made_of x) (doing past x))) (made-snoc (past ++ x ∷ []) es e)
    ∙ add-append (option_map (made_of x) (doing past x)) (made_from (past ++ x ∷ []) es) (add (option_map (made_of e) (doing ((past ++ x ∷ []) ++ es) e)) [])
    ∙ ap (λ (before : List Entry). made_from past (x ∷ es) ++ add (option_map (made_of e) (doing before e)) []) (append_assoc past (x ∷ []) es)

sent-one : (g : Option Going) (e : Entry) → sum_by sent_by_step (add (option_map (made_of e) g) []) ≡ sent_going g e.outcome
sent-one None e = refl
sent-one (Some g) e = omega arith

sent-more : (past : List Entry) (e : Entry) → sent_in (past ++ e ∷ []) ≡ sent_in past + sent_going (doing past e) e.outcome
sent-more past e =
    ap (sum_by sent_by_step) (made-snoc [] past e)
    ∙ sum_by-append sent_by_step (made_from [] past) (add (option_map (made_of e) (doing past e)) [])
    ∙ ap (λ (n : ℕ). sent_in past + n) (sent-one (doing past e) e)

-- ---- numbers

-- a number to which this was added
added : (new old k n total : ℕ) → new ≡ capped (old + k) → old ≡ capped n → total ≡ n + k → new ≡ capped total
added new old k n total h o t = h ∙ ap (λ (x : ℕ). capped (x + k)) o ∙ capped-add (2 ^ 64 - 1) n k ∙ ap capped (sym t)

many-more : (ended : Outcome → Bool) (past : List Entry) (e : Entry) → how_many ended (past ++ e ∷ []) ≡ how_many ended past + cond (ended e.outcome) 1 0
many-more ended past e = sum_by_push (λ (x : Entry). cond (ended x.outcome) 1 0) past e

pub totals_more : (past : List Entry) (e : Entry) (bytes : ℕ) (old new : Totals) → AreTotals past old → CountsEntry e.outcome bytes old new → bytes ≡ capped (sent_going (doing past e) e.outcome) → AreTotals (past ++ e ∷ []) new
totals_more past e bytes old new t h b = record {
  entries = added new.entries old.entries 1 (length past) (length (past ++ e ∷ [])) h.entries t.entries (length_push past e);
  ok = added new.ok old.ok (cond (is_ok e.outcome) 1 0) (how_many is_ok past) (how_many is_ok (past ++ e ∷ [])) h.ok t.ok (many-more is_ok past e);
  err = added new.err old.err (cond (is_err e.outcome) 1 0) (how_many is_err past) (how_many is_err (past ++ e ∷ [])) h.err t.err (many-more is_err past e);
  part = added new.part old.part (cond (is_part e.outcome) 1 0) (how_many is_part past) (how_many is_part (past ++ e ∷ [])) h.part t.part (many-more is_part past e);
  sent = h.sent ∙ ap (λ (x : ℕ). capped (x + bytes)) t.sent ∙ ap (λ (x : ℕ). capped (capped (sent_in past) + x)) b
      ∙ capped-both (2 ^ 64 - 1) (sent_in past) (sent_going (doing past e) e.outcome) ∙ ap capped (sym (sent-more past e));
  got = added new.got old.got (got_by e.outcome) (got_in past) (got_in (past ++ e ∷ [])) h.got t.got (sum_by_push (λ (x : Entry). got_by x.outcome) past e);
}

-- ---- summaries

pub counts_none : (t : Totals) (w : Worker) → AreTotals [] t → Keeps None None w → Counts [] (record { totals = t; workers = replicate 33 w })
counts_none t w totals k = record { totals = totals; many = refl; each = λ worker d h. subst (Keeps None None) (sym (get_or-replicate 33 worker w d h)) k }

other_worker : (a b : ℕ) → eqb a b ≡ false → b ≡ a → ⊥
other_worker a b e s = let t : eqb a b ≡ true = eq-eqb a b (sym s) in let c : true ≡ false = sym t ∙ e in cc

workers_more : (past : List Entry) (e : Entry) (workers : List Worker) (new : Worker) → length workers ≡ WORKERS → e.worker < WORKERS
    → ((worker : ℕ) (w : Worker) → worker < WORKERS → Keeps (last_call past worker) (unfinished past worker) (get_or workers worker w))
    → Keeps (call_after (last_call past e.worker) e.act) (going_after (call_after (last_call past e.worker) e.act) e.outcome) new
    → (worker : ℕ) (w : Worker) → worker < WORKERS → Keeps (last_call (past ++ e ∷ []) worker) (unfinished (past ++ e ∷ []) worker) (get_or (set workers e.worker new) worker w)
workers_more past e workers new many small each k worker w h = at (eqb e.worker worker) refl
  where
    kept : (es : List Entry) (x : Worker) → Keeps (call_from None es) (unfinished_from None None es) x → own (past ++ e ∷ []) worker ≡ es → get_or (set workers e.worker new) worker w ≡ x
        → Keeps (last_call (past ++ e ∷ []) worker) (unfinished (past ++ e ∷ []) worker) (get_or (set workers e.worker new) worker w)
    kept es x k o g = rw (o, g) k

    at : (b : Bool) → eqb e.worker worker ≡ b → Keeps (last_call (past ++ e ∷ []) worker) (unfinished (past ++ e ∷ []) worker) (get_or (set workers e.worker new) worker w)
    at true s =
        let same : e.worker ≡ worker = eqb-true e.worker worker s in
        let here : get_or (set workers e.worker new) worker w ≡ new = get_or-set_at workers e.worker worker new w (sym same) (omega (arith, many)) in
        let now : Keeps (call_after (last_call past worker) e.act) (going_after (call_after (last_call past worker) e.act) e.outcome) new =
        subst (λ (n : ℕ). Keeps (call_after (last_call past n) e.act) (going_after (call_after (last_call past n) e.act) e.outcome) new) same k in
        let after : Keeps (call_from None (own past worker ++ e ∷ [])) (unfinished_from None None (own past worker ++ e ∷ [])) new =
        rw (call_from-snoc None (own past worker) e, left-snoc None None (own past worker) e) now in
        kept (own past worker ++ e ∷ []) new after (own-same past e worker s) here
    at false s =
        kept (own past worker) (get_or workers worker w) (each worker w h) (own-other past e worker s)
        (get_or-set_other workers e.worker worker new w (other_worker e.worker worker s))

pub counts_more : (past : List Entry) (e : Entry) (old new : Summary) (d before after : Worker) (bytes : ℕ) → Counts past old → e.worker ≤ LAST_WORKER → before ≡ get_or old.workers e.worker d
    → Sends before e.act e.outcome bytes → Steps before e.act e.outcome after → CountsEntry e.outcome bytes old.totals new.totals → new.workers ≡ set old.workers e.worker after → Counts (past ++ e ∷ []) new
counts_more past e old new d before after bytes k small b sends steps totals workers =
    let below : e.worker < WORKERS = omega arith in
    let keeps : Keeps (last_call past e.worker) (unfinished past e.worker) before = subst (Keeps (last_call past e.worker) (unfinished past e.worker)) (sym b) (k.each e.worker d below) in
    let sent : bytes ≡ capped (sent_going (doing past e) e.outcome) = sends (last_call past e.worker) (unfinished past e.worker) keeps in
    let left = steps (last_call past e.worker) (unfinished past e.worker) keeps in
    record {
      totals = totals_more past e bytes old.totals new.totals k.totals totals sent;
      many = ap length workers ∙ length-set old.workers e.worker after ∙ k.many;
      each = λ worker w h. subst (λ (ws : List Worker). Keeps (last_call (past ++ e ∷ []) worker) (unfinished (past ++ e ∷ []) worker) (get_or ws worker w)) (sym workers)
          (workers_more past e old.workers after k.many below k.each left worker w h);
    }

-- ---- the line

pub line_is : (j : Journal) (s : Summary) (stalls : List StallLine) (text : List ℕ) → Counts j.entries s → IsExact s.totals → stalls ≡ j.stalls → text ≡ totals_text s.totals ++ number_word (codes " stalled ") (length stalls) ++ codes "\n" → text ≡ summary_text j
unfolding summary_text
line_is j s stalls text k exact same t =
    let x = exact j.entries k.totals in
    t ∙ rw (x.entries, x.ok, x.err, x.part, x.sent, x.got, same) refl
