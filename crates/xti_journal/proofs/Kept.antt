-- What is kept beside the journal stays right as lines are added.
use Rattle.std.proofs.Common.{◌≡◌, ℕ, ◌<◌, ◌≤◌, Bool, true, false, cond, eqb, List, [], ◌∷◌, ◌++◌, length, get_or, set, Option, Some, None, refl, sym, ap, ◌∙◌, arith}
use Rattle.std.specs.Prelude.{replicate}
use Rattle.std.proofs.lemmas.Bool.{eqb-true, eq-eqb}
use Rattle.std.proofs.lemmas.Grind.{get_or-set_at}
use Rattle.std.proofs.lemmas.List.{get_or-set_other, length-set}
use Rattle.std.proofs.lemmas.Simd.{get_or-replicate}
use Rattle.xti_base.specs.declared.limits.TheConstants.{WORKERS, LAST_WORKER}
use Rattle.xti_model.specs.declared.entry.Entry.{Entry}
use Rattle.xti_model.specs.declared.script.StallLine.{StallLine}
use Rattle.xti_verbs.specs.declared.verb.Verb.{Verb}
use Rattle.xti_journal.specs.Grammar.{verb_after, verb_from, last_verb}
use Rattle.xti_journal.specs.Reading.{last_worker}
use Rattle.xti_journal.specs.Known.{Knows}

abbrev after_entry : Option Verb → ℕ → Entry → Option Verb
after_entry before worker e = cond (eqb e.worker worker) (verb_after before e.act) before

verb_more : (before : Option Verb) (worker : ℕ) (past : List Entry) (e : Entry) → verb_from before worker (past ++ e ∷ []) ≡ after_entry (verb_from before worker past) worker e
verb_more before worker [] e = refl
verb_more before worker (x ∷ past) e = verb_more (after_entry before worker x) worker past e

last_more : (past : List Entry) (e : Entry) (worker : ℕ) → last_verb (past ++ e ∷ []) worker ≡ after_entry (last_verb past worker) worker e
unfolding last_verb
last_more past e worker = verb_more None worker past e

pub knows_none : (entries : List Entry) (stalls : List StallLine) (verbs : List (Option Verb)) (last : Option ℕ) → entries ≡ [] → stalls ≡ [] → verbs ≡ replicate 33 None → last ≡ None → Knows entries stalls verbs last
unfolding last_verb
knows_none entries stalls verbs last n m e l = rw (n, m, e, l) (record { count = refl; own = λ worker h. get_or-replicate 33 worker None None h; worker = refl })

other_worker : (a b : ℕ) → eqb a b ≡ false → b ≡ a → ⊥
other_worker a b e s = let t : eqb a b ≡ true = eq-eqb a b (sym s) in let c : true ≡ false = sym t ∙ e in cc

pub knows_entry : (entries : List Entry) (stalls : List StallLine) (verbs new : List (Option Verb)) (last : Option ℕ) (e : Entry) (verb : Option Verb) → Knows entries stalls verbs last → e.worker < WORKERS
    → verb ≡ verb_after (last_verb entries e.worker) e.act → new ≡ set verbs e.worker verb → Knows (entries ++ e ∷ []) stalls new last
knows_entry entries stalls verbs new last e verb k small v n = rw n (record {
  count = length-set verbs e.worker verb ∙ k.count;
  own = λ worker h. at worker h (eqb e.worker worker) refl;
  worker = k.worker;
})
  where
    at : (worker : ℕ) → worker < WORKERS → (b : Bool) → eqb e.worker worker ≡ b → get_or (set verbs e.worker verb) worker None ≡ last_verb (entries ++ e ∷ []) worker
    at worker h true s =
        let same : e.worker ≡ worker = eqb-true e.worker worker s in
        let long : e.worker < length verbs = omega (arith, k.count) in
        let left : get_or (set verbs e.worker verb) worker None ≡ verb = get_or-set_at verbs e.worker worker verb None (sym same) long in
        let right : last_verb (entries ++ e ∷ []) worker ≡ verb_after (last_verb entries worker) e.act = last_more entries e worker ∙ ap (λ (b : Bool). cond b (verb_after (last_verb entries worker) e.act) (last_verb entries worker)) s in
        left ∙ v ∙ ap (λ (w : ℕ). verb_after (last_verb entries w) e.act) same ∙ sym right
    at worker h false s =
        let right : last_verb (entries ++ e ∷ []) worker ≡ last_verb entries worker = last_more entries e worker ∙ ap (λ (b : Bool). cond b (verb_after (last_verb entries worker) e.act) (last_verb entries worker)) s in
        get_or-set_other verbs e.worker worker verb None (other_worker e.worker worker s) ∙ k.own worker h ∙ sym right

pub last-append : (stalls : List StallLine) (s : StallLine) → last_worker (stalls ++ s ∷ []) ≡ Some s.worker
last-append [] s = refl
last-append (t ∷ []) s = refl
last-append (t ∷ u ∷ stalls) s = last-append (u ∷ stalls) s

pub knows_stall : (entries : List Entry) (stalls : List StallLine) (verbs : List (Option Verb)) (last : Option ℕ) (s : StallLine) → Knows entries stalls verbs last → Knows entries (stalls ++ s ∷ []) verbs (Some s.worker)
knows_stall entries stalls verbs last s k = record { count = k.count; own = k.own; worker = sym (last-append stalls s) }

pub entry_known : (entries more : List Entry) (stalls : List StallLine) (verbs : List (Option Verb)) (last : Option ℕ) (e : Entry) (verb : Option Verb) → Knows entries stalls verbs last → e.worker ≤ LAST_WORKER
    → verb ≡ verb_after (get_or verbs e.worker None) e.act → more ≡ entries ++ e ∷ [] → Knows more stalls (set verbs e.worker verb) last
entry_known entries more stalls verbs last e verb k small v m =
    let below : e.worker < WORKERS = omega arith in
    let w : verb ≡ verb_after (last_verb entries e.worker) e.act = v ∙ ap (λ (x : Option Verb). verb_after x e.act) (k.own e.worker below) in
    rw m (knows_entry entries stalls verbs (set verbs e.worker verb) last e verb k below w refl)

pub stall_known : (entries : List Entry) (stalls more : List StallLine) (verbs : List (Option Verb)) (last : Option ℕ) (s : StallLine) → Knows entries stalls verbs last → more ≡ stalls ++ s ∷ [] → Knows entries more verbs (Some s.worker)
stall_known entries stalls more verbs last s k m = rw m (knows_stall entries stalls verbs last s k)
