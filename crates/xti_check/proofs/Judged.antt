-- What a judge says of a line is what the definitions say.
use Rattle.std.proofs.Common.{◌≡◌, ℕ, ◌<◌, Bool, true, false, eqb, List, [], ◌∷◌, ◌++◌, length, get_or, set, Option, Some, None, refl, sym, ap, subst, ◌∙◌, arith}
use Rattle.std.specs.Prelude.{replicate, option_map, option_and_then, codes}
use Rattle.std.proofs.lemmas.Bool.{eqb-true, eq-eqb}
use Rattle.std.proofs.lemmas.Grind.{get_or-set_at}
use Rattle.std.proofs.lemmas.List.{get_or-set_other}
use Rattle.std.proofs.lemmas.Option.{none-some}
use Rattle.std.proofs.lemmas.Simd.{get_or-replicate}
use Rattle.xti_base.specs.declared.limits.TheConstants.{WORKERS}
use Rattle.xti_model.specs.declared.call.Call.{Call}
use Rattle.xti_model.specs.declared.entry.Act.{Act}
use Rattle.xti_model.specs.declared.entry.Act.TheVariants as act
use Rattle.xti_model.specs.declared.entry.Entry.{Entry}
use Rattle.xti_model.specs.declared.profile.Providers.{Providers}
use Rattle.xti_model.specs.declared.profile.Version.{Version}
use Rattle.xti_model.specs.declared.script.StallLine.{StallLine}
use Rattle.xti_model.specs.World.{World, opening}
use Rattle.xti_model.specs.Step.{Step}
use Rattle.xti_model.specs.History.{Going, own, call_after, going_after, unfinished, unfinished_from, made_by, doing, step_going, step_at, left_by, after, Fits}
use Rattle.xti_model.proofs.Legality.{after-snoc}
use Rattle.xti_model.proofs.Working.{call_from, unfinished_from-snoc, IsCallOf, call_of-from, own-more}
use Rattle.xti_journal_text.specs.JournalText.{answer_text}
use Rattle.xti_journal.specs.Grammar.{IsEntry}
use Rattle.xti_laws_texts.specs.Texts.{AreNumbers}
use Rattle.xti_laws_texts.proofs.Entries.{is_answer_letter, no-answer, step-text}
use Rattle.xti_check.specs.Judging.{HasNumbers}
use Rattle.xti_check.specs.Verdicts.{wanted_act, step_text, wanted, stalling, IsBlockedAt}

-- ---- entries that are not right

abbrev pub Wrong : Providers → World → List Entry → Entry → List ℕ → Type 0
Wrong p w past e text = (Fits (step_at p w past e) e → ⊥) × (text ≡ wanted p w e.act (doing past e)) × HasNumbers (step_at p w past e)

pub wrong_act : (p : Providers) (w : World) (past : List Entry) (e : Entry) (text : List ℕ) → doing past e ≡ None → text ≡ wanted_act e.act → Wrong p w past e text
wrong_act p w past e text d t = (λ f. (let g : Fits (option_and_then (step_going p w) None) e = subst (λ (o : Option Going). Fits (option_and_then (step_going p w) o) e) d f in g), t ∙ ap (wanted p w e.act) (sym d), subst (λ (o : Option Going). HasNumbers (option_and_then (step_going p w) o)) (sym d) tt)

pub blocked_entry : (p : Providers) (w : World) (past : List Entry) (e : Entry) (g : Going) (text : List ℕ) → doing past e ≡ Some g → step_going p w g ≡ None → text ≡ codes "blocked" → Wrong p w past e text
blocked_entry p w past e g text d b t =
    let at : step_at p w past e ≡ None = ap (option_and_then (step_going p w)) d ∙ b in
    (λ f. (let h : Fits None e = subst (λ (o : Option Step). Fits o e) at f in h), t ∙ ap step_text (sym b) ∙ ap (wanted p w e.act) (sym d), subst HasNumbers (sym at) tt)

pub other_step : (p : Providers) (w : World) (past : List Entry) (e : Entry) (g : Going) (s : Step) (text : List ℕ) → doing past e ≡ Some g → step_going p w g ≡ Some s → ((e.outcome ≡ s.outcome) × (e.after ≡ s.after) → ⊥) → text ≡ answer_text s.outcome s.after → AreNumbers s.outcome → Wrong p w past e text
other_step p w past e g s text d b differs t n =
    let at : step_at p w past e ≡ Some s = ap (option_and_then (step_going p w)) d ∙ b in
    (λ f. differs (subst (λ (o : Option Step). Fits o e) at f), t ∙ ap step_text (sym b) ∙ ap (wanted p w e.act) (sym d), subst HasNumbers (sym at) n)

wanted-letter : (a : Act) → is_answer_letter (wanted_act a) ≡ false
wanted-letter (act.Begin c) = refl
wanted-letter act.More = refl

-- another text should stand in a wrong entry
pub texts_differ : (version : Version) (p : Providers) (w : World) (past : List Entry) (e : Entry) (text : List ℕ) → IsEntry version past e → Wrong p w past e text → text ≡ answer_text e.outcome e.after → ⊥
texts_differ version p w past e text h wrong t = by (doing past e) refl (sym wrong.1 ∙ t)
  where
    by_step : (g : Going) → doing past e ≡ Some g → (o : Option Step) → step_going p w g ≡ o → step_text o ≡ answer_text e.outcome e.after → ⊥
    by_step g d None b s = no-answer (codes "blocked") e.outcome e.after refl s
    by_step g d (Some x) b s =
        let at : step_at p w past e ≡ Some x = ap (option_and_then (step_going p w)) d ∙ b in
        let same : (e.outcome ≡ x.outcome) × (e.after ≡ x.after) = step-text version p w past e g x h d b (subst HasNumbers at wrong.2) s in
        wrong.0 (subst (λ (o : Option Step). Fits o e) (sym at) same)

    by : (o : Option Going) → doing past e ≡ o → wanted p w e.act o ≡ answer_text e.outcome e.after → ⊥
    by None d s = no-answer (wanted_act e.act) e.outcome e.after (wanted-letter e.act) s
    by (Some g) d s = by_step g d (step_going p w g) refl s

-- ---- right entries

pub right_fits : (p : Providers) (w : World) (past : List Entry) (e : Entry) (g : Going) (s : Step) → doing past e ≡ Some g → step_going p w g ≡ Some s → (e.outcome ≡ s.outcome) × (e.after ≡ s.after) → Fits (step_at p w past e) e
right_fits p w past e g s d b h =
    let at : step_at p w past e ≡ Some s = ap (option_and_then (step_going p w)) d ∙ b in
    subst (λ (o : Option Step). Fits o e) (sym at) h

pub world_after : (p : Providers) (past : List Entry) (e : Entry) (g : Going) (s : Step) → doing past e ≡ Some g → step_going p (after p past) g ≡ Some s → after p (past ++ e ∷ []) ≡ s.world
world_after p past e g s d b =
    let at : step_at p (after p past) past e ≡ Some s = ap (option_and_then (step_going p (after p past))) d ∙ b in
    after-snoc p (opening p) [] past e ∙ ap (left_by (after p past)) at

made-call : (u : Option Going) (c : Option Call) (a : Act) (g : Going) → IsCallOf c u → made_by u a ≡ Some g → call_after c a ≡ Some g.call
made-call None c (act.Begin x) g h e = ap (option_map (λ (y : Going). y.call)) e
made-call (Some u) c (act.Begin x) g h e = absurd (none-some g e)
made-call u c act.More g h e = subst (IsCallOf c) e h

own_after : (past : List Entry) (e : Entry) (g : Going) → doing past e ≡ Some g → unfinished (past ++ e ∷ []) e.worker ≡ going_after (Some g.call) e.outcome
own_after past e g d =
    let c : call_after (call_from None (own past e.worker)) e.act ≡ Some g.call = made-call (unfinished past e.worker) (call_from None (own past e.worker)) e.act g (call_of-from None None (own past e.worker) tt) d in
    ap (unfinished_from None None) (own-more past e e.worker true (eq-eqb e.worker e.worker refl)) ∙ unfinished_from-snoc None None (own past e.worker) e ∙ ap (λ (x : Option Call). going_after x e.outcome) c

other_after : (past : List Entry) (e : Entry) (worker : ℕ) → eqb e.worker worker ≡ false → unfinished (past ++ e ∷ []) worker ≡ unfinished past worker
other_after past e worker s = ap (unfinished_from None None) (own-more past e worker false s)

other_worker : (a b : ℕ) → eqb a b ≡ false → b ≡ a → ⊥
other_worker a b e s = let t : eqb a b ≡ true = eq-eqb a b (sym s) in let c : true ≡ false = sym t ∙ e in cc

pub calls_after : {A : Type 0} (going : Option A → Option Going) (parts : List (Option A)) (left : Option A) (past : List Entry) (e : Entry) (g : Going) → length parts ≡ WORKERS → e.worker < WORKERS → ((worker : ℕ) → worker < WORKERS → going (get_or parts worker None) ≡ unfinished past worker)
    → doing past e ≡ Some g → going left ≡ going_after (Some g.call) e.outcome → (worker : ℕ) → worker < WORKERS → going (get_or (set parts e.worker left) worker None) ≡ unfinished (past ++ e ∷ []) worker
calls_after {A} going parts left past e g long small own d l worker h = at (eqb e.worker worker) refl
  where
    at : (b : Bool) → eqb e.worker worker ≡ b → going (get_or (set parts e.worker left) worker None) ≡ unfinished (past ++ e ∷ []) worker
    at true s =
        let same : e.worker ≡ worker = eqb-true e.worker worker s in
        let here : get_or (set parts e.worker left) worker None ≡ left = get_or-set_at parts e.worker worker left None (sym same) (omega (arith, long)) in
        ap going here ∙ l ∙ sym (own_after past e g d) ∙ ap (unfinished (past ++ e ∷ [])) same
    at false s = ap going (get_or-set_other parts e.worker worker left None (other_worker e.worker worker s)) ∙ own worker h ∙ sym (other_after past e worker s)

-- ---- stall lines

abbrev pub WrongStall : Providers → World → List Entry → StallLine → List ℕ → Type 0
WrongStall p w entries s text = (IsBlockedAt p w (stalling entries s) → ⊥) × (text ≡ wanted p w s.act (stalling entries s))

pub wrong_stall_act : (p : Providers) (w : World) (entries : List Entry) (s : StallLine) (text : List ℕ) → stalling entries s ≡ None → text ≡ wanted_act s.act → WrongStall p w entries s text
wrong_stall_act p w entries s text d t = (λ f. (let g : IsBlockedAt p w None = subst (IsBlockedAt p w) d f in g), t ∙ ap (wanted p w s.act) (sym d))

pub blocked_stall : (p : Providers) (w : World) (entries : List Entry) (s : StallLine) (g : Going) → stalling entries s ≡ Some g → step_going p w g ≡ None → IsBlockedAt p w (stalling entries s)
blocked_stall p w entries s g d b = subst (IsBlockedAt p w) (sym d) b

pub moving_stall : (p : Providers) (w : World) (entries : List Entry) (s : StallLine) (g : Going) (x : Step) (text : List ℕ) → stalling entries s ≡ Some g → step_going p w g ≡ Some x → text ≡ answer_text x.outcome x.after → WrongStall p w entries s text
moving_stall p w entries s g x text d b t =
    (λ f. (let n : step_going p w g ≡ None = subst (IsBlockedAt p w) d f in none-some x (sym n ∙ b)), t ∙ ap step_text (sym b) ∙ ap (wanted p w s.act) (sym d))

-- another text should stand in a wrong stall line
pub stall_texts_differ : (p : Providers) (w : World) (entries : List Entry) (s : StallLine) (text : List ℕ) → WrongStall p w entries s text → text ≡ codes "blocked" → ⊥
stall_texts_differ p w entries s text wrong t = by (stalling entries s) wrong.0 (sym wrong.1 ∙ t)
  where
    by_act : (a : Act) → wanted_act a ≡ codes "blocked" → ⊥
    by_act (act.Begin c) x = absurd cc
    by_act act.More x = absurd cc

    by_step : (o : Option Step) → (o ≡ None → ⊥) → step_text o ≡ codes "blocked" → ⊥
    by_step None f x = f refl
    by_step (Some st) f x = no-answer (codes "blocked") st.outcome st.after refl (sym x)

    by : (o : Option Going) → (IsBlockedAt p w o → ⊥) → wanted p w s.act o ≡ codes "blocked" → ⊥
    by None f x = by_act s.act x
    by (Some g) f x = by_step (step_going p w g) f x

-- ---- before all entries

pub first_parts : {A : Type 0} (going : Option A → Option Going) → going None ≡ None → (worker : ℕ) → worker < 33 → going (get_or (replicate 33 None) worker None) ≡ unfinished [] worker
first_parts going n worker h = ap going (get_or-replicate 33 worker None None h) ∙ n
