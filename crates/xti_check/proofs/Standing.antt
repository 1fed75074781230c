-- What a judge that stands after entries says of the next line.
use Rattle.std.proofs.Common.{◌≡◌, ℕ, ◌<◌, ◌≤◌, List, [], ◌∷◌, ◌++◌, length, get_or, set, Option, Some, None, refl, sym, ap, subst, ◌∙◌, arith}
use Rattle.std.specs.Prelude.{codes, slice_get}
use Rattle.std.proofs.lemmas.Option.{none-some}
use Rattle.std.proofs.lemmas.List.{length-set}
use Rattle.xti_base.specs.declared.kinds.State.{State}
use Rattle.xti_base.specs.declared.limits.TheConstants.{WORKERS, LAST_WORKER}
use Rattle.xti_model.specs.declared.entry.Act.{Act}
use Rattle.xti_model.specs.declared.call.Call.{Call}
use Rattle.xti_model.specs.declared.entry.Act.TheVariants as act
use Rattle.xti_model.specs.declared.entry.Outcome.{Outcome}
use Rattle.xti_model.specs.declared.entry.Outcome.TheVariants as outcome
use Rattle.xti_model.specs.declared.entry.Entry.{Entry}
use Rattle.xti_model.specs.declared.entry.Applied.{Applied}
use Rattle.xti_model.specs.declared.entry.Applied.TheVariants as applied
use Rattle.xti_model.specs.declared.profile.Providers.{Providers}
use Rattle.xti_model.specs.declared.script.StallLine.{StallLine}
use Rattle.xti_model.specs.World.{World}
use Rattle.xti_model.specs.Step.{Step, step}
use Rattle.xti_model.specs.History.{Going, going_after, unfinished, made_by, doing, step_going, after}
use Rattle.xti_journal_text.specs.JournalText.{answer_text}
use Rattle.xti_end.specs.Taken.{taken}
use Rattle.xti_check.specs.declared.going.Part.{Part}
use Rattle.xti_check.specs.declared.going.Going.{Going as Made}
use Rattle.xti_check.specs.declared.judging.Judge.{Judge}
use Rattle.xti_check.specs.Verdicts.{wanted_act, stalling}
use Rattle.xti_check.specs.Parts.{call_at, call_of, begun_by, part_of, going_of, made, begun_at, left_after}
use Rattle.xti_check.specs.Judging.{StandsAfter, JudgesEntry, JudgesStall, Compares, HaveWorkers, JudgesPlace}
use Rattle.xti_check.proofs.Judged.{wrong_act, blocked_entry, other_step, right_fits, world_after, calls_after, wrong_stall_act, blocked_stall, moving_stall}

get_there : (past others : List Entry) (e : Entry) → slice_get (past ++ e ∷ others) (length past) ≡ Some e
get_there [] others e = refl
get_there (x ∷ past) others e = get_there past others e

abbrev call_of_going : Option Going → Option Call
call_of_going None = None
call_of_going (Some g) = Some g.call

-- the call that a line makes a step of is the one that was found
pub found_call : (past : List Entry) (j : Judge) (worker : ℕ) (act : Act) (x : Option Part) (r : Option Made) → StandsAfter past j → worker ≤ LAST_WORKER → x ≡ get_or j.parts worker None → made r ≡ made_by (going_of j.entries.now x) act → made_by (unfinished past worker) act ≡ made r
found_call past j worker act x r s small i m =
    ap (λ (u : Option Going). made_by u act) (sym (s.own worker (omega arith)) ∙ ap (going_of j.entries.now) (sym i)) ∙ sym m

-- a step of the judge's world is one of the world after the entries
pub step_is : (past : List Entry) (j : Judge) (g : Going) (o : Option Step) → StandsAfter past j → o ≡ step j.world.providers j.world.cells g.call g.so_far → step_going j.world.providers (after j.world.providers past) g ≡ o
step_is past j g o s e = ap (λ (w : World). step j.world.providers w g.call g.so_far) (sym s.world) ∙ sym e

pub says_act : (past : List Entry) (j new : Judge) (e : Entry) (text : List ℕ) → doing past e ≡ None → text ≡ wanted_act e.act → JudgesEntry past e j new (Some text)
says_act past j new e text d t = wrong_act j.world.providers (after j.world.providers past) past e text d t

pub says_blocked : (past : List Entry) (j new : Judge) (e : Entry) (g : Going) (text : List ℕ) → doing past e ≡ Some g → step_going j.world.providers (after j.world.providers past) g ≡ None → text ≡ codes "blocked" → JudgesEntry past e j new (Some text)
says_blocked past j new e g text d b t = blocked_entry j.world.providers (after j.world.providers past) past e g text d b t

pub says_other : (past : List Entry) (j new : Judge) (e : Entry) (g : Going) (st : Step) (text : List ℕ) → doing past e ≡ Some g → step_going j.world.providers (after j.world.providers past) g ≡ Some st → Compares st.outcome st.after e (Some text) → JudgesEntry past e j new (Some text)
says_other past j new e g st text d b c = other_step j.world.providers (after j.world.providers past) past e g st text d b c.0 c.1 c.2

pub says_right : (past : List Entry) (j new : Judge) (e : Entry) (g : Going) (st : Step) (left : Option Part) → StandsAfter past j → e.worker ≤ LAST_WORKER → doing past e ≡ Some g → step_going j.world.providers (after j.world.providers past) g ≡ Some st → Compares st.outcome st.after e None
    → new.world.providers ≡ j.world.providers → new.world.cells ≡ st.world → new.parts ≡ set j.parts e.worker left → new.entries.now ≡ j.entries.now → going_of j.entries.now left ≡ going_after (Some g.call) e.outcome → JudgesEntry past e j new None
says_right past j new e g st left s small d b c p w q n l =
    let below : e.worker < WORKERS = omega arith in
    let own : (worker : ℕ) → worker < WORKERS → going_of j.entries.now (get_or (set j.parts e.worker left) worker None) ≡ unfinished (past ++ e ∷ []) worker = calls_after (going_of j.entries.now) j.parts left past e g s.count below s.own d l in
    let cells : new.world.cells ≡ after j.world.providers (past ++ e ∷ []) = w ∙ sym (world_after j.world.providers past e g st d b) in (
      right_fits j.world.providers (after j.world.providers past) past e g st d b c,
      record {
        count = ap length q ∙ length-set j.parts e.worker left ∙ s.count;
        world = cells ∙ ap (λ (x : Providers). after x (past ++ e ∷ [])) (sym p);
        own = λ worker h. ap (λ (ps : List (Option Part)). going_of new.entries.now (get_or ps worker None)) q ∙ ap (λ (es : List Entry). going_of es (get_or (set j.parts e.worker left) worker None)) n ∙ own worker h;
      },
    )

-- the step of the entry's call is compared with what the entry says
says_compared : (past : List Entry) (j new : Judge) (e : Entry) (g : Going) (st : Step) (left : Option Part) (text : Option (List ℕ)) → StandsAfter past j → e.worker ≤ LAST_WORKER → doing past e ≡ Some g → step_going j.world.providers (after j.world.providers past) g ≡ Some st → Compares st.outcome st.after e text
    → new.world.providers ≡ j.world.providers → new.world.cells ≡ st.world → new.parts ≡ set j.parts e.worker left → new.entries.now ≡ j.entries.now → going_of j.entries.now left ≡ going_after (Some g.call) e.outcome → JudgesEntry past e j new text
says_compared past j new e g st left None s small d b c p w q n l = says_right past j new e g st left s small d b c p w q n l
says_compared past j new e g st left (Some text) s small d b c p w q n l = says_other past j new e g st text d b c

-- what is left of the call of the entry at this place
pub left_is : (entries past others : List Entry) (e : Entry) (x : Option Part) (g : Going) (place : ℕ) → entries ≡ past ++ e ∷ others → length past ≡ place → made_by (going_of entries x) e.act ≡ Some g → going_of entries (left_after (begun_at x e.act place) e.outcome) ≡ going_after (Some g.call) e.outcome
left_is entries past others e x g place w p m = by_outcome e.outcome
  where
    at : slice_get entries place ≡ Some e
    at = ap (λ (l : List Entry). slice_get l place) w ∙ ap (slice_get (past ++ e ∷ others)) (sym p) ∙ get_there past others e

    begun : (x : Option Part) (a : Act) → e.act ≡ a → made_by (going_of entries x) a ≡ Some g → call_at entries (begun_at x a place) ≡ Some g.call
    begun None (act.Begin c) q h = ap begun_by at ∙ ap call_of q ∙ ap call_of_going h
    begun None act.More q h = absurd (none-some g h)
    begun (Some part) (act.Begin c) q h = by_call (call_at entries part.entry) h
      where
        by_call : (o : Option Call) → made_by (part_of o part.taken) (act.Begin c) ≡ Some g → call_at entries place ≡ Some g.call
        by_call None h = ap begun_by at ∙ ap call_of q ∙ ap call_of_going h
        by_call (Some call) h = absurd (none-some g h)
    begun (Some part) act.More q h = by_call (call_at entries part.entry) h
      where
        by_call : (o : Option Call) → part_of o part.taken ≡ Some g → o ≡ Some g.call
        by_call None h = absurd (none-some g h)
        by_call (Some call) h = ap call_of_going h

    by_outcome : (o : Outcome) → going_of entries (left_after (begun_at x e.act place) o) ≡ going_after (Some g.call) o
    by_outcome (outcome.Done reply) = refl
    by_outcome (outcome.Part n) = ap (λ (c : Option Call). part_of c n) (begun x e.act refl m)

get_at : (past others : List Entry) (e d : Entry) → get_or (past ++ e ∷ others) (length past) d ≡ e
get_at [] others e d = refl
get_at (x ∷ past) others e d = get_at past others e d

stands_there : (j : Judge) (past others : List Entry) (e r : Entry) (place : ℕ) → r ≡ get_or j.entries.now place r → j.entries.now ≡ past ++ e ∷ others → length past ≡ place → r ≡ e
stands_there j past others e r place at whole here = at ∙ ap (λ (es : List Entry). get_or es place r) whole ∙ ap (λ (k : ℕ). get_or (past ++ e ∷ others) k r) (sym here) ∙ get_at past others e r

-- the step of the call of the entry at this place is compared with what stands there
pub compared_place : (j new : Judge) (place : ℕ) (r : Entry) (x : Option Part) (found called : Option Made) (m : Made) (a : Applied) (cells : World) (outcome : Outcome) (state : State) (left : Option Part) (text : Option (List ℕ)) → place < length j.entries.now → HaveWorkers j.entries.now → r ≡ get_or j.entries.now place r
    → x ≡ get_or j.parts r.worker None → made found ≡ going_of j.entries.now x → made called ≡ made_by (made found) r.act → called ≡ Some m → taken a cells ≡ step j.world.providers j.world.cells m.call.now m.go → a ≡ applied.Step outcome state → Compares outcome state r text
    → new.world.providers ≡ j.world.providers → new.world.cells ≡ cells → new.parts ≡ set j.parts r.worker left → new.entries.now ≡ j.entries.now → left ≡ left_after (begun_at x r.act place) r.outcome → JudgesPlace place j new text
compared_place j new place r x found called m a cells outcome state left text inside small at i f k q t b c p w ps n l = λ past others e whole here s.
    let same : r ≡ e = stands_there j past others e r place at whole here in
    let g : Going = record { call = m.call.now; so_far = m.go } in
    let st : Step = record { world = cells; outcome = outcome; after = state } in
    let worker : r.worker ≤ LAST_WORKER = subst (λ (y : Entry). y.worker ≤ LAST_WORKER) (sym at) (small place r inside) in
    let act : made called ≡ made_by (going_of j.entries.now x) r.act = k ∙ ap (λ (u : Option Going). made_by u r.act) f in
    let some : made called ≡ Some g = ap made q in
    let d : doing past r ≡ Some g = found_call past j r.worker r.act x called s worker i act ∙ some in
    let made_step : step_going j.world.providers (after j.world.providers past) g ≡ Some st = step_is past j g (taken a cells) s t ∙ ap (λ (y : Applied). taken y cells) b in
    let rest : going_of j.entries.now left ≡ going_after (Some g.call) r.outcome = ap (going_of j.entries.now) l ∙ left_is j.entries.now past others r x g place (whole ∙ ap (λ (y : Entry). past ++ y ∷ others) (sym same)) here (sym act ∙ some) in
    let h : JudgesEntry past r j new text = says_compared past j new r g st left text s worker d made_step c p w ps n rest in
    subst (λ (y : Entry). JudgesEntry past y j new text) same h

-- the act of the entry at this place doesn't go with its worker's call
pub act_place : (j new : Judge) (place : ℕ) (r : Entry) (x : Option Part) (found called : Option Made) (text : Option (List ℕ)) → place < length j.entries.now → HaveWorkers j.entries.now → r ≡ get_or j.entries.now place r
    → x ≡ get_or j.parts r.worker None → made found ≡ going_of j.entries.now x → made called ≡ made_by (made found) r.act → called ≡ None → text ≡ Some (wanted_act r.act) → JudgesPlace place j new text
act_place j new place r x found called text inside small at i f k q t = λ past others e whole here s.
    let worker : r.worker ≤ LAST_WORKER = subst (λ (y : Entry). y.worker ≤ LAST_WORKER) (sym at) (small place r inside) in
    let act : made called ≡ made_by (going_of j.entries.now x) r.act = k ∙ ap (λ (u : Option Going). made_by u r.act) f in
    let d : doing past r ≡ None = found_call past j r.worker r.act x called s worker i act ∙ ap made q in
    let h : JudgesEntry past r j new text = subst (λ (y : Option (List ℕ)). JudgesEntry past r j new y) (sym t) (says_act past j new r (wanted_act r.act) d refl) in
    subst (λ (y : Entry). JudgesEntry past y j new text) (stands_there j past others e r place at whole here) h

-- the step of the call of the entry at this place is blocked
pub blocked_place : (j new : Judge) (place : ℕ) (r : Entry) (x : Option Part) (found called : Option Made) (m : Made) (a : Applied) (cells : World) (text : Option (List ℕ)) → place < length j.entries.now → HaveWorkers j.entries.now → r ≡ get_or j.entries.now place r
    → x ≡ get_or j.parts r.worker None → made found ≡ going_of j.entries.now x → made called ≡ made_by (made found) r.act → called ≡ Some m → taken a cells ≡ step j.world.providers j.world.cells m.call.now m.go → a ≡ applied.Blocked → text ≡ Some (codes "blocked") → JudgesPlace place j new text
blocked_place j new place r x found called m a cells text inside small at i f k q b c t = λ past others e whole here s.
    let g : Going = record { call = m.call.now; so_far = m.go } in
    let worker : r.worker ≤ LAST_WORKER = subst (λ (y : Entry). y.worker ≤ LAST_WORKER) (sym at) (small place r inside) in
    let act : made called ≡ made_by (going_of j.entries.now x) r.act = k ∙ ap (λ (u : Option Going). made_by u r.act) f in
    let d : doing past r ≡ Some g = found_call past j r.worker r.act x called s worker i act ∙ ap made q in
    let blocked : step_going j.world.providers (after j.world.providers past) g ≡ None = step_is past j g (taken a cells) s b ∙ ap (λ (y : Applied). taken y cells) c in
    let h : JudgesEntry past r j new text = subst (λ (y : Option (List ℕ)). JudgesEntry past r j new y) (sym t) (says_blocked past j new r g (codes "blocked") d blocked refl) in
    subst (λ (y : Entry). JudgesEntry past y j new text) (stands_there j past others e r place at whole here) h

-- ---- stall lines

pub says_stall_act : (entries : List Entry) (j new : Judge) (s : StallLine) (text : List ℕ) → stalling entries s ≡ None → text ≡ wanted_act s.act → JudgesStall entries s j new (Some text)
says_stall_act entries j new s text d t = wrong_stall_act j.world.providers (after j.world.providers entries) entries s text d t

pub says_moving : (entries : List Entry) (j new : Judge) (s : StallLine) (g : Going) (st : Step) (text : List ℕ) → stalling entries s ≡ Some g → step_going j.world.providers (after j.world.providers entries) g ≡ Some st → text ≡ answer_text st.outcome st.after → JudgesStall entries s j new (Some text)
says_moving entries j new s g st text d b t = moving_stall j.world.providers (after j.world.providers entries) entries s g st text d b t

pub says_stalled : (entries : List Entry) (j new : Judge) (s : StallLine) (g : Going) → StandsAfter entries j → stalling entries s ≡ Some g → step_going j.world.providers (after j.world.providers entries) g ≡ None → new.world ≡ j.world → new.parts ≡ j.parts → new.entries.now ≡ j.entries.now → JudgesStall entries s j new None
says_stalled entries j new s g h d b w q n = (
  blocked_stall j.world.providers (after j.world.providers entries) entries s g d b,
  record {
    count = ap length q ∙ h.count;
    world = subst (λ x. x.cells ≡ after x.providers entries) (sym w) h.world;
    own = λ worker i. ap (λ (ps : List (Option Part)). going_of new.entries.now (get_or ps worker None)) q ∙ ap (λ (es : List Entry). going_of es (get_or j.parts worker None)) n ∙ h.own worker i;
  },
)
