-- Histories with one entry more, and the turns of round robin: each is legal where the history before it is.
use Rattle.std.specs.Prelude.{ℕ, List, [], ◌∷◌, ◌++◌, Option, Some, None, option_map, option_and_then, IfSome, ◌≡◌}
use Rattle.std.proofs.Common.{refl, sym, ap, subst, ◌∙◌, append_assoc}
use Rattle.std.proofs.lemmas.List.{append-nil}
use Rattle.std.proofs.lemmas.Option.{IfSome_then}
use Rattle.xti_model.specs.declared.entry.Act.TheVariants as act
use Rattle.xti_model.specs.declared.entry.Outcome.{Outcome}
use Rattle.xti_model.specs.declared.entry.Outcome.TheVariants.{Done, Part}
use Rattle.xti_model.specs.declared.entry.Entry.{Entry}
use Rattle.xti_model.specs.declared.call.Call.{Call}
use Rattle.xti_model.specs.declared.script.Line.{Line}
use Rattle.xti_model.specs.declared.profile.Providers.{Providers}
use Rattle.xti_model.specs.World.{World, opening}
use Rattle.xti_model.specs.Step.{Step}
use Rattle.xti_model.specs.History.{Going, own, call_after, going_after, unfinished, unfinished_from, made_by, step_going, step_at, left_by, after_from, after, Fits, LegalFrom, Legal}
use Rattle.xti_model.specs.Resolve.{Placed}
use Rattle.xti_model.specs.Robin.{begin_line, next_line, next_or, next_going, act_of, Turn, turn_of, turn_going, turn, robin_from}
use Rattle.xti_model.proofs.Turns.{next_turn-each, robin_from-keeps}

-- the world after one entry more
pub after-snoc : (p : Providers) (w : World) (past es : List Entry) (e : Entry) →
    after_from p w past (es ++ e ∷ []) ≡ left_by (after_from p w past es) (step_at p (after_from p w past es) (past ++ es) e)
after-snoc p w past [] e = rw (append-nil past) refl
after-snoc p w past (x ∷ es) e =
    after-snoc p (left_by w (step_at p w past x)) (past ++ x ∷ []) es e
    ∙ ap (λ q. left_by (after_from p (left_by w (step_at p w past x)) (past ++ x ∷ []) es) (step_at p (after_from p (left_by w (step_at p w past x)) (past ++ x ∷ []) es) q e)) (append_assoc past (x ∷ []) es)

-- a right entry more
pub legal-snoc : (p : Providers) (w : World) (past es : List Entry) (e : Entry) →
    LegalFrom p w past es → Fits (step_at p (after_from p w past es) (past ++ es) e) e → LegalFrom p w past (es ++ e ∷ [])
legal-snoc p w past [] e l f = (subst (λ q. Fits (step_at p w q e) e) (append-nil past) f, tt)
legal-snoc p w past (x ∷ es) e l f = (
  l.0,
  legal-snoc p (left_by w (step_at p w past x)) (past ++ x ∷ []) es e l.1
      (subst (λ q. Fits (step_at p (after_from p (left_by w (step_at p w past x)) (past ++ x ∷ []) es) q e) e) (sym (append_assoc past (x ∷ []) es)) f),
)

-- a call that is not finished goes on with the act More
abbrev pub GoesOn : Option Going → Type 0
GoesOn None = Unit
GoesOn (Some g) = act_of g.so_far g.call ≡ act.More

pub goes_on-after : (c : Option Call) (o : Outcome) → GoesOn (going_after c o)
goes_on-after None o = tt
goes_on-after (Some c) (Done reply) = tt
goes_on-after (Some c) (Part n) = refl

pub goes_on-from : (c : Option Call) (going : Option Going) (es : List Entry) → GoesOn going → GoesOn (unfinished_from c going es)
goes_on-from c going [] h = h
goes_on-from c going (e ∷ es) h =
    goes_on-from (call_after c e.act) (going_after (call_after c e.act) e.outcome) es (goes_on-after (call_after c e.act) e.outcome)

pub unfinished-goes_on : (past : List Entry) (worker : ℕ) → GoesOn (unfinished past worker)
unfinished-goes_on past worker = goes_on-from None None (own past worker) tt

-- an entry with the act of the worker's next step does that step
pub next-doing : (lines : List Line) (past : List Entry) (worker : ℕ) (u : Option Going) → GoesOn u →
    IfSome (next_or lines past worker u) (λ g. made_by u (act_of g.so_far g.call) ≡ Some g)
next-doing lines past worker (Some g) h = rw h refl
next-doing lines past worker None h = line_begins (next_line lines past worker)
  where
    line_begins : (l : Option Placed) → IfSome (option_map (begin_line past) l) (λ g. made_by None (act_of g.so_far g.call) ≡ Some g)
    line_begins None = tt
    line_begins (Some l) = refl

-- the turn's entry is right after the past, and its world the one that the entry leaves
abbrev pub IsMade : Providers → World → List Entry → Turn → Type 0
IsMade p w past t = Fits (step_at p w past t.entry) t.entry × (left_by w (step_at p w past t.entry) ≡ t.world)

pub turn-made : (p : Providers) (lines : List Line) (w : World) (past : List Entry) (worker : ℕ) →
    IfSome (turn p lines w past worker) (IsMade p w past)
turn-made p lines w past worker = next (next_going lines past worker) (next-doing lines past worker (unfinished past worker) (unfinished-goes_on past worker))
  where
    stepped : (g : Going) → made_by (unfinished past worker) (act_of g.so_far g.call) ≡ Some g → (s : Option Step) → step_going p w g ≡ s →
        IfSome (option_map (turn_of worker g) s) (IsMade p w past)
    stepped g h None e = tt
    stepped g h (Some s) e = rw (h, e) ((refl, refl), refl)

    next : (g : Option Going) → IfSome g (λ g. made_by (unfinished past worker) (act_of g.so_far g.call) ≡ Some g) →
        IfSome (option_and_then (turn_going p w worker) g) (IsMade p w past)
    next None h = tt
    next (Some g) h = stepped g h (step_going p w g) refl

-- the history is legal, and this is the world after it
abbrev pub IsLegalAt : Providers → World → List Entry → Type 0
IsLegalAt p w past = Legal p past × (after p past ≡ w)

pub made-legal : (p : Providers) (w : World) (past : List Entry) → IsLegalAt p w past → (t : Turn) → IsMade p w past t → IsLegalAt p t.world (past ++ t.entry ∷ [])
made-legal p w past k t h =
    let made = subst (λ v. IsMade p v past t) (sym k.1) h in
    (legal-snoc p (opening p) [] past t.entry k.0 made.0, after-snoc p (opening p) [] past t.entry ∙ made.1)

pub turn-legal : (p : Providers) (lines : List Line) (w : World) (past : List Entry) (worker : ℕ) → IsLegalAt p w past →
    IfSome (turn p lines w past worker) (λ t. IsLegalAt p t.world (past ++ t.entry ∷ []))
turn-legal p lines w past worker k = IfSome_then (turn p lines w past worker) (turn-made p lines w past worker) (made-legal p w past k)

pub robin_from-legal : (p : Providers) (lines : List Line) (n : ℕ) (past : List Entry) → Legal p past → Legal p (robin_from p lines n (after p past) past)
robin_from-legal p lines n past l = (robin_from-keeps p lines (IsLegalAt p) (λ w past k. next_turn-each p lines w past (λ t. IsLegalAt p t.world (past ++ t.entry ∷ [])) (λ worker may. turn-legal p lines w past worker k)) n (after p past) past (l, refl)).1.0
