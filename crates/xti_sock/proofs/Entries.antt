-- What a call adds to the entries of the one who makes it.
use Rattle.std.proofs.Common.{◌≡◌, ◌∙◌, ℕ, false, List, [], ◌∷◌, ◌++◌, Result, Ok, Err, refl, ap, subst}
use Rattle.std.specs.List.{AllByRecursion}
use Rattle.std.specs.Prelude.{flat_map}
use Rattle.std.proofs.lemmas.Grind.{flat_map-append}
use Rattle.std.proofs.lemmas.List.Folds.{list_any-append}
use Rattle.std.proofs.lemmas.List.{append-nil}
use Rattle.std.proofs.Math.Bool.{or-false}
use Rattle.xti_base.specs.declared.kinds.Fd.{Fd}
use Rattle.xti_model.specs.declared.call.Call.{Call}
use Rattle.xti_model.specs.declared.entry.Act.TheVariants.{Begin}
use Rattle.xti_model.specs.declared.entry.Go.TheVariants as go
use Rattle.xti_model.specs.declared.entry.Entry.{Entry}
use Rattle.xti_model.specs.declared.entry.Outcome.{Outcome}
use Rattle.xti_model.specs.declared.entry.Outcome.TheVariants.{Done}
use Rattle.xti_model.specs.declared.entry.Reply.{Reply}
use Rattle.xti_sock.specs.declared.caller.CallEnd.{CallEnd}
use Rattle.xti_sock.specs.declared.caller.CallEnd.TheVariants.{OutOfMemory, Stalled}
use Rattle.xti_sock.specs.declared.heard.Heard.{Heard}
use Rattle.xti_sock.specs.declared.heard.Heard.TheVariants.{Ended}
use Rattle.xti_sock.specs.Sights.{Sight}
use Rattle.xti_sock.specs.SightSteps.{AreSteps, IsMore, Answered, Stopped, has_parts}
use Rattle.xti_sock.specs.Scripts.{Asked, heard_of, heard_in}
use Rattle.xti_sock.specs.Socks.{is_release, takes_release, was_released}
use Rattle.xti_sock.specs.Streams.{got_by, got_at, input}

-- ---- any call

-- so many entries were added, and all are steps of the call
pub record Adds (s : Sight) (c : Call) (t : Sight) : Type 0 where
  pub added : List Entry
  pub mine : t.mine ≡ s.mine ++ added
  pub steps : AreSteps c go.Begin added

adds-stopped : (s t : Sight) (c : Call) (n : ℕ) → Stopped c s t n → Adds s c t
adds-stopped s t c n h = record { added = h.parts; mine = h.mine; steps = h.steps }

pub adds : (s t : Sight) (c : Call) (h : Heard) → Asked s c h t → Adds s c t
adds s t c h a = adds-by a.answer a.made.made
  where
    adds-by : (r : Result Reply CallEnd) → Rattle.std.specs.Prelude.MatchResult r (Answered c s t) (Rattle.xti_sock.specs.Calling.Halted c s t) → Adds s c t
    adds-by (Ok reply) k = record { added = k.parts ++ k.last ∷ []; mine = k.mine; steps = k.steps }
    adds-by (Err (OutOfMemory n)) k = adds-stopped s t c n k
    adds-by (Err (Stalled n at)) k = adds-stopped s t c n k.stopped

-- ---- one step

-- the call was made in one step, of which this was heard; or it stopped before its first
pub data InOne (s : Sight) (c : Call) (h : Heard) (t : Sight) : Type 0 where
  step : (e : Entry) (r : Reply) → t.mine ≡ s.mine ++ e ∷ [] → e.act ≡ Begin c → e.outcome ≡ Done r → h ≡ heard_of r → InOne s c h t
  none : (e : CallEnd) → t.mine ≡ s.mine → h ≡ Ended e → InOne s c h t

none-stopped : (s t : Sight) (c : Call) (h : Heard) (e : CallEnd) (n : ℕ) → has_parts c ≡ false → Stopped c s t n → h ≡ Ended e → InOne s c h t
none-stopped s t c h e n p k q = none e (k.mine ∙ (ap (λ (es : List Entry). s.mine ++ es) (k.are_parts.none p) ∙ append-nil s.mine)) q

pub in-one : (s t : Sight) (c : Call) (h : Heard) → has_parts c ≡ false → Asked s c h t → InOne s c h t
in-one s t c h p a = by-answer a.answer a.made.made a.heard
  where
    by-answer : (r : Result Reply CallEnd) → Rattle.std.specs.Prelude.MatchResult r (Answered c s t) (Rattle.xti_sock.specs.Calling.Halted c s t) → h ≡ heard_in r → InOne s c h t
    by-answer (Ok reply) k q =
        let z = k.are_parts.none p in
        step k.last reply
        (subst (λ (es : List Entry). t.mine ≡ s.mine ++ (es ++ k.last ∷ [])) z k.mine)
        ((subst (λ (es : List Entry). AreSteps c go.Begin (es ++ k.last ∷ [])) z k.steps).0)
        k.outcome q
    by-answer (Err (OutOfMemory n)) k q = none-stopped s t c h (OutOfMemory n) n p k q
    by-answer (Err (Stalled n at)) k q = none-stopped s t c h (Stalled n at) n p k.stopped q

-- ---- releases among the entries

unreleased-more : (fd : Fd) (es : List Entry) → AllByRecursion IsMore es → was_released fd es ≡ false
unreleased-more fd [] h = refl
unreleased-more fd (e ∷ es) h = rw (h.0, unreleased-more fd es h.1) refl

-- no step of a call that isn't this release takes it
pub unreleased-steps : (fd : Fd) (c : Call) (es : List Entry) → is_release fd (Begin c) ≡ false → AreSteps c go.Begin es → was_released fd es ≡ false
unreleased-steps fd c [] q h = refl
unreleased-steps fd c (e ∷ es) q h = rw (h.0, q, unreleased-more fd es h.1) refl

pub released-other : (fd : Fd) (s t : Sight) (c : Call) (h : Heard) → is_release fd (Begin c) ≡ false → Asked s c h t → was_released fd t.mine ≡ was_released fd s.mine
released-other fd s t c h q a =
    let k = adds s t c h a in
    rw (k.mine, list_any-append (takes_release fd) s.mine k.added, unreleased-steps fd c k.added q k.steps) (or-false (was_released fd s.mine))

-- ---- input among the entries

no-input-more : (fd : Fd) (es : List Entry) → AllByRecursion IsMore es → input fd es ≡ []
no-input-more fd [] h = refl
no-input-more fd (e ∷ es) h = rw (h.0, no-input-more fd es h.1) refl

-- no step of a call that isn't a receive on the descriptor gives input
pub no-input-steps : (fd : Fd) (c : Call) (es : List Entry) → ((o : Outcome) → got_by fd (Begin c) o ≡ []) → AreSteps c go.Begin es → input fd es ≡ []
no-input-steps fd c [] q h = refl
no-input-steps fd c (e ∷ es) q h = rw (h.0, q e.outcome, no-input-more fd es h.1) refl

pub input-other : (fd : Fd) (s t : Sight) (c : Call) (h : Heard) → ((o : Outcome) → got_by fd (Begin c) o ≡ []) → Asked s c h t → input fd t.mine ≡ input fd s.mine
input-other fd s t c h q a =
    let k = adds s t c h a in
    rw (k.mine, flat_map-append (got_at fd) s.mine k.added, no-input-steps fd c k.added q k.steps) (append-nil (input fd s.mine))
