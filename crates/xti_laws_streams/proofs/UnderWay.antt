-- A send that was made in part has bytes left, after any legal entries.
use Rattle.std.proofs.Common.{ℕ, Bool, true, false, List, [], ◌∷◌, ◌++◌, ◌+◌, ◌-◌, ◌<◌, ◌≤◌, ◌≡◌, refl, sym, subst, cond, eqb, ◌||◌, length, min, Option, Some, None, IfSome, arith}
use Rattle.std.proofs.lemmas.Bool.{eqb-true, eq-eqb}
use Rattle.std.specs.List.{concat}
use Rattle.xti_model.specs.declared.call.Call.{Call}
use Rattle.xti_model.specs.declared.call.Call.TheVariants as call
use Rattle.xti_model.specs.declared.entry.Act.{Act}
use Rattle.xti_model.specs.declared.entry.Act.TheVariants as act
use Rattle.xti_model.specs.declared.entry.Go.{Go}
use Rattle.xti_model.specs.declared.entry.Go.TheVariants as go
use Rattle.xti_model.specs.declared.entry.Outcome.{Outcome}
use Rattle.xti_model.specs.declared.entry.Outcome.TheVariants.{Done, Part}
use Rattle.xti_model.specs.declared.entry.Reply.TheVariants.{Sent}
use Rattle.xti_model.specs.declared.entry.Entry.{Entry}
use Rattle.xti_model.specs.declared.profile.Providers.{Providers}
use Rattle.xti_model.specs.Endpoint.{Endpoint}
use Rattle.xti_model.specs.World.{World}
use Rattle.xti_model.specs.Links.{linked}
use Rattle.xti_model.specs.Arguments.{is_expedited}
use Rattle.xti_model.specs.Sending.{room_for}
use Rattle.xti_model.specs.Step.{Step, step, step_of, plan, send}
use Rattle.xti_model.specs.History.{Going, is_own, going_after, unfinished, unfinished_from, made_by, doing}
use Rattle.xti_model.specs.Calls.Send as Send
use Rattle.xti_model.proofs.Outcomes.{on_open-outcome, later_plan-outcome}
use Rattle.xti_model.proofs.Working.{own-more}
use Rattle.xti_model.specs.SentBytes.{SendsBytes, BeginsBytes}
use Rattle.xti_laws.proofs.StepWays.{not-both, some-is, none-is}
use Rattle.xti_laws_streams.proofs.OwnEntry.{after-own}

-- of a call that goes on with a step, fewer bytes were taken than it has
abbrev pub HasBytesLeft : List ℕ → Go → Type 0
HasBytesLeft bytes go.Begin = Unit {0}
HasBytesLeft bytes (go.More n) = n < length bytes

-- a send that goes on has bytes left
abbrev pub SendHasBytesLeft : Call → Go → Type 0
SendHasBytesLeft (call.TSnd fd bytes flags) g = HasBytesLeft bytes g
SendHasBytesLeft (call.TSndV fd parts flags) g = HasBytesLeft (concat parts) g
SendHasBytesLeft other g = Unit {0}

-- an unfinished call sends bytes, and has some left
abbrev pub SendGoesOn : Option Going → Type 0
SendGoesOn None = Unit {0}
SendGoesOn (Some g) = SendsBytes g.call × SendHasBytesLeft g.call g.so_far

-- a part is less than all
abbrev LeavesBytes : List ℕ → Outcome → Type 0
LeavesBytes bytes (Done r) = Unit {0}
LeavesBytes bytes (Part n) = n < length bytes

part-leaves : (bytes : List ℕ) (taken room n : ℕ) (e : Endpoint) → taken ≤ length bytes → n ≡ taken + min (length bytes - taken) room → LeavesBytes bytes (Send.outcome e (length bytes) n)
part-leaves bytes taken room n e h i = go (eqb n (length bytes)) refl e.nonblock
  where
    go : (b : Bool) → eqb n (length bytes) ≡ b → (d : Bool) → LeavesBytes bytes (cond (b || d) (Done (Sent n)) (Part n))
    go true j d = tt
    go false j true = tt
    go false j false = let ne : (n ≡ length bytes) → ⊥ = λ k. not-both (eqb n (length bytes)) j (eq-eqb n (length bytes) k) in omega (arith, ne)

send-leaves : (p : Providers) (w : World) (fd parts : ℕ) (bytes : List ℕ) (flags : ℕ) (g : Go) → HasBytesLeft bytes g → IfSome (step_of p w (send p w fd parts bytes flags g)) (λ s. LeavesBytes bytes s.outcome)
send-leaves p w fd parts bytes flags go.Begin u = on_open-outcome (LeavesBytes bytes) (λ r. tt) p w fd (λ e. Send.plan_to p fd parts bytes flags 0 e (linked p w fd e))
    (λ e n. part-leaves bytes 0 (room_for (is_expedited flags) e (linked p w fd e)) (0 + Send.taken_now (linked p w fd e) e (is_expedited flags) (length bytes - 0)) e (omega arith) refl)
send-leaves p w fd parts bytes flags (go.More m) u = later_plan-outcome (LeavesBytes bytes) (λ r. tt) p w m fd (λ e. Send.plan_to p fd parts bytes flags m e (linked p w fd e))
    (λ e n. part-leaves bytes m (room_for (is_expedited flags) e (linked p w fd e)) (m + Send.taken_now (linked p w fd e) e (is_expedited flags) (length bytes - m)) e (omega arith) refl)

-- a send of which a step made a part has bytes left
abbrev SendGoesOnAfter : Call → Outcome → Type 0
SendGoesOnAfter c (Done r) = Unit {0}
SendGoesOnAfter c (Part n) = SendHasBytesLeft c (go.More n)

leaves-goes_on : (c : Call) (bytes : List ℕ) → ((n : ℕ) → n < length bytes → SendHasBytesLeft c (go.More n)) → (o : Outcome) → LeavesBytes bytes o → SendGoesOnAfter c o
leaves-goes_on c bytes h (Done r) l = tt
leaves-goes_on c bytes h (Part n) l = h n l

any-goes_on : (c : Call) → ((n : ℕ) → SendHasBytesLeft c (go.More n)) → (o : Outcome) → SendGoesOnAfter c o
any-goes_on c h (Done r) = tt
any-goes_on c h (Part n) = h n

if-some : {A : Type 0} (P : A → Type 0) (o : Option A) (a : A) → IfSome o P → o ≡ Some a → P a
if-some P None a h i = absurd (none-is a i)
if-some P (Some b) a h i = subst P (some-is b a i) h

step-goes_on : (p : Providers) (w : World) (c : Call) (g : Go) (s : Step) → SendHasBytesLeft c g → step p w c g ≡ Some s → SendGoesOnAfter c s.outcome
unfolding step plan
step-goes_on p w (call.TSnd fd bytes flags) g s m h = leaves-goes_on (call.TSnd fd bytes flags) bytes (λ n l. l) s.outcome (if-some (λ s. LeavesBytes bytes s.outcome) (step_of p w (send p w fd.0 1 bytes flags g)) s (send-leaves p w fd.0 1 bytes flags g m) h)
step-goes_on p w (call.TSndV fd parts flags) g s m h = leaves-goes_on (call.TSndV fd parts flags) (concat parts) (λ n l. l) s.outcome (if-some (λ s. LeavesBytes (concat parts) s.outcome) (step_of p w (send p w fd.0 (length parts) (concat parts) flags g)) s (send-leaves p w fd.0 (length parts) (concat parts) flags g m) h)
step-goes_on p w other g s m h = any-goes_on other (λ n. tt) s.outcome

-- an entry is a step of a call that sends bytes and, where it goes on, has some left
pub doing-goes_on : (past : List Entry) (e : Entry) (g : Going) → SendGoesOn (unfinished past e.worker) → BeginsBytes e.act → doing past e ≡ Some g → SendsBytes g.call × SendHasBytesLeft g.call g.so_far
doing-goes_on past e g r b h = go (unfinished past e.worker) e.act r b h
  where
    begin-more : (c : Call) → SendHasBytesLeft c go.Begin
    begin-more (call.TSnd fd bytes flags) = tt
    begin-more (call.TSndV fd parts flags) = tt
    begin-more other = tt

    go : (u : Option Going) (a : Act) → SendGoesOn u → BeginsBytes a → made_by u a ≡ Some g → SendsBytes g.call × SendHasBytesLeft g.call g.so_far
    go None (act.Begin c) r b h = subst (λ z. SendsBytes z.call × SendHasBytesLeft z.call z.so_far) (some-is _ g h) (b, begin-more c)
    go (Some u) (act.Begin c) r b h = absurd (none-is g h)
    go None act.More r b h = absurd (none-is g h)
    go (Some u) act.More r b h = subst (λ z. SendsBytes z.call × SendHasBytesLeft z.call z.so_far) (some-is u g h) r

after-goes_on : (g : Going) (o : Outcome) → SendsBytes g.call → SendGoesOnAfter g.call o → SendGoesOn (going_after (Some g.call) o)
after-goes_on g (Done r) b h = tt
after-goes_on g (Part n) b h = (b, h)

-- so it is of every worker after the entry
pub next-goes_on : (p : Providers) (w : World) (past : List Entry) (e : Entry) (g : Going) (s : Step) → ((n : ℕ) → SendGoesOn (unfinished past n)) → SendsBytes g.call × SendHasBytesLeft g.call g.so_far → doing past e ≡ Some g → step p w g.call g.so_far ≡ Some s → e.outcome ≡ s.outcome
    → (n : ℕ) → SendGoesOn (unfinished (past ++ e ∷ []) n)
next-goes_on p w past e g s r b d h o n = go (is_own n e) refl
  where
    mine : is_own n e ≡ true → SendGoesOn (unfinished (past ++ e ∷ []) n)
    mine i = subst (λ z. SendGoesOn (unfinished (past ++ e ∷ []) z)) (eqb-true e.worker n i)
        (subst SendGoesOn (sym (after-own past e g d)) (after-goes_on g e.outcome b.0 (subst (SendGoesOnAfter g.call) (sym o) (step-goes_on p w g.call g.so_far s b.1 h))))

    go : (d : Bool) → is_own n e ≡ d → SendGoesOn (unfinished (past ++ e ∷ []) n)
    go true i = mine i
    go false i = subst (λ es. SendGoesOn (unfinished_from None None es)) (sym (own-more past e n false i)) (r n)
