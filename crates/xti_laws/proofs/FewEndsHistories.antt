-- After any entries whose sends are of bytes few ends wait.
use Rattle.std.proofs.Common.{ℕ, Bool, true, false, List, [], ◌∷◌, ◌++◌, ◌≡◌, refl, cond, sym, subst, ◌∙◌, Option, Some, None}
use Rattle.std.specs.Prelude.{option_and_then}
use Rattle.xti_model.specs.declared.call.Call.{Call}
use Rattle.xti_model.specs.declared.entry.Act.{Act}
use Rattle.xti_model.specs.declared.entry.Act.TheVariants as act
use Rattle.xti_model.specs.declared.entry.Entry.{Entry}
use Rattle.xti_model.specs.declared.entry.Outcome.{Outcome}
use Rattle.xti_model.specs.declared.entry.Outcome.TheVariants.{Done, Part}
use Rattle.xti_model.specs.declared.profile.Providers.{Providers}
use Rattle.xti_model.specs.World.{World, opening}
use Rattle.xti_model.specs.Step.{Step, step}
use Rattle.xti_model.specs.History.{Going, own, call_after, going_after, unfinished_from, unfinished, begins, made_by, doing, step_going, step_at, left_by, after_from, after}
use Rattle.xti_laws.proofs.OwnEntries.{own-kept}
use Rattle.xti_laws.proofs.RequestHistories.{opening-none, opening-sound}
use Rattle.xti_laws.proofs.Steps.{sound-step, bound-step}
use Rattle.xti_laws.specs.Requests.{SoundLinks, BoundToOpen}
use Rattle.xti_laws.specs.Invariant.{Paired}
use Rattle.xti_laws.proofs.PairedAfterCalls.{next-paired}
use Rattle.xti_laws.proofs.StepWays.{none-is}
use Rattle.xti_model.specs.SentBytes.{SendsBytes, BeginsBytes, AllSendBytes}
use Rattle.xti_laws.specs.Symbols.{SoundSymbols}
use Rattle.xti_laws.proofs.FewEndsAfterCalls.{step-symbols}

abbrev ByteCall : Option Call → Type 0
ByteCall None = Unit {0}
ByteCall (Some c) = SendsBytes c

abbrev ByteGoing : Option Going → Type 0
ByteGoing None = Unit {0}
ByteGoing (Some g) = SendsBytes g.call

call-bytes : (o : Option Call) (a : Act) → ByteCall o → BeginsBytes a → ByteCall (call_after o a)
call-bytes o (act.Begin c) h k = k
call-bytes o act.More h k = h

going-bytes : (o : Option Call) (outcome : Outcome) → ByteCall o → ByteGoing (going_after o outcome)
going-bytes None outcome h = tt
going-bytes (Some c) (Done reply) h = tt
going-bytes (Some c) (Part n) h = h

unfinished-bytes : (o : Option Call) (g : Option Going) (es : List Entry) → ByteCall o → ByteGoing g → AllSendBytes es → ByteGoing (unfinished_from o g es)
unfinished-bytes o g [] h k a = k
unfinished-bytes o g (e ∷ es) h k a = unfinished-bytes (call_after o e.act) (going_after (call_after o e.act) e.outcome) es (call-bytes o e.act h a.0) (going-bytes (call_after o e.act) e.outcome (call-bytes o e.act h a.0)) a.1

doing-bytes : (past : List Entry) (e : Entry) → AllSendBytes past → BeginsBytes e.act → ByteGoing (doing past e)
doing-bytes past e h k = go (unfinished past e.worker) e.act k (unfinished-bytes None None (own past e.worker) tt tt (own-kept AllSendBytes (λ e es a. a.1) (λ e es kept a k. (a.0, k)) tt past e.worker h))
  where
    begun : (o : Option Going) (c : Call) → SendsBytes c → ByteGoing (begins o c)
    begun None c i = i
    begun (Some g) c i = tt

    go : (o : Option Going) (a : Act) → BeginsBytes a → ByteGoing o → ByteGoing (made_by o a)
    go o (act.Begin c) i j = begun o c i
    go o act.More i j = j

-- what the induction carries
record Carried (p : Providers) (w : World) : Type 0 where
  links : SoundLinks p w
  bound : BoundToOpen p w
  pairs : Paired p w
  symbols : SoundSymbols p w

going-symbols : (p : Providers) (w : World) (o : Option Going) → ByteGoing o → Carried p w → Carried p (left_by w (option_and_then (step_going p w) o))
going-symbols p w None b h = h
going-symbols p w (Some g) b h = go (step p w g.call g.so_far) refl
  where
    go : (o : Option Step) → step p w g.call g.so_far ≡ o → Carried p (left_by w o)
    go None i = h
    go (Some s) i = record { links = sound-step p w g.call g.so_far s h.links h.bound i; bound = bound-step p w g.call g.so_far s h.bound i; pairs = subst (λ o. Paired p (left_by w o)) i (next-paired p w g.call g.so_far h.links h.pairs); symbols = step-symbols p w g.call g.so_far s b h.pairs h.symbols i }

more-bytes : (past : List Entry) (e : Entry) → AllSendBytes past → BeginsBytes e.act → AllSendBytes (past ++ e ∷ [])
more-bytes [] e h k = (k, tt)
more-bytes (x ∷ past) e h k = (h.0, more-bytes past e h.1 k)

after_from-symbols : (p : Providers) (w : World) (past es : List Entry) → AllSendBytes past → AllSendBytes es → Carried p w → Carried p (after_from p w past es)
after_from-symbols p w past [] a b h = h
after_from-symbols p w past (e ∷ es) a b h = after_from-symbols p (left_by w (step_at p w past e)) (past ++ e ∷ []) es (more-bytes past e a b.0) b.1 (going-symbols p w (doing past e) (doing-bytes past e a b.0) h)

pub opening-symbols : (p : Providers) → SoundSymbols p (opening p)
opening-symbols p fd e o = absurd (none-is e (sym (opening-none p fd) ∙ o))

pub after-symbols : (p : Providers) (es : List Entry) → AllSendBytes es → SoundSymbols p (after p es)
after-symbols p es a = (after_from-symbols p (opening p) [] es tt a (record { links = (opening-sound p).links; bound = (opening-sound p).bound; pairs = λ x y e d o k i j. absurd (none-is e (sym (opening-none p x) ∙ o)); symbols = opening-symbols p })).symbols
