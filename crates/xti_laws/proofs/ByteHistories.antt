-- Along a legal history whose calls are of bytes, each answer has values as wide as their types.
use Rattle.std.proofs.Common.{true, List, [], ◌∷◌, ◌++◌, ◌≡◌, refl, sym, subst, Option, Some, None}
use Rattle.std.specs.Prelude.{option_and_then, All}
use Rattle.std.proofs.lemmas.List.Elements.{All-nil, All-cons}
use Rattle.xti_model.specs.declared.call.Call.{Call}
use Rattle.xti_model.specs.declared.entry.Act.{Act}
use Rattle.xti_model.specs.declared.entry.Act.TheVariants as act
use Rattle.xti_model.specs.declared.entry.Entry.{Entry}
use Rattle.xti_model.specs.declared.entry.Outcome.{Outcome}
use Rattle.xti_model.specs.declared.entry.Outcome.TheVariants.{Done, Part}
use Rattle.xti_model.specs.declared.profile.Providers.{Providers}
use Rattle.xti_model.specs.Profile.{valid}
use Rattle.xti_model.specs.World.{World, opening}
use Rattle.xti_model.specs.Step.{Step, step}
use Rattle.xti_model.specs.History.{Going, own, call_after, going_after, unfinished_from, unfinished, begins, made_by, doing, step_going, step_at, left_by, Fits, LegalFrom, Legal}
use Rattle.xti_laws.proofs.OwnEntries.{own-kept}
use Rattle.xti_laws.proofs.RequestHistories.{opening-none}
use Rattle.xti_laws.specs.Invariant.{SoundWorld}
use Rattle.xti_laws.specs.Given.{StaysSound}
use Rattle.xti_laws.specs.Values.{IsOfBytes, BeginsOfBytes, AreOfBytes, HasValues, AnswersValues}
use Rattle.xti_laws.proofs.ByteWorlds.{Bytes, AllBytes, next-bytes}
use Rattle.xti_laws.proofs.ByteReplies.{IsNumberGo, replies-valued}

abbrev ByteCall : Option Call → Type 0
ByteCall None = Unit {0}
ByteCall (Some c) = IsOfBytes c

-- a call that goes on is of bytes, and the number of those that it has taken has 32 bits
abbrev ByteGoing : Option Going → Type 0
ByteGoing None = Unit {0}
ByteGoing (Some g) = IsOfBytes g.call × IsNumberGo g.so_far

-- entries whose calls are of bytes, and whose answers have such values
abbrev Past : List Entry → Type 0
Past [] = Unit {0}
Past (e ∷ es) = (BeginsOfBytes e.act × HasValues e.outcome) × Past es

call-bytes : (o : Option Call) (a : Act) → ByteCall o → BeginsOfBytes a → ByteCall (call_after o a)
call-bytes o (act.Begin c) h k = k
call-bytes o act.More h k = h

going-bytes : (o : Option Call) (outcome : Outcome) → ByteCall o → HasValues outcome → ByteGoing (going_after o outcome)
going-bytes None outcome h v = tt
going-bytes (Some c) (Done reply) h v = tt
going-bytes (Some c) (Part n) h v = (h, v)

unfinished-bytes : (o : Option Call) (g : Option Going) (es : List Entry) → ByteCall o → ByteGoing g → Past es → ByteGoing (unfinished_from o g es)
unfinished-bytes o g [] h k a = k
unfinished-bytes o g (e ∷ es) h k a = (let c = call-bytes o e.act h a.0.0 in unfinished-bytes (call_after o e.act) (going_after (call_after o e.act) e.outcome) es c (going-bytes (call_after o e.act) e.outcome c a.0.1) a.1)

doing-bytes : (past : List Entry) (e : Entry) → Past past → BeginsOfBytes e.act → ByteGoing (doing past e)
doing-bytes past e h k = go (unfinished past e.worker) e.act k (unfinished-bytes None None (own past e.worker) tt tt (own-kept Past (λ e es a. a.1) (λ e es kept a k. (a.0, k)) tt past e.worker h))
  where
    begun : (o : Option Going) (c : Call) → IsOfBytes c → ByteGoing (begins o c)
    begun None c i = (i, tt)
    begun (Some g) c i = tt

    go : (o : Option Going) (a : Act) → BeginsOfBytes a → ByteGoing o → ByteGoing (made_by o a)
    go o (act.Begin c) i j = begun o c i
    go o act.More i j = j

past-more : (past : List Entry) (e : Entry) → Past past → BeginsOfBytes e.act → HasValues e.outcome → Past (past ++ e ∷ [])
past-more [] e h k v = ((k, v), tt)
past-more (x ∷ past) e h k v = (h.0, past-more past e h.1 k v)

-- a world that the entries so far lead to
record Carried (p : Providers) (w : World) : Type 0 where
  sound : SoundWorld p w
  bytes : AllBytes p w

-- the step of an entry
stepped : (p : Providers) (w : World) (o : Option Going) (e : Entry) → valid p ≡ true → ((c : Call) (g : _) → StaysSound p w c g) → ByteGoing o → Carried p w → Fits (option_and_then (step_going p w) o) e
    → HasValues e.outcome × Carried p (left_by w (option_and_then (step_going p w) o))
stepped p w None e v stays b h f = absurd f
stepped p w (Some g) e v stays b h f = go (step p w g.call g.so_far) refl f
  where
    go : (o : Option Step) → step p w g.call g.so_far ≡ o → Fits o e → HasValues e.outcome × Carried p (left_by w o)
    go None i k = absurd k
    go (Some s) i k = (
      subst HasValues (sym k.0) (replies-valued p w v h.sound h.bytes g.call g.so_far s b.0 b.1 i),
      record { sound = stays g.call g.so_far h.sound s i; bytes = subst (λ o. AllBytes p (left_by w o)) i (next-bytes p w g.call g.so_far b.0 h.sound h.bytes) },
    )

values-from : (p : Providers) (w : World) (past es : List Entry) → valid p ≡ true → ((w : World) (c : Call) (g : _) → StaysSound p w c g) → Past past → AreOfBytes es → Carried p w → LegalFrom p w past es → All AnswersValues es
values-from p w past [] v stays a b h l = All-nil AnswersValues
values-from p w past (e ∷ es) v stays a b h l =
    let s = stepped p w (doing past e) e v (stays w) (doing-bytes past e a b.0) h l.0 in
    All-cons AnswersValues e es s.0 (values-from p (left_by w (step_at p w past e)) (past ++ e ∷ []) es v stays (past-more past e a b.0 s.0) b.1 s.1 l.1)

pub history-values : (p : Providers) (es : List Entry) → SoundWorld p (opening p) → ((w : World) (c : Call) (g : _) → StaysSound p w c g) → valid p ≡ true → AreOfBytes es → Legal p es → All AnswersValues es
history-values p es start stays v b l = values-from p (opening p) [] es v stays tt b (record { sound = start; bytes = λ z. subst Bytes (sym (opening-none p z)) tt }) l
