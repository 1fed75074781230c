use Rattle.std.proofs.Common.{◌≡◌, ◌∙◌, refl, sym, true, List, ℕ, [], ◌∷◌, Bool, false, drop, ap, subst, Option, Some, None, ◌⊎◌, inl, inr}
use Rattle.xti_verbs.specs.declared.verb.Verb.{Verb}
use Rattle.xti_verbs.specs.declared.verb.Verb.TheVariants.{Open, Close, Bind, Unbind, Connect, RcvConnect, Listen, Accept, Snd, SndV, Rcv, RcvV, SndDis, RcvDis, SndRel, RcvRel, SndRelData, RcvRelData, SndUData, SndVUData, RcvUData, RcvVUData, RcvUDErr, Look, GetState, Sync, GetInfo, GetProtAddr, OptMgmt, SetMode}
use Rattle.xti_verbs.specs.Verbs.{is_plain, plain_named_call}
use Rattle.xti_script_reader.specs.Calls.{call_with, form}
use Rattle.xti_script_reader.specs.Fields.{field}
use Rattle.xti_script_reader.specs.FieldValue.{Value as value}
use Rattle.xti_script_reader.specs.declared.fields.Key.TheVariants as key
use Rattle.xti_model.specs.declared.script.NamedCall.{NamedCall}
use Rattle.xti_words.specs.Noted.{left}
use Rattle.xti_words.specs.Values.{onto}
use Rattle.xti_script_reader.specs.FieldValue.{Value}
use Rattle.xti_script_reader.specs.Names.{Spot}
use Rattle.xti_script_reader.specs.declared.fields.Key.{Key}
use Rattle.xti_script_reader.specs.declared.fields.Fields.{Fields}
use Rattle.xti_script_reader.specs.Reading.{fields_of, with_values}
use Rattle.xti_script_reader.specs.Unread.{alone, IsNext, Makes, Reads, spot_of, unread}
use Rattle.xti_script_reader.proofs.field_calls.read_plain.Goals as goal

never : {P : Type 0} → false ≡ true → P
never is = absurd (cc)

-- where no keys are left, there is nothing, or no other value
none_left : (wrong : Bool) (s : Spot) (keys : List Key) (words : List (List ℕ)) → keys ≡ [] → (left wrong (fields_of s keys words) ≡ None) ⊎ (left wrong (fields_of s keys words) ≡ Some [])
none_left true s keys words e = inl refl
none_left false s keys [] e = inr (rw e refl)
none_left false s keys (word ∷ words) e = inl (rw e refl)

-- the last value makes the call
made : (verb : Verb) (call : NamedCall) (value : Value) (old new : Fields) → new.keys.now ≡ [] → call_with verb (value ∷ []) ≡ Some call → Reads value old new → Makes verb call old new
made verb call value old new keys e (inl out) = inl out
made verb call value old new keys e (inr (same, read)) = inr (same, by (unread new) (none_left new.noted.is_wrong (spot_of new) new.keys.now new.words keys) read)
  where
    by : (others : Option (List Value)) → (others ≡ None) ⊎ (others ≡ Some []) → unread old ≡ onto (Some value) others → with_values verb (unread old) ≡ alone call others
    by others (inl none) read = rw (read, none) refl
    by others (inr last) read = rw (read, last) e

-- such a call has one field
plain_form : (verb : Verb) → is_plain verb ≡ true → form verb ≡ key.Endpoint ∷ []
unfolding form
plain_form Open is = never is
plain_form Close is = refl
plain_form Bind is = never is
plain_form Unbind is = refl
plain_form Connect is = never is
plain_form RcvConnect is = never is
plain_form Listen is = never is
plain_form Accept is = never is
plain_form Snd is = never is
plain_form SndV is = never is
plain_form Rcv is = never is
plain_form RcvV is = never is
plain_form SndDis is = never is
plain_form RcvDis is = never is
plain_form SndRel is = refl
plain_form RcvRel is = refl
plain_form SndRelData is = never is
plain_form RcvRelData is = never is
plain_form SndUData is = never is
plain_form SndVUData is = never is
plain_form RcvUData is = never is
plain_form RcvVUData is = never is
plain_form RcvUDErr is = never is
plain_form Look is = refl
plain_form GetState is = refl
plain_form Sync is = refl
plain_form GetInfo is = refl
plain_form GetProtAddr is = never is
plain_form OptMgmt is = never is
plain_form SetMode is = never is

-- the name makes the call
plain_made : (verb : Verb) (name : List ℕ) → is_plain verb ≡ true → call_with verb (value.Name name ∷ []) ≡ plain_named_call verb name
unfolding call_with
plain_made Open name is = never is
plain_made Close name is = refl
plain_made Bind name is = never is
plain_made Unbind name is = refl
plain_made Connect name is = never is
plain_made RcvConnect name is = never is
plain_made Listen name is = never is
plain_made Accept name is = never is
plain_made Snd name is = never is
plain_made SndV name is = never is
plain_made Rcv name is = never is
plain_made RcvV name is = never is
plain_made SndDis name is = never is
plain_made RcvDis name is = never is
plain_made SndRel name is = refl
plain_made RcvRel name is = refl
plain_made SndRelData name is = never is
plain_made RcvRelData name is = never is
plain_made SndUData name is = never is
plain_made SndVUData name is = never is
plain_made RcvUData name is = never is
plain_made RcvVUData name is = never is
plain_made RcvUDErr name is = never is
plain_made Look name is = refl
plain_made GetState name is = refl
plain_made Sync name is = refl
plain_made GetInfo name is = refl
plain_made GetProtAddr name is = never is
plain_made OptMgmt name is = never is
plain_made SetMode name is = never is

pub name-requires-clause-next : goal.name-requires-clause-next
name-requires-clause-next c = subst (IsNext key.Endpoint) (sym (c.requires.keys ∙ plain_form c.args.verb c.requires.family)) refl

pub name-requires-clause-bare : goal.name-requires-clause-bare
unfolding field
name-requires-clause-bare c = refl

pub name-requires-clause-kind : goal.name-requires-clause-kind
unfolding field
name-requires-clause-kind c = refl

pub plain_named_call-requires : goal.plain_named_call-requires
plain_named_call-requires c = c.requires.family

pub returns-clause-call : goal.returns-clause-call
returns-clause-call c =
    made c.args.verb c.plain_named_call.result (value.Name c.name.result) c.args.fields.now c.name.new.self (c.name.ensures.keys ∙ ap (drop 1) (c.requires.keys ∙ plain_form c.args.verb c.requires.family))
    (plain_made c.args.verb c.name.result c.requires.family ∙ sym c.plain_named_call.ensures) c.name.ensures.value

pub returns-clause-keys : goal.returns-clause-keys
returns-clause-keys c = c.name.ensures.keys ∙ ap (drop 1) (c.requires.keys ∙ plain_form c.args.verb c.requires.family)
