use Rattle.std.proofs.Common.{◌≡◌, ◌∙◌, refl, sym, subst, ap, drop, true, false, List, [], ◌∷◌, Some}
use Rattle.std.specs.Option.{IfSome}
use Rattle.xti_base.specs.declared.kinds.Fd.{Fd}
use Rattle.xti_model.specs.declared.call.Call.{Call}
use Rattle.xti_verbs.specs.declared.verb.Verb.{Verb}
use Rattle.xti_verbs.specs.declared.verb.Verb.TheVariants.{Open, Close, Bind, Unbind, Connect, RcvConnect, Listen, Accept, Snd, SndV, Rcv, RcvV, SndDis, RcvDis, SndRel, RcvRel, SndRelData, RcvRelData, SndUData, SndVUData, RcvUData, RcvVUData, RcvUDErr, Look, GetState, Sync, GetInfo, GetProtAddr, OptMgmt, SetMode}
use Rattle.xti_verbs.specs.Verbs.{is_plain, plain_call, verb_of}
use Rattle.xti_journal.specs.Calls.{call_values, form}
use Rattle.xti_journal.specs.Fields.{field}
use Rattle.xti_journal.specs.FieldValue.{Value}
use Rattle.xti_journal.specs.FieldValue.{Value as value}
use Rattle.xti_journal.specs.Kinds.{Kind as kind}
use Rattle.xti_journal.specs.declared.fields.Key.TheVariants as key
use Rattle.xti_journal.specs.Unread.{NextIs, Reads}
use Rattle.xti_journal.proofs.calls.read_plain.Goals as goal

never : {P : Type 0} → false ≡ true → P
never is = absurd (cc)

-- such a call has one field
plain_form : (verb : Verb) → is_plain verb ≡ true → form verb ≡ key.Number ∷ []
unfolding form
plain_form Open is = never is
plain_form Close is = refl
plain_form Bind is = never is
plain_form Unbind is = refl
plain_form Connect is = never is
plain_form RcvConnect is = never is
plain_form Listen is = never is
plain_form Accept is = never is
plain_form Snd is = never is
plain_form SndV is = never is
plain_form Rcv is = never is
plain_form RcvV is = never is
plain_form SndDis is = never is
plain_form RcvDis is = never is
plain_form SndRel is = refl
plain_form RcvRel is = refl
plain_form SndRelData is = never is
plain_form RcvRelData is = never is
plain_form SndUData is = never is
plain_form SndVUData is = never is
plain_form RcvUData is = never is
plain_form RcvVUData is = never is
plain_form RcvUDErr is = never is
plain_form Look is = refl
plain_form GetState is = refl
plain_form Sync is = refl
plain_form GetInfo is = refl
plain_form GetProtAddr is = never is
plain_form OptMgmt is = never is
plain_form SetMode is = never is

-- its verb and its one value
abbrev IsPlain : Verb → Fd → Call → Type 0
IsPlain verb fd call = (verb_of call ≡ verb) × (call_values call ≡ value.Number fd.0 ∷ [])

plain_calls : (verb : Verb) (fd : Fd) → IfSome (plain_call verb fd) (IsPlain verb fd)
plain_calls Open fd = tt
plain_calls Close fd = (refl, refl)
plain_calls Bind fd = tt
plain_calls Unbind fd = (refl, refl)
plain_calls Connect fd = tt
plain_calls RcvConnect fd = tt
plain_calls Listen fd = tt
plain_calls Accept fd = tt
plain_calls Snd fd = tt
plain_calls SndV fd = tt
plain_calls Rcv fd = tt
plain_calls RcvV fd = tt
plain_calls SndDis fd = tt
plain_calls RcvDis fd = tt
plain_calls SndRel fd = (refl, refl)
plain_calls RcvRel fd = (refl, refl)
plain_calls SndRelData fd = tt
plain_calls RcvRelData fd = tt
plain_calls SndUData fd = tt
plain_calls SndVUData fd = tt
plain_calls RcvUData fd = tt
plain_calls RcvVUData fd = tt
plain_calls RcvUDErr fd = tt
plain_calls Look fd = (refl, refl)
plain_calls GetState fd = (refl, refl)
plain_calls Sync fd = (refl, refl)
plain_calls GetInfo fd = (refl, refl)
plain_calls GetProtAddr fd = tt
plain_calls OptMgmt fd = tt
plain_calls SetMode fd = tt

is_call : {verb : Verb} {fd : Fd} {call : Call} → Some call ≡ plain_call verb fd → IsPlain verb fd call
is_call {verb = verb} {fd = fd} e = subst (λ given. IfSome given (IsPlain verb fd)) (sym e) (plain_calls verb fd)

pub fd-requires : goal.fd-requires
unfolding field
fd-requires c = subst (NextIs kind.Number) (sym (c.requires.keys ∙ plain_form c.args.verb c.requires.family)) refl

pub plain_call-requires : goal.plain_call-requires
plain_call-requires c = c.requires.family

pub returns-clause-verb : goal.returns-clause-verb
returns-clause-verb c = (is_call c.plain_call.ensures).0

pub returns-clause-values : goal.returns-clause-values
returns-clause-values c =
    subst (λ (values : List Value). Reads values c.args.fields.now c.fd.new.self) (sym (is_call c.plain_call.ensures).1) c.fd.ensures.value

pub returns-clause-keys : goal.returns-clause-keys
returns-clause-keys c = c.fd.ensures.keys ∙ ap (drop 1) (c.requires.keys ∙ plain_form c.args.verb c.requires.family)
