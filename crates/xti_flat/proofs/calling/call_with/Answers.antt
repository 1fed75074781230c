use Rattle.std.proofs.Common.{◌≡◌, Some, ap, refl}
use Rattle.xti_base.specs.declared.kinds.Fd.{Fd}
use Rattle.xti_model.specs.declared.call.Call.{Call}
use Rattle.xti_model.specs.declared.call.Call.TheVariants as call
use Rattle.xti_verbs.specs.declared.verb.Verb.{Verb}
use Rattle.xti_verbs.specs.declared.verb.Verb.TheVariants.{Close, Unbind, SndRel, RcvRel, Look, GetState, Sync, GetInfo}
use Rattle.xti_verbs.specs.Verbs.{plain_call, verb_of}
use Rattle.xti_flat.specs.declared.asked.Asked.{Asked}
use Rattle.xti_flat.specs.declared.bytes.Bytes.{Bytes}
use Rattle.xti_flat.specs.Calls.{HasArguments}
use Rattle.xti_flat.proofs.calling.call_with.Goals as goal

-- a call that says no more than which endpoint has its descriptor as its one argument
plain-arguments : (v : Verb) (fd : Fd) (r : Call) (a : Asked) (b : Bytes) → Some r ≡ plain_call v fd → fd.0 ≡ a.fd → verb_of r ≡ v × HasArguments r a b
plain-arguments Close fd r a b h e = let q : r ≡ call.TClose fd = cc in rw q (refl, ap Some e)
plain-arguments Unbind fd r a b h e = let q : r ≡ call.TUnbind fd = cc in rw q (refl, ap Some e)
plain-arguments SndRel fd r a b h e = let q : r ≡ call.TSndRel fd = cc in rw q (refl, ap Some e)
plain-arguments RcvRel fd r a b h e = let q : r ≡ call.TRcvRel fd = cc in rw q (refl, ap Some e)
plain-arguments Look fd r a b h e = let q : r ≡ call.TLookAt fd = cc in rw q (refl, ap Some e)
plain-arguments GetState fd r a b h e = let q : r ≡ call.TGetState fd = cc in rw q (refl, ap Some e)
plain-arguments Sync fd r a b h e = let q : r ≡ call.TSync fd = cc in rw q (refl, ap Some e)
plain-arguments GetInfo fd r a b h e = let q : r ≡ call.TGetInfo fd = cc in rw q (refl, ap Some e)
plain-arguments other fd r a b h e = absurd (cc h)

pub returns-in_default-clause-call : goal.returns-in_default-clause-call
returns-in_default-clause-call c = plain-arguments c.args.verb _ c.plain_call.result c.args.asked.now c.args.bytes.now c.plain_call.ensures refl
