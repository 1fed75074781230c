-- Values that are as wide as their types: lists of bytes, and numbers of 32 bits.
use Rattle.std.specs.Prelude.{◌≡◌, ℕ, true, ◌<◌, ◌^◌, List, [], ◌∷◌, All}
use Rattle.std.specs.List.{concat}
use Rattle.xti_base.specs.declared.limit.Limit.{Limit}
use Rattle.xti_base.specs.declared.limit.Limit.TheVariants.{At}
use Rattle.xti_base.specs.declared.limit.Info.{Info}
use Rattle.xti_model.specs.declared.call.Call.{Call}
use Rattle.xti_model.specs.declared.call.Call.TheVariants as call
use Rattle.xti_model.specs.declared.entry.Act.{Act}
use Rattle.xti_model.specs.declared.entry.Act.TheVariants as act
use Rattle.xti_model.specs.declared.entry.Entry.{Entry}
use Rattle.xti_model.specs.declared.entry.Outcome.{Outcome}
use Rattle.xti_model.specs.declared.entry.Outcome.TheVariants.{Done, Part}
use Rattle.xti_model.specs.declared.entry.Reply.TheVariants as reply
use Rattle.xti_model.specs.declared.profile.Providers.{Providers}
use Rattle.xti_model.specs.History.{Legal}
use Rattle.xti_model.specs.Profile.{valid}
use Rattle.xti_model.specs.SentBytes.{AreBytes}

-- ---- arguments

-- each argument of the call that is a list of numbers is one of bytes: addresses, options and data
abbrev pub IsOfBytes : Call → Type 0
IsOfBytes (call.TBind fd addr qlen amax) = AreBytes addr
IsOfBytes (call.TConnect fd addr opt udata amax omax umax) = AreBytes addr × AreBytes opt × AreBytes udata
IsOfBytes (call.TAccept fd resfd seq opt udata) = AreBytes opt × AreBytes udata
IsOfBytes (call.TSnd fd bytes flags) = AreBytes bytes
IsOfBytes (call.TSndV fd parts flags) = AreBytes (concat parts)
IsOfBytes (call.TSndDis fd seq udata) = AreBytes udata
IsOfBytes (call.TSndRelData fd udata) = AreBytes udata
IsOfBytes (call.TSndUData fd addr opt bytes) = AreBytes addr × AreBytes opt × AreBytes bytes
IsOfBytes (call.TSndVUData fd addr opt parts) = AreBytes addr × AreBytes opt × AreBytes (concat parts)
IsOfBytes (call.TOptMgmt fd action opt omax) = AreBytes opt
IsOfBytes other = Unit {0}

-- a call that the act begins is of bytes
abbrev pub BeginsOfBytes : Act → Type 0
BeginsOfBytes (act.Begin c) = IsOfBytes c
BeginsOfBytes act.More = Unit {0}

-- each call that the entries begin is of bytes
abbrev pub AreOfBytes : List Entry → Type 0
AreOfBytes [] = Unit {0}
AreOfBytes (e ∷ es) = BeginsOfBytes e.act × AreOfBytes es

-- ---- answers

-- a number of 32 bits
abbrev pub IsNumber : ℕ → Type 0
IsNumber n = n < 2 ^ 32

abbrev pub IsLimit : Limit → Type 0
IsLimit (At n) = IsNumber n
IsLimit other = Unit {0}

-- the limits of a provider and its flags
pub record AreLimits (info : Info) : Type 0 where
  pub addr : IsLimit info.addr
  pub options : IsLimit info.options
  pub tsdu : IsLimit info.tsdu
  pub etsdu : IsLimit info.etsdu
  pub connect : IsLimit info.connect
  pub discon : IsLimit info.discon
  pub flags : IsNumber info.flags

-- each number of the answer has 32 bits, and each list of numbers in it is one of bytes
abbrev pub HasValues : Outcome → Type 0
HasValues (Part taken) = IsNumber taken
HasValues (Done (reply.Opened fd)) = IsNumber fd.0
HasValues (Done (reply.Bound addr qlen)) = AreBytes addr × IsNumber qlen
HasValues (Done (reply.Connected addr opt udata)) = AreBytes addr × AreBytes opt × AreBytes udata
HasValues (Done (reply.Listened seq addr opt udata)) = IsNumber seq.0 × AreBytes addr × AreBytes opt × AreBytes udata
HasValues (Done (reply.Sent n)) = IsNumber n
HasValues (Done (reply.Got bytes flags)) = AreBytes bytes × IsNumber flags
HasValues (Done (reply.Discon reason seq udata)) = IsNumber reason × IsNumber seq.0 × AreBytes udata
HasValues (Done (reply.RelData udata)) = AreBytes udata
HasValues (Done (reply.UData addr opt bytes flags)) = AreBytes addr × AreBytes opt × AreBytes bytes × IsNumber flags
HasValues (Done (reply.UDErr addr opt code)) = AreBytes addr × AreBytes opt × IsNumber code
HasValues (Done (reply.Limits info)) = AreLimits info
HasValues (Done (reply.Addresses local peer)) = AreBytes local × AreBytes peer
HasValues (Done (reply.Options result opt)) = IsNumber result × AreBytes opt
HasValues (Done (reply.Overflow seq)) = IsNumber seq.0
HasValues (Done other) = Unit {0}

-- the answer of an entry has such values
abbrev pub AnswersValues : Entry → Type 0
AnswersValues e = HasValues e.outcome

-- so have all answers of a legal history of valid providers whose calls are of bytes
abbrev pub KeepsValues : Providers → List Entry → Type 0
KeepsValues p entries = valid p ≡ true → Legal p entries → AreOfBytes entries → All AnswersValues entries
