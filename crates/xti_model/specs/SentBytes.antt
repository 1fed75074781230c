-- Data that is sent as bytes: each number is below 256, and none is the end of a message.
use Rattle.std.specs.Prelude.{ℕ, ◌<◌, List, [], ◌∷◌, All}
use Rattle.std.specs.List.{concat}
use Rattle.xti_model.specs.declared.call.Call.{Call}
use Rattle.xti_model.specs.declared.call.Call.TheVariants as call
use Rattle.xti_model.specs.declared.entry.Act.{Act}
use Rattle.xti_model.specs.declared.entry.Act.TheVariants as act
use Rattle.xti_model.specs.declared.entry.Entry.{Entry}
use Rattle.xti_model.specs.declared.script.NamedCall.{NamedCall}
use Rattle.xti_model.specs.declared.script.NamedCall.TheVariants as named
use Rattle.xti_model.specs.declared.script.Line.{Line}

-- each number is below 256
abbrev pub AreBytes : List ℕ → Type 0
AreBytes numbers = All (λ b. b < 256) numbers

-- what the call sends on a connection is bytes
abbrev pub SendsBytes : Call → Type 0
SendsBytes (call.TSnd fd bytes flags) = AreBytes bytes
SendsBytes (call.TSndV fd parts flags) = AreBytes (concat parts)
SendsBytes other = Unit {0}

-- a call that the act begins sends bytes
abbrev pub BeginsBytes : Act → Type 0
BeginsBytes (act.Begin c) = SendsBytes c
BeginsBytes act.More = Unit {0}

-- each call that the entries begin sends bytes
abbrev pub AllSendBytes : List Entry → Type 0
AllSendBytes [] = Unit {0}
AllSendBytes (e ∷ es) = BeginsBytes e.act × AllSendBytes es

-- each argument of the call that is a list of numbers is one of bytes: addresses, options and data
abbrev pub HasByteArguments : NamedCall → Type 0
HasByteArguments (named.TBind fd addr qlen amax) = AreBytes addr
HasByteArguments (named.TConnect fd addr opt udata amax omax umax) = AreBytes addr × AreBytes opt × AreBytes udata
HasByteArguments (named.TAccept fd resfd seq opt udata) = AreBytes opt × AreBytes udata
HasByteArguments (named.TSnd fd bytes flags) = AreBytes bytes
HasByteArguments (named.TSndV fd parts flags) = AreBytes (concat parts)
HasByteArguments (named.TSndDis fd seq udata) = AreBytes udata
HasByteArguments (named.TSndRelData fd udata) = AreBytes udata
HasByteArguments (named.TSndUData fd addr opt bytes) = AreBytes addr × AreBytes opt × AreBytes bytes
HasByteArguments (named.TSndVUData fd addr opt parts) = AreBytes addr × AreBytes opt × AreBytes (concat parts)
HasByteArguments (named.TOptMgmt fd action opt omax) = AreBytes opt
HasByteArguments other = Unit {0}

-- each line's call has arguments of bytes
abbrev pub AllHaveByteArguments : List Line → Type 0
AllHaveByteArguments [] = Unit {0}
AllHaveByteArguments (line ∷ lines) = HasByteArguments line.call × AllHaveByteArguments lines

-- what the call of a script sends on a connection is bytes
abbrev pub NamedSendsBytes : NamedCall → Type 0
NamedSendsBytes (named.TSnd fd bytes flags) = AreBytes bytes
NamedSendsBytes (named.TSndV fd parts flags) = AreBytes (concat parts)
NamedSendsBytes other = Unit {0}

-- each line's call sends bytes
abbrev pub LinesSendBytes : List Line → Type 0
LinesSendBytes [] = Unit {0}
LinesSendBytes (line ∷ lines) = NamedSendsBytes line.call × LinesSendBytes lines
