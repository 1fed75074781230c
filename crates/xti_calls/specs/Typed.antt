-- The answers of calls in their own types, and the replies that they stand for.
use Rattle.std.specs.Prelude.{◌≡◌, ◌≤◌, ℕ, List, [], length, take, drop, Option, Result, Err, MatchResult}
use Rattle.std.specs.List.{concat}
use Rattle.xti_base.specs.declared.kinds.Event.{Event}
use Rattle.xti_base.specs.declared.kinds.Fd.{Fd}
use Rattle.xti_base.specs.declared.kinds.Seq.{Seq}
use Rattle.xti_base.specs.declared.kinds.State.{State}
use Rattle.xti_base.specs.declared.limit.Info.{Info}
use Rattle.xti_model.specs.declared.entry.Outcome.TheVariants.{Done}
use Rattle.xti_model.specs.declared.entry.Reply.{Reply}
use Rattle.xti_model.specs.declared.entry.Reply.TheVariants as reply
use Rattle.xti_verbs.specs.declared.answer.Answer.{Answer}
use Rattle.xti_verbs.specs.Verbs.{answer_to}
use Rattle.xti_calls.specs.declared.answers.Fail.{Fail}
use Rattle.xti_calls.specs.declared.answers.Fail.TheVariants as fail
use Rattle.xti_calls.specs.declared.answers.TCall.{TCall}
use Rattle.xti_calls.specs.Parts.{split_by}

-- ---- errors

abbrev pub IsError : Reply → Type 0
IsError (reply.Refused errno) = Unit {0}
IsError (reply.Look event) = Unit {0}
IsError (reply.Overflow seq) = Unit {0}
IsError other = ⊥

-- the reply is this error
abbrev pub SaysError : Reply → Fail → Type 0
SaysError r (fail.Err errno) = r ≡ reply.Refused errno
SaysError r (fail.Look event) = r ≡ reply.Look event
SaysError r (fail.Overflow seq) = r ≡ reply.Overflow seq
SaysError r (fail.Halt halt) = ⊥
SaysError r (fail.Memory e) = ⊥
SaysError r fail.Unfinished = ⊥

-- the reply is of this kind, or an error
abbrev pub MayBe : Answer → Reply → Type 0
MayBe a (reply.Refused errno) = Unit {0}
MayBe a (reply.Look event) = Unit {0}
MayBe a (reply.Overflow seq) = Unit {0}
MayBe a other = answer_to (Done other) ≡ a

-- the reply has at most so many bytes of data
abbrev pub HasAtMost : ℕ → Reply → Type 0
HasAtMost n (reply.Got bytes flags) = length bytes ≤ n
HasAtMost n (reply.UData addr opt bytes flags) = length bytes ≤ n
HasAtMost n other = Unit {0}

-- the reply is this answer, or this error
abbrev pub Says : {T : Type 0} → (T → Reply → Type 0) → Reply → Result T Fail → Type 0
Says is r result = MatchResult result (λ answer. is answer r) (SaysError r)

-- the same of a call that may have stopped before its reply
abbrev pub Told : {T : Type 0} → (T → Reply → Type 0) → Result Reply Fail → Result T Fail → Type 0
Told is reply result = MatchResult reply (λ r. Says is r result) (λ fail. result ≡ Err fail)

-- ---- answers

-- what stands for a sequence number where there is none
abbrev pub no_seq : ℕ
no_seq = 0

abbrev pub IsDone : Unit {0} → Reply → Type 0
IsDone u r = r ≡ reply.Plain

abbrev pub IsOpened : Fd → Reply → Type 0
IsOpened fd r = r ≡ reply.Opened fd

abbrev pub IsBound : List ℕ × ℕ → Reply → Type 0
IsBound (addr, qlen) r = r ≡ reply.Bound addr qlen

abbrev pub IsConnected : TCall → Reply → Type 0
IsConnected c r = (c.seq.0 ≡ no_seq) × (r ≡ reply.Connected c.addr c.opt c.udata)

abbrev pub IsListened : TCall → Reply → Type 0
IsListened c r = r ≡ reply.Listened c.seq c.addr c.opt c.udata

abbrev pub IsSent : ℕ → Reply → Type 0
IsSent n r = r ≡ reply.Sent n

abbrev pub IsGot : List ℕ × ℕ → Reply → Type 0
IsGot (bytes, flags) r = r ≡ reply.Got bytes flags

-- so many bytes of the buffer, from its first on, are those of the reply; what stands after them is as before
abbrev pub IsGotInto : List ℕ → List ℕ → ℕ × ℕ → Reply → Type 0
IsGotInto old new (n, flags) r =
    (n ≤ length new) × (drop n new ≡ drop n old) × (r ≡ reply.Got (take n new) flags)

-- the parts are the bytes of the reply, cut by the sizes
abbrev pub AreGot : List ℕ → List (List ℕ) × ℕ → Reply → Type 0
AreGot sizes (parts, flags) r = (parts ≡ split_by sizes (concat parts)) × (r ≡ reply.Got (concat parts) flags)

abbrev pub IsDisconnect : ℕ × Seq × List ℕ → Reply → Type 0
IsDisconnect (reason, seq, udata) r = r ≡ reply.Discon reason seq udata

abbrev pub IsReleaseData : List ℕ → Reply → Type 0
IsReleaseData udata r = r ≡ reply.RelData udata

abbrev pub IsDatagram : TCall × ℕ → Reply → Type 0
IsDatagram (c, flags) r = (c.seq.0 ≡ no_seq) × (r ≡ reply.UData c.addr c.opt c.udata flags)

-- the same of a datagram, which has no bytes beside its parts
abbrev pub IsDatagramInParts : List ℕ → TCall × List (List ℕ) × ℕ → Reply → Type 0
IsDatagramInParts sizes (c, parts, flags) r =
    (c.seq.0 ≡ no_seq) × (c.udata ≡ []) × (parts ≡ split_by sizes (concat parts)) × (r ≡ reply.UData c.addr c.opt (concat parts) flags)

abbrev pub IsDatagramError : List ℕ × List ℕ × ℕ → Reply → Type 0
IsDatagramError (addr, opt, code) r = r ≡ reply.UDErr addr opt code

abbrev pub IsSeen : Option Event → Reply → Type 0
IsSeen event r = r ≡ reply.Seen event

abbrev pub IsState : State → Reply → Type 0
IsState state r = r ≡ reply.Stands state

abbrev pub IsInfo : Info → Reply → Type 0
IsInfo info r = r ≡ reply.Limits info

abbrev pub AreAddresses : List ℕ × List ℕ → Reply → Type 0
AreAddresses (local, peer) r = r ≡ reply.Addresses local peer

abbrev pub IsNegotiated : ℕ × List ℕ → Reply → Type 0
IsNegotiated (result, opt) r = r ≡ reply.Options result opt
