-- What a call in its typed form tells its seat.
use Rattle.std.specs.Prelude.{◌≡◌, ℕ, Bool, List, Result, MatchResult, length, min}
use Rattle.xti_base.specs.Kinds.{prov_of_name}
use Rattle.xti_base.specs.declared.kinds.Fd.{Fd}
use Rattle.xti_base.specs.declared.kinds.Seq.{Seq}
use Rattle.xti_model.specs.declared.call.Call.{Call}
use Rattle.xti_model.specs.declared.call.Call.TheVariants as call
use Rattle.xti_model.specs.declared.entry.Go.TheVariants.{Begin}
use Rattle.xti_model.specs.declared.entry.Reply.{Reply}
use Rattle.xti_model.specs.declared.entry.Reply.TheVariants as reply
use Rattle.xti_hall.specs.Seats.{SeatView}
use Rattle.xti_calls.specs.declared.answers.Fail.{Fail}
use Rattle.xti_calls.specs.declared.answers.Fail.TheVariants as fail
use Rattle.xti_calls.specs.declared.answers.Max.{Max}
use Rattle.xti_calls.specs.declared.answers.TCall.{TCall}
use Rattle.xti_calls.specs.declared.buffers.TheConstants.{MOST_OF_STREAM}
use Rattle.xti_calls.specs.Calling.{Answered, Halted}
use Rattle.xti_calls.specs.Library.{IsFree, HasUnfinished}
use Rattle.xti_calls.specs.Typed.{IsDone, IsOpened, IsGotInto, IsConnected, IsListened, IsDatagram, IsDatagramInParts, IsDatagramError, AreAddresses, IsNegotiated}

-- the seat had no unfinished call, and the call was answered by this reply
abbrev pub IsAnswered : Call → SeatView → SeatView → Reply → Type 0
IsAnswered c s s' r = IsFree s × Answered s.view c Begin s'.view r

-- the same, and the typed answer stands for the reply
abbrev pub Answers : {T : Type 0} → Call → (T → Reply → Type 0) → SeatView → SeatView → T → Type 0
Answers c is s s' answer = (r : Reply) × IsAnswered c s s' r × is answer r

-- The seat had no unfinished call, and this one was answered by this error, stopped, or, out of memory before its first step, left
-- the seat as it was. Or the seat had one, and is as it was.
abbrev pub Fails : Call → SeatView → SeatView → Fail → Type 0
Fails c s s' (fail.Err errno) = IsAnswered c s s' (reply.Refused errno)
Fails c s s' (fail.Look event) = IsAnswered c s s' (reply.Look event)
Fails c s s' (fail.Overflow seq) = IsAnswered c s s' (reply.Overflow seq)
Fails c s s' (fail.Halt halt) = IsFree s × Halted s.view c Begin s'.view halt
Fails c s s' (fail.Memory e) = IsFree s × (s' ≡ s)
Fails c s s' fail.Unfinished = HasUnfinished s × (s' ≡ s)

-- the result of the call, by a seat that was the first before it and is the second after it
abbrev pub Makes : {T : Type 0} → Call → (T → Reply → Type 0) → SeatView → SeatView → Result T Fail → Type 0
Makes c is s s' result = MatchResult result (Answers c is s s') (Fails c s s')

-- ---- the same of the calls with many arguments

abbrev pub Opens : List ℕ → Bool → SeatView → SeatView → Result Fd Fail → Type 0
Opens name nonblock = Makes (call.TOpen (prov_of_name name) nonblock) IsOpened

abbrev pub TellsAddresses : Fd → ℕ → ℕ → SeatView → SeatView → Result (List ℕ × List ℕ) Fail → Type 0
TellsAddresses fd amax pmax = Makes (call.TGetProtAddr fd amax pmax) AreAddresses

abbrev pub Negotiates : Fd → ℕ → List ℕ → ℕ → SeatView → SeatView → Result (ℕ × List ℕ) Fail → Type 0
Negotiates fd action opt omax = Makes (call.TOptMgmt fd action opt omax) IsNegotiated

abbrev pub Connects : Fd → List ℕ → List ℕ → List ℕ → Max → SeatView → SeatView → Result TCall Fail → Type 0
Connects fd addr opt udata max = Makes (call.TConnect fd addr opt udata max.addr max.opt max.udata) IsConnected

abbrev pub Confirms : Fd → Max → SeatView → SeatView → Result TCall Fail → Type 0
Confirms fd max = Makes (call.TRcvConnect fd max.addr max.opt max.udata) IsConnected

abbrev pub Listens : Fd → Max → SeatView → SeatView → Result TCall Fail → Type 0
Listens fd max = Makes (call.TListen fd max.addr max.opt max.udata) IsListened

abbrev pub Accepts : Fd → Fd → Seq → List ℕ → List ℕ → SeatView → SeatView → Result (Unit {0}) Fail → Type 0
Accepts fd resfd seq opt udata = Makes (call.TAccept fd resfd seq opt udata) IsDone

-- bytes into a buffer of the caller's, which is the first list before the call and the second after it
abbrev pub ReceivesInto : Fd → List ℕ → List ℕ → SeatView → SeatView → Result (ℕ × ℕ) Fail → Type 0
ReceivesInto fd old new = Makes (call.TRcv fd (min (length old) MOST_OF_STREAM)) (IsGotInto old new)

abbrev pub SendsDatagram : Fd → List ℕ → List ℕ → List ℕ → SeatView → SeatView → Result (Unit {0}) Fail → Type 0
SendsDatagram fd addr opt bytes = Makes (call.TSndUData fd addr opt bytes) IsDone

abbrev pub SendsDatagramInParts : Fd → List ℕ → List ℕ → List (List ℕ) → SeatView → SeatView → Result (Unit {0}) Fail → Type 0
SendsDatagramInParts fd addr opt parts = Makes (call.TSndVUData fd addr opt parts) IsDone

abbrev pub ReceivesDatagram : Fd → Max → SeatView → SeatView → Result (TCall × ℕ) Fail → Type 0
ReceivesDatagram fd max = Makes (call.TRcvUData fd max.udata max.addr max.opt) IsDatagram

abbrev pub ReceivesDatagramInParts : Fd → List ℕ → ℕ → ℕ → SeatView → SeatView → Result (TCall × List (List ℕ) × ℕ) Fail → Type 0
ReceivesDatagramInParts fd sizes amax omax = Makes (call.TRcvVUData fd sizes amax omax) (IsDatagramInParts sizes)

abbrev pub TakesDatagramError : Fd → ℕ → ℕ → SeatView → SeatView → Result (List ℕ × List ℕ × ℕ) Fail → Type 0
TakesDatagramError fd amax omax = Makes (call.TRcvUDErr fd amax omax) IsDatagramError
