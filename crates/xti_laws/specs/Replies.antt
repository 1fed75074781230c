-- How many bytes the fields of a reply have at most, by the arguments of the call and the limits of the profile.
use Rattle.std.specs.Prelude.{ℕ, ◌≤◌, ◌*◌, ◌/◌, min, List, [], ◌∷◌, length, sum}
use Rattle.xti_base.specs.declared.limits.TheConstants.{MOST_ADDRESS, MOST_OPTIONS, MOST_CONNECT_DATA, MOST_SIZE}
use Rattle.xti_model.specs.declared.call.Call.{Call}
use Rattle.xti_model.specs.declared.call.Call.TheVariants as call
use Rattle.xti_model.specs.declared.entry.Outcome.{Outcome}
use Rattle.xti_model.specs.declared.entry.Outcome.TheVariants.{Done, Part}
use Rattle.xti_model.specs.declared.entry.Reply.{Reply}
use Rattle.xti_laws.specs.Endpoints.{two_buffers}
use Rattle.xti_model.specs.declared.entry.Reply.TheVariants.{Bound, Connected, Listened, Got, Discon, RelData, UData, UDErr, Addresses, Options}

-- the most bytes of a reply's fields of bytes, in their order
pub record Lengths : Type 0 where
  pub first : ℕ
  pub second : ℕ
  pub third : ℕ

abbrev pub lengths : ℕ → ℕ → ℕ → Lengths
lengths first second third = record { first = first; second = second; third = third }

-- the most bytes of an address that the provider chooses
abbrev pub longest_choice : ℕ
longest_choice = 4

-- the address of a bind
abbrev pub bound_length : List ℕ → ℕ
bound_length [] = longest_choice
bound_length (a ∷ address) = min (length (a ∷ address)) MOST_ADDRESS

-- the fewest bytes of an option that is asked, and the most of one that is answered
abbrev pub shortest_option : ℕ
shortest_option = 16

abbrev pub longest_answer : ℕ
longest_answer = 20

-- the answers to options
abbrev pub answered_length : List ℕ → ℕ
answered_length options = longest_answer * (min (length options) MOST_OPTIONS / shortest_option)

-- an address, options and data that go with a connection
abbrev pub news_lengths : ℕ → ℕ → ℕ → Lengths
news_lengths amax omax umax = lengths (min amax MOST_ADDRESS) (min omax MOST_OPTIONS) (min umax MOST_CONNECT_DATA)

-- the fields of each call's reply; other calls answer none
abbrev pub lengths_of : Call → Lengths
lengths_of (call.TBind fd addr qlen amax) = lengths (min amax (bound_length addr)) 0 0
lengths_of (call.TConnect fd addr opt udata amax omax umax) = news_lengths amax omax umax
lengths_of (call.TRcvConnect fd amax omax umax) = news_lengths amax omax umax
lengths_of (call.TListen fd amax omax umax) = news_lengths amax omax umax
lengths_of (call.TRcv fd max) = lengths (min max two_buffers) 0 0
lengths_of (call.TRcvV fd sizes) = lengths (min (sum sizes) two_buffers) 0 0
lengths_of (call.TRcvDis fd umax) = lengths (min umax MOST_CONNECT_DATA) 0 0
lengths_of (call.TRcvRelData fd umax) = lengths (min umax MOST_CONNECT_DATA) 0 0
lengths_of (call.TRcvUData fd max amax omax) = lengths (min amax MOST_ADDRESS) (min omax MOST_OPTIONS) (min max MOST_SIZE)
lengths_of (call.TRcvVUData fd sizes amax omax) = lengths (min amax MOST_ADDRESS) (min omax MOST_OPTIONS) (min (sum sizes) MOST_SIZE)
lengths_of (call.TRcvUDErr fd amax omax) = lengths (min amax MOST_ADDRESS) (min omax MOST_OPTIONS) 0
lengths_of (call.TGetProtAddr fd amax pmax) = lengths (min amax MOST_ADDRESS) (min pmax MOST_ADDRESS) 0
lengths_of (call.TOptMgmt fd action opt omax) = lengths (min omax (answered_length opt)) 0 0
lengths_of other = lengths 0 0 0

-- each field of bytes of the reply is as short as that
abbrev pub IsShort : Lengths → Reply → Type 0
IsShort n (Bound addr qlen) = length addr ≤ n.first
IsShort n (Connected addr opt udata) = (length addr ≤ n.first) × (length opt ≤ n.second) × (length udata ≤ n.third)
IsShort n (Listened seq addr opt udata) = (length addr ≤ n.first) × (length opt ≤ n.second) × (length udata ≤ n.third)
IsShort n (Got bytes flags) = length bytes ≤ n.first
IsShort n (Discon reason seq udata) = length udata ≤ n.first
IsShort n (RelData udata) = length udata ≤ n.first
IsShort n (UData addr opt bytes flags) = (length addr ≤ n.first) × (length opt ≤ n.second) × (length bytes ≤ n.third)
IsShort n (UDErr addr opt code) = (length addr ≤ n.first) × (length opt ≤ n.second)
IsShort n (Addresses local peer) = (length local ≤ n.first) × (length peer ≤ n.second)
IsShort n (Options result opt) = length opt ≤ n.first
IsShort n other = Unit {0}

abbrev pub IsShortOutcome : Lengths → Outcome → Type 0
IsShortOutcome n (Done reply) = IsShort n reply
IsShortOutcome n (Part taken) = Unit {0}
