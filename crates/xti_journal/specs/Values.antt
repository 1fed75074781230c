-- What a word stands for as a value of a field.
use Rattle.std.specs.Prelude.{ℕ, Bool, true, false, nat_eq, List, [], ◌∷◌, drop, codes, find, Option, Some, None, if◌then◌else◌, option_map}
use Rattle.std.specs.Str.{bytes_eq}
use Rattle.std.specs.List.{starts_with}
use Rattle.xti_base.specs.declared.kinds.State.{State}
use Rattle.xti_base.specs.declared.kinds.State.TheVariants as state
use Rattle.xti_base.specs.declared.kinds.Event.{Event}
use Rattle.xti_base.specs.declared.kinds.Event.TheVariants as event
use Rattle.xti_base.specs.declared.kinds.ServType.{ServType}
use Rattle.xti_base.specs.declared.kinds.ServType.TheVariants as service
use Rattle.xti_base.specs.declared.limit.Limit.{Limit}
use Rattle.xti_base.specs.declared.limit.Limit.TheVariants as limit
use Rattle.xti_base.specs.declared.errno.Errno.{Errno}
use Rattle.xti_base.specs.declared.errno.Errno.TheVariants as errno
use Rattle.xti_base.specs.Errno.{errno_name}
use Rattle.xti_base.specs.Kinds.{state_name, event_name}
use Rattle.xti_words.specs.Texts.{pieces_of}
use Rattle.xti_words.specs.Values.{number_in, hex_bytes, each_in, provider_in, mode_in}
use Rattle.xti_journal.specs.Kinds.{Kind}
use Rattle.xti_journal.specs.Kinds.{Kind as kind}
use Rattle.xti_journal.specs.FieldValue.{Value}
use Rattle.xti_journal.specs.FieldValue.{Value as value}

-- `x:` and pairs of hexadecimal digits
unfoldable pub octets_in : List ℕ → Option (List ℕ)
octets_in word = if starts_with nat_eq word (codes "x:") then hex_bytes (drop 2 word) else None

-- one or more, separated by commas, or `none`
unfoldable pub members_in : {A : Type 0} → (List ℕ → Option A) → List ℕ → Option (List A)
members_in in_piece word = if bytes_eq word (codes "none") then Some [] else each_in in_piece (pieces_of 44 word)

unfoldable pub truth_in : List ℕ → Option Bool
truth_in word = if bytes_eq word (codes "1") then Some true else if bytes_eq word (codes "0") then Some false else None

unfoldable pub limit_in : List ℕ → Option Limit
limit_in word = if bytes_eq word (codes "-1") then Some limit.Infinite else if bytes_eq word (codes "-2") then Some limit.Invalid else option_map limit.At (number_in word)

unfoldable pub service_in : List ℕ → Option ServType
service_in word = if bytes_eq word (codes "1") then Some service.T_COTS else if bytes_eq word (codes "2") then Some service.T_COTS_ORD else if bytes_eq word (codes "3") then Some service.T_CLTS else None

unfoldable pub states : List State
states = state.T_IDLE ∷ state.T_DATAXFER ∷ state.T_UNINIT ∷ state.T_UNBND ∷ state.T_OUTCON ∷ state.T_INCON ∷ state.T_OUTREL ∷ state.T_INREL ∷ []

-- the first of these states that has the name
abbrev pub state_among : List ℕ → List State → Option State
state_among word states = find (λ s. bytes_eq word (state_name s)) states

abbrev pub state_in : List ℕ → Option State
state_in word = state_among word states

unfoldable pub events : List Event
events = event.T_LISTEN ∷ event.T_CONNECT ∷ event.T_DATA ∷ event.T_EXDATA ∷ event.T_DISCONNECT ∷ event.T_UDERR ∷ event.T_ORDREL ∷ event.T_GODATA ∷ event.T_GOEXDATA ∷ []

abbrev pub event_among : List ℕ → List Event → Option Event
event_among word events = find (λ e. bytes_eq word (event_name e)) events

abbrev pub event_in : List ℕ → Option Event
event_in word = event_among word events

abbrev pub some_event : Option Event → Option (Option Event)
some_event None = None
some_event (Some event) = Some (Some event)

-- an event, or 0 for none
unfoldable pub event_or_none_in : List ℕ → Option (Option Event)
event_or_none_in word = if bytes_eq word (codes "0") then Some None else some_event (event_in word)

-- the errors that stand alone
unfoldable pub errnos : List Errno
errnos =
    errno.TBADADDR ∷ errno.TBADOPT ∷ errno.TACCES ∷ errno.TBADF ∷ errno.TNOADDR ∷ errno.TOUTSTATE ∷ errno.TBADSEQ ∷ errno.TSYSERR ∷ errno.TBADDATA ∷ errno.TFLOW ∷ errno.TNODATA ∷ errno.TNODIS ∷ errno.TNOUDERR ∷ errno.TBADFLAG ∷ errno.TNOREL ∷
    errno.TNOTSUPPORT ∷ errno.TSTATECHNG ∷ errno.TNOSTRUCTYPE ∷ errno.TBADNAME ∷ errno.TBADQLEN ∷ errno.TADDRBUSY ∷ errno.TINDOUT ∷ errno.TPROVMISMATCH ∷ errno.TRESQLEN ∷ errno.TRESADDR ∷ errno.TQFULL ∷ errno.TPROTO ∷ []

abbrev pub errno_among : List ℕ → List Errno → Option Errno
errno_among word errnos = find (λ e. bytes_eq word (errno_name e)) errnos

abbrev pub errno_in : List ℕ → Option Errno
errno_in word = errno_among word errnos

-- what a text stands for as this kind of value
abbrev pub value_in : Kind → List ℕ → Option Value
value_in kind.Number text = option_map value.Number (number_in text)
value_in kind.Bytes text = option_map value.Bytes (octets_in text)
value_in kind.Parts text = option_map value.Parts (members_in octets_in text)
value_in kind.Sizes text = option_map value.Sizes (members_in number_in text)
value_in kind.Truth text = option_map value.Truth (truth_in text)
value_in kind.Provider text = option_map value.Provider (provider_in text)
value_in kind.Mode text = option_map value.Mode (mode_in text)
value_in kind.Limit text = option_map value.Limit (limit_in text)
value_in kind.Service text = option_map value.Service (service_in text)
value_in kind.State text = option_map value.State (state_in text)
value_in kind.Event text = option_map value.Event (event_in text)
value_in kind.EventOrNone text = option_map value.EventOrNone (event_or_none_in text)
value_in kind.Errno text = option_map value.Errno (errno_in text)
