-- The text of a journal: a first line, a line for each provider, a line for each entry, a line for each step
-- that is blocked at the end, and a last line with the count of entries. Every line ends with LF, and the words
-- of a line are separated by one space. docs/JOURNAL.md has the format in words.
use Rattle.std.specs.Prelude.{ℕ, ◌+◌, Bool, List, [], ◌∷◌, ◌++◌, length, Option, Some, None, codes, decimal, if◌then◌else◌}
use Rattle.std.specs.List.{flat_map}
use Rattle.xti_words.specs.WrittenWords.{number_word, signed_word, octets_word}
use Rattle.xti_base.specs.declared.kinds.Event.{Event}
use Rattle.xti_base.specs.declared.kinds.Prov.{Prov}
use Rattle.xti_base.specs.declared.kinds.Prov.TheVariants.{Ticots, Ticotsord, Ticlts}
use Rattle.xti_base.specs.declared.kinds.State.{State}
use Rattle.xti_base.specs.declared.limit.Limit.{Limit}
use Rattle.xti_base.specs.declared.limit.Info.{Info}
use Rattle.xti_base.specs.Errno.{errno_name}
use Rattle.xti_base.specs.Kinds.{state_name, event_name, service_number, prov_name}
use Rattle.xti_base.specs.Limit.{limit_number}
use Rattle.xti_model.specs.declared.profile.Profile.{Profile}
use Rattle.xti_model.specs.declared.profile.Providers.{Providers}
use Rattle.xti_model.specs.declared.profile.Version.{Version}
use Rattle.xti_model.specs.declared.profile.Version.TheVariants.{One, Two}
use Rattle.xti_model.specs.Profile.{tells_reldata}
use Rattle.xti_model.specs.declared.call.Call.{Call}
use Rattle.xti_model.specs.declared.call.Call.TheVariants.{TOpen, TBind, TConnect, TRcvConnect, TListen, TAccept, TSnd, TSndV, TRcv, TRcvV, TSndDis, TRcvDis, TSndRelData, TRcvRelData, TSndUData, TSndVUData, TRcvUData, TRcvVUData, TRcvUDErr, TGetProtAddr, TOptMgmt, SetMode}
use Rattle.xti_model.specs.Touched.{fd_of}
use Rattle.xti_model.specs.declared.entry.Entry.{Entry}
use Rattle.xti_model.specs.declared.entry.Act.{Act}
use Rattle.xti_model.specs.declared.entry.Act.TheVariants.{Begin, More}
use Rattle.xti_model.specs.declared.entry.Outcome.{Outcome}
use Rattle.xti_model.specs.declared.entry.Outcome.TheVariants.{Done, Part}
use Rattle.xti_model.specs.declared.entry.Reply.{Reply}
use Rattle.xti_model.specs.declared.entry.Reply.TheVariants.{Plain, Opened, Bound, Connected, Listened, Sent, Got, Discon, RelData, UData, UDErr, Seen, Stands, Limits, Addresses, Options, Refused, Look, Overflow}
use Rattle.xti_model.specs.declared.script.Journal.{Journal}
use Rattle.xti_model.specs.declared.script.StallLine.{StallLine}
use Rattle.xti_verbs.specs.Verbs.{verb_of, verb_word}

-- words

-- a truth value as 1 or 0
abbrev pub bit_word : List ℕ → Bool → List ℕ
bit_word key b = key ++ (if b then codes "1" else codes "0")

abbrev pub mode_word : List ℕ → Bool → List ℕ
mode_word key nonblock = key ++ (if nonblock then codes "nonblock" else codes "block")

-- a limit as a signed number
abbrev pub limit_word : List ℕ → Limit → List ℕ
limit_word key l = signed_word key (limit_number l)

-- members separated by commas, and `none` for the list without members
abbrev pub parts_word : List ℕ → List (List ℕ) → List ℕ
parts_word key [] = key ++ codes "none"
parts_word key (p ∷ ps) = octets_word key p ++ flat_map (octets_word (codes ",")) ps

abbrev pub sizes_word : List ℕ → List ℕ → List ℕ
sizes_word key [] = key ++ codes "none"
sizes_word key (n ∷ ns) = number_word key n ++ flat_map (number_word (codes ",")) ns

-- the parts and the sizes of a call
abbrev pub parts_field : List (List ℕ) → List ℕ
parts_field parts = parts_word (codes " parts=") parts

abbrev pub sizes_field : List ℕ → List ℕ
sizes_field sizes = sizes_word (codes " sizes=") sizes

-- the address and the options of a call
abbrev pub address_words : List ℕ → List ℕ → List ℕ
address_words addr opt = octets_word (codes " addr=") addr ++ octets_word (codes " opt=") opt

-- the most bytes that the caller takes of address and options
abbrev pub address_limits : ℕ → ℕ → List ℕ
address_limits amax omax = number_word (codes " amax=") amax ++ number_word (codes " omax=") omax

-- the most bytes that the caller takes of address, options and data
abbrev pub most_words : ℕ → ℕ → ℕ → List ℕ
most_words amax omax umax = number_word (codes " amax=") amax ++ number_word (codes " omax=") omax ++ number_word (codes " umax=") umax

-- calls

-- the descriptor, where there is one
abbrev pub fd_text : Option ℕ → List ℕ
fd_text None = []
fd_text (Some fd) = number_word (codes " ") fd

-- a call that says no more than which endpoint: its word, and the descriptor
abbrev pub plain_text : Call → List ℕ
plain_text call = verb_word (verb_of call) ++ fd_text (fd_of call)

abbrev pub call_text : Call → List ℕ
call_text (TOpen prov nonblock) = codes "open " ++ prov_name prov ++ mode_word (codes " ") nonblock
call_text (TBind fd addr qlen amax) = number_word (codes "bind ") fd.0 ++ octets_word (codes " addr=") addr ++ number_word (codes " qlen=") qlen ++ number_word (codes " amax=") amax
call_text (TConnect fd addr opt udata amax omax umax) = number_word (codes "connect ") fd.0 ++ octets_word (codes " addr=") addr ++ octets_word (codes " opt=") opt ++ octets_word (codes " udata=") udata ++ most_words amax omax umax
call_text (TRcvConnect fd amax omax umax) = number_word (codes "rcvconnect ") fd.0 ++ most_words amax omax umax
call_text (TListen fd amax omax umax) = number_word (codes "listen ") fd.0 ++ most_words amax omax umax
call_text (TAccept fd resfd seq opt udata) = number_word (codes "accept ") fd.0 ++ number_word (codes " ") resfd.0 ++ number_word (codes " ") seq.0 ++ octets_word (codes " opt=") opt ++ octets_word (codes " udata=") udata
call_text (TSnd fd bytes flags) = number_word (codes "snd ") fd.0 ++ octets_word (codes " data=") bytes ++ number_word (codes " flags=") flags
call_text (TSndV fd parts flags) = number_word (codes "sndv ") fd.0 ++ parts_field parts ++ number_word (codes " flags=") flags
call_text (TRcv fd max) = number_word (codes "rcv ") fd.0 ++ number_word (codes " max=") max
call_text (TRcvV fd sizes) = number_word (codes "rcvv ") fd.0 ++ sizes_field sizes
call_text (TSndDis fd seq udata) = number_word (codes "snddis ") fd.0 ++ number_word (codes " ") seq.0 ++ octets_word (codes " udata=") udata
call_text (TRcvDis fd umax) = number_word (codes "rcvdis ") fd.0 ++ number_word (codes " umax=") umax
call_text (TSndRelData fd udata) = number_word (codes "sndreldata ") fd.0 ++ octets_word (codes " udata=") udata
call_text (TRcvRelData fd umax) = number_word (codes "rcvreldata ") fd.0 ++ number_word (codes " umax=") umax
call_text (TSndUData fd addr opt bytes) = number_word (codes "sndudata ") fd.0 ++ octets_word (codes " addr=") addr ++ octets_word (codes " opt=") opt ++ octets_word (codes " data=") bytes
call_text (TSndVUData fd addr opt parts) = number_word (codes "sndvudata ") fd.0 ++ octets_word (codes " addr=") addr ++ octets_word (codes " opt=") opt ++ parts_field parts
call_text (TRcvUData fd max amax omax) = number_word (codes "rcvudata ") fd.0 ++ number_word (codes " max=") max ++ number_word (codes " amax=") amax ++ number_word (codes " omax=") omax
call_text (TRcvVUData fd sizes amax omax) = number_word (codes "rcvvudata ") fd.0 ++ sizes_field sizes ++ number_word (codes " amax=") amax ++ number_word (codes " omax=") omax
call_text (TRcvUDErr fd amax omax) = number_word (codes "rcvuderr ") fd.0 ++ number_word (codes " amax=") amax ++ number_word (codes " omax=") omax
call_text (TGetProtAddr fd amax pmax) = number_word (codes "getprotaddr ") fd.0 ++ number_word (codes " amax=") amax ++ number_word (codes " pmax=") pmax
call_text (TOptMgmt fd action opt omax) = number_word (codes "optmgmt ") fd.0 ++ number_word (codes " ") action ++ octets_word (codes " opt=") opt ++ number_word (codes " omax=") omax
call_text (SetMode fd nonblock) = number_word (codes "mode ") fd.0 ++ mode_word (codes " ") nonblock
call_text other = plain_text other

-- a call that goes on is written `more`
abbrev pub act_text : Act → List ℕ
act_text (Begin call) = call_text call
act_text More = codes "more"

-- replies

-- the event, or 0 where none is pending
abbrev pub event_text : Option Event → List ℕ
event_text (Some event) = event_name event
event_text None = codes "0"

abbrev pub sizes_text : Info → List ℕ
sizes_text i = limit_word (codes " ") i.addr ++ limit_word (codes " ") i.options ++ limit_word (codes " ") i.tsdu ++ limit_word (codes " ") i.etsdu

abbrev pub info_text : Info → List ℕ
info_text i = sizes_text i ++ limit_word (codes " ") i.connect ++ limit_word (codes " ") i.discon ++ number_word (codes " ") (service_number i.servtype) ++ number_word (codes " ") i.flags

-- the data of a datagram, and its flags
abbrev pub data_text : List ℕ → ℕ → List ℕ
data_text bytes flags = octets_word (codes " ") bytes ++ number_word (codes " ") flags

abbrev pub reply_text : Reply → List ℕ
reply_text Plain = codes "ok"
reply_text (Opened fd) = number_word (codes "ok ") fd.0
reply_text (Bound addr qlen) = octets_word (codes "ok ") addr ++ number_word (codes " ") qlen
reply_text (Connected addr opt udata) = octets_word (codes "ok ") addr ++ octets_word (codes " ") opt ++ octets_word (codes " ") udata
reply_text (Listened seq addr opt udata) = number_word (codes "ok ") seq.0 ++ octets_word (codes " ") addr ++ octets_word (codes " ") opt ++ octets_word (codes " ") udata
reply_text (Sent n) = number_word (codes "ok ") n
reply_text (Got bytes flags) = octets_word (codes "ok ") bytes ++ number_word (codes " ") flags
reply_text (Discon reason seq udata) = number_word (codes "ok ") reason ++ number_word (codes " ") seq.0 ++ octets_word (codes " ") udata
reply_text (RelData udata) = octets_word (codes "ok ") udata
reply_text (UData addr opt bytes flags) = octets_word (codes "ok ") addr ++ octets_word (codes " ") opt ++ octets_word (codes " ") bytes ++ number_word (codes " ") flags
reply_text (UDErr addr opt code) = octets_word (codes "ok ") addr ++ octets_word (codes " ") opt ++ number_word (codes " ") code
reply_text (Seen event) = codes "ok " ++ event_text event
reply_text (Stands state) = codes "ok " ++ state_name state
reply_text (Limits info) = codes "ok" ++ info_text info
reply_text (Addresses local peer) = octets_word (codes "ok ") local ++ octets_word (codes " ") peer
reply_text (Options result opt) = number_word (codes "ok ") result ++ octets_word (codes " ") opt
reply_text (Refused errno) = codes "err " ++ errno_name errno
reply_text (Look event) = codes "err TLOOK " ++ event_name event
reply_text (Overflow seq) = number_word (codes "err TBUFOVFLW ") seq.0

abbrev pub outcome_text : Outcome → List ℕ
outcome_text (Done reply) = reply_text reply
outcome_text (Part taken) = number_word (codes "part ") taken

-- what a call answered, after an arrow
abbrev pub arrow_text : Outcome → List ℕ
arrow_text outcome = codes " => " ++ outcome_text outcome

-- lines

abbrev pub profile_text : Profile → List ℕ
profile_text p = limit_word (codes " tsdu=") p.tsdu ++ bit_word (codes " sendzero=") p.sendzero ++ bit_word (codes " same_addr=") p.same_addr ++ number_word (codes " sndbuf=") p.sndbuf ++ number_word (codes " rcvbuf=") p.rcvbuf

-- whether data may go with an orderly release, where texts of the version say so of the provider
abbrev pub release_text : Version → Prov → Profile → List ℕ
release_text version prov p = if tells_reldata version prov then bit_word (codes " reldata=") p.reldata else []

unfoldable pub provider_text : Version → Prov → Profile → List ℕ
provider_text version prov p = codes "provider " ++ prov_name prov ++ profile_text p ++ release_text version prov p ++ codes "\n"

unfoldable pub first_line : Version → List ℕ
first_line One = codes "xti-journal 1\n"
first_line Two = codes "xti-journal 2\n"

unfoldable pub head_text : Providers → List ℕ
head_text p = first_line p.version ++ provider_text p.version Ticots p.ticots ++ provider_text p.version Ticotsord p.ticotsord ++ provider_text p.version Ticlts p.ticlts

-- what the call answered, and the state of its endpoint
abbrev pub answer_text : Outcome → State → List ℕ
answer_text outcome after = outcome_text outcome ++ codes " " ++ state_name after

-- the state of the endpoint, to the end of the line
abbrev pub state_end : State → List ℕ
state_end state = codes " " ++ state_name state ++ codes "\n"

-- what the call answered and the state of its endpoint, after an arrow, to the end of the line
abbrev pub answer_end : Outcome → State → List ℕ
answer_end outcome after = codes " => " ++ answer_text outcome after ++ codes "\n"

-- the entry with this number
unfoldable pub entry_text : ℕ → Entry → List ℕ
entry_text n e = decimal n ++ number_word (codes " ") e.worker ++ codes " " ++ act_text e.act ++ codes " => " ++ answer_text e.outcome e.after ++ codes "\n"

-- entries, numbered from n
abbrev pub entries_text : ℕ → List Entry → List ℕ
entries_text n [] = []
entries_text n (e ∷ es) = entry_text n e ++ entries_text (n + 1) es

-- a step that is blocked at the end
unfoldable pub stall_text : StallLine → List ℕ
stall_text s = number_word (codes "stall ") s.worker ++ codes " " ++ act_text s.act ++ codes "\n"

unfoldable pub end_text : ℕ → List ℕ
end_text count = number_word (codes "end ") count ++ codes "\n"

abbrev pub journal_text : Journal → List ℕ
journal_text j = head_text j.providers ++ entries_text 1 j.entries ++ flat_map stall_text j.stalls ++ end_text (length j.entries)
