-- What does not hold without the premises: of sends of other numbers than bytes, and of usual that are not valid.
use Rattle.std.proofs.Common.{ℕ, Bool, true, false, List, [], ◌∷◌, ◌++◌, ◌≡◌, ◌≤◌, refl, sym, ◌∙◌, replicate, length, Option, Some, None, arith}
use Rattle.std.specs.Prelude.{codes}
use Rattle.std.proofs.lemmas.Bool.{false≢true}
use Rattle.std.specs.Fmt.{digits}
use Rattle.xti_base.specs.Options.{begins_option, is_option_list, options_within}
use Rattle.xti_base.specs.declared.errno.Errno.TheVariants.{TNODATA}
use Rattle.xti_base.specs.declared.kinds.Prov.TheVariants.{Ticotsord, Ticlts}
use Rattle.xti_base.specs.declared.kinds.State.TheVariants.{T_UNBND, T_IDLE, T_OUTCON, T_INCON, T_DATAXFER}
use Rattle.xti_base.specs.declared.limit.Limit.TheVariants.{Infinite}
use Rattle.xti_model.specs.declared.call.Call.TheVariants as call
use Rattle.xti_model.specs.declared.entry.Act.TheVariants as act
use Rattle.xti_model.specs.declared.entry.Entry.{Entry}
use Rattle.xti_model.specs.declared.entry.Outcome.TheVariants.{Done}
use Rattle.xti_model.specs.declared.entry.Reply.TheVariants.{Plain, Opened, Bound, Connected, Listened, Sent, Refused}
use Rattle.xti_model.specs.declared.profile.Providers.{Providers}
use Rattle.xti_model.specs.Profile.{is_size, usual, valid}
use Rattle.std.specs.List.{All}
use Rattle.std.proofs.lemmas.List.Elements.{All-head}
use Rattle.xti_model.specs.Endpoint.{Endpoint, Datagram}
use Rattle.xti_model.specs.Symbols.{ends_waiting, bytes_waiting}
use Rattle.xti_model.specs.Step.{plan, step}
use Rattle.xti_model.specs.World.{opening, endpoint}
use Rattle.xti_model.specs.History.{Legal, after}
use Rattle.xti_laws.proofs.LinkedHistory.{linked}
use Rattle.xti_laws.specs.Endpoints.{Buffers, ShortDatagram}
use Rattle.xti_laws.specs.Symbols.{FewEnds, SoundSymbols}
use Rattle.xti_laws.specs.SoundLaws.{OfAllProviders}

-- 17 times the number 256 is sent, as expedited data
entries : List Entry
entries = linked ++ record { worker = 0; act = act.Begin (call.TSnd (record { 0 = 1 }) (replicate 17 256) 2); outcome = Done (Sent 17); after = T_DATAXFER } ∷ []

is-legal : Legal usual entries
unfolding entries linked digits opening step plan is_option_list options_within begins_option
is-legal = ((refl, refl), ((refl, refl), ((refl, refl), ((refl, refl), ((refl, refl), ((refl, refl), ((refl, refl), ((refl, refl), ((refl, refl), ((refl, refl), tt))))))))))

ends_of : Option Endpoint → ℕ
ends_of None = 0
ends_of (Some e) = ends_waiting e.expedited

many-ends : ends_of (endpoint usual (after usual entries) 2) ≡ 18
unfolding entries linked ends_of digits opening step plan is_option_list options_within begins_option
many-ends = refl

few-of : (o : Option Endpoint) → ((e : Endpoint) → o ≡ Some e → FewEnds usual e) → ends_of o ≤ 16
unfolding ends_of
few-of None h = omega arith
few-of (Some e) h = (h e refl).expedited

pub not-of-all-sends : ((p : Providers) (es : List Entry) → valid p ≡ true → Legal p es → SoundSymbols p (after p es)) → ⊥
not-of-all-sends law = (let h : ends_of (endpoint usual (after usual entries) 2) ≤ 16 = few-of (endpoint usual (after usual entries) 2) (law usual entries refl is-legal 2) in let k = many-ends in omega arith)

-- a provider whose buffers have no bytes
bad : Providers
bad = record usual { ticlts = record usual.ticlts { sndbuf = 0 } }

opens : List Entry
opens = record { worker = 0; act = act.Begin (call.TOpen Ticlts false); outcome = Done (Opened (record { 0 = 0 })); after = T_UNBND } ∷ []

opens-legal : Legal bad opens
unfolding bad opens opening step plan
opens-legal = ((refl, refl), tt)

size_of : Option Endpoint → Bool
size_of None = true
size_of (Some e) = is_size e.sndbuf

no-size : size_of (endpoint bad (after bad opens) 0) ≡ false
unfolding bad opens size_of opening step plan
no-size = refl

sized-of : (o : Option Endpoint) → ((e : Endpoint) → o ≡ Some e → Buffers e.sndbuf e.rcvbuf) → size_of o ≡ true
unfolding size_of
sized-of None h = refl
sized-of (Some e) h = (h e refl).send

pub not-of-all-buffers : OfAllProviders (λ e. Buffers e.sndbuf e.rcvbuf) → ⊥
not-of-all-buffers law = (let h : size_of (endpoint bad (after bad opens) 0) ≡ true = sized-of (endpoint bad (after bad opens) 0) (law bad opens opens-legal 0) in false≢true (sym no-size ∙ h))

-- a provider of datagrams without a limit
endless : Providers
endless = record usual { ticlts = record usual.ticlts { tsdu = Infinite } }

-- an endpoint sends itself one byte more than a datagram of a valid provider has
long : List Entry
long =
    record { worker = 0; act = act.Begin (call.TOpen Ticlts false); outcome = Done (Opened (record { 0 = 0 })); after = T_UNBND } ∷
    record { worker = 0; act = act.Begin (call.TBind (record { 0 = 0 }) (codes "l") 0 64); outcome = Done (Bound (codes "l") 0); after = T_IDLE } ∷
    record { worker = 0; act = act.Begin (call.TSndUData (record { 0 = 0 }) (codes "l") [] (replicate 65537 7)); outcome = Done Plain; after = T_IDLE } ∷
    []

long-legal : Legal endless long
unfolding endless long digits opening step plan is_option_list options_within begins_option
long-legal = ((refl, refl), ((refl, refl), ((refl, refl), tt)))

longest : List Datagram → ℕ
longest [] = 0
longest (d ∷ ds) = length d.bytes

longest_of : Option Endpoint → ℕ
longest_of None = 0
longest_of (Some e) = longest e.datagrams

too-long : longest_of (endpoint endless (after endless long) 0) ≡ 65537
unfolding endless long longest longest_of digits opening step plan is_option_list options_within begins_option
too-long = refl

longest-few : (ds : List Datagram) → All ShortDatagram ds → longest ds ≤ 65536
unfolding longest
longest-few [] a = omega arith
longest-few (d ∷ ds) a = (All-head ShortDatagram d ds a).2

short-of : (o : Option Endpoint) → ((e : Endpoint) → o ≡ Some e → All ShortDatagram e.datagrams) → longest_of o ≤ 65536
unfolding longest_of
short-of None h = omega arith
short-of (Some e) h = longest-few e.datagrams (h e refl)

pub not-of-endless-datagrams : OfAllProviders (λ e. All ShortDatagram e.datagrams) → ⊥
not-of-endless-datagrams law = (let h : longest_of (endpoint endless (after endless long) 0) ≤ 65536 = short-of (endpoint endless (after endless long) 0) (law endless long long-legal 0) in let k = too-long in omega arith)

-- a provider whose buffers hold more than 65,536 bytes
wide : Providers
wide = record usual { ticotsord = record usual.ticotsord { sndbuf = 100000; rcvbuf = 100000 } }

-- three times as many bytes are sent as one call takes
send : Entry
send = record { worker = 0; act = act.Begin (call.TSnd (record { 0 = 1 }) (replicate 65536 7) 0); outcome = Done (Sent 65536); after = T_DATAXFER }

much : List Entry
much = linked ++ send ∷ send ∷ send ∷ []

much-legal : Legal wide much
unfolding wide much linked send digits opening step plan is_option_list options_within begins_option
much-legal = ((refl, refl), ((refl, refl), ((refl, refl), ((refl, refl), ((refl, refl), ((refl, refl), ((refl, refl), ((refl, refl), ((refl, refl), ((refl, refl), ((refl, refl), ((refl, refl), tt))))))))))))

bytes_of : Option Endpoint → ℕ
bytes_of None = 0
bytes_of (Some e) = bytes_waiting e.normal

many-bytes : bytes_of (endpoint wide (after wide much) 2) ≡ 196608
unfolding wide much linked send bytes_of digits opening step plan is_option_list options_within begins_option
many-bytes = refl

bytes-few : (o : Option Endpoint) → ((e : Endpoint) → o ≡ Some e → bytes_waiting e.normal ≤ 131072) → bytes_of o ≤ 131072
unfolding bytes_of
bytes-few None h = omega arith
bytes-few (Some e) h = h e refl

pub not-of-wide-buffers : OfAllProviders (λ e. bytes_waiting e.normal ≤ 131072) → ⊥
not-of-wide-buffers law = (let h : bytes_of (endpoint wide (after wide much) 2) ≤ 131072 = bytes-few (endpoint wide (after wide much) 2) (law wide much much-legal 2) in let k = many-bytes in omega arith)
