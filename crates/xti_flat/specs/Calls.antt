-- Which call the numbers and bytes ask for.
use Rattle.std.specs.Prelude.{◌≡◌, ◌≤◌, ℕ, length, List, [], ◌∷◌, take, drop, ◌==◌, not, if◌then◌else◌, Option, Some, None}
use Rattle.std.specs.Option.{MatchOption}
use Rattle.xti_base.specs.declared.kinds.Prov.{Prov}
use Rattle.xti_base.specs.declared.kinds.Prov.TheVariants.{Ticots, Ticotsord, Ticlts, Other}
use Rattle.xti_model.specs.declared.call.Call.{Call}
use Rattle.xti_model.specs.declared.call.Call.TheVariants.{TOpen, TBind, TConnect, TRcvConnect, TListen, TAccept, TSnd, TSndV, TRcv, TRcvV, TSndDis, TRcvDis, TSndRelData, TRcvRelData, TSndUData, TSndVUData, TRcvUData, TRcvVUData, TRcvUDErr, TGetProtAddr, TOptMgmt, SetMode}
use Rattle.xti_model.specs.declared.entry.Go.{Go}
use Rattle.xti_model.specs.declared.entry.Go.TheVariants.{Begin, More}
use Rattle.xti_model.specs.Touched.{fd_of}
use Rattle.xti_verbs.specs.declared.verb.Verb.{Verb}
use Rattle.xti_verbs.specs.declared.verb.Verb.TheVariants as verb
use Rattle.xti_verbs.specs.Verbs.{verb_at, verb_of}
use Rattle.xti_flat.specs.declared.asked.Asked.{Asked}
use Rattle.xti_flat.specs.declared.bytes.Bytes.{Bytes}

-- the provider with this number
abbrev pub prov_of : ℕ → Prov
prov_of n = if n == 0 then Ticots else (if n == 1 then Ticotsord else (if n == 2 then Ticlts else Other))

-- how far a call has come
abbrev pub go_of : Asked → Go
go_of a = if a.more == 0 then Begin else More a.taken

-- the bytes cut into parts of these sizes, as far as they reach
abbrev pub parts_of : List ℕ → List ℕ → List (List ℕ)
parts_of bytes [] = []
parts_of bytes (n ∷ ns) = take n bytes ∷ parts_of (drop n bytes) ns

-- where each argument of a call stands: of a call that is not listed, its descriptor alone
abbrev pub HasArguments : Call → Asked → Bytes → Type 0
HasArguments (TOpen prov nonblock) a b = (prov ≡ prov_of a.fd) × (nonblock ≡ not (a.number == 0))
HasArguments (TBind fd addr qlen amax) a b = (fd.0 ≡ a.fd) × (addr ≡ b.addr.now) × (qlen ≡ a.number) × (amax ≡ a.amax)
HasArguments (TConnect fd addr opt udata amax omax umax) a b = (fd.0 ≡ a.fd) × (addr ≡ b.addr.now) × (opt ≡ b.opt.now) × (udata ≡ b.udata.now) × (amax ≡ a.amax) × (omax ≡ a.omax) × (umax ≡ a.umax)
HasArguments (TRcvConnect fd amax omax umax) a b = (fd.0 ≡ a.fd) × (amax ≡ a.amax) × (omax ≡ a.omax) × (umax ≡ a.umax)
HasArguments (TListen fd amax omax umax) a b = (fd.0 ≡ a.fd) × (amax ≡ a.amax) × (omax ≡ a.omax) × (umax ≡ a.umax)
HasArguments (TAccept fd resfd seq opt udata) a b = (fd.0 ≡ a.fd) × (resfd.0 ≡ a.resfd) × (seq.0 ≡ a.seq) × (opt ≡ b.opt.now) × (udata ≡ b.udata.now)
HasArguments (TSnd fd bytes flags) a b = (fd.0 ≡ a.fd) × (bytes ≡ b.udata.now) × (flags ≡ a.number)
HasArguments (TSndV fd parts flags) a b = (fd.0 ≡ a.fd) × (parts ≡ parts_of b.udata.now b.sizes.now) × (flags ≡ a.number)
HasArguments (TRcv fd max) a b = (fd.0 ≡ a.fd) × (max ≡ a.number)
HasArguments (TRcvV fd sizes) a b = (fd.0 ≡ a.fd) × (sizes ≡ b.sizes.now)
HasArguments (TSndDis fd seq udata) a b = (fd.0 ≡ a.fd) × (seq.0 ≡ a.seq) × (udata ≡ b.udata.now)
HasArguments (TRcvDis fd umax) a b = (fd.0 ≡ a.fd) × (umax ≡ a.umax)
HasArguments (TSndRelData fd udata) a b = (fd.0 ≡ a.fd) × (udata ≡ b.udata.now)
HasArguments (TRcvRelData fd umax) a b = (fd.0 ≡ a.fd) × (umax ≡ a.umax)
HasArguments (TSndUData fd addr opt bytes) a b = (fd.0 ≡ a.fd) × (addr ≡ b.addr.now) × (opt ≡ b.opt.now) × (bytes ≡ b.udata.now)
HasArguments (TSndVUData fd addr opt parts) a b = (fd.0 ≡ a.fd) × (addr ≡ b.addr.now) × (opt ≡ b.opt.now) × (parts ≡ parts_of b.udata.now b.sizes.now)
HasArguments (TRcvUData fd max amax omax) a b = (fd.0 ≡ a.fd) × (max ≡ a.number) × (amax ≡ a.amax) × (omax ≡ a.omax)
HasArguments (TRcvVUData fd sizes amax omax) a b = (fd.0 ≡ a.fd) × (sizes ≡ b.sizes.now) × (amax ≡ a.amax) × (omax ≡ a.omax)
HasArguments (TRcvUDErr fd amax omax) a b = (fd.0 ≡ a.fd) × (amax ≡ a.amax) × (omax ≡ a.omax)
HasArguments (TGetProtAddr fd amax pmax) a b = (fd.0 ≡ a.fd) × (amax ≡ a.amax) × (pmax ≡ a.umax)
HasArguments (TOptMgmt fd action opt omax) a b = (fd.0 ≡ a.fd) × (action ≡ a.number) × (opt ≡ b.opt.now) × (omax ≡ a.omax)
HasArguments (SetMode fd nonblock) a b = (fd.0 ≡ a.fd) × (nonblock ≡ not (a.number == 0))
HasArguments other a b = fd_of other ≡ Some a.fd

-- the call that these numbers and bytes ask for: its number, and where each of its arguments stands
abbrev pub Asks : Call → Asked → Bytes → Type 0
Asks c a b = (verb_at a.call ≡ Some (verb_of c)) × HasArguments c a b

-- no call has the number
abbrev pub AsksNoCall : Asked → Type 0
AsksNoCall a = verb_at a.call ≡ None

-- the call that is asked for; none exactly where no call has the number
abbrev pub IsCallOf : Option Call → Asked → Bytes → Type 0
IsCallOf call a b = MatchOption call (AsksNoCall a) (λ c. Asks c a b)

-- ---- which copies of arguments take memory

-- a copy of so few bytes takes none
abbrev pub IsShort : List ℕ → Type 0
IsShort bytes = length bytes ≤ 16

-- what a call copies takes no memory: bytes, where they are few; parts and lists of sizes always may
abbrev pub CopiesNone : Verb → Bytes → Type 0
CopiesNone verb.Bind b = IsShort b.addr.now
CopiesNone verb.Connect b = IsShort b.addr.now × IsShort b.opt.now × IsShort b.udata.now
CopiesNone verb.Accept b = IsShort b.opt.now × IsShort b.udata.now
CopiesNone verb.Snd b = IsShort b.udata.now
CopiesNone verb.SndV b = ⊥
CopiesNone verb.RcvV b = ⊥
CopiesNone verb.SndDis b = IsShort b.udata.now
CopiesNone verb.SndRelData b = IsShort b.udata.now
CopiesNone verb.SndUData b = IsShort b.addr.now × IsShort b.opt.now × IsShort b.udata.now
CopiesNone verb.SndVUData b = ⊥
CopiesNone verb.RcvVUData b = ⊥
CopiesNone verb.OptMgmt b = IsShort b.opt.now
CopiesNone other b = Unit {0}

-- no copy of an argument takes memory
abbrev pub CopiesTakeNone : Asked → Bytes → Type 0
CopiesTakeNone a b = MatchOption (verb_at a.call) (Unit {0}) (λ verb. CopiesNone verb b)
