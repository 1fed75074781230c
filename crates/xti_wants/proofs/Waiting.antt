-- A blocked call's want is blocked, and its fields are small.
use Rattle.std.specs.Prelude.{ℕ, ◌<◌, ◌≤◌, ◌^◌, ◌==◌, ◌&&◌, ◌||◌, not, nat_lt, Bool, true, false, List, [], ◌∷◌, length, Option, Some, None, is_none, unwrap_or, option_and_then, if◌then◌else◌, ◌≡◌}
use Rattle.std.specs.List.{concat}
use Rattle.std.proofs.Common.{refl, sym, ap, subst, ◌∙◌, arith}
use Rattle.std.proofs.lemmas.Bool.{false≢true}
use Rattle.std.proofs.lemmas.Bool.Decides.{nat_tests}
use Rattle.xti_base.specs.declared.errno.Errno.TheVariants.{TBADFLAG, TBADDATA, TFLOW}
use Rattle.xti_base.specs.declared.kinds.Prov.{Prov}
use Rattle.xti_base.specs.declared.kinds.Prov.TheVariants.{Ticots, Ticotsord, Ticlts, Other}
use Rattle.xti_base.specs.declared.kinds.State.TheVariants.{T_IDLE}
use Rattle.xti_base.specs.declared.limit.Limit.{Limit}
use Rattle.xti_base.specs.declared.limit.Limit.TheVariants.{At, Infinite, Invalid}
use Rattle.xti_model.specs.declared.call.Call.{Call}
use Rattle.xti_model.specs.declared.call.Call.TheVariants as call
use Rattle.xti_model.specs.declared.entry.Go.{Go}
use Rattle.xti_model.specs.declared.entry.Go.TheVariants as go
use Rattle.xti_model.specs.declared.profile.Providers.{Providers}
use Rattle.xti_model.specs.Arguments.{bad_address, bad_options, is_too_many, has_other_flags}
use Rattle.xti_model.specs.Calls.Datagrams.{is_over}
use Rattle.xti_model.specs.Calls.Send.{is_too_much}
use Rattle.xti_model.specs.Endpoint.{Endpoint}
use Rattle.xti_model.specs.Events.{looks_datagrams}
use Rattle.xti_model.specs.Plan.{Row, first, refuses, without_datagrams, outside, looks, not_ready}
use Rattle.xti_model.specs.Profile.{valid, has_buffers, has_limit, valid_connections, valid_orderly, valid_datagrams}
use Rattle.xti_model.specs.Provider.{profile, has_datagrams}
use Rattle.xti_model.specs.Sending.{takes_datagram}
use Rattle.xti_model.specs.Switch.{bound}
use Rattle.xti_model.specs.Wants.{Want, want, for_rcvconnect, for_listen, for_snd, for_rcv, for_sndudata, for_rcvudata, want_of, want_to_send, has_good_arguments, argument_rows, is_want_blocked, is_waiting_at, is_waiting, want_rows, datagram_rows, is_bad_length, HasLeft}
use Rattle.xti_model.specs.History.{taken_before}
use Rattle.xti_model.specs.World.{World, endpoint, the_switch}
use Rattle.xti_laws.specs.Waiting.{BlockedWith, BlockedAsWanted, BlockedHasGoodArguments}
use Rattle.xti_base.specs.declared.kinds.Fd.{Fd}
use Rattle.xti_base.specs.declared.limits.TheConstants.{MOST_ADDRESS}
use Rattle.xti_model.specs.Spot.{spot_bytes}
use Rattle.xti_wants.specs.declared.want.Want as rust
use Rattle.xti_wants.specs.declared.want.WantKind.{WantKind}
use Rattle.xti_wants.specs.Meaning.{kind_of}
use Rattle.xti_wants.specs.Wanted.{IsWant, IsMade, BlockedHasWant, BlockedIsWanted}

-- a datagram that is not too long is short
limit-short : (l : Limit) (n : ℕ) → has_limit l ≡ true → is_over l n ≡ false → n ≤ 65536
limit-short (At limit) n h o = grind (arith, nat_tests)
limit-short Infinite n h o = absurd (false≢true h)
limit-short Invalid n h o = absurd (false≢true (sym o))

and-right : (a b : Bool) → (a && b) ≡ true → b ≡ true
and-right true b h = h
and-right false b h = absurd (false≢true h)

and-left : (a b : Bool) → (a && b) ≡ true → a ≡ true
and-left true b h = refl
and-left false b h = h

or-left : (a b : Bool) → (a || b) ≡ false → a ≡ false
or-left true b h = h
or-left false b h = refl

datagram-limit : (p : Providers) → valid p ≡ true → has_limit p.ticlts.tsdu ≡ true
datagram-limit p v =
    let d : valid_datagrams p.ticlts ≡ true = and-right (valid_connections p.ticots && valid_orderly p.ticotsord) (valid_datagrams p.ticlts) v in
    and-right (has_buffers p.ticlts) (has_limit p.ticlts.tsdu) (and-left (has_buffers p.ticlts && has_limit p.ticlts.tsdu) (not p.ticlts.same_addr) d)

prov-limit : (p : Providers) (prov : Prov) → valid p ≡ true → has_datagrams prov ≡ true → has_limit (profile p prov).tsdu ≡ true
prov-limit p Ticots v h = absurd (false≢true h)
prov-limit p Ticotsord v h = absurd (false≢true h)
prov-limit p Ticlts v h = datagram-limit p v
prov-limit p Other v h = absurd (false≢true h)

-- a row that answers at once isn't the one that waits
skip : (row : Row) (rows : List Row) → is_waiting (Some row.refusal) ≡ false → is_waiting (first (row ∷ rows)) ≡ true → (row.holds ≡ false) × (is_waiting (first rows) ≡ true)
skip row rows n h = by row.holds refl h
  where
    by : (b : Bool) → row.holds ≡ b → is_waiting (if b then Some row.refusal else first rows) ≡ true → (row.holds ≡ false) × (is_waiting (first rows) ≡ true)
    by true i h = absurd (false≢true (sym n ∙ h))
    by false i h = (i, h)

not-not : (b : Bool) → not b ≡ false → b ≡ true
not-not true h = refl
not-not false h = absurd (false≢true (sym h))

rows-short : (p : Providers) (left : ℕ) (there : Option Endpoint) (e : Endpoint) → valid p ≡ true → is_waiting (first (datagram_rows p left there e)) ≡ true → left ≤ 65536
rows-short p left there e v h =
    let r1 : List Row = looks looks_datagrams e ∷ not_ready (not (takes_datagram there)) TFLOW ∷ [] in
    let r2 : List Row = refuses (is_bad_length (profile p e.prov) left) TBADDATA ∷ r1 in
    let r3 : List Row = outside (T_IDLE ∷ []) e ∷ r2 in
    let a = skip (without_datagrams e) r3 refl h in
    let b = skip (outside (T_IDLE ∷ []) e) r2 refl a.1 in
    let c = skip (refuses (is_bad_length (profile p e.prov) left) TBADDATA) r1 refl b.1 in
    limit-short (profile p e.prov).tsdu left (prov-limit p e.prov v (not-not (has_datagrams e.prov) a.0)) (or-left (is_over (profile p e.prov).tsdu left) ((left == 0) && not (profile p e.prov).sendzero) c.0)

pub blocked-left : (p : Providers) (w : World) (v : Want) → valid p ≡ true → v.kind ≡ for_sndudata → is_want_blocked p w v ≡ true → v.left ≤ 65536
blocked-left p w v ok kind b = by (endpoint p w v.fd) b
  where
    by : (o : Option Endpoint) → is_waiting_at p w v o ≡ true → v.left ≤ 65536
    by None h = absurd (false≢true h)
    by (Some e) h =
        let r = and-right (not e.nonblock) (is_waiting (first (want_rows p w v v.kind e))) h in
        rows-short p v.left (option_and_then (endpoint p w) (bound (the_switch p w) e.prov v.to)) e ok (subst (λ k. is_waiting (first (want_rows p w v k e)) ≡ true) kind r)

-- the destination of a call with good arguments is short
good-address : (addr : List ℕ) (rows : List Row) → is_none (first (bad_address addr ∷ rows)) ≡ true → length addr ≤ 64
good-address addr rows h = by ((length addr == 0) || nat_lt 64 (length addr)) refl h
  where
    by : (b : Bool) → ((length addr == 0) || nat_lt 64 (length addr)) ≡ b → is_none (if b then Some (bad_address addr).refusal else first rows) ≡ true → length addr ≤ 64
    by true i h = absurd (false≢true h)
    by false i h = grind (arith, nat_tests)

-- a row that no argument meets leaves the next
none-next : (row : Row) (rows : List Row) → is_none (first (row ∷ rows)) ≡ true → (row.holds ≡ false) × (is_none (first rows) ≡ true)
none-next row rows h = by row.holds refl h
  where
    by : (b : Bool) → row.holds ≡ b → is_none (if b then Some row.refusal else first rows) ≡ true → (row.holds ≡ false) × (is_none (first rows) ≡ true)
    by true i h = absurd (false≢true h)
    by false i h = (i, h)

or-right : (a b : Bool) → (a || b) ≡ false → b ≡ false
or-right true b h = absurd (false≢true (sym h))
or-right false b h = h

-- the bytes of a send with good arguments are few
good-bytes : (parts : ℕ) (bytes : List ℕ) (flags : ℕ) → is_none (first (refuses (has_other_flags flags) TBADFLAG ∷ refuses (is_too_much parts bytes) TBADDATA ∷ [])) ≡ true → length bytes ≤ 65536
good-bytes parts bytes flags h =
    let a = none-next (refuses (has_other_flags flags) TBADFLAG) (refuses (is_too_much parts bytes) TBADDATA ∷ []) h in
    let b = none-next (refuses (is_too_much parts bytes) TBADDATA) [] a.1 in
    let c = or-right (is_too_many parts) (nat_lt 65536 (length bytes)) b.0 in
    grind (arith, nat_tests)

abbrev Small : Want → Type 0
Small v = (v.left < 2 ^ 32) × (length v.to ≤ 64)

some-same : (v v' : Want) → ◌≡◌ {A = Option Want} (Some v') (Some v) → v' ≡ v
some-same v v' e = ap (λ o. unwrap_or o v') e

small-plain : (v : Want) (kind : _) (fd : ℕ) → ◌≡◌ {A = Option Want} (Some (want kind fd)) (Some v) → Small v
small-plain v kind fd e = subst Small (some-same v (want kind fd) e) (omega arith, omega arith)

small-send : (v : Want) (fd : ℕ) (bytes : List ℕ) (flags : ℕ) (g : Go) → ◌≡◌ {A = Option Want} (Some (want_to_send fd bytes flags g)) (Some v) → length bytes ≤ 65536 → Small v
small-send v fd bytes flags g e le = subst Small (some-same v (want_to_send fd bytes flags g) e) (omega (arith, le), omega arith)

small-datagram : (p : Providers) (w : World) (v : Want) (fd : ℕ) (bytes addr : List ℕ) → valid p ≡ true → ◌≡◌ {A = Option Want} (Some (record (want for_sndudata fd) { left = length bytes; to = addr })) (Some v) → length addr ≤ 64 → is_want_blocked p w v ≡ true → Small v
small-datagram p w v fd bytes addr ok e l b =
    let x : Want = record (want for_sndudata fd) { left = length bytes; to = addr } in
    let s : x ≡ v = some-same v x e in
    let n = blocked-left p w x ok refl (subst (λ z. is_want_blocked p w z ≡ true) (sym s) b) in
    subst Small s (omega (arith, n), l)

small-connect : (g : Go) (fd : ℕ) (v : Want) → Rattle.xti_model.specs.Wants.want_of_connect fd g ≡ Some v → Small v
small-connect go.Begin fd v e = absurd (let x = e in cc)
small-connect (go.More n) fd v e = small-plain v for_rcvconnect fd e

small : (p : Providers) (w : World) (c : Call) (g : Go) (v : Want) → valid p ≡ true → want_of c g ≡ Some v → has_good_arguments c ≡ true → is_want_blocked p w v ≡ true → Small v
small p w (call.TConnect fd addr opt udata amax omax umax) g v ok e good h = small-connect g fd.0 v e
small p w (call.TRcvConnect fd amax omax umax) g v ok e good h = small-plain v for_rcvconnect fd.0 e
small p w (call.TListen fd amax omax umax) g v ok e good h = small-plain v for_listen fd.0 e
small p w (call.TSnd fd bytes flags) g v ok e good h = small-send v fd.0 bytes flags g e (good-bytes 1 bytes flags good)
small p w (call.TSndV fd parts flags) g v ok e good h = small-send v fd.0 (concat parts) flags g e (good-bytes (length parts) (concat parts) flags good)
small p w (call.TRcv fd max) g v ok e good h = small-plain v for_rcv fd.0 e
small p w (call.TRcvV fd sizes) g v ok e good h = small-plain v for_rcv fd.0 e
small p w (call.TSndUData fd addr opt bytes) g v ok e good h = small-datagram p w v fd.0 bytes addr ok e (good-address addr (bad_options opt ∷ refuses (is_too_many 1) TBADDATA ∷ []) good) h
small p w (call.TSndVUData fd addr opt parts) g v ok e good h = small-datagram p w v fd.0 (concat parts) addr ok e (good-address addr (bad_options opt ∷ refuses (is_too_many (length parts)) TBADDATA ∷ []) good) h
small p w (call.TRcvUData fd max amax omax) g v ok e good h = small-plain v for_rcvudata fd.0 e
small p w (call.TRcvVUData fd sizes amax omax) g v ok e good h = small-plain v for_rcvudata fd.0 e
small p w other g v ok e good h = absurd (let y = e in cc)

-- the want of a blocked call is blocked
pub blocked-is-wanted : (p : Providers) (w : World) (c : Call) (g : Go) → BlockedAsWanted p w c g → BlockedHasGoodArguments p w c g → BlockedIsWanted p w c g
blocked-is-wanted p w c g aw good ok left blk x is =
    let args : has_good_arguments c ≡ true = good blk in
    let wanted : BlockedWith p w c g (Some is.0) = subst (BlockedWith p w c g) is.1 (aw args left) in
    let h : is_want_blocked p w is.0 ≡ true = sym wanted ∙ blk in
    let s = small p w c g is.0 ok is.1 args h in
    subst (λ v. is_want_blocked p w v ≡ true) (sym (is.2 s.0 s.1)) h

-- a call without a want is never blocked
pub blocked-has-want : (p : Providers) (w : World) (c : Call) (g : Go) → BlockedAsWanted p w c g → BlockedHasGoodArguments p w c g → BlockedHasWant p w c g
blocked-has-want p w c g aw good left blk none =
    let wanted : BlockedWith p w c g None = subst (BlockedWith p w c g) none (aw (good blk) left) in
    false≢true (sym wanted ∙ blk)

-- a value that is made of a want's fields is that want
pub made : (c : Call) (g : Go) (v : Want) (kind : WantKind) (fd : Fd) (left flags : ℕ) (to : List ℕ) (w : rust.Want) → IsMade kind fd left flags to w → want_of c g ≡ Some v
    → kind_of kind ≡ v.kind → fd.0 ≡ v.fd → (v.left < 2 ^ 32 → left ≡ v.left) → flags ≡ v.flags → to ≡ v.to → IsWant c g w
made c g v kind fd left flags to w m e k f l a t = (
  v,
  e,
  λ lt le.
      let same = l lt in
      let kinds : kind_of w.kind ≡ v.kind = ap kind_of m.kind_is ∙ k in
      let ends : w.fd.0 ≡ v.fd = ap (λ (z : Fd). z.0) m.fd_is ∙ f in
      let bytes : w.left ≡ v.left = m.left_is (omega (arith, same, lt)) ∙ same in
      let marks : w.flags ≡ v.flags = m.flags_is ∙ a in
      let place : spot_bytes w.to ≡ v.to = m.to_is (subst (λ (z : List ℕ). length z ≤ MOST_ADDRESS) (sym t) le) ∙ t in
      λ i. record { kind = kinds i; fd = ends i; left = bytes i; flags = marks i; to = place i },
)
