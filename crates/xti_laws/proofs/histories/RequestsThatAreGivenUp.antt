-- requests that are given up
use Rattle.std.specs.Prelude.{true, false, List, [], ◌∷◌, ◌≡◌, refl, codes, Some, None}
use Rattle.std.specs.Fmt.{digits}
use Rattle.xti_base.specs.Options.{begins_option, is_option_list, options_within}
use Rattle.xti_base.specs.declared.errno.Errno.TheVariants.{TNODATA}
use Rattle.xti_base.specs.declared.kinds.Event.TheVariants.{T_DISCONNECT}
use Rattle.xti_base.specs.declared.kinds.Prov.TheVariants.{Ticotsord}
use Rattle.xti_base.specs.declared.kinds.State.TheVariants.{T_UNINIT, T_UNBND, T_IDLE, T_OUTCON, T_INCON, T_DATAXFER}
use Rattle.xti_base.specs.declared.limit.Limit.TheVariants.{At}
use Rattle.xti_model.specs.declared.call.Call.TheVariants as call
use Rattle.xti_model.specs.declared.entry.Act.TheVariants as act
use Rattle.xti_model.specs.declared.entry.Entry.{Entry}
use Rattle.xti_model.specs.declared.entry.Outcome.TheVariants.{Done}
use Rattle.xti_model.specs.declared.entry.Reply.TheVariants.{Plain, Opened, Bound, Connected, Listened, Discon, Seen, Addresses, Refused}
use Rattle.xti_model.specs.declared.profile.Providers.{Providers}
use Rattle.xti_model.specs.declared.profile.Version.TheVariants.{One}
use Rattle.xti_model.specs.declared.script.Line.{Line}
use Rattle.xti_model.specs.declared.script.NamedCall.TheVariants as named
use Rattle.xti_model.specs.Robin.{robin}
use Rattle.xti_model.specs.Step.{plan, step}
use Rattle.xti_model.specs.World.{opening}

providers : Providers
providers = record { version = One; ticots = record { tsdu = At 65536; sendzero = true; same_addr = false; sndbuf = 16384; rcvbuf = 16384; reldata = false }; ticotsord = record { tsdu = At 0; sendzero = false; same_addr = false; sndbuf = 16384; rcvbuf = 16384; reldata = false }; ticlts = record { tsdu = At 8192; sendzero = true; same_addr = false; sndbuf = 16384; rcvbuf = 16384; reldata = false } }

lines : List Line
lines =
    record { worker = 0; call = named.TOpen (codes "l") Ticotsord true } ∷
    record { worker = 0; call = named.TBind (codes "l") (codes "l") 3 64 } ∷
    record { worker = 0; call = named.TOpen (codes "a") Ticotsord true } ∷
    record { worker = 0; call = named.TBind (codes "a") [] 0 64 } ∷
    record { worker = 0; call = named.TOpen (codes "b") Ticotsord true } ∷
    record { worker = 0; call = named.TBind (codes "b") [] 0 64 } ∷
    record { worker = 0; call = named.TOpen (codes "c") Ticotsord true } ∷
    record { worker = 0; call = named.TBind (codes "c") [] 0 64 } ∷
    record { worker = 0; call = named.TOpen (codes "d") Ticotsord true } ∷
    record { worker = 0; call = named.TBind (codes "d") [] 0 64 } ∷
    record { worker = 0; call = named.TConnect (codes "a") (codes "l") [] [] 64 256 64 } ∷
    record { worker = 0; call = named.TConnect (codes "b") (codes "l") (0 ∷ 0 ∷ 0 ∷ 20 ∷ 0 ∷ 0 ∷ 0 ∷ 1 ∷ 0 ∷ 0 ∷ 0 ∷ 2 ∷ 0 ∷ 0 ∷ 0 ∷ 0 ∷ 0 ∷ 0 ∷ 0 ∷ 3 ∷ []) (codes "hello") 64 256 64 } ∷
    record { worker = 0; call = named.TConnect (codes "c") (codes "l") [] [] 64 256 64 } ∷
    record { worker = 0; call = named.TConnect (codes "d") (codes "l") [] [] 64 256 64 } ∷
    record { worker = 0; call = named.TRcvDis (codes "d") 64 } ∷
    record { worker = 0; call = named.TListen (codes "l") (codes "p") 64 256 64 } ∷
    record { worker = 0; call = named.TListen (codes "l") (codes "q") 64 256 64 } ∷
    record { worker = 0; call = named.TSndDis (codes "a") None (codes "never") } ∷
    record { worker = 0; call = named.TSndDis (codes "c") None [] } ∷
    record { worker = 0; call = named.TLookAt (codes "l") } ∷
    record { worker = 0; call = named.TRcvDis (codes "l") 64 } ∷
    record { worker = 0; call = named.TLookAt (codes "l") } ∷
    record { worker = 0; call = named.TListen (codes "l") (codes "r") 64 256 64 } ∷
    record { worker = 0; call = named.TConnect (codes "d") (codes "l") [] [] 64 256 64 } ∷
    record { worker = 0; call = named.TListen (codes "l") (codes "s") 64 256 64 } ∷
    record { worker = 0; call = named.TConnect (codes "c") (codes "l") [] [] 64 256 64 } ∷
    record { worker = 0; call = named.TSndDis (codes "d") None [] } ∷
    record { worker = 0; call = named.TClose (codes "l") } ∷
    record { worker = 0; call = named.TLookAt (codes "b") } ∷
    record { worker = 0; call = named.TLookAt (codes "d") } ∷
    record { worker = 0; call = named.TRcvDis (codes "b") 64 } ∷
    record { worker = 0; call = named.TRcvDis (codes "c") 64 } ∷
    record { worker = 0; call = named.TOpen (codes "l2") Ticotsord true } ∷
    record { worker = 0; call = named.TBind (codes "l2") (codes "l") 1 64 } ∷
    record { worker = 0; call = named.TConnect (codes "d") (codes "l") [] [] 64 256 64 } ∷
    record { worker = 0; call = named.TListen (codes "l2") (codes "q2") 64 256 64 } ∷
    record { worker = 0; call = named.TAccept (codes "l2") (codes "l2") (codes "q2") [] [] } ∷
    record { worker = 0; call = named.TConnect (codes "c") (codes "l") [] [] 64 256 64 } ∷
    record { worker = 0; call = named.TRcvDis (codes "c") 64 } ∷
    record { worker = 0; call = named.TRcvConnect (codes "d") 64 256 64 } ∷
    record { worker = 0; call = named.TGetProtAddr (codes "l2") 64 64 } ∷
    record { worker = 0; call = named.TClose (codes "d") } ∷
    record { worker = 0; call = named.TGetProtAddr (codes "l2") 64 64 } ∷
    record { worker = 0; call = named.TRcvDis (codes "l2") 64 } ∷
    record { worker = 0; call = named.TConnect (codes "c") (codes "l") [] [] 64 256 64 } ∷
    record { worker = 0; call = named.TListen (codes "l2") (codes "r2") 64 256 64 } ∷
    record { worker = 0; call = named.TSndDis (codes "l2") (Some (codes "r2")) (codes "no") } ∷
    record { worker = 0; call = named.TRcvDis (codes "c") 64 } ∷
    record { worker = 0; call = named.TUnbind (codes "l2") } ∷
    record { worker = 0; call = named.TBind (codes "l2") (codes "m") 20 64 } ∷
    record { worker = 0; call = named.TConnect (codes "c") (codes "m") [] [] 64 256 64 } ∷
    record { worker = 0; call = named.TListen (codes "l2") (codes "s2") 64 256 64 } ∷
    []

entries : List Entry
entries =
    record { worker = 0; act = act.Begin (call.TOpen Ticotsord true); outcome = Done (Opened (record { 0 = 0 })); after = T_UNBND } ∷
    record { worker = 0; act = act.Begin (call.TBind (record { 0 = 0 }) (codes "l") 3 64); outcome = Done (Bound (codes "l") 3); after = T_IDLE } ∷
    record { worker = 0; act = act.Begin (call.TOpen Ticotsord true); outcome = Done (Opened (record { 0 = 1 })); after = T_UNBND } ∷
    record { worker = 0; act = act.Begin (call.TBind (record { 0 = 1 }) [] 0 64); outcome = Done (Bound (codes "#0") 0); after = T_IDLE } ∷
    record { worker = 0; act = act.Begin (call.TOpen Ticotsord true); outcome = Done (Opened (record { 0 = 2 })); after = T_UNBND } ∷
    record { worker = 0; act = act.Begin (call.TBind (record { 0 = 2 }) [] 0 64); outcome = Done (Bound (codes "#1") 0); after = T_IDLE } ∷
    record { worker = 0; act = act.Begin (call.TOpen Ticotsord true); outcome = Done (Opened (record { 0 = 3 })); after = T_UNBND } ∷
    record { worker = 0; act = act.Begin (call.TBind (record { 0 = 3 }) [] 0 64); outcome = Done (Bound (codes "#2") 0); after = T_IDLE } ∷
    record { worker = 0; act = act.Begin (call.TOpen Ticotsord true); outcome = Done (Opened (record { 0 = 4 })); after = T_UNBND } ∷
    record { worker = 0; act = act.Begin (call.TBind (record { 0 = 4 }) [] 0 64); outcome = Done (Bound (codes "#3") 0); after = T_IDLE } ∷
    record { worker = 0; act = act.Begin (call.TConnect (record { 0 = 1 }) (codes "l") [] [] 64 256 64); outcome = Done (Refused TNODATA); after = T_OUTCON } ∷
    record { worker = 0; act = act.Begin (call.TConnect (record { 0 = 2 }) (codes "l") (0 ∷ 0 ∷ 0 ∷ 20 ∷ 0 ∷ 0 ∷ 0 ∷ 1 ∷ 0 ∷ 0 ∷ 0 ∷ 2 ∷ 0 ∷ 0 ∷ 0 ∷ 0 ∷ 0 ∷ 0 ∷ 0 ∷ 3 ∷ []) (codes "hello") 64 256 64); outcome = Done (Refused TNODATA); after = T_OUTCON } ∷
    record { worker = 0; act = act.Begin (call.TConnect (record { 0 = 3 }) (codes "l") [] [] 64 256 64); outcome = Done (Refused TNODATA); after = T_OUTCON } ∷
    record { worker = 0; act = act.Begin (call.TConnect (record { 0 = 4 }) (codes "l") [] [] 64 256 64); outcome = Done (Refused TNODATA); after = T_OUTCON } ∷
    record { worker = 0; act = act.Begin (call.TRcvDis (record { 0 = 4 }) 64); outcome = Done (Discon 2 (record { 0 = 0 }) []); after = T_IDLE } ∷
    record { worker = 0; act = act.Begin (call.TListen (record { 0 = 0 }) 64 256 64); outcome = Done (Listened (record { 0 = 1 }) (codes "#0") [] []); after = T_INCON } ∷
    record { worker = 0; act = act.Begin (call.TListen (record { 0 = 0 }) 64 256 64); outcome = Done (Listened (record { 0 = 2 }) (codes "#1") (0 ∷ 0 ∷ 0 ∷ 20 ∷ 0 ∷ 0 ∷ 0 ∷ 1 ∷ 0 ∷ 0 ∷ 0 ∷ 2 ∷ 0 ∷ 0 ∷ 0 ∷ 0 ∷ 0 ∷ 0 ∷ 0 ∷ 3 ∷ []) (codes "hello")); after = T_INCON } ∷
    record { worker = 0; act = act.Begin (call.TSndDis (record { 0 = 1 }) (record { 0 = 0 }) (codes "never")); outcome = Done Plain; after = T_IDLE } ∷
    record { worker = 0; act = act.Begin (call.TSndDis (record { 0 = 3 }) (record { 0 = 0 }) []); outcome = Done Plain; after = T_IDLE } ∷
    record { worker = 0; act = act.Begin (call.TLookAt (record { 0 = 0 })); outcome = Done (Seen (Some T_DISCONNECT)); after = T_INCON } ∷
    record { worker = 0; act = act.Begin (call.TRcvDis (record { 0 = 0 }) 64); outcome = Done (Discon 4 (record { 0 = 1 }) (codes "never")); after = T_INCON } ∷
    record { worker = 0; act = act.Begin (call.TLookAt (record { 0 = 0 })); outcome = Done (Seen None); after = T_INCON } ∷
    record { worker = 0; act = act.Begin (call.TListen (record { 0 = 0 }) 64 256 64); outcome = Done (Refused TNODATA); after = T_INCON } ∷
    record { worker = 0; act = act.Begin (call.TConnect (record { 0 = 4 }) (codes "l") [] [] 64 256 64); outcome = Done (Refused TNODATA); after = T_OUTCON } ∷
    record { worker = 0; act = act.Begin (call.TListen (record { 0 = 0 }) 64 256 64); outcome = Done (Listened (record { 0 = 4 }) (codes "#3") [] []); after = T_INCON } ∷
    record { worker = 0; act = act.Begin (call.TConnect (record { 0 = 3 }) (codes "l") [] [] 64 256 64); outcome = Done (Refused TNODATA); after = T_OUTCON } ∷
    record { worker = 0; act = act.Begin (call.TSndDis (record { 0 = 4 }) (record { 0 = 0 }) []); outcome = Done Plain; after = T_IDLE } ∷
    record { worker = 0; act = act.Begin (call.TClose (record { 0 = 0 })); outcome = Done Plain; after = T_UNINIT } ∷
    record { worker = 0; act = act.Begin (call.TLookAt (record { 0 = 2 })); outcome = Done (Seen (Some T_DISCONNECT)); after = T_OUTCON } ∷
    record { worker = 0; act = act.Begin (call.TLookAt (record { 0 = 4 })); outcome = Done (Seen None); after = T_IDLE } ∷
    record { worker = 0; act = act.Begin (call.TRcvDis (record { 0 = 2 }) 64); outcome = Done (Discon 5 (record { 0 = 0 }) []); after = T_IDLE } ∷
    record { worker = 0; act = act.Begin (call.TRcvDis (record { 0 = 3 }) 64); outcome = Done (Discon 5 (record { 0 = 0 }) []); after = T_IDLE } ∷
    record { worker = 0; act = act.Begin (call.TOpen Ticotsord true); outcome = Done (Opened (record { 0 = 64 })); after = T_UNBND } ∷
    record { worker = 0; act = act.Begin (call.TBind (record { 0 = 64 }) (codes "l") 1 64); outcome = Done (Bound (codes "l") 1); after = T_IDLE } ∷
    record { worker = 0; act = act.Begin (call.TConnect (record { 0 = 4 }) (codes "l") [] [] 64 256 64); outcome = Done (Refused TNODATA); after = T_OUTCON } ∷
    record { worker = 0; act = act.Begin (call.TListen (record { 0 = 64 }) 64 256 64); outcome = Done (Listened (record { 0 = 1 }) (codes "#3") [] []); after = T_INCON } ∷
    record { worker = 0; act = act.Begin (call.TAccept (record { 0 = 64 }) (record { 0 = 64 }) (record { 0 = 1 }) [] []); outcome = Done Plain; after = T_DATAXFER } ∷
    record { worker = 0; act = act.Begin (call.TConnect (record { 0 = 3 }) (codes "l") [] [] 64 256 64); outcome = Done (Refused TNODATA); after = T_OUTCON } ∷
    record { worker = 0; act = act.Begin (call.TRcvDis (record { 0 = 3 }) 64); outcome = Done (Discon 1 (record { 0 = 0 }) []); after = T_IDLE } ∷
    record { worker = 0; act = act.Begin (call.TRcvConnect (record { 0 = 4 }) 64 256 64); outcome = Done (Connected (codes "l") [] []); after = T_DATAXFER } ∷
    record { worker = 0; act = act.Begin (call.TGetProtAddr (record { 0 = 64 }) 64 64); outcome = Done (Addresses (codes "l") (codes "#3")); after = T_DATAXFER } ∷
    record { worker = 0; act = act.Begin (call.TClose (record { 0 = 4 })); outcome = Done Plain; after = T_UNINIT } ∷
    record { worker = 0; act = act.Begin (call.TGetProtAddr (record { 0 = 64 }) 64 64); outcome = Done (Addresses (codes "l") []); after = T_DATAXFER } ∷
    record { worker = 0; act = act.Begin (call.TRcvDis (record { 0 = 64 }) 64); outcome = Done (Discon 5 (record { 0 = 0 }) []); after = T_IDLE } ∷
    record { worker = 0; act = act.Begin (call.TConnect (record { 0 = 3 }) (codes "l") [] [] 64 256 64); outcome = Done (Refused TNODATA); after = T_OUTCON } ∷
    record { worker = 0; act = act.Begin (call.TListen (record { 0 = 64 }) 64 256 64); outcome = Done (Listened (record { 0 = 2 }) (codes "#2") [] []); after = T_INCON } ∷
    record { worker = 0; act = act.Begin (call.TSndDis (record { 0 = 64 }) (record { 0 = 2 }) (codes "no")); outcome = Done Plain; after = T_IDLE } ∷
    record { worker = 0; act = act.Begin (call.TRcvDis (record { 0 = 3 }) 64); outcome = Done (Discon 3 (record { 0 = 0 }) (codes "no")); after = T_IDLE } ∷
    record { worker = 0; act = act.Begin (call.TUnbind (record { 0 = 64 })); outcome = Done Plain; after = T_UNBND } ∷
    record { worker = 0; act = act.Begin (call.TBind (record { 0 = 64 }) (codes "m") 20 64); outcome = Done (Bound (codes "m") 8); after = T_IDLE } ∷
    record { worker = 0; act = act.Begin (call.TConnect (record { 0 = 3 }) (codes "m") [] [] 64 256 64); outcome = Done (Refused TNODATA); after = T_OUTCON } ∷
    record { worker = 0; act = act.Begin (call.TListen (record { 0 = 64 }) 64 256 64); outcome = Done (Listened (record { 0 = 3 }) (codes "#2") [] []); after = T_INCON } ∷
    []

the_history : robin (record { providers = providers; lines = lines }) ≡ entries
unfolding providers lines entries digits opening step plan is_option_list options_within begins_option
the_history = refl
