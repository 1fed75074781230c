-- refusals of releases
use Rattle.std.specs.Prelude.{true, false, List, [], ◌∷◌, ◌≡◌, refl, codes, None}
use Rattle.std.specs.Fmt.{digits}
use Rattle.xti_base.specs.Options.{begins_option, is_option_list, options_within}
use Rattle.xti_base.specs.declared.errno.Errno.TheVariants.{TBADF, TOUTSTATE, TNODATA, TNOREL, TNOTSUPPORT}
use Rattle.xti_base.specs.declared.kinds.Event.TheVariants.{T_DISCONNECT}
use Rattle.xti_base.specs.declared.kinds.Prov.TheVariants.{Ticots, Ticotsord, Ticlts}
use Rattle.xti_base.specs.declared.kinds.State.TheVariants.{T_UNINIT, T_UNBND, T_IDLE, T_OUTCON, T_INCON, T_DATAXFER, T_OUTREL, T_INREL}
use Rattle.xti_base.specs.declared.limit.Limit.TheVariants.{At}
use Rattle.xti_model.specs.declared.call.Call.TheVariants as call
use Rattle.xti_model.specs.declared.entry.Act.TheVariants as act
use Rattle.xti_model.specs.declared.entry.Entry.{Entry}
use Rattle.xti_model.specs.declared.entry.Outcome.TheVariants.{Done}
use Rattle.xti_model.specs.declared.entry.Reply.TheVariants.{Plain, Opened, Bound, Connected, Listened, Sent, Got, Discon, Refused, Look}
use Rattle.xti_model.specs.declared.profile.Providers.{Providers}
use Rattle.xti_model.specs.declared.profile.Version.TheVariants.{One}
use Rattle.xti_model.specs.declared.script.Line.{Line}
use Rattle.xti_model.specs.declared.script.NamedCall.TheVariants as named
use Rattle.xti_model.specs.Robin.{robin}
use Rattle.xti_model.specs.Step.{plan, step}
use Rattle.xti_model.specs.World.{opening}

providers : Providers
providers = record { version = One; ticots = record { tsdu = At 65536; sendzero = true; same_addr = false; sndbuf = 16384; rcvbuf = 16384; reldata = false }; ticotsord = record { tsdu = At 0; sendzero = false; same_addr = false; sndbuf = 16384; rcvbuf = 16384; reldata = false }; ticlts = record { tsdu = At 8192; sendzero = true; same_addr = false; sndbuf = 16384; rcvbuf = 16384; reldata = false } }

lines : List Line
lines =
    record { worker = 0; call = named.TOpen (codes "z") Ticotsord false } ∷
    record { worker = 0; call = named.TClose (codes "z") } ∷
    record { worker = 0; call = named.TSndRel (codes "z") } ∷
    record { worker = 0; call = named.TRcvRel (codes "z") } ∷
    record { worker = 0; call = named.TOpen (codes "u") Ticlts false } ∷
    record { worker = 0; call = named.TSndRel (codes "u") } ∷
    record { worker = 0; call = named.TRcvRel (codes "u") } ∷
    record { worker = 0; call = named.TOpen (codes "t") Ticots false } ∷
    record { worker = 0; call = named.TSndRel (codes "t") } ∷
    record { worker = 0; call = named.TRcvRel (codes "t") } ∷
    record { worker = 0; call = named.TOpen (codes "n") Ticotsord false } ∷
    record { worker = 0; call = named.TSndRel (codes "n") } ∷
    record { worker = 0; call = named.TRcvRel (codes "n") } ∷
    record { worker = 0; call = named.TOpen (codes "l") Ticotsord false } ∷
    record { worker = 0; call = named.TBind (codes "l") (codes "l") 1 64 } ∷
    record { worker = 0; call = named.TOpen (codes "c") Ticotsord true } ∷
    record { worker = 0; call = named.TBind (codes "c") [] 0 64 } ∷
    record { worker = 0; call = named.TConnect (codes "c") (codes "l") [] [] 64 256 64 } ∷
    record { worker = 0; call = named.TListen (codes "l") (codes "ql") 64 256 64 } ∷
    record { worker = 0; call = named.TOpen (codes "r") Ticotsord false } ∷
    record { worker = 0; call = named.TAccept (codes "l") (codes "r") (codes "ql") [] [] } ∷
    record { worker = 0; call = named.TRcvConnect (codes "c") 64 256 64 } ∷
    record { worker = 0; call = named.TRcvRel (codes "c") } ∷
    record { worker = 0; call = named.TSnd (codes "r") (codes "last") 0 } ∷
    record { worker = 0; call = named.TSndRel (codes "r") } ∷
    record { worker = 0; call = named.TRcvRel (codes "c") } ∷
    record { worker = 0; call = named.TRcv (codes "c") 65536 } ∷
    record { worker = 0; call = named.TRcvRel (codes "c") } ∷
    record { worker = 0; call = named.TSndRel (codes "c") } ∷
    record { worker = 0; call = named.TRcvRel (codes "r") } ∷
    record { worker = 0; call = named.TOpen (codes "m") Ticotsord false } ∷
    record { worker = 0; call = named.TBind (codes "m") (codes "m") 1 64 } ∷
    record { worker = 0; call = named.TOpen (codes "d") Ticotsord true } ∷
    record { worker = 0; call = named.TBind (codes "d") [] 0 64 } ∷
    record { worker = 0; call = named.TConnect (codes "d") (codes "m") [] [] 64 256 64 } ∷
    record { worker = 0; call = named.TListen (codes "m") (codes "qm") 64 256 64 } ∷
    record { worker = 0; call = named.TOpen (codes "s") Ticotsord false } ∷
    record { worker = 0; call = named.TAccept (codes "m") (codes "s") (codes "qm") [] [] } ∷
    record { worker = 0; call = named.TRcvConnect (codes "d") 64 256 64 } ∷
    record { worker = 0; call = named.TSndDis (codes "s") None [] } ∷
    record { worker = 0; call = named.TSndRel (codes "d") } ∷
    record { worker = 0; call = named.TRcvRel (codes "d") } ∷
    record { worker = 0; call = named.TRcvDis (codes "d") 64 } ∷
    []

entries : List Entry
entries =
    record { worker = 0; act = act.Begin (call.TOpen Ticotsord false); outcome = Done (Opened (record { 0 = 0 })); after = T_UNBND } ∷
    record { worker = 0; act = act.Begin (call.TClose (record { 0 = 0 })); outcome = Done Plain; after = T_UNINIT } ∷
    record { worker = 0; act = act.Begin (call.TSndRel (record { 0 = 0 })); outcome = Done (Refused TBADF); after = T_UNINIT } ∷
    record { worker = 0; act = act.Begin (call.TRcvRel (record { 0 = 0 })); outcome = Done (Refused TBADF); after = T_UNINIT } ∷
    record { worker = 0; act = act.Begin (call.TOpen Ticlts false); outcome = Done (Opened (record { 0 = 64 })); after = T_UNBND } ∷
    record { worker = 0; act = act.Begin (call.TSndRel (record { 0 = 64 })); outcome = Done (Refused TNOTSUPPORT); after = T_UNBND } ∷
    record { worker = 0; act = act.Begin (call.TRcvRel (record { 0 = 64 })); outcome = Done (Refused TNOTSUPPORT); after = T_UNBND } ∷
    record { worker = 0; act = act.Begin (call.TOpen Ticots false); outcome = Done (Opened (record { 0 = 1 })); after = T_UNBND } ∷
    record { worker = 0; act = act.Begin (call.TSndRel (record { 0 = 1 })); outcome = Done (Refused TNOTSUPPORT); after = T_UNBND } ∷
    record { worker = 0; act = act.Begin (call.TRcvRel (record { 0 = 1 })); outcome = Done (Refused TNOTSUPPORT); after = T_UNBND } ∷
    record { worker = 0; act = act.Begin (call.TOpen Ticotsord false); outcome = Done (Opened (record { 0 = 2 })); after = T_UNBND } ∷
    record { worker = 0; act = act.Begin (call.TSndRel (record { 0 = 2 })); outcome = Done (Refused TOUTSTATE); after = T_UNBND } ∷
    record { worker = 0; act = act.Begin (call.TRcvRel (record { 0 = 2 })); outcome = Done (Refused TOUTSTATE); after = T_UNBND } ∷
    record { worker = 0; act = act.Begin (call.TOpen Ticotsord false); outcome = Done (Opened (record { 0 = 3 })); after = T_UNBND } ∷
    record { worker = 0; act = act.Begin (call.TBind (record { 0 = 3 }) (codes "l") 1 64); outcome = Done (Bound (codes "l") 1); after = T_IDLE } ∷
    record { worker = 0; act = act.Begin (call.TOpen Ticotsord true); outcome = Done (Opened (record { 0 = 4 })); after = T_UNBND } ∷
    record { worker = 0; act = act.Begin (call.TBind (record { 0 = 4 }) [] 0 64); outcome = Done (Bound (codes "#0") 0); after = T_IDLE } ∷
    record { worker = 0; act = act.Begin (call.TConnect (record { 0 = 4 }) (codes "l") [] [] 64 256 64); outcome = Done (Refused TNODATA); after = T_OUTCON } ∷
    record { worker = 0; act = act.Begin (call.TListen (record { 0 = 3 }) 64 256 64); outcome = Done (Listened (record { 0 = 1 }) (codes "#0") [] []); after = T_INCON } ∷
    record { worker = 0; act = act.Begin (call.TOpen Ticotsord false); outcome = Done (Opened (record { 0 = 5 })); after = T_UNBND } ∷
    record { worker = 0; act = act.Begin (call.TAccept (record { 0 = 3 }) (record { 0 = 5 }) (record { 0 = 1 }) [] []); outcome = Done Plain; after = T_IDLE } ∷
    record { worker = 0; act = act.Begin (call.TRcvConnect (record { 0 = 4 }) 64 256 64); outcome = Done (Connected (codes "l") [] []); after = T_DATAXFER } ∷
    record { worker = 0; act = act.Begin (call.TRcvRel (record { 0 = 4 })); outcome = Done (Refused TNOREL); after = T_DATAXFER } ∷
    record { worker = 0; act = act.Begin (call.TSnd (record { 0 = 5 }) (codes "last") 0); outcome = Done (Sent 4); after = T_DATAXFER } ∷
    record { worker = 0; act = act.Begin (call.TSndRel (record { 0 = 5 })); outcome = Done Plain; after = T_OUTREL } ∷
    record { worker = 0; act = act.Begin (call.TRcvRel (record { 0 = 4 })); outcome = Done (Refused TNOREL); after = T_DATAXFER } ∷
    record { worker = 0; act = act.Begin (call.TRcv (record { 0 = 4 }) 65536); outcome = Done (Got (codes "last") 0); after = T_DATAXFER } ∷
    record { worker = 0; act = act.Begin (call.TRcvRel (record { 0 = 4 })); outcome = Done Plain; after = T_INREL } ∷
    record { worker = 0; act = act.Begin (call.TSndRel (record { 0 = 4 })); outcome = Done Plain; after = T_IDLE } ∷
    record { worker = 0; act = act.Begin (call.TRcvRel (record { 0 = 5 })); outcome = Done Plain; after = T_IDLE } ∷
    record { worker = 0; act = act.Begin (call.TOpen Ticotsord false); outcome = Done (Opened (record { 0 = 6 })); after = T_UNBND } ∷
    record { worker = 0; act = act.Begin (call.TBind (record { 0 = 6 }) (codes "m") 1 64); outcome = Done (Bound (codes "m") 1); after = T_IDLE } ∷
    record { worker = 0; act = act.Begin (call.TOpen Ticotsord true); outcome = Done (Opened (record { 0 = 7 })); after = T_UNBND } ∷
    record { worker = 0; act = act.Begin (call.TBind (record { 0 = 7 }) [] 0 64); outcome = Done (Bound (codes "#1") 0); after = T_IDLE } ∷
    record { worker = 0; act = act.Begin (call.TConnect (record { 0 = 7 }) (codes "m") [] [] 64 256 64); outcome = Done (Refused TNODATA); after = T_OUTCON } ∷
    record { worker = 0; act = act.Begin (call.TListen (record { 0 = 6 }) 64 256 64); outcome = Done (Listened (record { 0 = 1 }) (codes "#1") [] []); after = T_INCON } ∷
    record { worker = 0; act = act.Begin (call.TOpen Ticotsord false); outcome = Done (Opened (record { 0 = 8 })); after = T_UNBND } ∷
    record { worker = 0; act = act.Begin (call.TAccept (record { 0 = 6 }) (record { 0 = 8 }) (record { 0 = 1 }) [] []); outcome = Done Plain; after = T_IDLE } ∷
    record { worker = 0; act = act.Begin (call.TRcvConnect (record { 0 = 7 }) 64 256 64); outcome = Done (Connected (codes "m") [] []); after = T_DATAXFER } ∷
    record { worker = 0; act = act.Begin (call.TSndDis (record { 0 = 8 }) (record { 0 = 0 }) []); outcome = Done Plain; after = T_IDLE } ∷
    record { worker = 0; act = act.Begin (call.TSndRel (record { 0 = 7 })); outcome = Done (Look T_DISCONNECT); after = T_DATAXFER } ∷
    record { worker = 0; act = act.Begin (call.TRcvRel (record { 0 = 7 })); outcome = Done (Look T_DISCONNECT); after = T_DATAXFER } ∷
    record { worker = 0; act = act.Begin (call.TRcvDis (record { 0 = 7 }) 64); outcome = Done (Discon 4 (record { 0 = 0 }) []); after = T_IDLE } ∷
    []

the_history : robin (record { providers = providers; lines = lines }) ≡ entries
unfolding providers lines entries digits opening step plan is_option_list options_within begins_option
the_history = refl
