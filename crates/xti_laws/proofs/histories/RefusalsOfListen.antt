-- refusals of listen
use Rattle.std.specs.Prelude.{true, false, List, [], ◌∷◌, ◌≡◌, refl, codes}
use Rattle.std.specs.Fmt.{digits}
use Rattle.xti_base.specs.Options.{begins_option, is_option_list, options_within}
use Rattle.xti_base.specs.declared.errno.Errno.TheVariants.{TBADF, TOUTSTATE, TNODATA, TNOTSUPPORT, TBADQLEN, TQFULL}
use Rattle.xti_base.specs.declared.kinds.Event.TheVariants.{T_DISCONNECT}
use Rattle.xti_base.specs.declared.kinds.Prov.TheVariants.{Ticots, Ticlts}
use Rattle.xti_base.specs.declared.kinds.State.TheVariants.{T_UNINIT, T_UNBND, T_IDLE, T_OUTCON, T_INCON}
use Rattle.xti_base.specs.declared.limit.Limit.TheVariants.{At}
use Rattle.xti_model.specs.declared.call.Call.TheVariants as call
use Rattle.xti_model.specs.declared.entry.Act.TheVariants as act
use Rattle.xti_model.specs.declared.entry.Entry.{Entry}
use Rattle.xti_model.specs.declared.entry.Outcome.TheVariants.{Done}
use Rattle.xti_model.specs.declared.entry.Reply.TheVariants.{Plain, Opened, Bound, Listened, Discon, Stands, Refused, Look, Overflow}
use Rattle.xti_model.specs.declared.profile.Providers.{Providers}
use Rattle.xti_model.specs.declared.profile.Version.TheVariants.{One}
use Rattle.xti_model.specs.declared.script.Line.{Line}
use Rattle.xti_model.specs.declared.script.NamedCall.TheVariants as named
use Rattle.xti_model.specs.Robin.{robin}
use Rattle.xti_model.specs.Step.{plan, step}
use Rattle.xti_model.specs.World.{opening}

providers : Providers
providers = record { version = One; ticots = record { tsdu = At 65536; sendzero = true; same_addr = false; sndbuf = 16384; rcvbuf = 16384; reldata = false }; ticotsord = record { tsdu = At 0; sendzero = false; same_addr = false; sndbuf = 16384; rcvbuf = 16384; reldata = false }; ticlts = record { tsdu = At 8192; sendzero = true; same_addr = false; sndbuf = 16384; rcvbuf = 16384; reldata = false } }

lines : List Line
lines =
    record { worker = 0; call = named.TOpen (codes "z") Ticots false } ∷
    record { worker = 0; call = named.TClose (codes "z") } ∷
    record { worker = 0; call = named.TListen (codes "z") (codes "q") 64 256 64 } ∷
    record { worker = 0; call = named.TOpen (codes "u") Ticlts false } ∷
    record { worker = 0; call = named.TListen (codes "u") (codes "q1") 64 256 64 } ∷
    record { worker = 0; call = named.TOpen (codes "l") Ticots true } ∷
    record { worker = 0; call = named.TListen (codes "l") (codes "q2") 64 256 64 } ∷
    record { worker = 0; call = named.TOpen (codes "n") Ticots false } ∷
    record { worker = 0; call = named.TBind (codes "n") [] 0 64 } ∷
    record { worker = 0; call = named.TListen (codes "n") (codes "q3") 64 256 64 } ∷
    record { worker = 0; call = named.TBind (codes "l") (codes "l") 1 64 } ∷
    record { worker = 0; call = named.TListen (codes "l") (codes "q4") 64 256 64 } ∷
    record { worker = 0; call = named.TOpen (codes "c") Ticots true } ∷
    record { worker = 0; call = named.TBind (codes "c") (codes "cc") 0 64 } ∷
    record { worker = 0; call = named.TConnect (codes "c") (codes "l") [] [] 64 256 64 } ∷
    record { worker = 0; call = named.TListen (codes "l") (codes "q5") 1 256 64 } ∷
    record { worker = 0; call = named.TListen (codes "l") (codes "q6") 64 256 64 } ∷
    record { worker = 0; call = named.TUnbind (codes "l") } ∷
    record { worker = 0; call = named.TClose (codes "c") } ∷
    record { worker = 0; call = named.TListen (codes "l") (codes "q9") 64 256 64 } ∷
    record { worker = 0; call = named.TOpen (codes "k") Ticots true } ∷
    record { worker = 0; call = named.TBind (codes "k") (codes "k") 2 64 } ∷
    record { worker = 0; call = named.TOpen (codes "d") Ticots true } ∷
    record { worker = 0; call = named.TBind (codes "d") [] 0 64 } ∷
    record { worker = 0; call = named.TConnect (codes "d") (codes "k") [] [] 64 256 64 } ∷
    record { worker = 0; call = named.TListen (codes "k") (codes "q7") 64 256 64 } ∷
    record { worker = 0; call = named.TClose (codes "d") } ∷
    record { worker = 0; call = named.TListen (codes "k") (codes "q8") 64 256 64 } ∷
    record { worker = 0; call = named.TRcvDis (codes "k") 64 } ∷
    record { worker = 0; call = named.TGetState (codes "k") } ∷
    []

entries : List Entry
entries =
    record { worker = 0; act = act.Begin (call.TOpen Ticots false); outcome = Done (Opened (record { 0 = 0 })); after = T_UNBND } ∷
    record { worker = 0; act = act.Begin (call.TClose (record { 0 = 0 })); outcome = Done Plain; after = T_UNINIT } ∷
    record { worker = 0; act = act.Begin (call.TListen (record { 0 = 0 }) 64 256 64); outcome = Done (Refused TBADF); after = T_UNINIT } ∷
    record { worker = 0; act = act.Begin (call.TOpen Ticlts false); outcome = Done (Opened (record { 0 = 64 })); after = T_UNBND } ∷
    record { worker = 0; act = act.Begin (call.TListen (record { 0 = 64 }) 64 256 64); outcome = Done (Refused TNOTSUPPORT); after = T_UNBND } ∷
    record { worker = 0; act = act.Begin (call.TOpen Ticots true); outcome = Done (Opened (record { 0 = 1 })); after = T_UNBND } ∷
    record { worker = 0; act = act.Begin (call.TListen (record { 0 = 1 }) 64 256 64); outcome = Done (Refused TOUTSTATE); after = T_UNBND } ∷
    record { worker = 0; act = act.Begin (call.TOpen Ticots false); outcome = Done (Opened (record { 0 = 2 })); after = T_UNBND } ∷
    record { worker = 0; act = act.Begin (call.TBind (record { 0 = 2 }) [] 0 64); outcome = Done (Bound (codes "#0") 0); after = T_IDLE } ∷
    record { worker = 0; act = act.Begin (call.TListen (record { 0 = 2 }) 64 256 64); outcome = Done (Refused TBADQLEN); after = T_IDLE } ∷
    record { worker = 0; act = act.Begin (call.TBind (record { 0 = 1 }) (codes "l") 1 64); outcome = Done (Bound (codes "l") 1); after = T_IDLE } ∷
    record { worker = 0; act = act.Begin (call.TListen (record { 0 = 1 }) 64 256 64); outcome = Done (Refused TNODATA); after = T_IDLE } ∷
    record { worker = 0; act = act.Begin (call.TOpen Ticots true); outcome = Done (Opened (record { 0 = 3 })); after = T_UNBND } ∷
    record { worker = 0; act = act.Begin (call.TBind (record { 0 = 3 }) (codes "cc") 0 64); outcome = Done (Bound (codes "cc") 0); after = T_IDLE } ∷
    record { worker = 0; act = act.Begin (call.TConnect (record { 0 = 3 }) (codes "l") [] [] 64 256 64); outcome = Done (Refused TNODATA); after = T_OUTCON } ∷
    record { worker = 0; act = act.Begin (call.TListen (record { 0 = 1 }) 1 256 64); outcome = Done (Overflow (record { 0 = 1 })); after = T_INCON } ∷
    record { worker = 0; act = act.Begin (call.TListen (record { 0 = 1 }) 64 256 64); outcome = Done (Refused TQFULL); after = T_INCON } ∷
    record { worker = 0; act = act.Begin (call.TUnbind (record { 0 = 1 })); outcome = Done (Refused TOUTSTATE); after = T_INCON } ∷
    record { worker = 0; act = act.Begin (call.TClose (record { 0 = 3 })); outcome = Done Plain; after = T_UNINIT } ∷
    record { worker = 0; act = act.Begin (call.TListen (record { 0 = 1 }) 64 256 64); outcome = Done (Refused TQFULL); after = T_INCON } ∷
    record { worker = 0; act = act.Begin (call.TOpen Ticots true); outcome = Done (Opened (record { 0 = 67 })); after = T_UNBND } ∷
    record { worker = 0; act = act.Begin (call.TBind (record { 0 = 67 }) (codes "k") 2 64); outcome = Done (Bound (codes "k") 2); after = T_IDLE } ∷
    record { worker = 0; act = act.Begin (call.TOpen Ticots true); outcome = Done (Opened (record { 0 = 4 })); after = T_UNBND } ∷
    record { worker = 0; act = act.Begin (call.TBind (record { 0 = 4 }) [] 0 64); outcome = Done (Bound (codes "#1") 0); after = T_IDLE } ∷
    record { worker = 0; act = act.Begin (call.TConnect (record { 0 = 4 }) (codes "k") [] [] 64 256 64); outcome = Done (Refused TNODATA); after = T_OUTCON } ∷
    record { worker = 0; act = act.Begin (call.TListen (record { 0 = 67 }) 64 256 64); outcome = Done (Listened (record { 0 = 1 }) (codes "#1") [] []); after = T_INCON } ∷
    record { worker = 0; act = act.Begin (call.TClose (record { 0 = 4 })); outcome = Done Plain; after = T_UNINIT } ∷
    record { worker = 0; act = act.Begin (call.TListen (record { 0 = 67 }) 64 256 64); outcome = Done (Look T_DISCONNECT); after = T_INCON } ∷
    record { worker = 0; act = act.Begin (call.TRcvDis (record { 0 = 67 }) 64); outcome = Done (Discon 5 (record { 0 = 1 }) []); after = T_IDLE } ∷
    record { worker = 0; act = act.Begin (call.TGetState (record { 0 = 67 })); outcome = Done (Stands T_IDLE); after = T_IDLE } ∷
    []

the_history : robin (record { providers = providers; lines = lines }) ≡ entries
unfolding providers lines entries digits opening step plan is_option_list options_within begins_option
the_history = refl
