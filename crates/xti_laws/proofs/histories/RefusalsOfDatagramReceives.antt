-- refusals of datagram receives
use Rattle.std.specs.Prelude.{true, false, List, [], ◌∷◌, ◌≡◌, refl, codes}
use Rattle.std.specs.Fmt.{digits}
use Rattle.xti_base.specs.Options.{begins_option, is_option_list, options_within}
use Rattle.xti_base.specs.declared.errno.Errno.TheVariants.{TBADF, TOUTSTATE, TBADDATA, TNODATA, TNOUDERR, TNOTSUPPORT}
use Rattle.xti_base.specs.declared.kinds.Event.TheVariants.{T_UDERR}
use Rattle.xti_base.specs.declared.kinds.Prov.TheVariants.{Ticots, Ticlts}
use Rattle.xti_base.specs.declared.kinds.State.TheVariants.{T_UNINIT, T_UNBND, T_IDLE}
use Rattle.xti_base.specs.declared.limit.Limit.TheVariants.{At}
use Rattle.xti_model.specs.declared.call.Call.TheVariants as call
use Rattle.xti_model.specs.declared.entry.Act.TheVariants as act
use Rattle.xti_model.specs.declared.entry.Entry.{Entry}
use Rattle.xti_model.specs.declared.entry.Outcome.TheVariants.{Done}
use Rattle.xti_model.specs.declared.entry.Reply.TheVariants.{Plain, Opened, Bound, UData, UDErr, Refused, Look, Overflow}
use Rattle.xti_model.specs.declared.profile.Providers.{Providers}
use Rattle.xti_model.specs.declared.profile.Version.TheVariants.{One}
use Rattle.xti_model.specs.declared.script.Line.{Line}
use Rattle.xti_model.specs.declared.script.NamedCall.TheVariants as named
use Rattle.xti_model.specs.Robin.{robin}
use Rattle.xti_model.specs.Step.{plan, step}
use Rattle.xti_model.specs.World.{opening}

providers : Providers
providers = record { version = One; ticots = record { tsdu = At 65536; sendzero = true; same_addr = false; sndbuf = 16384; rcvbuf = 16384; reldata = false }; ticotsord = record { tsdu = At 0; sendzero = false; same_addr = false; sndbuf = 16384; rcvbuf = 16384; reldata = false }; ticlts = record { tsdu = At 8192; sendzero = true; same_addr = false; sndbuf = 16384; rcvbuf = 16384; reldata = false } }

lines : List Line
lines =
    record { worker = 0; call = named.TOpen (codes "z") Ticlts false } ∷
    record { worker = 0; call = named.TClose (codes "z") } ∷
    record { worker = 0; call = named.TRcvUData (codes "z") 65536 64 256 } ∷
    record { worker = 0; call = named.TRcvVUData (codes "z") (1 ∷ []) 64 256 } ∷
    record { worker = 0; call = named.TRcvUDErr (codes "z") 64 256 } ∷
    record { worker = 0; call = named.TOpen (codes "t") Ticots false } ∷
    record { worker = 0; call = named.TRcvUData (codes "t") 65536 64 256 } ∷
    record { worker = 0; call = named.TRcvVUData (codes "t") (1 ∷ []) 64 256 } ∷
    record { worker = 0; call = named.TRcvUDErr (codes "t") 64 256 } ∷
    record { worker = 0; call = named.TOpen (codes "a") Ticlts true } ∷
    record { worker = 0; call = named.TRcvUData (codes "a") 65536 64 256 } ∷
    record { worker = 0; call = named.TRcvVUData (codes "a") (1 ∷ 1 ∷ 1 ∷ 1 ∷ 1 ∷ 1 ∷ 1 ∷ 1 ∷ 1 ∷ 1 ∷ 1 ∷ 1 ∷ 1 ∷ 1 ∷ 1 ∷ 1 ∷ 1 ∷ []) 64 256 } ∷
    record { worker = 0; call = named.TRcvUDErr (codes "a") 64 256 } ∷
    record { worker = 0; call = named.TBind (codes "a") (codes "aa") 0 64 } ∷
    record { worker = 0; call = named.TRcvUDErr (codes "a") 64 256 } ∷
    record { worker = 0; call = named.TRcvUData (codes "a") 65536 64 256 } ∷
    record { worker = 0; call = named.TRcvVUData (codes "a") (1 ∷ []) 64 256 } ∷
    record { worker = 0; call = named.TRcvVUData (codes "a") (1 ∷ 1 ∷ 1 ∷ 1 ∷ 1 ∷ 1 ∷ 1 ∷ 1 ∷ 1 ∷ 1 ∷ 1 ∷ 1 ∷ 1 ∷ 1 ∷ 1 ∷ 1 ∷ 1 ∷ []) 64 256 } ∷
    record { worker = 0; call = named.TSndUData (codes "a") (codes "nobody") [] (codes "x") } ∷
    record { worker = 0; call = named.TRcvVUData (codes "a") (1 ∷ 1 ∷ 1 ∷ 1 ∷ 1 ∷ 1 ∷ 1 ∷ 1 ∷ 1 ∷ 1 ∷ 1 ∷ 1 ∷ 1 ∷ 1 ∷ 1 ∷ 1 ∷ 1 ∷ []) 64 256 } ∷
    record { worker = 0; call = named.TRcvUData (codes "a") 65536 64 256 } ∷
    record { worker = 0; call = named.TRcvVUData (codes "a") (1 ∷ []) 64 256 } ∷
    record { worker = 0; call = named.TRcvUDErr (codes "a") 1 256 } ∷
    record { worker = 0; call = named.TSndUData (codes "a") (codes "nobody") [] (codes "x") } ∷
    record { worker = 0; call = named.TRcvUDErr (codes "a") 64 256 } ∷
    record { worker = 0; call = named.TSndUData (codes "a") (codes "aa") [] (codes "one") } ∷
    record { worker = 0; call = named.TSndUData (codes "a") (codes "aa") [] (codes "two") } ∷
    record { worker = 0; call = named.TSndUData (codes "a") (codes "aa") [] (codes "three") } ∷
    record { worker = 0; call = named.TRcvUData (codes "a") 65536 1 256 } ∷
    record { worker = 0; call = named.TRcvVUData (codes "a") (1 ∷ 1 ∷ []) 1 256 } ∷
    record { worker = 0; call = named.TRcvVUData (codes "a") (1 ∷ 1 ∷ []) 0 256 } ∷
    record { worker = 0; call = named.TRcvVUData (codes "a") (1 ∷ 1 ∷ []) 64 256 } ∷
    record { worker = 0; call = named.TRcvUData (codes "a") 65536 64 256 } ∷
    []

entries : List Entry
entries =
    record { worker = 0; act = act.Begin (call.TOpen Ticlts false); outcome = Done (Opened (record { 0 = 0 })); after = T_UNBND } ∷
    record { worker = 0; act = act.Begin (call.TClose (record { 0 = 0 })); outcome = Done Plain; after = T_UNINIT } ∷
    record { worker = 0; act = act.Begin (call.TRcvUData (record { 0 = 0 }) 65536 64 256); outcome = Done (Refused TBADF); after = T_UNINIT } ∷
    record { worker = 0; act = act.Begin (call.TRcvVUData (record { 0 = 0 }) (1 ∷ []) 64 256); outcome = Done (Refused TBADF); after = T_UNINIT } ∷
    record { worker = 0; act = act.Begin (call.TRcvUDErr (record { 0 = 0 }) 64 256); outcome = Done (Refused TBADF); after = T_UNINIT } ∷
    record { worker = 0; act = act.Begin (call.TOpen Ticots false); outcome = Done (Opened (record { 0 = 64 })); after = T_UNBND } ∷
    record { worker = 0; act = act.Begin (call.TRcvUData (record { 0 = 64 }) 65536 64 256); outcome = Done (Refused TNOTSUPPORT); after = T_UNBND } ∷
    record { worker = 0; act = act.Begin (call.TRcvVUData (record { 0 = 64 }) (1 ∷ []) 64 256); outcome = Done (Refused TNOTSUPPORT); after = T_UNBND } ∷
    record { worker = 0; act = act.Begin (call.TRcvUDErr (record { 0 = 64 }) 64 256); outcome = Done (Refused TNOTSUPPORT); after = T_UNBND } ∷
    record { worker = 0; act = act.Begin (call.TOpen Ticlts true); outcome = Done (Opened (record { 0 = 1 })); after = T_UNBND } ∷
    record { worker = 0; act = act.Begin (call.TRcvUData (record { 0 = 1 }) 65536 64 256); outcome = Done (Refused TOUTSTATE); after = T_UNBND } ∷
    record { worker = 0; act = act.Begin (call.TRcvVUData (record { 0 = 1 }) (1 ∷ 1 ∷ 1 ∷ 1 ∷ 1 ∷ 1 ∷ 1 ∷ 1 ∷ 1 ∷ 1 ∷ 1 ∷ 1 ∷ 1 ∷ 1 ∷ 1 ∷ 1 ∷ 1 ∷ []) 64 256); outcome = Done (Refused TOUTSTATE); after = T_UNBND } ∷
    record { worker = 0; act = act.Begin (call.TRcvUDErr (record { 0 = 1 }) 64 256); outcome = Done (Refused TOUTSTATE); after = T_UNBND } ∷
    record { worker = 0; act = act.Begin (call.TBind (record { 0 = 1 }) (codes "aa") 0 64); outcome = Done (Bound (codes "aa") 0); after = T_IDLE } ∷
    record { worker = 0; act = act.Begin (call.TRcvUDErr (record { 0 = 1 }) 64 256); outcome = Done (Refused TNOUDERR); after = T_IDLE } ∷
    record { worker = 0; act = act.Begin (call.TRcvUData (record { 0 = 1 }) 65536 64 256); outcome = Done (Refused TNODATA); after = T_IDLE } ∷
    record { worker = 0; act = act.Begin (call.TRcvVUData (record { 0 = 1 }) (1 ∷ []) 64 256); outcome = Done (Refused TNODATA); after = T_IDLE } ∷
    record { worker = 0; act = act.Begin (call.TRcvVUData (record { 0 = 1 }) (1 ∷ 1 ∷ 1 ∷ 1 ∷ 1 ∷ 1 ∷ 1 ∷ 1 ∷ 1 ∷ 1 ∷ 1 ∷ 1 ∷ 1 ∷ 1 ∷ 1 ∷ 1 ∷ 1 ∷ []) 64 256); outcome = Done (Refused TBADDATA); after = T_IDLE } ∷
    record { worker = 0; act = act.Begin (call.TSndUData (record { 0 = 1 }) (codes "nobody") [] (codes "x")); outcome = Done Plain; after = T_IDLE } ∷
    record { worker = 0; act = act.Begin (call.TRcvVUData (record { 0 = 1 }) (1 ∷ 1 ∷ 1 ∷ 1 ∷ 1 ∷ 1 ∷ 1 ∷ 1 ∷ 1 ∷ 1 ∷ 1 ∷ 1 ∷ 1 ∷ 1 ∷ 1 ∷ 1 ∷ 1 ∷ []) 64 256); outcome = Done (Refused TBADDATA); after = T_IDLE } ∷
    record { worker = 0; act = act.Begin (call.TRcvUData (record { 0 = 1 }) 65536 64 256); outcome = Done (Look T_UDERR); after = T_IDLE } ∷
    record { worker = 0; act = act.Begin (call.TRcvVUData (record { 0 = 1 }) (1 ∷ []) 64 256); outcome = Done (Look T_UDERR); after = T_IDLE } ∷
    record { worker = 0; act = act.Begin (call.TRcvUDErr (record { 0 = 1 }) 1 256); outcome = Done (Overflow (record { 0 = 0 })); after = T_IDLE } ∷
    record { worker = 0; act = act.Begin (call.TSndUData (record { 0 = 1 }) (codes "nobody") [] (codes "x")); outcome = Done Plain; after = T_IDLE } ∷
    record { worker = 0; act = act.Begin (call.TRcvUDErr (record { 0 = 1 }) 64 256); outcome = Done (UDErr (codes "nobody") [] 1); after = T_IDLE } ∷
    record { worker = 0; act = act.Begin (call.TSndUData (record { 0 = 1 }) (codes "aa") [] (codes "one")); outcome = Done Plain; after = T_IDLE } ∷
    record { worker = 0; act = act.Begin (call.TSndUData (record { 0 = 1 }) (codes "aa") [] (codes "two")); outcome = Done Plain; after = T_IDLE } ∷
    record { worker = 0; act = act.Begin (call.TSndUData (record { 0 = 1 }) (codes "aa") [] (codes "three")); outcome = Done Plain; after = T_IDLE } ∷
    record { worker = 0; act = act.Begin (call.TRcvUData (record { 0 = 1 }) 65536 1 256); outcome = Done (Overflow (record { 0 = 0 })); after = T_IDLE } ∷
    record { worker = 0; act = act.Begin (call.TRcvVUData (record { 0 = 1 }) (1 ∷ 1 ∷ []) 1 256); outcome = Done (Overflow (record { 0 = 0 })); after = T_IDLE } ∷
    record { worker = 0; act = act.Begin (call.TRcvVUData (record { 0 = 1 }) (1 ∷ 1 ∷ []) 0 256); outcome = Done (UData [] [] (codes "th") 1); after = T_IDLE } ∷
    record { worker = 0; act = act.Begin (call.TRcvVUData (record { 0 = 1 }) (1 ∷ 1 ∷ []) 64 256); outcome = Done (UData [] [] (codes "re") 1); after = T_IDLE } ∷
    record { worker = 0; act = act.Begin (call.TRcvUData (record { 0 = 1 }) 65536 64 256); outcome = Done (UData [] [] (codes "e") 0); after = T_IDLE } ∷
    []

the_history : robin (record { providers = providers; lines = lines }) ≡ entries
unfolding providers lines entries digits opening step plan is_option_list options_within begins_option
the_history = refl
