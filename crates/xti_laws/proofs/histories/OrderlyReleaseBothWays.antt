-- orderly release both ways
use Rattle.std.specs.Prelude.{true, false, List, [], ◌∷◌, ◌≡◌, refl, codes}
use Rattle.std.specs.Fmt.{digits}
use Rattle.xti_base.specs.Options.{begins_option, is_option_list, options_within}
use Rattle.xti_base.specs.declared.errno.Errno.TheVariants.{TNODATA, TNOREL}
use Rattle.xti_base.specs.declared.kinds.Event.TheVariants.{T_ORDREL}
use Rattle.xti_base.specs.declared.kinds.Prov.TheVariants.{Ticotsord}
use Rattle.xti_base.specs.declared.kinds.State.TheVariants.{T_UNBND, T_IDLE, T_OUTCON, T_INCON, T_DATAXFER, T_OUTREL, T_INREL}
use Rattle.xti_base.specs.declared.limit.Limit.TheVariants.{At}
use Rattle.xti_model.specs.declared.call.Call.TheVariants as call
use Rattle.xti_model.specs.declared.entry.Act.TheVariants as act
use Rattle.xti_model.specs.declared.entry.Entry.{Entry}
use Rattle.xti_model.specs.declared.entry.Outcome.TheVariants.{Done}
use Rattle.xti_model.specs.declared.entry.Reply.TheVariants.{Plain, Opened, Bound, Connected, Listened, Sent, Got, Refused, Look}
use Rattle.xti_model.specs.declared.profile.Providers.{Providers}
use Rattle.xti_model.specs.declared.profile.Version.TheVariants.{One}
use Rattle.xti_model.specs.declared.script.Line.{Line}
use Rattle.xti_model.specs.declared.script.NamedCall.TheVariants as named
use Rattle.xti_model.specs.Robin.{robin}
use Rattle.xti_model.specs.Step.{plan, step}
use Rattle.xti_model.specs.World.{opening}

providers : Providers
providers = record { version = One; ticots = record { tsdu = At 65536; sendzero = true; same_addr = false; sndbuf = 16384; rcvbuf = 16384; reldata = false }; ticotsord = record { tsdu = At 0; sendzero = false; same_addr = false; sndbuf = 16384; rcvbuf = 16384; reldata = false }; ticlts = record { tsdu = At 8192; sendzero = true; same_addr = false; sndbuf = 16384; rcvbuf = 16384; reldata = false } }

lines : List Line
lines =
    record { worker = 0; call = named.TOpen (codes "l") Ticotsord false } ∷
    record { worker = 0; call = named.TBind (codes "l") (codes "l") 1 64 } ∷
    record { worker = 0; call = named.TOpen (codes "c") Ticotsord true } ∷
    record { worker = 0; call = named.TBind (codes "c") [] 0 64 } ∷
    record { worker = 0; call = named.TOpen (codes "r") Ticotsord true } ∷
    record { worker = 0; call = named.TConnect (codes "c") (codes "l") [] [] 64 256 64 } ∷
    record { worker = 0; call = named.TListen (codes "l") (codes "q") 64 256 64 } ∷
    record { worker = 0; call = named.TAccept (codes "l") (codes "r") (codes "q") [] [] } ∷
    record { worker = 0; call = named.TRcvConnect (codes "c") 64 256 64 } ∷
    record { worker = 0; call = named.TSnd (codes "c") (codes "hi") 0 } ∷
    record { worker = 0; call = named.TSndRel (codes "c") } ∷
    record { worker = 0; call = named.TRcvRel (codes "r") } ∷
    record { worker = 0; call = named.TRcv (codes "r") 9 } ∷
    record { worker = 0; call = named.TRcv (codes "r") 9 } ∷
    record { worker = 0; call = named.TRcvRel (codes "r") } ∷
    record { worker = 0; call = named.TSndRel (codes "r") } ∷
    record { worker = 0; call = named.TRcvRel (codes "c") } ∷
    []

entries : List Entry
entries =
    record { worker = 0; act = act.Begin (call.TOpen Ticotsord false); outcome = Done (Opened (record { 0 = 0 })); after = T_UNBND } ∷
    record { worker = 0; act = act.Begin (call.TBind (record { 0 = 0 }) (codes "l") 1 64); outcome = Done (Bound (codes "l") 1); after = T_IDLE } ∷
    record { worker = 0; act = act.Begin (call.TOpen Ticotsord true); outcome = Done (Opened (record { 0 = 1 })); after = T_UNBND } ∷
    record { worker = 0; act = act.Begin (call.TBind (record { 0 = 1 }) [] 0 64); outcome = Done (Bound (codes "#0") 0); after = T_IDLE } ∷
    record { worker = 0; act = act.Begin (call.TOpen Ticotsord true); outcome = Done (Opened (record { 0 = 2 })); after = T_UNBND } ∷
    record { worker = 0; act = act.Begin (call.TConnect (record { 0 = 1 }) (codes "l") [] [] 64 256 64); outcome = Done (Refused TNODATA); after = T_OUTCON } ∷
    record { worker = 0; act = act.Begin (call.TListen (record { 0 = 0 }) 64 256 64); outcome = Done (Listened (record { 0 = 1 }) (codes "#0") [] []); after = T_INCON } ∷
    record { worker = 0; act = act.Begin (call.TAccept (record { 0 = 0 }) (record { 0 = 2 }) (record { 0 = 1 }) [] []); outcome = Done Plain; after = T_IDLE } ∷
    record { worker = 0; act = act.Begin (call.TRcvConnect (record { 0 = 1 }) 64 256 64); outcome = Done (Connected (codes "l") [] []); after = T_DATAXFER } ∷
    record { worker = 0; act = act.Begin (call.TSnd (record { 0 = 1 }) (codes "hi") 0); outcome = Done (Sent 2); after = T_DATAXFER } ∷
    record { worker = 0; act = act.Begin (call.TSndRel (record { 0 = 1 })); outcome = Done Plain; after = T_OUTREL } ∷
    record { worker = 0; act = act.Begin (call.TRcvRel (record { 0 = 2 })); outcome = Done (Refused TNOREL); after = T_DATAXFER } ∷
    record { worker = 0; act = act.Begin (call.TRcv (record { 0 = 2 }) 9); outcome = Done (Got (codes "hi") 0); after = T_DATAXFER } ∷
    record { worker = 0; act = act.Begin (call.TRcv (record { 0 = 2 }) 9); outcome = Done (Look T_ORDREL); after = T_DATAXFER } ∷
    record { worker = 0; act = act.Begin (call.TRcvRel (record { 0 = 2 })); outcome = Done Plain; after = T_INREL } ∷
    record { worker = 0; act = act.Begin (call.TSndRel (record { 0 = 2 })); outcome = Done Plain; after = T_IDLE } ∷
    record { worker = 0; act = act.Begin (call.TRcvRel (record { 0 = 1 })); outcome = Done Plain; after = T_IDLE } ∷
    []

the_history : robin (record { providers = providers; lines = lines }) ≡ entries
unfolding providers lines entries digits opening step plan is_option_list options_within begins_option
the_history = refl
