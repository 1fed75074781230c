-- server and three clients
use Rattle.std.specs.Prelude.{true, false, List, [], ◌∷◌, ◌≡◌, refl, codes}
use Rattle.std.specs.Fmt.{digits}
use Rattle.xti_base.specs.Options.{begins_option, is_option_list, options_within}
use Rattle.xti_base.specs.declared.kinds.Event.TheVariants.{T_ORDREL}
use Rattle.xti_base.specs.declared.kinds.Prov.TheVariants.{Ticotsord}
use Rattle.xti_base.specs.declared.kinds.State.TheVariants.{T_UNBND, T_IDLE, T_OUTCON, T_INCON, T_DATAXFER, T_OUTREL, T_INREL}
use Rattle.xti_base.specs.declared.limit.Limit.TheVariants.{At}
use Rattle.xti_model.specs.declared.call.Call.TheVariants as call
use Rattle.xti_model.specs.declared.entry.Act.TheVariants as act
use Rattle.xti_model.specs.declared.entry.Entry.{Entry}
use Rattle.xti_model.specs.declared.entry.Outcome.TheVariants.{Done, Part}
use Rattle.xti_model.specs.declared.entry.Reply.TheVariants.{Plain, Opened, Bound, Connected, Listened, Sent, Got, Look}
use Rattle.xti_model.specs.declared.profile.Providers.{Providers}
use Rattle.xti_model.specs.declared.profile.Version.TheVariants.{One}
use Rattle.xti_model.specs.declared.script.Line.{Line}
use Rattle.xti_model.specs.declared.script.NamedCall.TheVariants as named
use Rattle.xti_model.specs.Robin.{robin}
use Rattle.xti_model.specs.Step.{plan, step}
use Rattle.xti_model.specs.World.{opening}

providers : Providers
providers = record { version = One; ticots = record { tsdu = At 65536; sendzero = true; same_addr = false; sndbuf = 16384; rcvbuf = 16384; reldata = false }; ticotsord = record { tsdu = At 0; sendzero = false; same_addr = false; sndbuf = 16384; rcvbuf = 16384; reldata = false }; ticlts = record { tsdu = At 8192; sendzero = true; same_addr = false; sndbuf = 16384; rcvbuf = 16384; reldata = false } }

lines : List Line
lines =
    record { worker = 0; call = named.TOpen (codes "l") Ticotsord false } ∷
    record { worker = 0; call = named.TBind (codes "l") (codes "srv") 3 64 } ∷
    record { worker = 0; call = named.TOpen (codes "r1") Ticotsord false } ∷
    record { worker = 0; call = named.TOpen (codes "r2") Ticotsord false } ∷
    record { worker = 0; call = named.TOpen (codes "r3") Ticotsord false } ∷
    record { worker = 1; call = named.TListen (codes "l") (codes "q1") 64 256 64 } ∷
    record { worker = 1; call = named.TListen (codes "l") (codes "q2") 64 256 64 } ∷
    record { worker = 1; call = named.TListen (codes "l") (codes "q3") 64 256 64 } ∷
    record { worker = 1; call = named.TAccept (codes "l") (codes "r1") (codes "q1") [] [] } ∷
    record { worker = 1; call = named.TAccept (codes "l") (codes "r2") (codes "q2") [] [] } ∷
    record { worker = 1; call = named.TAccept (codes "l") (codes "r3") (codes "q3") [] [] } ∷
    record { worker = 1; call = named.TRcv (codes "r1") 9 } ∷
    record { worker = 1; call = named.TSnd (codes "r1") (codes "ok") 0 } ∷
    record { worker = 1; call = named.TRcv (codes "r1") 9 } ∷
    record { worker = 1; call = named.TRcvRel (codes "r1") } ∷
    record { worker = 1; call = named.TSndRel (codes "r1") } ∷
    record { worker = 1; call = named.TRcv (codes "r2") 9 } ∷
    record { worker = 1; call = named.TSnd (codes "r2") (codes "ok") 0 } ∷
    record { worker = 1; call = named.TRcv (codes "r2") 9 } ∷
    record { worker = 1; call = named.TRcvRel (codes "r2") } ∷
    record { worker = 1; call = named.TSndRel (codes "r2") } ∷
    record { worker = 1; call = named.TRcv (codes "r3") 9 } ∷
    record { worker = 1; call = named.TSnd (codes "r3") (codes "ok") 0 } ∷
    record { worker = 1; call = named.TRcv (codes "r3") 9 } ∷
    record { worker = 1; call = named.TRcvRel (codes "r3") } ∷
    record { worker = 1; call = named.TSndRel (codes "r3") } ∷
    record { worker = 2; call = named.TOpen (codes "c") Ticotsord false } ∷
    record { worker = 2; call = named.TBind (codes "c") [] 0 64 } ∷
    record { worker = 2; call = named.TConnect (codes "c") (codes "srv") [] [] 64 256 64 } ∷
    record { worker = 2; call = named.TSnd (codes "c") (codes "one") 0 } ∷
    record { worker = 2; call = named.TRcv (codes "c") 9 } ∷
    record { worker = 2; call = named.TSndRel (codes "c") } ∷
    record { worker = 2; call = named.TRcv (codes "c") 9 } ∷
    record { worker = 2; call = named.TRcvRel (codes "c") } ∷
    record { worker = 3; call = named.TOpen (codes "c") Ticotsord false } ∷
    record { worker = 3; call = named.TBind (codes "c") [] 0 64 } ∷
    record { worker = 3; call = named.TConnect (codes "c") (codes "srv") [] [] 64 256 64 } ∷
    record { worker = 3; call = named.TSnd (codes "c") (codes "two") 0 } ∷
    record { worker = 3; call = named.TRcv (codes "c") 9 } ∷
    record { worker = 3; call = named.TSndRel (codes "c") } ∷
    record { worker = 3; call = named.TRcv (codes "c") 9 } ∷
    record { worker = 3; call = named.TRcvRel (codes "c") } ∷
    record { worker = 4; call = named.TOpen (codes "c") Ticotsord false } ∷
    record { worker = 4; call = named.TBind (codes "c") [] 0 64 } ∷
    record { worker = 4; call = named.TConnect (codes "c") (codes "srv") [] [] 64 256 64 } ∷
    record { worker = 4; call = named.TSnd (codes "c") (codes "six") 0 } ∷
    record { worker = 4; call = named.TRcv (codes "c") 9 } ∷
    record { worker = 4; call = named.TSndRel (codes "c") } ∷
    record { worker = 4; call = named.TRcv (codes "c") 9 } ∷
    record { worker = 4; call = named.TRcvRel (codes "c") } ∷
    []

entries : List Entry
entries =
    record { worker = 0; act = act.Begin (call.TOpen Ticotsord false); outcome = Done (Opened (record { 0 = 0 })); after = T_UNBND } ∷
    record { worker = 0; act = act.Begin (call.TBind (record { 0 = 0 }) (codes "srv") 3 64); outcome = Done (Bound (codes "srv") 3); after = T_IDLE } ∷
    record { worker = 0; act = act.Begin (call.TOpen Ticotsord false); outcome = Done (Opened (record { 0 = 1 })); after = T_UNBND } ∷
    record { worker = 0; act = act.Begin (call.TOpen Ticotsord false); outcome = Done (Opened (record { 0 = 2 })); after = T_UNBND } ∷
    record { worker = 0; act = act.Begin (call.TOpen Ticotsord false); outcome = Done (Opened (record { 0 = 3 })); after = T_UNBND } ∷
    record { worker = 2; act = act.Begin (call.TOpen Ticotsord false); outcome = Done (Opened (record { 0 = 4 })); after = T_UNBND } ∷
    record { worker = 3; act = act.Begin (call.TOpen Ticotsord false); outcome = Done (Opened (record { 0 = 5 })); after = T_UNBND } ∷
    record { worker = 4; act = act.Begin (call.TOpen Ticotsord false); outcome = Done (Opened (record { 0 = 6 })); after = T_UNBND } ∷
    record { worker = 2; act = act.Begin (call.TBind (record { 0 = 4 }) [] 0 64); outcome = Done (Bound (codes "#0") 0); after = T_IDLE } ∷
    record { worker = 3; act = act.Begin (call.TBind (record { 0 = 5 }) [] 0 64); outcome = Done (Bound (codes "#1") 0); after = T_IDLE } ∷
    record { worker = 4; act = act.Begin (call.TBind (record { 0 = 6 }) [] 0 64); outcome = Done (Bound (codes "#2") 0); after = T_IDLE } ∷
    record { worker = 2; act = act.Begin (call.TConnect (record { 0 = 4 }) (codes "srv") [] [] 64 256 64); outcome = Part 0; after = T_OUTCON } ∷
    record { worker = 3; act = act.Begin (call.TConnect (record { 0 = 5 }) (codes "srv") [] [] 64 256 64); outcome = Part 0; after = T_OUTCON } ∷
    record { worker = 4; act = act.Begin (call.TConnect (record { 0 = 6 }) (codes "srv") [] [] 64 256 64); outcome = Part 0; after = T_OUTCON } ∷
    record { worker = 1; act = act.Begin (call.TListen (record { 0 = 0 }) 64 256 64); outcome = Done (Listened (record { 0 = 1 }) (codes "#0") [] []); after = T_INCON } ∷
    record { worker = 1; act = act.Begin (call.TListen (record { 0 = 0 }) 64 256 64); outcome = Done (Listened (record { 0 = 2 }) (codes "#1") [] []); after = T_INCON } ∷
    record { worker = 1; act = act.Begin (call.TListen (record { 0 = 0 }) 64 256 64); outcome = Done (Listened (record { 0 = 3 }) (codes "#2") [] []); after = T_INCON } ∷
    record { worker = 1; act = act.Begin (call.TAccept (record { 0 = 0 }) (record { 0 = 1 }) (record { 0 = 1 }) [] []); outcome = Done Plain; after = T_INCON } ∷
    record { worker = 2; act = act.More; outcome = Done (Connected (codes "srv") [] []); after = T_DATAXFER } ∷
    record { worker = 1; act = act.Begin (call.TAccept (record { 0 = 0 }) (record { 0 = 2 }) (record { 0 = 2 }) [] []); outcome = Done Plain; after = T_INCON } ∷
    record { worker = 2; act = act.Begin (call.TSnd (record { 0 = 4 }) (codes "one") 0); outcome = Done (Sent 3); after = T_DATAXFER } ∷
    record { worker = 3; act = act.More; outcome = Done (Connected (codes "srv") [] []); after = T_DATAXFER } ∷
    record { worker = 1; act = act.Begin (call.TAccept (record { 0 = 0 }) (record { 0 = 3 }) (record { 0 = 3 }) [] []); outcome = Done Plain; after = T_IDLE } ∷
    record { worker = 3; act = act.Begin (call.TSnd (record { 0 = 5 }) (codes "two") 0); outcome = Done (Sent 3); after = T_DATAXFER } ∷
    record { worker = 4; act = act.More; outcome = Done (Connected (codes "srv") [] []); after = T_DATAXFER } ∷
    record { worker = 1; act = act.Begin (call.TRcv (record { 0 = 1 }) 9); outcome = Done (Got (codes "one") 0); after = T_DATAXFER } ∷
    record { worker = 4; act = act.Begin (call.TSnd (record { 0 = 6 }) (codes "six") 0); outcome = Done (Sent 3); after = T_DATAXFER } ∷
    record { worker = 1; act = act.Begin (call.TSnd (record { 0 = 1 }) (codes "ok") 0); outcome = Done (Sent 2); after = T_DATAXFER } ∷
    record { worker = 2; act = act.Begin (call.TRcv (record { 0 = 4 }) 9); outcome = Done (Got (codes "ok") 0); after = T_DATAXFER } ∷
    record { worker = 2; act = act.Begin (call.TSndRel (record { 0 = 4 })); outcome = Done Plain; after = T_OUTREL } ∷
    record { worker = 1; act = act.Begin (call.TRcv (record { 0 = 1 }) 9); outcome = Done (Look T_ORDREL); after = T_DATAXFER } ∷
    record { worker = 1; act = act.Begin (call.TRcvRel (record { 0 = 1 })); outcome = Done Plain; after = T_INREL } ∷
    record { worker = 1; act = act.Begin (call.TSndRel (record { 0 = 1 })); outcome = Done Plain; after = T_IDLE } ∷
    record { worker = 2; act = act.Begin (call.TRcv (record { 0 = 4 }) 9); outcome = Done (Look T_ORDREL); after = T_OUTREL } ∷
    record { worker = 1; act = act.Begin (call.TRcv (record { 0 = 2 }) 9); outcome = Done (Got (codes "two") 0); after = T_DATAXFER } ∷
    record { worker = 2; act = act.Begin (call.TRcvRel (record { 0 = 4 })); outcome = Done Plain; after = T_IDLE } ∷
    record { worker = 1; act = act.Begin (call.TSnd (record { 0 = 2 }) (codes "ok") 0); outcome = Done (Sent 2); after = T_DATAXFER } ∷
    record { worker = 3; act = act.Begin (call.TRcv (record { 0 = 5 }) 9); outcome = Done (Got (codes "ok") 0); after = T_DATAXFER } ∷
    record { worker = 3; act = act.Begin (call.TSndRel (record { 0 = 5 })); outcome = Done Plain; after = T_OUTREL } ∷
    record { worker = 1; act = act.Begin (call.TRcv (record { 0 = 2 }) 9); outcome = Done (Look T_ORDREL); after = T_DATAXFER } ∷
    record { worker = 1; act = act.Begin (call.TRcvRel (record { 0 = 2 })); outcome = Done Plain; after = T_INREL } ∷
    record { worker = 1; act = act.Begin (call.TSndRel (record { 0 = 2 })); outcome = Done Plain; after = T_IDLE } ∷
    record { worker = 3; act = act.Begin (call.TRcv (record { 0 = 5 }) 9); outcome = Done (Look T_ORDREL); after = T_OUTREL } ∷
    record { worker = 1; act = act.Begin (call.TRcv (record { 0 = 3 }) 9); outcome = Done (Got (codes "six") 0); after = T_DATAXFER } ∷
    record { worker = 3; act = act.Begin (call.TRcvRel (record { 0 = 5 })); outcome = Done Plain; after = T_IDLE } ∷
    record { worker = 1; act = act.Begin (call.TSnd (record { 0 = 3 }) (codes "ok") 0); outcome = Done (Sent 2); after = T_DATAXFER } ∷
    record { worker = 4; act = act.Begin (call.TRcv (record { 0 = 6 }) 9); outcome = Done (Got (codes "ok") 0); after = T_DATAXFER } ∷
    record { worker = 4; act = act.Begin (call.TSndRel (record { 0 = 6 })); outcome = Done Plain; after = T_OUTREL } ∷
    record { worker = 1; act = act.Begin (call.TRcv (record { 0 = 3 }) 9); outcome = Done (Look T_ORDREL); after = T_DATAXFER } ∷
    record { worker = 1; act = act.Begin (call.TRcvRel (record { 0 = 3 })); outcome = Done Plain; after = T_INREL } ∷
    record { worker = 1; act = act.Begin (call.TSndRel (record { 0 = 3 })); outcome = Done Plain; after = T_IDLE } ∷
    record { worker = 4; act = act.Begin (call.TRcv (record { 0 = 6 }) 9); outcome = Done (Look T_ORDREL); after = T_OUTREL } ∷
    record { worker = 4; act = act.Begin (call.TRcvRel (record { 0 = 6 })); outcome = Done Plain; after = T_IDLE } ∷
    []

the_history : robin (record { providers = providers; lines = lines }) ≡ entries
unfolding providers lines entries digits opening step plan is_option_list options_within begins_option
the_history = refl
