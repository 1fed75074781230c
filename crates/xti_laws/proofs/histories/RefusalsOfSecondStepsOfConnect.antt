-- refusals of second steps of connect
use Rattle.std.specs.Prelude.{true, false, List, [], ◌∷◌, ◌≡◌, refl, codes, None}
use Rattle.std.specs.Fmt.{digits}
use Rattle.xti_base.specs.Options.{begins_option, is_option_list, options_within}
use Rattle.xti_base.specs.declared.errno.Errno.TheVariants.{TBADF, TOUTSTATE, TNODATA}
use Rattle.xti_base.specs.declared.kinds.Event.TheVariants.{T_DISCONNECT}
use Rattle.xti_base.specs.declared.kinds.Prov.TheVariants.{Ticots}
use Rattle.xti_base.specs.declared.kinds.State.TheVariants.{T_UNINIT, T_UNBND, T_IDLE, T_OUTCON, T_INCON, T_DATAXFER}
use Rattle.xti_base.specs.declared.limit.Limit.TheVariants.{At}
use Rattle.xti_model.specs.declared.call.Call.TheVariants as call
use Rattle.xti_model.specs.declared.entry.Act.TheVariants as act
use Rattle.xti_model.specs.declared.entry.Entry.{Entry}
use Rattle.xti_model.specs.declared.entry.Outcome.TheVariants.{Done, Part}
use Rattle.xti_model.specs.declared.entry.Reply.TheVariants.{Plain, Opened, Bound, Listened, Refused, Look, Overflow}
use Rattle.xti_model.specs.declared.profile.Providers.{Providers}
use Rattle.xti_model.specs.declared.profile.Version.TheVariants.{One}
use Rattle.xti_model.specs.declared.script.Line.{Line}
use Rattle.xti_model.specs.declared.script.NamedCall.TheVariants as named
use Rattle.xti_model.specs.Robin.{robin}
use Rattle.xti_model.specs.Step.{plan, step}
use Rattle.xti_model.specs.World.{opening}

providers : Providers
providers = record { version = One; ticots = record { tsdu = At 65536; sendzero = true; same_addr = false; sndbuf = 16384; rcvbuf = 16384; reldata = false }; ticotsord = record { tsdu = At 0; sendzero = false; same_addr = false; sndbuf = 16384; rcvbuf = 16384; reldata = false }; ticlts = record { tsdu = At 8192; sendzero = true; same_addr = false; sndbuf = 16384; rcvbuf = 16384; reldata = false } }

lines : List Line
lines =
    record { worker = 0; call = named.TOpen (codes "l") Ticots false } ∷
    record { worker = 0; call = named.TBind (codes "l") (codes "l") 4 64 } ∷
    record { worker = 0; call = named.TOpen (codes "k") Ticots false } ∷
    record { worker = 0; call = named.TBind (codes "k") (codes "k") 1 64 } ∷
    record { worker = 0; call = named.TOpen (codes "r") Ticots false } ∷
    record { worker = 0; call = named.TBind (codes "r") (codes "rr") 0 64 } ∷
    record { worker = 0; call = named.TOpen (codes "a") Ticots false } ∷
    record { worker = 0; call = named.TBind (codes "a") [] 0 64 } ∷
    record { worker = 0; call = named.TOpen (codes "b") Ticots false } ∷
    record { worker = 0; call = named.TBind (codes "b") [] 0 64 } ∷
    record { worker = 0; call = named.TOpen (codes "c") Ticots false } ∷
    record { worker = 0; call = named.TBind (codes "c") [] 0 64 } ∷
    record { worker = 0; call = named.TOpen (codes "d") Ticots false } ∷
    record { worker = 0; call = named.TBind (codes "d") [] 0 64 } ∷
    record { worker = 0; call = named.TOpen (codes "e") Ticots false } ∷
    record { worker = 0; call = named.TBind (codes "e") [] 0 64 } ∷
    record { worker = 1; call = named.TConnect (codes "a") (codes "l") [] [] 64 256 64 } ∷
    record { worker = 2; call = named.TClose (codes "a") } ∷
    record { worker = 3; call = named.TConnect (codes "b") (codes "l") [] [] 64 256 64 } ∷
    record { worker = 4; call = named.TSndDis (codes "b") None [] } ∷
    record { worker = 5; call = named.TConnect (codes "c") (codes "nobody") [] [] 64 256 64 } ∷
    record { worker = 6; call = named.TConnect (codes "d") (codes "l") [] [] 64 256 64 } ∷
    record { worker = 7; call = named.SetMode (codes "d") true } ∷
    record { worker = 8; call = named.TConnect (codes "e") (codes "k") [] [] 1 256 64 } ∷
    record { worker = 9; call = named.TListen (codes "k") (codes "q") 64 256 64 } ∷
    record { worker = 9; call = named.TAccept (codes "k") (codes "r") (codes "q") [] [] } ∷
    []

entries : List Entry
entries =
    record { worker = 0; act = act.Begin (call.TOpen Ticots false); outcome = Done (Opened (record { 0 = 0 })); after = T_UNBND } ∷
    record { worker = 0; act = act.Begin (call.TBind (record { 0 = 0 }) (codes "l") 4 64); outcome = Done (Bound (codes "l") 4); after = T_IDLE } ∷
    record { worker = 0; act = act.Begin (call.TOpen Ticots false); outcome = Done (Opened (record { 0 = 1 })); after = T_UNBND } ∷
    record { worker = 0; act = act.Begin (call.TBind (record { 0 = 1 }) (codes "k") 1 64); outcome = Done (Bound (codes "k") 1); after = T_IDLE } ∷
    record { worker = 0; act = act.Begin (call.TOpen Ticots false); outcome = Done (Opened (record { 0 = 2 })); after = T_UNBND } ∷
    record { worker = 0; act = act.Begin (call.TBind (record { 0 = 2 }) (codes "rr") 0 64); outcome = Done (Bound (codes "rr") 0); after = T_IDLE } ∷
    record { worker = 0; act = act.Begin (call.TOpen Ticots false); outcome = Done (Opened (record { 0 = 3 })); after = T_UNBND } ∷
    record { worker = 0; act = act.Begin (call.TBind (record { 0 = 3 }) [] 0 64); outcome = Done (Bound (codes "#0") 0); after = T_IDLE } ∷
    record { worker = 0; act = act.Begin (call.TOpen Ticots false); outcome = Done (Opened (record { 0 = 4 })); after = T_UNBND } ∷
    record { worker = 0; act = act.Begin (call.TBind (record { 0 = 4 }) [] 0 64); outcome = Done (Bound (codes "#1") 0); after = T_IDLE } ∷
    record { worker = 0; act = act.Begin (call.TOpen Ticots false); outcome = Done (Opened (record { 0 = 5 })); after = T_UNBND } ∷
    record { worker = 0; act = act.Begin (call.TBind (record { 0 = 5 }) [] 0 64); outcome = Done (Bound (codes "#2") 0); after = T_IDLE } ∷
    record { worker = 0; act = act.Begin (call.TOpen Ticots false); outcome = Done (Opened (record { 0 = 6 })); after = T_UNBND } ∷
    record { worker = 0; act = act.Begin (call.TBind (record { 0 = 6 }) [] 0 64); outcome = Done (Bound (codes "#3") 0); after = T_IDLE } ∷
    record { worker = 0; act = act.Begin (call.TOpen Ticots false); outcome = Done (Opened (record { 0 = 7 })); after = T_UNBND } ∷
    record { worker = 0; act = act.Begin (call.TBind (record { 0 = 7 }) [] 0 64); outcome = Done (Bound (codes "#4") 0); after = T_IDLE } ∷
    record { worker = 1; act = act.Begin (call.TConnect (record { 0 = 3 }) (codes "l") [] [] 64 256 64); outcome = Part 0; after = T_OUTCON } ∷
    record { worker = 2; act = act.Begin (call.TClose (record { 0 = 3 })); outcome = Done Plain; after = T_UNINIT } ∷
    record { worker = 3; act = act.Begin (call.TConnect (record { 0 = 4 }) (codes "l") [] [] 64 256 64); outcome = Part 0; after = T_OUTCON } ∷
    record { worker = 4; act = act.Begin (call.TSndDis (record { 0 = 4 }) (record { 0 = 0 }) []); outcome = Done Plain; after = T_IDLE } ∷
    record { worker = 5; act = act.Begin (call.TConnect (record { 0 = 5 }) (codes "nobody") [] [] 64 256 64); outcome = Part 0; after = T_OUTCON } ∷
    record { worker = 6; act = act.Begin (call.TConnect (record { 0 = 6 }) (codes "l") [] [] 64 256 64); outcome = Part 0; after = T_OUTCON } ∷
    record { worker = 7; act = act.Begin (call.SetMode (record { 0 = 6 }) true); outcome = Done Plain; after = T_OUTCON } ∷
    record { worker = 8; act = act.Begin (call.TConnect (record { 0 = 7 }) (codes "k") [] [] 1 256 64); outcome = Part 0; after = T_OUTCON } ∷
    record { worker = 9; act = act.Begin (call.TListen (record { 0 = 1 }) 64 256 64); outcome = Done (Listened (record { 0 = 1 }) (codes "#4") [] []); after = T_INCON } ∷
    record { worker = 1; act = act.More; outcome = Done (Refused TBADF); after = T_UNINIT } ∷
    record { worker = 3; act = act.More; outcome = Done (Refused TOUTSTATE); after = T_IDLE } ∷
    record { worker = 5; act = act.More; outcome = Done (Look T_DISCONNECT); after = T_OUTCON } ∷
    record { worker = 6; act = act.More; outcome = Done (Refused TNODATA); after = T_OUTCON } ∷
    record { worker = 9; act = act.Begin (call.TAccept (record { 0 = 1 }) (record { 0 = 2 }) (record { 0 = 1 }) [] []); outcome = Done Plain; after = T_IDLE } ∷
    record { worker = 8; act = act.More; outcome = Done (Overflow (record { 0 = 0 })); after = T_DATAXFER } ∷
    []

the_history : robin (record { providers = providers; lines = lines }) ≡ entries
unfolding providers lines entries digits opening step plan is_option_list options_within begins_option
the_history = refl
