-- refusals of later steps of sends
use Rattle.std.specs.Prelude.{true, false, List, [], ◌∷◌, ◌≡◌, refl, codes, None}
use Rattle.std.specs.Fmt.{digits}
use Rattle.xti_base.specs.Options.{begins_option, is_option_list, options_within}
use Rattle.xti_base.specs.declared.errno.Errno.TheVariants.{TNODATA}
use Rattle.xti_base.specs.declared.kinds.Prov.TheVariants.{Ticots, Ticotsord}
use Rattle.xti_base.specs.declared.kinds.State.TheVariants.{T_UNINIT, T_UNBND, T_IDLE, T_OUTCON, T_INCON, T_DATAXFER, T_OUTREL}
use Rattle.xti_base.specs.declared.limit.Limit.TheVariants.{At}
use Rattle.xti_model.specs.declared.call.Call.TheVariants as call
use Rattle.xti_model.specs.declared.entry.Act.TheVariants as act
use Rattle.xti_model.specs.declared.entry.Entry.{Entry}
use Rattle.xti_model.specs.declared.entry.Outcome.TheVariants.{Done, Part}
use Rattle.xti_model.specs.declared.entry.Reply.TheVariants.{Plain, Opened, Bound, Connected, Listened, Sent, Got, Seen, Refused}
use Rattle.xti_model.specs.declared.profile.Providers.{Providers}
use Rattle.xti_model.specs.declared.profile.Version.TheVariants.{One}
use Rattle.xti_model.specs.declared.script.Line.{Line}
use Rattle.xti_model.specs.declared.script.NamedCall.TheVariants as named
use Rattle.xti_model.specs.Robin.{robin}
use Rattle.xti_model.specs.Step.{plan, step}
use Rattle.xti_model.specs.World.{opening}

providers : Providers
providers = record { version = One; ticots = record { tsdu = At 6; sendzero = true; same_addr = false; sndbuf = 1; rcvbuf = 1; reldata = false }; ticotsord = record { tsdu = At 0; sendzero = false; same_addr = false; sndbuf = 1; rcvbuf = 1; reldata = false }; ticlts = record { tsdu = At 8192; sendzero = true; same_addr = false; sndbuf = 16384; rcvbuf = 16384; reldata = false } }

lines : List Line
lines =
    record { worker = 0; call = named.TOpen (codes "l0") Ticotsord false } ∷
    record { worker = 0; call = named.TBind (codes "l0") (codes "l0") 1 64 } ∷
    record { worker = 0; call = named.TOpen (codes "a0") Ticotsord true } ∷
    record { worker = 0; call = named.TBind (codes "a0") [] 0 64 } ∷
    record { worker = 0; call = named.TConnect (codes "a0") (codes "l0") [] [] 64 256 64 } ∷
    record { worker = 0; call = named.TListen (codes "l0") (codes "ql0") 64 256 64 } ∷
    record { worker = 0; call = named.TOpen (codes "b0") Ticotsord false } ∷
    record { worker = 0; call = named.TAccept (codes "l0") (codes "b0") (codes "ql0") [] [] } ∷
    record { worker = 0; call = named.TRcvConnect (codes "a0") 64 256 64 } ∷
    record { worker = 0; call = named.SetMode (codes "a0") false } ∷
    record { worker = 0; call = named.TOpen (codes "l1") Ticotsord false } ∷
    record { worker = 0; call = named.TBind (codes "l1") (codes "l1") 1 64 } ∷
    record { worker = 0; call = named.TOpen (codes "a1") Ticotsord true } ∷
    record { worker = 0; call = named.TBind (codes "a1") [] 0 64 } ∷
    record { worker = 0; call = named.TConnect (codes "a1") (codes "l1") [] [] 64 256 64 } ∷
    record { worker = 0; call = named.TListen (codes "l1") (codes "ql1") 64 256 64 } ∷
    record { worker = 0; call = named.TOpen (codes "b1") Ticotsord false } ∷
    record { worker = 0; call = named.TAccept (codes "l1") (codes "b1") (codes "ql1") [] [] } ∷
    record { worker = 0; call = named.TRcvConnect (codes "a1") 64 256 64 } ∷
    record { worker = 0; call = named.SetMode (codes "a1") false } ∷
    record { worker = 0; call = named.TOpen (codes "l2") Ticotsord false } ∷
    record { worker = 0; call = named.TBind (codes "l2") (codes "l2") 1 64 } ∷
    record { worker = 0; call = named.TOpen (codes "a2") Ticotsord true } ∷
    record { worker = 0; call = named.TBind (codes "a2") [] 0 64 } ∷
    record { worker = 0; call = named.TConnect (codes "a2") (codes "l2") [] [] 64 256 64 } ∷
    record { worker = 0; call = named.TListen (codes "l2") (codes "ql2") 64 256 64 } ∷
    record { worker = 0; call = named.TOpen (codes "b2") Ticotsord false } ∷
    record { worker = 0; call = named.TAccept (codes "l2") (codes "b2") (codes "ql2") [] [] } ∷
    record { worker = 0; call = named.TRcvConnect (codes "a2") 64 256 64 } ∷
    record { worker = 0; call = named.SetMode (codes "a2") false } ∷
    record { worker = 0; call = named.TOpen (codes "l3") Ticotsord false } ∷
    record { worker = 0; call = named.TBind (codes "l3") (codes "l3") 1 64 } ∷
    record { worker = 0; call = named.TOpen (codes "a3") Ticotsord true } ∷
    record { worker = 0; call = named.TBind (codes "a3") [] 0 64 } ∷
    record { worker = 0; call = named.TConnect (codes "a3") (codes "l3") [] [] 64 256 64 } ∷
    record { worker = 0; call = named.TListen (codes "l3") (codes "ql3") 64 256 64 } ∷
    record { worker = 0; call = named.TOpen (codes "b3") Ticotsord false } ∷
    record { worker = 0; call = named.TAccept (codes "l3") (codes "b3") (codes "ql3") [] [] } ∷
    record { worker = 0; call = named.TRcvConnect (codes "a3") 64 256 64 } ∷
    record { worker = 0; call = named.SetMode (codes "a3") false } ∷
    record { worker = 0; call = named.TOpen (codes "l4") Ticotsord false } ∷
    record { worker = 0; call = named.TBind (codes "l4") (codes "l4") 1 64 } ∷
    record { worker = 0; call = named.TOpen (codes "a4") Ticotsord true } ∷
    record { worker = 0; call = named.TBind (codes "a4") [] 0 64 } ∷
    record { worker = 0; call = named.TConnect (codes "a4") (codes "l4") [] [] 64 256 64 } ∷
    record { worker = 0; call = named.TListen (codes "l4") (codes "ql4") 64 256 64 } ∷
    record { worker = 0; call = named.TOpen (codes "b4") Ticotsord false } ∷
    record { worker = 0; call = named.TAccept (codes "l4") (codes "b4") (codes "ql4") [] [] } ∷
    record { worker = 0; call = named.TRcvConnect (codes "a4") 64 256 64 } ∷
    record { worker = 0; call = named.SetMode (codes "a4") false } ∷
    record { worker = 0; call = named.TOpen (codes "l5") Ticots false } ∷
    record { worker = 0; call = named.TBind (codes "l5") (codes "l5") 1 64 } ∷
    record { worker = 0; call = named.TOpen (codes "a5") Ticots true } ∷
    record { worker = 0; call = named.TBind (codes "a5") [] 0 64 } ∷
    record { worker = 0; call = named.TConnect (codes "a5") (codes "l5") [] [] 64 256 64 } ∷
    record { worker = 0; call = named.TListen (codes "l5") (codes "ql5") 64 256 64 } ∷
    record { worker = 0; call = named.TOpen (codes "b5") Ticots false } ∷
    record { worker = 0; call = named.TAccept (codes "l5") (codes "b5") (codes "ql5") [] [] } ∷
    record { worker = 0; call = named.TRcvConnect (codes "a5") 64 256 64 } ∷
    record { worker = 0; call = named.SetMode (codes "a5") false } ∷
    record { worker = 1; call = named.TSnd (codes "a0") (codes "abcdef") 0 } ∷
    record { worker = 2; call = named.TClose (codes "a0") } ∷
    record { worker = 3; call = named.TSnd (codes "a1") (codes "abcdef") 0 } ∷
    record { worker = 4; call = named.TSndDis (codes "b1") None [] } ∷
    record { worker = 5; call = named.TSnd (codes "a2") (codes "abcdef") 0 } ∷
    record { worker = 6; call = named.SetMode (codes "a2") true } ∷
    record { worker = 6; call = named.TRcv (codes "b2") 65536 } ∷
    record { worker = 6; call = named.TLookAt (codes "a2") } ∷
    record { worker = 7; call = named.TSnd (codes "a3") (codes "abcdef") 0 } ∷
    record { worker = 8; call = named.TSndRel (codes "a3") } ∷
    record { worker = 9; call = named.TSndV (codes "a4") ((codes "abc") ∷ (codes "def") ∷ []) 0 } ∷
    record { worker = 10; call = named.TSndRel (codes "b4") } ∷
    record { worker = 11; call = named.TSnd (codes "a5") (codes "abcdef") 0 } ∷
    record { worker = 12; call = named.TRcv (codes "b5") 65536 } ∷
    record { worker = 13; call = named.TSnd (codes "a5") (codes "x") 1 } ∷
    []

entries : List Entry
entries =
    record { worker = 0; act = act.Begin (call.TOpen Ticotsord false); outcome = Done (Opened (record { 0 = 0 })); after = T_UNBND } ∷
    record { worker = 0; act = act.Begin (call.TBind (record { 0 = 0 }) (codes "l0") 1 64); outcome = Done (Bound (codes "l0") 1); after = T_IDLE } ∷
    record { worker = 0; act = act.Begin (call.TOpen Ticotsord true); outcome = Done (Opened (record { 0 = 1 })); after = T_UNBND } ∷
    record { worker = 0; act = act.Begin (call.TBind (record { 0 = 1 }) [] 0 64); outcome = Done (Bound (codes "#0") 0); after = T_IDLE } ∷
    record { worker = 0; act = act.Begin (call.TConnect (record { 0 = 1 }) (codes "l0") [] [] 64 256 64); outcome = Done (Refused TNODATA); after = T_OUTCON } ∷
    record { worker = 0; act = act.Begin (call.TListen (record { 0 = 0 }) 64 256 64); outcome = Done (Listened (record { 0 = 1 }) (codes "#0") [] []); after = T_INCON } ∷
    record { worker = 0; act = act.Begin (call.TOpen Ticotsord false); outcome = Done (Opened (record { 0 = 2 })); after = T_UNBND } ∷
    record { worker = 0; act = act.Begin (call.TAccept (record { 0 = 0 }) (record { 0 = 2 }) (record { 0 = 1 }) [] []); outcome = Done Plain; after = T_IDLE } ∷
    record { worker = 0; act = act.Begin (call.TRcvConnect (record { 0 = 1 }) 64 256 64); outcome = Done (Connected (codes "l0") [] []); after = T_DATAXFER } ∷
    record { worker = 0; act = act.Begin (call.SetMode (record { 0 = 1 }) false); outcome = Done Plain; after = T_DATAXFER } ∷
    record { worker = 0; act = act.Begin (call.TOpen Ticotsord false); outcome = Done (Opened (record { 0 = 3 })); after = T_UNBND } ∷
    record { worker = 0; act = act.Begin (call.TBind (record { 0 = 3 }) (codes "l1") 1 64); outcome = Done (Bound (codes "l1") 1); after = T_IDLE } ∷
    record { worker = 0; act = act.Begin (call.TOpen Ticotsord true); outcome = Done (Opened (record { 0 = 4 })); after = T_UNBND } ∷
    record { worker = 0; act = act.Begin (call.TBind (record { 0 = 4 }) [] 0 64); outcome = Done (Bound (codes "#1") 0); after = T_IDLE } ∷
    record { worker = 0; act = act.Begin (call.TConnect (record { 0 = 4 }) (codes "l1") [] [] 64 256 64); outcome = Done (Refused TNODATA); after = T_OUTCON } ∷
    record { worker = 0; act = act.Begin (call.TListen (record { 0 = 3 }) 64 256 64); outcome = Done (Listened (record { 0 = 1 }) (codes "#1") [] []); after = T_INCON } ∷
    record { worker = 0; act = act.Begin (call.TOpen Ticotsord false); outcome = Done (Opened (record { 0 = 5 })); after = T_UNBND } ∷
    record { worker = 0; act = act.Begin (call.TAccept (record { 0 = 3 }) (record { 0 = 5 }) (record { 0 = 1 }) [] []); outcome = Done Plain; after = T_IDLE } ∷
    record { worker = 0; act = act.Begin (call.TRcvConnect (record { 0 = 4 }) 64 256 64); outcome = Done (Connected (codes "l1") [] []); after = T_DATAXFER } ∷
    record { worker = 0; act = act.Begin (call.SetMode (record { 0 = 4 }) false); outcome = Done Plain; after = T_DATAXFER } ∷
    record { worker = 0; act = act.Begin (call.TOpen Ticotsord false); outcome = Done (Opened (record { 0 = 6 })); after = T_UNBND } ∷
    record { worker = 0; act = act.Begin (call.TBind (record { 0 = 6 }) (codes "l2") 1 64); outcome = Done (Bound (codes "l2") 1); after = T_IDLE } ∷
    record { worker = 0; act = act.Begin (call.TOpen Ticotsord true); outcome = Done (Opened (record { 0 = 7 })); after = T_UNBND } ∷
    record { worker = 0; act = act.Begin (call.TBind (record { 0 = 7 }) [] 0 64); outcome = Done (Bound (codes "#2") 0); after = T_IDLE } ∷
    record { worker = 0; act = act.Begin (call.TConnect (record { 0 = 7 }) (codes "l2") [] [] 64 256 64); outcome = Done (Refused TNODATA); after = T_OUTCON } ∷
    record { worker = 0; act = act.Begin (call.TListen (record { 0 = 6 }) 64 256 64); outcome = Done (Listened (record { 0 = 1 }) (codes "#2") [] []); after = T_INCON } ∷
    record { worker = 0; act = act.Begin (call.TOpen Ticotsord false); outcome = Done (Opened (record { 0 = 8 })); after = T_UNBND } ∷
    record { worker = 0; act = act.Begin (call.TAccept (record { 0 = 6 }) (record { 0 = 8 }) (record { 0 = 1 }) [] []); outcome = Done Plain; after = T_IDLE } ∷
    record { worker = 0; act = act.Begin (call.TRcvConnect (record { 0 = 7 }) 64 256 64); outcome = Done (Connected (codes "l2") [] []); after = T_DATAXFER } ∷
    record { worker = 0; act = act.Begin (call.SetMode (record { 0 = 7 }) false); outcome = Done Plain; after = T_DATAXFER } ∷
    record { worker = 0; act = act.Begin (call.TOpen Ticotsord false); outcome = Done (Opened (record { 0 = 9 })); after = T_UNBND } ∷
    record { worker = 0; act = act.Begin (call.TBind (record { 0 = 9 }) (codes "l3") 1 64); outcome = Done (Bound (codes "l3") 1); after = T_IDLE } ∷
    record { worker = 0; act = act.Begin (call.TOpen Ticotsord true); outcome = Done (Opened (record { 0 = 10 })); after = T_UNBND } ∷
    record { worker = 0; act = act.Begin (call.TBind (record { 0 = 10 }) [] 0 64); outcome = Done (Bound (codes "#3") 0); after = T_IDLE } ∷
    record { worker = 0; act = act.Begin (call.TConnect (record { 0 = 10 }) (codes "l3") [] [] 64 256 64); outcome = Done (Refused TNODATA); after = T_OUTCON } ∷
    record { worker = 0; act = act.Begin (call.TListen (record { 0 = 9 }) 64 256 64); outcome = Done (Listened (record { 0 = 1 }) (codes "#3") [] []); after = T_INCON } ∷
    record { worker = 0; act = act.Begin (call.TOpen Ticotsord false); outcome = Done (Opened (record { 0 = 11 })); after = T_UNBND } ∷
    record { worker = 0; act = act.Begin (call.TAccept (record { 0 = 9 }) (record { 0 = 11 }) (record { 0 = 1 }) [] []); outcome = Done Plain; after = T_IDLE } ∷
    record { worker = 0; act = act.Begin (call.TRcvConnect (record { 0 = 10 }) 64 256 64); outcome = Done (Connected (codes "l3") [] []); after = T_DATAXFER } ∷
    record { worker = 0; act = act.Begin (call.SetMode (record { 0 = 10 }) false); outcome = Done Plain; after = T_DATAXFER } ∷
    record { worker = 0; act = act.Begin (call.TOpen Ticotsord false); outcome = Done (Opened (record { 0 = 12 })); after = T_UNBND } ∷
    record { worker = 0; act = act.Begin (call.TBind (record { 0 = 12 }) (codes "l4") 1 64); outcome = Done (Bound (codes "l4") 1); after = T_IDLE } ∷
    record { worker = 0; act = act.Begin (call.TOpen Ticotsord true); outcome = Done (Opened (record { 0 = 13 })); after = T_UNBND } ∷
    record { worker = 0; act = act.Begin (call.TBind (record { 0 = 13 }) [] 0 64); outcome = Done (Bound (codes "#4") 0); after = T_IDLE } ∷
    record { worker = 0; act = act.Begin (call.TConnect (record { 0 = 13 }) (codes "l4") [] [] 64 256 64); outcome = Done (Refused TNODATA); after = T_OUTCON } ∷
    record { worker = 0; act = act.Begin (call.TListen (record { 0 = 12 }) 64 256 64); outcome = Done (Listened (record { 0 = 1 }) (codes "#4") [] []); after = T_INCON } ∷
    record { worker = 0; act = act.Begin (call.TOpen Ticotsord false); outcome = Done (Opened (record { 0 = 14 })); after = T_UNBND } ∷
    record { worker = 0; act = act.Begin (call.TAccept (record { 0 = 12 }) (record { 0 = 14 }) (record { 0 = 1 }) [] []); outcome = Done Plain; after = T_IDLE } ∷
    record { worker = 0; act = act.Begin (call.TRcvConnect (record { 0 = 13 }) 64 256 64); outcome = Done (Connected (codes "l4") [] []); after = T_DATAXFER } ∷
    record { worker = 0; act = act.Begin (call.SetMode (record { 0 = 13 }) false); outcome = Done Plain; after = T_DATAXFER } ∷
    record { worker = 0; act = act.Begin (call.TOpen Ticots false); outcome = Done (Opened (record { 0 = 15 })); after = T_UNBND } ∷
    record { worker = 0; act = act.Begin (call.TBind (record { 0 = 15 }) (codes "l5") 1 64); outcome = Done (Bound (codes "l5") 1); after = T_IDLE } ∷
    record { worker = 0; act = act.Begin (call.TOpen Ticots true); outcome = Done (Opened (record { 0 = 16 })); after = T_UNBND } ∷
    record { worker = 0; act = act.Begin (call.TBind (record { 0 = 16 }) [] 0 64); outcome = Done (Bound (codes "#0") 0); after = T_IDLE } ∷
    record { worker = 0; act = act.Begin (call.TConnect (record { 0 = 16 }) (codes "l5") [] [] 64 256 64); outcome = Done (Refused TNODATA); after = T_OUTCON } ∷
    record { worker = 0; act = act.Begin (call.TListen (record { 0 = 15 }) 64 256 64); outcome = Done (Listened (record { 0 = 1 }) (codes "#0") [] []); after = T_INCON } ∷
    record { worker = 0; act = act.Begin (call.TOpen Ticots false); outcome = Done (Opened (record { 0 = 17 })); after = T_UNBND } ∷
    record { worker = 0; act = act.Begin (call.TAccept (record { 0 = 15 }) (record { 0 = 17 }) (record { 0 = 1 }) [] []); outcome = Done Plain; after = T_IDLE } ∷
    record { worker = 0; act = act.Begin (call.TRcvConnect (record { 0 = 16 }) 64 256 64); outcome = Done (Connected (codes "l5") [] []); after = T_DATAXFER } ∷
    record { worker = 0; act = act.Begin (call.SetMode (record { 0 = 16 }) false); outcome = Done Plain; after = T_DATAXFER } ∷
    record { worker = 1; act = act.Begin (call.TSnd (record { 0 = 1 }) (codes "abcdef") 0); outcome = Part 2; after = T_DATAXFER } ∷
    record { worker = 2; act = act.Begin (call.TClose (record { 0 = 1 })); outcome = Done Plain; after = T_UNINIT } ∷
    record { worker = 3; act = act.Begin (call.TSnd (record { 0 = 4 }) (codes "abcdef") 0); outcome = Part 2; after = T_DATAXFER } ∷
    record { worker = 4; act = act.Begin (call.TSndDis (record { 0 = 5 }) (record { 0 = 0 }) []); outcome = Done Plain; after = T_IDLE } ∷
    record { worker = 5; act = act.Begin (call.TSnd (record { 0 = 7 }) (codes "abcdef") 0); outcome = Part 2; after = T_DATAXFER } ∷
    record { worker = 6; act = act.Begin (call.SetMode (record { 0 = 7 }) true); outcome = Done Plain; after = T_DATAXFER } ∷
    record { worker = 7; act = act.Begin (call.TSnd (record { 0 = 10 }) (codes "abcdef") 0); outcome = Part 2; after = T_DATAXFER } ∷
    record { worker = 8; act = act.Begin (call.TSndRel (record { 0 = 10 })); outcome = Done Plain; after = T_OUTREL } ∷
    record { worker = 9; act = act.Begin (call.TSndV (record { 0 = 13 }) ((codes "abc") ∷ (codes "def") ∷ []) 0); outcome = Part 2; after = T_DATAXFER } ∷
    record { worker = 10; act = act.Begin (call.TSndRel (record { 0 = 14 })); outcome = Done Plain; after = T_OUTREL } ∷
    record { worker = 11; act = act.Begin (call.TSnd (record { 0 = 16 }) (codes "abcdef") 0); outcome = Part 2; after = T_DATAXFER } ∷
    record { worker = 12; act = act.Begin (call.TRcv (record { 0 = 17 }) 65536); outcome = Done (Got (codes "ab") 1); after = T_DATAXFER } ∷
    record { worker = 13; act = act.Begin (call.TSnd (record { 0 = 16 }) (codes "x") 1); outcome = Done (Sent 1); after = T_DATAXFER } ∷
    record { worker = 1; act = act.More; outcome = Done (Sent 2); after = T_UNINIT } ∷
    record { worker = 3; act = act.More; outcome = Done (Sent 2); after = T_DATAXFER } ∷
    record { worker = 5; act = act.More; outcome = Done (Sent 2); after = T_DATAXFER } ∷
    record { worker = 6; act = act.Begin (call.TRcv (record { 0 = 8 }) 65536); outcome = Done (Got (codes "ab") 0); after = T_DATAXFER } ∷
    record { worker = 7; act = act.More; outcome = Done (Sent 2); after = T_OUTREL } ∷
    record { worker = 9; act = act.More; outcome = Done (Sent 2); after = T_DATAXFER } ∷
    record { worker = 11; act = act.More; outcome = Done (Sent 2); after = T_DATAXFER } ∷
    record { worker = 6; act = act.Begin (call.TLookAt (record { 0 = 7 })); outcome = Done (Seen None); after = T_DATAXFER } ∷
    []

the_history : robin (record { providers = providers; lines = lines }) ≡ entries
unfolding providers lines entries digits opening step plan is_option_list options_within begins_option
the_history = refl
