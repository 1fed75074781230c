-- flow marks and their events
use Rattle.std.specs.Prelude.{true, false, List, [], ◌∷◌, ◌≡◌, refl, codes, Some, None}
use Rattle.std.specs.Fmt.{digits}
use Rattle.xti_base.specs.Options.{begins_option, is_option_list, options_within}
use Rattle.xti_base.specs.declared.errno.Errno.TheVariants.{TFLOW, TNODATA}
use Rattle.xti_base.specs.declared.kinds.Event.TheVariants.{T_DISCONNECT, T_GODATA, T_GOEXDATA}
use Rattle.xti_base.specs.declared.kinds.Prov.TheVariants.{Ticots, Ticlts}
use Rattle.xti_base.specs.declared.kinds.State.TheVariants.{T_UNBND, T_IDLE, T_OUTCON, T_INCON, T_DATAXFER}
use Rattle.xti_base.specs.declared.limit.Limit.TheVariants.{At}
use Rattle.xti_model.specs.declared.call.Call.TheVariants as call
use Rattle.xti_model.specs.declared.entry.Act.TheVariants as act
use Rattle.xti_model.specs.declared.entry.Entry.{Entry}
use Rattle.xti_model.specs.declared.entry.Outcome.TheVariants.{Done}
use Rattle.xti_model.specs.declared.entry.Reply.TheVariants.{Plain, Opened, Bound, Connected, Listened, Sent, Got, Discon, UData, UDErr, Seen, Refused}
use Rattle.xti_model.specs.declared.profile.Providers.{Providers}
use Rattle.xti_model.specs.declared.profile.Version.TheVariants.{One}
use Rattle.xti_model.specs.declared.script.Line.{Line}
use Rattle.xti_model.specs.declared.script.NamedCall.TheVariants as named
use Rattle.xti_model.specs.Robin.{robin}
use Rattle.xti_model.specs.Step.{plan, step}
use Rattle.xti_model.specs.World.{opening}

providers : Providers
providers = record { version = One; ticots = record { tsdu = At 65536; sendzero = true; same_addr = false; sndbuf = 1; rcvbuf = 1; reldata = false }; ticotsord = record { tsdu = At 0; sendzero = false; same_addr = false; sndbuf = 16384; rcvbuf = 16384; reldata = false }; ticlts = record { tsdu = At 8192; sendzero = true; same_addr = false; sndbuf = 16384; rcvbuf = 16384; reldata = false } }

lines : List Line
lines =
    record { worker = 0; call = named.TOpen (codes "l") Ticots false } ∷
    record { worker = 0; call = named.TBind (codes "l") (codes "l") 1 64 } ∷
    record { worker = 0; call = named.TOpen (codes "c") Ticots true } ∷
    record { worker = 0; call = named.TBind (codes "c") [] 0 64 } ∷
    record { worker = 0; call = named.TConnect (codes "c") (codes "l") [] [] 64 256 64 } ∷
    record { worker = 0; call = named.TListen (codes "l") (codes "ql") 64 256 64 } ∷
    record { worker = 0; call = named.TOpen (codes "r") Ticots false } ∷
    record { worker = 0; call = named.TAccept (codes "l") (codes "r") (codes "ql") [] [] } ∷
    record { worker = 0; call = named.TRcvConnect (codes "c") 64 256 64 } ∷
    record { worker = 0; call = named.TSnd (codes "c") (codes "ab") 0 } ∷
    record { worker = 0; call = named.TSnd (codes "c") (codes "x") 0 } ∷
    record { worker = 0; call = named.TRcv (codes "r") 65536 } ∷
    record { worker = 0; call = named.TSnd (codes "c") (codes "c") 0 } ∷
    record { worker = 0; call = named.TLookAt (codes "c") } ∷
    record { worker = 0; call = named.TSnd (codes "c") (codes "de") 0 } ∷
    record { worker = 0; call = named.TSnd (codes "c") (codes "x") 0 } ∷
    record { worker = 0; call = named.TLookAt (codes "c") } ∷
    record { worker = 0; call = named.TRcv (codes "r") 65536 } ∷
    record { worker = 0; call = named.TRcv (codes "r") 65536 } ∷
    record { worker = 0; call = named.TLookAt (codes "c") } ∷
    record { worker = 0; call = named.TLookAt (codes "c") } ∷
    record { worker = 0; call = named.TSnd (codes "c") [] 2 } ∷
    record { worker = 0; call = named.TSnd (codes "c") [] 2 } ∷
    record { worker = 0; call = named.TSnd (codes "c") [] 2 } ∷
    record { worker = 0; call = named.TSnd (codes "c") [] 2 } ∷
    record { worker = 0; call = named.TSnd (codes "c") [] 2 } ∷
    record { worker = 0; call = named.TSnd (codes "c") [] 2 } ∷
    record { worker = 0; call = named.TSnd (codes "c") [] 2 } ∷
    record { worker = 0; call = named.TSnd (codes "c") [] 2 } ∷
    record { worker = 0; call = named.TSnd (codes "c") [] 2 } ∷
    record { worker = 0; call = named.TSnd (codes "c") [] 2 } ∷
    record { worker = 0; call = named.TSnd (codes "c") [] 2 } ∷
    record { worker = 0; call = named.TSnd (codes "c") [] 2 } ∷
    record { worker = 0; call = named.TSnd (codes "c") [] 2 } ∷
    record { worker = 0; call = named.TSnd (codes "c") [] 2 } ∷
    record { worker = 0; call = named.TSnd (codes "c") [] 2 } ∷
    record { worker = 0; call = named.TSnd (codes "c") [] 2 } ∷
    record { worker = 0; call = named.TSnd (codes "c") [] 2 } ∷
    record { worker = 0; call = named.TLookAt (codes "c") } ∷
    record { worker = 0; call = named.TRcv (codes "r") 65536 } ∷
    record { worker = 0; call = named.TLookAt (codes "c") } ∷
    record { worker = 0; call = named.TLookAt (codes "c") } ∷
    record { worker = 0; call = named.TRcvV (codes "r") (0 ∷ 0 ∷ []) } ∷
    record { worker = 0; call = named.TRcv (codes "r") 65536 } ∷
    record { worker = 0; call = named.TRcv (codes "r") 65536 } ∷
    record { worker = 0; call = named.TRcv (codes "r") 65536 } ∷
    record { worker = 0; call = named.TRcv (codes "r") 65536 } ∷
    record { worker = 0; call = named.TRcv (codes "r") 65536 } ∷
    record { worker = 0; call = named.TRcv (codes "r") 65536 } ∷
    record { worker = 0; call = named.TRcv (codes "r") 65536 } ∷
    record { worker = 0; call = named.TRcv (codes "r") 65536 } ∷
    record { worker = 0; call = named.TRcv (codes "r") 65536 } ∷
    record { worker = 0; call = named.TRcv (codes "r") 65536 } ∷
    record { worker = 0; call = named.TRcv (codes "r") 65536 } ∷
    record { worker = 0; call = named.TRcv (codes "r") 65536 } ∷
    record { worker = 0; call = named.TRcv (codes "r") 65536 } ∷
    record { worker = 0; call = named.TRcv (codes "r") 65536 } ∷
    record { worker = 0; call = named.TSnd (codes "c") (0 ∷ 1 ∷ 2 ∷ 3 ∷ 4 ∷ 5 ∷ 6 ∷ 7 ∷ 8 ∷ 9 ∷ 10 ∷ 11 ∷ 12 ∷ 13 ∷ 14 ∷ 15 ∷ 16 ∷ 17 ∷ 18 ∷ 19 ∷ 20 ∷ 21 ∷ 22 ∷ 23 ∷ 24 ∷ 25 ∷ 26 ∷ 27 ∷ 28 ∷ 29 ∷ 30 ∷ 31 ∷ 32 ∷ 33 ∷ 34 ∷ 35 ∷ 36 ∷ 37 ∷ 38 ∷ 39 ∷ 40 ∷ 41 ∷ 42 ∷ 43 ∷ 44 ∷ 45 ∷ 46 ∷ 47 ∷ 48 ∷ 49 ∷ 50 ∷ 51 ∷ 52 ∷ 53 ∷ 54 ∷ 55 ∷ 56 ∷ 57 ∷ 58 ∷ 59 ∷ 60 ∷ 61 ∷ 62 ∷ 63 ∷ 64 ∷ 65 ∷ 66 ∷ 67 ∷ 68 ∷ 69 ∷ 70 ∷ 71 ∷ 72 ∷ 73 ∷ 74 ∷ 75 ∷ 76 ∷ 77 ∷ 78 ∷ 79 ∷ 80 ∷ 81 ∷ 82 ∷ 83 ∷ 84 ∷ 85 ∷ 86 ∷ 87 ∷ 88 ∷ 89 ∷ 90 ∷ 91 ∷ 92 ∷ 93 ∷ 94 ∷ 95 ∷ 96 ∷ 97 ∷ 98 ∷ 99 ∷ 100 ∷ 101 ∷ 102 ∷ 103 ∷ 104 ∷ 105 ∷ 106 ∷ 107 ∷ 108 ∷ 109 ∷ 110 ∷ 111 ∷ 112 ∷ 113 ∷ 114 ∷ 115 ∷ 116 ∷ 117 ∷ 118 ∷ 119 ∷ 120 ∷ 121 ∷ 122 ∷ 123 ∷ 124 ∷ 125 ∷ 126 ∷ 127 ∷ []) 2 } ∷
    record { worker = 0; call = named.TSnd (codes "c") (0 ∷ 1 ∷ 2 ∷ 3 ∷ 4 ∷ 5 ∷ 6 ∷ 7 ∷ 8 ∷ 9 ∷ 10 ∷ 11 ∷ 12 ∷ 13 ∷ 14 ∷ 15 ∷ 16 ∷ 17 ∷ 18 ∷ 19 ∷ 20 ∷ 21 ∷ 22 ∷ 23 ∷ 24 ∷ 25 ∷ 26 ∷ 27 ∷ 28 ∷ 29 ∷ 30 ∷ 31 ∷ 32 ∷ 33 ∷ 34 ∷ 35 ∷ 36 ∷ 37 ∷ 38 ∷ 39 ∷ 40 ∷ 41 ∷ 42 ∷ 43 ∷ 44 ∷ 45 ∷ 46 ∷ 47 ∷ 48 ∷ 49 ∷ 50 ∷ 51 ∷ 52 ∷ 53 ∷ 54 ∷ 55 ∷ 56 ∷ 57 ∷ 58 ∷ 59 ∷ 60 ∷ 61 ∷ 62 ∷ 63 ∷ 64 ∷ 65 ∷ 66 ∷ 67 ∷ 68 ∷ 69 ∷ 70 ∷ 71 ∷ 72 ∷ 73 ∷ 74 ∷ 75 ∷ 76 ∷ 77 ∷ 78 ∷ 79 ∷ 80 ∷ 81 ∷ 82 ∷ 83 ∷ 84 ∷ 85 ∷ 86 ∷ 87 ∷ 88 ∷ 89 ∷ 90 ∷ 91 ∷ 92 ∷ 93 ∷ 94 ∷ 95 ∷ 96 ∷ 97 ∷ 98 ∷ 99 ∷ 100 ∷ 101 ∷ 102 ∷ 103 ∷ 104 ∷ 105 ∷ 106 ∷ 107 ∷ 108 ∷ 109 ∷ 110 ∷ 111 ∷ 112 ∷ 113 ∷ 114 ∷ 115 ∷ 116 ∷ 117 ∷ 118 ∷ 119 ∷ 120 ∷ 121 ∷ 122 ∷ 123 ∷ 124 ∷ 125 ∷ 126 ∷ 127 ∷ []) 2 } ∷
    record { worker = 0; call = named.TSnd (codes "c") (codes "x") 2 } ∷
    record { worker = 0; call = named.TSnd (codes "c") (codes "x") 0 } ∷
    record { worker = 0; call = named.TRcv (codes "r") 1 } ∷
    record { worker = 0; call = named.TLookAt (codes "c") } ∷
    record { worker = 0; call = named.TSndDis (codes "c") None (codes "gone") } ∷
    record { worker = 0; call = named.TLookAt (codes "r") } ∷
    record { worker = 0; call = named.TRcvDis (codes "r") 64 } ∷
    record { worker = 0; call = named.SetMode (codes "r") true } ∷
    record { worker = 0; call = named.TConnect (codes "c") (codes "l") [] [] 64 256 64 } ∷
    record { worker = 0; call = named.TListen (codes "l") (codes "again") 64 256 64 } ∷
    record { worker = 0; call = named.TAccept (codes "l") (codes "r") (codes "again") [] [] } ∷
    record { worker = 0; call = named.TRcvConnect (codes "c") 64 256 64 } ∷
    record { worker = 0; call = named.TRcv (codes "r") 65536 } ∷
    record { worker = 0; call = named.TLookAt (codes "r") } ∷
    record { worker = 0; call = named.TOpen (codes "s") Ticlts true } ∷
    record { worker = 0; call = named.TBind (codes "s") (codes "s") 0 64 } ∷
    record { worker = 0; call = named.TOpen (codes "v") Ticlts true } ∷
    record { worker = 0; call = named.TBind (codes "v") (codes "v") 0 64 } ∷
    record { worker = 0; call = named.TSndUData (codes "s") (codes "v") [] (codes "x") } ∷
    record { worker = 0; call = named.TSndUData (codes "s") (codes "v") [] (codes "x") } ∷
    record { worker = 0; call = named.TSndUData (codes "s") (codes "v") [] (codes "x") } ∷
    record { worker = 0; call = named.TSndUData (codes "s") (codes "v") [] (codes "x") } ∷
    record { worker = 0; call = named.TSndUData (codes "s") (codes "v") [] (codes "x") } ∷
    record { worker = 0; call = named.TSndUData (codes "s") (codes "v") [] (codes "x") } ∷
    record { worker = 0; call = named.TSndUData (codes "s") (codes "v") [] (codes "x") } ∷
    record { worker = 0; call = named.TSndUData (codes "s") (codes "v") [] (codes "x") } ∷
    record { worker = 0; call = named.TSndUData (codes "s") (codes "v") [] (codes "x") } ∷
    record { worker = 0; call = named.TSndUData (codes "s") (codes "v") [] (codes "x") } ∷
    record { worker = 0; call = named.TSndUData (codes "s") (codes "v") [] (codes "x") } ∷
    record { worker = 0; call = named.TSndUData (codes "s") (codes "v") [] (codes "x") } ∷
    record { worker = 0; call = named.TSndUData (codes "s") (codes "v") [] (codes "x") } ∷
    record { worker = 0; call = named.TSndUData (codes "s") (codes "v") [] (codes "x") } ∷
    record { worker = 0; call = named.TSndUData (codes "s") (codes "v") [] (codes "x") } ∷
    record { worker = 0; call = named.TSndUData (codes "s") (codes "v") [] (codes "x") } ∷
    record { worker = 0; call = named.TSndUData (codes "s") (codes "v") [] (codes "x") } ∷
    record { worker = 0; call = named.TLookAt (codes "s") } ∷
    record { worker = 0; call = named.TSndUData (codes "s") (codes "nobody") [] (codes "y") } ∷
    record { worker = 0; call = named.TRcvUDErr (codes "s") 64 256 } ∷
    record { worker = 0; call = named.TRcvUData (codes "v") 65536 64 256 } ∷
    record { worker = 0; call = named.TLookAt (codes "s") } ∷
    record { worker = 0; call = named.TSndUData (codes "s") (codes "v") [] (codes "x") } ∷
    record { worker = 0; call = named.TSndUData (codes "s") (codes "v") [] (codes "x") } ∷
    record { worker = 0; call = named.TRcvUData (codes "v") 65536 64 256 } ∷
    record { worker = 0; call = named.TLookAt (codes "s") } ∷
    record { worker = 0; call = named.TLookAt (codes "s") } ∷
    record { worker = 0; call = named.TSndUData (codes "s") (codes "v") [] (codes "x") } ∷
    record { worker = 0; call = named.TSndUData (codes "s") (codes "v") [] (codes "x") } ∷
    record { worker = 0; call = named.TRcvUData (codes "v") 65536 64 256 } ∷
    record { worker = 0; call = named.TSndUData (codes "s") (codes "v") [] (codes "x") } ∷
    record { worker = 0; call = named.TRcvUData (codes "v") 65536 64 256 } ∷
    record { worker = 0; call = named.TLookAt (codes "s") } ∷
    record { worker = 0; call = named.TSndUData (codes "s") (codes "nobody") [] (codes "y") } ∷
    record { worker = 0; call = named.TUnbind (codes "s") } ∷
    record { worker = 0; call = named.TBind (codes "s") (codes "s") 0 64 } ∷
    record { worker = 0; call = named.TLookAt (codes "s") } ∷
    []

entries : List Entry
entries =
    record { worker = 0; act = act.Begin (call.TOpen Ticots false); outcome = Done (Opened (record { 0 = 0 })); after = T_UNBND } ∷
    record { worker = 0; act = act.Begin (call.TBind (record { 0 = 0 }) (codes "l") 1 64); outcome = Done (Bound (codes "l") 1); after = T_IDLE } ∷
    record { worker = 0; act = act.Begin (call.TOpen Ticots true); outcome = Done (Opened (record { 0 = 1 })); after = T_UNBND } ∷
    record { worker = 0; act = act.Begin (call.TBind (record { 0 = 1 }) [] 0 64); outcome = Done (Bound (codes "#0") 0); after = T_IDLE } ∷
    record { worker = 0; act = act.Begin (call.TConnect (record { 0 = 1 }) (codes "l") [] [] 64 256 64); outcome = Done (Refused TNODATA); after = T_OUTCON } ∷
    record { worker = 0; act = act.Begin (call.TListen (record { 0 = 0 }) 64 256 64); outcome = Done (Listened (record { 0 = 1 }) (codes "#0") [] []); after = T_INCON } ∷
    record { worker = 0; act = act.Begin (call.TOpen Ticots false); outcome = Done (Opened (record { 0 = 2 })); after = T_UNBND } ∷
    record { worker = 0; act = act.Begin (call.TAccept (record { 0 = 0 }) (record { 0 = 2 }) (record { 0 = 1 }) [] []); outcome = Done Plain; after = T_IDLE } ∷
    record { worker = 0; act = act.Begin (call.TRcvConnect (record { 0 = 1 }) 64 256 64); outcome = Done (Connected (codes "l") [] []); after = T_DATAXFER } ∷
    record { worker = 0; act = act.Begin (call.TSnd (record { 0 = 1 }) (codes "ab") 0); outcome = Done (Sent 2); after = T_DATAXFER } ∷
    record { worker = 0; act = act.Begin (call.TSnd (record { 0 = 1 }) (codes "x") 0); outcome = Done (Refused TFLOW); after = T_DATAXFER } ∷
    record { worker = 0; act = act.Begin (call.TRcv (record { 0 = 2 }) 65536); outcome = Done (Got (codes "ab") 0); after = T_DATAXFER } ∷
    record { worker = 0; act = act.Begin (call.TSnd (record { 0 = 1 }) (codes "c") 0); outcome = Done (Sent 1); after = T_DATAXFER } ∷
    record { worker = 0; act = act.Begin (call.TLookAt (record { 0 = 1 })); outcome = Done (Seen None); after = T_DATAXFER } ∷
    record { worker = 0; act = act.Begin (call.TSnd (record { 0 = 1 }) (codes "de") 0); outcome = Done (Sent 1); after = T_DATAXFER } ∷
    record { worker = 0; act = act.Begin (call.TSnd (record { 0 = 1 }) (codes "x") 0); outcome = Done (Refused TFLOW); after = T_DATAXFER } ∷
    record { worker = 0; act = act.Begin (call.TLookAt (record { 0 = 1 })); outcome = Done (Seen None); after = T_DATAXFER } ∷
    record { worker = 0; act = act.Begin (call.TRcv (record { 0 = 2 }) 65536); outcome = Done (Got (codes "c") 0); after = T_DATAXFER } ∷
    record { worker = 0; act = act.Begin (call.TRcv (record { 0 = 2 }) 65536); outcome = Done (Got (codes "d") 1); after = T_DATAXFER } ∷
    record { worker = 0; act = act.Begin (call.TLookAt (record { 0 = 1 })); outcome = Done (Seen (Some T_GODATA)); after = T_DATAXFER } ∷
    record { worker = 0; act = act.Begin (call.TLookAt (record { 0 = 1 })); outcome = Done (Seen None); after = T_DATAXFER } ∷
    record { worker = 0; act = act.Begin (call.TSnd (record { 0 = 1 }) [] 2); outcome = Done (Sent 0); after = T_DATAXFER } ∷
    record { worker = 0; act = act.Begin (call.TSnd (record { 0 = 1 }) [] 2); outcome = Done (Sent 0); after = T_DATAXFER } ∷
    record { worker = 0; act = act.Begin (call.TSnd (record { 0 = 1 }) [] 2); outcome = Done (Sent 0); after = T_DATAXFER } ∷
    record { worker = 0; act = act.Begin (call.TSnd (record { 0 = 1 }) [] 2); outcome = Done (Sent 0); after = T_DATAXFER } ∷
    record { worker = 0; act = act.Begin (call.TSnd (record { 0 = 1 }) [] 2); outcome = Done (Sent 0); after = T_DATAXFER } ∷
    record { worker = 0; act = act.Begin (call.TSnd (record { 0 = 1 }) [] 2); outcome = Done (Sent 0); after = T_DATAXFER } ∷
    record { worker = 0; act = act.Begin (call.TSnd (record { 0 = 1 }) [] 2); outcome = Done (Sent 0); after = T_DATAXFER } ∷
    record { worker = 0; act = act.Begin (call.TSnd (record { 0 = 1 }) [] 2); outcome = Done (Sent 0); after = T_DATAXFER } ∷
    record { worker = 0; act = act.Begin (call.TSnd (record { 0 = 1 }) [] 2); outcome = Done (Sent 0); after = T_DATAXFER } ∷
    record { worker = 0; act = act.Begin (call.TSnd (record { 0 = 1 }) [] 2); outcome = Done (Sent 0); after = T_DATAXFER } ∷
    record { worker = 0; act = act.Begin (call.TSnd (record { 0 = 1 }) [] 2); outcome = Done (Sent 0); after = T_DATAXFER } ∷
    record { worker = 0; act = act.Begin (call.TSnd (record { 0 = 1 }) [] 2); outcome = Done (Sent 0); after = T_DATAXFER } ∷
    record { worker = 0; act = act.Begin (call.TSnd (record { 0 = 1 }) [] 2); outcome = Done (Sent 0); after = T_DATAXFER } ∷
    record { worker = 0; act = act.Begin (call.TSnd (record { 0 = 1 }) [] 2); outcome = Done (Sent 0); after = T_DATAXFER } ∷
    record { worker = 0; act = act.Begin (call.TSnd (record { 0 = 1 }) [] 2); outcome = Done (Sent 0); after = T_DATAXFER } ∷
    record { worker = 0; act = act.Begin (call.TSnd (record { 0 = 1 }) [] 2); outcome = Done (Sent 0); after = T_DATAXFER } ∷
    record { worker = 0; act = act.Begin (call.TSnd (record { 0 = 1 }) [] 2); outcome = Done (Refused TFLOW); after = T_DATAXFER } ∷
    record { worker = 0; act = act.Begin (call.TLookAt (record { 0 = 1 })); outcome = Done (Seen None); after = T_DATAXFER } ∷
    record { worker = 0; act = act.Begin (call.TRcv (record { 0 = 2 }) 65536); outcome = Done (Got [] 2); after = T_DATAXFER } ∷
    record { worker = 0; act = act.Begin (call.TLookAt (record { 0 = 1 })); outcome = Done (Seen (Some T_GOEXDATA)); after = T_DATAXFER } ∷
    record { worker = 0; act = act.Begin (call.TLookAt (record { 0 = 1 })); outcome = Done (Seen None); after = T_DATAXFER } ∷
    record { worker = 0; act = act.Begin (call.TRcvV (record { 0 = 2 }) (0 ∷ 0 ∷ [])); outcome = Done (Got [] 2); after = T_DATAXFER } ∷
    record { worker = 0; act = act.Begin (call.TRcv (record { 0 = 2 }) 65536); outcome = Done (Got [] 2); after = T_DATAXFER } ∷
    record { worker = 0; act = act.Begin (call.TRcv (record { 0 = 2 }) 65536); outcome = Done (Got [] 2); after = T_DATAXFER } ∷
    record { worker = 0; act = act.Begin (call.TRcv (record { 0 = 2 }) 65536); outcome = Done (Got [] 2); after = T_DATAXFER } ∷
    record { worker = 0; act = act.Begin (call.TRcv (record { 0 = 2 }) 65536); outcome = Done (Got [] 2); after = T_DATAXFER } ∷
    record { worker = 0; act = act.Begin (call.TRcv (record { 0 = 2 }) 65536); outcome = Done (Got [] 2); after = T_DATAXFER } ∷
    record { worker = 0; act = act.Begin (call.TRcv (record { 0 = 2 }) 65536); outcome = Done (Got [] 2); after = T_DATAXFER } ∷
    record { worker = 0; act = act.Begin (call.TRcv (record { 0 = 2 }) 65536); outcome = Done (Got [] 2); after = T_DATAXFER } ∷
    record { worker = 0; act = act.Begin (call.TRcv (record { 0 = 2 }) 65536); outcome = Done (Got [] 2); after = T_DATAXFER } ∷
    record { worker = 0; act = act.Begin (call.TRcv (record { 0 = 2 }) 65536); outcome = Done (Got [] 2); after = T_DATAXFER } ∷
    record { worker = 0; act = act.Begin (call.TRcv (record { 0 = 2 }) 65536); outcome = Done (Got [] 2); after = T_DATAXFER } ∷
    record { worker = 0; act = act.Begin (call.TRcv (record { 0 = 2 }) 65536); outcome = Done (Got [] 2); after = T_DATAXFER } ∷
    record { worker = 0; act = act.Begin (call.TRcv (record { 0 = 2 }) 65536); outcome = Done (Got [] 2); after = T_DATAXFER } ∷
    record { worker = 0; act = act.Begin (call.TRcv (record { 0 = 2 }) 65536); outcome = Done (Got [] 2); after = T_DATAXFER } ∷
    record { worker = 0; act = act.Begin (call.TRcv (record { 0 = 2 }) 65536); outcome = Done (Got [] 2); after = T_DATAXFER } ∷
    record { worker = 0; act = act.Begin (call.TSnd (record { 0 = 1 }) (0 ∷ 1 ∷ 2 ∷ 3 ∷ 4 ∷ 5 ∷ 6 ∷ 7 ∷ 8 ∷ 9 ∷ 10 ∷ 11 ∷ 12 ∷ 13 ∷ 14 ∷ 15 ∷ 16 ∷ 17 ∷ 18 ∷ 19 ∷ 20 ∷ 21 ∷ 22 ∷ 23 ∷ 24 ∷ 25 ∷ 26 ∷ 27 ∷ 28 ∷ 29 ∷ 30 ∷ 31 ∷ 32 ∷ 33 ∷ 34 ∷ 35 ∷ 36 ∷ 37 ∷ 38 ∷ 39 ∷ 40 ∷ 41 ∷ 42 ∷ 43 ∷ 44 ∷ 45 ∷ 46 ∷ 47 ∷ 48 ∷ 49 ∷ 50 ∷ 51 ∷ 52 ∷ 53 ∷ 54 ∷ 55 ∷ 56 ∷ 57 ∷ 58 ∷ 59 ∷ 60 ∷ 61 ∷ 62 ∷ 63 ∷ 64 ∷ 65 ∷ 66 ∷ 67 ∷ 68 ∷ 69 ∷ 70 ∷ 71 ∷ 72 ∷ 73 ∷ 74 ∷ 75 ∷ 76 ∷ 77 ∷ 78 ∷ 79 ∷ 80 ∷ 81 ∷ 82 ∷ 83 ∷ 84 ∷ 85 ∷ 86 ∷ 87 ∷ 88 ∷ 89 ∷ 90 ∷ 91 ∷ 92 ∷ 93 ∷ 94 ∷ 95 ∷ 96 ∷ 97 ∷ 98 ∷ 99 ∷ 100 ∷ 101 ∷ 102 ∷ 103 ∷ 104 ∷ 105 ∷ 106 ∷ 107 ∷ 108 ∷ 109 ∷ 110 ∷ 111 ∷ 112 ∷ 113 ∷ 114 ∷ 115 ∷ 116 ∷ 117 ∷ 118 ∷ 119 ∷ 120 ∷ 121 ∷ 122 ∷ 123 ∷ 124 ∷ 125 ∷ 126 ∷ 127 ∷ []) 2); outcome = Done (Sent 128); after = T_DATAXFER } ∷
    record { worker = 0; act = act.Begin (call.TSnd (record { 0 = 1 }) (0 ∷ 1 ∷ 2 ∷ 3 ∷ 4 ∷ 5 ∷ 6 ∷ 7 ∷ 8 ∷ 9 ∷ 10 ∷ 11 ∷ 12 ∷ 13 ∷ 14 ∷ 15 ∷ 16 ∷ 17 ∷ 18 ∷ 19 ∷ 20 ∷ 21 ∷ 22 ∷ 23 ∷ 24 ∷ 25 ∷ 26 ∷ 27 ∷ 28 ∷ 29 ∷ 30 ∷ 31 ∷ 32 ∷ 33 ∷ 34 ∷ 35 ∷ 36 ∷ 37 ∷ 38 ∷ 39 ∷ 40 ∷ 41 ∷ 42 ∷ 43 ∷ 44 ∷ 45 ∷ 46 ∷ 47 ∷ 48 ∷ 49 ∷ 50 ∷ 51 ∷ 52 ∷ 53 ∷ 54 ∷ 55 ∷ 56 ∷ 57 ∷ 58 ∷ 59 ∷ 60 ∷ 61 ∷ 62 ∷ 63 ∷ 64 ∷ 65 ∷ 66 ∷ 67 ∷ 68 ∷ 69 ∷ 70 ∷ 71 ∷ 72 ∷ 73 ∷ 74 ∷ 75 ∷ 76 ∷ 77 ∷ 78 ∷ 79 ∷ 80 ∷ 81 ∷ 82 ∷ 83 ∷ 84 ∷ 85 ∷ 86 ∷ 87 ∷ 88 ∷ 89 ∷ 90 ∷ 91 ∷ 92 ∷ 93 ∷ 94 ∷ 95 ∷ 96 ∷ 97 ∷ 98 ∷ 99 ∷ 100 ∷ 101 ∷ 102 ∷ 103 ∷ 104 ∷ 105 ∷ 106 ∷ 107 ∷ 108 ∷ 109 ∷ 110 ∷ 111 ∷ 112 ∷ 113 ∷ 114 ∷ 115 ∷ 116 ∷ 117 ∷ 118 ∷ 119 ∷ 120 ∷ 121 ∷ 122 ∷ 123 ∷ 124 ∷ 125 ∷ 126 ∷ 127 ∷ []) 2); outcome = Done (Sent 128); after = T_DATAXFER } ∷
    record { worker = 0; act = act.Begin (call.TSnd (record { 0 = 1 }) (codes "x") 2); outcome = Done (Refused TFLOW); after = T_DATAXFER } ∷
    record { worker = 0; act = act.Begin (call.TSnd (record { 0 = 1 }) (codes "x") 0); outcome = Done (Sent 1); after = T_DATAXFER } ∷
    record { worker = 0; act = act.Begin (call.TRcv (record { 0 = 2 }) 1); outcome = Done (Got (0 ∷ []) 3); after = T_DATAXFER } ∷
    record { worker = 0; act = act.Begin (call.TLookAt (record { 0 = 1 })); outcome = Done (Seen (Some T_GOEXDATA)); after = T_DATAXFER } ∷
    record { worker = 0; act = act.Begin (call.TSndDis (record { 0 = 1 }) (record { 0 = 0 }) (codes "gone")); outcome = Done Plain; after = T_IDLE } ∷
    record { worker = 0; act = act.Begin (call.TLookAt (record { 0 = 2 })); outcome = Done (Seen (Some T_DISCONNECT)); after = T_DATAXFER } ∷
    record { worker = 0; act = act.Begin (call.TRcvDis (record { 0 = 2 }) 64); outcome = Done (Discon 4 (record { 0 = 0 }) (codes "gone")); after = T_IDLE } ∷
    record { worker = 0; act = act.Begin (call.SetMode (record { 0 = 2 }) true); outcome = Done Plain; after = T_IDLE } ∷
    record { worker = 0; act = act.Begin (call.TConnect (record { 0 = 1 }) (codes "l") [] [] 64 256 64); outcome = Done (Refused TNODATA); after = T_OUTCON } ∷
    record { worker = 0; act = act.Begin (call.TListen (record { 0 = 0 }) 64 256 64); outcome = Done (Listened (record { 0 = 2 }) (codes "#0") [] []); after = T_INCON } ∷
    record { worker = 0; act = act.Begin (call.TAccept (record { 0 = 0 }) (record { 0 = 2 }) (record { 0 = 2 }) [] []); outcome = Done Plain; after = T_IDLE } ∷
    record { worker = 0; act = act.Begin (call.TRcvConnect (record { 0 = 1 }) 64 256 64); outcome = Done (Connected (codes "l") [] []); after = T_DATAXFER } ∷
    record { worker = 0; act = act.Begin (call.TRcv (record { 0 = 2 }) 65536); outcome = Done (Refused TNODATA); after = T_DATAXFER } ∷
    record { worker = 0; act = act.Begin (call.TLookAt (record { 0 = 2 })); outcome = Done (Seen None); after = T_DATAXFER } ∷
    record { worker = 0; act = act.Begin (call.TOpen Ticlts true); outcome = Done (Opened (record { 0 = 3 })); after = T_UNBND } ∷
    record { worker = 0; act = act.Begin (call.TBind (record { 0 = 3 }) (codes "s") 0 64); outcome = Done (Bound (codes "s") 0); after = T_IDLE } ∷
    record { worker = 0; act = act.Begin (call.TOpen Ticlts true); outcome = Done (Opened (record { 0 = 4 })); after = T_UNBND } ∷
    record { worker = 0; act = act.Begin (call.TBind (record { 0 = 4 }) (codes "v") 0 64); outcome = Done (Bound (codes "v") 0); after = T_IDLE } ∷
    record { worker = 0; act = act.Begin (call.TSndUData (record { 0 = 3 }) (codes "v") [] (codes "x")); outcome = Done Plain; after = T_IDLE } ∷
    record { worker = 0; act = act.Begin (call.TSndUData (record { 0 = 3 }) (codes "v") [] (codes "x")); outcome = Done Plain; after = T_IDLE } ∷
    record { worker = 0; act = act.Begin (call.TSndUData (record { 0 = 3 }) (codes "v") [] (codes "x")); outcome = Done Plain; after = T_IDLE } ∷
    record { worker = 0; act = act.Begin (call.TSndUData (record { 0 = 3 }) (codes "v") [] (codes "x")); outcome = Done Plain; after = T_IDLE } ∷
    record { worker = 0; act = act.Begin (call.TSndUData (record { 0 = 3 }) (codes "v") [] (codes "x")); outcome = Done Plain; after = T_IDLE } ∷
    record { worker = 0; act = act.Begin (call.TSndUData (record { 0 = 3 }) (codes "v") [] (codes "x")); outcome = Done Plain; after = T_IDLE } ∷
    record { worker = 0; act = act.Begin (call.TSndUData (record { 0 = 3 }) (codes "v") [] (codes "x")); outcome = Done Plain; after = T_IDLE } ∷
    record { worker = 0; act = act.Begin (call.TSndUData (record { 0 = 3 }) (codes "v") [] (codes "x")); outcome = Done Plain; after = T_IDLE } ∷
    record { worker = 0; act = act.Begin (call.TSndUData (record { 0 = 3 }) (codes "v") [] (codes "x")); outcome = Done Plain; after = T_IDLE } ∷
    record { worker = 0; act = act.Begin (call.TSndUData (record { 0 = 3 }) (codes "v") [] (codes "x")); outcome = Done Plain; after = T_IDLE } ∷
    record { worker = 0; act = act.Begin (call.TSndUData (record { 0 = 3 }) (codes "v") [] (codes "x")); outcome = Done Plain; after = T_IDLE } ∷
    record { worker = 0; act = act.Begin (call.TSndUData (record { 0 = 3 }) (codes "v") [] (codes "x")); outcome = Done Plain; after = T_IDLE } ∷
    record { worker = 0; act = act.Begin (call.TSndUData (record { 0 = 3 }) (codes "v") [] (codes "x")); outcome = Done Plain; after = T_IDLE } ∷
    record { worker = 0; act = act.Begin (call.TSndUData (record { 0 = 3 }) (codes "v") [] (codes "x")); outcome = Done Plain; after = T_IDLE } ∷
    record { worker = 0; act = act.Begin (call.TSndUData (record { 0 = 3 }) (codes "v") [] (codes "x")); outcome = Done Plain; after = T_IDLE } ∷
    record { worker = 0; act = act.Begin (call.TSndUData (record { 0 = 3 }) (codes "v") [] (codes "x")); outcome = Done Plain; after = T_IDLE } ∷
    record { worker = 0; act = act.Begin (call.TSndUData (record { 0 = 3 }) (codes "v") [] (codes "x")); outcome = Done (Refused TFLOW); after = T_IDLE } ∷
    record { worker = 0; act = act.Begin (call.TLookAt (record { 0 = 3 })); outcome = Done (Seen None); after = T_IDLE } ∷
    record { worker = 0; act = act.Begin (call.TSndUData (record { 0 = 3 }) (codes "nobody") [] (codes "y")); outcome = Done Plain; after = T_IDLE } ∷
    record { worker = 0; act = act.Begin (call.TRcvUDErr (record { 0 = 3 }) 64 256); outcome = Done (UDErr (codes "nobody") [] 1); after = T_IDLE } ∷
    record { worker = 0; act = act.Begin (call.TRcvUData (record { 0 = 4 }) 65536 64 256); outcome = Done (UData (codes "s") [] (codes "x") 0); after = T_IDLE } ∷
    record { worker = 0; act = act.Begin (call.TLookAt (record { 0 = 3 })); outcome = Done (Seen None); after = T_IDLE } ∷
    record { worker = 0; act = act.Begin (call.TSndUData (record { 0 = 3 }) (codes "v") [] (codes "x")); outcome = Done Plain; after = T_IDLE } ∷
    record { worker = 0; act = act.Begin (call.TSndUData (record { 0 = 3 }) (codes "v") [] (codes "x")); outcome = Done (Refused TFLOW); after = T_IDLE } ∷
    record { worker = 0; act = act.Begin (call.TRcvUData (record { 0 = 4 }) 65536 64 256); outcome = Done (UData (codes "s") [] (codes "x") 0); after = T_IDLE } ∷
    record { worker = 0; act = act.Begin (call.TLookAt (record { 0 = 3 })); outcome = Done (Seen (Some T_GODATA)); after = T_IDLE } ∷
    record { worker = 0; act = act.Begin (call.TLookAt (record { 0 = 3 })); outcome = Done (Seen None); after = T_IDLE } ∷
    record { worker = 0; act = act.Begin (call.TSndUData (record { 0 = 3 }) (codes "v") [] (codes "x")); outcome = Done Plain; after = T_IDLE } ∷
    record { worker = 0; act = act.Begin (call.TSndUData (record { 0 = 3 }) (codes "v") [] (codes "x")); outcome = Done (Refused TFLOW); after = T_IDLE } ∷
    record { worker = 0; act = act.Begin (call.TRcvUData (record { 0 = 4 }) 65536 64 256); outcome = Done (UData (codes "s") [] (codes "x") 0); after = T_IDLE } ∷
    record { worker = 0; act = act.Begin (call.TSndUData (record { 0 = 3 }) (codes "v") [] (codes "x")); outcome = Done Plain; after = T_IDLE } ∷
    record { worker = 0; act = act.Begin (call.TRcvUData (record { 0 = 4 }) 65536 64 256); outcome = Done (UData (codes "s") [] (codes "x") 0); after = T_IDLE } ∷
    record { worker = 0; act = act.Begin (call.TLookAt (record { 0 = 3 })); outcome = Done (Seen None); after = T_IDLE } ∷
    record { worker = 0; act = act.Begin (call.TSndUData (record { 0 = 3 }) (codes "nobody") [] (codes "y")); outcome = Done Plain; after = T_IDLE } ∷
    record { worker = 0; act = act.Begin (call.TUnbind (record { 0 = 3 })); outcome = Done Plain; after = T_UNBND } ∷
    record { worker = 0; act = act.Begin (call.TBind (record { 0 = 3 }) (codes "s") 0 64); outcome = Done (Bound (codes "s") 0); after = T_IDLE } ∷
    record { worker = 0; act = act.Begin (call.TLookAt (record { 0 = 3 })); outcome = Done (Seen None); after = T_IDLE } ∷
    []

the_history : robin (record { providers = providers; lines = lines }) ≡ entries
unfolding providers lines entries digits opening step plan is_option_list options_within begins_option
the_history = refl
