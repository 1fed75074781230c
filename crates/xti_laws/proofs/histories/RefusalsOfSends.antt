-- refusals of sends
use Rattle.std.specs.Prelude.{ℕ, zero, suc, ◌+◌, ◌%◌, true, false, List, [], ◌∷◌, ◌≡◌, refl, codes, Some, None}
use Rattle.std.specs.Fmt.{digits}
use Rattle.xti_base.specs.Options.{begins_option, is_option_list, options_within}
use Rattle.xti_base.specs.declared.errno.Errno.TheVariants.{TBADF, TOUTSTATE, TBADDATA, TFLOW, TNODATA, TBADFLAG, TNOTSUPPORT}
use Rattle.xti_base.specs.declared.kinds.Event.TheVariants.{T_DISCONNECT, T_ORDREL}
use Rattle.xti_base.specs.declared.kinds.Prov.TheVariants.{Ticots, Ticotsord, Ticlts}
use Rattle.xti_base.specs.declared.kinds.State.TheVariants.{T_UNINIT, T_UNBND, T_IDLE, T_OUTCON, T_INCON, T_DATAXFER, T_OUTREL, T_INREL}
use Rattle.xti_base.specs.declared.limit.Limit.TheVariants.{At}
use Rattle.xti_model.specs.declared.call.Call.TheVariants as call
use Rattle.xti_model.specs.declared.entry.Act.TheVariants as act
use Rattle.xti_model.specs.declared.entry.Entry.{Entry}
use Rattle.xti_model.specs.declared.entry.Outcome.TheVariants.{Done}
use Rattle.xti_model.specs.declared.entry.Reply.TheVariants.{Plain, Opened, Bound, Connected, Listened, Sent, Got, Discon, Seen, Addresses, Refused, Look}
use Rattle.xti_model.specs.declared.profile.Providers.{Providers}
use Rattle.xti_model.specs.declared.profile.Version.TheVariants.{One}
use Rattle.xti_model.specs.declared.script.Line.{Line}
use Rattle.xti_model.specs.declared.script.NamedCall.TheVariants as named
use Rattle.xti_model.specs.Robin.{robin}
use Rattle.xti_model.specs.Step.{plan, step}
use Rattle.xti_model.specs.World.{opening}

providers : Providers
providers = record { version = One; ticots = record { tsdu = At 8; sendzero = true; same_addr = false; sndbuf = 2; rcvbuf = 2; reldata = false }; ticotsord = record { tsdu = At 0; sendzero = false; same_addr = false; sndbuf = 2; rcvbuf = 2; reldata = false }; ticlts = record { tsdu = At 8192; sendzero = true; same_addr = false; sndbuf = 16384; rcvbuf = 16384; reldata = false } }

-- so many bytes that rise by one each
counted : ℕ → ℕ → List ℕ
counted from zero = []
counted from (suc n) = from ∷ counted ((from + 1) % 256) n

lines : List Line
lines =
    record { worker = 0; call = named.TOpen (codes "z") Ticots false } ∷
    record { worker = 0; call = named.TClose (codes "z") } ∷
    record { worker = 0; call = named.TSnd (codes "z") (codes "x") 0 } ∷
    record { worker = 0; call = named.TSndV (codes "z") ((codes "x") ∷ []) 0 } ∷
    record { worker = 0; call = named.TOpen (codes "u") Ticlts false } ∷
    record { worker = 0; call = named.TSnd (codes "u") (codes "x") 4 } ∷
    record { worker = 0; call = named.TSndV (codes "u") ((codes "x") ∷ []) 4 } ∷
    record { worker = 0; call = named.TOpen (codes "n") Ticots false } ∷
    record { worker = 0; call = named.TSnd (codes "n") (codes "x") 4 } ∷
    record { worker = 0; call = named.TSndV (codes "n") ((codes "x") ∷ []) 4 } ∷
    record { worker = 0; call = named.TSnd (codes "n") (codes "x") 0 } ∷
    record { worker = 0; call = named.TSndV (codes "n") ((codes "a") ∷ (codes "b") ∷ (codes "c") ∷ (codes "d") ∷ (codes "e") ∷ (codes "f") ∷ (codes "g") ∷ (codes "h") ∷ (codes "i") ∷ (codes "j") ∷ (codes "k") ∷ (codes "l") ∷ (codes "m") ∷ (codes "n") ∷ (codes "o") ∷ (codes "p") ∷ (codes "q") ∷ []) 0 } ∷
    record { worker = 0; call = named.TOpen (codes "l") Ticots false } ∷
    record { worker = 0; call = named.TBind (codes "l") (codes "l") 1 64 } ∷
    record { worker = 0; call = named.TOpen (codes "c") Ticots true } ∷
    record { worker = 0; call = named.TBind (codes "c") [] 0 64 } ∷
    record { worker = 0; call = named.TConnect (codes "c") (codes "l") [] [] 64 256 64 } ∷
    record { worker = 0; call = named.TListen (codes "l") (codes "ql") 64 256 64 } ∷
    record { worker = 0; call = named.TOpen (codes "r") Ticots false } ∷
    record { worker = 0; call = named.TAccept (codes "l") (codes "r") (codes "ql") [] [] } ∷
    record { worker = 0; call = named.TRcvConnect (codes "c") 64 256 64 } ∷
    record { worker = 0; call = named.TSndV (codes "c") ((codes "a") ∷ (codes "b") ∷ (codes "c") ∷ (codes "d") ∷ (codes "e") ∷ (codes "f") ∷ (codes "g") ∷ (codes "h") ∷ (codes "i") ∷ (codes "j") ∷ (codes "k") ∷ (codes "l") ∷ (codes "m") ∷ (codes "n") ∷ (codes "o") ∷ (codes "p") ∷ (codes "q") ∷ []) 0 } ∷
    record { worker = 0; call = named.TSndV (codes "c") ((counted 0 65536) ∷ (codes "x") ∷ []) 0 } ∷
    record { worker = 0; call = named.TSnd (codes "c") (codes "123456789") 0 } ∷
    record { worker = 0; call = named.TSndV (codes "c") ((codes "1234") ∷ (codes "56789") ∷ []) 0 } ∷
    record { worker = 0; call = named.TSnd (codes "c") (0 ∷ 1 ∷ 2 ∷ 3 ∷ 4 ∷ 5 ∷ 6 ∷ 7 ∷ 8 ∷ 9 ∷ 10 ∷ 11 ∷ 12 ∷ 13 ∷ 14 ∷ 15 ∷ 16 ∷ 17 ∷ 18 ∷ 19 ∷ 20 ∷ 21 ∷ 22 ∷ 23 ∷ 24 ∷ 25 ∷ 26 ∷ 27 ∷ 28 ∷ 29 ∷ 30 ∷ 31 ∷ 32 ∷ 33 ∷ 34 ∷ 35 ∷ 36 ∷ 37 ∷ 38 ∷ 39 ∷ 40 ∷ 41 ∷ 42 ∷ 43 ∷ 44 ∷ 45 ∷ 46 ∷ 47 ∷ 48 ∷ 49 ∷ 50 ∷ 51 ∷ 52 ∷ 53 ∷ 54 ∷ 55 ∷ 56 ∷ 57 ∷ 58 ∷ 59 ∷ 60 ∷ 61 ∷ 62 ∷ 63 ∷ 64 ∷ 65 ∷ 66 ∷ 67 ∷ 68 ∷ 69 ∷ 70 ∷ 71 ∷ 72 ∷ 73 ∷ 74 ∷ 75 ∷ 76 ∷ 77 ∷ 78 ∷ 79 ∷ 80 ∷ 81 ∷ 82 ∷ 83 ∷ 84 ∷ 85 ∷ 86 ∷ 87 ∷ 88 ∷ 89 ∷ 90 ∷ 91 ∷ 92 ∷ 93 ∷ 94 ∷ 95 ∷ 96 ∷ 97 ∷ 98 ∷ 99 ∷ 100 ∷ 101 ∷ 102 ∷ 103 ∷ 104 ∷ 105 ∷ 106 ∷ 107 ∷ 108 ∷ 109 ∷ 110 ∷ 111 ∷ 112 ∷ 113 ∷ 114 ∷ 115 ∷ 116 ∷ 117 ∷ 118 ∷ 119 ∷ 120 ∷ 121 ∷ 122 ∷ 123 ∷ 124 ∷ 125 ∷ 126 ∷ 127 ∷ 128 ∷ []) 2 } ∷
    record { worker = 0; call = named.TSnd (codes "c") (codes "12345678") 0 } ∷
    record { worker = 0; call = named.TSnd (codes "c") (codes "x") 0 } ∷
    record { worker = 0; call = named.TSndV (codes "c") ((codes "x") ∷ (codes "y") ∷ []) 0 } ∷
    record { worker = 0; call = named.TLookAt (codes "c") } ∷
    record { worker = 0; call = named.TRcv (codes "r") 9 } ∷
    record { worker = 0; call = named.TSnd (codes "c") (codes "9") 1 } ∷
    record { worker = 0; call = named.TSnd (codes "c") (codes "12345678") 0 } ∷
    record { worker = 0; call = named.TSndV (codes "r") ((codes "a") ∷ (codes "b") ∷ []) 0 } ∷
    record { worker = 0; call = named.TSndDis (codes "r") None (codes "bye") } ∷
    record { worker = 0; call = named.TGetProtAddr (codes "c") 64 64 } ∷
    record { worker = 0; call = named.TLookAt (codes "c") } ∷
    record { worker = 0; call = named.TSnd (codes "c") (codes "123456789") 0 } ∷
    record { worker = 0; call = named.TSnd (codes "c") (codes "x") 0 } ∷
    record { worker = 0; call = named.TSndV (codes "c") ((codes "x") ∷ []) 0 } ∷
    record { worker = 0; call = named.TRcvDis (codes "c") 64 } ∷
    record { worker = 0; call = named.TOpen (codes "r2") Ticots false } ∷
    record { worker = 0; call = named.TConnect (codes "c") (codes "l") [] [] 64 256 64 } ∷
    record { worker = 0; call = named.TListen (codes "l") (codes "again") 64 256 64 } ∷
    record { worker = 0; call = named.TAccept (codes "l") (codes "r2") (codes "again") [] [] } ∷
    record { worker = 0; call = named.TRcvConnect (codes "c") 64 256 64 } ∷
    record { worker = 0; call = named.TSnd (codes "c") (codes "12345678") 0 } ∷
    record { worker = 0; call = named.TRcv (codes "r2") 65536 } ∷
    record { worker = 0; call = named.TOpen (codes "m") Ticotsord false } ∷
    record { worker = 0; call = named.TBind (codes "m") (codes "m") 1 64 } ∷
    record { worker = 0; call = named.TOpen (codes "d") Ticotsord true } ∷
    record { worker = 0; call = named.TBind (codes "d") [] 0 64 } ∷
    record { worker = 0; call = named.TConnect (codes "d") (codes "m") [] [] 64 256 64 } ∷
    record { worker = 0; call = named.TListen (codes "m") (codes "qm") 64 256 64 } ∷
    record { worker = 0; call = named.TOpen (codes "s") Ticotsord false } ∷
    record { worker = 0; call = named.TAccept (codes "m") (codes "s") (codes "qm") [] [] } ∷
    record { worker = 0; call = named.TRcvConnect (codes "d") 64 256 64 } ∷
    record { worker = 0; call = named.TSnd (codes "d") [] 0 } ∷
    record { worker = 0; call = named.TSndV (codes "d") ([] ∷ []) 0 } ∷
    record { worker = 0; call = named.SetMode (codes "s") true } ∷
    record { worker = 0; call = named.TSnd (codes "s") (codes "abcd") 0 } ∷
    record { worker = 0; call = named.TSndRel (codes "d") } ∷
    record { worker = 0; call = named.TSnd (codes "d") (codes "x") 0 } ∷
    record { worker = 0; call = named.TSnd (codes "s") (codes "x") 0 } ∷
    record { worker = 0; call = named.TSndV (codes "s") ((codes "x") ∷ []) 0 } ∷
    record { worker = 0; call = named.TSnd (codes "s") [] 0 } ∷
    record { worker = 0; call = named.TRcvRel (codes "s") } ∷
    record { worker = 0; call = named.TRcv (codes "d") 65536 } ∷
    record { worker = 0; call = named.TSnd (codes "s") (codes "on") 0 } ∷
    record { worker = 0; call = named.TRcv (codes "d") 65536 } ∷
    []

entries : List Entry
entries =
    record { worker = 0; act = act.Begin (call.TOpen Ticots false); outcome = Done (Opened (record { 0 = 0 })); after = T_UNBND } ∷
    record { worker = 0; act = act.Begin (call.TClose (record { 0 = 0 })); outcome = Done Plain; after = T_UNINIT } ∷
    record { worker = 0; act = act.Begin (call.TSnd (record { 0 = 0 }) (codes "x") 0); outcome = Done (Refused TBADF); after = T_UNINIT } ∷
    record { worker = 0; act = act.Begin (call.TSndV (record { 0 = 0 }) ((codes "x") ∷ []) 0); outcome = Done (Refused TBADF); after = T_UNINIT } ∷
    record { worker = 0; act = act.Begin (call.TOpen Ticlts false); outcome = Done (Opened (record { 0 = 64 })); after = T_UNBND } ∷
    record { worker = 0; act = act.Begin (call.TSnd (record { 0 = 64 }) (codes "x") 4); outcome = Done (Refused TNOTSUPPORT); after = T_UNBND } ∷
    record { worker = 0; act = act.Begin (call.TSndV (record { 0 = 64 }) ((codes "x") ∷ []) 4); outcome = Done (Refused TNOTSUPPORT); after = T_UNBND } ∷
    record { worker = 0; act = act.Begin (call.TOpen Ticots false); outcome = Done (Opened (record { 0 = 1 })); after = T_UNBND } ∷
    record { worker = 0; act = act.Begin (call.TSnd (record { 0 = 1 }) (codes "x") 4); outcome = Done (Refused TBADFLAG); after = T_UNBND } ∷
    record { worker = 0; act = act.Begin (call.TSndV (record { 0 = 1 }) ((codes "x") ∷ []) 4); outcome = Done (Refused TBADFLAG); after = T_UNBND } ∷
    record { worker = 0; act = act.Begin (call.TSnd (record { 0 = 1 }) (codes "x") 0); outcome = Done (Refused TOUTSTATE); after = T_UNBND } ∷
    record { worker = 0; act = act.Begin (call.TSndV (record { 0 = 1 }) ((codes "a") ∷ (codes "b") ∷ (codes "c") ∷ (codes "d") ∷ (codes "e") ∷ (codes "f") ∷ (codes "g") ∷ (codes "h") ∷ (codes "i") ∷ (codes "j") ∷ (codes "k") ∷ (codes "l") ∷ (codes "m") ∷ (codes "n") ∷ (codes "o") ∷ (codes "p") ∷ (codes "q") ∷ []) 0); outcome = Done (Refused TOUTSTATE); after = T_UNBND } ∷
    record { worker = 0; act = act.Begin (call.TOpen Ticots false); outcome = Done (Opened (record { 0 = 2 })); after = T_UNBND } ∷
    record { worker = 0; act = act.Begin (call.TBind (record { 0 = 2 }) (codes "l") 1 64); outcome = Done (Bound (codes "l") 1); after = T_IDLE } ∷
    record { worker = 0; act = act.Begin (call.TOpen Ticots true); outcome = Done (Opened (record { 0 = 3 })); after = T_UNBND } ∷
    record { worker = 0; act = act.Begin (call.TBind (record { 0 = 3 }) [] 0 64); outcome = Done (Bound (codes "#0") 0); after = T_IDLE } ∷
    record { worker = 0; act = act.Begin (call.TConnect (record { 0 = 3 }) (codes "l") [] [] 64 256 64); outcome = Done (Refused TNODATA); after = T_OUTCON } ∷
    record { worker = 0; act = act.Begin (call.TListen (record { 0 = 2 }) 64 256 64); outcome = Done (Listened (record { 0 = 1 }) (codes "#0") [] []); after = T_INCON } ∷
    record { worker = 0; act = act.Begin (call.TOpen Ticots false); outcome = Done (Opened (record { 0 = 4 })); after = T_UNBND } ∷
    record { worker = 0; act = act.Begin (call.TAccept (record { 0 = 2 }) (record { 0 = 4 }) (record { 0 = 1 }) [] []); outcome = Done Plain; after = T_IDLE } ∷
    record { worker = 0; act = act.Begin (call.TRcvConnect (record { 0 = 3 }) 64 256 64); outcome = Done (Connected (codes "l") [] []); after = T_DATAXFER } ∷
    record { worker = 0; act = act.Begin (call.TSndV (record { 0 = 3 }) ((codes "a") ∷ (codes "b") ∷ (codes "c") ∷ (codes "d") ∷ (codes "e") ∷ (codes "f") ∷ (codes "g") ∷ (codes "h") ∷ (codes "i") ∷ (codes "j") ∷ (codes "k") ∷ (codes "l") ∷ (codes "m") ∷ (codes "n") ∷ (codes "o") ∷ (codes "p") ∷ (codes "q") ∷ []) 0); outcome = Done (Refused TBADDATA); after = T_DATAXFER } ∷
    record { worker = 0; act = act.Begin (call.TSndV (record { 0 = 3 }) ((counted 0 65536) ∷ (codes "x") ∷ []) 0); outcome = Done (Refused TBADDATA); after = T_DATAXFER } ∷
    record { worker = 0; act = act.Begin (call.TSnd (record { 0 = 3 }) (codes "123456789") 0); outcome = Done (Refused TBADDATA); after = T_DATAXFER } ∷
    record { worker = 0; act = act.Begin (call.TSndV (record { 0 = 3 }) ((codes "1234") ∷ (codes "56789") ∷ []) 0); outcome = Done (Refused TBADDATA); after = T_DATAXFER } ∷
    record { worker = 0; act = act.Begin (call.TSnd (record { 0 = 3 }) (0 ∷ 1 ∷ 2 ∷ 3 ∷ 4 ∷ 5 ∷ 6 ∷ 7 ∷ 8 ∷ 9 ∷ 10 ∷ 11 ∷ 12 ∷ 13 ∷ 14 ∷ 15 ∷ 16 ∷ 17 ∷ 18 ∷ 19 ∷ 20 ∷ 21 ∷ 22 ∷ 23 ∷ 24 ∷ 25 ∷ 26 ∷ 27 ∷ 28 ∷ 29 ∷ 30 ∷ 31 ∷ 32 ∷ 33 ∷ 34 ∷ 35 ∷ 36 ∷ 37 ∷ 38 ∷ 39 ∷ 40 ∷ 41 ∷ 42 ∷ 43 ∷ 44 ∷ 45 ∷ 46 ∷ 47 ∷ 48 ∷ 49 ∷ 50 ∷ 51 ∷ 52 ∷ 53 ∷ 54 ∷ 55 ∷ 56 ∷ 57 ∷ 58 ∷ 59 ∷ 60 ∷ 61 ∷ 62 ∷ 63 ∷ 64 ∷ 65 ∷ 66 ∷ 67 ∷ 68 ∷ 69 ∷ 70 ∷ 71 ∷ 72 ∷ 73 ∷ 74 ∷ 75 ∷ 76 ∷ 77 ∷ 78 ∷ 79 ∷ 80 ∷ 81 ∷ 82 ∷ 83 ∷ 84 ∷ 85 ∷ 86 ∷ 87 ∷ 88 ∷ 89 ∷ 90 ∷ 91 ∷ 92 ∷ 93 ∷ 94 ∷ 95 ∷ 96 ∷ 97 ∷ 98 ∷ 99 ∷ 100 ∷ 101 ∷ 102 ∷ 103 ∷ 104 ∷ 105 ∷ 106 ∷ 107 ∷ 108 ∷ 109 ∷ 110 ∷ 111 ∷ 112 ∷ 113 ∷ 114 ∷ 115 ∷ 116 ∷ 117 ∷ 118 ∷ 119 ∷ 120 ∷ 121 ∷ 122 ∷ 123 ∷ 124 ∷ 125 ∷ 126 ∷ 127 ∷ 128 ∷ []) 2); outcome = Done (Refused TBADDATA); after = T_DATAXFER } ∷
    record { worker = 0; act = act.Begin (call.TSnd (record { 0 = 3 }) (codes "12345678") 0); outcome = Done (Sent 4); after = T_DATAXFER } ∷
    record { worker = 0; act = act.Begin (call.TSnd (record { 0 = 3 }) (codes "x") 0); outcome = Done (Refused TFLOW); after = T_DATAXFER } ∷
    record { worker = 0; act = act.Begin (call.TSndV (record { 0 = 3 }) ((codes "x") ∷ (codes "y") ∷ []) 0); outcome = Done (Refused TFLOW); after = T_DATAXFER } ∷
    record { worker = 0; act = act.Begin (call.TLookAt (record { 0 = 3 })); outcome = Done (Seen None); after = T_DATAXFER } ∷
    record { worker = 0; act = act.Begin (call.TRcv (record { 0 = 4 }) 9); outcome = Done (Got (codes "1234") 1); after = T_DATAXFER } ∷
    record { worker = 0; act = act.Begin (call.TSnd (record { 0 = 3 }) (codes "9") 1); outcome = Done (Sent 1); after = T_DATAXFER } ∷
    record { worker = 0; act = act.Begin (call.TSnd (record { 0 = 3 }) (codes "12345678") 0); outcome = Done (Refused TBADDATA); after = T_DATAXFER } ∷
    record { worker = 0; act = act.Begin (call.TSndV (record { 0 = 4 }) ((codes "a") ∷ (codes "b") ∷ []) 0); outcome = Done (Sent 2); after = T_DATAXFER } ∷
    record { worker = 0; act = act.Begin (call.TSndDis (record { 0 = 4 }) (record { 0 = 0 }) (codes "bye")); outcome = Done Plain; after = T_IDLE } ∷
    record { worker = 0; act = act.Begin (call.TGetProtAddr (record { 0 = 3 }) 64 64); outcome = Done (Addresses (codes "#0") []); after = T_DATAXFER } ∷
    record { worker = 0; act = act.Begin (call.TLookAt (record { 0 = 3 })); outcome = Done (Seen (Some T_DISCONNECT)); after = T_DATAXFER } ∷
    record { worker = 0; act = act.Begin (call.TSnd (record { 0 = 3 }) (codes "123456789") 0); outcome = Done (Refused TBADDATA); after = T_DATAXFER } ∷
    record { worker = 0; act = act.Begin (call.TSnd (record { 0 = 3 }) (codes "x") 0); outcome = Done (Look T_DISCONNECT); after = T_DATAXFER } ∷
    record { worker = 0; act = act.Begin (call.TSndV (record { 0 = 3 }) ((codes "x") ∷ []) 0); outcome = Done (Look T_DISCONNECT); after = T_DATAXFER } ∷
    record { worker = 0; act = act.Begin (call.TRcvDis (record { 0 = 3 }) 64); outcome = Done (Discon 4 (record { 0 = 0 }) (codes "bye")); after = T_IDLE } ∷
    record { worker = 0; act = act.Begin (call.TOpen Ticots false); outcome = Done (Opened (record { 0 = 5 })); after = T_UNBND } ∷
    record { worker = 0; act = act.Begin (call.TConnect (record { 0 = 3 }) (codes "l") [] [] 64 256 64); outcome = Done (Refused TNODATA); after = T_OUTCON } ∷
    record { worker = 0; act = act.Begin (call.TListen (record { 0 = 2 }) 64 256 64); outcome = Done (Listened (record { 0 = 2 }) (codes "#0") [] []); after = T_INCON } ∷
    record { worker = 0; act = act.Begin (call.TAccept (record { 0 = 2 }) (record { 0 = 5 }) (record { 0 = 2 }) [] []); outcome = Done Plain; after = T_IDLE } ∷
    record { worker = 0; act = act.Begin (call.TRcvConnect (record { 0 = 3 }) 64 256 64); outcome = Done (Connected (codes "l") [] []); after = T_DATAXFER } ∷
    record { worker = 0; act = act.Begin (call.TSnd (record { 0 = 3 }) (codes "12345678") 0); outcome = Done (Sent 4); after = T_DATAXFER } ∷
    record { worker = 0; act = act.Begin (call.TRcv (record { 0 = 5 }) 65536); outcome = Done (Got (codes "1234") 1); after = T_DATAXFER } ∷
    record { worker = 0; act = act.Begin (call.TOpen Ticotsord false); outcome = Done (Opened (record { 0 = 6 })); after = T_UNBND } ∷
    record { worker = 0; act = act.Begin (call.TBind (record { 0 = 6 }) (codes "m") 1 64); outcome = Done (Bound (codes "m") 1); after = T_IDLE } ∷
    record { worker = 0; act = act.Begin (call.TOpen Ticotsord true); outcome = Done (Opened (record { 0 = 7 })); after = T_UNBND } ∷
    record { worker = 0; act = act.Begin (call.TBind (record { 0 = 7 }) [] 0 64); outcome = Done (Bound (codes "#0") 0); after = T_IDLE } ∷
    record { worker = 0; act = act.Begin (call.TConnect (record { 0 = 7 }) (codes "m") [] [] 64 256 64); outcome = Done (Refused TNODATA); after = T_OUTCON } ∷
    record { worker = 0; act = act.Begin (call.TListen (record { 0 = 6 }) 64 256 64); outcome = Done (Listened (record { 0 = 1 }) (codes "#0") [] []); after = T_INCON } ∷
    record { worker = 0; act = act.Begin (call.TOpen Ticotsord false); outcome = Done (Opened (record { 0 = 8 })); after = T_UNBND } ∷
    record { worker = 0; act = act.Begin (call.TAccept (record { 0 = 6 }) (record { 0 = 8 }) (record { 0 = 1 }) [] []); outcome = Done Plain; after = T_IDLE } ∷
    record { worker = 0; act = act.Begin (call.TRcvConnect (record { 0 = 7 }) 64 256 64); outcome = Done (Connected (codes "m") [] []); after = T_DATAXFER } ∷
    record { worker = 0; act = act.Begin (call.TSnd (record { 0 = 7 }) [] 0); outcome = Done (Refused TBADDATA); after = T_DATAXFER } ∷
    record { worker = 0; act = act.Begin (call.TSndV (record { 0 = 7 }) ([] ∷ []) 0); outcome = Done (Refused TBADDATA); after = T_DATAXFER } ∷
    record { worker = 0; act = act.Begin (call.SetMode (record { 0 = 8 }) true); outcome = Done Plain; after = T_DATAXFER } ∷
    record { worker = 0; act = act.Begin (call.TSnd (record { 0 = 8 }) (codes "abcd") 0); outcome = Done (Sent 4); after = T_DATAXFER } ∷
    record { worker = 0; act = act.Begin (call.TSndRel (record { 0 = 7 })); outcome = Done Plain; after = T_OUTREL } ∷
    record { worker = 0; act = act.Begin (call.TSnd (record { 0 = 7 }) (codes "x") 0); outcome = Done (Refused TOUTSTATE); after = T_OUTREL } ∷
    record { worker = 0; act = act.Begin (call.TSnd (record { 0 = 8 }) (codes "x") 0); outcome = Done (Look T_ORDREL); after = T_DATAXFER } ∷
    record { worker = 0; act = act.Begin (call.TSndV (record { 0 = 8 }) ((codes "x") ∷ []) 0); outcome = Done (Look T_ORDREL); after = T_DATAXFER } ∷
    record { worker = 0; act = act.Begin (call.TSnd (record { 0 = 8 }) [] 0); outcome = Done (Refused TBADDATA); after = T_DATAXFER } ∷
    record { worker = 0; act = act.Begin (call.TRcvRel (record { 0 = 8 })); outcome = Done Plain; after = T_INREL } ∷
    record { worker = 0; act = act.Begin (call.TRcv (record { 0 = 7 }) 65536); outcome = Done (Got (codes "abcd") 0); after = T_OUTREL } ∷
    record { worker = 0; act = act.Begin (call.TSnd (record { 0 = 8 }) (codes "on") 0); outcome = Done (Sent 2); after = T_INREL } ∷
    record { worker = 0; act = act.Begin (call.TRcv (record { 0 = 7 }) 65536); outcome = Done (Got (codes "on") 0); after = T_OUTREL } ∷
    []

the_history : robin (record { providers = providers; lines = lines }) ≡ entries
unfolding providers lines entries counted digits opening step plan is_option_list options_within begins_option
the_history = refl
