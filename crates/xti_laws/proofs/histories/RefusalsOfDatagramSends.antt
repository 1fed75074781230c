-- refusals of datagram sends
use Rattle.std.specs.Prelude.{true, false, List, [], ◌∷◌, ◌≡◌, refl, codes, Some}
use Rattle.std.specs.Fmt.{digits}
use Rattle.xti_base.specs.Options.{begins_option, is_option_list, options_within}
use Rattle.xti_base.specs.declared.errno.Errno.TheVariants.{TBADADDR, TBADOPT, TBADF, TOUTSTATE, TBADDATA, TFLOW, TNOTSUPPORT}
use Rattle.xti_base.specs.declared.kinds.Event.TheVariants.{T_DATA, T_UDERR}
use Rattle.xti_base.specs.declared.kinds.Prov.TheVariants.{Ticots, Ticlts}
use Rattle.xti_base.specs.declared.kinds.State.TheVariants.{T_UNINIT, T_UNBND, T_IDLE}
use Rattle.xti_base.specs.declared.limit.Limit.TheVariants.{At}
use Rattle.xti_model.specs.declared.call.Call.TheVariants as call
use Rattle.xti_model.specs.declared.entry.Act.TheVariants as act
use Rattle.xti_model.specs.declared.entry.Entry.{Entry}
use Rattle.xti_model.specs.declared.entry.Outcome.TheVariants.{Done}
use Rattle.xti_model.specs.declared.entry.Reply.TheVariants.{Plain, Opened, Bound, UData, UDErr, Seen, Refused, Look}
use Rattle.xti_model.specs.declared.profile.Providers.{Providers}
use Rattle.xti_model.specs.declared.profile.Version.TheVariants.{One}
use Rattle.xti_model.specs.declared.script.Line.{Line}
use Rattle.xti_model.specs.declared.script.NamedCall.TheVariants as named
use Rattle.xti_model.specs.Robin.{robin}
use Rattle.xti_model.specs.Step.{plan, step}
use Rattle.xti_model.specs.World.{opening}

providers : Providers
providers = record { version = One; ticots = record { tsdu = At 65536; sendzero = true; same_addr = false; sndbuf = 16384; rcvbuf = 16384; reldata = false }; ticotsord = record { tsdu = At 0; sendzero = false; same_addr = false; sndbuf = 16384; rcvbuf = 16384; reldata = false }; ticlts = record { tsdu = At 4; sendzero = false; same_addr = false; sndbuf = 16384; rcvbuf = 16384; reldata = false } }

lines : List Line
lines =
    record { worker = 0; call = named.TOpen (codes "z") Ticlts false } ∷
    record { worker = 0; call = named.TClose (codes "z") } ∷
    record { worker = 0; call = named.TSndUData (codes "z") (codes "a") [] (codes "x") } ∷
    record { worker = 0; call = named.TSndVUData (codes "z") (codes "a") [] ((codes "x") ∷ []) } ∷
    record { worker = 0; call = named.TOpen (codes "t") Ticots false } ∷
    record { worker = 0; call = named.TSndUData (codes "t") (codes "a") [] (codes "x") } ∷
    record { worker = 0; call = named.TSndVUData (codes "t") (codes "a") [] ((codes "x") ∷ []) } ∷
    record { worker = 0; call = named.TOpen (codes "a") Ticlts true } ∷
    record { worker = 0; call = named.TSndUData (codes "a") [] (0 ∷ []) [] } ∷
    record { worker = 0; call = named.TSndVUData (codes "a") [] (0 ∷ []) ([] ∷ []) } ∷
    record { worker = 0; call = named.TBind (codes "a") (codes "a") 0 64 } ∷
    record { worker = 0; call = named.TSndUData (codes "a") [] (0 ∷ []) [] } ∷
    record { worker = 0; call = named.TSndVUData (codes "a") (0 ∷ 1 ∷ 2 ∷ 3 ∷ 4 ∷ 5 ∷ 6 ∷ 7 ∷ 8 ∷ 9 ∷ 10 ∷ 11 ∷ 12 ∷ 13 ∷ 14 ∷ 15 ∷ 16 ∷ 17 ∷ 18 ∷ 19 ∷ 20 ∷ 21 ∷ 22 ∷ 23 ∷ 24 ∷ 25 ∷ 26 ∷ 27 ∷ 28 ∷ 29 ∷ 30 ∷ 31 ∷ 32 ∷ 33 ∷ 34 ∷ 35 ∷ 36 ∷ 37 ∷ 38 ∷ 39 ∷ 40 ∷ 41 ∷ 42 ∷ 43 ∷ 44 ∷ 45 ∷ 46 ∷ 47 ∷ 48 ∷ 49 ∷ 50 ∷ 51 ∷ 52 ∷ 53 ∷ 54 ∷ 55 ∷ 56 ∷ 57 ∷ 58 ∷ 59 ∷ 60 ∷ 61 ∷ 62 ∷ 63 ∷ 64 ∷ []) (0 ∷ []) ([] ∷ []) } ∷
    record { worker = 0; call = named.TSndUData (codes "a") (codes "a") (0 ∷ []) (codes "12345") } ∷
    record { worker = 0; call = named.TSndVUData (codes "a") (codes "a") (0 ∷ []) ((codes "12345") ∷ []) } ∷
    record { worker = 0; call = named.TSndVUData (codes "a") (codes "a") [] ((codes "a") ∷ (codes "b") ∷ (codes "c") ∷ (codes "d") ∷ (codes "e") ∷ (codes "f") ∷ (codes "g") ∷ (codes "h") ∷ (codes "i") ∷ (codes "j") ∷ (codes "k") ∷ (codes "l") ∷ (codes "m") ∷ (codes "n") ∷ (codes "o") ∷ (codes "p") ∷ (codes "q") ∷ []) } ∷
    record { worker = 0; call = named.TSndUData (codes "a") (codes "a") [] (codes "12345") } ∷
    record { worker = 0; call = named.TSndVUData (codes "a") (codes "a") [] ((codes "123") ∷ (codes "45") ∷ []) } ∷
    record { worker = 0; call = named.TSndUData (codes "a") (codes "a") [] [] } ∷
    record { worker = 0; call = named.TSndVUData (codes "a") (codes "a") [] ([] ∷ []) } ∷
    record { worker = 0; call = named.TSndUData (codes "a") (codes "nobody") [] (codes "x") } ∷
    record { worker = 0; call = named.TSndUData (codes "a") (codes "a") [] (codes "12345") } ∷
    record { worker = 0; call = named.TSndUData (codes "a") (codes "a") [] (codes "x") } ∷
    record { worker = 0; call = named.TSndVUData (codes "a") (codes "a") [] ((codes "x") ∷ []) } ∷
    record { worker = 0; call = named.TRcvUDErr (codes "a") 64 256 } ∷
    record { worker = 0; call = named.TSndUData (codes "a") (codes "a") [] (codes "0") } ∷
    record { worker = 0; call = named.TSndUData (codes "a") (codes "a") [] (codes "1") } ∷
    record { worker = 0; call = named.TSndUData (codes "a") (codes "a") [] (codes "2") } ∷
    record { worker = 0; call = named.TSndUData (codes "a") (codes "a") [] (codes "3") } ∷
    record { worker = 0; call = named.TSndUData (codes "a") (codes "a") [] (codes "4") } ∷
    record { worker = 0; call = named.TSndUData (codes "a") (codes "a") [] (codes "5") } ∷
    record { worker = 0; call = named.TSndUData (codes "a") (codes "a") [] (codes "6") } ∷
    record { worker = 0; call = named.TSndUData (codes "a") (codes "a") [] (codes "7") } ∷
    record { worker = 0; call = named.TSndUData (codes "a") (codes "a") [] (codes "8") } ∷
    record { worker = 0; call = named.TSndUData (codes "a") (codes "a") [] (codes "9") } ∷
    record { worker = 0; call = named.TSndUData (codes "a") (codes "a") [] (codes "10") } ∷
    record { worker = 0; call = named.TSndUData (codes "a") (codes "a") [] (codes "11") } ∷
    record { worker = 0; call = named.TSndUData (codes "a") (codes "a") [] (codes "12") } ∷
    record { worker = 0; call = named.TSndUData (codes "a") (codes "a") [] (codes "13") } ∷
    record { worker = 0; call = named.TSndUData (codes "a") (codes "a") [] (codes "14") } ∷
    record { worker = 0; call = named.TSndUData (codes "a") (codes "a") [] (codes "15") } ∷
    record { worker = 0; call = named.TSndUData (codes "a") (codes "a") [] (codes "x") } ∷
    record { worker = 0; call = named.TSndVUData (codes "a") (codes "a") [] ((codes "x") ∷ []) } ∷
    record { worker = 0; call = named.TSndUData (codes "a") (codes "nobody") [] (codes "y") } ∷
    record { worker = 0; call = named.TSndUData (codes "a") (codes "a") [] (codes "x") } ∷
    record { worker = 0; call = named.TRcvUDErr (codes "a") 64 256 } ∷
    record { worker = 0; call = named.TLookAt (codes "a") } ∷
    record { worker = 0; call = named.TSndUData (codes "a") (codes "a") [] (codes "x") } ∷
    record { worker = 0; call = named.TRcvUData (codes "a") 65536 64 256 } ∷
    record { worker = 0; call = named.TLookAt (codes "a") } ∷
    record { worker = 0; call = named.TLookAt (codes "a") } ∷
    record { worker = 0; call = named.TSndVUData (codes "a") (codes "a") [] ((codes "1") ∷ (codes "2") ∷ []) } ∷
    []

entries : List Entry
entries =
    record { worker = 0; act = act.Begin (call.TOpen Ticlts false); outcome = Done (Opened (record { 0 = 0 })); after = T_UNBND } ∷
    record { worker = 0; act = act.Begin (call.TClose (record { 0 = 0 })); outcome = Done Plain; after = T_UNINIT } ∷
    record { worker = 0; act = act.Begin (call.TSndUData (record { 0 = 0 }) (codes "a") [] (codes "x")); outcome = Done (Refused TBADF); after = T_UNINIT } ∷
    record { worker = 0; act = act.Begin (call.TSndVUData (record { 0 = 0 }) (codes "a") [] ((codes "x") ∷ [])); outcome = Done (Refused TBADF); after = T_UNINIT } ∷
    record { worker = 0; act = act.Begin (call.TOpen Ticots false); outcome = Done (Opened (record { 0 = 64 })); after = T_UNBND } ∷
    record { worker = 0; act = act.Begin (call.TSndUData (record { 0 = 64 }) (codes "a") [] (codes "x")); outcome = Done (Refused TNOTSUPPORT); after = T_UNBND } ∷
    record { worker = 0; act = act.Begin (call.TSndVUData (record { 0 = 64 }) (codes "a") [] ((codes "x") ∷ [])); outcome = Done (Refused TNOTSUPPORT); after = T_UNBND } ∷
    record { worker = 0; act = act.Begin (call.TOpen Ticlts true); outcome = Done (Opened (record { 0 = 1 })); after = T_UNBND } ∷
    record { worker = 0; act = act.Begin (call.TSndUData (record { 0 = 1 }) [] (0 ∷ []) []); outcome = Done (Refused TOUTSTATE); after = T_UNBND } ∷
    record { worker = 0; act = act.Begin (call.TSndVUData (record { 0 = 1 }) [] (0 ∷ []) ([] ∷ [])); outcome = Done (Refused TOUTSTATE); after = T_UNBND } ∷
    record { worker = 0; act = act.Begin (call.TBind (record { 0 = 1 }) (codes "a") 0 64); outcome = Done (Bound (codes "a") 0); after = T_IDLE } ∷
    record { worker = 0; act = act.Begin (call.TSndUData (record { 0 = 1 }) [] (0 ∷ []) []); outcome = Done (Refused TBADADDR); after = T_IDLE } ∷
    record { worker = 0; act = act.Begin (call.TSndVUData (record { 0 = 1 }) (0 ∷ 1 ∷ 2 ∷ 3 ∷ 4 ∷ 5 ∷ 6 ∷ 7 ∷ 8 ∷ 9 ∷ 10 ∷ 11 ∷ 12 ∷ 13 ∷ 14 ∷ 15 ∷ 16 ∷ 17 ∷ 18 ∷ 19 ∷ 20 ∷ 21 ∷ 22 ∷ 23 ∷ 24 ∷ 25 ∷ 26 ∷ 27 ∷ 28 ∷ 29 ∷ 30 ∷ 31 ∷ 32 ∷ 33 ∷ 34 ∷ 35 ∷ 36 ∷ 37 ∷ 38 ∷ 39 ∷ 40 ∷ 41 ∷ 42 ∷ 43 ∷ 44 ∷ 45 ∷ 46 ∷ 47 ∷ 48 ∷ 49 ∷ 50 ∷ 51 ∷ 52 ∷ 53 ∷ 54 ∷ 55 ∷ 56 ∷ 57 ∷ 58 ∷ 59 ∷ 60 ∷ 61 ∷ 62 ∷ 63 ∷ 64 ∷ []) (0 ∷ []) ([] ∷ [])); outcome = Done (Refused TBADADDR); after = T_IDLE } ∷
    record { worker = 0; act = act.Begin (call.TSndUData (record { 0 = 1 }) (codes "a") (0 ∷ []) (codes "12345")); outcome = Done (Refused TBADOPT); after = T_IDLE } ∷
    record { worker = 0; act = act.Begin (call.TSndVUData (record { 0 = 1 }) (codes "a") (0 ∷ []) ((codes "12345") ∷ [])); outcome = Done (Refused TBADOPT); after = T_IDLE } ∷
    record { worker = 0; act = act.Begin (call.TSndVUData (record { 0 = 1 }) (codes "a") [] ((codes "a") ∷ (codes "b") ∷ (codes "c") ∷ (codes "d") ∷ (codes "e") ∷ (codes "f") ∷ (codes "g") ∷ (codes "h") ∷ (codes "i") ∷ (codes "j") ∷ (codes "k") ∷ (codes "l") ∷ (codes "m") ∷ (codes "n") ∷ (codes "o") ∷ (codes "p") ∷ (codes "q") ∷ [])); outcome = Done (Refused TBADDATA); after = T_IDLE } ∷
    record { worker = 0; act = act.Begin (call.TSndUData (record { 0 = 1 }) (codes "a") [] (codes "12345")); outcome = Done (Refused TBADDATA); after = T_IDLE } ∷
    record { worker = 0; act = act.Begin (call.TSndVUData (record { 0 = 1 }) (codes "a") [] ((codes "123") ∷ (codes "45") ∷ [])); outcome = Done (Refused TBADDATA); after = T_IDLE } ∷
    record { worker = 0; act = act.Begin (call.TSndUData (record { 0 = 1 }) (codes "a") [] []); outcome = Done (Refused TBADDATA); after = T_IDLE } ∷
    record { worker = 0; act = act.Begin (call.TSndVUData (record { 0 = 1 }) (codes "a") [] ([] ∷ [])); outcome = Done (Refused TBADDATA); after = T_IDLE } ∷
    record { worker = 0; act = act.Begin (call.TSndUData (record { 0 = 1 }) (codes "nobody") [] (codes "x")); outcome = Done Plain; after = T_IDLE } ∷
    record { worker = 0; act = act.Begin (call.TSndUData (record { 0 = 1 }) (codes "a") [] (codes "12345")); outcome = Done (Refused TBADDATA); after = T_IDLE } ∷
    record { worker = 0; act = act.Begin (call.TSndUData (record { 0 = 1 }) (codes "a") [] (codes "x")); outcome = Done (Look T_UDERR); after = T_IDLE } ∷
    record { worker = 0; act = act.Begin (call.TSndVUData (record { 0 = 1 }) (codes "a") [] ((codes "x") ∷ [])); outcome = Done (Look T_UDERR); after = T_IDLE } ∷
    record { worker = 0; act = act.Begin (call.TRcvUDErr (record { 0 = 1 }) 64 256); outcome = Done (UDErr (codes "nobody") [] 1); after = T_IDLE } ∷
    record { worker = 0; act = act.Begin (call.TSndUData (record { 0 = 1 }) (codes "a") [] (codes "0")); outcome = Done Plain; after = T_IDLE } ∷
    record { worker = 0; act = act.Begin (call.TSndUData (record { 0 = 1 }) (codes "a") [] (codes "1")); outcome = Done Plain; after = T_IDLE } ∷
    record { worker = 0; act = act.Begin (call.TSndUData (record { 0 = 1 }) (codes "a") [] (codes "2")); outcome = Done Plain; after = T_IDLE } ∷
    record { worker = 0; act = act.Begin (call.TSndUData (record { 0 = 1 }) (codes "a") [] (codes "3")); outcome = Done Plain; after = T_IDLE } ∷
    record { worker = 0; act = act.Begin (call.TSndUData (record { 0 = 1 }) (codes "a") [] (codes "4")); outcome = Done Plain; after = T_IDLE } ∷
    record { worker = 0; act = act.Begin (call.TSndUData (record { 0 = 1 }) (codes "a") [] (codes "5")); outcome = Done Plain; after = T_IDLE } ∷
    record { worker = 0; act = act.Begin (call.TSndUData (record { 0 = 1 }) (codes "a") [] (codes "6")); outcome = Done Plain; after = T_IDLE } ∷
    record { worker = 0; act = act.Begin (call.TSndUData (record { 0 = 1 }) (codes "a") [] (codes "7")); outcome = Done Plain; after = T_IDLE } ∷
    record { worker = 0; act = act.Begin (call.TSndUData (record { 0 = 1 }) (codes "a") [] (codes "8")); outcome = Done Plain; after = T_IDLE } ∷
    record { worker = 0; act = act.Begin (call.TSndUData (record { 0 = 1 }) (codes "a") [] (codes "9")); outcome = Done Plain; after = T_IDLE } ∷
    record { worker = 0; act = act.Begin (call.TSndUData (record { 0 = 1 }) (codes "a") [] (codes "10")); outcome = Done Plain; after = T_IDLE } ∷
    record { worker = 0; act = act.Begin (call.TSndUData (record { 0 = 1 }) (codes "a") [] (codes "11")); outcome = Done Plain; after = T_IDLE } ∷
    record { worker = 0; act = act.Begin (call.TSndUData (record { 0 = 1 }) (codes "a") [] (codes "12")); outcome = Done Plain; after = T_IDLE } ∷
    record { worker = 0; act = act.Begin (call.TSndUData (record { 0 = 1 }) (codes "a") [] (codes "13")); outcome = Done Plain; after = T_IDLE } ∷
    record { worker = 0; act = act.Begin (call.TSndUData (record { 0 = 1 }) (codes "a") [] (codes "14")); outcome = Done Plain; after = T_IDLE } ∷
    record { worker = 0; act = act.Begin (call.TSndUData (record { 0 = 1 }) (codes "a") [] (codes "15")); outcome = Done Plain; after = T_IDLE } ∷
    record { worker = 0; act = act.Begin (call.TSndUData (record { 0 = 1 }) (codes "a") [] (codes "x")); outcome = Done (Refused TFLOW); after = T_IDLE } ∷
    record { worker = 0; act = act.Begin (call.TSndVUData (record { 0 = 1 }) (codes "a") [] ((codes "x") ∷ [])); outcome = Done (Refused TFLOW); after = T_IDLE } ∷
    record { worker = 0; act = act.Begin (call.TSndUData (record { 0 = 1 }) (codes "nobody") [] (codes "y")); outcome = Done Plain; after = T_IDLE } ∷
    record { worker = 0; act = act.Begin (call.TSndUData (record { 0 = 1 }) (codes "a") [] (codes "x")); outcome = Done (Look T_UDERR); after = T_IDLE } ∷
    record { worker = 0; act = act.Begin (call.TRcvUDErr (record { 0 = 1 }) 64 256); outcome = Done (UDErr (codes "nobody") [] 1); after = T_IDLE } ∷
    record { worker = 0; act = act.Begin (call.TLookAt (record { 0 = 1 })); outcome = Done (Seen (Some T_DATA)); after = T_IDLE } ∷
    record { worker = 0; act = act.Begin (call.TSndUData (record { 0 = 1 }) (codes "a") [] (codes "x")); outcome = Done (Refused TFLOW); after = T_IDLE } ∷
    record { worker = 0; act = act.Begin (call.TRcvUData (record { 0 = 1 }) 65536 64 256); outcome = Done (UData (codes "a") [] (codes "0") 0); after = T_IDLE } ∷
    record { worker = 0; act = act.Begin (call.TLookAt (record { 0 = 1 })); outcome = Done (Seen (Some T_DATA)); after = T_IDLE } ∷
    record { worker = 0; act = act.Begin (call.TLookAt (record { 0 = 1 })); outcome = Done (Seen (Some T_DATA)); after = T_IDLE } ∷
    record { worker = 0; act = act.Begin (call.TSndVUData (record { 0 = 1 }) (codes "a") [] ((codes "1") ∷ (codes "2") ∷ [])); outcome = Done Plain; after = T_IDLE } ∷
    []

the_history : robin (record { providers = providers; lines = lines }) ≡ entries
unfolding providers lines entries digits opening step plan is_option_list options_within begins_option
the_history = refl
