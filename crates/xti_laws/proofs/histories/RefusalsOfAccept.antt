-- refusals of accept
use Rattle.std.specs.Prelude.{true, false, List, [], ◌∷◌, ◌≡◌, refl, codes}
use Rattle.std.specs.Fmt.{digits}
use Rattle.xti_base.specs.Options.{begins_option, is_option_list, options_within}
use Rattle.xti_base.specs.declared.errno.Errno.TheVariants.{TBADOPT, TBADF, TOUTSTATE, TBADSEQ, TBADDATA, TNODATA, TNOTSUPPORT, TINDOUT, TPROVMISMATCH, TRESQLEN, TRESADDR}
use Rattle.xti_base.specs.declared.kinds.Event.TheVariants.{T_LISTEN, T_DISCONNECT}
use Rattle.xti_base.specs.declared.kinds.Prov.TheVariants.{Ticots, Ticotsord, Ticlts}
use Rattle.xti_base.specs.declared.kinds.State.TheVariants.{T_UNINIT, T_UNBND, T_IDLE, T_OUTCON, T_INCON, T_DATAXFER}
use Rattle.xti_base.specs.declared.limit.Limit.TheVariants.{At}
use Rattle.xti_model.specs.declared.call.Call.TheVariants as call
use Rattle.xti_model.specs.declared.entry.Act.TheVariants as act
use Rattle.xti_model.specs.declared.entry.Entry.{Entry}
use Rattle.xti_model.specs.declared.entry.Outcome.TheVariants.{Done}
use Rattle.xti_model.specs.declared.entry.Reply.TheVariants.{Plain, Opened, Bound, Connected, Listened, Discon, Refused, Look}
use Rattle.xti_model.specs.declared.profile.Providers.{Providers}
use Rattle.xti_model.specs.declared.profile.Version.TheVariants.{One}
use Rattle.xti_model.specs.declared.script.Line.{Line}
use Rattle.xti_model.specs.declared.script.NamedCall.TheVariants as named
use Rattle.xti_model.specs.Robin.{robin}
use Rattle.xti_model.specs.Step.{plan, step}
use Rattle.xti_model.specs.World.{opening}

providers : Providers
providers = record { version = One; ticots = record { tsdu = At 65536; sendzero = true; same_addr = true; sndbuf = 16384; rcvbuf = 16384; reldata = false }; ticotsord = record { tsdu = At 0; sendzero = false; same_addr = false; sndbuf = 16384; rcvbuf = 16384; reldata = false }; ticlts = record { tsdu = At 8192; sendzero = true; same_addr = false; sndbuf = 16384; rcvbuf = 16384; reldata = false } }

lines : List Line
lines =
    record { worker = 0; call = named.TOpen (codes "z") Ticots false } ∷
    record { worker = 0; call = named.TClose (codes "z") } ∷
    record { worker = 0; call = named.TOpen (codes "l") Ticots true } ∷
    record { worker = 0; call = named.TBind (codes "l") (codes "l") 2 64 } ∷
    record { worker = 0; call = named.TOpen (codes "c") Ticots true } ∷
    record { worker = 0; call = named.TBind (codes "c") [] 0 64 } ∷
    record { worker = 0; call = named.TConnect (codes "c") (codes "l") [] [] 64 256 64 } ∷
    record { worker = 0; call = named.TListen (codes "l") (codes "q") 64 256 64 } ∷
    record { worker = 0; call = named.TAccept (codes "z") (codes "l") (codes "q") [] [] } ∷
    record { worker = 0; call = named.TAccept (codes "l") (codes "z") (codes "q") [] [] } ∷
    record { worker = 0; call = named.TOpen (codes "u") Ticlts false } ∷
    record { worker = 0; call = named.TAccept (codes "u") (codes "z") (codes "q") [] [] } ∷
    record { worker = 0; call = named.TAccept (codes "u") (codes "l") (codes "q") [] [] } ∷
    record { worker = 0; call = named.TOpen (codes "r") Ticots true } ∷
    record { worker = 0; call = named.TOpen (codes "o") Ticotsord true } ∷
    record { worker = 0; call = named.TAccept (codes "r") (codes "o") (codes "q") [] [] } ∷
    record { worker = 0; call = named.TBind (codes "o") [] 0 64 } ∷
    record { worker = 0; call = named.TConnect (codes "o") (codes "none") [] [] 64 256 64 } ∷
    record { worker = 0; call = named.TAccept (codes "l") (codes "o") (codes "q") [] [] } ∷
    record { worker = 0; call = named.TListen (codes "l") (codes "p") 64 256 64 } ∷
    record { worker = 0; call = named.TAccept (codes "l") (codes "c") (codes "p") [] [] } ∷
    record { worker = 0; call = named.TOpen (codes "k") Ticots false } ∷
    record { worker = 0; call = named.TBind (codes "k") (codes "k") 1 64 } ∷
    record { worker = 0; call = named.TAccept (codes "l") (codes "k") (codes "p") [] [] } ∷
    record { worker = 0; call = named.TAccept (codes "l") (codes "r") (codes "p") (0 ∷ []) [] } ∷
    record { worker = 0; call = named.TOpen (codes "d") Ticots true } ∷
    record { worker = 0; call = named.TBind (codes "d") [] 0 64 } ∷
    record { worker = 0; call = named.TConnect (codes "d") (codes "l") [] [] 64 256 64 } ∷
    record { worker = 0; call = named.TAccept (codes "l") (codes "r") (codes "q") [] (0 ∷ 1 ∷ 2 ∷ 3 ∷ 4 ∷ 5 ∷ 6 ∷ 7 ∷ 8 ∷ 9 ∷ 10 ∷ 11 ∷ 12 ∷ 13 ∷ 14 ∷ 15 ∷ 16 ∷ 17 ∷ 18 ∷ 19 ∷ 20 ∷ 21 ∷ 22 ∷ 23 ∷ 24 ∷ 25 ∷ 26 ∷ 27 ∷ 28 ∷ 29 ∷ 30 ∷ 31 ∷ 32 ∷ 33 ∷ 34 ∷ 35 ∷ 36 ∷ 37 ∷ 38 ∷ 39 ∷ 40 ∷ 41 ∷ 42 ∷ 43 ∷ 44 ∷ 45 ∷ 46 ∷ 47 ∷ 48 ∷ 49 ∷ 50 ∷ 51 ∷ 52 ∷ 53 ∷ 54 ∷ 55 ∷ 56 ∷ 57 ∷ 58 ∷ 59 ∷ 60 ∷ 61 ∷ 62 ∷ 63 ∷ 64 ∷ []) } ∷
    record { worker = 0; call = named.TAccept (codes "l") (codes "r") (codes "q") [] [] } ∷
    record { worker = 0; call = named.TListen (codes "l") (codes "s") 64 256 64 } ∷
    record { worker = 0; call = named.TAccept (codes "l") (codes "l") (codes "p") [] [] } ∷
    record { worker = 0; call = named.TAccept (codes "l") (codes "l") (codes "q") (0 ∷ []) [] } ∷
    record { worker = 0; call = named.TAccept (codes "l") (codes "k") (codes "q") [] [] } ∷
    record { worker = 0; call = named.TOpen (codes "e") Ticots false } ∷
    record { worker = 0; call = named.TBind (codes "e") (codes "e") 0 64 } ∷
    record { worker = 0; call = named.TAccept (codes "l") (codes "e") (codes "q") (0 ∷ []) [] } ∷
    record { worker = 0; call = named.TAccept (codes "l") (codes "r") (codes "q") (0 ∷ []) (0 ∷ 1 ∷ 2 ∷ 3 ∷ 4 ∷ 5 ∷ 6 ∷ 7 ∷ 8 ∷ 9 ∷ 10 ∷ 11 ∷ 12 ∷ 13 ∷ 14 ∷ 15 ∷ 16 ∷ 17 ∷ 18 ∷ 19 ∷ 20 ∷ 21 ∷ 22 ∷ 23 ∷ 24 ∷ 25 ∷ 26 ∷ 27 ∷ 28 ∷ 29 ∷ 30 ∷ 31 ∷ 32 ∷ 33 ∷ 34 ∷ 35 ∷ 36 ∷ 37 ∷ 38 ∷ 39 ∷ 40 ∷ 41 ∷ 42 ∷ 43 ∷ 44 ∷ 45 ∷ 46 ∷ 47 ∷ 48 ∷ 49 ∷ 50 ∷ 51 ∷ 52 ∷ 53 ∷ 54 ∷ 55 ∷ 56 ∷ 57 ∷ 58 ∷ 59 ∷ 60 ∷ 61 ∷ 62 ∷ 63 ∷ 64 ∷ []) } ∷
    record { worker = 0; call = named.TClose (codes "c") } ∷
    record { worker = 0; call = named.TAccept (codes "l") (codes "r") (codes "s") [] [] } ∷
    record { worker = 0; call = named.TRcvDis (codes "l") 64 } ∷
    record { worker = 0; call = named.TAccept (codes "l") (codes "l") (codes "s") [] [] } ∷
    record { worker = 0; call = named.TRcvConnect (codes "d") 64 256 64 } ∷
    []

entries : List Entry
entries =
    record { worker = 0; act = act.Begin (call.TOpen Ticots false); outcome = Done (Opened (record { 0 = 0 })); after = T_UNBND } ∷
    record { worker = 0; act = act.Begin (call.TClose (record { 0 = 0 })); outcome = Done Plain; after = T_UNINIT } ∷
    record { worker = 0; act = act.Begin (call.TOpen Ticots true); outcome = Done (Opened (record { 0 = 64 })); after = T_UNBND } ∷
    record { worker = 0; act = act.Begin (call.TBind (record { 0 = 64 }) (codes "l") 2 64); outcome = Done (Bound (codes "l") 2); after = T_IDLE } ∷
    record { worker = 0; act = act.Begin (call.TOpen Ticots true); outcome = Done (Opened (record { 0 = 1 })); after = T_UNBND } ∷
    record { worker = 0; act = act.Begin (call.TBind (record { 0 = 1 }) [] 0 64); outcome = Done (Bound (codes "#0") 0); after = T_IDLE } ∷
    record { worker = 0; act = act.Begin (call.TConnect (record { 0 = 1 }) (codes "l") [] [] 64 256 64); outcome = Done (Refused TNODATA); after = T_OUTCON } ∷
    record { worker = 0; act = act.Begin (call.TListen (record { 0 = 64 }) 64 256 64); outcome = Done (Listened (record { 0 = 1 }) (codes "#0") [] []); after = T_INCON } ∷
    record { worker = 0; act = act.Begin (call.TAccept (record { 0 = 0 }) (record { 0 = 64 }) (record { 0 = 1 }) [] []); outcome = Done (Refused TBADF); after = T_UNINIT } ∷
    record { worker = 0; act = act.Begin (call.TAccept (record { 0 = 64 }) (record { 0 = 0 }) (record { 0 = 1 }) [] []); outcome = Done (Refused TBADF); after = T_INCON } ∷
    record { worker = 0; act = act.Begin (call.TOpen Ticlts false); outcome = Done (Opened (record { 0 = 2 })); after = T_UNBND } ∷
    record { worker = 0; act = act.Begin (call.TAccept (record { 0 = 2 }) (record { 0 = 0 }) (record { 0 = 1 }) [] []); outcome = Done (Refused TBADF); after = T_UNBND } ∷
    record { worker = 0; act = act.Begin (call.TAccept (record { 0 = 2 }) (record { 0 = 64 }) (record { 0 = 1 }) [] []); outcome = Done (Refused TNOTSUPPORT); after = T_UNBND } ∷
    record { worker = 0; act = act.Begin (call.TOpen Ticots true); outcome = Done (Opened (record { 0 = 3 })); after = T_UNBND } ∷
    record { worker = 0; act = act.Begin (call.TOpen Ticotsord true); outcome = Done (Opened (record { 0 = 4 })); after = T_UNBND } ∷
    record { worker = 0; act = act.Begin (call.TAccept (record { 0 = 3 }) (record { 0 = 4 }) (record { 0 = 1 }) [] []); outcome = Done (Refused TOUTSTATE); after = T_UNBND } ∷
    record { worker = 0; act = act.Begin (call.TBind (record { 0 = 4 }) [] 0 64); outcome = Done (Bound (codes "#0") 0); after = T_IDLE } ∷
    record { worker = 0; act = act.Begin (call.TConnect (record { 0 = 4 }) (codes "none") [] [] 64 256 64); outcome = Done (Refused TNODATA); after = T_OUTCON } ∷
    record { worker = 0; act = act.Begin (call.TAccept (record { 0 = 64 }) (record { 0 = 4 }) (record { 0 = 1 }) [] []); outcome = Done (Refused TPROVMISMATCH); after = T_INCON } ∷
    record { worker = 0; act = act.Begin (call.TListen (record { 0 = 64 }) 64 256 64); outcome = Done (Refused TNODATA); after = T_INCON } ∷
    record { worker = 0; act = act.Begin (call.TAccept (record { 0 = 64 }) (record { 0 = 1 }) (record { 0 = 0 }) [] []); outcome = Done (Refused TOUTSTATE); after = T_INCON } ∷
    record { worker = 0; act = act.Begin (call.TOpen Ticots false); outcome = Done (Opened (record { 0 = 5 })); after = T_UNBND } ∷
    record { worker = 0; act = act.Begin (call.TBind (record { 0 = 5 }) (codes "k") 1 64); outcome = Done (Bound (codes "k") 1); after = T_IDLE } ∷
    record { worker = 0; act = act.Begin (call.TAccept (record { 0 = 64 }) (record { 0 = 5 }) (record { 0 = 0 }) [] []); outcome = Done (Refused TBADSEQ); after = T_INCON } ∷
    record { worker = 0; act = act.Begin (call.TAccept (record { 0 = 64 }) (record { 0 = 3 }) (record { 0 = 0 }) (0 ∷ []) []); outcome = Done (Refused TBADSEQ); after = T_INCON } ∷
    record { worker = 0; act = act.Begin (call.TOpen Ticots true); outcome = Done (Opened (record { 0 = 6 })); after = T_UNBND } ∷
    record { worker = 0; act = act.Begin (call.TBind (record { 0 = 6 }) [] 0 64); outcome = Done (Bound (codes "#1") 0); after = T_IDLE } ∷
    record { worker = 0; act = act.Begin (call.TConnect (record { 0 = 6 }) (codes "l") [] [] 64 256 64); outcome = Done (Refused TNODATA); after = T_OUTCON } ∷
    record { worker = 0; act = act.Begin (call.TAccept (record { 0 = 64 }) (record { 0 = 3 }) (record { 0 = 1 }) [] (0 ∷ 1 ∷ 2 ∷ 3 ∷ 4 ∷ 5 ∷ 6 ∷ 7 ∷ 8 ∷ 9 ∷ 10 ∷ 11 ∷ 12 ∷ 13 ∷ 14 ∷ 15 ∷ 16 ∷ 17 ∷ 18 ∷ 19 ∷ 20 ∷ 21 ∷ 22 ∷ 23 ∷ 24 ∷ 25 ∷ 26 ∷ 27 ∷ 28 ∷ 29 ∷ 30 ∷ 31 ∷ 32 ∷ 33 ∷ 34 ∷ 35 ∷ 36 ∷ 37 ∷ 38 ∷ 39 ∷ 40 ∷ 41 ∷ 42 ∷ 43 ∷ 44 ∷ 45 ∷ 46 ∷ 47 ∷ 48 ∷ 49 ∷ 50 ∷ 51 ∷ 52 ∷ 53 ∷ 54 ∷ 55 ∷ 56 ∷ 57 ∷ 58 ∷ 59 ∷ 60 ∷ 61 ∷ 62 ∷ 63 ∷ 64 ∷ [])); outcome = Done (Refused TBADDATA); after = T_INCON } ∷
    record { worker = 0; act = act.Begin (call.TAccept (record { 0 = 64 }) (record { 0 = 3 }) (record { 0 = 1 }) [] []); outcome = Done (Look T_LISTEN); after = T_INCON } ∷
    record { worker = 0; act = act.Begin (call.TListen (record { 0 = 64 }) 64 256 64); outcome = Done (Listened (record { 0 = 2 }) (codes "#1") [] []); after = T_INCON } ∷
    record { worker = 0; act = act.Begin (call.TAccept (record { 0 = 64 }) (record { 0 = 64 }) (record { 0 = 0 }) [] []); outcome = Done (Refused TBADSEQ); after = T_INCON } ∷
    record { worker = 0; act = act.Begin (call.TAccept (record { 0 = 64 }) (record { 0 = 64 }) (record { 0 = 1 }) (0 ∷ []) []); outcome = Done (Refused TINDOUT); after = T_INCON } ∷
    record { worker = 0; act = act.Begin (call.TAccept (record { 0 = 64 }) (record { 0 = 5 }) (record { 0 = 1 }) [] []); outcome = Done (Refused TRESQLEN); after = T_INCON } ∷
    record { worker = 0; act = act.Begin (call.TOpen Ticots false); outcome = Done (Opened (record { 0 = 7 })); after = T_UNBND } ∷
    record { worker = 0; act = act.Begin (call.TBind (record { 0 = 7 }) (codes "e") 0 64); outcome = Done (Bound (codes "e") 0); after = T_IDLE } ∷
    record { worker = 0; act = act.Begin (call.TAccept (record { 0 = 64 }) (record { 0 = 7 }) (record { 0 = 1 }) (0 ∷ []) []); outcome = Done (Refused TRESADDR); after = T_INCON } ∷
    record { worker = 0; act = act.Begin (call.TAccept (record { 0 = 64 }) (record { 0 = 3 }) (record { 0 = 1 }) (0 ∷ []) (0 ∷ 1 ∷ 2 ∷ 3 ∷ 4 ∷ 5 ∷ 6 ∷ 7 ∷ 8 ∷ 9 ∷ 10 ∷ 11 ∷ 12 ∷ 13 ∷ 14 ∷ 15 ∷ 16 ∷ 17 ∷ 18 ∷ 19 ∷ 20 ∷ 21 ∷ 22 ∷ 23 ∷ 24 ∷ 25 ∷ 26 ∷ 27 ∷ 28 ∷ 29 ∷ 30 ∷ 31 ∷ 32 ∷ 33 ∷ 34 ∷ 35 ∷ 36 ∷ 37 ∷ 38 ∷ 39 ∷ 40 ∷ 41 ∷ 42 ∷ 43 ∷ 44 ∷ 45 ∷ 46 ∷ 47 ∷ 48 ∷ 49 ∷ 50 ∷ 51 ∷ 52 ∷ 53 ∷ 54 ∷ 55 ∷ 56 ∷ 57 ∷ 58 ∷ 59 ∷ 60 ∷ 61 ∷ 62 ∷ 63 ∷ 64 ∷ [])); outcome = Done (Refused TBADOPT); after = T_INCON } ∷
    record { worker = 0; act = act.Begin (call.TClose (record { 0 = 1 })); outcome = Done Plain; after = T_UNINIT } ∷
    record { worker = 0; act = act.Begin (call.TAccept (record { 0 = 64 }) (record { 0 = 3 }) (record { 0 = 2 }) [] []); outcome = Done (Look T_DISCONNECT); after = T_INCON } ∷
    record { worker = 0; act = act.Begin (call.TRcvDis (record { 0 = 64 }) 64); outcome = Done (Discon 5 (record { 0 = 1 }) []); after = T_INCON } ∷
    record { worker = 0; act = act.Begin (call.TAccept (record { 0 = 64 }) (record { 0 = 64 }) (record { 0 = 2 }) [] []); outcome = Done Plain; after = T_DATAXFER } ∷
    record { worker = 0; act = act.Begin (call.TRcvConnect (record { 0 = 6 }) 64 256 64); outcome = Done (Connected (codes "l") [] []); after = T_DATAXFER } ∷
    []

the_history : robin (record { providers = providers; lines = lines }) ≡ entries
unfolding providers lines entries digits opening step plan is_option_list options_within begins_option
the_history = refl
