-- more endpoints than places
use Rattle.std.specs.Prelude.{true, false, List, [], ◌∷◌, ◌≡◌, refl, codes}
use Rattle.std.specs.Fmt.{digits}
use Rattle.xti_base.specs.Options.{begins_option, is_option_list, options_within}
use Rattle.xti_base.specs.declared.errno.Errno.TheVariants.{TBADF, TSYSERR, TBADNAME}
use Rattle.xti_base.specs.declared.kinds.Prov.TheVariants.{Ticlts, Other}
use Rattle.xti_base.specs.declared.kinds.State.TheVariants.{T_UNINIT, T_UNBND}
use Rattle.xti_base.specs.declared.limit.Limit.TheVariants.{At}
use Rattle.xti_model.specs.declared.call.Call.TheVariants as call
use Rattle.xti_model.specs.declared.entry.Act.TheVariants as act
use Rattle.xti_model.specs.declared.entry.Entry.{Entry}
use Rattle.xti_model.specs.declared.entry.Outcome.TheVariants.{Done}
use Rattle.xti_model.specs.declared.entry.Reply.TheVariants.{Plain, Opened, Refused}
use Rattle.xti_model.specs.declared.profile.Providers.{Providers}
use Rattle.xti_model.specs.declared.profile.Version.TheVariants.{One}
use Rattle.xti_model.specs.declared.script.Line.{Line}
use Rattle.xti_model.specs.declared.script.NamedCall.TheVariants as named
use Rattle.xti_model.specs.Robin.{robin}
use Rattle.xti_model.specs.Step.{plan, step}
use Rattle.xti_model.specs.World.{opening}

providers : Providers
providers = record { version = One; ticots = record { tsdu = At 65536; sendzero = true; same_addr = false; sndbuf = 16384; rcvbuf = 16384; reldata = false }; ticotsord = record { tsdu = At 0; sendzero = false; same_addr = false; sndbuf = 16384; rcvbuf = 16384; reldata = false }; ticlts = record { tsdu = At 8192; sendzero = true; same_addr = false; sndbuf = 16384; rcvbuf = 16384; reldata = false } }

lines : List Line
lines =
    record { worker = 0; call = named.TOpen (codes "e0") Ticlts false } ∷
    record { worker = 0; call = named.TOpen (codes "e1") Ticlts false } ∷
    record { worker = 0; call = named.TOpen (codes "e2") Ticlts false } ∷
    record { worker = 0; call = named.TOpen (codes "e3") Ticlts false } ∷
    record { worker = 0; call = named.TOpen (codes "e4") Ticlts false } ∷
    record { worker = 0; call = named.TOpen (codes "e5") Ticlts false } ∷
    record { worker = 0; call = named.TOpen (codes "e6") Ticlts false } ∷
    record { worker = 0; call = named.TOpen (codes "e7") Ticlts false } ∷
    record { worker = 0; call = named.TOpen (codes "e8") Ticlts false } ∷
    record { worker = 0; call = named.TOpen (codes "e9") Ticlts false } ∷
    record { worker = 0; call = named.TOpen (codes "e10") Ticlts false } ∷
    record { worker = 0; call = named.TOpen (codes "e11") Ticlts false } ∷
    record { worker = 0; call = named.TOpen (codes "e12") Ticlts false } ∷
    record { worker = 0; call = named.TOpen (codes "e13") Ticlts false } ∷
    record { worker = 0; call = named.TOpen (codes "e14") Ticlts false } ∷
    record { worker = 0; call = named.TOpen (codes "e15") Ticlts false } ∷
    record { worker = 0; call = named.TOpen (codes "e16") Ticlts false } ∷
    record { worker = 0; call = named.TOpen (codes "e17") Ticlts false } ∷
    record { worker = 0; call = named.TOpen (codes "e18") Ticlts false } ∷
    record { worker = 0; call = named.TOpen (codes "e19") Ticlts false } ∷
    record { worker = 0; call = named.TOpen (codes "e20") Ticlts false } ∷
    record { worker = 0; call = named.TOpen (codes "e21") Ticlts false } ∷
    record { worker = 0; call = named.TOpen (codes "e22") Ticlts false } ∷
    record { worker = 0; call = named.TOpen (codes "e23") Ticlts false } ∷
    record { worker = 0; call = named.TOpen (codes "e24") Ticlts false } ∷
    record { worker = 0; call = named.TOpen (codes "e25") Ticlts false } ∷
    record { worker = 0; call = named.TOpen (codes "e26") Ticlts false } ∷
    record { worker = 0; call = named.TOpen (codes "e27") Ticlts false } ∷
    record { worker = 0; call = named.TOpen (codes "e28") Ticlts false } ∷
    record { worker = 0; call = named.TOpen (codes "e29") Ticlts false } ∷
    record { worker = 0; call = named.TOpen (codes "e30") Ticlts false } ∷
    record { worker = 0; call = named.TOpen (codes "e31") Ticlts false } ∷
    record { worker = 0; call = named.TOpen (codes "e32") Ticlts false } ∷
    record { worker = 0; call = named.TOpen (codes "e33") Ticlts false } ∷
    record { worker = 0; call = named.TOpen (codes "e34") Ticlts false } ∷
    record { worker = 0; call = named.TOpen (codes "e35") Ticlts false } ∷
    record { worker = 0; call = named.TOpen (codes "e36") Ticlts false } ∷
    record { worker = 0; call = named.TOpen (codes "e37") Ticlts false } ∷
    record { worker = 0; call = named.TOpen (codes "e38") Ticlts false } ∷
    record { worker = 0; call = named.TOpen (codes "e39") Ticlts false } ∷
    record { worker = 0; call = named.TOpen (codes "e40") Ticlts false } ∷
    record { worker = 0; call = named.TOpen (codes "e41") Ticlts false } ∷
    record { worker = 0; call = named.TOpen (codes "e42") Ticlts false } ∷
    record { worker = 0; call = named.TOpen (codes "e43") Ticlts false } ∷
    record { worker = 0; call = named.TOpen (codes "e44") Ticlts false } ∷
    record { worker = 0; call = named.TOpen (codes "e45") Ticlts false } ∷
    record { worker = 0; call = named.TOpen (codes "e46") Ticlts false } ∷
    record { worker = 0; call = named.TOpen (codes "e47") Ticlts false } ∷
    record { worker = 0; call = named.TOpen (codes "e48") Ticlts false } ∷
    record { worker = 0; call = named.TOpen (codes "e49") Ticlts false } ∷
    record { worker = 0; call = named.TOpen (codes "e50") Ticlts false } ∷
    record { worker = 0; call = named.TOpen (codes "e51") Ticlts false } ∷
    record { worker = 0; call = named.TOpen (codes "e52") Ticlts false } ∷
    record { worker = 0; call = named.TOpen (codes "e53") Ticlts false } ∷
    record { worker = 0; call = named.TOpen (codes "e54") Ticlts false } ∷
    record { worker = 0; call = named.TOpen (codes "e55") Ticlts false } ∷
    record { worker = 0; call = named.TOpen (codes "e56") Ticlts false } ∷
    record { worker = 0; call = named.TOpen (codes "e57") Ticlts false } ∷
    record { worker = 0; call = named.TOpen (codes "e58") Ticlts false } ∷
    record { worker = 0; call = named.TOpen (codes "e59") Ticlts false } ∷
    record { worker = 0; call = named.TOpen (codes "e60") Ticlts false } ∷
    record { worker = 0; call = named.TOpen (codes "e61") Ticlts false } ∷
    record { worker = 0; call = named.TOpen (codes "e62") Ticlts false } ∷
    record { worker = 0; call = named.TOpen (codes "e63") Ticlts false } ∷
    record { worker = 0; call = named.TOpen (codes "e64") Ticlts false } ∷
    record { worker = 0; call = named.TGetState (codes "e64") } ∷
    record { worker = 0; call = named.TClose (codes "e5") } ∷
    record { worker = 0; call = named.TOpen (codes "f") Ticlts false } ∷
    record { worker = 0; call = named.TOpen (codes "x") Other false } ∷
    []

entries : List Entry
entries =
    record { worker = 0; act = act.Begin (call.TOpen Ticlts false); outcome = Done (Opened (record { 0 = 0 })); after = T_UNBND } ∷
    record { worker = 0; act = act.Begin (call.TOpen Ticlts false); outcome = Done (Opened (record { 0 = 1 })); after = T_UNBND } ∷
    record { worker = 0; act = act.Begin (call.TOpen Ticlts false); outcome = Done (Opened (record { 0 = 2 })); after = T_UNBND } ∷
    record { worker = 0; act = act.Begin (call.TOpen Ticlts false); outcome = Done (Opened (record { 0 = 3 })); after = T_UNBND } ∷
    record { worker = 0; act = act.Begin (call.TOpen Ticlts false); outcome = Done (Opened (record { 0 = 4 })); after = T_UNBND } ∷
    record { worker = 0; act = act.Begin (call.TOpen Ticlts false); outcome = Done (Opened (record { 0 = 5 })); after = T_UNBND } ∷
    record { worker = 0; act = act.Begin (call.TOpen Ticlts false); outcome = Done (Opened (record { 0 = 6 })); after = T_UNBND } ∷
    record { worker = 0; act = act.Begin (call.TOpen Ticlts false); outcome = Done (Opened (record { 0 = 7 })); after = T_UNBND } ∷
    record { worker = 0; act = act.Begin (call.TOpen Ticlts false); outcome = Done (Opened (record { 0 = 8 })); after = T_UNBND } ∷
    record { worker = 0; act = act.Begin (call.TOpen Ticlts false); outcome = Done (Opened (record { 0 = 9 })); after = T_UNBND } ∷
    record { worker = 0; act = act.Begin (call.TOpen Ticlts false); outcome = Done (Opened (record { 0 = 10 })); after = T_UNBND } ∷
    record { worker = 0; act = act.Begin (call.TOpen Ticlts false); outcome = Done (Opened (record { 0 = 11 })); after = T_UNBND } ∷
    record { worker = 0; act = act.Begin (call.TOpen Ticlts false); outcome = Done (Opened (record { 0 = 12 })); after = T_UNBND } ∷
    record { worker = 0; act = act.Begin (call.TOpen Ticlts false); outcome = Done (Opened (record { 0 = 13 })); after = T_UNBND } ∷
    record { worker = 0; act = act.Begin (call.TOpen Ticlts false); outcome = Done (Opened (record { 0 = 14 })); after = T_UNBND } ∷
    record { worker = 0; act = act.Begin (call.TOpen Ticlts false); outcome = Done (Opened (record { 0 = 15 })); after = T_UNBND } ∷
    record { worker = 0; act = act.Begin (call.TOpen Ticlts false); outcome = Done (Opened (record { 0 = 16 })); after = T_UNBND } ∷
    record { worker = 0; act = act.Begin (call.TOpen Ticlts false); outcome = Done (Opened (record { 0 = 17 })); after = T_UNBND } ∷
    record { worker = 0; act = act.Begin (call.TOpen Ticlts false); outcome = Done (Opened (record { 0 = 18 })); after = T_UNBND } ∷
    record { worker = 0; act = act.Begin (call.TOpen Ticlts false); outcome = Done (Opened (record { 0 = 19 })); after = T_UNBND } ∷
    record { worker = 0; act = act.Begin (call.TOpen Ticlts false); outcome = Done (Opened (record { 0 = 20 })); after = T_UNBND } ∷
    record { worker = 0; act = act.Begin (call.TOpen Ticlts false); outcome = Done (Opened (record { 0 = 21 })); after = T_UNBND } ∷
    record { worker = 0; act = act.Begin (call.TOpen Ticlts false); outcome = Done (Opened (record { 0 = 22 })); after = T_UNBND } ∷
    record { worker = 0; act = act.Begin (call.TOpen Ticlts false); outcome = Done (Opened (record { 0 = 23 })); after = T_UNBND } ∷
    record { worker = 0; act = act.Begin (call.TOpen Ticlts false); outcome = Done (Opened (record { 0 = 24 })); after = T_UNBND } ∷
    record { worker = 0; act = act.Begin (call.TOpen Ticlts false); outcome = Done (Opened (record { 0 = 25 })); after = T_UNBND } ∷
    record { worker = 0; act = act.Begin (call.TOpen Ticlts false); outcome = Done (Opened (record { 0 = 26 })); after = T_UNBND } ∷
    record { worker = 0; act = act.Begin (call.TOpen Ticlts false); outcome = Done (Opened (record { 0 = 27 })); after = T_UNBND } ∷
    record { worker = 0; act = act.Begin (call.TOpen Ticlts false); outcome = Done (Opened (record { 0 = 28 })); after = T_UNBND } ∷
    record { worker = 0; act = act.Begin (call.TOpen Ticlts false); outcome = Done (Opened (record { 0 = 29 })); after = T_UNBND } ∷
    record { worker = 0; act = act.Begin (call.TOpen Ticlts false); outcome = Done (Opened (record { 0 = 30 })); after = T_UNBND } ∷
    record { worker = 0; act = act.Begin (call.TOpen Ticlts false); outcome = Done (Opened (record { 0 = 31 })); after = T_UNBND } ∷
    record { worker = 0; act = act.Begin (call.TOpen Ticlts false); outcome = Done (Opened (record { 0 = 32 })); after = T_UNBND } ∷
    record { worker = 0; act = act.Begin (call.TOpen Ticlts false); outcome = Done (Opened (record { 0 = 33 })); after = T_UNBND } ∷
    record { worker = 0; act = act.Begin (call.TOpen Ticlts false); outcome = Done (Opened (record { 0 = 34 })); after = T_UNBND } ∷
    record { worker = 0; act = act.Begin (call.TOpen Ticlts false); outcome = Done (Opened (record { 0 = 35 })); after = T_UNBND } ∷
    record { worker = 0; act = act.Begin (call.TOpen Ticlts false); outcome = Done (Opened (record { 0 = 36 })); after = T_UNBND } ∷
    record { worker = 0; act = act.Begin (call.TOpen Ticlts false); outcome = Done (Opened (record { 0 = 37 })); after = T_UNBND } ∷
    record { worker = 0; act = act.Begin (call.TOpen Ticlts false); outcome = Done (Opened (record { 0 = 38 })); after = T_UNBND } ∷
    record { worker = 0; act = act.Begin (call.TOpen Ticlts false); outcome = Done (Opened (record { 0 = 39 })); after = T_UNBND } ∷
    record { worker = 0; act = act.Begin (call.TOpen Ticlts false); outcome = Done (Opened (record { 0 = 40 })); after = T_UNBND } ∷
    record { worker = 0; act = act.Begin (call.TOpen Ticlts false); outcome = Done (Opened (record { 0 = 41 })); after = T_UNBND } ∷
    record { worker = 0; act = act.Begin (call.TOpen Ticlts false); outcome = Done (Opened (record { 0 = 42 })); after = T_UNBND } ∷
    record { worker = 0; act = act.Begin (call.TOpen Ticlts false); outcome = Done (Opened (record { 0 = 43 })); after = T_UNBND } ∷
    record { worker = 0; act = act.Begin (call.TOpen Ticlts false); outcome = Done (Opened (record { 0 = 44 })); after = T_UNBND } ∷
    record { worker = 0; act = act.Begin (call.TOpen Ticlts false); outcome = Done (Opened (record { 0 = 45 })); after = T_UNBND } ∷
    record { worker = 0; act = act.Begin (call.TOpen Ticlts false); outcome = Done (Opened (record { 0 = 46 })); after = T_UNBND } ∷
    record { worker = 0; act = act.Begin (call.TOpen Ticlts false); outcome = Done (Opened (record { 0 = 47 })); after = T_UNBND } ∷
    record { worker = 0; act = act.Begin (call.TOpen Ticlts false); outcome = Done (Opened (record { 0 = 48 })); after = T_UNBND } ∷
    record { worker = 0; act = act.Begin (call.TOpen Ticlts false); outcome = Done (Opened (record { 0 = 49 })); after = T_UNBND } ∷
    record { worker = 0; act = act.Begin (call.TOpen Ticlts false); outcome = Done (Opened (record { 0 = 50 })); after = T_UNBND } ∷
    record { worker = 0; act = act.Begin (call.TOpen Ticlts false); outcome = Done (Opened (record { 0 = 51 })); after = T_UNBND } ∷
    record { worker = 0; act = act.Begin (call.TOpen Ticlts false); outcome = Done (Opened (record { 0 = 52 })); after = T_UNBND } ∷
    record { worker = 0; act = act.Begin (call.TOpen Ticlts false); outcome = Done (Opened (record { 0 = 53 })); after = T_UNBND } ∷
    record { worker = 0; act = act.Begin (call.TOpen Ticlts false); outcome = Done (Opened (record { 0 = 54 })); after = T_UNBND } ∷
    record { worker = 0; act = act.Begin (call.TOpen Ticlts false); outcome = Done (Opened (record { 0 = 55 })); after = T_UNBND } ∷
    record { worker = 0; act = act.Begin (call.TOpen Ticlts false); outcome = Done (Opened (record { 0 = 56 })); after = T_UNBND } ∷
    record { worker = 0; act = act.Begin (call.TOpen Ticlts false); outcome = Done (Opened (record { 0 = 57 })); after = T_UNBND } ∷
    record { worker = 0; act = act.Begin (call.TOpen Ticlts false); outcome = Done (Opened (record { 0 = 58 })); after = T_UNBND } ∷
    record { worker = 0; act = act.Begin (call.TOpen Ticlts false); outcome = Done (Opened (record { 0 = 59 })); after = T_UNBND } ∷
    record { worker = 0; act = act.Begin (call.TOpen Ticlts false); outcome = Done (Opened (record { 0 = 60 })); after = T_UNBND } ∷
    record { worker = 0; act = act.Begin (call.TOpen Ticlts false); outcome = Done (Opened (record { 0 = 61 })); after = T_UNBND } ∷
    record { worker = 0; act = act.Begin (call.TOpen Ticlts false); outcome = Done (Opened (record { 0 = 62 })); after = T_UNBND } ∷
    record { worker = 0; act = act.Begin (call.TOpen Ticlts false); outcome = Done (Opened (record { 0 = 63 })); after = T_UNBND } ∷
    record { worker = 0; act = act.Begin (call.TOpen Ticlts false); outcome = Done (Refused TSYSERR); after = T_UNINIT } ∷
    record { worker = 0; act = act.Begin (call.TGetState (record { 0 = 4294967295 })); outcome = Done (Refused TBADF); after = T_UNINIT } ∷
    record { worker = 0; act = act.Begin (call.TClose (record { 0 = 5 })); outcome = Done Plain; after = T_UNINIT } ∷
    record { worker = 0; act = act.Begin (call.TOpen Ticlts false); outcome = Done (Opened (record { 0 = 69 })); after = T_UNBND } ∷
    record { worker = 0; act = act.Begin (call.TOpen Other false); outcome = Done (Refused TBADNAME); after = T_UNINIT } ∷
    []

the_history : robin (record { providers = providers; lines = lines }) ≡ entries
unfolding providers lines entries digits opening step plan is_option_list options_within begins_option
the_history = refl
