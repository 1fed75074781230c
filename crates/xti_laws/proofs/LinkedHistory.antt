-- A history after which two endpoints are linked, with which counterexamples begin.
use Rattle.std.proofs.Common.{true, false, List, [], ◌∷◌}
use Rattle.std.specs.Prelude.{codes}
use Rattle.xti_base.specs.declared.errno.Errno.TheVariants.{TNODATA}
use Rattle.xti_base.specs.declared.kinds.Prov.TheVariants.{Ticotsord}
use Rattle.xti_base.specs.declared.kinds.State.TheVariants.{T_UNBND, T_IDLE, T_OUTCON, T_INCON, T_DATAXFER}
use Rattle.xti_model.specs.declared.call.Call.TheVariants as call
use Rattle.xti_model.specs.declared.entry.Act.TheVariants as act
use Rattle.xti_model.specs.declared.entry.Entry.{Entry}
use Rattle.xti_model.specs.declared.entry.Outcome.TheVariants.{Done}
use Rattle.xti_model.specs.declared.entry.Reply.TheVariants.{Plain, Opened, Bound, Connected, Listened, Refused}

unfoldable pub linked : List Entry
linked =
    record { worker = 0; act = act.Begin (call.TOpen Ticotsord false); outcome = Done (Opened (record { 0 = 0 })); after = T_UNBND } ∷
    record { worker = 0; act = act.Begin (call.TBind (record { 0 = 0 }) (codes "l") 1 64); outcome = Done (Bound (codes "l") 1); after = T_IDLE } ∷
    record { worker = 0; act = act.Begin (call.TOpen Ticotsord true); outcome = Done (Opened (record { 0 = 1 })); after = T_UNBND } ∷
    record { worker = 0; act = act.Begin (call.TBind (record { 0 = 1 }) (codes "c") 0 64); outcome = Done (Bound (codes "c") 0); after = T_IDLE } ∷
    record { worker = 0; act = act.Begin (call.TOpen Ticotsord true); outcome = Done (Opened (record { 0 = 2 })); after = T_UNBND } ∷
    record { worker = 0; act = act.Begin (call.TConnect (record { 0 = 1 }) (codes "l") [] [] 64 256 64); outcome = Done (Refused TNODATA); after = T_OUTCON } ∷
    record { worker = 0; act = act.Begin (call.TListen (record { 0 = 0 }) 64 256 64); outcome = Done (Listened (record { 0 = 1 }) (codes "c") [] []); after = T_INCON } ∷
    record { worker = 0; act = act.Begin (call.TAccept (record { 0 = 0 }) (record { 0 = 2 }) (record { 0 = 1 }) [] []); outcome = Done Plain; after = T_IDLE } ∷
    record { worker = 0; act = act.Begin (call.TRcvConnect (record { 0 = 1 }) 64 256 64); outcome = Done (Connected (codes "l") [] []); after = T_DATAXFER } ∷
    []
