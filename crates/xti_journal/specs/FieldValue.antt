-- The values of words.
use Rattle.std.specs.Prelude.{ℕ, Bool, List, Option}
use Rattle.xti_base.specs.declared.kinds.Prov.{Prov}
use Rattle.xti_base.specs.declared.kinds.ServType.{ServType}
use Rattle.xti_base.specs.declared.kinds.State.{State as StateOf}
use Rattle.xti_base.specs.declared.kinds.Event.{Event as EventOf}
use Rattle.xti_base.specs.declared.limit.Limit.{Limit as LimitOf}
use Rattle.xti_base.specs.declared.errno.Errno.{Errno as ErrnoOf}

pub data Value : Type 0 where
  Number : ℕ → Value
  Bytes : List ℕ → Value
  Parts : List (List ℕ) → Value
  Sizes : List ℕ → Value
  Truth : Bool → Value
  Provider : Prov → Value
  Mode : Bool → Value
  Limit : LimitOf → Value
  Service : ServType → Value
  State : StateOf → Value
  Event : EventOf → Value
  EventOrNone : Option EventOf → Value
  Errno : ErrnoOf → Value
