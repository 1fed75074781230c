-- The calls of the carrier.
use Rattle.std.specs.Prelude.{ℕ, true, List, []}
use Rattle.xti_base.specs.declared.kinds.Fd.{Fd}
use Rattle.xti_base.specs.declared.kinds.Prov.TheVariants.{Ticlts}
use Rattle.xti_model.specs.declared.call.Call.{Call}
use Rattle.xti_model.specs.declared.call.Call.TheVariants as call

abbrev pub opening_call : Call
opening_call = call.TOpen Ticlts true

abbrev pub binding_call : Fd → List ℕ → Call
binding_call fd address = call.TBind fd address 0 0

abbrev pub sending_call : Fd → List ℕ → List ℕ → Call
sending_call fd address bytes = call.TSndUData fd address [] bytes

-- a whole datagram, without its source and options
abbrev pub receiving_call : Fd → Call
receiving_call fd = call.TRcvUData fd 517 0 0
