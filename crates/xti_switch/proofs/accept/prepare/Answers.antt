use Rattle.std.proofs.Common.{◌≡◌, ◌∙◌, Some, sym}
use Rattle.xti_model.specs.Endpoint.{find_number}
use Rattle.xti_end.specs.Frames.{indication_of}
use Rattle.xti_end.specs.Held.{parts}
use Rattle.xti_switch.proofs.Accepting.{caller-is}
use Rattle.xti_switch.proofs.accept.prepare.Goals as goal

pub returns : goal.returns
returns c =
    let i : find_number c.args.seq.0 (parts c.args.e.now).outstanding ≡ Some (indication_of c.in-Some.ind.now) = sym c.in-Some.ensures.request in
    rw i record {
      caller = sym (caller-is c.in-Some.ind.now c.in-Some.ensures.kind);
      source = c.in_ok-source.ensures.copy ∙ c.caller_address.ensures;
      address = c.in-Ok.ensures.copy ∙ c.answering_address-answering.ensures;
      kind = c.in-Ok-confirmation.ensures.kind;
      confirmation = rw (← c.answering_address-answering.ensures) c.in-Ok-confirmation.ensures.confirmation;
      given = c.in-Ok-given.ensures;
    }
