use Rattle.std.proofs.Common.{rules}
use Rattle.xti_check.proofs.Numbers.{are_numbers}
use Rattle.xti_check.proofs.judging.told.Goals as goal

-- each number is of the outcome's own type
pub returns-in-Ok-clause-numbers : goal.returns-in-Ok-clause-numbers
returns-in-Ok-clause-numbers c =
    are_numbers c.args.outcome (record {
      part = search rules;
      opened = search rules;
      bound = search rules;
      listened = search rules;
      sent = search rules;
      got = search rules;
      reason = search rules;
      disconnected = search rules;
      datagram = search rules;
      code = search rules;
      addr = search rules;
      options = search rules;
      tsdu = search rules;
      etsdu = search rules;
      connect = search rules;
      discon = search rules;
      flags = search rules;
      result = search rules;
      lost = search rules;
    })
