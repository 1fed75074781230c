use Rattle.xti_opt.proofs.Values.{answers_writable}
use Rattle.xti_opt.proofs.negotiation.negotiate.Goals as goal

pub returns-clause-writable : goal.returns-clause-writable
returns-clause-writable c = rw (c.in_ok-told.ensures.options) (answers_writable c.args.settings.now c.args.action c.as_slice-options.result.now)
