use Rattle.xti_gather.proofs.opening.open_hall.Goals as goal

pub new-requires-clause-stand : goal.new-requires-clause-stand
new-requires-clause-stand c = c.in_ok-cells.ensures.stand c.args.keeps
