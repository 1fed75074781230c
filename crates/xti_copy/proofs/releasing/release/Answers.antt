use Rattle.xti_copy.proofs.Taking.{may-first, may-back}
use Rattle.xti_copy.proofs.releasing.release.Goals as goal

pub release_one-requires-clause-may : goal.release_one-requires-clause-may
release_one-requires-clause-may g c κs within =
    may-first c.args.ends.now c.args.io.now.entries c.requires.ends c.requires.step c.requires.comes

pub release_one-requires-2-clause-may : goal.release_one-requires-2-clause-may
release_one-requires-2-clause-may g c κs within =
    may-back c.args.ends.now c.release_one.new.one c.release_one.new.other c.args.io.now.entries c.release_one.new.io c.requires.ends c.in_ok-release_one.ensures.has c.requires.comes
