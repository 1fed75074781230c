use Rattle.std.proofs.Common.{◌++◌, true, false, take, drop, refl}
use Rattle.xti_sock.specs.declared.phase.Phase.TheVariants.{Open}
use Rattle.xti_sock.specs.Socks.{has_ended, in_phase}
use Rattle.xti_copy.specs.Ends.{releasing}
use Rattle.xti_copy.proofs.InStep.{step-more, step-past, step-back, step-of}
use Rattle.xti_copy.proofs.Taking.{released-goes, taken-goes}
use Rattle.xti_copy.proofs.Steps.{at-both}
use Rattle.xti_copy.proofs.releasing.release_one.Goals as goal

pub shutdown-requires-clause-step : goal.shutdown-requires-clause-step
shutdown-requires-clause-step g c κs within = c.requires.may.one_step

pub made-requires : goal.made-requires
made-requires g c =
    (released-goes c.args.one.now c.args.other.now c.args.io.now.entries c.requires.may c.args.io.now c.shutdown.new.io c.shutdown.result c.shutdown.new.self c.requires.at c.shutdown.ensures.made).fails

pub recv-requires-clause-step : goal.recv-requires-clause-step
recv-requires-clause-step g c κs within =
    let s = c.args.one.now in
    let k = c.args.other.now in
    let may = c.requires.may in
    let one = (released-goes s k c.args.io.now.entries may c.args.io.now c.shutdown.new.io c.shutdown.result c.shutdown.new.self c.requires.at c.shutdown.ensures.made).holds _ c.in_ok-made.ensures in
    let still = in_phase k (Open (has_ended s.phase) false) in
    step-back k still c.shutdown.new.io.entries may.other
    (step-more still c.args.io.now.entries (take 1 (releasing (has_ended s.phase) s.fd k.fd)) c.shutdown.new.io one.0 refl refl (step-of k still c.args.io.now.entries may.other may.other_step))

pub made-requires-2 : goal.made-requires-2
made-requires-2 g c =
    let s = c.args.one.now in
    let k = c.args.other.now in
    let may = c.requires.may in
    let one = (released-goes s k c.args.io.now.entries may c.args.io.now c.shutdown.new.io c.shutdown.result c.shutdown.new.self c.requires.at c.shutdown.ensures.made).holds _ c.in_ok-made.ensures in
    (taken-goes s k c.args.io.now.entries may c.shutdown.new.io c.recv.new.io c.recv.result c.recv.new.self one.0 c.recv.ensures.made).fails

pub returns : goal.returns
returns g c =
    let s = c.args.one.now in
    let k = c.args.other.now in
    let mine = c.args.io.now.entries in
    let may = c.requires.may in
    let one = (released-goes s k mine may c.args.io.now c.shutdown.new.io c.shutdown.result c.shutdown.new.self c.requires.at c.shutdown.ensures.made).holds _ c.in_ok-made.ensures in
    let two = (taken-goes s k mine may c.shutdown.new.io c.recv.new.io c.recv.result c.recv.new.self one.0 c.recv.ensures.made).holds _ c.in_ok-none.ensures in
    let es = releasing (has_ended s.phase) s.fd k.fd in
    let still = in_phase s (Open true (has_ended s.phase)) in
    record {
      has = record {
        one = one.1;
        other = two.1;
        one_step = step-back c.shutdown.new.self still c.recv.new.io.entries one.1
            (step-past still (mine ++ take 1 es) (drop 1 es) c.shutdown.new.io c.recv.new.io one.0 two.0 may.apart refl (step-of c.shutdown.new.self still c.shutdown.new.io.entries one.1 c.shutdown.ensures.step));
        other_step = c.recv.ensures.step;
        at = at-both mine (take 1 es) (drop 1 es) c.recv.new.io two.0;
      };
    }
