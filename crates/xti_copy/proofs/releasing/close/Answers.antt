use Rattle.std.proofs.Common.{◌++◌, [], true, take, drop, ap, refl, subst, append_assoc}
use Rattle.xti_base.specs.declared.kinds.State.TheVariants.{T_UNINIT}
use Rattle.xti_sock.specs.declared.phase.Phase.TheVariants.{Open}
use Rattle.xti_sock.specs.Socks.{in_phase}
use Rattle.xti_copy.specs.declared.connecting.Ends.{Ends}
use Rattle.xti_copy.specs.Ends.{closing, listening_sock, client_sock, receiver_sock}
use Rattle.xti_copy.specs.Going.{IsAt}
use Rattle.xti_copy.proofs.InStep.{step-more, step-back}
use Rattle.xti_copy.proofs.Rows.{then-comes}
use Rattle.xti_copy.proofs.Steps.{close-goes, at-both}
use Rattle.xti_copy.proofs.releasing.close.Goals as goal

pub close-requires-clause-step : goal.close-requires-clause-step
close-requires-clause-step g c κs within =
    step-back c.args.ends.now.receiver (in_phase receiver_sock (Open true true)) c.args.io.now.entries (ap (λ (e : Ends). e.receiver) c.requires.ends) c.requires.step.receiver

pub made-requires : goal.made-requires
made-requires g c =
    (close-goes c.args.io.now.entries (drop 1 closing) (in_phase receiver_sock (Open true true)) T_UNINIT c.args.ends.now.receiver c.args.io.now c.close.new.io c.close.result c.close.new.self
    (ap (λ (e : Ends). e.receiver) c.requires.ends) refl c.requires.comes c.requires.at c.close.ensures.made).fails

pub close-requires-2-clause-step : goal.close-requires-2-clause-step
close-requires-2-clause-step g c κs within =
    let one = (close-goes c.args.io.now.entries (drop 1 closing) (in_phase receiver_sock (Open true true)) T_UNINIT c.args.ends.now.receiver c.args.io.now c.close.new.io c.close.result c.close.new.self
    (ap (λ (e : Ends). e.receiver) c.requires.ends) refl c.requires.comes c.requires.at c.close.ensures.made).holds _ c.in_ok-made.ensures in
    let comes = then-comes c.args.io.now.entries (take 1 closing) (drop 1 closing) c.requires.comes in
    step-back c.args.ends.now.client (in_phase client_sock (Open true true)) c.close.new.io.entries (ap (λ (e : Ends). e.client) c.requires.ends)
    (step-more (in_phase client_sock (Open true true)) c.args.io.now.entries (take 1 closing) c.close.new.io one.0 refl refl c.requires.step.client)

pub made-requires-2 : goal.made-requires-2
made-requires-2 g c =
    let one = (close-goes c.args.io.now.entries (drop 1 closing) (in_phase receiver_sock (Open true true)) T_UNINIT c.args.ends.now.receiver c.args.io.now c.close.new.io c.close.result c.close.new.self
    (ap (λ (e : Ends). e.receiver) c.requires.ends) refl c.requires.comes c.requires.at c.close.ensures.made).holds _ c.in_ok-made.ensures in
    let comes = then-comes c.args.io.now.entries (take 1 closing) (drop 1 closing) c.requires.comes in
    (close-goes (c.args.io.now.entries ++ take 1 closing) (drop 2 closing) (in_phase client_sock (Open true true)) T_UNINIT c.args.ends.now.client c.close.new.io c.close-2.new.io c.close-2.result c.close-2.new.self
    (ap (λ (e : Ends). e.client) c.requires.ends) refl comes one.0 c.close-2.ensures.made).fails

pub close-requires-3-clause-step : goal.close-requires-3-clause-step
close-requires-3-clause-step g c κs within =
    let one = (close-goes c.args.io.now.entries (drop 1 closing) (in_phase receiver_sock (Open true true)) T_UNINIT c.args.ends.now.receiver c.args.io.now c.close.new.io c.close.result c.close.new.self
    (ap (λ (e : Ends). e.receiver) c.requires.ends) refl c.requires.comes c.requires.at c.close.ensures.made).holds _ c.in_ok-made.ensures in
    let comes = then-comes c.args.io.now.entries (take 1 closing) (drop 1 closing) c.requires.comes in
    let two = (close-goes (c.args.io.now.entries ++ take 1 closing) (drop 2 closing) (in_phase client_sock (Open true true)) T_UNINIT c.args.ends.now.client c.close.new.io c.close-2.new.io c.close-2.result c.close-2.new.self
    (ap (λ (e : Ends). e.client) c.requires.ends) refl comes one.0 c.close-2.ensures.made).holds _ c.in_ok-made-2.ensures in
    step-back c.args.ends.now.listener listening_sock c.close-2.new.io.entries (ap (λ (e : Ends). e.listener) c.requires.ends)
    (step-more listening_sock c.args.io.now.entries (take 2 closing) c.close-2.new.io (at-both c.args.io.now.entries (take 1 closing) (take 1 (drop 1 closing)) c.close-2.new.io two.0) refl refl c.requires.step.listener)

pub made-requires-3 : goal.made-requires-3
made-requires-3 g c =
    let one = (close-goes c.args.io.now.entries (drop 1 closing) (in_phase receiver_sock (Open true true)) T_UNINIT c.args.ends.now.receiver c.args.io.now c.close.new.io c.close.result c.close.new.self
    (ap (λ (e : Ends). e.receiver) c.requires.ends) refl c.requires.comes c.requires.at c.close.ensures.made).holds _ c.in_ok-made.ensures in
    let comes = then-comes c.args.io.now.entries (take 1 closing) (drop 1 closing) c.requires.comes in
    let two = (close-goes (c.args.io.now.entries ++ take 1 closing) (drop 2 closing) (in_phase client_sock (Open true true)) T_UNINIT c.args.ends.now.client c.close.new.io c.close-2.new.io c.close-2.result c.close-2.new.self
    (ap (λ (e : Ends). e.client) c.requires.ends) refl comes one.0 c.close-2.ensures.made).holds _ c.in_ok-made-2.ensures in
    (close-goes ((c.args.io.now.entries ++ take 1 closing) ++ take 1 (drop 1 closing)) [] listening_sock T_UNINIT c.args.ends.now.listener c.close-2.new.io c.close-3.new.io c.close-3.result c.close-3.new.self
    (ap (λ (e : Ends). e.listener) c.requires.ends) refl (then-comes (c.args.io.now.entries ++ take 1 closing) (take 1 (drop 1 closing)) (drop 2 closing) comes) two.0 c.close-3.ensures.made).fails

pub returns : goal.returns
returns g c =
    let one = (close-goes c.args.io.now.entries (drop 1 closing) (in_phase receiver_sock (Open true true)) T_UNINIT c.args.ends.now.receiver c.args.io.now c.close.new.io c.close.result c.close.new.self
    (ap (λ (e : Ends). e.receiver) c.requires.ends) refl c.requires.comes c.requires.at c.close.ensures.made).holds _ c.in_ok-made.ensures in
    let comes = then-comes c.args.io.now.entries (take 1 closing) (drop 1 closing) c.requires.comes in
    let two = (close-goes (c.args.io.now.entries ++ take 1 closing) (drop 2 closing) (in_phase client_sock (Open true true)) T_UNINIT c.args.ends.now.client c.close.new.io c.close-2.new.io c.close-2.result c.close-2.new.self
    (ap (λ (e : Ends). e.client) c.requires.ends) refl comes one.0 c.close-2.ensures.made).holds _ c.in_ok-made-2.ensures in
    let three = (close-goes ((c.args.io.now.entries ++ take 1 closing) ++ take 1 (drop 1 closing)) [] listening_sock T_UNINIT c.args.ends.now.listener c.close-2.new.io c.close-3.new.io c.close-3.result c.close-3.new.self
    (ap (λ (e : Ends). e.listener) c.requires.ends) refl (then-comes (c.args.io.now.entries ++ take 1 closing) (take 1 (drop 1 closing)) (drop 2 closing) comes) two.0 c.close-3.ensures.made).holds _ c.in_ok-made-3.ensures in
    record {
      at = at-both c.args.io.now.entries (take 2 closing) (drop 2 closing) c.close-3.new.io
          (subst (λ z. IsAt (z ++ drop 2 closing) c.close-3.new.io) (append_assoc c.args.io.now.entries (take 1 closing) (take 1 (drop 1 closing))) three.0);
    }
