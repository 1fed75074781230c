use Rattle.std.proofs.Common.{◌++◌, ◌∙◌, false, take, drop, ap, refl}
use Rattle.xti_base.specs.declared.kinds.State.TheVariants.{T_DATAXFER}
use Rattle.xti_laws_streams.specs.declared.copies.TheConstants.{PIECE}
use Rattle.xti_laws_streams.specs.Copying.{exchange, client, receiver}
use Rattle.xti_copy.specs.declared.connecting.Ends.{Ends}
use Rattle.xti_copy.specs.Ends.{client_sock, receiver_sock}
use Rattle.xti_copy.proofs.InStep.{step-more, step-back}
use Rattle.xti_copy.proofs.Rows.{then-comes}
use Rattle.xti_copy.proofs.Steps.{send-goes, recv-goes, at-both, ends-are}
use Rattle.xti_copy.proofs.copying.exchange.Goals as goal

pub send-requires-clause-step : goal.send-requires-clause-step
send-requires-clause-step g c κs within =
    step-back c.args.ends.now.client client_sock c.args.io.now.entries (ap (λ (e : Ends). e.client) c.requires.ends) c.requires.step.client

pub made-requires : goal.made-requires
made-requires g c =
    (send-goes c.args.io.now.entries (drop 1 (exchange c.args.piece.now)) client false c.args.piece.now T_DATAXFER c.args.ends.now.client c.args.io.now c.send.new.io c.send.result c.send.new.self
    (ap (λ (e : Ends). e.client) c.requires.ends) c.requires.comes c.requires.at c.send.ensures.made).fails

pub recv-requires-clause-step : goal.recv-requires-clause-step
recv-requires-clause-step g c κs within =
    let one = (send-goes c.args.io.now.entries (drop 1 (exchange c.args.piece.now)) client false c.args.piece.now T_DATAXFER c.args.ends.now.client c.args.io.now c.send.new.io c.send.result c.send.new.self
    (ap (λ (e : Ends). e.client) c.requires.ends) c.requires.comes c.requires.at c.send.ensures.made).holds _ c.in_ok-_sent.ensures in
    step-back c.args.ends.now.receiver receiver_sock c.send.new.io.entries (ap (λ (e : Ends). e.receiver) c.requires.ends)
    (step-more receiver_sock c.args.io.now.entries (take 1 (exchange c.args.piece.now)) c.send.new.io one.0 refl refl c.requires.step.receiver)

pub made-requires-2 : goal.made-requires-2
made-requires-2 g c =
    let one = (send-goes c.args.io.now.entries (drop 1 (exchange c.args.piece.now)) client false c.args.piece.now T_DATAXFER c.args.ends.now.client c.args.io.now c.send.new.io c.send.result c.send.new.self
    (ap (λ (e : Ends). e.client) c.requires.ends) c.requires.comes c.requires.at c.send.ensures.made).holds _ c.in_ok-_sent.ensures in
    (recv-goes (c.args.io.now.entries ++ take 1 (exchange c.args.piece.now)) receiver false PIECE c.args.piece.now T_DATAXFER c.args.ends.now.receiver c.send.new.io c.recv.new.io c.recv.result c.recv.new.self
    (ap (λ (e : Ends). e.receiver) c.requires.ends) (then-comes c.args.io.now.entries (take 1 (exchange c.args.piece.now)) (drop 1 (exchange c.args.piece.now)) c.requires.comes) one.0 c.recv.ensures.made).fails

pub returns-clause-ends : goal.returns-clause-ends
returns-clause-ends g c =
    let one = (send-goes c.args.io.now.entries (drop 1 (exchange c.args.piece.now)) client false c.args.piece.now T_DATAXFER c.args.ends.now.client c.args.io.now c.send.new.io c.send.result c.send.new.self
    (ap (λ (e : Ends). e.client) c.requires.ends) c.requires.comes c.requires.at c.send.ensures.made).holds _ c.in_ok-_sent.ensures in
    let two = (recv-goes (c.args.io.now.entries ++ take 1 (exchange c.args.piece.now)) receiver false PIECE c.args.piece.now T_DATAXFER c.args.ends.now.receiver c.send.new.io c.recv.new.io c.recv.result c.recv.new.self
    (ap (λ (e : Ends). e.receiver) c.requires.ends) (then-comes c.args.io.now.entries (take 1 (exchange c.args.piece.now)) (drop 1 (exchange c.args.piece.now)) c.requires.comes) one.0 c.recv.ensures.made).holds _ c.in_ok-received.ensures in
    ends-are _ _ _ _ _ _ (ap (λ (e : Ends). e.listener) c.requires.ends) (one.1 ∙ ap (λ (e : Ends). e.client) c.requires.ends) (two.1 ∙ ap (λ (e : Ends). e.receiver) c.requires.ends)

pub returns-clause-at : goal.returns-clause-at
returns-clause-at g c =
    let one = (send-goes c.args.io.now.entries (drop 1 (exchange c.args.piece.now)) client false c.args.piece.now T_DATAXFER c.args.ends.now.client c.args.io.now c.send.new.io c.send.result c.send.new.self
    (ap (λ (e : Ends). e.client) c.requires.ends) c.requires.comes c.requires.at c.send.ensures.made).holds _ c.in_ok-_sent.ensures in
    let two = (recv-goes (c.args.io.now.entries ++ take 1 (exchange c.args.piece.now)) receiver false PIECE c.args.piece.now T_DATAXFER c.args.ends.now.receiver c.send.new.io c.recv.new.io c.recv.result c.recv.new.self
    (ap (λ (e : Ends). e.receiver) c.requires.ends) (then-comes c.args.io.now.entries (take 1 (exchange c.args.piece.now)) (drop 1 (exchange c.args.piece.now)) c.requires.comes) one.0 c.recv.ensures.made).holds _ c.in_ok-received.ensures in
    at-both c.args.io.now.entries (take 1 (exchange c.args.piece.now)) (drop 1 (exchange c.args.piece.now)) c.recv.new.io two.0
