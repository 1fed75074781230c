use Rattle.std.proofs.Common.{◌∙◌, inl, inr}
use Rattle.xti_gbn.proofs.Carries.{can_send, sent, can_receive, received, waits, on_any_err}
use Rattle.xti_gbn.proofs.datagrams.carrier.carry_between.Goals as goal

pub send_one-requires : goal.send_one-requires
send_one-requires c = can_send _ _ _ _ _ c.requires.ready c.requires.route c.requires.some c.requires.most

pub receive_one-requires : goal.receive_one-requires
receive_one-requires c =
    let there = sent _ _ _ _ _ _ c.requires.ready c.requires.route c.requires.some c.requires.most c.in_ok-send_one.ensures.made in
    can_receive _ _ _ _ _ c.requires.route c.requires.most there

pub returns-clause-same : goal.returns-clause-same
returns-clause-same c =
    let there = sent _ _ _ _ _ _ c.requires.ready c.requires.route c.requires.some c.requires.most c.in_ok-send_one.ensures.made in
    (received _ _ _ _ _ _ _ c.requires.route c.requires.most there c.in_ok-came.ensures.gives).0

pub returns-clause-stays_ready : goal.returns-clause-stays_ready
returns-clause-stays_ready c =
    let there = sent _ _ _ _ _ _ c.requires.ready c.requires.route c.requires.some c.requires.most c.in_ok-send_one.ensures.made in
    (received _ _ _ _ _ _ _ c.requires.route c.requires.most there c.in_ok-came.ensures.gives).1

pub returns-in_err-send_one-clause-left : goal.returns-in_err-send_one-clause-left
returns-in_err-send_one-clause-left c = on_any_err c.from_residual.result (inl (c.in_err-send_one.ensures.err ∙ c.requires.ready))

pub returns-in_err-came-clause-left : goal.returns-in_err-came-clause-left
returns-in_err-came-clause-left c =
    let there = sent _ _ _ _ _ _ c.requires.ready c.requires.route c.requires.some c.requires.most c.in_ok-send_one.ensures.made in
    on_any_err c.from_residual-in_err-came.result (inr (waits _ _ _ _ _ c.requires.route c.requires.most (c.in_err-came.ensures.err ∙ there)))
