use Rattle.xti_gbn.proofs.Carries.{can_open_first, first_opened, can_open_second, second_opened, can_bind_first, first_bound, can_bind_second, second_bound}
use Rattle.xti_gbn.proofs.datagrams.carrier.open_both.Goals as goal

pub open_one-requires : goal.open_one-requires
open_one-requires c = can_open_first _ c.requires

pub open_one-requires-2 : goal.open_one-requires-2
open_one-requires-2 c = can_open_second _ (first_opened _ _ _ c.requires c.in_ok-sender.ensures).1

pub bind_one-requires : goal.bind_one-requires
bind_one-requires c =
    let first = first_opened _ _ _ c.requires c.in_ok-sender.ensures in
    let second = second_opened _ _ _ first.1 c.in_ok-receiver.ensures in
    can_bind_first _ _ second.1 first.0

pub bind_one-requires-2 : goal.bind_one-requires-2
bind_one-requires-2 c =
    let first = first_opened _ _ _ c.requires c.in_ok-sender.ensures in
    let second = second_opened _ _ _ first.1 c.in_ok-receiver.ensures in
    can_bind_second _ _ (first_bound _ _ _ second.1 first.0 c.in_ok-bind_one.ensures) second.0

pub returns-clause-sender : goal.returns-clause-sender
returns-clause-sender c = (first_opened _ _ _ c.requires c.in_ok-sender.ensures).0

pub returns-clause-receiver : goal.returns-clause-receiver
returns-clause-receiver c =
    let first = first_opened _ _ _ c.requires c.in_ok-sender.ensures in
    (second_opened _ _ _ first.1 c.in_ok-receiver.ensures).0

pub returns-clause-ready : goal.returns-clause-ready
returns-clause-ready c =
    let first = first_opened _ _ _ c.requires c.in_ok-sender.ensures in
    let second = second_opened _ _ _ first.1 c.in_ok-receiver.ensures in
    second_bound _ _ _ (first_bound _ _ _ second.1 first.0 c.in_ok-bind_one.ensures) second.0 c.in_ok-bind_one-2.ensures
