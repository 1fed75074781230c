use Rattle.std.proofs.Common.{◌≡◌, ◌∙◌, ℕ, List, ap, sym, Some}
use Rattle.xti_model.specs.declared.entry.Outcome.TheVariants.{Done}
use Rattle.xti_model.specs.declared.entry.Reply.TheVariants.{Overflow}
use Rattle.xti_model.specs.Step.{made}
use Rattle.xti_end.specs.Held.{Held, alone, parts}
use Rattle.xti_model.specs.Calls.Disconnect as Disconnect
use Rattle.xti_model.specs.Endpoint.{Disconnect as Notice}
use Rattle.xti_model.specs.Plan.{field, is_too_long}
use Rattle.xti_end.specs.Taken.{told_disconnect}
use Rattle.xti_end.proofs.Rows.{disconnect-kept, disconnect-lost}
use Rattle.xti_end.proofs.endpoint.Endpoint.tell_disconnect.Goals as goal

pub returns-then-is_too_long-clause-step : goal.returns-then-is_too_long-clause-step
returns-then-is_too_long-clause-step c =
    let p = c.args.p.now in
    let h = c.args.self.now in
    let fd = c.args.fd.0 in
    let udata : c.data.result.now ≡ (Disconnect.oldest (parts h)).udata = c.data.ensures ∙ ap (λ (d : Notice). d.udata) c.oldest_disconnect.ensures.disconnect in
    let long = ap (λ (x : List ℕ). is_too_long (field x c.args.umax)) (sym udata) ∙ (sym c.is_too_long.ensures ∙ c.if-is_too_long.true) in
    c.done.ensures ∙
    (ap (λ (x : Held). Some (made p fd (Done (Overflow (record { 0 = 0 }))) (alone x))) c.drop_disconnect.ensures ∙
    disconnect-lost p h fd c.args.umax c.requires.«open» long)

pub returns-clause-step : goal.returns-clause-step
returns-clause-step c =
    let p = c.args.p.now in
    let h = c.args.self.now in
    let fd = c.args.fd.0 in
    let udata : c.data.result.now ≡ (Disconnect.oldest (parts h)).udata = c.data.ensures ∙ ap (λ (d : Notice). d.udata) c.oldest_disconnect.ensures.disconnect in
    let long = ap (λ (x : List ℕ). is_too_long (field x c.args.umax)) (sym udata) ∙ (sym c.is_too_long.ensures ∙ c.if-is_too_long.false) in
    c.done-2.ensures ∙
    (ap (λ r. Some (made p fd (Done r) (alone c.drop_disconnect-2.new.self))) c.in_ok-reply.ensures ∙
    (ap (λ (x : Held). Some (made p fd (Done (told_disconnect c.args.umax (parts h))) (alone x))) c.drop_disconnect-2.ensures ∙
    disconnect-kept p h fd c.args.umax c.requires.«open» long))
