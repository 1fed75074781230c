use Rattle.std.proofs.Common.{◌≡◌, ◌∙◌, ap, length, subst}
use Rattle.std.specs.Prelude.{IfOk, sum}
use Rattle.xti_model.specs.Calls.Receive as Receive
use Rattle.xti_model.specs.Step.{step_of}
use Rattle.xti_end.specs.Held.{alone}
use Rattle.xti_end.specs.Taken.{taken}
use Rattle.xti_end.proofs.Sizes.{data-sum-where-few}
use Rattle.xti_end.proofs.endpoint.Endpoint.rcvv.Goals as goal

pub returns-clause-step : goal.returns-clause-step
returns-clause-step c =
    let p = c.args.p.now in
    let w = alone c.args.self.now in
    let n = ap (λ n. step_of p w (Receive.plan p w c.args.fd.0 n c.all.result.total)) c.all.ensures.count in
    let e = data-sum-where-few p w c.args.fd.0 (length c.args.sizes.now) c.all.result.total (sum c.args.sizes.now) c.all.ensures.total in
    subst (λ s. IfOk c.rcv.result (λ a. taken a (alone c.rcv.new.self) ≡ s)) (n ∙ e) c.rcv.ensures.step
