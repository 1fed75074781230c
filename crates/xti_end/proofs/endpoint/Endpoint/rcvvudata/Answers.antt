use Rattle.std.proofs.Common.{◌≡◌, ◌∙◌, List, length, ap, subst}
use Rattle.std.specs.Prelude.{IfOk, sum}
use Rattle.xti_model.specs.Calls.Datagrams.{receive_plan}
use Rattle.xti_model.specs.Plan.{Row, first, has_effect}
use Rattle.xti_model.specs.Step.{step_of}
use Rattle.xti_end.specs.Held.{alone}
use Rattle.xti_end.specs.Taken.{taken}
use Rattle.xti_end.proofs.Sizes.{rows-alike, sum-where-few}
use Rattle.xti_end.proofs.endpoint.Endpoint.rcvvudata.Goals as goal

pub returns-clause-step : goal.returns-clause-step
returns-clause-step c =
    let p = c.args.p.now in
    let w = alone c.args.self.now in
    let n = ap (λ n. step_of p w (receive_plan p w c.args.fd.0 n c.all.result.total c.args.amax c.args.omax)) c.all.ensures.count in
    let e = sum-where-few p w c.args.fd.0 (length c.args.sizes.now) c.all.result.total (sum c.args.sizes.now) c.args.amax c.args.omax c.all.ensures.total in
    subst (λ s. IfOk c.rcvudata.result (λ a. taken a (alone c.rcvudata.new.self) ≡ s)) (n ∙ e) c.rcvudata.ensures.step

pub returns-clause-sure : goal.returns-clause-sure
returns-clause-sure c h =
    let p = c.args.p.now in
    let w = alone c.args.self.now in
    let n = ap (λ n. (receive_plan p w c.args.fd.0 n c.all.result.total c.args.amax c.args.omax).rows) c.all.ensures.count in
    let r = rows-alike p w c.args.fd.0 (length c.args.sizes.now) c.all.result.total (sum c.args.sizes.now) c.args.amax c.args.omax in
    c.rcvudata.ensures.sure (ap (λ (rows : List Row). has_effect (first rows)) (n ∙ r) ∙ h)
