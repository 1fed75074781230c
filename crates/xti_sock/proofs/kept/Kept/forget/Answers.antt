use Rattle.std.proofs.Common.{◌∙◌, eqb, not, rules, ap}
use Rattle.std.proofs.lemmas.Fn.{filter_same}
use Rattle.xti_base.specs.declared.kinds.Seq.{Seq}
use Rattle.xti_sock.specs.Keeping.{Keeping, without}
use Rattle.xti_sock.proofs.kept.Kept.forget.Goals as goal

pub returns-clause-numbers : goal.returns-clause-numbers
returns-clause-numbers c =
    let rest = filter_same _ (λ (k : Seq). not (eqb k.0 c.args.seq.0)) _ (λ x b f' r. search rules) _ _ c.retain.ensures.filtered in
    rest ∙ ap (λ (k : Keeping). without c.args.seq k.numbers) c.self.view_is
