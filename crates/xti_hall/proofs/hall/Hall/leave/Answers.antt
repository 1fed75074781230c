use Rattle.std.proofs.Common.{ap, ◌∙◌, set, subst, [], ◌∷◌}
use Rattle.xti_hall_rule.specs.declared.setting.Setting.{Setting}
use Rattle.std.specs.Prelude.{None}
use Rattle.xti_hall_rule.specs.declared.view.View.{View}
use Rattle.xti_hall_rule.specs.Steps.{with_held}
use Rattle.xti_hall_rule.specs.Steps.{at}
use Rattle.xti_hall_rule.proofs.Lookups.{at_has}
use Rattle.xti_hall.proofs.Lookups.{left}
use Rattle.xti_hall.proofs.hall.Hall.leave.Goals as goal

pub put_back-requires-clause-held : goal.put_back-requires-clause-held
put_back-requires-clause-held g c = let r = c.requires.stands in let is = ap (λ s. s.view) c.seat.view_is in
    (r.0, at_has c.seat.inside.pass.me.0.held c.args.cell r.0 (ap (λ (z : View). at z c.args.cell) is ∙ r.1), subst (λ (z : Setting). g.C.Stands.stands z c.args.value ((c.args.cell, r.0) ∷ [])) c.requires.hall.1 r.2)

pub returns-clause-gone : goal.returns-clause-gone
returns-clause-gone g c = let is = ap (λ s. s.view) c.seat.view_is in
    left c.args.seat.now.view c.put_back.new.pass.me.0 c.args.cell (ap (λ m. m.0) c.put_back.ensures.gone ∙ ap (λ (z : View). with_held z (set z.held c.args.cell None) 0) is)
