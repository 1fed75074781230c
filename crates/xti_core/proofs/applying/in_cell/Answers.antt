use Rattle.std.proofs.Common.{◌≡◌, ◌<◌, ◌∙◌, ap, sym, subst, Some}
use Rattle.xti_model.specs.declared.profile.Providers.{Providers}
use Rattle.xti_model.specs.World.{place_of, places}
use Rattle.xti_end.specs.Taken.{IsAt}
use Rattle.xti_lent.specs.Lending.{held_at}
use Rattle.xti_lent.proofs.Open.{own-place}
use Rattle.xti_lent.proofs.Written.{same-back}
use Rattle.xti_core.proofs.Settling.{none-taken}
use Rattle.xti_core.proofs.OneCell.{lifted, runs-out-alike, same-cells, if-ok, on-err}
use Rattle.xti_core.proofs.applying.in_cell.Goals as goal

pub local-requires : goal.local-requires
local-requires c =
    let e : held_at c.args.lent.now c.place_of.result ≡ Some c.endpoint-e.result.now = sym c.endpoint-e.ensures.now in
    let o = own-place c.args.lent.now.numbers c.args.lent.now.held c.place_of.result c.endpoint-e.result.now c.requires.places e in
    let q = c.place_of.ensures.place ∙ ap (λ (x : Providers). place_of x c.args.fd.0) c.providers.ensures.providers in
    subst (λ q. IsAt q c.endpoint-e.result.now.place c.args.call.now c.args.go) (sym c.providers.ensures.providers) (subst (λ m. IsAt c.args.lent.now.providers m c.args.call.now c.args.go) (sym (o ∙ q)) c.requires.at)

pub returns : goal.returns
returns c =
    let l = c.args.lent.now in
    let n = c.place_of.result in
    let e : held_at l n ≡ Some c.endpoint-e.result.now = sym c.endpoint-e.ensures.now in
    let q = c.place_of.ensures.place ∙ ap (λ (x : Providers). place_of x c.args.fd.0) c.providers.ensures.providers in
    let at : IsAt l.providers n c.args.call.now c.args.go = subst (λ m. IsAt l.providers m c.args.call.now c.args.go) (sym q) c.requires.at in
    let lt : n < places l.providers = subst (λ (x : Providers). n < places x) c.providers.ensures.providers c.place_of.ensures.bound in
    record {
      step = record {
        step = if-ok c.local.result _ _ (λ a h. lifted l n c.endpoint-e.result.now c.local.new.self c.args.call.now c.args.go a lt at c.requires.places e c.local.ensures.room (rw c.providers.ensures.providers at h)) c.local.ensures.step;
        still = if-ok c.local.result _ _ (λ a h i. same-back l n c.endpoint-e.result.now c.local.new.self e (h (none-taken a _ _ i))) c.local.ensures.still;
        sure = λ h. c.local.ensures.sure (rw c.providers.ensures.providers (runs-out-alike l n c.endpoint-e.result.now c.args.call.now c.args.go lt at c.requires.places e) ∙ h);
      };
      kept = same-cells l n c.endpoint-e.result.now c.local.new.self e c.local.ensures.room;
      err = on-err c.local.result _ _ (same-back l n c.endpoint-e.result.now c.local.new.self e) c.local.ensures.err;
    }
