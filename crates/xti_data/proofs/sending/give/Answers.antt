use Rattle.std.proofs.Common.{◌≡◌, ◌∙◌, sym, ap, subst, ◌∷◌, []}
use Rattle.std.specs.Prelude.{IfSome}
use Rattle.std.specs.List.{concat}
use Rattle.xti_model.specs.declared.profile.Providers.{Providers}
use Rattle.xti_model.specs.Calls.Send as Send
use Rattle.xti_model.specs.World.{World, endpoint, changed, at_endpoint}
use Rattle.xti_lent.specs.Lending.{cells, number_of}
use Rattle.xti_data.specs.Portions.{pushing, piece_of, IsWithin}
use Rattle.xti_data.proofs.Changes.{changed-append, linked-stays}
use Rattle.xti_data.proofs.Reached.{held-after}
use Rattle.xti_data.proofs.sending.give.Goals as goal

pub count_sent-requires-clause-there : goal.count_sent-requires-clause-there
count_sent-requires-clause-there c = held-after c.args.lent.now c.push.new.lent c.args.fd.0 c.push.ensures.kept c.requires.sender

pub count_sent-requires-clause-within : goal.count_sent-requires-clause-within
count_sent-requires-clause-within c =
    let l = c.args.lent.now in
    let m = c.push.new.lent in
    let s = linked-stays l.providers c.args.fd.0 c.args.fd.0 (number_of c.args.peer) c.args.portion c.args.portion.expedited (piece_of (concat c.args.parts.now) c.args.portion) (cells l) c.requires.within in
    subst (λ (p : Providers). IfSome (endpoint p (cells m) c.args.fd.0) (IsWithin p c.args.portion)) (sym c.push.ensures.kept.providers)
    (subst (λ (w : World). IfSome (endpoint l.providers w c.args.fd.0) (IsWithin l.providers c.args.portion)) (sym c.in_ok-push.ensures.ok) s)

pub returns-clause-ok : goal.returns-clause-ok
returns-clause-ok c =
    let l = c.args.lent.now in
    let m = c.push.new.lent in
    let portion = c.args.portion in
    let k = subst (λ (p : Providers). cells c.count_sent.new.lent ≡ changed p (cells m) (at_endpoint c.args.fd.0 (Send.sent p portion.expedited portion.ends portion.count) ∷ [])) c.push.ensures.kept.providers c.count_sent.ensures.cells in
    k ∙ ap (λ (w : World). changed l.providers w (at_endpoint c.args.fd.0 (Send.sent l.providers portion.expedited portion.ends portion.count) ∷ [])) c.in_ok-push.ensures.ok
    ∙ sym (changed-append l.providers (cells l) (pushing c.args.fd.0 (number_of c.args.peer) (concat c.args.parts.now) portion) (at_endpoint c.args.fd.0 (Send.sent l.providers portion.expedited portion.ends portion.count) ∷ []))
