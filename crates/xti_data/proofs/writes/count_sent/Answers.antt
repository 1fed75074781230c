use Rattle.std.proofs.Common.{◌≡◌, ◌∙◌, sym, ap, subst, Option}
use Rattle.std.specs.Prelude.{IfSome}
use Rattle.xti_model.specs.declared.profile.Providers.{Providers}
use Rattle.xti_model.specs.Calls.Send as Send
use Rattle.xti_model.specs.Endpoint.{Endpoint}
use Rattle.xti_model.specs.World.{endpoint_in, place_of, generation_of, change_endpoint}
use Rattle.xti_end.specs.Held.{cell}
use Rattle.xti_lent.proofs.Lendings.{endpoint-is}
use Rattle.xti_lent.proofs.Open.{own-place}
use Rattle.xti_lent.proofs.Written.{fd-written, written-same, lent-by}
use Rattle.xti_data.specs.Portions.{IsWithin}
use Rattle.xti_data.proofs.writes.count_sent.Goals as goal

pub endpoint-requires : goal.endpoint-requires
endpoint-requires c = lent-by c.args.lent.now c.providers.result.now c.args.fd.0 c.place_of.result c.providers.ensures.providers c.place_of.ensures.place c.requires.there

pub count_sent-requires-clause-place : goal.count_sent-requires-clause-place
count_sent-requires-clause-place c = own-place c.args.lent.now.numbers c.args.lent.now.held c.place_of.result c.endpoint.result.now c.requires.own (sym c.endpoint.ensures.now) ∙ c.place_of.ensures.place

pub count_sent-requires-clause-within : goal.count_sent-requires-clause-within
count_sent-requires-clause-within c =
    let q : c.place_of.result ≡ place_of c.args.lent.now.providers c.args.fd.0 = c.place_of.ensures.place ∙ ap (λ (p : Providers). place_of p c.args.fd.0) c.providers.ensures.providers in
    subst (λ (p : Providers). IfSome (endpoint_in (generation_of p c.args.fd.0) (cell c.endpoint.result.now)) (IsWithin p c.args.portion)) (sym c.providers.ensures.providers)
    (subst (λ (o : Option Endpoint). IfSome o (IsWithin c.args.lent.now.providers c.args.portion)) (endpoint-is c.args.lent.now c.args.fd.0 c.endpoint.result.now (rw q at (sym c.endpoint.ensures.now))) c.requires.within)

pub returns-clause-cells : goal.returns-clause-cells
returns-clause-cells c =
    let l = c.args.lent.now in
    let q : c.place_of.result ≡ place_of l.providers c.args.fd.0 = c.place_of.ensures.place ∙ ap (λ (p : Providers). place_of p c.args.fd.0) c.providers.ensures.providers in
    let k = subst (λ (p : Providers). cell c.count_sent.new.at ≡ change_endpoint (generation_of p c.args.fd.0) (Send.sent p c.args.portion.expedited c.args.portion.ends c.args.portion.count) (cell c.endpoint.result.now)) c.providers.ensures.providers c.count_sent.ensures.cell in
    fd-written l c.args.fd.0 c.place_of.result c.endpoint.result.now c.count_sent.new.at (Send.sent l.providers c.args.portion.expedited c.args.portion.ends c.args.portion.count) q (sym c.endpoint.ensures.now) k

pub returns-clause-kept : goal.returns-clause-kept
returns-clause-kept c = written-same c.args.lent.now c.place_of.result c.endpoint.result.now c.count_sent.new.at (sym c.endpoint.ensures.now) c.count_sent.ensures.place
