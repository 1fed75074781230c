use Rattle.std.proofs.Common.{List, [], ◌++◌, refl, subst}
use Rattle.std.specs.Prelude.{flat_map, OnOk}
use Rattle.xti_model.specs.declared.entry.Entry.{Entry}
use Rattle.xti_laws_streams.specs.Copying.{before, ending, exchange, pieces}
use Rattle.xti_copy.specs.Going.{IsAt}
use Rattle.xti_copy.proofs.InStep.{connected-step}
use Rattle.xti_copy.proofs.Pieces.{comes-own}
use Rattle.xti_copy.proofs.Rows.{first-comes, then-comes}
use Rattle.xti_copy.proofs.copying.make_calls.Goals as goal

pub connect-requires-clause-at : goal.connect-requires-clause-at
connect-requires-clause-at g c κs within = c.requires.at

pub connect-requires-clause-comes : goal.connect-requires-clause-comes
connect-requires-clause-comes g c κs within =
    first-comes [] before (flat_map exchange (pieces c.args.input.now) ++ ending) c.requires.comes

pub exchange_all-requires-clause-ends : goal.exchange_all-requires-clause-ends
exchange_all-requires-clause-ends g c κs within = c.in_ok-ends.ensures.ends

pub exchange_all-requires-clause-at : goal.exchange_all-requires-clause-at
exchange_all-requires-clause-at g c κs within = c.in_ok-ends.ensures.at

pub exchange_all-requires-clause-comes : goal.exchange_all-requires-clause-comes
exchange_all-requires-clause-comes g c κs within =
    let ps : List Entry = flat_map exchange (pieces c.args.input.now) in
    first-comes before ps ending (then-comes [] before (ps ++ ending) c.requires.comes)

pub release-requires-clause-ends : goal.release-requires-clause-ends
release-requires-clause-ends g c κs within = c.in_ok-exchange_all.ensures.ends

pub release-requires-clause-step : goal.release-requires-clause-step
release-requires-clause-step g c κs within =
    connected-step (pieces c.args.input.now) c.exchange_all.new.io c.in_ok-exchange_all.ensures.at

pub release-requires-clause-at : goal.release-requires-clause-at
release-requires-clause-at g c κs within =
    let at = c.in_ok-exchange_all.ensures.at in record { providers = at.providers; entries = refl; free = at.free }

pub release-requires-clause-comes : goal.release-requires-clause-comes
release-requires-clause-comes g c κs within =
    let ps : List Entry = flat_map exchange (pieces c.args.input.now) in
    comes-own (before ++ ps) ending c.exchange_all.new.io c.in_ok-exchange_all.ensures.at
    (then-comes before ps ending (then-comes [] before (ps ++ ending) c.requires.comes))

pub returns : goal.returns
returns g c = record {
  at = subst (λ (z : List Entry). OnOk c.release.result (IsAt (z ++ ending) c.release.new.io)) c.in_ok-exchange_all.ensures.at.entries c.release.ensures.at;
}
