use Rattle.std.proofs.Common.{sym, subst, Option, ℕ, List, Some, IfSome, refl, ap}
use Rattle.std.specs.List.{concat}
use Rattle.xti_base.specs.declared.kinds.Fd.{Fd}
use Rattle.xti_lent.specs.Answers.{Changed}
use Rattle.xti_lent.specs.Lending.{cells, number_of}
use Rattle.xti_data.specs.Portions.{pushing, piece_of, Pushes}
use Rattle.xti_data.proofs.Changes.{nothing-comes, empty-piece}
use Rattle.std.specs.Result.{OnOk}
use Rattle.xti_model.specs.Calls.Send as Send
use Rattle.xti_model.specs.Links.{at_linked}
use Rattle.xti_model.specs.World.{changed}
use Rattle.xti_lent.specs.Lends.{IsHeld}
use Rattle.xti_lent.proofs.Returned.{on-any-err, on-no-ok, same-cells}
use Rattle.xti_data.proofs.sending.push.Goals as goal

pub returns-then-not-portion-clause-ok : goal.returns-then-not-portion-clause-ok
returns-then-not-portion-clause-ok c =
    let l = c.args.lent.now in
    let bytes = concat c.args.parts.now in
    subst (λ (o : Option Fd). Changed (pushing c.args.fd.0 (number_of o) bytes c.args.portion) l l) (sym c.in-Some.is)
    (nothing-comes l.providers c.in-Some.peer.0 c.args.fd.0 c.args.portion.expedited (piece_of bytes c.args.portion) (cells l) (empty-piece bytes c.args.portion c.if-portion-eq0.true c.if-not-portion.true))

pub returns-in_default-clause-ok : goal.returns-in_default-clause-ok
returns-in_default-clause-ok c =
    ap (λ (o : Option Fd). changed c.args.lent.now.providers (cells c.args.lent.now) (pushing c.args.fd.0 (number_of o) (concat c.args.parts.now) c.args.portion)) (sym c.in_default.is)

pub returns-in_default-clause-kept : goal.returns-in_default-clause-kept
returns-in_default-clause-kept c = same-cells _

pub returns-in_default-clause-err : goal.returns-in_default-clause-err
returns-in_default-clause-err c = tt

pub returns-then-not-portion-clause-kept : goal.returns-then-not-portion-clause-kept
returns-then-not-portion-clause-kept c = same-cells _

pub returns-then-not-portion-clause-err : goal.returns-then-not-portion-clause-err
returns-then-not-portion-clause-err c = tt

pub indication-requires : goal.indication-requires
indication-requires c = c.requires.parts

pub returns-in_err-frame-clause-ok : goal.returns-in_err-frame-clause-ok
returns-in_err-frame-clause-ok c = on-no-ok _ _ c.from_residual.ensures.0

pub returns-in_err-frame-clause-kept : goal.returns-in_err-frame-clause-kept
returns-in_err-frame-clause-kept c = same-cells _

pub returns-in_err-frame-clause-err : goal.returns-in_err-frame-clause-err
returns-in_err-frame-clause-err c = on-any-err _ refl

pub push_data-requires-clause-own : goal.push_data-requires-clause-own
push_data-requires-clause-own c = c.requires.own

pub push_data-requires-clause-there : goal.push_data-requires-clause-there
push_data-requires-clause-there c = subst (λ (o : Option Fd). IfSome o (λ (x : Fd). IsHeld c.args.lent.now x.0)) c.in-Some.is c.requires.peer

pub push_data-requires-clause-kind : goal.push_data-requires-clause-kind
push_data-requires-clause-kind c = c.in_ok-frame.ensures.kind

pub returns-clause-ok : goal.returns-clause-ok
returns-clause-ok c =
    let k = c.push_data.new.lent in
    subst (λ (o : Option Fd). OnOk c.push_data.result (Pushes c.args.lent.now k c.args.fd.0 o c.args.parts.now c.args.portion)) (sym c.in-Some.is)
    (subst (λ (s : List ℕ). OnOk c.push_data.result (Changed (at_linked c.args.fd.0 (Some c.in-Some.peer.0) (Send.received c.args.portion.expedited s)) c.args.lent.now k)) c.in_ok-frame.ensures.symbols c.push_data.ensures.ok)

pub returns-clause-kept : goal.returns-clause-kept
returns-clause-kept c = c.push_data.ensures.kept

pub returns-clause-err : goal.returns-clause-err
returns-clause-err c = c.push_data.ensures.err
