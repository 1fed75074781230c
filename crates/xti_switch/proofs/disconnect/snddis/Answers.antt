use Rattle.std.proofs.Common.{◌≡◌, ◌∙◌, refl, sym, ap, subst, true, false}
use Rattle.std.specs.Prelude.{is_some}
use Rattle.std.proofs.lemmas.Result.{IfOk-from_err}
use Rattle.xti_base.specs.declared.kinds.State.TheVariants.{T_INCON}
use Rattle.xti_end.specs.Held.{parts}
use Rattle.xti_lent.specs.Answers.{Changed}
use Rattle.xti_lent.specs.Fit.{SameCells}
use Rattle.xti_lent.specs.Lending.{Lending, cells}
use Rattle.xti_lent.proofs.Written.{own-kept}
use Rattle.xti_switch.specs.Disconnects.{rejecting, EndsOwn}
use Rattle.xti_switch.proofs.Disconnecting.{asked-there, changes-ending, changes-rejecting, disconnect_of, disconnects, little-data}
use Rattle.xti_switch.proofs.Plans.{effect-open, in-state, refused-open, refused-shut}
use Rattle.xti_switch.proofs.Reaching.{disconnect-reaches, rejection-reaches}
use Rattle.xti_lent.proofs.Returned.{not-blocked, on-any-err, open-as, same-cells}
use Rattle.xti_switch.proofs.disconnect.snddis.Goals as goal
use Rattle.xti_switch.proofs.disconnect.snddis.Goals.{then-is+in_ok-reject, else-is+in_ok-end_own}

pub reject-requires-clause-reach : goal.reject-requires-clause-reach
reject-requires-clause-reach c = rejection-reaches c.args.lent.now c.args.fd c.args.seq c.args.udata.now (parts c.in-Some.e.now) c.requires.lent (sym c.in-Some.ensures.endpoint)

pub end_own-requires-clause-reach : goal.end_own-requires-clause-reach
end_own-requires-clause-reach c = disconnect-reaches c.args.lent.now c.args.fd c.args.seq c.args.udata.now (parts c.in-Some.e.now) c.requires.lent (sym c.in-Some.ensures.endpoint)

pub open_endpoint-requires : goal.open_endpoint-requires
open_endpoint-requires c = c.requires.fit.places

pub refused-requires : goal.refused-requires
refused-requires c = c.requires.fit.places

pub returns-in_default-clause-step : goal.returns-in_default-clause-step
returns-in_default-clause-step c = c.refused.ensures ∙ refused-shut c.args.lent.now.providers (cells c.args.lent.now) c.args.fd.0 (disconnect_of c.args.fd.0 c.args.seq.0 c.args.udata.now) (sym c.in_default.ensures.endpoint)

pub returns-in_default-clause-still : goal.returns-in_default-clause-still
returns-in_default-clause-still c = λ _. refl

pub returns-in_default-clause-kept : goal.returns-in_default-clause-kept
returns-in_default-clause-kept c = same-cells _

pub returns-in_default-clause-err : goal.returns-in_default-clause-err
returns-in_default-clause-err c = tt

pub returns-in_default-clause-sure : goal.returns-in_default-clause-sure
returns-in_default-clause-sure c = λ _. refl

pub refusal-requires : goal.refusal-requires
refusal-requires c = open-as c.args.lent.now.providers c.args.fd.0 c.in-Some.e.now c.in-Some.ensures.open

pub done-requires : goal.done-requires
done-requires c = c.requires.fit.places

pub returns-in-Some-refusal-clause-step : goal.returns-in-Some-refusal-clause-step
returns-in-Some-refusal-clause-step c = c.done.ensures ∙ refused-open c.args.lent.now.providers (cells c.args.lent.now) c.args.fd.0 (disconnect_of c.args.fd.0 c.args.seq.0 c.args.udata.now) (parts c.in-Some.e.now) (sym c.in-Some.ensures.endpoint) c.in-Some-refusal.reply c.in-Some-refusal.ensures

pub returns-in-Some-refusal-clause-still : goal.returns-in-Some-refusal-clause-still
returns-in-Some-refusal-clause-still c = λ _. refl

pub returns-in-Some-refusal-clause-kept : goal.returns-in-Some-refusal-clause-kept
returns-in-Some-refusal-clause-kept c = same-cells _

pub returns-in-Some-refusal-clause-err : goal.returns-in-Some-refusal-clause-err
returns-in-Some-refusal-clause-err c = tt

pub returns-in-Some-refusal-clause-sure : goal.returns-in-Some-refusal-clause-sure
returns-in-Some-refusal-clause-sure c = λ _. refl

pub state-requires : goal.state-requires
state-requires c = open-as c.args.lent.now.providers c.args.fd.0 c.in-Some.e.now c.in-Some.ensures.open

pub reject-requires-clause-own : goal.reject-requires-clause-own
reject-requires-clause-own c = c.requires.fit.places

pub reject-requires-clause-there : goal.reject-requires-clause-there
reject-requires-clause-there c = ap is_some c.in-Some.ensures.held

pub reject-requires-clause-asked : goal.reject-requires-clause-asked
reject-requires-clause-asked c =
    asked-there c.args.lent.now c.args.fd.0 c.args.seq.0 c.args.udata.now (parts c.in-Some.e.now) (sym c.in-Some.ensures.endpoint) c.in_default-refusal.ensures (in-state (parts c.in-Some.e.now) c.state.result T_INCON c.is.result true c.state.ensures c.is.ensures c.if-is.true)

pub reject-requires-clause-udata : goal.reject-requires-clause-udata
reject-requires-clause-udata c = little-data c.args.seq.0 c.args.udata.now (parts c.in-Some.e.now) c.in_default-refusal.ensures

pub returns-in_err-reject-clause-step : goal.returns-in_err-reject-clause-step
returns-in_err-reject-clause-step c = IfOk-from_err _ _ c.from_residual.ensures.0

pub returns-in_err-reject-clause-still : goal.returns-in_err-reject-clause-still
returns-in_err-reject-clause-still c = IfOk-from_err _ _ c.from_residual.ensures.0

pub returns-in_err-reject-clause-kept : goal.returns-in_err-reject-clause-kept
returns-in_err-reject-clause-kept c = c.in_err-reject.ensures.kept

pub returns-in_err-reject-clause-err : goal.returns-in_err-reject-clause-err
returns-in_err-reject-clause-err c = on-any-err _ c.in_err-reject.ensures.err

pub returns-in_err-reject-clause-sure : goal.returns-in_err-reject-clause-sure
returns-in_err-reject-clause-sure c =
    λ none.
    let no : true ≡ false = sym (effect-open c.args.lent.now.providers (cells c.args.lent.now) c.args.fd.0 (disconnect_of c.args.fd.0 c.args.seq.0 c.args.udata.now) (parts c.in-Some.e.now) (sym c.in-Some.ensures.endpoint) c.in_default-refusal.ensures) ∙ none in
    cc no

pub returns-in_err-end_own-clause-step : goal.returns-in_err-end_own-clause-step
returns-in_err-end_own-clause-step c = IfOk-from_err _ _ c.from_residual-in_err-end_own.ensures.0

pub returns-in_err-end_own-clause-still : goal.returns-in_err-end_own-clause-still
returns-in_err-end_own-clause-still c = IfOk-from_err _ _ c.from_residual-in_err-end_own.ensures.0

pub returns-in_err-end_own-clause-kept : goal.returns-in_err-end_own-clause-kept
returns-in_err-end_own-clause-kept c = c.in_err-end_own.ensures.kept

pub returns-in_err-end_own-clause-err : goal.returns-in_err-end_own-clause-err
returns-in_err-end_own-clause-err c = on-any-err _ c.in_err-end_own.ensures.err

pub returns-in_err-end_own-clause-sure : goal.returns-in_err-end_own-clause-sure
returns-in_err-end_own-clause-sure c =
    λ none.
    let no : true ≡ false = sym (effect-open c.args.lent.now.providers (cells c.args.lent.now) c.args.fd.0 (disconnect_of c.args.fd.0 c.args.seq.0 c.args.udata.now) (parts c.in-Some.e.now) (sym c.in-Some.ensures.endpoint) c.in_default-refusal.ensures) ∙ none in
    cc no

pub end_own-requires-clause-fit : goal.end_own-requires-clause-fit
end_own-requires-clause-fit c = c.requires.fit

pub end_own-requires-clause-open : goal.end_own-requires-clause-open
end_own-requires-clause-open c = ap is_some (sym c.in-Some.ensures.endpoint)

pub end_own-requires-clause-udata : goal.end_own-requires-clause-udata
end_own-requires-clause-udata c = little-data c.args.seq.0 c.args.udata.now (parts c.in-Some.e.now) c.in_default-refusal.ensures

pub done-requires-2 : goal.done-requires-2
done-requires-2 c =
    let own = λ (k : Lending) (s : SameCells c.args.lent.now k). own-kept c.args.lent.now k s c.requires.fit.places in
    elim c.if-is.branch [
      | then-is+in_ok-reject w ↦ own c.if-is.lent (subst (SameCells c.args.lent.now) (sym w.lent-is) w.in_ok-reject.ensures.kept)
      | else-is+in_ok-end_own w ↦ own c.if-is.lent (subst (SameCells c.args.lent.now) (sym w.lent-is) w.in_ok-end_own.ensures.kept)
    ]

pub returns-clause-step : goal.returns-clause-step
returns-clause-step c =
    let l = c.args.lent.now in
    let k = c.if-is.lent in
    let fd = c.args.fd.0 in
    let number = c.args.seq.0 in
    let udata = c.args.udata.now in
    let e = parts c.in-Some.e.now in
    let o = sym c.in-Some.ensures.endpoint in
    elim c.if-is.branch [
      | then-is+in_ok-reject w ↦ disconnects l k fd number udata e c.done-2.result o c.in_default-refusal.ensures (subst (SameCells l) (sym w.lent-is) w.in_ok-reject.ensures.kept)
          (changes-rejecting l k fd number udata e o (in-state e c.state.result T_INCON c.is.result true c.state.ensures c.is.ensures w.if-is.true)
          (subst (λ (m : Lending). Changed (rejecting l fd number udata) l m) (sym w.lent-is) w.in_ok-reject.ensures.ok)) c.done-2.ensures
      | else-is+in_ok-end_own w ↦ disconnects l k fd number udata e c.done-2.result o c.in_default-refusal.ensures (subst (SameCells l) (sym w.lent-is) w.in_ok-end_own.ensures.kept)
          (changes-ending l k fd number udata e o (in-state e c.state.result T_INCON c.is.result false c.state.ensures c.is.ensures w.if-is.false)
          (subst (λ (m : Lending). EndsOwn l m fd udata) (sym w.lent-is) w.in_ok-end_own.ensures.ok)) c.done-2.ensures
    ]

pub returns-clause-still : goal.returns-clause-still
returns-clause-still c = not-blocked c.args.lent.now c.if-is.lent c.done-2.result _ c.done-2.ensures

pub returns-clause-kept : goal.returns-clause-kept
returns-clause-kept c = elim c.if-is.branch [
  | then-is+in_ok-reject w ↦ subst (SameCells c.args.lent.now) (sym w.lent-is) w.in_ok-reject.ensures.kept
  | else-is+in_ok-end_own w ↦ subst (SameCells c.args.lent.now) (sym w.lent-is) w.in_ok-end_own.ensures.kept
]

pub returns-clause-err : goal.returns-clause-err
returns-clause-err c = tt

pub returns-clause-sure : goal.returns-clause-sure
returns-clause-sure c = λ _. refl
