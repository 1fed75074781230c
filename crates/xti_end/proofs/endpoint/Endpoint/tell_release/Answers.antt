use Rattle.std.proofs.Common.{◌≡◌, ◌∙◌, ℕ, List, Some, refl, sym, ap}
use Rattle.std.proofs.lemmas.Result.{IfOk-from_err}
use Rattle.xti_model.specs.declared.entry.Outcome.TheVariants.{Done}
use Rattle.xti_model.specs.declared.entry.Reply.{Reply}
use Rattle.xti_model.specs.declared.entry.Reply.TheVariants.{RelData}
use Rattle.xti_model.specs.Calls.Release as Release
use Rattle.xti_model.specs.Plan.{field, is_too_long, trimmed}
use Rattle.xti_model.specs.Step.{made}
use Rattle.xti_end.specs.Held.{Held, alone, parts, with_parts}
use Rattle.xti_end.specs.Taken.{release_step}
use Rattle.xti_end.proofs.Rows.{release-kept, release-lost}
use Rattle.xti_end.proofs.Rooms.{after_change, on_any_err, same_room}
use Rattle.xti_end.proofs.endpoint.Endpoint.tell_release.Goals as goal
use Rattle.xti_end.proofs.endpoint.Endpoint.tell_release.Goals.{then-is_too_long, else-is_too_long+in_ok-udata}

pub returns-in_err-udata-clause-step : goal.returns-in_err-udata-clause-step
returns-in_err-udata-clause-step c = IfOk-from_err _ _ c.from_residual.ensures.0

pub returns-in_err-udata-clause-still : goal.returns-in_err-udata-clause-still
returns-in_err-udata-clause-still c = IfOk-from_err _ _ c.from_residual.ensures.0

pub returns-in_err-udata-clause-room : goal.returns-in_err-udata-clause-room
returns-in_err-udata-clause-room c = same_room _

pub returns-in_err-udata-clause-err : goal.returns-in_err-udata-clause-err
returns-in_err-udata-clause-err c = on_any_err _ refl

pub returns-clause-step : goal.returns-clause-step
returns-clause-step c =
    let p = c.args.p.now in
    let h = c.args.self.now in
    let fd = c.args.fd.0 in
    let left = with_parts Release.after_receive h in
    let long : is_too_long (field (Release.release_data (parts h)) c.args.umax) ≡ c.is_too_long.result =
    ap (λ (x : List ℕ). is_too_long (field x c.args.umax)) (sym c.release_data-data.ensures) ∙ sym c.is_too_long.ensures in
    let told : Some (made p fd (Done c.if-is_too_long.reply) (alone left)) ≡ release_step p (alone h) fd c.args.umax (parts h) =
    elim c.if-is_too_long.branch [
      | then-is_too_long w ↦
          ap (λ (r : Reply). Some (made p fd (Done r) (alone left))) w.reply-is ∙
          release-lost p h fd c.args.umax c.requires.«open» (long ∙ w.if-is_too_long.true)
      | else-is_too_long+in_ok-udata w ↦
          ap (λ (r : Reply). Some (made p fd (Done r) (alone left))) w.reply-is ∙
          (ap (λ (u : List ℕ). Some (made p fd (Done (RelData u)) (alone left)))
          (w.in_ok-udata.ensures.copy ∙ ap (λ (x : List ℕ). trimmed x c.args.umax) c.release_data-data.ensures) ∙
          release-kept p h fd c.args.umax c.requires.«open» (long ∙ w.if-is_too_long.false))
    ] in
    c.done.ensures ∙ (ap (λ (x : Held). Some (made p fd (Done c.if-is_too_long.reply) (alone x))) c.take_release.ensures ∙ told)

pub returns-clause-still : goal.returns-clause-still
returns-clause-still c = λ none. let no = sym c.done.ensures ∙ none in cc no

pub returns-clause-room : goal.returns-clause-room
returns-clause-room c = after_change _ c.take_release.ensures
