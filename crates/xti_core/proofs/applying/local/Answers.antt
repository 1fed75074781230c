use Rattle.std.proofs.Common.{◌≡◌, true, ◌∙◌, sym, subst}
use Rattle.xti_model.specs.World.{place_of}
use Rattle.xti_lent.specs.Lending.{Lending, is_lent}
use Rattle.xti_lent.proofs.Named.{held-lent}
use Rattle.xti_lent.proofs.Written.{still-held}
use Rattle.xti_lent.proofs.Places.{place-below}
use Rattle.xti_core.proofs.applying.local.Goals as goal
use Rattle.xti_core.proofs.applying.local.Goals.{in-TRcv, in_default}

pub take_room-requires : goal.take_room-requires
take_room-requires c =
    let l = c.match-call.lent in
    let kept = c.in_cell-applied.ensures.kept in
    let same : l ≡ c.args.lent.now = elim c.match-call.branch [
      | in-TRcv w ↦ let i = w.lent-is in let e = w.lend_room-has_room.ensures in cc
      | in_default w ↦ let i = w.lent-is in cc
    ] in
    let here : is_lent l (place_of l.providers c.args.fd.0) ≡ true = subst (λ (x : Lending). is_lent x (place_of x.providers c.args.fd.0) ≡ true) (sym same) c.requires.lent in
    rw kept.providers (still-held l c.in_cell-applied.new.lent (place_of l.providers c.args.fd.0) kept ∙ held-lent l (place_of l.providers c.args.fd.0) (place-below l.providers c.args.fd.0) here)
