use Rattle.std.proofs.Common.{sym, ap, ◌∙◌, [], ◌∷◌, ◌++◌, append-nil}
use Rattle.xti_script.specs.declared.generating.sizes.TheConstants.{ACCEPTING}
use Rattle.xti_script.specs.Generated.{line, receive_rounds}
use Rattle.xti_script.proofs.MoreLines.{added, more_receives}
use Rattle.xti_script.proofs.generating.connection.put_receive_rounds.Goals as goal

pub loop-round-init : goal.loop-round-init
unfolding receive_rounds
loop-round-init c = sym (append-nil c.args.lines.now.items)

pub loop-round-preserved : goal.loop-round-preserved
loop-round-preserved c =
    added c.args.lines.now.items c.loop-round.lines.items _ _ _ _ c.loop-round.invariant
    (c.in_ok-put.ensures ∙ ap (λ taken. c.loop-round.lines.items ++ line ACCEPTING taken ∷ []) c.in_ok-receive.ensures) (more_receives c.loop-round._round)
