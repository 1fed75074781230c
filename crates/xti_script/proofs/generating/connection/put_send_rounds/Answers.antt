use Rattle.std.proofs.Common.{sym, ap, ◌∙◌, [], ◌∷◌, ◌++◌, codes, append-nil}
use Rattle.xti_script.specs.declared.generating.sizes.TheConstants.{CONNECTING}
use Rattle.xti_script.specs.Generated.{line, sending, send_rounds}
use Rattle.xti_script.proofs.MoreLines.{added, more_sends}
use Rattle.xti_script.proofs.generating.connection.put_send_rounds.Goals as goal

pub loop-round-init : goal.loop-round-init
unfolding send_rounds
loop-round-init c = sym (append-nil c.args.lines.now.items)

pub loop-round-preserved : goal.loop-round-preserved
loop-round-preserved c =
    let call = c.in_ok-send.ensures ∙ ap (sending (codes "c")) c.in_ok-bytes.ensures in
    added c.args.lines.now.items c.loop-round.lines.items _ _ _ _ c.loop-round.invariant
    (c.in_ok-put.ensures ∙ ap (λ sent. c.loop-round.lines.items ++ line CONNECTING sent ∷ []) call) (more_sends c.args.shift c.loop-round.round)
