use Rattle.std.proofs.Common.{◌≡◌, ◌∙◌, length, sym, ap, subst, arith}
use Rattle.std.specs.Prelude.{All, codes}
use Rattle.xti_words.specs.WrittenWords.{number_word}
use Rattle.xti_gbn.specs.declared.events.LinkEvent.TheVariants.{Timeout}
use Rattle.xti_gbn.specs.Wire.{HasSmall}
use Rattle.xti_gbn.specs.Ends.{Steps}
use Rattle.xti_gbn.proofs.Numbering.{length-packets_from}
use Rattle.xti_gbn.proofs.EndSteps.{told, small-packets, timeout-steps}
use Rattle.xti_gbn.proofs.ends.Ends.time_out.Goals as goal

pub put_all-requires : goal.put_all-requires
put_all-requires c =
    subst (All HasSmall) (sym (c.as_slice.ensures ∙ c.in_ok-packets.ensures.packets))
    (small-packets c.args.self.now.sender.base c.args.self.now.sender.kept c.in_ok-packets.ensures.small)

pub overflow_cast-len : goal.overflow_cast-len
overflow_cast-len c =
    omega (arith, ap length c.in_ok-packets.ensures.packets, length-packets_from c.args.self.now.sender.base c.args.self.now.sender.kept, c.in_ok-packets.ensures.few, c.len.ensures)

pub returns : goal.returns
returns c =
    let these = c.as_slice.ensures ∙ c.in_ok-packets.ensures.packets in
    let count : c.len.result ≡ length c.as_slice.result.now = c.len.ensures ∙ ap length (sym c.as_slice.ensures) in
    told (λ line. Steps Timeout c.args.self.now line c.put_all.new.self) c.number_line.result (number_word (codes "again ") c.len.result) c.number_line.ensures
    (subst (λ n. Steps Timeout c.args.self.now (number_word (codes "again ") n) c.put_all.new.self) (sym count)
    (timeout-steps c.args.self.now c.put_all.new.self c.as_slice.result.now these c.in_ok-put_all.ensures))
