use Rattle.std.proofs.Common.{◌∙◌, sym}
use Rattle.std.specs.Prelude.{codes}
use Rattle.xti_gbn.specs.declared.events.LinkEvent.TheVariants.{Data}
use Rattle.xti_gbn.specs.Receiving.{taken_body, expected_after}
use Rattle.xti_gbn.specs.Reports.{arrival_line}
use Rattle.xti_gbn.specs.Ends.{Steps}
use Rattle.xti_gbn.proofs.EndSteps.{told, told-on, data-none-steps, data-some-steps, found-text, came-below}
use Rattle.xti_gbn.proofs.Spellings.{packet-moved}
use Rattle.xti_gbn.proofs.ends.Ends.data.Goals as goal

pub returns-in_default-clause-steps : goal.returns-in_default-clause-steps
returns-in_default-clause-steps g c =
    told (λ line. Steps (Data c.args.place) c.args.self.now line c.args.self.now) c.text_line.result (codes "none") c.text_line.ensures
    (data-none-steps c.args.self.now c.args.place (sym c.in_default.ensures))

pub carry_packet-requires-clause-text : goal.carry_packet-requires-clause-text
carry_packet-requires-clause-text g c =
    packet-moved c.as_slice.result.now c.in-Some.text.now c.as_slice.ensures (found-text c.args.self.now c.args.place c.in-Some.text.now c.requires.stands (sym c.in-Some.ensures))

pub arrive-requires : goal.arrive-requires
arrive-requires g c =
    let came = c.in_ok-packet.ensures.packet in
    came-below c.args.self.now c.args.place c.in-Some.text.now c.in_ok-packet.packet c.requires.stands (sym c.in-Some.ensures) came.0 (sym c.as_slice.ensures ∙ came.1)

pub returns-clause-steps : goal.returns-clause-steps
returns-clause-steps g c =
    let came = c.in_ok-packet.ensures.packet in
    told-on (λ line. Steps (Data c.args.place) c.args.self.now line c.arrive.new.self) c.arrive.result
    (arrival_line c.in_ok-packet.packet.seq (taken_body c.args.self.now.receiver c.in_ok-packet.packet) (expected_after c.args.self.now.receiver c.in_ok-packet.packet))
    _ c.arrive.ensures.line c.arrive.ensures.after
    (λ after. data-some-steps c.args.self.now c.arrive.new.self c.args.place c.in-Some.text.now c.in_ok-packet.packet (sym c.in-Some.ensures) came.0 (sym c.as_slice.ensures ∙ came.1) after)
