use Rattle.std.proofs.Common.{Result, Err, ap}
use Rattle.std.specs.Prelude.{codes}
use Rattle.xti_words.specs.WrittenWords.{number_word}
use Rattle.xti_gbn.specs.declared.wire.Packet.{Packet}
use Rattle.xti_gbn.specs.declared.sender.OfferFail.{OfferFail}
use Rattle.xti_gbn.specs.declared.events.LinkEvent.TheVariants.{Offer}
use Rattle.xti_gbn.specs.declared.ends.Ends.{Ends}
use Rattle.xti_gbn.specs.Ends.{Steps}
use Rattle.xti_gbn.proofs.EndSteps.{told, sent-steps, full-steps}
use Rattle.xti_gbn.proofs.ends.Ends.offer.Goals as goal

pub returns-in_ok-put-in-Ok : goal.returns-in_ok-put-in-Ok
returns-in_ok-put-in-Ok c =
    told (λ line. Steps (Offer c.args.body.now) c.args.self.now line c.put.new.self) c.number_line.result (number_word (codes "sent ") c.in-Ok.packet.seq) c.number_line.ensures
    (sent-steps c.args.self.now c.put.new.self c.args.body.now c.offer.new.self c.in-Ok.packet c.requires.small c.requires.numbers
    c.in-Ok.ensures.room c.in-Ok.ensures.kept c.in-Ok.ensures.packet c.in_ok-put-in-Ok.ensures)

pub returns-in-Err-Full : goal.returns-in-Err-Full
returns-in-Err-Full c =
    let full = c.in-Err-Full.ensures.full c.in-Err-Full.field-0-0 c.in-Err-Full.field-0-1 in
    let is_full = full.0 (ap (λ (f : OfferFail). let r : Result Packet OfferFail = Err f in r) c.in-Err-Full.field-0-is) in
    let old : Ends = c.args.self.now in
    let new : Ends = record old { sender = c.offer.new.self } in
    told (λ line. Steps (Offer c.args.body.now) old line new) c.text_line.result (codes "full") c.text_line.ensures
    (full-steps old new c.args.body.now is_full.1 (ap (λ s. record old { sender = s }) c.in-Err-Full.ensures.err))
