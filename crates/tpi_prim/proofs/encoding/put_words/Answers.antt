use Rattle.tpi_prim.proofs.Words.{words_grown}
use Rattle.tpi_prim.proofs.encoding.put_words.Goals as goal

pub returns : goal.returns
returns c =
    let first = c.put_field-place in
    let second = c.put_field-place-2 in
    let third = c.put_field in
    words_grown c.args.fields.now c.args.place first.result second.result c.args.out.now.items first.new.out.items second.new.out.items third.new.out.items c.told-fields
    first.ensures.place second.ensures.place first.ensures.items second.ensures.items third.ensures.items
