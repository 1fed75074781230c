use Rattle.std.proofs.Common.{◌≡◌, length, drop}
use Rattle.tpi_prim.specs.Primitive.{filled}
use Rattle.tpi_prim.specs.Indication.{data_ind}
use Rattle.tpi_prim.proofs.Writing.{spelled}
use Rattle.tpi_prim.proofs.FrameReads.{reads_back}
use Rattle.tpi_prim.proofs.indication.IndicationWriter.finish.Goals as goal

pub of-requires : goal.of-requires
of-requires c =
    let i = c.self.inside in
    let full : length (drop 16 i.bytes.items) ≡ i.len = rw (← c.self.view_is) at c.requires in
    let s = spelled i.expedited i.more i.len i.bytes.items i.bytes.capacity c.self.invariant full in
    (filled (data_ind i.expedited i.more (drop 16 i.bytes.items)), s.good, s.text)

pub returns : goal.returns
returns c =
    let i = c.self.inside in
    let full : length (drop 16 i.bytes.items) ≡ i.len = rw (← c.self.view_is) at c.requires in
    let p = data_ind i.expedited i.more (drop 16 i.bytes.items) in
    rw (← c.self.view_is) (rw c.of.ensures (reads_back p i.bytes.items (spelled i.expedited i.more i.len i.bytes.items i.bytes.capacity c.self.invariant full)))
