-- The fields of a frame's primitive stand where they are read.
use Rattle.std.proofs.Common.{◌≡◌, ◌≤◌, ◌+◌, ℕ, true, List, length, Some, refl, arith}
use Rattle.tpi_grammar.specs.Kinds.{row_of}
use Rattle.tpi_grammar.specs.Measured.{IsFrame}
use Rattle.tpi_grammar.specs.declared.kind.Kind.{Kind}
use Rattle.tpi_grammar.specs.declared.kind.Kind.TheVariants as kind
use Rattle.tpi_prim.specs.declared.primitive.Part.{Part}
use Rattle.tpi_prim.specs.declared.primitive.Part.TheVariants.{Dest, Src, Res, Addr, Opt}
use Rattle.tpi_prim.specs.Primitive.{more_of, seq_of, reason_of, part_of, has_more, has_seq, has_reason, has_part}
use Rattle.tpi_prim.specs.Fields.{word_in, part_in, flag_in, read_as, kind_in, primitive_in, LiesIn, seq_place, reason_place, part_place}
use Rattle.tpi_prim.proofs.FrameReads.{frame_lies}

more_at : (k : Kind) (bs : List ℕ) → has_more k ≡ true → (more_of (read_as k bs) ≡ Some (flag_in bs)) × (LiesIn (row_of k).slots 12 bs → 16 ≤ length bs)
more_at kind.T_DATA_REQ bs has = (refl, λ l. l.1)
more_at kind.T_EXDATA_REQ bs has = (refl, λ l. l.1)
more_at kind.T_DATA_IND bs has = (refl, λ l. l.1)
more_at kind.T_EXDATA_IND bs has = (refl, λ l. l.1)
more_at _ bs has = absurd (cc)

pub more_is : (bs : List ℕ) → has_more (kind_in bs) ≡ true → more_of (primitive_in bs) ≡ Some (flag_in bs)
unfolding primitive_in
more_is bs has = (more_at (kind_in bs) bs has).0

pub more_fits : (bs : List ℕ) → IsFrame bs → has_more (kind_in bs) ≡ true → 16 ≤ length bs
more_fits bs frame has = (more_at (kind_in bs) bs has).1 (frame_lies bs frame)

seq_at : (k : Kind) (bs : List ℕ) → has_seq k ≡ true
    → (seq_of (read_as k bs) ≡ Some (word_in bs (seq_place k))) × (LiesIn (row_of k).slots 12 bs → seq_place k + 4 ≤ length bs)
seq_at kind.T_CONN_RES bs has = (refl, λ l. l.1.1.1)
seq_at kind.T_DISCON_REQ bs has = (refl, λ l. l.1)
seq_at kind.T_CONN_IND bs has = (refl, λ l. l.1.1.1)
seq_at kind.T_DISCON_IND bs has = (refl, λ l. l.1.1)
seq_at _ bs has = absurd (cc)

pub seq_is : (bs : List ℕ) → has_seq (kind_in bs) ≡ true → seq_of (primitive_in bs) ≡ Some (word_in bs (seq_place (kind_in bs)))
unfolding primitive_in
seq_is bs has = (seq_at (kind_in bs) bs has).0

pub seq_fits : (bs : List ℕ) → IsFrame bs → has_seq (kind_in bs) ≡ true → seq_place (kind_in bs) + 4 ≤ length bs
seq_fits bs frame has = (seq_at (kind_in bs) bs has).1 (frame_lies bs frame)

reason_at : (k : Kind) (bs : List ℕ) → has_reason k ≡ true
    → (reason_of (read_as k bs) ≡ Some (word_in bs (reason_place k))) × (LiesIn (row_of k).slots 12 bs → reason_place k + 4 ≤ length bs)
reason_at kind.T_DISCON_IND bs has = (refl, λ l. omega arith)
reason_at kind.T_UDERROR_IND bs has = (refl, λ l. l.1.1.1)
reason_at _ bs has = absurd (cc)

pub reason_is : (bs : List ℕ) → has_reason (kind_in bs) ≡ true → reason_of (primitive_in bs) ≡ Some (word_in bs (reason_place (kind_in bs)))
unfolding primitive_in
reason_is bs has = (reason_at (kind_in bs) bs has).0

pub reason_fits : (bs : List ℕ) → IsFrame bs → has_reason (kind_in bs) ≡ true → reason_place (kind_in bs) + 4 ≤ length bs
reason_fits bs frame has = (reason_at (kind_in bs) bs has).1 (frame_lies bs frame)

-- where a part is read
pub record PartAt (which : Part) (k : Kind) (bs : List ℕ) : Type 0 where
  pub part : part_of which (read_as k bs) ≡ Some (part_in bs (part_place which k))
  pub words : LiesIn (row_of k).slots 12 bs → part_place which k + 8 ≤ length bs
  pub bytes : LiesIn (row_of k).slots 12 bs → 8 + word_in bs (part_place which k + 4) + word_in bs (part_place which k) ≤ length bs

part_at : (which : Part) (k : Kind) (bs : List ℕ) → has_part which k ≡ true → PartAt which k bs
part_at Dest kind.T_CONN_REQ bs has = record { part = refl; words = λ l. omega arith; bytes = λ l. l.0 }
part_at Dest kind.T_UNITDATA_REQ bs has = record { part = refl; words = λ l. omega arith; bytes = λ l. l.0 }
part_at Dest kind.T_UDERROR_IND bs has = record { part = refl; words = λ l. omega arith; bytes = λ l. l.0 }
part_at Src kind.T_CONN_IND bs has = record { part = refl; words = λ l. omega arith; bytes = λ l. l.0 }
part_at Src kind.T_UNITDATA_IND bs has = record { part = refl; words = λ l. omega arith; bytes = λ l. l.0 }
part_at Res kind.T_CONN_CON bs has = record { part = refl; words = λ l. omega arith; bytes = λ l. l.0 }
part_at Addr kind.T_BIND_REQ bs has = record { part = refl; words = λ l. omega arith; bytes = λ l. l.0 }
part_at Addr kind.T_BIND_ACK bs has = record { part = refl; words = λ l. omega arith; bytes = λ l. l.0 }
part_at Opt kind.T_CONN_REQ bs has = record { part = refl; words = λ l. omega arith; bytes = λ l. l.1.0 }
part_at Opt kind.T_CONN_RES bs has = record { part = refl; words = λ l. omega arith; bytes = λ l. l.1.0 }
part_at Opt kind.T_UNITDATA_REQ bs has = record { part = refl; words = λ l. omega arith; bytes = λ l. l.1.0 }
part_at Opt kind.T_CONN_IND bs has = record { part = refl; words = λ l. omega arith; bytes = λ l. l.1.0 }
part_at Opt kind.T_CONN_CON bs has = record { part = refl; words = λ l. omega arith; bytes = λ l. l.1.0 }
part_at Opt kind.T_UNITDATA_IND bs has = record { part = refl; words = λ l. omega arith; bytes = λ l. l.1.0 }
part_at Opt kind.T_UDERROR_IND bs has = record { part = refl; words = λ l. omega arith; bytes = λ l. l.1.0 }
part_at _ _ bs has = absurd (cc)

pub part_is : (which : Part) (bs : List ℕ) → has_part which (kind_in bs) ≡ true → part_of which (primitive_in bs) ≡ Some (part_in bs (part_place which (kind_in bs)))
unfolding primitive_in
part_is which bs has = (part_at which (kind_in bs) bs has).part

pub part_words : (which : Part) (bs : List ℕ) → IsFrame bs → has_part which (kind_in bs) ≡ true → part_place which (kind_in bs) + 8 ≤ length bs
part_words which bs frame has = (part_at which (kind_in bs) bs has).words (frame_lies bs frame)

pub part_bytes : (which : Part) (bs : List ℕ) → IsFrame bs → has_part which (kind_in bs) ≡ true
    → 8 + word_in bs (part_place which (kind_in bs) + 4) + word_in bs (part_place which (kind_in bs)) ≤ length bs
part_bytes which bs frame has = (part_at which (kind_in bs) bs has).bytes (frame_lies bs frame)
