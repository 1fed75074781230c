-- The primitives as rows of the table of frames.
use Rattle.std.specs.Prelude.{◌≡◌, ℕ, Bool, true, false, List, [], ◌∷◌, Option, Some, None, if◌then◌else◌, slice_index_or}
use Rattle.tpi_grammar.specs.Frame.{Value, num, text, Filled, IsFilled, spelling}
use Rattle.tpi_grammar.specs.Kinds.{row_of}
use Rattle.tpi_grammar.specs.declared.kind.Kind.{Kind}
use Rattle.tpi_grammar.specs.declared.kind.Kind.TheVariants as kind
use Rattle.tpi_prim.specs.declared.primitive.Prim.{Prim}
use Rattle.tpi_prim.specs.declared.primitive.Prim.TheVariants as prim
use Rattle.tpi_prim.specs.declared.primitive.Part.{Part}
use Rattle.tpi_prim.specs.declared.primitive.Part.TheVariants.{Dest, Src, Res, Addr, Opt}

-- the row of a kind, with these values and user data
abbrev pub of_kind : Kind → List Value → List ℕ → Filled
of_kind k vs user = record { row = row_of k; values = vs; user = user }

abbrev pub flag_value : Bool → Value
flag_value more = num (if more then 1 else 0)

-- what a primitive fills in
abbrev pub filled : Prim → Filled
filled (prim.T_CONN_REQ dest opt user) = of_kind kind.T_CONN_REQ (text dest ∷ text opt ∷ []) user
filled (prim.T_CONN_RES acceptor_id opt seq_number user) = of_kind kind.T_CONN_RES (num acceptor_id ∷ text opt ∷ num seq_number ∷ []) user
filled (prim.T_DISCON_REQ seq_number user) = of_kind kind.T_DISCON_REQ (num seq_number ∷ []) user
filled (prim.T_DATA_REQ more user) = of_kind kind.T_DATA_REQ (flag_value more ∷ []) user
filled (prim.T_EXDATA_REQ more user) = of_kind kind.T_EXDATA_REQ (flag_value more ∷ []) user
filled (prim.T_BIND_REQ addr conind_number) = of_kind kind.T_BIND_REQ (text addr ∷ num conind_number ∷ []) []
filled prim.T_UNBIND_REQ = of_kind kind.T_UNBIND_REQ [] []
filled (prim.T_UNITDATA_REQ dest opt user) = of_kind kind.T_UNITDATA_REQ (text dest ∷ text opt ∷ []) user
filled (prim.T_ORDREL_REQ user) = of_kind kind.T_ORDREL_REQ [] user
filled (prim.T_CONN_IND src opt seq_number user) = of_kind kind.T_CONN_IND (text src ∷ text opt ∷ num seq_number ∷ []) user
filled (prim.T_CONN_CON res opt user) = of_kind kind.T_CONN_CON (text res ∷ text opt ∷ []) user
filled (prim.T_DISCON_IND reason seq_number user) = of_kind kind.T_DISCON_IND (num reason ∷ num seq_number ∷ []) user
filled (prim.T_DATA_IND more user) = of_kind kind.T_DATA_IND (flag_value more ∷ []) user
filled (prim.T_EXDATA_IND more user) = of_kind kind.T_EXDATA_IND (flag_value more ∷ []) user
filled (prim.T_BIND_ACK addr conind_number) = of_kind kind.T_BIND_ACK (text addr ∷ num conind_number ∷ []) []
filled (prim.T_ERROR_ACK error_prim tli_error unix_error) = of_kind kind.T_ERROR_ACK (num error_prim ∷ num tli_error ∷ num unix_error ∷ []) []
filled (prim.T_OK_ACK correct_prim) = of_kind kind.T_OK_ACK (num correct_prim ∷ []) []
filled (prim.T_UNITDATA_IND src opt user) = of_kind kind.T_UNITDATA_IND (text src ∷ text opt ∷ []) user
filled (prim.T_UDERROR_IND dest opt error_type) = of_kind kind.T_UDERROR_IND (text dest ∷ text opt ∷ num error_type ∷ []) []
filled (prim.T_ORDREL_IND user) = of_kind kind.T_ORDREL_IND [] user

-- the kinds at their numbers; the last one stands where no kind has the number
abbrev pub kinds_by_number : List Kind
kinds_by_number =
    kind.T_CONN_REQ ∷ kind.T_CONN_RES ∷ kind.T_DISCON_REQ ∷ kind.T_DATA_REQ ∷ kind.T_EXDATA_REQ ∷ kind.T_ORDREL_IND
    ∷ kind.T_BIND_REQ ∷ kind.T_UNBIND_REQ ∷ kind.T_UNITDATA_REQ ∷ kind.T_ORDREL_IND ∷ kind.T_ORDREL_REQ ∷ kind.T_CONN_IND
    ∷ kind.T_CONN_CON ∷ kind.T_DISCON_IND ∷ kind.T_DATA_IND ∷ kind.T_EXDATA_IND ∷ kind.T_ORDREL_IND ∷ kind.T_BIND_ACK
    ∷ kind.T_ERROR_ACK ∷ kind.T_OK_ACK ∷ kind.T_UNITDATA_IND ∷ kind.T_UDERROR_IND ∷ kind.T_ORDREL_IND ∷ kind.T_ORDREL_IND ∷ []

abbrev pub numbered : ℕ → Kind
numbered n = slice_index_or kinds_by_number n kind.T_ORDREL_IND

-- the kind of a primitive
abbrev pub kind_of : Prim → Kind
kind_of p = numbered (filled p).row.number

-- the bytes are the frame of the primitive
pub record Spells (p : Prim) (bs : List ℕ) : Type 0 where
  pub good : IsFilled (filled p)
  pub text : bs ≡ spelling (filled p)

-- MORE_flag
abbrev pub more_of : Prim → Option Bool
more_of (prim.T_DATA_REQ more user) = Some more
more_of (prim.T_EXDATA_REQ more user) = Some more
more_of (prim.T_DATA_IND more user) = Some more
more_of (prim.T_EXDATA_IND more user) = Some more
more_of _ = None

-- SEQ_number
abbrev pub seq_of : Prim → Option ℕ
seq_of (prim.T_CONN_RES acceptor_id opt seq_number user) = Some seq_number
seq_of (prim.T_DISCON_REQ seq_number user) = Some seq_number
seq_of (prim.T_CONN_IND src opt seq_number user) = Some seq_number
seq_of (prim.T_DISCON_IND reason seq_number user) = Some seq_number
seq_of _ = None

-- DISCON_reason, or the ERROR_type of a datagram's error
abbrev pub reason_of : Prim → Option ℕ
reason_of (prim.T_DISCON_IND reason seq_number user) = Some reason
reason_of (prim.T_UDERROR_IND dest opt error_type) = Some error_type
reason_of _ = None

abbrev pub part_of : Part → Prim → Option (List ℕ)
part_of Dest (prim.T_CONN_REQ dest opt user) = Some dest
part_of Dest (prim.T_UNITDATA_REQ dest opt user) = Some dest
part_of Dest (prim.T_UDERROR_IND dest opt error_type) = Some dest
part_of Src (prim.T_CONN_IND src opt seq_number user) = Some src
part_of Src (prim.T_UNITDATA_IND src opt user) = Some src
part_of Res (prim.T_CONN_CON res opt user) = Some res
part_of Addr (prim.T_BIND_REQ addr conind_number) = Some addr
part_of Addr (prim.T_BIND_ACK addr conind_number) = Some addr
part_of Opt (prim.T_CONN_REQ dest opt user) = Some opt
part_of Opt (prim.T_CONN_RES acceptor_id opt seq_number user) = Some opt
part_of Opt (prim.T_UNITDATA_REQ dest opt user) = Some opt
part_of Opt (prim.T_CONN_IND src opt seq_number user) = Some opt
part_of Opt (prim.T_CONN_CON res opt user) = Some opt
part_of Opt (prim.T_UNITDATA_IND src opt user) = Some opt
part_of Opt (prim.T_UDERROR_IND dest opt error_type) = Some opt
part_of _ _ = None

-- the user data; none for a primitive that has no place for them
abbrev pub user_of : Prim → List ℕ
user_of p = (filled p).user

abbrev pub has_more : Kind → Bool
has_more kind.T_DATA_REQ = true
has_more kind.T_EXDATA_REQ = true
has_more kind.T_DATA_IND = true
has_more kind.T_EXDATA_IND = true
has_more _ = false

abbrev pub has_seq : Kind → Bool
has_seq kind.T_CONN_RES = true
has_seq kind.T_DISCON_REQ = true
has_seq kind.T_CONN_IND = true
has_seq kind.T_DISCON_IND = true
has_seq _ = false

abbrev pub has_reason : Kind → Bool
has_reason kind.T_DISCON_IND = true
has_reason kind.T_UDERROR_IND = true
has_reason _ = false

abbrev pub has_part : Part → Kind → Bool
has_part Dest kind.T_CONN_REQ = true
has_part Dest kind.T_UNITDATA_REQ = true
has_part Dest kind.T_UDERROR_IND = true
has_part Src kind.T_CONN_IND = true
has_part Src kind.T_UNITDATA_IND = true
has_part Res kind.T_CONN_CON = true
has_part Addr kind.T_BIND_REQ = true
has_part Addr kind.T_BIND_ACK = true
has_part Opt kind.T_CONN_REQ = true
has_part Opt kind.T_CONN_RES = true
has_part Opt kind.T_UNITDATA_REQ = true
has_part Opt kind.T_CONN_IND = true
has_part Opt kind.T_CONN_CON = true
has_part Opt kind.T_UNITDATA_IND = true
has_part Opt kind.T_UDERROR_IND = true
has_part _ _ = false
