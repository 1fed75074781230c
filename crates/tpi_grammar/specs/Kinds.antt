-- The rows of the primitives.
use Rattle.std.specs.Prelude.{List, [], ◌∷◌, map}
use Rattle.tpi_grammar.specs.Frame.{Row, Slot, upto, part, any, flag, row}
use Rattle.tpi_grammar.specs.declared.kind.TheConstants.{MOST_DATA}
use Rattle.tpi_grammar.specs.declared.kind.Kind.{Kind}
use Rattle.tpi_grammar.specs.declared.kind.Kind.TheVariants.{T_CONN_REQ, T_CONN_RES, T_DISCON_REQ, T_DATA_REQ, T_EXDATA_REQ, T_BIND_REQ, T_UNBIND_REQ, T_UNITDATA_REQ, T_ORDREL_REQ, T_CONN_IND, T_CONN_CON, T_DISCON_IND, T_DATA_IND, T_EXDATA_IND, T_BIND_ACK, T_ERROR_ACK, T_OK_ACK, T_UNITDATA_IND, T_UDERROR_IND, T_ORDREL_IND}
use Rattle.tpi_grammar.specs.declared.kind.Slot as code_slot
use Rattle.tpi_grammar.specs.declared.kind.Slot.TheVariants.{Upto, Part}

abbrev pub slot_view : code_slot.Slot → Slot
slot_view (Upto n) = upto n
slot_view Part = part

abbrev pub slots_view : List code_slot.Slot → List Slot
slots_view = map slot_view

abbrev pub row_of : Kind → Row
row_of T_CONN_REQ = row 0 (part ∷ part ∷ []) MOST_DATA
row_of T_CONN_RES = row 1 (any ∷ part ∷ any ∷ []) MOST_DATA
row_of T_DISCON_REQ = row 2 (any ∷ []) MOST_DATA
row_of T_DATA_REQ = row 3 (flag ∷ []) MOST_DATA
row_of T_EXDATA_REQ = row 4 (flag ∷ []) MOST_DATA
row_of T_BIND_REQ = row 6 (part ∷ any ∷ []) 0
row_of T_UNBIND_REQ = row 7 [] 0
row_of T_UNITDATA_REQ = row 8 (part ∷ part ∷ []) MOST_DATA
row_of T_ORDREL_REQ = row 10 [] MOST_DATA
row_of T_CONN_IND = row 11 (part ∷ part ∷ any ∷ []) MOST_DATA
row_of T_CONN_CON = row 12 (part ∷ part ∷ []) MOST_DATA
row_of T_DISCON_IND = row 13 (any ∷ any ∷ []) MOST_DATA
row_of T_DATA_IND = row 14 (flag ∷ []) MOST_DATA
row_of T_EXDATA_IND = row 15 (flag ∷ []) MOST_DATA
row_of T_BIND_ACK = row 17 (part ∷ any ∷ []) 0
row_of T_ERROR_ACK = row 18 (any ∷ any ∷ any ∷ []) 0
row_of T_OK_ACK = row 19 (any ∷ []) 0
row_of T_UNITDATA_IND = row 20 (part ∷ part ∷ []) MOST_DATA
row_of T_UDERROR_IND = row 21 (part ∷ part ∷ any ∷ []) 0
row_of T_ORDREL_IND = row 23 [] MOST_DATA
