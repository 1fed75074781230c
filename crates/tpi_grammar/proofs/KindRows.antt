-- The rows of the primitives are those of the table.
use Rattle.std.proofs.Common.{◌≡◌, List, [], ◌∷◌, map, refl, sym, inl, inr, subst}
use Rattle.tpi_grammar.specs.Frame.{Row, table, IsIn}
use Rattle.tpi_grammar.specs.Kinds.{row_of}
use Rattle.tpi_grammar.specs.declared.kind.Kind.{Kind}
use Rattle.tpi_grammar.specs.declared.kind.Kind.TheVariants.{T_CONN_REQ, T_CONN_RES, T_DISCON_REQ, T_DATA_REQ, T_EXDATA_REQ, T_BIND_REQ, T_UNBIND_REQ, T_UNITDATA_REQ, T_ORDREL_REQ, T_CONN_IND, T_CONN_CON, T_DISCON_IND, T_DATA_IND, T_EXDATA_IND, T_BIND_ACK, T_ERROR_ACK, T_OK_ACK, T_UNITDATA_IND, T_UDERROR_IND, T_ORDREL_IND}

abbrev all_kinds : List Kind
all_kinds = T_CONN_REQ ∷ T_CONN_RES ∷ T_DISCON_REQ ∷ T_DATA_REQ ∷ T_EXDATA_REQ ∷ T_BIND_REQ ∷ T_UNBIND_REQ ∷ T_UNITDATA_REQ ∷ T_ORDREL_REQ ∷ T_CONN_IND ∷ T_CONN_CON ∷ T_DISCON_IND ∷ T_DATA_IND ∷ T_EXDATA_IND ∷ T_BIND_ACK ∷ T_ERROR_ACK ∷ T_OK_ACK ∷ T_UNITDATA_IND ∷ T_UDERROR_IND ∷ T_ORDREL_IND ∷ []

rows_of_all : map row_of all_kinds ≡ table
unfolding table
rows_of_all = refl

pub row_in : (k : Kind) → IsIn (row_of k) table
unfolding table
row_in T_CONN_REQ = inl refl
row_in T_CONN_RES = inr (inl refl)
row_in T_DISCON_REQ = inr (inr (inl refl))
row_in T_DATA_REQ = inr (inr (inr (inl refl)))
row_in T_EXDATA_REQ = inr (inr (inr (inr (inl refl))))
row_in T_BIND_REQ = inr (inr (inr (inr (inr (inl refl)))))
row_in T_UNBIND_REQ = inr (inr (inr (inr (inr (inr (inl refl))))))
row_in T_UNITDATA_REQ = inr (inr (inr (inr (inr (inr (inr (inl refl)))))))
row_in T_ORDREL_REQ = inr (inr (inr (inr (inr (inr (inr (inr (inl refl))))))))
row_in T_CONN_IND = inr (inr (inr (inr (inr (inr (inr (inr (inr (inl refl)))))))))
row_in T_CONN_CON = inr (inr (inr (inr (inr (inr (inr (inr (inr (inr (inl refl))))))))))
row_in T_DISCON_IND = inr (inr (inr (inr (inr (inr (inr (inr (inr (inr (inr (inl refl)))))))))))
row_in T_DATA_IND = inr (inr (inr (inr (inr (inr (inr (inr (inr (inr (inr (inr (inl refl))))))))))))
row_in T_EXDATA_IND = inr (inr (inr (inr (inr (inr (inr (inr (inr (inr (inr (inr (inr (inl refl)))))))))))))
row_in T_BIND_ACK = inr (inr (inr (inr (inr (inr (inr (inr (inr (inr (inr (inr (inr (inr (inl refl))))))))))))))
row_in T_ERROR_ACK = inr (inr (inr (inr (inr (inr (inr (inr (inr (inr (inr (inr (inr (inr (inr (inl refl)))))))))))))))
row_in T_OK_ACK = inr (inr (inr (inr (inr (inr (inr (inr (inr (inr (inr (inr (inr (inr (inr (inr (inl refl))))))))))))))))
row_in T_UNITDATA_IND = inr (inr (inr (inr (inr (inr (inr (inr (inr (inr (inr (inr (inr (inr (inr (inr (inr (inl refl)))))))))))))))))
row_in T_UDERROR_IND = inr (inr (inr (inr (inr (inr (inr (inr (inr (inr (inr (inr (inr (inr (inr (inr (inr (inr (inl refl))))))))))))))))))
row_in T_ORDREL_IND = inr (inr (inr (inr (inr (inr (inr (inr (inr (inr (inr (inr (inr (inr (inr (inr (inr (inr (inr (inl refl)))))))))))))))))))

from_map : (r : Row) (ks : List Kind) → IsIn r (map row_of ks) → (k : Kind) × (row_of k ≡ r)
from_map r [] i = elim i [ ]
from_map r (k ∷ ks) (inl e) = (k, e)
from_map r (k ∷ ks) (inr i) = from_map r ks i

pub kind_in : (r : Row) → IsIn r table → (k : Kind) × (row_of k ≡ r)
kind_in r i = from_map r all_kinds (subst (λ rows. IsIn r rows) (sym rows_of_all) i)
