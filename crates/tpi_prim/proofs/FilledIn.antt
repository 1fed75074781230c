-- The row that a primitive fills in is filled in as the table asks.
use Rattle.std.proofs.Common.{◌≤◌, ◌<◌, ℕ, suc, List, [], ◌∷◌, ◌++◌, length, get_or, refl, inl, inr}
use Rattle.tpi_grammar.specs.Frame.{Slot, upto, part, Value, num, text, IsFilled, IsIn, Fit, AreBytes, table, parts, control_size}
use Rattle.tpi_grammar.specs.Kinds.{row_of}
use Rattle.tpi_grammar.specs.declared.kind.Kind.{Kind}
use Rattle.tpi_grammar.specs.declared.kind.Kind.TheVariants as kind
use Rattle.tpi_prim.specs.Primitive.{of_kind}
use Rattle.tpi_prim.specs.Lent.{HasShape}

in_table : (k : Kind) → IsIn (row_of k) table
unfolding table
in_table kind.T_CONN_REQ = inl refl
in_table kind.T_CONN_RES = inr (inl refl)
in_table kind.T_DISCON_REQ = inr (inr (inl refl))
in_table kind.T_DATA_REQ = inr (inr (inr (inl refl)))
in_table kind.T_EXDATA_REQ = inr (inr (inr (inr (inl refl))))
in_table kind.T_BIND_REQ = inr (inr (inr (inr (inr (inl refl)))))
in_table kind.T_UNBIND_REQ = inr (inr (inr (inr (inr (inr (inl refl))))))
in_table kind.T_UNITDATA_REQ = inr (inr (inr (inr (inr (inr (inr (inl refl)))))))
in_table kind.T_ORDREL_REQ = inr (inr (inr (inr (inr (inr (inr (inr (inl refl))))))))
in_table kind.T_CONN_IND = inr (inr (inr (inr (inr (inr (inr (inr (inr (inl refl)))))))))
in_table kind.T_CONN_CON = inr (inr (inr (inr (inr (inr (inr (inr (inr (inr (inl refl))))))))))
in_table kind.T_DISCON_IND = inr (inr (inr (inr (inr (inr (inr (inr (inr (inr (inr (inl refl)))))))))))
in_table kind.T_DATA_IND = inr (inr (inr (inr (inr (inr (inr (inr (inr (inr (inr (inr (inl refl))))))))))))
in_table kind.T_EXDATA_IND = inr (inr (inr (inr (inr (inr (inr (inr (inr (inr (inr (inr (inr (inl refl)))))))))))))
in_table kind.T_BIND_ACK = inr (inr (inr (inr (inr (inr (inr (inr (inr (inr (inr (inr (inr (inr (inl refl))))))))))))))
in_table kind.T_ERROR_ACK = inr (inr (inr (inr (inr (inr (inr (inr (inr (inr (inr (inr (inr (inr (inr (inl refl)))))))))))))))
in_table kind.T_OK_ACK = inr (inr (inr (inr (inr (inr (inr (inr (inr (inr (inr (inr (inr (inr (inr (inr (inl refl))))))))))))))))
in_table kind.T_UNITDATA_IND = inr (inr (inr (inr (inr (inr (inr (inr (inr (inr (inr (inr (inr (inr (inr (inr (inr (inl refl)))))))))))))))))
in_table kind.T_UDERROR_IND = inr (inr (inr (inr (inr (inr (inr (inr (inr (inr (inr (inr (inr (inr (inr (inr (inr (inr (inl refl))))))))))))))))))
in_table kind.T_ORDREL_IND = inr (inr (inr (inr (inr (inr (inr (inr (inr (inr (inr (inr (inr (inr (inr (inr (inr (inr (inr (inl refl)))))))))))))))))))

pub are_bytes : (bs : List ℕ) → ((i : ℕ) → get_or bs i 0 < 256) → AreBytes bs
are_bytes [] h = tt
are_bytes (b ∷ bs) h = (h 0, are_bytes bs (λ i. h (suc i)))

pub AreBytes-append : (a b : List ℕ) → AreBytes a → AreBytes b → AreBytes (a ++ b)
AreBytes-append [] b ha hb = hb
AreBytes-append (x ∷ a) b ha hb = (ha.0, AreBytes-append a b ha.1 hb)

pub front_bytes : (a b : List ℕ) → AreBytes (a ++ b) → AreBytes a
front_bytes [] b h = tt
front_bytes (x ∷ a) b h = (h.0, front_bytes a b h.1)

pub back_bytes : (a b : List ℕ) → AreBytes (a ++ b) → AreBytes b
back_bytes [] b h = h
back_bytes (x ∷ a) b h = back_bytes a b h.1

fits : (ss : List Slot) (vs : List Value) → HasShape ss vs → AreBytes (parts vs) → Fit ss vs
fits [] [] shape bytes = tt
fits [] (v ∷ vs) shape bytes = elim shape [ ]
fits (upto m ∷ ss) [] shape bytes = elim shape [ ]
fits (part ∷ ss) [] shape bytes = elim shape [ ]
fits (upto m ∷ ss) (text b ∷ vs) shape bytes = elim shape [ ]
fits (part ∷ ss) (num n ∷ vs) shape bytes = elim shape [ ]
fits (upto m ∷ ss) (num n ∷ vs) shape bytes = (shape.0, fits ss vs shape.1 bytes)
fits (part ∷ ss) (text b ∷ vs) shape bytes = (front_bytes b (parts vs) bytes, fits ss vs shape (back_bytes b (parts vs) bytes))

pub is_filled : (k : Kind) (vs : List Value) (u : List ℕ) → HasShape (row_of k).slots vs → AreBytes (parts vs) → AreBytes u
    → length u ≤ (row_of k).most_data → control_size (of_kind k vs u) ≤ 1024 → IsFilled (of_kind k vs u)
is_filled k vs u shape in_parts in_user room control =
    record { row = in_table k; values = fits (row_of k).slots vs shape in_parts; user = in_user; room = room; control = control }
