-- A data indication whose user data are all written is a frame.
use Rattle.std.proofs.Common.{◌≡◌, ◌≤◌, ◌+◌, ℕ, Bool, true, false, cond, List, [], ◌∷◌, ◌++◌, length, drop, sym, ap, ◌∙◌, lit≤, subst, append_assoc, arith, length-append}
use Rattle.tpi_grammar.specs.declared.kind.Kind.TheVariants as kind
use Rattle.tpi_grammar.specs.declared.kind.TheConstants.{MOST_DATA}
use Rattle.tpi_prim.specs.Primitive.{flag_value, Spells}
use Rattle.tpi_prim.specs.Indication.{data_ind, heading, IsPartIndication}
use Rattle.tpi_grammar.specs.Frame.{AreBytes}
use Rattle.tpi_prim.proofs.FilledIn.{is_filled, AreBytes-append}

flag_most : (more : Bool) → cond more 1 0 ≤ 1
flag_most true = lit≤ tt
flag_most false = lit≤ tt

pub spelled : (expedited more : Bool) (n : ℕ) (items : List ℕ) (capacity : ℕ) → IsPartIndication expedited more n items capacity → length (drop 16 items) ≡ n
    → Spells (data_ind expedited more (drop 16 items)) items
spelled true more n items capacity g e = record {
  good = is_filled kind.T_EXDATA_IND (flag_value more ∷ []) (drop 16 items) (flag_most more, tt) tt g.bytes (subst (λ (m : ℕ). m ≤ MOST_DATA) (sym e) g.most) (lit≤ tt);
  text = g.begins ∙ ap (λ (m : ℕ). heading true more m ++ drop 16 items) (sym e);
}
spelled false more n items capacity g e = record {
  good = is_filled kind.T_DATA_IND (flag_value more ∷ []) (drop 16 items) (flag_most more, tt) tt g.bytes (subst (λ (m : ℕ). m ≤ MOST_DATA) (sym e) g.most) (lit≤ tt);
  text = g.begins ∙ ap (λ (m : ℕ). heading false more m ++ drop 16 items) (sym e);
}

-- the user data stand after the heading, of 16 bytes
pub whole : (expedited more : Bool) (n : ℕ) (items : List ℕ) → items ≡ heading expedited more n ++ drop 16 items → length items ≡ 16 + length (drop 16 items)
whole expedited more n items e = ap length e ∙ length-append (heading expedited more n) (drop 16 items)

pub piece-after : (expedited more : Bool) (n : ℕ) (items piece : List ℕ) → items ≡ heading expedited more n ++ drop 16 items → drop 16 (items ++ piece) ≡ drop 16 items ++ piece
piece-after expedited more n items piece e = ap (λ (xs : List ℕ). drop 16 (xs ++ piece)) e

-- one piece more
pub one-more : (expedited more : Bool) (n : ℕ) (items piece : List ℕ) (old new : ℕ) → IsPartIndication expedited more n items old → AreBytes piece → old ≤ new → IsPartIndication expedited more n (items ++ piece) new
one-more expedited more n items piece old new g b le =
    let after = piece-after expedited more n items piece g.begins in
    record {
      begins = ap (λ (xs : List ℕ). xs ++ piece) g.begins ∙ append_assoc (heading expedited more n) (drop 16 items) piece ∙ ap (λ (xs : List ℕ). heading expedited more n ++ xs) (sym after);
      bytes = rw after (AreBytes-append (drop 16 items) piece g.bytes b);
      most = g.most;
      room = omega (arith, g.room, le);
    }
