-- A data indication that is being written.
use Rattle.std.specs.Prelude.{◌≡◌, ◌≤◌, ◌+◌, ℕ, Bool, List, [], ◌++◌, drop, if◌then◌else◌}
use Rattle.tpi_grammar.specs.Frame.{AreBytes, be}
use Rattle.tpi_grammar.specs.Kinds.{row_of}
use Rattle.tpi_grammar.specs.declared.kind.TheConstants.{MOST_DATA}
use Rattle.tpi_grammar.specs.declared.kind.Kind.{Kind}
use Rattle.tpi_grammar.specs.declared.kind.Kind.TheVariants as kind
use Rattle.tpi_prim.specs.declared.primitive.Prim.{Prim}
use Rattle.tpi_prim.specs.declared.primitive.Prim.TheVariants as prim

-- normal or expedited data, MORE_flag, how many bytes of user data there will be, and those that were written
pub record PartIndication : Type 0 where
  pub expedited : Bool
  pub more : Bool
  pub length : ℕ
  pub bytes : List ℕ

-- none were written yet
abbrev pub begun_with : Bool → Bool → ℕ → PartIndication
begun_with expedited more count = record { expedited = expedited; more = more; length = count; bytes = [] }

abbrev pub kind_for : Bool → Kind
kind_for expedited = if expedited then kind.T_EXDATA_IND else kind.T_DATA_IND

abbrev pub data_ind : Bool → Bool → List ℕ → Prim
data_ind expedited more user = if expedited then prim.T_EXDATA_IND more user else prim.T_DATA_IND more user

-- what stands before the user data: the two lengths, PRIM_type and MORE_flag
abbrev pub heading : Bool → Bool → ℕ → List ℕ
heading expedited more n = be 8 ++ be n ++ be (row_of (kind_for expedited)).number ++ be (if more then 1 else 0)

-- the heading, then the user data so far, and room for the rest
pub record IsPartIndication (expedited more : Bool) (count : ℕ) (items : List ℕ) (capacity : ℕ) : Type 0 where
  pub begins : items ≡ heading expedited more count ++ drop 16 items
  pub bytes : AreBytes (drop 16 items)
  pub most : count ≤ MOST_DATA
  pub room : 16 + count ≤ capacity
