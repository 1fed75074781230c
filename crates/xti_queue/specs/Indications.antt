-- Indications of data that wait: the symbols that each stands for, and what a receive leaves of them.
use Rattle.std.specs.Prelude.{ℕ, ◌-◌, Bool, true, false, not, List, [], ◌∷◌, length, drop, map, nat_lt, if◌then◌else◌}
use Rattle.std.specs.List.{flat_map}
use Rattle.tpi_grammar.specs.declared.kind.Kind.{Kind}
use Rattle.tpi_grammar.specs.declared.kind.Kind.TheVariants as kind
use Rattle.tpi_prim.specs.declared.primitive.Prim.{Prim}
use Rattle.tpi_prim.specs.declared.primitive.Prim.TheVariants as prim
use Rattle.tpi_prim.specs.Primitive.{user_of}
use Rattle.tpi_prim.specs.Fields.{primitive_in}
use Rattle.xti_model.specs.Symbols.{piece}

-- the kinds that a queue takes: normal data, expedited data, and datagrams
abbrev pub can_wait : Kind → Bool
can_wait kind.T_DATA_IND = true
can_wait kind.T_EXDATA_IND = true
can_wait kind.T_UNITDATA_IND = true
can_wait _ = false

-- whether a message ends after the user data: where MORE_flag is 0, and after each datagram
unfoldable pub ends_message : Prim → Bool
ends_message (prim.T_DATA_IND more user) = not more
ends_message (prim.T_EXDATA_IND more user) = not more
ends_message (prim.T_UNITDATA_IND src opt user) = true
ends_message _ = false

-- the same indication with other user data
unfoldable pub with_user : List ℕ → Prim → Prim
with_user user (prim.T_DATA_IND more _) = prim.T_DATA_IND more user
with_user user (prim.T_EXDATA_IND more _) = prim.T_EXDATA_IND more user
with_user user (prim.T_UNITDATA_IND src opt _) = prim.T_UNITDATA_IND src opt user
with_user user p = p

-- without the first so many bytes of its user data
abbrev pub without : ℕ → Prim → Prim
without n p = with_user (drop n (user_of p)) p

-- the bytes of its user data, and an end after them where a message ends
abbrev pub symbols_of : Prim → List ℕ
symbols_of p = piece (user_of p) (ends_message p)

-- what frames come to where so many bytes of the first one's user data were taken
unfoldable pub begun : ℕ → List (List ℕ) → List Prim
begun taken [] = []
begun taken (f ∷ fs) = without taken (primitive_in f) ∷ map primitive_in fs

-- their symbols
unfoldable pub symbols_of_all : List Prim → List ℕ
symbols_of_all ps = flat_map symbols_of ps

-- what is left when at most so many bytes of the first message are taken, and its end where it comes right after them
unfoldable pub left_behind : ℕ → List Prim → List Prim
left_behind max [] = []
left_behind max (p ∷ ps) =
    if nat_lt max (length (user_of p)) then without max p ∷ ps
    else (if ends_message p then ps else left_behind (max - length (user_of p)) ps)
