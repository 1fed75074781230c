-- Marks of the cells that a survey wants, one mark for each cell.
use Rattle.std.specs.Prelude.{◌≡◌, ◌<◌, ◌≤◌, ◌+◌, ℕ, Bool, true, false, List, length, get_or}
use Rattle.std.specs.List.{AllByRecursion}
use Rattle.xti_base.specs.declared.kinds.Fd.{Fd}
use Rattle.xti_model.specs.declared.call.Call.TheVariants.{TLookAt}
use Rattle.xti_model.specs.Touched.{touched}
use Rattle.xti_model.specs.World.{places}
use Rattle.xti_lent.specs.Lending.{Lending, cell_lent, cells, is_lent}

-- the cell with the number is marked
abbrev pub is_marked : List Bool → ℕ → Bool
is_marked marks n = get_or marks n false

-- each of these cells is marked
abbrev pub AllMarked : List Bool → List ℕ → Type 0
AllMarked marks = AllByRecursion (λ n. is_marked marks n ≡ true)

-- there is a mark for each cell
abbrev pub HaveRoomFor : Lending → List Bool → Type 0
HaveRoomFor l marks = length marks ≡ places l.providers + 1

-- the cells that a look at the descriptor touches, as the lent cells tell
abbrev pub looked_at : Lending → Fd → List ℕ
looked_at l fd = touched l.providers (cells l) (TLookAt fd)

-- there is a mark for each cell that a look touches
abbrev pub CanMark : Lending → List Bool → Type 0
CanMark l marks = (fd : Fd) → AllByRecursion (λ n. n < length marks) (looked_at l fd)

-- each cell that a look at the descriptor touches is marked
abbrev pub AreFor : Lending → List Bool → Fd → Type 0
AreFor l marks fd = AllMarked marks (looked_at l fd)

-- what was marked stays marked
abbrev pub Keep : List Bool → List Bool → Type 0
Keep old new = (n : ℕ) → is_marked old n ≡ true → is_marked new n ≡ true

-- each marked cell is lent
abbrev pub MarkedAreLent : Lending → List Bool → Type 0
MarkedAreLent l marks = (n : ℕ) → is_marked marks n ≡ true → is_lent l n ≡ true

-- the first marked cell that isn't lent
pub record IsFirstUnlent (l : Lending) (marks : List Bool) (k : ℕ) : Type 0 where
  pub marked : is_marked marks k ≡ true
  pub gone : is_lent l k ≡ false
  pub first : (n : ℕ) → is_marked marks n ≡ true → is_lent l n ≡ false → k ≤ n

-- each marked cell that isn't lent has a higher number than all that are
abbrev pub CanBeEntered : Lending → List Bool → Type 0
CanBeEntered l marks = (n m : ℕ) → is_lent l n ≡ true → is_marked marks m ≡ true → is_lent l m ≡ false → n < m

-- all cells that a look at the descriptor touches are lent
abbrev pub IsSeen : Lending → Fd → Type 0
IsSeen l fd = AllByRecursion (λ n. is_lent l n ≡ true) (looked_at l fd)

-- where a cell is still lent, it has a lower number than this one, and the same are lent as before
abbrev pub StayBelow : ℕ → Lending → Lending → Type 0
StayBelow k old new = (n : ℕ) → is_lent new n ≡ true → (n < k) × ((m : ℕ) → cell_lent new m ≡ cell_lent old m)
