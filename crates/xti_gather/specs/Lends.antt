-- Cells that are lent to a step, and those that its seat holds.
use Rattle.std.specs.Prelude.{◌≡◌, ℕ, true, false, List, Option, Some, None, is_some}
use Rattle.std.specs.List.{AllByRecursion}
use Rattle.xti_model.specs.declared.call.Call.{Call}
use Rattle.xti_model.specs.declared.entry.Entry.{Entry}
use Rattle.xti_model.specs.declared.profile.Providers.{Providers}
use Rattle.xti_model.specs.World.{Cell, is_among}
use Rattle.xti_model.specs.Touched.{touched}
use Rattle.xti_lent.specs.Lending.{Lending, cell_lent, cells_by}
use Rattle.xti_core.specs.Standing.{IsLoan}
use Rattle.xti_hall_rule.specs.declared.setting.Setting.{Setting}
use Rattle.xti_hall_rule.specs.declared.view.View.{View}
use Rattle.xti_hall_rule.specs.Histories.{part, after, Legal}
use Rattle.xti_hall_rule.specs.Steps.{at}

-- there is a legal history after which the lent cells are parts of the world
abbrev pub Somewhen : Setting → Lending → Type 0
Somewhen p l = (h : List Entry) × Legal p h × ((n : ℕ) (m : Cell) → cell_lent l n ≡ Some m → m ≡ part n (after p h))

-- what is lent is what the seat holds: the recorded cells, all of one world
pub record Lends (v : View) (l : Lending) : Type 0 where
  pub providers : l.providers ≡ v.setting.providers
  pub loan : IsLoan l
  pub held : (n : ℕ) → at v n ≡ cell_lent l n
  pub somewhen : Somewhen v.setting l

-- of these cells is lent afterwards what was lent before
abbrev pub KeepsOf : List ℕ → Lending → Lending → Type 0
KeepsOf ns old new = (n : ℕ) → is_among ns n ≡ true → cell_lent new n ≡ cell_lent old n

-- of all other cells is lent afterwards what was lent before
abbrev pub KeepsBut : List ℕ → Lending → Lending → Type 0
KeepsBut ns old new = (n : ℕ) → is_among ns n ≡ false → cell_lent new n ≡ cell_lent old n

-- no cell is lent
abbrev pub LendsNone : Lending → Type 0
LendsNone l = (n : ℕ) → cell_lent l n ≡ None

-- nothing is lent
pub record IsEmpty (l : Lending) : Type 0 where
  pub loan : IsLoan l
  pub none : LendsNone l

-- these cells are those that the call touches, and no others
pub record Just (p : Providers) (l : ℕ → Option Cell) (c : Call) : Type 0 where
  pub all : AllByRecursion (λ n. is_some (l n) ≡ true) (touched p (cells_by p l) c)
  pub only : (n : ℕ) → is_some (l n) ≡ true → is_among (touched p (cells_by p l) c) n ≡ true
