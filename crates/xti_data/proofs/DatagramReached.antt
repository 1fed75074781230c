-- The cells of a send are lent.
use Rattle.std.proofs.Common.{◌≡◌, ℕ, true, List, [], ◌∷◌, Option, Some, None, ap, sym, ◌∙◌}
use Rattle.std.specs.Prelude.{IfSome}
use Rattle.xti_base.specs.declared.kinds.Fd.{Fd}
use Rattle.xti_model.specs.Cells.{listed}
use Rattle.xti_model.specs.Switch.{bound}
use Rattle.xti_model.specs.Endpoint.{Endpoint}
use Rattle.xti_model.specs.Touched.{bound_cell, of_open, of_some, cell_of}
use Rattle.xti_model.specs.World.{endpoint, is_among, place_of, switch_number, the_switch}
use Rattle.xti_lent.specs.Lending.{Lending, cells, number_of}
use Rattle.xti_lent.specs.Fit.{AllLent}
use Rattle.xti_lent.proofs.Places.{place-below}
use Rattle.xti_lent.proofs.Named.{first-among, later-among, named-lent, held-lent, table-lent}
use Rattle.xti_lent.specs.Lends.{IsHeld}
use Rattle.xti_data.specs.DatagramReach.{CanReach}

-- the cells that a send names
abbrev named_to : Lending → ℕ → List ℕ → List ℕ
named_to l n rest = n ∷ switch_number l.providers ∷ rest

pub reaches : (l : Lending) (fd : ℕ) (address : List ℕ) → AllLent l (listed (named_to l (place_of l.providers fd) (of_open l.providers (cells l) fd (bound_cell l.providers (cells l) address)))) → CanReach l fd address
reaches l fd address h = record {
  table = table-lent l (named-lent l (named_to l own rest) switch h (later-among switch own (switch ∷ rest) (first-among switch rest)));
  receiver = λ e to o b.
      let n = place_of l.providers to in
      let named : is_among (named_to l own rest) n ≡ true =
      ap (λ (x : Option Endpoint). is_among (named_to l own (of_some x (bound_cell l.providers (cells l) address))) n) o
      ∙ (ap (λ (x : Option ℕ). is_among (named_to l own (cell_of l.providers x)) n) b
      ∙ later-among n own (switch ∷ n ∷ []) (later-among n switch (n ∷ []) (first-among n []))) in
      held-lent l n (place-below l.providers to) (named-lent l (named_to l own rest) n h named);
}
  where
    own : ℕ
    own = place_of l.providers fd

    switch : ℕ
    switch = switch_number l.providers

    rest : List ℕ
    rest = of_open l.providers (cells l) fd (bound_cell l.providers (cells l) address)

-- and so is the place of the receiver, if there is one
pub receiver-reached : (l : Lending) (fd : ℕ) (address : List ℕ) (e : Endpoint) (to : Option Fd) → CanReach l fd address → endpoint l.providers (cells l) fd ≡ Some e → number_of to ≡ bound (the_switch l.providers (cells l)) e.prov address
    → IfSome to (λ (x : Fd). IsHeld l x.0)
receiver-reached l fd address e None r o b = tt
receiver-reached l fd address e (Some x) r o b = r.receiver e x.0 o (sym b)
