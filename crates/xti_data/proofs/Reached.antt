-- The cells of a send are lent.
use Rattle.std.proofs.Common.{◌≡◌, ℕ, true, List, [], ◌∷◌, Option, Some, None, refl, ap, ◌∙◌, sym, subst}
use Rattle.std.specs.Prelude.{is_some, IfSome}
use Rattle.xti_base.specs.declared.kinds.Fd.{Fd}
use Rattle.xti_model.specs.declared.profile.Providers.{Providers}
use Rattle.xti_model.specs.Cells.{listed}
use Rattle.xti_model.specs.Endpoint.{Endpoint}
use Rattle.xti_model.specs.Touched.{peer_cell, of_open, of_some, cell_of}
use Rattle.xti_model.specs.World.{is_among, endpoint, place_of}
use Rattle.xti_end.specs.Held.{peer_at, parts_of}
use Rattle.xti_lent.specs.Lending.{Lending, cells, held_at, number_of}
use Rattle.xti_lent.specs.Fit.{AllLent, SameCells}
use Rattle.xti_lent.proofs.Places.{place-below}
use Rattle.xti_lent.proofs.Named.{first-among, later-among, named-lent, held-lent}
use Rattle.xti_lent.proofs.Written.{still-held}
use Rattle.xti_lent.specs.Lends.{IsHeld}
use Rattle.xti_data.specs.Reach.{CanReach}

-- the cells that a send names
abbrev named : Lending → ℕ → List ℕ
named l fd = place_of l.providers fd ∷ of_open l.providers (cells l) fd (peer_cell l.providers)

pub reaches : (l : Lending) (fd : ℕ) → AllLent l (listed (named l fd)) → CanReach l fd
reaches l fd h = λ e peer o b.
    let n = place_of l.providers peer in
    let own = place_of l.providers fd in
    let among : is_among (named l fd) n ≡ true =
    ap (λ (x : Option Endpoint). is_among (own ∷ of_some x (peer_cell l.providers)) n) o
    ∙ (ap (λ (x : Option ℕ). is_among (own ∷ cell_of l.providers x) n) b
    ∙ later-among n own (n ∷ []) (first-among n [])) in
    held-lent l n (place-below l.providers peer) (named-lent l (named l fd) n h among)

-- a lent place stays lent
pub held-after : (l k : Lending) (fd : ℕ) → SameCells l k → IsHeld l fd → IsHeld k fd
held-after l k fd s h =
    subst (λ (q : Providers). is_some (held_at k (place_of q fd)) ≡ true) (sym s.providers)
    (still-held l k (place_of l.providers fd) s ∙ h)

-- the peer that the open endpoint names
pub peer-named : (o : Option Endpoint) → peer_at o ≡ (parts_of o).peer
peer-named None = refl
peer-named (Some e) = refl

pub peer-reached : (l : Lending) (fd : ℕ) (e : Endpoint) (peer : Option Fd) → CanReach l fd → endpoint l.providers (cells l) fd ≡ Some e → number_of peer ≡ e.peer → IfSome peer (λ (x : Fd). IsHeld l x.0)
peer-reached l fd e None r o h = tt
peer-reached l fd e (Some x) r o h = r e x.0 o (sym h)
