-- On cells that have all that a call touches there, it touches the same cells.
use Rattle.std.proofs.Common.{ℕ, true, List, ◌∷◌, ◌++◌, ◌≡◌, refl, ap, subst, ◌∙◌, Option, Some, None}
use Rattle.std.specs.Prelude.{option_to_list}
use Rattle.xti_model.specs.declared.call.Call.{Call}
use Rattle.xti_model.specs.declared.call.Call.TheVariants as call
use Rattle.xti_model.specs.declared.profile.Providers.{Providers}
use Rattle.xti_model.specs.Endpoint.{Endpoint}
use Rattle.xti_model.specs.Cells.{listed}
use Rattle.xti_model.specs.World.{World, endpoint, is_among, only, place_of, switch_number}
use Rattle.xti_model.specs.Switch.{bound, listener, opening_place}
use Rattle.xti_model.specs.Touched.{named, touched, others, fd_of, cell_of, of_some, peer_cell, target_cell, caller_cells, listener_cell, bound_cell, marked_cells, cells_to, caller_cell}
use Rattle.xti_laws.specs.Laws.{Within}
use Rattle.xti_laws.proofs.Only.{endpoint-only, the_switch-only}
use Rattle.xti_laws.proofs.Touched.{touched-within, within-named}
use Rattle.xti_laws.proofs.Others.{within-right}

-- what is named through a switch, where the switch is the same
pub bound-same : (p : Providers) (o : Option Endpoint) (f g : Endpoint → List ℕ) → ((e : Endpoint) → f e ≡ g e) → of_some o f ≡ of_some o g
bound-same p None f g h = refl
bound-same p (Some e) f g h = h e

pub datagram-only : (p : Providers) (t : List ℕ) (w : World) (fd : ℕ) (address : List ℕ) → is_among t (place_of p fd) ≡ true → is_among t (switch_number p) ≡ true
    → (switch_number p ∷ of_some (endpoint p (only t w) fd) (bound_cell p (only t w) address)) ≡ (switch_number p ∷ of_some (endpoint p w fd) (bound_cell p w address))
datagram-only p t w fd address h k =
    ap (λ o. switch_number p ∷ of_some o (bound_cell p (only t w) address)) (endpoint-only p t fd h w) ∙
    ap (λ cs. switch_number p ∷ cs) (bound-same p (endpoint p w fd) (bound_cell p (only t w) address) (bound_cell p w address) (λ e. ap (λ s. cell_of p (bound s e.prov address)) (the_switch-only p t k w)))

-- the switch is named where there is a mark
pub mark-only : (p : Providers) (t : List ℕ) (w v : World) (e : Endpoint) (o : Option (List ℕ)) → Within t (cells_to p v e o) → cells_to p (only t w) e o ≡ cells_to p w e o
mark-only p t w v e None h = refl
mark-only p t w v e (Some address) h = ap (λ s. switch_number p ∷ cell_of p (bound s e.prov address)) (the_switch-only p t h.0 w)

pub look-only : (p : Providers) (t : List ℕ) (w v : World) (fd : ℕ) → is_among t (place_of p fd) ≡ true → endpoint p v fd ≡ endpoint p w fd → Within t (of_some (endpoint p v fd) (λ e. peer_cell p e ++ marked_cells p v e))
    → of_some (endpoint p (only t w) fd) (λ e. peer_cell p e ++ marked_cells p (only t w) e) ≡ of_some (endpoint p w fd) (λ e. peer_cell p e ++ marked_cells p w e)
look-only p t w v fd k i h = ap (λ o. of_some o (λ e. peer_cell p e ++ marked_cells p (only t w) e)) (endpoint-only p t fd k w) ∙ go (endpoint p w fd) (subst (λ o. Within t (of_some o (λ e. peer_cell p e ++ marked_cells p v e))) i h)
  where
    go : (o : Option Endpoint) → Within t (of_some o (λ e. peer_cell p e ++ marked_cells p v e)) → of_some o (λ e. peer_cell p e ++ marked_cells p (only t w) e) ≡ of_some o (λ e. peer_cell p e ++ marked_cells p w e)
    go None j = refl
    go (Some e) j = ap (λ cs. peer_cell p e ++ cs) (mark-only p t w v e e.flow_datagram (within-right t (peer_cell p e) (marked_cells p v e) j))

-- what a call names in a world that has the endpoints of these cells: the whole one, or these cells alone
abbrev SameThere : Providers → List ℕ → World → World → Type 0
SameThere p t w v = (fd : ℕ) → is_among t (place_of p fd) ≡ true → endpoint p v fd ≡ endpoint p w fd

pub others-only : (p : Providers) (t : List ℕ) (w v : World) (c : Call) → SameThere p t w v → Within t (named p v c) → others p (only t w) c ≡ others p w c
others-only p t w v (call.TOpen prov nonblock) i h = ap (λ s. switch_number p ∷ option_to_list (opening_place p s prov)) (the_switch-only p t h.0 w)
others-only p t w v (call.TClose fd) i h = ap (λ o. switch_number p ∷ of_some o (λ e. peer_cell p e ++ target_cell p e ++ caller_cells p e)) (endpoint-only p t fd.0 h.0 w)
others-only p t w v (call.TBind fd addr qlen amax) i h = refl
others-only p t w v (call.TUnbind fd) i h = refl
others-only p t w v (call.TConnect fd addr opt udata amax omax umax) i h =
    ap (λ o. switch_number p ∷ of_some o (listener_cell p (only t w) fd.0 addr)) (endpoint-only p t fd.0 h.0 w) ∙
    ap (λ cs. switch_number p ∷ cs) (bound-same p (endpoint p w fd.0) (listener_cell p (only t w) fd.0 addr) (listener_cell p w fd.0 addr) (λ e. ap (λ s. cell_of p (listener s e.prov addr fd.0)) (the_switch-only p t h.1.0 w)))
others-only p t w v (call.TAccept fd resfd seq opt udata) i h = ap (λ o. switch_number p ∷ place_of p resfd.0 ∷ of_some o (caller_cell p seq.0)) (endpoint-only p t fd.0 h.0 w)
others-only p t w v (call.TSnd fd bytes flags) i h = ap (λ o. of_some o (peer_cell p)) (endpoint-only p t fd.0 h.0 w)
others-only p t w v (call.TSndV fd parts flags) i h = ap (λ o. of_some o (peer_cell p)) (endpoint-only p t fd.0 h.0 w)
others-only p t w v (call.TSndRel fd) i h = ap (λ o. of_some o (peer_cell p)) (endpoint-only p t fd.0 h.0 w)
others-only p t w v (call.TSndRelData fd udata) i h = ap (λ o. of_some o (peer_cell p)) (endpoint-only p t fd.0 h.0 w)
others-only p t w v (call.TSndDis fd seq udata) i h = ap (λ o. of_some o (λ e. peer_cell p e ++ target_cell p e ++ caller_cell p seq.0 e)) (endpoint-only p t fd.0 h.0 w)
others-only p t w v (call.TSndUData fd addr opt bytes) i h = datagram-only p t w fd.0 addr h.0 h.1.0
others-only p t w v (call.TSndVUData fd addr opt parts) i h = datagram-only p t w fd.0 addr h.0 h.1.0
others-only p t w v (call.TLookAt fd) i h = look-only p t w v fd.0 h.0 (i fd.0 h.0) h.1
others-only p t w v other i h = refl

pub touched-again : (p : Providers) (w : World) (c : Call) → touched p (only (touched p w c) w) c ≡ touched p w c
touched-again p w c = ap (λ ns. listed (cell_of p (fd_of c) ++ ns)) (others-only p (touched p w c) w w c (λ fd h. refl) (touched-within p w c))

-- cells of a world that have all that a call names on them alone
pub named-some : (p : Providers) (t : List ℕ) (w : World) (c : Call) → Within t (named p (only t w) c) → named p (only t w) c ≡ named p w c
named-some p t w c h = ap (λ ns. cell_of p (fd_of c) ++ ns) (others-only p t w (only t w) c (λ fd k. endpoint-only p t fd k w) h)

pub touched-some : (p : Providers) (t : List ℕ) (w : World) (c : Call) → Within t (touched p (only t w) c) → touched p (only t w) c ≡ touched p w c
touched-some p t w c h = ap listed (named-some p t w c (within-named p t (only t w) c h))
