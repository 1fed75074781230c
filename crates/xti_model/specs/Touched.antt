-- The cells that a call may read or change.
use Rattle.std.specs.Prelude.{ℕ, List, [], ◌∷◌, ◌++◌, map, Option, Some, None, option_map, option_to_list}
use Rattle.xti_model.specs.declared.profile.Providers.{Providers}
use Rattle.xti_model.specs.declared.call.Call.{Call}
use Rattle.xti_model.specs.declared.call.Call.TheVariants as call
use Rattle.xti_model.specs.Endpoint.{Endpoint, find_number}
use Rattle.xti_model.specs.World.{World, endpoint, the_switch, place_of, switch_number}
use Rattle.xti_model.specs.Switch.{bound, listener, opening_place}
use Rattle.xti_model.specs.Cells.{listed}

-- the cell of a descriptor that is named
abbrev pub cell_of : Providers → Option ℕ → List ℕ
cell_of p None = []
cell_of p (Some fd) = place_of p fd ∷ []

-- no cells where no endpoint is open
abbrev pub of_some : Option Endpoint → (Endpoint → List ℕ) → List ℕ
of_some None cells = []
of_some (Some e) cells = cells e

-- the cells that the endpoint names which is open with the descriptor
abbrev pub of_open : Providers → World → ℕ → (Endpoint → List ℕ) → List ℕ
of_open p w fd cells = of_some (endpoint p w fd) cells

-- the cell of its peer
abbrev pub peer_cell : Providers → Endpoint → List ℕ
peer_cell p e = cell_of p e.peer

-- the cell of the listener that it asks
abbrev pub target_cell : Providers → Endpoint → List ℕ
target_cell p e = cell_of p (option_map (λ t. t.listener) e.target)

-- the cell of the caller with this number
abbrev pub caller_cell : Providers → ℕ → Endpoint → List ℕ
caller_cell p number e = cell_of p (option_map (λ i. i.caller) (find_number number e.outstanding))

-- the cells of all callers that wait for its answer
abbrev pub caller_cells : Providers → Endpoint → List ℕ
caller_cells p e = map (λ i. place_of p i.caller) (e.pending ++ e.outstanding)

-- the cell of the endpoint that is bound to the address
abbrev pub bound_cell : Providers → World → List ℕ → Endpoint → List ℕ
bound_cell p w address e = cell_of p (bound (the_switch p w) e.prov address)

-- the cell of the listener at the address
abbrev pub listener_cell : Providers → World → ℕ → List ℕ → Endpoint → List ℕ
listener_cell p w fd address e = cell_of p (listener (the_switch p w) e.prov address fd)

-- the switch, and the cell of the endpoint at the address
abbrev pub cells_to : Providers → World → Endpoint → Option (List ℕ) → List ℕ
cells_to p w e None = []
cells_to p w e (Some address) = switch_number p ∷ bound_cell p w address e

-- the cells of the datagram mark
abbrev pub marked_cells : Providers → World → Endpoint → List ℕ
marked_cells p w e = cells_to p w e e.flow_datagram

-- beside the descriptor's own cell
abbrev pub others : Providers → World → Call → List ℕ
others p w (call.TOpen prov nonblock) = switch_number p ∷ option_to_list (opening_place p (the_switch p w) prov)
others p w (call.TClose fd) = switch_number p ∷ of_open p w fd.0 (λ e. peer_cell p e ++ target_cell p e ++ caller_cells p e)
others p w (call.TBind fd addr qlen amax) = switch_number p ∷ []
others p w (call.TUnbind fd) = switch_number p ∷ []
others p w (call.TConnect fd addr opt udata amax omax umax) = switch_number p ∷ of_open p w fd.0 (listener_cell p w fd.0 addr)
others p w (call.TAccept fd resfd seq opt udata) = switch_number p ∷ place_of p resfd.0 ∷ of_open p w fd.0 (caller_cell p seq.0)
others p w (call.TSnd fd bytes flags) = of_open p w fd.0 (peer_cell p)
others p w (call.TSndV fd parts flags) = of_open p w fd.0 (peer_cell p)
others p w (call.TSndRel fd) = of_open p w fd.0 (peer_cell p)
others p w (call.TSndRelData fd udata) = of_open p w fd.0 (peer_cell p)
others p w (call.TSndDis fd seq udata) = of_open p w fd.0 (λ e. peer_cell p e ++ target_cell p e ++ caller_cell p seq.0 e)
others p w (call.TSndUData fd addr opt bytes) = switch_number p ∷ of_open p w fd.0 (bound_cell p w addr)
others p w (call.TSndVUData fd addr opt parts) = switch_number p ∷ of_open p w fd.0 (bound_cell p w addr)
others p w (call.TLookAt fd) = of_open p w fd.0 (λ e. peer_cell p e ++ marked_cells p w e)
others p w other = []

-- the descriptor of a call
abbrev pub fd_of : Call → Option ℕ
fd_of (call.TOpen prov nonblock) = None
fd_of (call.TClose fd) = Some fd.0
fd_of (call.TBind fd addr qlen amax) = Some fd.0
fd_of (call.TUnbind fd) = Some fd.0
fd_of (call.TConnect fd addr opt udata amax omax umax) = Some fd.0
fd_of (call.TRcvConnect fd amax omax umax) = Some fd.0
fd_of (call.TListen fd amax omax umax) = Some fd.0
fd_of (call.TAccept fd resfd seq opt udata) = Some fd.0
fd_of (call.TSnd fd bytes flags) = Some fd.0
fd_of (call.TSndV fd parts flags) = Some fd.0
fd_of (call.TRcv fd max) = Some fd.0
fd_of (call.TRcvV fd sizes) = Some fd.0
fd_of (call.TSndDis fd seq udata) = Some fd.0
fd_of (call.TRcvDis fd umax) = Some fd.0
fd_of (call.TSndRel fd) = Some fd.0
fd_of (call.TRcvRel fd) = Some fd.0
fd_of (call.TSndRelData fd udata) = Some fd.0
fd_of (call.TRcvRelData fd umax) = Some fd.0
fd_of (call.TSndUData fd addr opt bytes) = Some fd.0
fd_of (call.TSndVUData fd addr opt parts) = Some fd.0
fd_of (call.TRcvUData fd max amax omax) = Some fd.0
fd_of (call.TRcvVUData fd sizes amax omax) = Some fd.0
fd_of (call.TRcvUDErr fd amax omax) = Some fd.0
fd_of (call.TLookAt fd) = Some fd.0
fd_of (call.TGetState fd) = Some fd.0
fd_of (call.TSync fd) = Some fd.0
fd_of (call.TGetInfo fd) = Some fd.0
fd_of (call.TGetProtAddr fd amax pmax) = Some fd.0
fd_of (call.TOptMgmt fd action opt omax) = Some fd.0
fd_of (call.SetMode fd nonblock) = Some fd.0

-- the cells that a call names, in some order
abbrev pub named : Providers → World → Call → List ℕ
named p w c = cell_of p (fd_of c) ++ others p w c

-- the cells of a call, in rising order, each once
abbrev pub touched : Providers → World → Call → List ℕ
touched p w c = listed (named p w c)
