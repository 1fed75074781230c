-- Two endpoints that name each other, and how a connection is broken.
use Rattle.std.specs.Prelude.{ℕ, Bool, false, ◌==◌, List, [], ◌∷◌, ◌++◌, Option, Some, None, is_some, option_and_then, if◌then◌else◌}
use Rattle.xti_model.specs.declared.profile.Providers.{Providers}
use Rattle.xti_model.specs.Endpoint.{Endpoint, Target, reset, disconnected, find_number, without_number}
use Rattle.xti_model.specs.World.{World, Change, endpoint, at_endpoint}

-- whether it is this descriptor
abbrev pub names : ℕ → Option ℕ → Bool
names fd None = false
names fd (Some other) = other == fd

-- only where it names this endpoint as its peer
abbrev pub if_back : ℕ → Endpoint → Option Endpoint
if_back fd e = if names fd e.peer then Some e else None

-- the endpoint that this one is linked with
abbrev pub linked : Providers → World → ℕ → Endpoint → Option Endpoint
linked p w fd e = option_and_then (λ peer. option_and_then (λ other. if_back fd other) (endpoint p w peer)) e.peer

-- two are linked where each names the other
abbrev pub is_linked : Providers → World → ℕ → Endpoint → Bool
is_linked p w fd e = is_some (linked p w fd e)

-- a change of an endpoint that names this one as its peer
abbrev pub if_names : ℕ → (Endpoint → Endpoint) → Endpoint → Endpoint
if_names fd f e = if names fd e.peer then f e else e

-- the endpoint changes that this one is linked with
abbrev pub at_linked : ℕ → Option ℕ → (Endpoint → Endpoint) → List Change
at_linked fd None f = []
at_linked fd (Some peer) f = at_endpoint peer (if_names fd f) ∷ []

-- A request is taken back: where it is pending it goes, and where it is outstanding the listener gets a disconnect.
abbrev pub taken_back : ℕ → ℕ → List ℕ → Endpoint → Endpoint
taken_back number reason udata e =
    if is_some (find_number number e.pending) then record e { pending = without_number number e.pending } else
    if is_some (find_number number e.outstanding) then disconnected reason number udata e else e

-- the listener that is asked hears of it
abbrev pub take_back : Option Target → ℕ → List ℕ → List Change
take_back None reason udata = []
take_back (Some t) reason udata = at_endpoint t.listener (taken_back t.number reason udata) ∷ []

-- the connection is cleared, and a disconnect waits
abbrev pub broken : ℕ → List ℕ → Endpoint → Endpoint
broken reason udata e = disconnected reason 0 udata (reset e)

-- what others hear where an endpoint ends its connection or its request
abbrev pub break : ℕ → Endpoint → ℕ → List ℕ → List Change
break fd e reason udata = at_linked fd e.peer (broken reason udata) ++ take_back e.target reason udata
