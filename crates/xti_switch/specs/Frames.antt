-- What the frames of requests, of their answers and of disconnects tell.
use Rattle.std.specs.Prelude.{◌≡◌, ℕ, List}
use Rattle.xti_model.specs.Endpoint.{Endpoint, address_of}
use Rattle.xti_end.specs.Frames.{request_in, confirmation_in, disconnect_in}

-- the request of the endpoint under this number, whoever the caller is
abbrev pub IsRequestBy : Endpoint → ℕ → List ℕ → List ℕ → List ℕ → Type 0
IsRequestBy e number options udata frame =
    (caller : ℕ) → request_in caller frame ≡ record { number = number; caller = caller; address = address_of e; options = options; udata = udata }

-- the confirmation from this address
abbrev pub IsConfirmation : List ℕ → List ℕ → List ℕ → List ℕ → Type 0
IsConfirmation address options udata frame = confirmation_in frame ≡ record { address = address; options = options; udata = udata }

-- the disconnect with a reason, the number of a request or 0, and data
abbrev pub IsDisconnect : ℕ → ℕ → List ℕ → List ℕ → Type 0
IsDisconnect reason number udata frame = disconnect_in frame ≡ record { reason = reason; number = number; udata = udata }
