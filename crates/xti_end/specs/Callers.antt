-- The cells of the callers of requests.
use Rattle.std.specs.Prelude.{◌≡◌, ℕ, List, [], ◌∷◌, ◌++◌, Option, option_map, map, remove, slice_get}
use Rattle.xti_base.specs.declared.kinds.Fd.{Fd}
use Rattle.xti_base.specs.declared.kinds.Seq.{Seq}
use Rattle.xti_model.specs.declared.profile.Providers.{Providers}
use Rattle.xti_model.specs.Cells.{with_number}
use Rattle.xti_model.specs.World.{place_of}
use Rattle.xti_end.specs.declared.indications.Ind.{Ind}
use Rattle.xti_model.specs.Endpoint.{Endpoint, Indication, find_number, without_number}
use Rattle.xti_end.specs.Frames.{indication_of}
use Rattle.xti_end.specs.Held.{Held, parts}

-- the cell of a caller
abbrev pub caller_place : Providers → Ind → ℕ
caller_place p i = place_of p i.caller.0

-- rising numbers, and more of them each in its place
abbrev pub with_numbers : List ℕ → List ℕ → List ℕ
with_numbers [] ms = ms
with_numbers (n ∷ ns) ms = with_number n (with_numbers ns ms)

-- the outstanding request with a number, and its caller
abbrev pub request_with : ℕ → Held → Option Indication
request_with number h = find_number number (parts h).outstanding

abbrev pub caller_with : ℕ → Held → Option ℕ
caller_with number h = option_map (λ i. i.caller) (request_with number h)

-- a request with the number stands at a place, and none before it
abbrev pub StandsFirstAt : ℕ → List Ind → ℕ → Type 0
StandsFirstAt number is place = without_number number (map indication_of is) ≡ remove (map indication_of is) place

-- no request has the number
abbrev pub StandsNowhere : ℕ → List Ind → Type 0
StandsNowhere number is = without_number number (map indication_of is) ≡ map indication_of is

-- the requests that were not answered: the pending ones, and then the outstanding ones
abbrev pub unanswered : Endpoint → List Indication
unanswered e = e.pending ++ e.outstanding

-- who asks, and the number of the request
abbrev pub caller_and_number : Indication → ℕ × ℕ
caller_and_number i = (i.caller, i.number)

abbrev pub numbers_of : Fd × Seq → ℕ × ℕ
numbers_of r = (r.0.0, r.1.0)

-- those of the request at a place
abbrev pub numbers_at : List Indication → ℕ → Option (ℕ × ℕ)
numbers_at is place = option_map caller_and_number (slice_get is place)
