-- What the peer of a sender takes in one step.
use Rattle.std.specs.Prelude.{◌≡◌, ◌≤◌, ◌-◌, ◌+◌, ◌∷◌, ◌++◌, ℕ, Bool, false, not, List, [], length, take, drop, min, Option}
use Rattle.std.specs.List.{concat}
use Rattle.tpi_prim.specs.Fields.{primitive_in}
use Rattle.tpi_prim.specs.Indication.{data_ind}
use Rattle.xti_base.specs.declared.kinds.Fd.{Fd}
use Rattle.xti_base.specs.declared.limits.TheConstants.{MOST_SEND}
use Rattle.xti_model.specs.declared.profile.Providers.{Providers}
use Rattle.xti_model.specs.Arguments.{is_expedited}
use Rattle.xti_model.specs.Calls.Send as Send
use Rattle.xti_model.specs.Endpoint.{Endpoint}
use Rattle.xti_model.specs.Links.{at_linked, if_names}
use Rattle.xti_model.specs.Sending.{message_limit, unfinished}
use Rattle.xti_model.specs.Symbols.{piece}
use Rattle.xti_model.specs.World.{Change, at_endpoint, endpoint_in, generation_of}
use Rattle.xti_end.specs.Frames.{symbols_in}
use Rattle.xti_end.specs.Held.{Held, cell}
use Rattle.xti_lent.specs.Answers.{Changed}
use Rattle.xti_lent.specs.Lending.{Lending, number_of}
use Rattle.xti_lent.specs.Lends.{ChangesAt}
use Rattle.xti_data.specs.declared.portions.Portion.{Portion}

-- so many bytes were left before
abbrev pub left_after : ℕ → List (List ℕ) → ℕ
left_after before parts = length (concat parts) - before

-- what is taken of the parts where there is room for so many bytes
abbrev pub portion_of : Providers → List (List ℕ) → ℕ → ℕ → ℕ → Endpoint → Portion
portion_of p parts flags before room e = record {
  expedited = is_expedited flags;
  before = before;
  count = min (left_after before parts) room;
  ends = Send.closes p e flags (left_after before parts) (min (left_after before parts) room);
}

-- the parts have these bytes, of which there are few
pub record IsOfParts (parts : List (List ℕ)) (portion : Portion) : Type 0 where
  pub there : portion.count ≤ left_after portion.before parts
  pub few : portion.count ≤ MOST_SEND

-- its bytes, and what waits of it at the peer
abbrev pub bytes_of : List ℕ → Portion → List ℕ
bytes_of bytes portion = take portion.count (drop portion.before bytes)

abbrev pub piece_of : List ℕ → Portion → List ℕ
piece_of bytes portion = piece (bytes_of bytes portion) portion.ends

-- the frame is its indication
abbrev pub IsIndication : List (List ℕ) → Portion → List ℕ → Type 0
IsIndication parts portion frame = primitive_in frame ≡ data_ind portion.expedited (not portion.ends) (bytes_of (concat parts) portion)

-- the frame is what waits of it at the peer
abbrev pub IsPiece : List (List ℕ) → Portion → List ℕ → Type 0
IsPiece parts portion frame = symbols_in frame ≡ piece_of (concat parts) portion

-- the data of the frame wait at an endpoint that names this one as its peer
abbrev pub received_from : ℕ → Bool → List ℕ → Endpoint → Endpoint
received_from from expedited frame = if_names from (Send.received expedited (symbols_in frame))

-- so the endpoint at a place changes, and so lent cells do
abbrev pub TakesData : Providers → ℕ → ℕ → Bool → List ℕ → Held → Held → Type 0
TakesData p fd from expedited frame old new = ChangesAt p fd (received_from from expedited frame) old new

abbrev pub taking_data : ℕ → ℕ → Bool → List ℕ → List Change
taking_data fd from expedited frame = at_endpoint fd (received_from from expedited frame) ∷ []

-- the linked peer gets it
abbrev pub pushing : ℕ → Option ℕ → List ℕ → Portion → List Change
pushing fd peer bytes portion = at_linked fd peer (Send.received portion.expedited (piece_of bytes portion))

-- the sender counts it
abbrev pub counted : Providers → Portion → Endpoint → Endpoint
counted p portion = Send.sent p portion.expedited portion.ends portion.count

abbrev pub counting : Providers → ℕ → Portion → List Change
counting p fd portion = at_endpoint fd (counted p portion) ∷ []

-- the linked peer gets it, and the sender counts it
abbrev pub giving : Providers → ℕ → Option ℕ → List ℕ → Portion → List Change
giving p fd peer bytes portion = pushing fd peer bytes portion ++ counting p fd portion

-- so lent cells change
abbrev pub Pushes : Lending → Lending → ℕ → Option Fd → List (List ℕ) → Portion → Type 0
Pushes old new fd peer parts portion = Changed (pushing fd (number_of peer) (concat parts) portion) old new

abbrev pub Gives : Lending → Lending → ℕ → Option Fd → List (List ℕ) → Portion → Type 0
Gives old new fd peer parts portion = Changed (giving old.providers fd (number_of peer) (concat parts) portion) old new

-- so many bytes more pass the limit of the message of the kind
abbrev pub passes_limit : Providers → Bool → ℕ → Endpoint → Bool
passes_limit p expedited more e = Send.is_over (message_limit p e expedited) (unfinished expedited e + more)

-- how long the unfinished message is once they were sent
abbrev pub count_after : Providers → Bool → Bool → ℕ → Endpoint → ℕ
count_after p expedited ends more e = Send.count_more (message_limit p e expedited) ends (unfinished expedited e + more)

-- the message of the endpoint stays within its limit
abbrev pub IsWithin : Providers → Portion → Endpoint → Type 0
IsWithin p portion e = passes_limit p portion.expedited portion.count e ≡ false

-- the endpoint at a place, where it is open with the descriptor
abbrev pub open_in : Providers → ℕ → Held → Option Endpoint
open_in p fd h = endpoint_in (generation_of p fd) (cell h)
