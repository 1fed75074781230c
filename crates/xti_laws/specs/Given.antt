-- What a sound world gives of its open endpoints, its places and its switch, and what a step of it keeps.
use Rattle.std.specs.Prelude.{ℕ, Bool, true, List, [], ◌∷◌, length, Some, None, is_some, All, ◌≡◌, ◌≤◌, ◌<◌}
use Rattle.xti_base.specs.declared.kinds.Prov.{Prov}
use Rattle.xti_base.specs.declared.limits.TheConstants.{MOST_QUEUE, MOST_TOUCHED, NO_NUMBER}
use Rattle.xti_base.specs.declared.kinds.State.TheVariants.{T_OUTCON}
use Rattle.xti_model.specs.declared.call.Call.{Call}
use Rattle.xti_model.specs.declared.entry.Entry.{Entry}
use Rattle.xti_model.specs.declared.entry.Go.{Go}
use Rattle.xti_model.specs.declared.profile.Providers.{Providers}
use Rattle.xti_model.specs.Profile.{valid}
use Rattle.xti_model.specs.Provider.{has_datagrams}
use Rattle.xti_model.specs.Endpoint.{Endpoint, Target}
use Rattle.xti_model.specs.World.{World, Switch, Numbered, endpoint_cell, switch_cell, cell_at, endpoint, generation_of, place_of, places, switch_number, the_switch}
use Rattle.xti_model.specs.Switch.{bound, listener, chosen}
use Rattle.xti_model.specs.Events.{is_state, sending}
use Rattle.xti_model.specs.Step.{Step, step}
use Rattle.xti_model.specs.History.{Legal, after}
use Rattle.xti_model.specs.SentBytes.{SendsBytes, AllSendBytes}
use Rattle.xti_model.specs.Touched.{named}
use Rattle.xti_laws.specs.Requests.{Stands}
use Rattle.xti_laws.specs.Invariant.{SoundWorld, Paired}
use Rattle.xti_laws.specs.Connections.{Linked}
use Rattle.xti_laws.specs.SoundLaws.{SoundWhenLent, OpenAndBound, OpenAndListening, DatagramsAlone, NumberFits, OpenProvidersPass, OpensPassing}
use Rattle.xti_laws.specs.NeverAnswered.{IsAnswer}
use Rattle.xti_laws.specs.Progress.{Progress}
use Rattle.xti_laws.specs.Replies.{lengths_of, longest_choice, IsShortOutcome}
use Rattle.xti_laws.specs.Symbols.{SoundSymbols}

-- a fact of each open endpoint, with its descriptor
abbrev pub OfOpen : Providers → World → (ℕ → Endpoint → Type 0) → Type 0
OfOpen p w fact = (fd : ℕ) (e : Endpoint) → endpoint p w fd ≡ Some e → fact fd e

-- a fact of every sound world
abbrev pub InSoundWorlds : (Providers → World → Type 0) → Type 0
InSoundWorlds fact = (p : Providers) (w : World) → SoundWorld p w → fact p w

-- a fact of each open endpoint of a sound world, with its descriptor
abbrev pub OfOpenInSoundWorlds : (Providers → World → ℕ → Endpoint → Type 0) → Type 0
OfOpenInSoundWorlds fact = (p : Providers) (w : World) → SoundWorld p w → OfOpen p w (fact p w)

-- a fact of each open endpoint of a sound world, by itself
abbrev pub OfEndpointsInSoundWorlds : (Endpoint → Type 0) → Type 0
OfEndpointsInSoundWorlds fact = (p : Providers) (w : World) → SoundWorld p w → OfOpen p w (λ fd e. fact e)

-- a fact of the switch of a sound world, for each provider
abbrev pub OfSoundSwitches : (Switch → Prov → Type 0) → Type 0
OfSoundSwitches fact = (p : Providers) (w : World) (prov : Prov) → SoundWorld p w → fact (the_switch p w) prov

-- a fact of the step, where it is not blocked
abbrev pub OfStep : Providers → World → Call → Go → (Step → Type 0) → Type 0
OfStep p w c g fact = (s : Step) → step p w c g ≡ Some s → fact s

-- a step of a sound world leads to a sound one
abbrev pub StaysSound : Providers → World → Call → Go → Type 0
StaysSound p w c g = SoundWorld p w → OfStep p w c g (λ s. SoundWorld p s.world)

-- so it does where the values of the providers are valid
abbrev pub StaysSoundIfValid : Providers → World → Call → Go → Type 0
StaysSoundIfValid p w c g = valid p ≡ true → StaysSound p w c g

abbrev pub SoundIfValid : Providers → World → Type 0
SoundIfValid p w = valid p ≡ true → SoundWorld p w

-- few ends wait after a step too, where its call sends bytes
abbrev pub FewEndsStay : Providers → World → Call → Go → Type 0
FewEndsStay p w c g = SendsBytes c → Paired p w → SoundSymbols p w → OfStep p w c g (λ s. SoundSymbols p s.world)

-- few ends wait after entries whose calls send bytes
abbrev pub FewEndsAfter : Providers → List Entry → Type 0
FewEndsAfter p entries = AllSendBytes entries → SoundSymbols p (after p entries)

-- few ends wait after every legal history, of valid providers
abbrev pub AlwaysFewEnds : Type 0
AlwaysFewEnds = (p : Providers) (entries : List Entry) → valid p ≡ true → Legal p entries → SoundSymbols p (after p entries)

-- the providers of open endpoints pass a test after a step too
abbrev pub ProvidersStayPassing : (Prov → Bool) → Providers → World → Call → Go → Type 0
ProvidersStayPassing test p w c g = OpensPassing test c → OpenProvidersPass test p w → OfStep p w c g (λ s. OpenProvidersPass test p s.world)

-- the step tells how far its call has come
abbrev pub TellsProgress : Providers → World → Call → Go → Type 0
TellsProgress p w c g = OfStep p w c g (λ s. Progress c g s.outcome)

-- the step's outcome is an answer
abbrev pub TellsAnswer : Providers → World → Call → Go → Type 0
TellsAnswer p w c g = OfStep p w c g (λ s. IsAnswer s.outcome)

-- each field of a step's reply is short, in a sound world
abbrev pub RepliesShortly : Providers → World → Call → Go → Type 0
RepliesShortly p w c g = SoundWorld p w → OfStep p w c g (λ s. IsShortOutcome (lengths_of c) s.outcome)

-- the cell of each place is sound by itself
abbrev pub PlacesSoundWhenLent : Providers → World → Type 0
PlacesSoundWhenLent p w = (place : ℕ) (c : Numbered) → place < places p → cell_at w place ≡ Some c → SoundWhenLent p (the_switch p w) place c.cell

-- so is the cell of an endpoint that is open with the descriptor
abbrev pub CellSoundWhenLent : Providers → World → ℕ → Endpoint → Type 0
CellSoundWhenLent p w fd e = SoundWhenLent p (the_switch p w) (place_of p fd) (endpoint_cell (generation_of p fd) (Some e))

-- an open descriptor has 32 bits, and is not that of a failed open
abbrev pub DescriptorFits : Providers → World → ℕ → Endpoint → Type 0
DescriptorFits p w fd e = fd < NO_NUMBER

abbrev pub AloneIfDatagrams : Endpoint → Type 0
AloneIfDatagrams e = has_datagrams e.prov ≡ true → DatagramsAlone e

-- no more disconnects wait than a queue takes
abbrev pub FewDisconnects : Endpoint → Type 0
FewDisconnects e = length e.disconnects ≤ MOST_QUEUE

abbrev pub NumbersFit : Endpoint → Type 0
NumbersFit e = All NumberFits e.pending × All NumberFits e.outstanding

-- an endpoint that has a peer asks for no connection, and no disconnect waits at it
abbrev pub UnbrokenWithPeer : Endpoint → Type 0
UnbrokenWithPeer e = (peer : ℕ) → e.peer ≡ Some peer → (e.target ≡ None) × (e.disconnects ≡ [])

-- a call names few cells
abbrev pub NamesFew : Providers → World → Call → Type 0
NamesFew p w c = SoundWorld p w → length (named p w c) < MOST_TOUCHED

-- two open descriptors of one place are the same
abbrev pub OneOpenEach : Providers → World → Type 0
OneOpenEach p w = (x y : ℕ) (e d : Endpoint) → endpoint p w x ≡ Some e → endpoint p w y ≡ Some d → place_of p x ≡ place_of p y → x ≡ y

abbrev pub AreApart : Providers → ℕ → ℕ → Type 0
AreApart p x y = (place_of p x ≡ place_of p y) → ⊥

-- two that name each other are in different places
abbrev pub PeersApart : Providers → World → Type 0
PeersApart p w = (x y : ℕ) (e d : Endpoint) → endpoint p w x ≡ Some e → endpoint p w y ≡ Some d → e.peer ≡ Some y → d.peer ≡ Some x → AreApart p x y

-- so are the caller of a request that stands at a listener, and the listener
abbrev pub CallersApart : Providers → World → Type 0
CallersApart p w = (l n c : ℕ) (e : Endpoint) → endpoint p w l ≡ Some e → Stands e n c → AreApart p c l

-- the listener of an endpoint's target, and the endpoint
abbrev pub TargetsApart : Providers → World → Type 0
TargetsApart p w = (c : ℕ) (e : Endpoint) (t : Target) → endpoint p w c ≡ Some e → e.target ≡ Some t → AreApart p t.listener c

-- the listener that a request would find, and the endpoint that asks
abbrev pub ListenersApart : Providers → World → Type 0
ListenersApart p w = (prov : Prov) (address : List ℕ) (from fd : ℕ) (e : Endpoint) → endpoint p w from ≡ Some e → listener (the_switch p w) prov address from ≡ Some fd → AreApart p fd from

-- an endpoint that can send and has no disconnect is linked
abbrev pub LinkedWhereItSends : Providers → World → ℕ → Endpoint → Type 0
LinkedWhereItSends p w fd e = is_state sending e ≡ true → e.disconnects ≡ [] → Linked p w fd e

-- so is one whose confirmation waits
abbrev pub LinkedWhereConfirmed : Providers → World → ℕ → Endpoint → Type 0
LinkedWhereConfirmed p w fd e = is_state (T_OUTCON ∷ []) e ≡ true → is_some e.confirmation ≡ true → Linked p w fd e

-- the switch has the cell after those of the places
abbrev pub HasSwitch : Providers → World → Type 0
HasSwitch p w = cell_at w (switch_number p) ≡ Some (record { number = switch_number p; cell = switch_cell (the_switch p w) })

-- the switch binds no more addresses than there are places
abbrev pub BindsFew : Providers → World → Type 0
BindsFew p w = length (the_switch p w).bindings ≤ places p

-- who is bound to an address is open and has it
abbrev pub BoundAreOpen : Providers → World → Type 0
BoundAreOpen p w = (prov : Prov) (address : List ℕ) (fd : ℕ) → bound (the_switch p w) prov address ≡ Some fd → OpenAndBound p w prov address fd

-- who listens at an address has a queue too
abbrev pub ListenersAreOpen : Providers → World → Type 0
ListenersAreOpen p w = (prov : Prov) (address : List ℕ) (from fd : ℕ) → listener (the_switch p w) prov address from ≡ Some fd → OpenAndListening p w prov address fd

-- the address that the provider chooses is bound to nobody
abbrev pub ChoiceIsFree : Switch → Prov → Type 0
ChoiceIsFree s prov = bound s prov (chosen s prov []) ≡ None

abbrev pub ChoiceIsShort : Switch → Prov → Type 0
ChoiceIsShort s prov = length (chosen s prov []) ≤ longest_choice
