-- What the laws of a step say.
use Rattle.std.specs.Prelude.{ℕ, Bool, true, ◌≡◌, ◌≤◌, List, [], ◌∷◌, length, None, option_map}
use Rattle.xti_model.specs.declared.call.Call.{Call}
use Rattle.xti_model.specs.declared.call.Call.TheVariants as call
use Rattle.xti_model.specs.declared.entry.Entry.{Entry}
use Rattle.xti_model.specs.declared.entry.Go.{Go}
use Rattle.xti_model.specs.declared.profile.Providers.{Providers}
use Rattle.xti_model.specs.World.{World, Cell, Change, is_among, only, without, new_cell, place_of, places, the_switch, endpoint}
use Rattle.xti_model.specs.Switch.{opening_place}
use Rattle.xti_model.specs.Calls.Open.{no_fd}
use Rattle.xti_model.specs.Step.{Step, plan, step}
use Rattle.xti_model.specs.Touched.{named, touched}
use Rattle.xti_model.specs.History.{after, after_from, left_by, Legal}
use Rattle.xti_laws.specs.Updates.{Kind}

-- this holds of any call in any world, whatever was told of its progress
abbrev pub OfAnyStep : (Providers → World → Call → Go → Type 0) → Type 0
OfAnyStep holds = (p : Providers) (w : World) (c : Call) (g : Go) → holds p w c g

-- this holds of the world after any entries, legal or not
abbrev pub AfterAnyEntries : (Providers → World → Type 0) → Type 0
AfterAnyEntries holds = (p : Providers) (entries : List Entry) → holds p (after p entries)

-- this holds of every legal history
abbrev pub OfLegalHistories : (Providers → List Entry → Type 0) → Type 0
OfLegalHistories holds = (p : Providers) (entries : List Entry) → Legal p entries → holds p entries

-- every number of the second list is among those of the first
abbrev pub Within : List ℕ → List ℕ → Type 0
Within t [] = Unit {0}
Within t (n ∷ ns) = (is_among t n ≡ true) × Within t ns

-- a step, with only some cells of its next world
abbrev pub restrict : List ℕ → Step → Step
restrict t s = record s { world = only t s.world }

-- these cells have all that a call names in a world
abbrev pub HasNamed : Providers → List ℕ → World → Call → Type 0
HasNamed p t w c = Within t (named p w c)

-- this holds of any cells of a world that have all that a call names
abbrev pub OnNamedCells : (Providers → List ℕ → World → Call → Type 0) → Type 0
OnNamedCells holds = (p : Providers) (t : List ℕ) (w : World) (c : Call) → HasNamed p t w c → holds p t w c

-- these cells of a world are enough for a call: they have all that it touches on them alone
abbrev pub Enough : Providers → List ℕ → World → Call → Type 0
Enough p t w c = Within t (touched p (only t w) c)

-- this holds of any cells of a world that are enough for a call
abbrev pub OnEnoughCells : (Providers → List ℕ → World → Call → Type 0) → Type 0
OnEnoughCells holds = (p : Providers) (t : List ℕ) (w : World) (c : Call) → Enough p t w c → holds p t w c

-- a call names the same on these cells alone as in the world
abbrev pub NamesSame : Providers → List ℕ → World → Call → Type 0
NamesSame p t w c = named p (only t w) c ≡ named p w c

-- a call touches the same on these cells alone as in the world
abbrev pub TouchesSame : Providers → List ℕ → World → Call → Type 0
TouchesSame p t w c = touched p (only t w) c ≡ touched p w c

-- a step on these cells alone answers as the world's, and leaves them as it does
abbrev pub SameStep : Providers → List ℕ → World → Call → Go → Type 0
SameStep p t w c g = step p (only t w) c g ≡ option_map (restrict t) (step p w c g)

-- so does each step that tells the state of an endpoint among them
abbrev pub SameIfTold : Providers → List ℕ → World → Call → Type 0
SameIfTold p t w c = (g : Go) → is_among t (place_of p (plan p w c g).fd) ≡ true → SameStep p t w c g

-- no step of the call changes a cell that is not among these
abbrev pub LeavesOthers : Providers → List ℕ → World → Call → Type 0
LeavesOthers p t w c = (g : Go) → without t (left_by w (step p w c g)) ≡ without t w

-- of every cell of a world
abbrev pub AllCells : (Cell → Type 0) → World → Type 0
AllCells P [] = Unit {0}
AllCells P (c ∷ w) = P c.cell × AllCells P w

-- each named kind of change keeps it of a cell
abbrev pub Keeps : Providers → (Cell → Type 0) → Type 0
Keeps p P = (c : Change) → Kind c → (x : Cell) → P x → P (new_cell p c x)

abbrev pub Passes : (Cell → Bool) → Cell → Type 0
Passes test cell = test cell ≡ true

-- where every cell passes a test, every cell does after any entries
abbrev pub PassesAfterAny : Providers → (Cell → Bool) → Type 0
PassesAfterAny p test = (w : World) (past entries : List Entry) → AllCells (Passes test) w → AllCells (Passes test) (after_from p w past entries)

-- where each named kind of change keeps a cell passing the test, it is so
abbrev pub KeptAfterAny : Providers → (Cell → Bool) → Type 0
KeptAfterAny p test = Keeps p (Passes test) → PassesAfterAny p test

-- the switch knows no more places than there are
abbrev pub KnowsNoMore : Providers → World → Type 0
KnowsNoMore p w = length (the_switch p w).places ≤ places p

-- an open that no place can take tells the state of a descriptor which is not open
abbrev pub TellsNone : Providers → World → Call → Type 0
TellsNone p w (call.TOpen prov nonblock) = opening_place p (the_switch p w) prov ≡ None → endpoint p w no_fd ≡ None
TellsNone p w other = Unit

-- each step on these cells alone is the world's
abbrev pub SameSteps : Providers → List ℕ → World → Call → Type 0
SameSteps p t w c = KnowsNoMore p w → TellsNone p w c → (g : Go) → SameStep p t w c g
