-- What contracts see of a rider, and what its steps tell.
use Rattle.std.specs.Prelude.{◌≡◌, Bool, true, false, List, [], ◌∷◌, ◌++◌, None}
use Rattle.xti_base.specs.declared.kinds.State.{State}
use Rattle.xti_model.specs.declared.call.Call.{Call}
use Rattle.xti_model.specs.declared.entry.Act.{Act}
use Rattle.xti_model.specs.declared.entry.Applied.{Applied}
use Rattle.xti_model.specs.declared.entry.Applied.TheVariants as applied
use Rattle.xti_model.specs.declared.entry.Entry.{Entry}
use Rattle.xti_model.specs.declared.entry.Go.{Go}
use Rattle.xti_model.specs.declared.entry.Outcome.{Outcome}
use Rattle.xti_model.specs.declared.entry.Outcome.TheVariants.{Done, Part}
use Rattle.xti_model.specs.declared.profile.Providers.{Providers}
use Rattle.xti_model.specs.History.{Fits, after, unfinished_from}
use Rattle.xti_model.specs.Robin.{act_of}
use Rattle.xti_model.specs.Step.{step}
use Rattle.xti_core.specs.Standing.{Standing}
use Rattle.xti_laws.specs.Replies.{Lengths, lengths_of}
use Rattle.xti_sock.specs.Sights.{Sight, IsStanding}
use Rattle.xti_sock.specs.SightSteps.{going_at}

-- the providers, all entries, and whether no call is unfinished
pub record Ride : Type 0 where
  pub providers : Providers
  pub entries : List Entry
  pub free : Bool

abbrev pub ride : Providers → List Entry → Bool → Ride
ride p entries free = record { providers = p; entries = entries; free = free }

-- number 0, which has seen all entries, and made them
abbrev pub sight_of : Ride → Sight
sight_of r = record { providers = r.providers; number = 0; seen = r.entries; mine = r.entries; free = r.free }

-- the world is the one after the entries, which are a legal history
pub record IsRiding (w : Standing) (entries : List Entry) (free : Bool) : Type 0 where
  pub cells : w.cells ≡ after w.providers entries
  pub standing : IsStanding (sight_of (ride w.providers entries free))

-- what the entry of a step shows of its call, and room for the reply
abbrev pub IsCopy : Call → Go → Act × Lengths → Type 0
IsCopy c g copy = (copy.0 ≡ act_of g c) × (copy.1 ≡ lengths_of c)

-- this is the next step of the call
abbrev pub IsAt : Ride → Call → Go → Type 0
IsAt r c g = unfinished_from None None r.entries ≡ going_at c g

abbrev pub is_done : Outcome → Bool
is_done (Done reply) = true
is_done (Part taken) = false

abbrev pub entry_of : Call → Go → Outcome → State → Entry
entry_of c g outcome state = record { worker = 0; act = act_of g c; outcome = outcome; after = state }

abbrev pub with_entry : Ride → Entry → Ride
with_entry r e = ride r.providers (r.entries ++ e ∷ []) (is_done e.outcome)

-- the entry is that of the definition's step after the entries, and one more of them
pub record Makes (r : Ride) (c : Call) (g : Go) (e : Entry) (r' : Ride) : Type 0 where
  pub fits : Fits (step r.providers (after r.providers r.entries) c g) e
  pub is : r' ≡ with_entry r e

-- the step is blocked after the entries, which stay
pub record Waits (r : Ride) (c : Call) (g : Go) (r' : Ride) : Type 0 where
  pub blocked : step r.providers (after r.providers r.entries) c g ≡ None
  pub is : r' ≡ r

-- what a step's answer tells
abbrev pub Steps : Ride → Call → Go → Ride → Applied → Type 0
Steps r c g r' (applied.Step outcome state) = Makes r c g (entry_of c g outcome state) r'
Steps r c g r' applied.Blocked = Waits r c g r'
