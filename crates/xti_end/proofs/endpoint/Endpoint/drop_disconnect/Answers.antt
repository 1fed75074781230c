use Rattle.std.proofs.Common.{◌≡◌, ℕ, ◌<◌, true, false, List, [], ◌∷◌, drop, length, Option, None, Some, sym, ap, refl, ◌∙◌, arith}
use Rattle.std.specs.Prelude.{option_map, remove}
use Rattle.xti_base.specs.Kinds.{same_state}
use Rattle.xti_base.specs.declared.kinds.State.{State}
use Rattle.xti_base.specs.declared.kinds.State.TheVariants.{T_IDLE, T_INCON}
use Rattle.xti_model.specs.Calls.Disconnect as Disconnect
use Rattle.xti_model.specs.Calls.Listen.{taken_out}
use Rattle.xti_model.specs.Endpoint.{Endpoint, Disconnect as Notice, reset}
use Rattle.xti_model.specs.Events.{some_wait}
use Rattle.xti_end.specs.Held.{Held, parts, parts_of, with_parts, without_disconnect_at}
use Rattle.xti_end.proofs.Rooms.{stays_open, two_changes}
use Rattle.xti_end.proofs.endpoint.Endpoint.drop_disconnect.Goals as goal

remove-first : {A : Type 0} (xs : List A) → remove xs 0 ≡ drop 1 xs
remove-first [] = refl
remove-first (x ∷ xs) = refl

-- a listener loses its request
request-dropped : (o : Option Endpoint) (state : State) (number : ℕ) → state ≡ (parts_of o).state → same_state state T_INCON ≡ true → number ≡ (Disconnect.oldest (parts_of o)).number
    → option_map (without_disconnect_at 0) (option_map (taken_out number) o) ≡ option_map Disconnect.received o
request-dropped None state number s t n = refl
request-dropped (Some e) state number s t n =
    let asked : same_state e.state T_INCON ≡ true = ap (λ (x : State). same_state x T_INCON) (sym s) ∙ t in
    rw (asked, n, remove-first e.disconnects) refl

-- of others nothing of the connection is left
connection-dropped : (o : Option Endpoint) (state : State) → state ≡ (parts_of o).state → same_state state T_INCON ≡ false
    → option_map (λ (e : Endpoint). record e { state = T_IDLE }) (option_map reset o) ≡ option_map Disconnect.received o
connection-dropped None state s t = refl
connection-dropped (Some e) state s t =
    let asked : same_state e.state T_INCON ≡ false = ap (λ (x : State). same_state x T_INCON) (sym s) ∙ t in
    rw asked refl

some-there : {A : Type 0} (xs : List A) → some_wait xs ≡ true → 0 < length xs
some-there [] h = cc
some-there (x ∷ xs) h = omega arith

-- what is taken out is no disconnect
disconnects-stay : (o : Option Endpoint) (number : ℕ) → (parts_of (option_map (taken_out number) o)).disconnects ≡ (parts_of o).disconnects
disconnects-stay None number = refl
disconnects-stay (Some e) number = refl

still-there : (old new : Held) (number : ℕ) → new ≡ with_parts (taken_out number) old → some_wait (parts old).disconnects ≡ true → 0 < length (parts new).disconnects
still-there old new number e w =
    some-there (parts new).disconnects (ap some_wait (ap (λ (x : Held). (parts x).disconnects) e ∙ disconnects-stay old.body number) ∙ w)

pub state-requires : goal.state-requires
state-requires c = c.requires.«open»

pub oldest_disconnect-requires-clause-open : goal.oldest_disconnect-requires-clause-open
oldest_disconnect-requires-clause-open c = c.requires.«open»

pub oldest_disconnect-requires-clause-waits : goal.oldest_disconnect-requires-clause-waits
oldest_disconnect-requires-clause-waits c = c.requires.waits

pub number-seq-requires : goal.number-seq-requires
number-seq-requires c = c.oldest_disconnect.ensures.kind

pub take_out-requires : goal.take_out-requires
take_out-requires c = c.requires.«open»

pub take_disconnect-disconnect-requires-clause-open : goal.take_disconnect-disconnect-requires-clause-open
take_disconnect-disconnect-requires-clause-open c = stays_open c.args.self.now c.take_out.new.self _ c.take_out.ensures c.requires.«open»

pub take_disconnect-disconnect-requires-clause-there : goal.take_disconnect-disconnect-requires-clause-there
take_disconnect-disconnect-requires-clause-there c = still-there c.args.self.now c.take_out.new.self c.number-seq.result.0 c.take_out.ensures c.requires.waits

pub reset-requires : goal.reset-requires
reset-requires c = c.requires.«open»

pub set_state-requires-clause-open : goal.set_state-requires-clause-open
set_state-requires-clause-open c = stays_open c.args.self.now c.reset.new.self _ c.reset.ensures c.requires.«open»

pub set_state-requires-clause-state : goal.set_state-requires-clause-state
set_state-requires-clause-state c = refl

pub returns-then-is : goal.returns-then-is
returns-then-is c =
    two_changes c.args.self.now c.take_out.new.self c.take_disconnect-disconnect.new.self (taken_out c.number-seq.result.0) (without_disconnect_at 0) Disconnect.received c.take_out.ensures c.take_disconnect-disconnect.ensures.taken
    (request-dropped c.args.self.now.body c.state.result c.number-seq.result.0 c.state.ensures (sym c.is.ensures ∙ c.if-is.true)
    (c.number-seq.ensures ∙ ap (λ (d : Notice). d.number) c.oldest_disconnect.ensures.disconnect))

pub returns-else-is : goal.returns-else-is
returns-else-is c =
    two_changes c.args.self.now c.reset.new.self c.set_state.new.self reset (λ (e : Endpoint). record e { state = T_IDLE }) Disconnect.received c.reset.ensures c.set_state.ensures
    (connection-dropped c.args.self.now.body c.state.result c.state.ensures (sym c.is.ensures ∙ c.if-is.false))
