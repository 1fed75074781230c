-- What each step of the carrier answers, and the world that it leaves.
use Rattle.std.proofs.Common.{◌≡◌, ℕ, ◌≤◌, false, ltb, eqb, List, [], length, take, Option, Some, None, refl, sym, ap, ◌∙◌, arith}
use Rattle.std.proofs.lemmas.Bool.{le-ltb, ne_eqb}
use Rattle.xti_base.specs.Options.{begins_option, is_option_list, options_within}
use Rattle.xti_base.specs.declared.kinds.State.TheVariants.{T_UNBND, T_IDLE}
use Rattle.xti_model.specs.declared.call.Call.{Call}
use Rattle.xti_model.specs.declared.entry.Go.TheVariants.{Begin}
use Rattle.xti_model.specs.declared.entry.Outcome.{Outcome}
use Rattle.xti_model.specs.declared.entry.Outcome.TheVariants.{Done, Part}
use Rattle.xti_model.specs.declared.entry.Reply.{Reply}
use Rattle.xti_model.specs.declared.profile.Providers.{Providers}
use Rattle.xti_model.specs.declared.entry.Reply.TheVariants.{Plain, Opened, Bound, UData}
use Rattle.xti_model.specs.Calls.Datagrams.{with_datagram}
use Rattle.xti_model.specs.Endpoint.{Datagram}
use Rattle.xti_model.specs.Profile.{usual}
use Rattle.xti_model.specs.Step.{Step, plan, step}
use Rattle.xti_model.specs.World.{World, opening}
use Rattle.xti_model.specs.History.{left_by}
use Rattle.xti_core.specs.Standing.{Standing}
use Rattle.xti_gbn.specs.Calls.{opening_call, binding_call, sending_call, receiving_call}
use Rattle.xti_gbn.specs.Answers.{Answers}
use Rattle.xti_gbn.specs.Ready.{sender_address, receiver_address, sender_fd, receiver_fd, idle_at, world_of, standing_with, start, ready}

-- the world after a call
next : World → Call → World
next w call = left_by w (step usual w call Begin)

pub one_open : Standing
one_open = record { providers = usual; cells = next (opening usual) opening_call }

pub both_open : Standing
both_open = record { providers = usual; cells = next one_open.cells opening_call }

pub one_bound : Standing
one_bound = record { providers = usual; cells = next both_open.cells (binding_call sender_fd sender_address) }

pub opens_first : Answers start opening_call (Opened sender_fd) one_open
unfolding start one_open next opening step plan
opens_first = record { after = T_UNBND; is = refl; providers = refl }

pub opens_second : Answers one_open opening_call (Opened receiver_fd) both_open
unfolding start one_open both_open next opening step plan
opens_second = record { after = T_UNBND; is = refl; providers = refl }

pub binds_first : Answers both_open (binding_call sender_fd sender_address) (Bound [] 0) one_bound
unfolding start one_open both_open one_bound next opening step plan
binds_first = record { after = T_IDLE; is = refl; providers = refl }

pub binds_second : Answers one_bound (binding_call receiver_fd receiver_address) (Bound [] 0) ready
unfolding start one_open both_open one_bound next opening step plan world_of ready
binds_second = record { after = T_IDLE; is = refl; providers = refl }

-- ---- a step answers one thing

outcome_in : Option Step → Outcome
outcome_in None = Part 0
outcome_in (Some s) = s.outcome

world_in : Option Step → World
world_in None = []
world_in (Some s) = s.world

same_reply : (r s : Reply) → Done r ≡ Done s → r ≡ s
same_reply r s e = cc

pub one_reply : (old : Standing) (call : Call) (r s : Reply) (v w : Standing) → Answers old call r v → Answers old call s w → r ≡ s
unfolding outcome_in
one_reply old call r s v w a b = same_reply r s (ap outcome_in (sym a.is ∙ b.is))

pub one_world : (old : Standing) (call : Call) (r s : Reply) (v w : Standing) → Answers old call r v → Answers old call s w → v ≡ w
unfolding world_in
one_world old call r s v w a b =
    let cells : v.cells ≡ w.cells = ap world_in (sym a.is ∙ b.is) in
    let providers : v.providers ≡ w.providers = a.providers ∙ sym b.providers in
    ap (λ (ps : Providers). let s : Standing = record { providers = ps; cells = v.cells } in s) providers ∙ ap (λ (cs : World). let s : Standing = record { providers = w.providers; cells = cs } in s) cells

-- ---- a datagram

abbrev from_to : List ℕ → List ℕ → Datagram
from_to source bytes = record { source = source; options = []; bytes = bytes }

pub at_receiver : List ℕ → Standing
at_receiver bytes = standing_with (idle_at sender_address) (with_datagram (from_to sender_address bytes) (idle_at receiver_address))

pub at_sender : List ℕ → Standing
at_sender bytes = standing_with (with_datagram (from_to receiver_address bytes) (idle_at sender_address)) (idle_at receiver_address)

pub sends : (bytes : List ℕ) → 1 ≤ length bytes → length bytes ≤ 517 → Answers ready (sending_call sender_fd receiver_address bytes) Plain (at_receiver bytes)
unfolding ready world_of at_receiver step plan is_option_list options_within begins_option
sends bytes some most =
    let small : ltb 8192 (length bytes) ≡ false = le-ltb _ _ (omega arith) in
    let filled : eqb (length bytes) 0 ≡ false = ne_eqb _ _ (λ e. omega arith) in
    record { after = T_IDLE; is = rw (small, filled) refl; providers = refl }

pub sends_back : (bytes : List ℕ) → 1 ≤ length bytes → length bytes ≤ 517 → Answers ready (sending_call receiver_fd sender_address bytes) Plain (at_sender bytes)
unfolding ready world_of at_sender step plan is_option_list options_within begins_option
sends_back bytes some most =
    let small : ltb 8192 (length bytes) ≡ false = le-ltb _ _ (omega arith) in
    let filled : eqb (length bytes) 0 ≡ false = ne_eqb _ _ (λ e. omega arith) in
    record { after = T_IDLE; is = rw (small, filled) refl; providers = refl }

pub receives : (bytes : List ℕ) → length bytes ≤ 517 → Answers (at_receiver bytes) (receiving_call receiver_fd) (UData [] [] (take 517 bytes) 0) ready
unfolding ready world_of at_receiver step plan
receives bytes most =
    let small : ltb 517 (length bytes) ≡ false = le-ltb _ _ most in
    record { after = T_IDLE; is = rw small refl; providers = refl }

pub receives_back : (bytes : List ℕ) → length bytes ≤ 517 → Answers (at_sender bytes) (receiving_call sender_fd) (UData [] [] (take 517 bytes) 0) ready
unfolding ready world_of at_sender step plan
receives_back bytes most =
    let small : ltb 517 (length bytes) ≡ false = le-ltb _ _ most in
    record { after = T_IDLE; is = rw small refl; providers = refl }
