-- What sums tell of pairs is what is found of them.
use Rattle.std.proofs.Common.{◌≡◌, ◌∙◌, ℕ, List, [], ◌∷◌, map, Option, Some, None, refl, ap}
use Rattle.std.specs.Prelude.{option_map}
use Rattle.xti_base.specs.declared.kinds.Fd.{Fd}
use Rattle.xti_model.specs.declared.profile.Providers.{Providers}
use Rattle.xti_model.specs.Endpoint.{Endpoint}
use Rattle.xti_model.specs.Events.{around, is_pending}
use Rattle.xti_model.specs.World.{World, endpoint}
use Rattle.xti_core.specs.Looks.{events_by}
use Rattle.xti_hall_rule.specs.declared.view.View.{View}
use Rattle.xti_hall_rule.specs.Histories.{after}
use Rattle.xti_gather.specs.Surveys.{events_after, all_events_after}
use Rattle.xti_poll.specs.declared.asked.Asked.{Asked}
use Rattle.xti_poll.specs.Polls.{told, found_at, found_after, all_found_after}
use Rattle.xti_poll.specs.Sums.{told_of, all_told, all_pending_after}
use Rattle.xti_poll.proofs.SumBits.{first-both}

told-at : (p : Providers) (w : World) (a : Asked) (o : Option Endpoint) → told_of a (option_map (events_by p w a.fd.0) o) ≡ found_at p w a o
told-at p w a None = refl
told-at p w a (Some e) = ap (told a.fd) (first-both (is_pending (around p w a.fd.0 e) e) a.events)

told-found : (v : View) (a : Asked) → told_of a (events_after v a.fd) ≡ found_after v a
told-found v a = told-at v.setting.providers (after v.setting v.seen) a (endpoint v.setting.providers (after v.setting v.seen) a.fd.0)

all-found : (v : View) (s : List Asked) → all_told s (all_pending_after v s) ≡ all_found_after v s
all-found v [] = refl
all-found v (a ∷ s) = λ i. told-found v a i ∷ all-found v s i

-- what is pending at the descriptors of pairs
pending-pairs : (v : View) (s : List Asked) → all_events_after v (map (λ (a : Asked). a.fd) s) ≡ all_pending_after v s
pending-pairs v [] = refl
pending-pairs v (a ∷ s) = ap (λ (z : List (Option ℕ)). events_after v a.fd ∷ z) (pending-pairs v s)

pub pending-of : (v : View) (s : List Asked) (fds : List Fd) → fds ≡ map (λ (a : Asked). a.fd) s → all_events_after v fds ≡ all_pending_after v s
pending-of v s fds e = ap (all_events_after v) e ∙ pending-pairs v s

-- what is told of all pairs is what is found of them
pub found-of : (v : View) (s : List Asked) (pending : List (Option ℕ)) → pending ≡ all_pending_after v s → all_told s pending ≡ all_found_after v s
found-of v s pending e = ap (all_told s) e ∙ all-found v s
