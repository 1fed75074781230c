-- How a survey ends: what the seat's view tells once all cells are given back.
use Rattle.std.proofs.Common.{◌≡◌, ℕ, List, map, sym, ap, ◌∙◌}
use Rattle.std.specs.List.{AllByRecursion}
use Rattle.xti_base.specs.declared.kinds.Fd.{Fd}
use Rattle.xti_model.specs.declared.entry.Entry.{Entry}
use Rattle.xti_lent.specs.Lending.{Lending}
use Rattle.xti_core.specs.Looks.{events_among}
use Rattle.xti_hall_rule.specs.declared.view.View.{View}
use Rattle.xti_hall_rule.specs.Steps.{with_seen, Looked}
use Rattle.xti_hall_rule.proofs.Lookups.{at_has}
use Rattle.xti_hall.specs.Seats.{bare}
use Rattle.xti_gather.specs.Lends.{Lends}
use Rattle.xti_gather.specs.Marks.{IsSeen}
use Rattle.xti_gather.specs.Surveys.{all_events_after}
use Rattle.xti_gather.proofs.Events.{all-whole}

-- what is pending among the lent cells is pending in the world after all that the seat has seen
pub found-then : (v1 v2 v3 : View) (l : Lending) (fds : List Fd) (h : List Entry) (n : ℕ) → Lends v1 l → AllByRecursion (IsSeen l) fds → v2 ≡ with_seen v1 h → Looked v1 n h → bare v3 ≡ bare v2 → map (λ (fd : Fd). events_among l fd.0) fds ≡ all_events_after v3 fds
found-then v1 v2 v3 l fds h n lends all sees looked back =
    all-whole v1 l fds h lends all (λ i m e. looked.parts i m (at_has v1.held i m (lends.held i ∙ e))) ∙ sym (ap (λ (z : View). all_events_after z fds) (back ∙ ap bare sees))
