-- The events that are pending among the cells that a look touches are those that are pending in the whole world.
use Rattle.std.proofs.Common.{◌≡◌, ℕ, List, [], ◌∷◌, ◌++◌, map, Option, Some, None, refl, ap, ◌∙◌}
use Rattle.std.specs.Prelude.{option_map, sum_by}
use Rattle.std.specs.List.{AllByRecursion}
use Rattle.xti_base.specs.declared.kinds.Fd.{Fd}
use Rattle.xti_base.specs.Kinds.{event_number}
use Rattle.xti_model.specs.declared.call.Call.TheVariants.{TLookAt}
use Rattle.xti_model.specs.declared.entry.Entry.{Entry}
use Rattle.xti_model.specs.declared.profile.Providers.{Providers}
use Rattle.xti_model.specs.Endpoint.{Endpoint}
use Rattle.xti_model.specs.Events.{Around, pending}
use Rattle.xti_model.specs.Touched.{named, peer_cell, marked_cells, of_some}
use Rattle.xti_model.specs.World.{World, Cell, endpoint, only}
use Rattle.xti_laws.specs.Laws.{Within}
use Rattle.xti_laws.proofs.Local.{around-only}
use Rattle.xti_laws.proofs.Only.{endpoint-only}
use Rattle.xti_lent.specs.Lending.{Lending, cell_lent}
use Rattle.xti_core.specs.Looks.{events_by, events_in, events_among}
use Rattle.xti_hall_rule.specs.declared.view.View.{View}
use Rattle.xti_hall_rule.specs.Histories.{part, after}
use Rattle.xti_gather.specs.Lends.{Lends}
use Rattle.xti_gather.proofs.Looked.{read-whole}
use Rattle.xti_gather.specs.Marks.{IsSeen}

-- cells that have all that a look names: the same events are pending on them alone
events-only : (p : Providers) (t : List ℕ) (w : World) (fd : Fd) → Within t (named p w (TLookAt fd)) → events_in p (only t w) fd.0 ≡ events_in p w fd.0
events-only p t w fd h = ap (option_map (events_by p (only t w) fd.0)) (endpoint-only p t fd.0 h.0 w) ∙ go (endpoint p w fd.0) h.1
  where
    go : (o : Option Endpoint) → Within t (of_some o (λ e. peer_cell p e ++ marked_cells p w e)) → option_map (events_by p (only t w) fd.0) o ≡ option_map (events_by p w fd.0) o
    go None k = refl
    go (Some e) k = ap (λ (a : Around). Some (sum_by event_number (pending a e))) (around-only p t w fd.0 e k)

-- the lent cells have all that a look touches, and are as after this history: what is pending there is pending in the whole world
events-whole : (v : View) (l : Lending) (fd : Fd) (h : List Entry) → Lends v l → IsSeen l fd → ((n : ℕ) (m : Cell) → cell_lent l n ≡ Some m → m ≡ part n (after v.setting h))
    → events_among l fd.0 ≡ events_in v.setting.providers (after v.setting h) fd.0
events-whole v l fd h lends all parts = read-whole (λ (p : Providers) (w : World). events_in p w fd.0) v l fd h (λ p t w k. events-only p t w fd k) lends all parts

-- the same of each descriptor
pub all-whole : (v : View) (l : Lending) (fds : List Fd) (h : List Entry) → Lends v l → AllByRecursion (IsSeen l) fds → ((n : ℕ) (m : Cell) → cell_lent l n ≡ Some m → m ≡ part n (after v.setting h))
    → map (λ (fd : Fd). events_among l fd.0) fds ≡ map (λ (fd : Fd). events_in v.setting.providers (after v.setting h) fd.0) fds
all-whole v l [] h lends all parts = refl
all-whole v l (fd ∷ fds) h lends all parts = λ i. events-whole v l fd h lends all.0 parts i ∷ all-whole v l fds h lends all.1 parts i
