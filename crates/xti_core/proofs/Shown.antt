-- The first pending event, and what a look answers.
use Rattle.std.proofs.Common.{◌≡◌, Bool, true, false, cond, List, [], ◌∷◌, Option, Some, None, refl, ap, ◌∙◌}
use Rattle.std.specs.Prelude.{filter, find, slice_get}
use Rattle.xti_base.specs.declared.errno.Errno.TheVariants.{TBADF}
use Rattle.xti_base.specs.declared.kinds.Event.{Event}
use Rattle.xti_base.specs.declared.kinds.Fd.{Fd}
use Rattle.xti_end.specs.Taken.{taken}
use Rattle.xti_model.specs.declared.call.Call.TheVariants as call
use Rattle.xti_model.specs.declared.entry.Applied.{Applied}
use Rattle.xti_model.specs.declared.entry.Go.{Go}
use Rattle.xti_model.specs.declared.entry.Outcome.TheVariants.{Done}
use Rattle.xti_model.specs.declared.entry.Reply.TheVariants.{Seen, Refused}
use Rattle.xti_model.specs.declared.profile.Providers.{Providers}
use Rattle.xti_model.specs.Calls.Show as Show
use Rattle.xti_model.specs.Endpoint.{Endpoint}
use Rattle.xti_model.specs.Events.{around}
use Rattle.xti_model.specs.Step.{step, plan, made}
use Rattle.xti_model.specs.World.{World, endpoint, changed, at_endpoint}

-- the first that passes a test is the first of those that pass it
pub first_found : {A : Type 0} (test : A → Bool) (xs : List A) → find test xs ≡ slice_get (filter test xs) 0
first_found test [] = refl
first_found test (x ∷ xs) = go (test x) (first_found test xs)
  where
    go : (b : Bool) → find test xs ≡ slice_get (filter test xs) 0 → cond b (Some x) (find test xs) ≡ slice_get (cond b (x ∷ filter test xs) (filter test xs)) 0
    go true h = refl
    go false h = h

-- a look at an endpoint that is open, and at none
pub looked : (p : Providers) (w new : World) (fd : Fd) (event : Option Event) (e : Endpoint) (a : Applied) (g : Go) → endpoint p w fd.0 ≡ Some e → event ≡ Show.first_pending (around p w fd.0 e) e
    → new ≡ changed p w (at_endpoint fd.0 (Show.shown event) ∷ []) → taken a new ≡ Some (made p fd.0 (Done (Seen event)) new) → taken a new ≡ step p w (call.TLookAt fd) g
unfolding step plan
looked p w new fd event e a g o f c t = rw o (rw f at (t ∙ ap (λ (v : World). Some (made p fd.0 (Done (Seen event)) v)) c))

pub looked-gone : (p : Providers) (w : World) (fd : Fd) (a : Applied) (g : Go) → endpoint p w fd.0 ≡ None → taken a w ≡ Some (made p fd.0 (Done (Refused TBADF)) w) → taken a w ≡ step p w (call.TLookAt fd) g
unfolding step plan
looked-gone p w fd a g o t = rw o t
