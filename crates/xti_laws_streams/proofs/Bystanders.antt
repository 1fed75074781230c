-- An end of a connection stays as it is under the calls of endpoints that it is not linked with.
use Rattle.std.proofs.Common.{ℕ, Bool, true, false, List, [], ◌∷◌, ◌≡◌, sym, ap, ◌∙◌, subst, cond, eqb, Option, Some, None}
use Rattle.std.proofs.lemmas.Bool.{false≢true}
use Rattle.xti_model.specs.declared.profile.Providers.{Providers}
use Rattle.xti_model.specs.Endpoint.{Endpoint}
use Rattle.xti_model.specs.World.{World, Change, endpoint}
use Rattle.xti_model.specs.Links.{names}
use Rattle.xti_model.specs.Plan.{Plan}
use Rattle.xti_model.specs.Step.{Step, step_of}
use Rattle.xti_model.specs.History.{left_by}
use Rattle.xti_laws.proofs.Effects.{step-any}
use Rattle.xti_laws_streams.proofs.Invariant.{View, view, HasView, NotNamedBy}
use Rattle.xti_laws.proofs.KeptEndpoints.{Keep, AllKeep, PlanKeeps, keeps}
use Rattle.xti_laws_streams.proofs.NonLinking.{NonLinking, AllNonLinking, PlanNonLinking, keeps_view, clears_target, of_own, of_peer, of_switch, opens_place_with, closes_own}
use Rattle.xti_laws.proofs.StepWays.{not-both}

-- the endpoint z with view v is not the call's, has no target, and is not linked with the call's, whose peer is `to`
pub record Bystander (fd : ℕ) (to : Option ℕ) (z : ℕ) (v : View) : Type 0 where
  pub other : eqb z fd ≡ false
  pub without_target : v.target ≡ None
  pub unlinked : (peer : ℕ) → to ≡ Some peer → eqb z peer ≡ true → names fd v.peer ≡ false

pub non_linking-view : (fd : ℕ) (to : Option ℕ) (z : ℕ) (v : View) → Bystander fd to z v → (c : Change) → NonLinking fd to c → Keep (HasView v) z c
non_linking-view fd to z v b c (keeps_view y f k) = λ i e q. k e ∙ q
non_linking-view fd to z v b c (clears_target y f k n) = λ i e q. k e (ap (λ u. u.target) q ∙ b.without_target) ∙ q
non_linking-view fd to z v b c (of_own f n) = λ i e q. absurd (not-both (eqb z fd) b.other i)
non_linking-view fd to z v b c (of_peer peer f t n) = λ i e q. go (names fd e.peer) f e q (ap (λ u. names fd u.peer) q ∙ b.unlinked peer t i)
  where
    go : (d : Bool) (f : Endpoint → Endpoint) (e : Endpoint) → view e ≡ v → d ≡ false → view (cond d (f e) e) ≡ v
    go true f e q h = absurd (false≢true (sym h))
    go false f e q h = q
non_linking-view fd to z v b c (of_switch f) = tt
non_linking-view fd to z v b c (opens_place_with place e h) = λ q. absurd q
non_linking-view fd to z v b c closes_own = λ i. absurd (not-both (eqb z fd) b.other i)

pub all-view : (fd : ℕ) (to : Option ℕ) (z : ℕ) (v : View) → Bystander fd to z v → (cs : List Change) → AllNonLinking fd to cs → AllKeep (HasView v) z cs
all-view fd to z v b [] m = tt
all-view fd to z v b (c ∷ cs) m = (non_linking-view fd to z v b c m.0, all-view fd to z v b cs m.1)

pub plan-view : (fd : ℕ) (to : Option ℕ) (z : ℕ) (v : View) → Bystander fd to z v → (x : Plan) → PlanNonLinking fd to x → PlanKeeps (HasView v) z x
plan-view fd to z v b x m = (all-view fd to z v b x.changes m.0, all-view fd to z v b x.marks m.1, all-view fd to z v b x.lost m.2)

named-choice : (b : Bool) (x : ℕ) (y z : Endpoint) → names x y.peer ≡ false → names x z.peer ≡ false → names x (cond b y z).peer ≡ false
named-choice true x y z h k = h
named-choice false x y z h k = k

-- no such change makes an endpoint name another as its peer
pub non_linking-not_named : (x fd : ℕ) (to : Option ℕ) (z : ℕ) (c : Change) → NonLinking fd to c → Keep (NotNamedBy x) z c
non_linking-not_named x fd to z c (keeps_view y f k) = λ i e q. ap (λ u. names x u.peer) (k e) ∙ q
non_linking-not_named x fd to z c (clears_target y f k n) = λ i e q. n x e q
non_linking-not_named x fd to z c (of_own f n) = λ i e q. n x e q
non_linking-not_named x fd to z c (of_peer peer f t n) = λ i e q. named-choice (names fd e.peer) x (f e) e (n x e q) q
non_linking-not_named x fd to z c (of_switch f) = tt
non_linking-not_named x fd to z c (opens_place_with place e h) = λ q. ap (names x) h
non_linking-not_named x fd to z c closes_own = λ i. tt

pub all-not_named : (x fd : ℕ) (to : Option ℕ) (z : ℕ) (cs : List Change) → AllNonLinking fd to cs → AllKeep (NotNamedBy x) z cs
all-not_named x fd to z [] m = tt
all-not_named x fd to z (c ∷ cs) m = (non_linking-not_named x fd to z c m.0, all-not_named x fd to z cs m.1)

pub plan-not_named : (x fd : ℕ) (to : Option ℕ) (z : ℕ) (y : Plan) → PlanNonLinking fd to y → PlanKeeps (NotNamedBy x) z y
plan-not_named x fd to z y m = (all-not_named x fd to z y.changes m.0, all-not_named x fd to z y.marks m.1, all-not_named x fd to z y.lost m.2)

-- what all lists of changes of a plan keep holds after its step
pub step-keeps : (p : Providers) (w : World) (x : Plan) (Q : Option Endpoint → Type 0) (z : ℕ) → PlanKeeps Q z x → Q (endpoint p w z) → (s : Step) → step_of p w x ≡ Some s → Q (endpoint p s.world z)
step-keeps p w x Q z k q s h = subst (λ o. Q (endpoint p (left_by w o) z)) h
    (step-any (λ u. Q (endpoint p u z)) p w x q (keeps p Q z x.changes k.0 w q) (keeps p Q z x.marks k.1 w q) (keeps p Q z x.lost k.2 w q))
