-- An endpoint opens at a free place, and closes.
use Rattle.std.proofs.Common.{◌≡◌, ℕ, ◌+◌, ◌<◌, subst, arith, Bool, true, false, not, ◌&&◌, Option, Some, None, refl, sym, ◌∙◌}
use Rattle.std.specs.Prelude.{is_some, nat_lt}
use Rattle.std.proofs.lemmas.Bool.Decides.{nat_tests}
use Rattle.std.proofs.lemmas.Bool.{eq-eqb}
use Rattle.std.proofs.lemmas.List.Quantifiers.{position-Some}
use Rattle.xti_model.specs.declared.profile.Providers.{Providers}
use Rattle.xti_model.specs.declared.entry.Outcome.TheVariants.{Done}
use Rattle.xti_model.specs.declared.entry.Reply.TheVariants.{Opened, Refused}
use Rattle.xti_model.specs.declared.entry.Outcome.{Outcome}
use Rattle.xti_base.specs.declared.kinds.Prov.{Prov}
use Rattle.xti_base.specs.declared.errno.Errno.TheVariants.{TSYSERR}
use Rattle.xti_model.specs.Provider.{is_provider}
use Rattle.xti_model.specs.Calls.Open as Open
use Rattle.xti_model.specs.Calls.Close as Close
use Rattle.xti_model.specs.Endpoint.{Endpoint}
use Rattle.xti_model.specs.Step.{Step, made, step_of, step_by}
use Rattle.xti_model.specs.Switch.{is_free, place_at, free_place, mark_closed, give_up_address}
use Rattle.xti_model.specs.World.{World, Switch, closed_place, last_generation, generation_of, place_of, endpoint, the_switch, open_cell, close_cell}
use Rattle.xti_registry.specs.Known.{Known}
use Rattle.xti_end.specs.Held.{Held, cell}
use Rattle.xti_lent.specs.Lending.{Lending, held_at, cells}
use Rattle.xti_lent.specs.Fit.{IsFit}
use Rattle.xti_lent.proofs.Open.{OpenAt, fd-open, fd-lent}
use Rattle.xti_lent.proofs.Agreeing.{AtPlace, at-place}

not-open : (b c : Bool) → (not b && c) ≡ true → b ≡ false
not-open true c e = cc
not-open false c e = refl

counted-too : (b c : Bool) → (not b && c) ≡ true → c ≡ true
counted-too true c e = cc
counted-too false c e = e

-- nothing is open at a free place, and it can be opened
pub free-closed : (p : Providers) (k : Known) (n : ℕ) (h : Held) → AtPlace k n h → is_free p (place_at k.switch n) ≡ true → is_some h.body ≡ false
free-closed p k n h a f = sym a.openness ∙ not-open (place_at k.switch n).is_open _ f

pub free-counted : (p : Providers) (k : Known) (n : ℕ) (h : Held) → AtPlace k n h → is_free p (place_at k.switch n) ≡ true → h.generation < last_generation p
free-counted p k n h a f =
    let t : nat_lt (place_at k.switch n).generation (last_generation p) ≡ true = counted-too (place_at k.switch n).is_open _ f in
    subst (λ g. g < last_generation p) a.generation (is-less (place_at k.switch n).generation (last_generation p) t)
  where
    is-less : (g m : ℕ) → nat_lt g m ≡ true → g < m
    is-less g m t = grind (arith, nat_tests)

pub opened-step : (p : Providers) (fd other : ℕ) (v w : World) (t : Option Step) → t ≡ Some (made p fd (Done (Opened (record { 0 = fd }))) v) → fd ≡ other → v ≡ w → t ≡ Some (made p other (Done (Opened (record { 0 = other }))) w)
opened-step p fd other v w t e q r = rw (← q, ← r) e

opened-by : (o : Option Endpoint) (h new : Held) (e : Endpoint) → h.body ≡ o → is_some o ≡ false → new ≡ record h { body = Some e } → cell new ≡ open_cell e (cell h)
opened-by None h new e b n q = rw (q, b) refl
opened-by (Some x) h new e b n q = cc

pub opened-cell : (h new : Held) (e : Endpoint) → is_some h.body ≡ false → new ≡ record h { body = Some e } → cell new ≡ open_cell e (cell h)
opened-cell h new e n q = opened-by h.body h new e refl n q

closed-by : (o : Option Endpoint) (g : ℕ) (h new : Held) → h.body ≡ o → is_some o ≡ true → h.generation ≡ g → new ≡ record h { generation = h.generation + 1; body = None } → cell new ≡ close_cell g (cell h)
closed-by None g h new b n e q = cc
closed-by (Some x) g h new b n e q = let t = eq-eqb h.generation g e in rw (q, b, t) refl

pub closed-cell : (l : Lending) (fd : ℕ) (h new : Held) → OpenAt l fd h → new ≡ record h { generation = h.generation + 1; body = None } → cell new ≡ close_cell (generation_of l.providers fd) (cell h)
closed-cell l fd h new o q = closed-by h.body (generation_of l.providers fd) h new refl o.is_there o.generation q

pub done-step : (p : Providers) (fd : ℕ) (o : Outcome) (v w : World) (t : Option Step) → t ≡ Some (made p fd o v) → v ≡ w → t ≡ Some (made p fd o w)
done-step p fd o v w t e q = rw (← q) e

-- the place of an open endpoint is open
open-by : (l : Lending) (fd n : ℕ) (k : Known) (o : Option Held) → held_at l n ≡ o → IsFit l → l.registry ≡ Some k → is_some (endpoint l.providers (cells l) fd) ≡ true → n ≡ place_of l.providers fd → (place_at k.switch n).is_open ≡ true
open-by l fd n k None eh fit ek o q = let s = fd-lent l fd n o q in let t = rw eh at s in cc
open-by l fd n k (Some h) eh fit ek o q = (at-place l n h k fit ek eh).openness ∙ (fd-open l fd n h fit.places o q eh).is_there

pub place-open : (l : Lending) (fd n : ℕ) (k : Known) → IsFit l → l.registry ≡ Some k → is_some (endpoint l.providers (cells l) fd) ≡ true → n ≡ place_of l.providers fd → (place_at k.switch n).is_open ≡ true
place-open l fd n k fit ek o q = open-by l fd n k (held_at l n) refl fit ek o q

pub forgotten : (p : Providers) (fd n : ℕ) (a b s : Switch) → b ≡ mark_closed n a → a ≡ give_up_address fd s → n ≡ place_of p fd → b ≡ Close.forget p fd s
forgotten p fd n a b s e f q = rw (e, f, q) refl

-- the place that opens
pub free-there : (p : Providers) (s : Switch) (n : ℕ) → Some n ≡ free_place p s → is_free p (place_at s n) ≡ true
free-there p s n e = (position-Some (is_free p) s.places n closed_place (sym e)).1

pub open-none : (p : Providers) (w : World) (prov : Prov) (nonblock : Bool) → is_provider prov ≡ true → free_place p (the_switch p w) ≡ None → step_of p w (Open.plan p w prov nonblock) ≡ Some (made p Open.no_fd (Done (Refused TSYSERR)) w)
open-none p w prov nonblock e n = rw (e, n, e, n) refl

pub open-free : (p : Providers) (w : World) (prov : Prov) (nonblock : Bool) (n : ℕ) → is_provider prov ≡ true → free_place p (the_switch p w) ≡ Some n → step_of p w (Open.plan p w prov nonblock) ≡ step_by p w (Open.plan_at p (the_switch p w) prov nonblock n) None
open-free p w prov nonblock n e f = rw (e, f, e, f) refl
