-- The providers of open endpoints are those that opens named.
use Rattle.std.proofs.Common.{ℕ, Bool, true, false, List, [], ◌∷◌, ◌++◌, ◌≡◌, refl, sym, ap, ◌∙◌, subst, cond, Option, Some, None}
use Rattle.xti_base.specs.declared.kinds.Prov.{Prov}
use Rattle.xti_base.specs.declared.kinds.State.TheVariants.{T_UNBND}
use Rattle.xti_model.specs.declared.call.Call.{Call}
use Rattle.xti_model.specs.declared.call.Call.TheVariants as call
use Rattle.xti_model.specs.declared.entry.Go.{Go}
use Rattle.xti_model.specs.declared.profile.Providers.{Providers}
use Rattle.xti_model.specs.Provider.{profile, is_provider}
use Rattle.xti_model.specs.Endpoint.{Endpoint, Indication, find_number, address_of, opened}
use Rattle.xti_model.specs.World.{World, Change, at_endpoint, at_switch, opens_place, changed, endpoint, the_switch, opening}
use Rattle.xti_model.specs.Switch.{give_address, free_place, if_provider, mark_open}
use Rattle.xti_model.specs.Events.{is_state}
use Rattle.xti_model.specs.Step.{Step, step, step_of}
use Rattle.xti_model.specs.History.{Going, doing, step_going, step_at, left_by, after_from, after}
use Rattle.xti_model.specs.declared.entry.Entry.{Entry}
use Rattle.std.specs.Prelude.{option_and_then}
use Rattle.xti_model.specs.Calls.Open as Open
use Rattle.xti_model.specs.Calls.Listen as Listen
use Rattle.xti_laws.proofs.KeptEndpoints.{Keep, AllKeep, append-keep, keeps}
use Rattle.xti_laws.proofs.RequestHistories.{opening-none}
use Rattle.xti_laws.proofs.StepWays.{none-is}
use Rattle.xti_laws.specs.SoundLaws.{OpenProvidersPass, OpensPassing}
use Rattle.xti_laws.proofs.PassedRows.{Keeps, call-keeps, step-keeps}
use Rattle.xti_laws.proofs.AcrossCalls.{choice}
use Rattle.xti_laws.proofs.PairedAfterCalls.{TameChange, tame_at, tame_switch, tame_closes, AllTame, next-by}

abbrev Passes : (Prov → Bool) → Option Endpoint → Type 0
Passes test None = Unit {0}
Passes test (Some e) = test e.prov ≡ true

abbrev AllPass : (Prov → Bool) → Providers → World → Type 0
AllPass test p w = (x : ℕ) → Passes test (endpoint p w x)

one-keep : (test : Prov → Bool) (x : ℕ) (c : Change) → TameChange c → Keep (Passes test) x c
one-keep test x c (tame_at z f t) = λ j e q. (ap test (t e).0 ∙ q)
one-keep test x c (tame_switch f) = tt
one-keep test x c (tame_closes fd) = λ j. tt

all-keep : (test : Prov → Bool) (x : ℕ) (cs : List Change) → AllTame cs → AllKeep (Passes test) x cs
all-keep test x [] t = tt
all-keep test x (c ∷ cs) t = (one-keep test x c t.0, all-keep test x cs t.1)

module _ (test : Prov → Bool) (p : Providers) (w : World) (h : AllPass test p w) where
  accept-passes : (fd resfd number : ℕ) (options udata : List ℕ) → AllPass test p (left_by w (step_of p w (Listen.accept_plan p w fd resfd number options udata)))
  accept-passes fd resfd number options udata = call-keeps (AllPass test p) p w fd (λ e. Listen.accept_with p fd resfd number options udata e (endpoint p w resfd)) h (λ e a. at_resfd e (endpoint p w resfd))
    where
      found : (e r : Endpoint) (o : Option Indication) → AllPass test p (changed p w (Listen.accept_found fd resfd o options udata e r))
      found e r None = h
      found e r (Some i) = λ x. keeps p (Passes test) x (Listen.accept_changes fd resfd i options udata e r) ((λ j y q. q), append-keep (Passes test) x (Listen.bind_like e resfd r) (Listen.linking resfd i (address_of (Listen.bound_like e r)) options udata) (by x (is_state (T_UNBND ∷ []) r)) ((λ j y q. q), ((λ j y q. q), tt))) w (h x)
        where
          by : (x : ℕ) (d : Bool) → AllKeep (Passes test) x (cond d (at_endpoint resfd (Listen.bound_like e) ∷ at_switch (give_address r.prov (address_of e) resfd false) ∷ []) [])
          by x true = ((λ j y q. choice (Passes test) (is_state (T_UNBND ∷ []) y) (record y { address = Some (address_of e); qlen = 0 }) y q q), (tt, tt))
          by x false = tt

      at_resfd : (e : Endpoint) (o : Option Endpoint) → Keeps (AllPass test p) p w (Listen.accept_with p fd resfd number options udata e o)
      at_resfd e None = record { changes = λ g. h; lost = λ g. h; marks = λ g. h }
      at_resfd e (Some r) = record { changes = λ g. found e r (find_number number e.outstanding); lost = λ g. found e r (find_number number e.outstanding); marks = λ g. h }

  open-passes : (prov : Prov) (nonblock : Bool) → (is_provider prov ≡ true → test prov ≡ true) → AllPass test p (left_by w (step_of p w (Open.plan p w prov nonblock)))
  open-passes prov nonblock t = go (is_provider prov) refl (free_place p (the_switch p w))
    where
      go : (b : Bool) → is_provider prov ≡ b → (o : Option ℕ) → AllPass test p (left_by w (step_of p w (Open.plan_where p (the_switch p w) prov nonblock (if_provider b o))))
      go false i o = step-keeps (AllPass test p) p w (Open.plan_where p (the_switch p w) prov nonblock None) h (record { changes = λ g. h; lost = λ g. h; marks = λ g. h })
      go true i None = step-keeps (AllPass test p) p w (Open.plan_where p (the_switch p w) prov nonblock None) h (record { changes = λ g. h; lost = λ g. h; marks = λ g. h })
      go true i (Some n) = step-keeps (AllPass test p) p w (Open.plan_where p (the_switch p w) prov nonblock (Some n)) h (record {
        changes = λ g x. keeps p (Passes test) x (opens_place n (opened (profile p prov) prov nonblock) ∷ at_switch (mark_open n) ∷ []) ((λ q. t i), (tt, tt)) w (h x);
        lost = λ g. h;
        marks = λ g. h;
      })

next-passes : (test : Prov → Bool) (p : Providers) (w : World) (c : Call) (g : Go) → OpensPassing test c → AllPass test p w → AllPass test p (left_by w (step p w c g))
next-passes test p w c g t h = next-by p w (AllPass test p) h (λ cs k x. keeps p (Passes test) x cs (all-keep test x cs k) w (h x)) c g (accept-passes test p w h) (λ prov nonblock i. open-passes test p w h prov nonblock (subst (OpensPassing test) i t))

all-pass : (test : Prov → Bool) (p : Providers) (w : World) → OpenProvidersPass test p w → AllPass test p w
all-pass test p w h x = go (endpoint p w x) refl
  where
    go : (o : Option Endpoint) → endpoint p w x ≡ o → Passes test o
    go None i = tt
    go (Some e) i = h x e i

pub step-providers : (test : Prov → Bool) (p : Providers) (w : World) (c : Call) (g : Go) (s : Step) → OpensPassing test c → OpenProvidersPass test p w → step p w c g ≡ Some s → OpenProvidersPass test p s.world
step-providers test p w c g s t h i x e o = subst (Passes test) o (subst (λ z. AllPass test p (left_by w z)) i (next-passes test p w c g t (all-pass test p w h)) x)

pub opening-providers : (test : Prov → Bool) (p : Providers) → OpenProvidersPass test p (opening p)
opening-providers test p fd e o = absurd (none-is e (sym (opening-none p fd) ∙ o))

-- No other name than a provider's opens.
names-one : (c : Call) → OpensPassing is_provider c
names-one (call.TOpen prov nonblock) = λ h. h
names-one (call.TClose fd) = tt
names-one (call.TBind fd addr qlen amax) = tt
names-one (call.TUnbind fd) = tt
names-one (call.TConnect fd addr opt udata amax omax umax) = tt
names-one (call.TRcvConnect fd amax omax umax) = tt
names-one (call.TListen fd amax omax umax) = tt
names-one (call.TAccept fd resfd seq opt udata) = tt
names-one (call.TSnd fd bytes flags) = tt
names-one (call.TSndV fd parts flags) = tt
names-one (call.TRcv fd max) = tt
names-one (call.TRcvV fd sizes) = tt
names-one (call.TSndDis fd seq udata) = tt
names-one (call.TRcvDis fd umax) = tt
names-one (call.TSndRel fd) = tt
names-one (call.TRcvRel fd) = tt
names-one (call.TSndRelData fd udata) = tt
names-one (call.TRcvRelData fd umax) = tt
names-one (call.TSndUData fd addr opt bytes) = tt
names-one (call.TSndVUData fd addr opt parts) = tt
names-one (call.TRcvUData fd max amax omax) = tt
names-one (call.TRcvVUData fd sizes amax omax) = tt
names-one (call.TRcvUDErr fd amax omax) = tt
names-one (call.TLookAt fd) = tt
names-one (call.TGetState fd) = tt
names-one (call.TSync fd) = tt
names-one (call.TGetInfo fd) = tt
names-one (call.TGetProtAddr fd amax pmax) = tt
names-one (call.TOptMgmt fd action opt omax) = tt
names-one (call.SetMode fd nonblock) = tt

going-known : (p : Providers) (w : World) (o : Option Going) → OpenProvidersPass is_provider p w → OpenProvidersPass is_provider p (left_by w (option_and_then (step_going p w) o))
going-known p w None h = h
going-known p w (Some g) h = go (step p w g.call g.so_far) refl
  where
    go : (o : Option Step) → step p w g.call g.so_far ≡ o → OpenProvidersPass is_provider p (left_by w o)
    go None i = h
    go (Some s) i = step-providers is_provider p w g.call g.so_far s (names-one g.call) h i

after_from-known : (p : Providers) (w : World) (past es : List Entry) → OpenProvidersPass is_provider p w → OpenProvidersPass is_provider p (after_from p w past es)
after_from-known p w past [] h = h
after_from-known p w past (e ∷ es) h = after_from-known p (left_by w (step_at p w past e)) (past ++ e ∷ []) es (going-known p w (doing past e) h)

pub after-known : (p : Providers) (es : List Entry) → OpenProvidersPass is_provider p (after p es)
after-known p es = after_from-known p (opening p) [] es (opening-providers is_provider p)
