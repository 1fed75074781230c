-- What a plan answers, by its rows.
use Rattle.std.proofs.Common.{◌≡◌, ◌≤◌, ◌<◌, ℕ, Bool, true, false, ◌||◌, cond, ltb, List, [], ◌∷◌, Option, Some, None, refl, sym, ap, ◌∙◌, arith}
use Rattle.std.specs.List.{AllByRecursion}
use Rattle.std.proofs.lemmas.Bool.Decides.{nat_tests}
use Rattle.xti_base.specs.declared.errno.Errno.TheVariants.{TBADF}
use Rattle.xti_base.specs.declared.kinds.State.{State}
use Rattle.xti_base.specs.Kinds.{same_state}
use Rattle.xti_model.specs.declared.entry.Applied.{Applied}
use Rattle.xti_model.specs.declared.entry.Outcome.TheVariants.{Done}
use Rattle.xti_model.specs.declared.entry.Reply.{Reply}
use Rattle.xti_model.specs.declared.entry.Reply.TheVariants.{Refused}
use Rattle.xti_model.specs.declared.profile.Providers.{Providers}
use Rattle.xti_model.specs.Endpoint.{Endpoint}
use Rattle.xti_model.specs.Events.{is_state}
use Rattle.xti_model.specs.Plan.{Plan, Refusal, Row, answers, first, has_effect, if_open, on_open}
use Rattle.xti_model.specs.Step.{made, step_by, step_of}
use Rattle.xti_model.specs.World.{Change, World, changed, endpoint}
use Rattle.xti_end.specs.Taken.{taken}
use Rattle.xti_lent.specs.Answers.{Changed, IsDone}
use Rattle.xti_lent.specs.Fit.{SameCells}
use Rattle.xti_lent.specs.Lending.{Lending, cells}

-- where no row refuses, none holds
none-step : (b : Bool) (x : Refusal) (o : Option Refusal) → None ≡ cond b (Some x) o → (b ≡ false) × (None ≡ o)
none-step true x o e = cc
none-step false x o e = (refl, e)

abbrev pub Passes : Row → Type 0
Passes r = r.holds ≡ false

pub none-holds : (rows : List Row) → None ≡ first rows → AllByRecursion Passes rows
none-holds [] e = tt
none-holds (x ∷ xs) e = let s = none-step x.holds x.refusal (first xs) e in (s.0, none-holds xs s.1)

-- numbers under a limit, and over it
pub within : (n limit : ℕ) → ltb limit n ≡ false → n ≤ limit
within n limit t = grind (arith, nat_tests)

pub not-over : (n limit : ℕ) → n ≤ limit → ltb limit n ≡ false
not-over n limit t = grind (arith, nat_tests)

pub over : (n limit : ℕ) → limit < n → ltb limit n ≡ true
over n limit t = grind (arith, nat_tests)

or-nothing : (b : Bool) → (b || false) ≡ b
or-nothing true = refl
or-nothing false = refl

pub neither-left : (a b : Bool) → (a || b) ≡ false → a ≡ false
neither-left true b e = e
neither-left false b e = refl

-- the endpoint is in a state, or not
pub in-state : (e : Endpoint) (s t : State) (r b : Bool) → s ≡ e.state → r ≡ same_state s t → r ≡ b → is_state (t ∷ []) e ≡ b
in-state e s t r b i h k = or-nothing (same_state e.state t) ∙ (ap (λ (x : State). same_state x t) (sym i) ∙ (sym h ∙ k))

module _ (p : Providers) (w : World) (fd : ℕ) (plan : Endpoint → Plan) where
  -- the endpoint isn't open
  pub refused-shut : endpoint p w fd ≡ None → Some (made p fd (Done (Refused TBADF)) w) ≡ step_of p w (on_open p w fd plan)
  refused-shut o = sym (ap (λ (x : Option Endpoint). step_of p w (if_open fd x plan)) o)

  -- it is
  module _ (e : Endpoint) (o : endpoint p w fd ≡ Some e) where
    pub rows-decide : (r : Option Refusal) → r ≡ first (plan e).rows → step_of p w (on_open p w fd plan) ≡ step_by p w (plan e) r
    rows-decide r h = ap (λ (x : Option Endpoint). step_of p w (if_open fd x plan)) o ∙ ap (step_by p w (plan e)) (sym h)

    pub refused-open : (reply : Reply) → Some (answers reply) ≡ first (plan e).rows → Some (made p (plan e).fd (Done reply) w) ≡ step_of p w (on_open p w fd plan)
    refused-open reply r = sym (rows-decide (Some (answers reply)) r)

    pub made-open : None ≡ first (plan e).rows → step_of p w (on_open p w fd plan) ≡ Some (made p (plan e).fd (plan e).outcome (changed p w (plan e).changes))
    made-open r = rows-decide None r

    pub effect-open : None ≡ first (plan e).rows → has_effect (first (on_open p w fd plan).rows) ≡ true
    effect-open r = ap (λ (x : Option Endpoint). has_effect (first (if_open fd x plan).rows)) o ∙ ap has_effect (sym r)

-- the call is done, after changes
pub done-after : (l k : Lending) (fd : ℕ) (cs : List Change) (reply : Reply) (a : Applied) → SameCells l k → Changed cs l k → IsDone k fd reply a
    → taken a (cells k) ≡ Some (made l.providers fd (Done reply) (changed l.providers (cells l) cs))
done-after l k fd cs reply a s c m =
    m ∙ ap (λ (p : Providers). Some (made p fd (Done reply) (cells k))) s.providers ∙ ap (λ (w : World). Some (made l.providers fd (Done reply) w)) c
