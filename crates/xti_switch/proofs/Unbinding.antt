-- What an unbind answers, by its rows.
use Rattle.std.proofs.Common.{◌≡◌, ℕ, Bool, true, false, not, cond, [], ◌∷◌, Option, Some, None, sym, ap, ◌∙◌}
use Rattle.std.specs.Prelude.{is_some, unwrap_or}
use Rattle.xti_base.specs.declared.errno.Errno.TheVariants.{TOUTSTATE}
use Rattle.xti_base.specs.declared.kinds.Event.{Event}
use Rattle.xti_base.specs.declared.kinds.Event.TheVariants.{T_LISTEN}
use Rattle.xti_base.specs.declared.kinds.State.TheVariants.{T_IDLE}
use Rattle.xti_model.specs.declared.entry.Outcome.TheVariants.{Done}
use Rattle.xti_model.specs.declared.entry.Reply.TheVariants.{Look, Plain, Refused}
use Rattle.xti_model.specs.Endpoint.{Endpoint}
use Rattle.xti_model.specs.Events.{is_state, looked, looks_unbind}
use Rattle.xti_model.specs.Plan.{Plan, answers, first, looks, outside, plan_of}
use Rattle.xti_switch.specs.Taken.{unbinding}

-- the plan of the open endpoint
abbrev pub unbind_of : ℕ → Endpoint → Plan
unbind_of fd e = plan_of fd e (outside (T_IDLE ∷ []) e ∷ looks looks_unbind e ∷ []) (unbinding fd) (Done Plain)

-- it isn't idle
pub not-idle : (fd : ℕ) (e : Endpoint) → is_state (T_IDLE ∷ []) e ≡ false → Some (answers (Refused TOUTSTATE)) ≡ first (unbind_of fd e).rows
not-idle fd e q = sym (ap (λ (b : Bool). cond (not b) (Some (answers (Refused TOUTSTATE))) (first (looks looks_unbind e ∷ []))) q)

-- it is, and an event is told, or none
module _ (fd : ℕ) (e : Endpoint) (q : is_state (T_IDLE ∷ []) e ≡ true) where
  told : (o : Option Event) → o ≡ looked looks_unbind e → cond (is_some o) (Some (answers (Look (unwrap_or o T_LISTEN)))) None ≡ first (unbind_of fd e).rows
  told o h =
      sym (ap (λ (b : Bool). cond (not b) (Some (answers (Refused TOUTSTATE))) (first (looks looks_unbind e ∷ []))) q
      ∙ ap (λ (x : Option Event). cond (is_some x) (Some (answers (Look (unwrap_or x T_LISTEN)))) None) (sym h))

  pub event-told : (event : Event) → Some event ≡ looked looks_unbind e → Some (answers (Look event)) ≡ first (unbind_of fd e).rows
  event-told event h = told (Some event) h

  pub none-told : None ≡ looked looks_unbind e → None ≡ first (unbind_of fd e).rows
  none-told h = told None h
