-- A receive from a stream answers bytes.
use Rattle.std.proofs.Common.{ℕ, zero, suc, Bool, true, false, not, List, [], ◌∷◌, Option, Some, None, ◌≡◌, ◌∙◌, ◌≤◌, ◌+◌, ◌||◌, ◌&&◌, refl, sym, ap, subst, cond, take, arith}
use Rattle.std.proofs.lemmas.Bool.{false≢true}
use Rattle.std.specs.Prelude.{if◌then◌else◌, is_some, unwrap_or}
use Rattle.std.specs.List.{prefix_len}
use Rattle.xti_base.specs.declared.errno.Errno.TheVariants.{TNOTSUPPORT, TOUTSTATE, TBADDATA, TNODATA}
use Rattle.xti_base.specs.declared.kinds.Event.{Event}
use Rattle.xti_base.specs.declared.kinds.Event.TheVariants.{T_LISTEN}
use Rattle.xti_base.specs.declared.kinds.Fd.{Fd}
use Rattle.xti_model.specs.declared.call.Call.TheVariants.{TRcv}
use Rattle.xti_model.specs.declared.entry.Go.TheVariants as go
use Rattle.xti_model.specs.declared.entry.Outcome.TheVariants.{Done}
use Rattle.xti_model.specs.declared.entry.Reply.TheVariants.{Got, Look, Refused}
use Rattle.xti_model.specs.declared.profile.Providers.{Providers}
use Rattle.xti_model.specs.Arguments.{is_expedited}
use Rattle.xti_model.specs.Endpoint.{Endpoint}
use Rattle.xti_model.specs.Events.{some_wait, looked, looks_data, is_state, receiving}
use Rattle.xti_model.specs.Plan.{Plan, answers, bad_fd, first, if_open, not_ready, plan_of, refuses}
use Rattle.xti_model.specs.Provider.{has_connections}
use Rattle.xti_model.specs.Step.{Step, step, plan, step_of, step_by, made as step_made}
use Rattle.xti_model.specs.Symbols.{ends_waiting, front, is_byte, is_end}
use Rattle.xti_model.specs.World.{World, at_endpoint, changed, endpoint}
use Rattle.xti_model.specs.Calls.Receive as Receive
use Rattle.xti_laws.proofs.ShortLists.{counted-append}

-- where a byte waits first, some are taken
front-some : (max : ℕ) (symbols : List ℕ) → 1 ≤ max → some_wait symbols ≡ true → ends_waiting symbols ≡ 0 → front max symbols ≡ [] → ⊥
front-some zero symbols m s e h = absurd (omega (arith, m))
front-some (suc n) [] m s e h = absurd (false≢true s)
front-some (suc n) (y ∷ ys) m s e h = by (is_end y) refl (sym (counted-append is_end (y ∷ []) ys) ∙ e) h
  where
    by : (b : Bool) → is_end y ≡ b → (0 + cond b 1 0 + ends_waiting ys) ≡ 0 → take (cond (not b) (1 + prefix_len is_byte (take n ys)) 0) (y ∷ take n ys) ≡ [] → ⊥
    by true i j k = absurd (omega (arith, j))
    by false i j k =
        let z : 1 + prefix_len is_byte (take n ys) ≡ suc (prefix_len is_byte (take n ys)) = omega arith in
        absurd (cc (subst (λ (l : ℕ). take l (y ∷ take n ys) ≡ []) z k))

-- the flags of expedited bytes say so
expedited-flags : (more : Bool) → is_expedited (Receive.flags true more) ≡ true
expedited-flags true = refl
expedited-flags false = refl

-- no endpoint is open
closed : (p : Providers) (w : World) (fd : ℕ) (s : Step) (flags : ℕ) → step_of p w (bad_fd fd) ≡ Some s → s.outcome ≡ Done (Got [] flags) → ⊥
closed p w fd s flags i k = absurd (cc (i, k))

module _ (p : Providers) (w : World) (fd : Fd) (max : ℕ) (s : Step) (flags : ℕ) (m : 1 ≤ max) (plain : is_expedited flags ≡ false) where
  -- no row refuses
  passed : (a b c d h : Bool) (ev : Event) (x : Plan)
      → step_by p w x (first (refuses a TNOTSUPPORT ∷ refuses b TOUTSTATE ∷ refuses c TBADDATA ∷ record { holds = d; refusal = answers (Look ev) } ∷ not_ready h TNODATA ∷ [])) ≡ Some s
      → s.outcome ≡ Done (Got [] flags) → (h ≡ false) × (x.outcome ≡ Done (Got [] flags))
  passed true b c d h ev x i k = absurd (cc (i, k))
  passed false true c d h ev x i k = absurd (cc (i, k))
  passed false false true d h ev x i k = absurd (cc (i, k))
  passed false false false true h ev x i k = absurd (cc (i, k))
  passed false false false false true ev x i k = by x.nonblock i
    where
      by : (b : Bool) → cond b (Some (step_made p x.fd (Done (Refused TNODATA)) (changed p w x.marks))) None ≡ Some s → (true ≡ false) × (x.outcome ≡ Done (Got [] flags))
      by true j = absurd (cc (j, k))
      by false j = absurd (cc j)
  passed false false false false false ev x i k = (refl, cc (i, k))

  -- what waits, and what is then taken
  taken : (expedited normal : List ℕ) (mid more : Bool) → ends_waiting normal ≡ 0
      → (not (some_wait expedited) && (mid || not (some_wait normal))) ≡ false
      → Got (front max (if some_wait expedited then expedited else normal)) (Receive.flags (some_wait expedited) more) ≡ Got [] flags → ⊥
  taken (y ∷ ys) normal mid more e h g =
      let f : Receive.flags true more ≡ flags = cc g in
      absurd (false≢true (sym plain ∙ (ap is_expedited (sym f) ∙ expedited-flags more)))
  taken [] normal mid more e h g = front-some max normal m (waits mid (some_wait normal) h) e (cc g)
    where
      waits : (b d : Bool) → (b || not d) ≡ false → d ≡ true
      waits true d i = absurd (cc i)
      waits false true i = refl
      waits false false i = absurd (cc i)

  pub got-some : ((e : Endpoint) → endpoint p w fd.0 ≡ Some e → ends_waiting e.normal ≡ 0) → step p w (TRcv fd max) go.Begin ≡ Some s → s.outcome ≡ Done (Got [] flags) → ⊥
  unfolding step plan
  got-some stream i k = by (endpoint p w fd.0) refl i
    where
      by : (o : Option Endpoint) → endpoint p w fd.0 ≡ o
          → step_of p w (if_open fd.0 o (λ e. plan_of fd.0 e (Receive.rows 1 e) (at_endpoint fd.0 (Receive.received p max) ∷ []) (Done (Receive.got p (some_wait e.expedited) max e)))) ≡ Some s → ⊥
      by None j x = closed p w fd.0 s flags x k
      by (Some e) j x =
          let r = passed (not (has_connections e.prov)) (not (is_state receiving e)) false (is_some (looked looks_data e)) (Receive.has_nothing e) (unwrap_or (looked looks_data e) T_LISTEN) (plan_of fd.0 e (Receive.rows 1 e) (at_endpoint fd.0 (Receive.received p max) ∷ []) (Done (Receive.got p (some_wait e.expedited) max e))) x k in
          taken e.expedited e.normal e.mid_expedited (Receive.goes_on p (some_wait e.expedited) max e) (stream e j) r.0 (cc r.1)
