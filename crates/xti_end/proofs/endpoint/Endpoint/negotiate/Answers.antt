use Rattle.std.proofs.Common.{◌≡◌, ℕ, ◌≤◌, Bool, true, false, List, [], ◌++◌, Some, sym, ap, refl, ◌∙◌, arith}
use Rattle.xti_base.specs.Negotiation.{Negotiated, Settings}
use Rattle.xti_base.specs.Options.{options_bytes}
use Rattle.xti_opt.specs.Requests.{answered_bytes, asked_overall, asked_settings, negotiated_request}
use Rattle.xti_model.specs.declared.entry.Applied.{Applied}
use Rattle.xti_model.specs.declared.entry.Outcome.TheVariants.{Done}
use Rattle.xti_model.specs.declared.entry.Reply.{Reply}
use Rattle.xti_model.specs.declared.entry.Reply.TheVariants.{Options, Overflow}
use Rattle.xti_model.specs.declared.profile.Providers.{Providers}
use Rattle.xti_model.specs.Calls.Show as Show
use Rattle.xti_model.specs.Plan.{field, is_too_long, trimmed}
use Rattle.xti_model.specs.Provider.{profile}
use Rattle.xti_model.specs.Step.{made}
use Rattle.xti_end.specs.Held.{Held, alone, is_open_as, parts, with_parts}
use Rattle.xti_end.specs.Negotiating.{option_step}
use Rattle.xti_end.specs.Taken.{taken}
use Rattle.xti_end.proofs.Rooms.{after_change, stays_at}
use Rattle.xti_end.proofs.Rows.{alone-changed, open-is}
use Rattle.xti_end.proofs.endpoint.Endpoint.negotiate.Goals as goal

fits : (room size : ℕ) → room ≡ size → size ≤ room
fits room size e = omega (arith, e)

-- the answer is lost, or told
answer-lost : (p : Providers) (h : Held) (fd action : ℕ) (options : List ℕ) (omax : ℕ) (n : Negotiated) → is_open_as p fd h ≡ true → is_too_long (field (options_bytes n.options) omax) ≡ true
    → Some (made p fd (Done (Overflow (record { 0 = 0 }))) (alone (with_parts (Show.with_settings n.settings) h))) ≡ option_step p (alone h) fd n action options omax (parts h)
answer-lost p h fd action options omax n o t =
    ap (λ w. Some (made p fd (Done (Overflow (record { 0 = 0 }))) w)) (sym (alone-changed p fd h (Show.with_settings n.settings) o)) ∙ rw t refl

answer-kept : (p : Providers) (h : Held) (fd action : ℕ) (options : List ℕ) (omax : ℕ) (n : Negotiated) → is_open_as p fd h ≡ true → is_too_long (field (options_bytes n.options) omax) ≡ false
    → Some (made p fd (Done (Options n.result (trimmed (options_bytes n.options) omax))) (alone (with_parts (Show.with_settings n.settings) h))) ≡ option_step p (alone h) fd n action options omax (parts h)
answer-kept p h fd action options omax n o t =
    ap (λ w. Some (made p fd (Done (Options n.result (trimmed (options_bytes n.options) omax))) w)) (sym (alone-changed p fd h (Show.with_settings n.settings) o)) ∙ rw t refl

module _ (p : Providers) (h new : Held) (fd action : ℕ) (options : List ℕ) (omax : ℕ) (s after : Settings) (room bytes answer : List ℕ) (long : Bool) (a : Applied)
    (opened : is_open_as p fd h ≡ true) (settings : s ≡ Show.settings (profile p (parts h).prov) (parts h)) (set : after ≡ asked_settings s action options)
    (changed : new ≡ with_parts (Show.with_settings after) h) (empty : room ≡ []) (written : bytes ≡ room ++ answered_bytes s action options) (whole : answer ≡ bytes)
    (told : long ≡ is_too_long (field answer omax)) where
  answer-is : answer ≡ answered_bytes s action options
  answer-is = whole ∙ (written ∙ ap (λ (xs : List ℕ). xs ++ answered_bytes s action options) empty)

  is-long : is_too_long (field (answered_bytes s action options) omax) ≡ long
  is-long = ap (λ (xs : List ℕ). is_too_long (field xs omax)) (sym answer-is) ∙ sym told

  new-is : new ≡ with_parts (Show.with_settings (asked_settings s action options)) h
  new-is = changed ∙ ap (λ (x : Settings). with_parts (Show.with_settings x) h) set

  by-settings : option_step p (alone h) fd (negotiated_request s action options) action options omax (parts h) ≡ option_step p (alone h) fd (Show.negotiated p action options (parts h)) action options omax (parts h)
  by-settings = ap (λ (x : Settings). option_step p (alone h) fd (negotiated_request x action options) action options omax (parts h)) settings

  lost : long ≡ true → taken a (alone new) ≡ Some (made p fd (Done (Overflow (record { 0 = 0 }))) (alone new))
      → taken a (alone new) ≡ option_step p (alone h) fd (Show.negotiated p action options (parts h)) action options omax (parts h)
  unfolding answer-is is-long new-is by-settings
  lost t d =
      d ∙ (ap (λ (x : Held). Some (made p fd (Done (Overflow (record { 0 = 0 }))) (alone x))) new-is
      ∙ (answer-lost p h fd action options omax (negotiated_request s action options) opened (is-long ∙ t) ∙ by-settings))

  kept : (result : ℕ) (opt : List ℕ) → long ≡ false → result ≡ asked_overall s action options → opt ≡ trimmed answer omax → taken a (alone new) ≡ Some (made p fd (Done (Options result opt)) (alone new))
      → taken a (alone new) ≡ option_step p (alone h) fd (Show.negotiated p action options (parts h)) action options omax (parts h)
  unfolding answer-is is-long new-is by-settings
  kept result opt t overall cut d =
      let reply : Options result opt ≡ Options (asked_overall s action options) (trimmed (answered_bytes s action options) omax) =
      ap (λ (n : ℕ). Options n opt) overall ∙ ap (λ (xs : List ℕ). Options (asked_overall s action options) xs) (cut ∙ ap (λ (xs : List ℕ). trimmed xs omax) answer-is) in
      d ∙ (ap (λ (r : Reply). Some (made p fd (Done r) (alone new))) reply
      ∙ (ap (λ (x : Held). Some (made p fd (Done (Options (asked_overall s action options) (trimmed (answered_bytes s action options) omax))) (alone x))) new-is
      ∙ (answer-kept p h fd action options omax (negotiated_request s action options) opened (is-long ∙ t) ∙ by-settings)))

pub settings-settings-requires : goal.settings-settings-requires
settings-settings-requires c = open-is c.args.p.now c.args.fd.0 c.args.self.now c.requires.«open»

pub negotiate_bytes-requires : goal.negotiate_bytes-requires
negotiate_bytes-requires c = record { space = λ request. fits _ _ (c.requires.room c.settings-settings.result) }

pub set_sizes-requires : goal.set_sizes-requires
set_sizes-requires c = open-is c.args.p.now c.args.fd.0 c.args.self.now c.requires.«open»

pub done-requires : goal.done-requires
done-requires c = stays_at c.args.self.now c.set_sizes.new.self _ _ c.set_sizes.ensures c.requires.place

pub returns-then-is_too_long-clause-step : goal.returns-then-is_too_long-clause-step
returns-then-is_too_long-clause-step c =
    lost c.args.p.now c.args.self.now c.set_sizes.new.self c.args.fd.0 c.args.asked.action c.args.asked.options.now c.args.omax c.settings-settings.result c.negotiate_bytes.new.settings
    c.args.room.bytes c.negotiate_bytes.new.room.bytes c.as_slice.result.now c.is_too_long.result c.done.result c.requires.«open» c.settings-settings.ensures c.in-Ok.ensures.settings c.set_sizes.ensures
    c.requires.empty c.in-Ok.ensures.bytes (c.as_slice.ensures ∙ c.finish-answer.ensures) c.is_too_long.ensures c.if-is_too_long.true c.done.ensures

pub returns-then-is_too_long-clause-room : goal.returns-then-is_too_long-clause-room
returns-then-is_too_long-clause-room c = after_change _ c.set_sizes.ensures

pub done-requires-2 : goal.done-requires-2
done-requires-2 c = stays_at c.args.self.now c.set_sizes.new.self _ _ c.set_sizes.ensures c.requires.place

pub returns-clause-step : goal.returns-clause-step
returns-clause-step c =
    kept c.args.p.now c.args.self.now c.set_sizes.new.self c.args.fd.0 c.args.asked.action c.args.asked.options.now c.args.omax c.settings-settings.result c.negotiate_bytes.new.settings
    c.args.room.bytes c.negotiate_bytes.new.room.bytes c.as_slice.result.now c.is_too_long.result c.done-2.result c.requires.«open» c.settings-settings.ensures c.in-Ok.ensures.settings c.set_sizes.ensures
    c.requires.empty c.in-Ok.ensures.bytes (c.as_slice.ensures ∙ c.finish-answer.ensures) c.is_too_long.ensures c.in-Ok.result c.trimmed-opt.result c.if-is_too_long.false
    c.in-Ok.ensures.overall (c.trimmed-opt.ensures ∙ ap (λ (xs : List ℕ). trimmed xs c.args.omax) (sym c.as_slice.ensures)) c.done-2.ensures

pub returns-clause-room : goal.returns-clause-room
returns-clause-room c = after_change _ c.set_sizes.ensures
