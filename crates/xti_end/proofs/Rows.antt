-- The plan of a call on an open endpoint, once its refusals are passed.
use Rattle.std.proofs.Common.{◌≡◌, ℕ, Bool, true, false, ◌&&◌, ◌||◌, eqb, ltb, cond, List, [], ◌∷◌, ◌++◌, take, length, Option, Some, None, refl, sym, ap, ◌∙◌}
use Rattle.std.specs.Prelude.{is_some, is_none, not, option_map}
use Rattle.xti_base.specs.Kinds.{same_state}
use Rattle.xti_base.specs.declared.kinds.State.TheVariants.{T_IDLE, T_INCON, T_OUTCON}
use Rattle.xti_base.specs.declared.errno.Errno.TheVariants.{TBADDATA, TNODATA}
use Rattle.xti_base.specs.declared.kinds.Event.{Event}
use Rattle.xti_model.specs.Arguments.{is_too_many}
use Rattle.xti_model.specs.declared.profile.Providers.{Providers}
use Rattle.xti_model.specs.Endpoint.{Datagram, Endpoint, address_of, ocnt}
use Rattle.xti_model.specs.Events.{is_state, some_wait, connected_or_asking, looked, looks_data, receiving}
use Rattle.std.specs.List.{list_any}
use Rattle.xti_model.specs.declared.entry.Outcome.TheVariants.{Done}
use Rattle.xti_model.specs.declared.entry.Reply.{Reply}
use Rattle.xti_model.specs.declared.entry.Reply.TheVariants.{Addresses, Overflow, Plain, UData}
use Rattle.xti_model.specs.Calls.Connect as Connect
use Rattle.xti_model.specs.Calls.Datagrams as Datagrams
use Rattle.xti_model.specs.Calls.Disconnect as Disconnect
use Rattle.xti_model.specs.Calls.Listen as Listen
use Rattle.xti_model.specs.Calls.Receive as Receive
use Rattle.xti_model.specs.Calls.Release as Release
use Rattle.xti_model.specs.Calls.Show as Show
use Rattle.xti_model.specs.Plan.{Field, Plan, Refusal, Row, answers, field, first, has_effect, is_too_long, not_ready, outside, refuses, shows, trimmed, without_connections, if_open, loses, overflows, plan_of}
use Rattle.xti_model.specs.Provider.{has_connections, has_datagrams}
use Rattle.xti_model.specs.Step.{made, step_by, step_of}
use Rattle.xti_model.specs.World.{World, Cell, endpoint_cell, at_endpoint, change_endpoint, changed, endpoint, place_of, generation_of}
use Rattle.xti_end.specs.declared.receiving.Sizes.{Sizes}
use Rattle.xti_end.specs.Held.{Held, alone, is_open_as, parts, parts_of, with_parts}
use Rattle.xti_end.specs.Taken.{confirmation_overflows, error_fields, first_bytes, first_has_rest, receive_step, request_overflows, told_confirmation, told_disconnect, told_error, told_request, confirmation_step, confirming, disconnect_step, receiving_disconnect, receiving_data, receiving_release, receiving_release_data, release_step, told_release, listening, request_step, error_step, receiving_error, showing_addresses}

and-parts : (a b : Bool) → (a && b) ≡ true → (a ≡ true) × (b ≡ true)
and-parts true true h = (refl, refl)
and-parts true false h = cc
and-parts false b h = cc

some-parts : (o : Option Endpoint) → is_some o ≡ true → o ≡ Some (parts_of o)
some-parts None h = cc
some-parts (Some e) h = refl

-- an endpoint is open with the descriptor in the world of its cell alone
pub alone-open : (p : Providers) (fd : ℕ) (h : Held) → is_open_as p fd h ≡ true → endpoint p (alone h) fd ≡ Some (parts h)
alone-open p fd h o =
    let a = and-parts (is_some h.body && eqb h.generation (generation_of p fd)) (eqb h.place (place_of p fd)) o in
    let b = and-parts (is_some h.body) (eqb h.generation (generation_of p fd)) a.0 in
    rw (a.1, b.1) (some-parts h.body b.0)

pub alone-shut : (p : Providers) (fd : ℕ) (h : Held) → is_open_as p fd h ≡ false → endpoint p (alone h) fd ≡ None
alone-shut p fd h o = by h.body (eqb h.generation (generation_of p fd)) (eqb h.place (place_of p fd)) refl refl refl o
  where
    by : (body : Option Endpoint) (g n : Bool) → h.body ≡ body → eqb h.generation (generation_of p fd) ≡ g → eqb h.place (place_of p fd) ≡ n → ((is_some body && g) && n) ≡ false → endpoint p (alone h) fd ≡ None
    by body g false b t u o = rw u refl
    by body false true b t u o = rw (u, t) refl
    by None true true b t u o = rw (u, t, b) refl
    by (Some e) true true b t u o = absurd cc

-- a change of the open endpoint, in the world of its cell alone
cell-changed : (g generation : ℕ) (f : Endpoint → Endpoint) (o : Option Endpoint) → eqb g generation ≡ true → change_endpoint generation f (endpoint_cell g o) ≡ endpoint_cell g (option_map f o)
cell-changed g generation f None e = refl
cell-changed g generation f (Some x) e = rw e refl

pub alone-changed : (p : Providers) (fd : ℕ) (h : Held) (f : Endpoint → Endpoint) → is_open_as p fd h ≡ true → changed p (alone h) (at_endpoint fd f ∷ []) ≡ alone (with_parts f h)
alone-changed p fd h f o =
    let a = and-parts (is_some h.body && eqb h.generation (generation_of p fd)) (eqb h.place (place_of p fd)) o in
    let b = and-parts (is_some h.body) (eqb h.generation (generation_of p fd)) a.0 in
    rw a.1 (ap (λ (c : Cell). record { number = h.place; cell = c } ∷ []) (cell-changed h.generation (generation_of p fd) f h.body b.1))

-- fields that are too long are lost, and others told
pub has-effect : (b : Bool) → has_effect (cond b (Some loses) None) ≡ true
has-effect true = refl
has-effect false = refl

pub disconnect-told : (p : Providers) (h : Held) (fd umax : ℕ) → is_open_as p fd h ≡ true → has_connections (parts h).prov ≡ true → is_state connected_or_asking (parts h) ≡ true → some_wait (parts h).disconnects ≡ true
    → disconnect_step p (alone h) fd umax (parts h) ≡ step_of p (alone h) (receiving_disconnect fd umax p h)
disconnect-told p h fd umax o a b c = rw (alone-open p fd h o, a, b, c) refl

pub none-waits : {A : Type 0} (o : Option A) → is_some o ≡ true → is_none o ≡ false
none-waits None h = cc
none-waits (Some x) h = refl

pub some-waits : {A : Type 0} (o : Option A) → is_some o ≡ false → is_none o ≡ true
some-waits None h = refl
some-waits (Some x) h = cc

pub request-told : (p : Providers) (h : Held) (fd amax omax umax : ℕ) → is_open_as p fd h ≡ true → has_connections (parts h).prov ≡ true → is_state (T_IDLE ∷ T_INCON ∷ []) (parts h) ≡ true
    → eqb (parts h).qlen 0 ≡ false → eqb (ocnt (parts h)) (parts h).qlen ≡ false → some_wait (parts h).disconnects ≡ false → some_wait (parts h).pending ≡ true
    → request_step p (alone h) fd amax omax umax (parts h) ≡ step_of p (alone h) (listening fd amax omax umax p h)
request-told p h fd amax omax umax o a b q f d w = rw (alone-open p fd h o, a, b, q, f, d, w) refl

pub confirmation-told : (p : Providers) (h : Held) (fd amax omax umax : ℕ) → is_open_as p fd h ≡ true → has_connections (parts h).prov ≡ true → same_state (parts h).state T_OUTCON ≡ true
    → some_wait (parts h).disconnects ≡ false → is_some (parts h).confirmation ≡ true
    → confirmation_step p (alone h) fd amax omax umax (parts h) ≡ step_of p (alone h) (confirming fd amax omax umax p h)
confirmation-told p h fd amax omax umax o a b d w = rw (alone-open p fd h o, a, b, d, none-waits (parts h).confirmation w) refl

pub error-told : (p : Providers) (h : Held) (fd amax omax : ℕ) → is_open_as p fd h ≡ true → has_datagrams (parts h).prov ≡ true → same_state (parts h).state T_IDLE ≡ true → some_wait (parts h).datagram_errors ≡ true
    → error_step p (alone h) fd amax omax (parts h) ≡ step_of p (alone h) (receiving_error fd amax omax p h)
error-told p h fd amax omax o a b w = rw (alone-open p fd h o, a, b, w) refl

nothing-lost : (p : Providers) (w : World) (plan : Plan) (b : Bool) → b ≡ false → plan.rows ≡ record { holds = b; refusal = loses } ∷ [] → step_of p w plan ≡ Some (made p plan.fd plan.outcome (changed p w plan.changes))
nothing-lost p w plan b f r = rw (r, f) refl

pub addresses-told : (p : Providers) (h : Held) (fd amax pmax : ℕ) → is_open_as p fd h ≡ true → list_any is_too_long (Show.address_fields (parts h) amax pmax) ≡ false
    → Some (made p fd (Done (Addresses (trimmed (address_of (parts h)) amax) (trimmed (Show.shown_peer (parts h)) pmax))) (alone h)) ≡ step_of p (alone h) (showing_addresses fd amax pmax p h)
addresses-told p h fd amax pmax o f =
    let shows = λ (e : Endpoint). plan_of fd e (overflows (Show.address_fields e amax pmax) ∷ []) [] (Done (Addresses (trimmed (address_of e) amax) (trimmed (Show.shown_peer e) pmax))) in
    sym (nothing-lost p (alone h) (shows (parts h)) (list_any is_too_long (Show.address_fields (parts h) amax pmax)) f refl) ∙ ap (λ x. step_of p (alone h) (if_open fd x shows)) (sym (alone-open p fd h o))

-- a row before the last one refuses
pub first-kept : (rows : List Row) (last : Row) (q : Refusal) → first rows ≡ Some q → first (rows ++ last ∷ []) ≡ Some q
first-kept [] last q e = cc
first-kept (x ∷ xs) last q e = kept x.holds x.refusal (first xs) (first (xs ++ last ∷ [])) e (first-kept xs last q)
  where
    kept : (t : Bool) (y : Refusal) (o n : Option Refusal) → cond t (Some y) o ≡ Some q → (o ≡ Some q → n ≡ Some q) → cond t (Some y) n ≡ Some q
    kept true y o n e k = e
    kept false y o n e k = k e

-- only the last row may refuse
pub first-last : (rows : List Row) (last : Row) → first rows ≡ None → first (rows ++ last ∷ []) ≡ first (last ∷ [])
first-last [] last e = refl
first-last (x ∷ xs) last e = go x.holds x.refusal (first xs) (first (xs ++ last ∷ [])) (first (last ∷ [])) e (first-last xs last)
  where
    go : (t : Bool) (y : Refusal) (o n m : Option Refusal) → cond t (Some y) o ≡ None → (o ≡ None → n ≡ m) → cond t (Some y) n ≡ m
    go true y o n m e k = cc
    go false y o n m e k = k e

-- what may refuse a release before its data are looked at
abbrev before_data : Endpoint → List Row
before_data e = take 4 (Release.receive_rows 0 e)

abbrev long_data : ℕ → Endpoint → Row
long_data umax e = overflows (field (Release.release_data e) umax ∷ [])

-- a release is refused alike with its data and without them
pub release-refused : (p : Providers) (h : Held) (fd umax : ℕ) (told : Endpoint → Reply) (reply : Reply) → is_open_as p fd h ≡ true → Some (answers reply) ≡ first (Release.receive_rows 0 (parts h))
    → first (Release.taking_plan p (alone h) fd umax told).rows ≡ Some (answers reply)
release-refused p h fd umax told reply o e = rw (alone-open p fd h o) (first-kept (before_data (parts h)) (long_data umax (parts h)) (answers reply) (sym e))

pub refused-release-told : (p : Providers) (h : Held) (fd umax : ℕ) (told : Endpoint → Reply) (reply : Reply) → is_open_as p fd h ≡ true → Some (answers reply) ≡ first (Release.receive_rows 0 (parts h))
    → Some (made p fd (Done reply) (alone h)) ≡ step_of p (alone h) (Release.taking_plan p (alone h) fd umax told)
refused-release-told p h fd umax told reply o e =
    let plan = λ (x : Endpoint). plan_of fd x (Release.receive_rows umax x) (at_endpoint fd Release.after_receive ∷ []) (Done (told x)) in
    sym (ap (step_by p (alone h) (Release.taking_plan p (alone h) fd umax told)) (release-refused p h fd umax told reply o e) ∙ ap (λ x. step_by p (alone h) (if_open fd x plan) (Some (answers reply))) (alone-open p fd h o))

-- where nothing refuses it, and no data are asked for, it is taken
pub release-dropped : (p : Providers) (h : Held) (fd : ℕ) → is_open_as p fd h ≡ true → None ≡ first (Release.receive_rows 0 (parts h))
    → Some (made p fd (Done Plain) (alone (with_parts Release.after_receive h))) ≡ step_of p (alone h) (receiving_release fd p h)
release-dropped p h fd o e =
    let plan = λ (x : Endpoint). plan_of fd x (Release.receive_rows 0 x) (at_endpoint fd Release.after_receive ∷ []) (Done Plain) in
    ap (λ w. Some (made p fd (Done Plain) w)) (sym (alone-changed p fd h Release.after_receive o)) ∙
    (ap (step_by p (alone h) (plan (parts h))) e ∙
    ap (λ x. step_of p (alone h) (if_open fd x plan)) (sym (alone-open p fd h o)))

-- where nothing refuses it, only its data may be too long
pub release-taken : (p : Providers) (h : Held) (fd umax : ℕ) (told : Endpoint → Reply) → is_open_as p fd h ≡ true → None ≡ first (Release.receive_rows 0 (parts h))
    → first (Release.taking_plan p (alone h) fd umax told).rows ≡ first (long_data umax (parts h) ∷ [])
release-taken p h fd umax told o e = rw (alone-open p fd h o) (first-last (before_data (parts h)) (long_data umax (parts h)) (sym e))

pub release-told : (p : Providers) (h : Held) (fd umax : ℕ) → is_open_as p fd h ≡ true → None ≡ first (Release.receive_rows 0 (parts h))
    → release_step p (alone h) fd umax (parts h) ≡ step_of p (alone h) (receiving_release_data fd umax p h)
release-told p h fd umax o e =
    sym (ap (step_by p (alone h) (receiving_release_data fd umax p h)) (release-taken p h fd umax (told_release umax) o e) ∙ rw (alone-open p fd h o) refl)

-- then it takes effect
pub taken-has-effect : (p : Providers) (h : Held) (fd umax : ℕ) (told : Endpoint → Reply) → is_open_as p fd h ≡ true → None ≡ first (Release.receive_rows 0 (parts h))
    → has_effect (first (Release.taking_plan p (alone h) fd umax told).rows) ≡ true
taken-has-effect p h fd umax told o e = ap has_effect (release-taken p h fd umax told o e) ∙ either (long_data umax (parts h)).holds
  where
    either : (b : Bool) → has_effect (cond b (Some loses) None) ≡ true
    either true = refl
    either false = refl

-- fields that are too long are lost with what was to be told, and else it is told
pub request-lost : (p : Providers) (h : Held) (fd amax omax umax : ℕ) → is_open_as p fd h ≡ true → request_overflows amax omax umax (parts h) ≡ true
    → Some (made p fd (Done (Overflow (record { 0 = (Listen.oldest (parts h)).number }))) (alone (with_parts Listen.listened h))) ≡ request_step p (alone h) fd amax omax umax (parts h)
request-lost p h fd amax omax umax o t = ap (λ w. Some (made p fd (Done (Overflow (record { 0 = (Listen.oldest (parts h)).number }))) w)) (sym (alone-changed p fd h Listen.listened o)) ∙ rw t refl

pub request-kept : (p : Providers) (h : Held) (fd amax omax umax : ℕ) → is_open_as p fd h ≡ true → request_overflows amax omax umax (parts h) ≡ false
    → Some (made p fd (Done (told_request amax omax umax (parts h))) (alone (with_parts Listen.listened h))) ≡ request_step p (alone h) fd amax omax umax (parts h)
request-kept p h fd amax omax umax o t = ap (λ w. Some (made p fd (Done (told_request amax omax umax (parts h))) w)) (sym (alone-changed p fd h Listen.listened o)) ∙ rw t refl

pub confirmation-lost : (p : Providers) (h : Held) (fd amax omax umax : ℕ) → is_open_as p fd h ≡ true → confirmation_overflows amax omax umax (parts h) ≡ true
    → Some (made p fd (Done (Overflow (record { 0 = 0 }))) (alone (with_parts Connect.confirmed h))) ≡ confirmation_step p (alone h) fd amax omax umax (parts h)
confirmation-lost p h fd amax omax umax o t = ap (λ w. Some (made p fd (Done (Overflow (record { 0 = 0 }))) w)) (sym (alone-changed p fd h Connect.confirmed o)) ∙ rw t refl

pub confirmation-kept : (p : Providers) (h : Held) (fd amax omax umax : ℕ) → is_open_as p fd h ≡ true → confirmation_overflows amax omax umax (parts h) ≡ false
    → Some (made p fd (Done (told_confirmation amax omax umax (parts h))) (alone (with_parts Connect.confirmed h))) ≡ confirmation_step p (alone h) fd amax omax umax (parts h)
confirmation-kept p h fd amax omax umax o t = ap (λ w. Some (made p fd (Done (told_confirmation amax omax umax (parts h))) w)) (sym (alone-changed p fd h Connect.confirmed o)) ∙ rw t refl

pub disconnect-lost : (p : Providers) (h : Held) (fd umax : ℕ) → is_open_as p fd h ≡ true → is_too_long (field (Disconnect.oldest (parts h)).udata umax) ≡ true
    → Some (made p fd (Done (Overflow (record { 0 = 0 }))) (alone (with_parts Disconnect.received h))) ≡ disconnect_step p (alone h) fd umax (parts h)
disconnect-lost p h fd umax o t = ap (λ w. Some (made p fd (Done (Overflow (record { 0 = 0 }))) w)) (sym (alone-changed p fd h Disconnect.received o)) ∙ rw t refl

pub disconnect-kept : (p : Providers) (h : Held) (fd umax : ℕ) → is_open_as p fd h ≡ true → is_too_long (field (Disconnect.oldest (parts h)).udata umax) ≡ false
    → Some (made p fd (Done (told_disconnect umax (parts h))) (alone (with_parts Disconnect.received h))) ≡ disconnect_step p (alone h) fd umax (parts h)
disconnect-kept p h fd umax o t = ap (λ w. Some (made p fd (Done (told_disconnect umax (parts h))) w)) (sym (alone-changed p fd h Disconnect.received o)) ∙ rw t refl

pub error-lost : (p : Providers) (h : Held) (fd amax omax : ℕ) → is_open_as p fd h ≡ true → list_any is_too_long (error_fields amax omax (parts h)) ≡ true
    → Some (made p fd (Done (Overflow (record { 0 = 0 }))) (alone (with_parts Datagrams.without_error h))) ≡ error_step p (alone h) fd amax omax (parts h)
error-lost p h fd amax omax o t = ap (λ w. Some (made p fd (Done (Overflow (record { 0 = 0 }))) w)) (sym (alone-changed p fd h Datagrams.without_error o)) ∙ rw t refl

pub error-kept : (p : Providers) (h : Held) (fd amax omax : ℕ) → is_open_as p fd h ≡ true → list_any is_too_long (error_fields amax omax (parts h)) ≡ false
    → Some (made p fd (Done (told_error amax omax (parts h))) (alone (with_parts Datagrams.without_error h))) ≡ error_step p (alone h) fd amax omax (parts h)
error-kept p h fd amax omax o t = ap (λ w. Some (made p fd (Done (told_error amax omax (parts h))) w)) (sym (alone-changed p fd h Datagrams.without_error o)) ∙ rw t refl

pub addresses-effect : (p : Providers) (h : Held) (fd amax pmax : ℕ) → is_open_as p fd h ≡ true → has_effect (first (showing_addresses fd amax pmax p h).rows) ≡ true
addresses-effect p h fd amax pmax o = rw (alone-open p fd h o) (has-effect (list_any is_too_long (Show.address_fields (parts h) amax pmax)))

-- what is received of the open endpoint, and what refuses it before it is asked whether anything is there
abbrev pub receive_of : Providers → ℕ → Sizes → Endpoint → Plan
receive_of p fd s e = plan_of fd e (Receive.rows s.count e) (at_endpoint fd (Receive.received p s.total) ∷ []) (Done (Receive.got p (some_wait e.expedited) s.total e))

passes : (x : Row) (xs : List Row) → x.holds ≡ false → first (x ∷ xs) ≡ first xs
passes x xs e = ap (λ (b : Bool). cond b (Some x.refusal) (first xs)) e

pub receive-first : (sizes : ℕ) (e : Endpoint) (o : Option Event) → has_connections e.prov ≡ true → is_state receiving e ≡ true → is_too_many sizes ≡ false → looked looks_data e ≡ o
    → first (Receive.rows sizes e) ≡ first (shows o ∷ not_ready (Receive.has_nothing e) TNODATA ∷ [])
receive-first sizes e o a b f l =
    let last = not_ready (Receive.has_nothing e) TNODATA ∷ [] in
    let many = refuses (is_too_many sizes) TBADDATA ∷ shows (looked looks_data e) ∷ last in
    passes (without_connections e) (outside receiving e ∷ many) (ap not a) ∙
    (passes (outside receiving e) many (ap not b) ∙
    (passes (refuses (is_too_many sizes) TBADDATA) (shows (looked looks_data e) ∷ last) f ∙
    ap (λ (x : Option Event). first (shows x ∷ last)) l))

pub receive-by : (p : Providers) (h : Held) (fd : ℕ) (s : Sizes) (q : Option Refusal) → is_open_as p fd h ≡ true → first (Receive.rows s.count (parts h)) ≡ q
    → step_by p (alone h) (receive_of p fd s (parts h)) q ≡ step_of p (alone h) (receiving_data fd s p h)
receive-by p h fd s q o e = sym (ap (λ x. step_of p (alone h) (if_open fd x (receive_of p fd s))) (alone-open p fd h o) ∙ ap (step_by p (alone h) (receive_of p fd s (parts h))) e)

pub receive-effect : (p : Providers) (h : Held) (fd : ℕ) (s : Sizes) (q : Option Refusal) → is_open_as p fd h ≡ true → first (Receive.rows s.count (parts h)) ≡ q
    → has_effect (first (receiving_data fd s p h).rows) ≡ has_effect q
receive-effect p h fd s q o e = ap (λ x. has_effect (first (if_open fd x (receive_of p fd s)).rows)) (alone-open p fd h o) ∙ ap has_effect e

-- an endpoint that is open with a descriptor is open
pub open-is : (p : Providers) (fd : ℕ) (h : Held) → is_open_as p fd h ≡ true → is_some h.body ≡ true
open-is p fd h o =
    let a = and-parts (is_some h.body && eqb h.generation (generation_of p fd)) (eqb h.place (place_of p fd)) o in
    (and-parts (is_some h.body) (eqb h.generation (generation_of p fd)) a.0).0

-- a release is taken without its data, or with them
pub release-lost : (p : Providers) (h : Held) (fd umax : ℕ) → is_open_as p fd h ≡ true → is_too_long (field (Release.release_data (parts h)) umax) ≡ true
    → Some (made p fd (Done (Overflow (record { 0 = 0 }))) (alone (with_parts Release.after_receive h))) ≡ release_step p (alone h) fd umax (parts h)
release-lost p h fd umax o t = ap (λ w. Some (made p fd (Done (Overflow (record { 0 = 0 }))) w)) (sym (alone-changed p fd h Release.after_receive o)) ∙ rw t refl

pub release-kept : (p : Providers) (h : Held) (fd umax : ℕ) → is_open_as p fd h ≡ true → is_too_long (field (Release.release_data (parts h)) umax) ≡ false
    → Some (made p fd (Done (told_release umax (parts h))) (alone (with_parts Release.after_receive h))) ≡ release_step p (alone h) fd umax (parts h)
release-kept p h fd umax o t = ap (λ w. Some (made p fd (Done (told_release umax (parts h))) w)) (sym (alone-changed p fd h Release.after_receive o)) ∙ rw t refl

-- the first datagram is lost, or received
pub datagram-lost : (p : Providers) (h : Held) (fd sizes max amax omax : ℕ) → is_open_as p fd h ≡ true → list_any is_too_long (Datagrams.fields (Datagrams.told (parts h)) amax omax) ≡ true
    → Some (made p fd (Done (Overflow (record { 0 = 0 }))) (alone (with_parts Datagrams.dropped h))) ≡ receive_step p (alone h) fd sizes max amax omax (parts h)
datagram-lost p h fd sizes max amax omax o t = ap (λ w. Some (made p fd (Done (Overflow (record { 0 = 0 }))) w)) (sym (alone-changed p fd h Datagrams.dropped o)) ∙ rw t refl

pub datagram-kept : (p : Providers) (h : Held) (fd sizes max amax omax : ℕ) → is_open_as p fd h ≡ true → list_any is_too_long (Datagrams.fields (Datagrams.told (parts h)) amax omax) ≡ false
    → Some (made p fd (Done (Datagrams.got (Datagrams.told (parts h)) max amax omax)) (alone (with_parts (Datagrams.received max) h))) ≡ receive_step p (alone h) fd sizes max amax omax (parts h)
datagram-kept p h fd sizes max amax omax o t =
    ap (λ w. Some (made p fd (Done (Datagrams.got (Datagrams.told (parts h)) max amax omax)) w)) (sym (alone-changed p fd h (Datagrams.received max) o)) ∙ rw t refl

-- what is told of a datagram has all its bytes
told-bytes : (begun : Bool) (d : Datagram) → (cond begun (record d { source = []; options = [] }) d).bytes ≡ d.bytes
told-bytes true d = refl
told-bytes false d = refl

pub got-is : (e : Endpoint) (max amax omax : ℕ) (address options bytes : List ℕ) (more : Bool) (flags : ℕ) → address ≡ trimmed (Datagrams.told e).source amax → options ≡ trimmed (Datagrams.told e).options omax
    → bytes ≡ first_bytes max e → more ≡ first_has_rest max e → flags ≡ cond more 1 0 → UData address options bytes flags ≡ Datagrams.got (Datagrams.told e) max amax omax
got-is e max amax omax address options bytes more flags a o b m f =
    rw (a, o, b, f, m)
    (ap (λ (xs : List ℕ). UData (trimmed (Datagrams.told e).source amax) (trimmed (Datagrams.told e).options omax) (take max xs) (cond (ltb max (length xs)) 1 0))
    (sym (told-bytes e.begun (Datagrams.first_of e))))

-- whether one of two fields is too long
pub first-long : (a b : Field) → is_too_long a ≡ true → list_any is_too_long (a ∷ b ∷ []) ≡ true
first-long a b e = rw e refl

pub second-long : (a b : Field) → is_too_long b ≡ true → list_any is_too_long (a ∷ b ∷ []) ≡ true
second-long a b e = rw e (by (is_too_long a))
  where
    by : (t : Bool) → (t || true) ≡ true
    by true = refl
    by false = refl

pub none-long : (a b : Field) → is_too_long a ≡ false → is_too_long b ≡ false → list_any is_too_long (a ∷ b ∷ []) ≡ false
none-long a b e f = rw (e, f) refl
