-- What a send answers, by its rows.
use Rattle.std.proofs.Common.{◌≡◌, ◌≤◌, ◌<◌, ◌+◌, ◌-◌, ℕ, Bool, true, false, not, ◌&&◌, ◌||◌, eqb, ltb, cond, List, [], ◌∷◌, length, map, take, Option, Some, None, refl, sym, ap, subst, ◌∙◌, arith}
use Rattle.std.specs.Prelude.{option_map, min}
use Rattle.std.proofs.lemmas.Bool.Decides.{nat_tests}
use Rattle.std.specs.List.{concat, AllByRecursion}
use Rattle.xti_base.specs.declared.errno.Errno.TheVariants.{TBADF, TFLOW}
use Rattle.xti_base.specs.declared.limits.TheConstants.{MOST_SEND}
use Rattle.xti_model.specs.declared.entry.Go.{Go}
use Rattle.xti_model.specs.declared.entry.Go.TheVariants as go
use Rattle.xti_model.specs.declared.entry.Outcome.TheVariants.{Done}
use Rattle.xti_model.specs.declared.entry.Reply.{Reply}
use Rattle.xti_model.specs.declared.entry.Reply.TheVariants.{Refused}
use Rattle.xti_model.specs.declared.profile.Providers.{Providers}
use Rattle.xti_model.specs.Arguments.{is_expedited}
use Rattle.xti_model.specs.Endpoint.{Endpoint}
use Rattle.xti_model.specs.Links.{linked}
use Rattle.xti_model.specs.Provider.{profile}
use Rattle.xti_model.specs.Sending.{message_limit, ready_for, room_for, unfinished}
use Rattle.xti_model.specs.World.{World, endpoint, changed}
use Rattle.xti_model.specs.Plan.{Row, Refusal, answers, waits, Plan, first, later, later_row, later_plan, if_open, has_effect}
use Rattle.xti_model.specs.Step.{step_of, step_by, made, send}
use Rattle.xti_model.specs.Calls.Send as Send
use Rattle.xti_end.proofs.Rows.{first-kept, first-last}
use Rattle.xti_data.specs.declared.portions.Portion.{Portion}
use Rattle.xti_data.specs.Portions.{giving, left_after, portion_of, IsOfParts, IsWithin}
use Rattle.xti_end.specs.Held.{Held, parts_of}
use Rattle.xti_data.specs.Sends.{told, flow_marks, refusal_of}
use Rattle.xti_model.specs.History.{taken_before}

abbrev row : Bool → Refusal → Row
row b r = record { holds = b; refusal = r }

abbrev Passes : Row → Type 0
Passes r = r.holds ≡ false

none-holds : (rows : List Row) → first rows ≡ None → AllByRecursion Passes rows
none-holds [] e = tt
none-holds (x ∷ xs) e = let s = step x.holds x.refusal (first xs) e in (s.0, none-holds xs s.1)
  where
    step : (b : Bool) (y : Refusal) (o : Option Refusal) → cond b (Some y) o ≡ None → (b ≡ false) × (o ≡ None)
    step true y o e = cc
    step false y o e = (refl, e)

-- the rows of a later step
first-later : (n : ℕ) (rows : List Row) → first (map (later_row n) rows) ≡ option_map (later n) (first rows)
first-later n [] = refl
first-later n (x ∷ xs) = step x.holds (first-later n xs)
  where
    step : (t : Bool) → first (map (later_row n) xs) ≡ option_map (later n) (first xs) → cond t (Some (later n x.refusal)) (first (map (later_row n) xs)) ≡ option_map (later n) (cond t (Some x.refusal) (first xs))
    step true e = refl
    step false e = e

-- the plan of a step that begins or goes on, and its refusals
abbrev pub going : Go → Plan → Plan
going go.Begin plan = plan
going (go.More n) plan = later_plan n plan

abbrev pub refused_as : Go → Refusal → Refusal
refused_as go.Begin r = r
refused_as (go.More n) r = later n r

same-option : (o : Option Refusal) → o ≡ option_map (λ r. r) o
same-option None = refl
same-option (Some r) = refl

abbrev plan_at : Providers → World → ℕ → ℕ → List ℕ → ℕ → ℕ → Endpoint → Plan
plan_at p w fd n bytes flags taken e = Send.plan_to p fd n bytes flags taken e (linked p w fd e)

abbrev rows_at : Providers → World → ℕ → ℕ → List ℕ → ℕ → ℕ → Endpoint → List Row
rows_at p w fd n bytes flags taken e = Send.rows p n bytes flags taken (linked p w fd e) e

opened : (p : Providers) (w : World) (fd n : ℕ) (bytes : List ℕ) (flags : ℕ) (g : Go) (e : Endpoint) → endpoint p w fd ≡ Some e
    → step_of p w (send p w fd n bytes flags g) ≡ step_by p w (going g (plan_at p w fd n bytes flags (taken_before g) e)) (option_map (refused_as g) (first (rows_at p w fd n bytes flags (taken_before g) e)))
opened p w fd n bytes flags go.Begin e o =
    ap (λ (x : Option Endpoint). step_of p w (if_open fd x (plan_at p w fd n bytes flags 0))) o
    ∙ ap (step_by p w (plan_at p w fd n bytes flags 0 e)) (same-option (first (rows_at p w fd n bytes flags 0 e)))
opened p w fd n bytes flags (go.More m) e o =
    ap (λ (x : Option Endpoint). step_of p w (later_plan m (if_open fd x (plan_at p w fd n bytes flags m)))) o
    ∙ ap (step_by p w (later_plan m (plan_at p w fd n bytes flags m e))) (first-later m (rows_at p w fd n bytes flags m e))

-- the endpoint isn't open
pub send-shut : (p : Providers) (w : World) (fd n : ℕ) (bytes : List ℕ) (flags : ℕ) (g : Go) → endpoint p w fd ≡ None
    → Some (made p fd (Done (told g (Refused TBADF))) w) ≡ step_of p w (send p w fd n bytes flags g)
send-shut p w fd n bytes flags go.Begin o = sym (ap (λ (x : Option Endpoint). step_of p w (if_open fd x (plan_at p w fd n bytes flags 0))) o)
send-shut p w fd n bytes flags (go.More m) o = sym (ap (λ (x : Option Endpoint). step_of p w (later_plan m (if_open fd x (plan_at p w fd n bytes flags m)))) o)

-- the rows before the last one
abbrev pub early : Providers → ℕ → List ℕ → ℕ → ℕ → Endpoint → List Row
early p n bytes flags taken e = take 6 (Send.rows p n bytes flags taken None e)

told-is : (g : Go) (reply : Reply) → refused_as g (answers reply) ≡ answers (told g reply)
told-is go.Begin reply = refl
told-is (go.More n) reply = refl

pub send-refused : (p : Providers) (w : World) (fd n : ℕ) (bytes : List ℕ) (flags : ℕ) (g : Go) (e : Endpoint) (reply : Reply) → endpoint p w fd ≡ Some e → first (early p n bytes flags (taken_before g) e) ≡ Some (answers reply)
    → step_of p w (send p w fd n bytes flags g) ≡ Some (made p fd (Done (told g reply)) w)
send-refused p w fd n bytes flags go.Begin e reply o r =
    opened p w fd n bytes flags go.Begin e o
    ∙ ap (λ (x : Option Refusal). step_by p w (plan_at p w fd n bytes flags 0 e) (option_map (λ y. y) x))
    (first-kept (early p n bytes flags 0 e) (row (not (ready_for (is_expedited flags) e (linked p w fd e))) (waits (Refused TFLOW))) (answers reply) r)
send-refused p w fd n bytes flags (go.More m) e reply o r =
    opened p w fd n bytes flags (go.More m) e o
    ∙ ap (λ (x : Option Refusal). step_by p w (later_plan m (plan_at p w fd n bytes flags m e)) (option_map (later m) x))
    (first-kept (early p n bytes flags m e) (row (not (ready_for (is_expedited flags) e (linked p w fd e))) (waits (Refused TFLOW))) (answers reply) r)

-- what the rows before the last one let through
abbrev pub Unrefused : Providers → ℕ → List ℕ → ℕ → ℕ → Endpoint → Type 0
Unrefused p n bytes flags taken e = first (early p n bytes flags taken e) ≡ None

or-right : (a b : Bool) → (a || b) ≡ false → b ≡ false
or-right true b e = cc
or-right false b e = e

pub few-bytes : (p : Providers) (n : ℕ) (bytes : List ℕ) (flags taken : ℕ) (e : Endpoint) → Unrefused p n bytes flags taken e → length bytes ≤ MOST_SEND
few-bytes p n bytes flags taken e u =
    let s = (none-holds (early p n bytes flags taken e) u).1.1.1.0 in
    let t : ltb MOST_SEND (length bytes) ≡ false = or-right (ltb 16 n) (ltb MOST_SEND (length bytes)) s in
    grind (arith, nat_tests, t)

fewer-within : (o : Option ℕ) (m n : ℕ) → n ≤ m → Send.is_over o m ≡ false → Send.is_over o n ≡ false
fewer-within None m n le e = refl
fewer-within (Some limit) m n le e = grind (arith, nat_tests, e)

pub portion-within : (p : Providers) (parts : List (List ℕ)) (n flags before room : ℕ) (e : Endpoint) → Unrefused p n (concat parts) flags before e → IsWithin p (portion_of p parts flags before room e) e
portion-within p parts n flags before room e u =
    let s = (none-holds (early p n (concat parts) flags before e) u).1.1.1.1.0 in
    fewer-within (message_limit p e (is_expedited flags)) (unfinished (is_expedited flags) e + (length (concat parts) - before)) (unfinished (is_expedited flags) e + min (length (concat parts) - before) room)
    (grind (arith, nat_tests)) (or-right ((eqb (length (concat parts)) 0) && not (profile p e.prov).sendzero) _ s)

-- what is taken is of the parts, and few
min-below : (a b m : ℕ) → a ≤ m → min a b ≤ m
min-below a b m h = grind arith

pub portion-of-parts : (p : Providers) (parts : List (List ℕ)) (flags before room : ℕ) (e : Endpoint) (portion : Portion) → portion ≡ portion_of p parts flags before room e → length (concat parts) ≤ MOST_SEND → IsOfParts parts portion
portion-of-parts p parts flags before room e portion q few = subst (IsOfParts parts) (sym q) (record {
  there = min-below (left_after before parts) room (left_after before parts) (omega arith);
  few = min-below (left_after before parts) room MOST_SEND (omega arith);
})

-- and their sum with those that were taken before is a word
sum-fits : (before len room : ℕ) → len ≤ MOST_SEND → before < 4294967296 → before + min (len - before) room < 4294967296
sum-fits before len room few word = grind arith

pub wide : (n : ℕ) → n < 4294967296 → n < 18446744073709551616
wide n word = omega arith

pub taken-fits : (p : Providers) (parts : List (List ℕ)) (flags before room : ℕ) (e : Endpoint) (portion : Portion) → portion ≡ portion_of p parts flags before room e → length (concat parts) ≤ MOST_SEND → before < 4294967296
    → before + portion.count < 4294967296
taken-fits p parts flags before room e portion q few word = subst (λ (x : Portion). before + x.count < 4294967296) (sym q) (sum-fits before (length (concat parts)) room few word)

-- nothing before the last row refuses a send of these parts
pub unrefused : (p q : Providers) (parts : List (List ℕ)) (flags taken told : ℕ) (h : Held) → None ≡ refusal_of q parts flags told h → q ≡ p → told ≡ taken → Unrefused p (length parts) (concat parts) flags taken (parts_of h.body)
unrefused p q parts flags taken told h r e f =
    sym (r ∙ ap (λ (x : Providers). refusal_of x parts flags told h) e ∙ ap (λ (x : ℕ). refusal_of p parts flags x h) f)

last-row : (p : Providers) (w : World) (fd n : ℕ) (bytes : List ℕ) (flags : ℕ) (g : Go) (e : Endpoint) (b : Bool) → endpoint p w fd ≡ Some e → Unrefused p n bytes flags (taken_before g) e → ready_for (is_expedited flags) e (linked p w fd e) ≡ b
    → step_of p w (send p w fd n bytes flags g) ≡ step_by p w (going g (plan_at p w fd n bytes flags (taken_before g) e)) (option_map (refused_as g) (cond (not b) (Some (waits (Refused TFLOW))) None))
last-row p w fd n bytes flags g e b o r t =
    opened p w fd n bytes flags g e o
    ∙ ap (λ (x : Option Refusal). step_by p w (going g (plan_at p w fd n bytes flags (taken_before g) e)) (option_map (refused_as g) x))
    (first-last (early p n bytes flags (taken_before g) e) (row (not (ready_for (is_expedited flags) e (linked p w fd e))) (waits (Refused TFLOW))) r
    ∙ ap (λ (x : Bool). cond (not x) (Some (waits (Refused TFLOW))) None) t)

-- what is taken of the parts where they are linked so
abbrev pub taken_of : Providers → World → ℕ → List (List ℕ) → ℕ → ℕ → Endpoint → Portion
taken_of p w fd parts flags before e = portion_of p parts flags before (room_for (is_expedited flags) e (linked p w fd e)) e

-- there is room: the portion is given
pub send-went : (p : Providers) (w : World) (fd : ℕ) (parts : List (List ℕ)) (flags : ℕ) (g : Go) (e : Endpoint) → endpoint p w fd ≡ Some e → Unrefused p (length parts) (concat parts) flags (taken_before g) e → ready_for (is_expedited flags) e (linked p w fd e) ≡ true
    → step_of p w (send p w fd (length parts) (concat parts) flags g)
    ≡ Some (made p fd (Send.outcome e (length (concat parts)) (taken_before g + (taken_of p w fd parts flags (taken_before g) e).count)) (changed p w (giving p fd e.peer (concat parts) (taken_of p w fd parts flags (taken_before g) e))))
send-went p w fd parts flags go.Begin e o r t = last-row p w fd (length parts) (concat parts) flags go.Begin e true o r t
send-went p w fd parts flags (go.More m) e o r t = last-row p w fd (length parts) (concat parts) flags (go.More m) e true o r t

-- there is none, and the sender waits
pub send-blocked : (p : Providers) (w : World) (fd n : ℕ) (bytes : List ℕ) (flags : ℕ) (g : Go) (e : Endpoint) → endpoint p w fd ≡ Some e → Unrefused p n bytes flags (taken_before g) e → ready_for (is_expedited flags) e (linked p w fd e) ≡ false → e.nonblock ≡ false
    → step_of p w (send p w fd n bytes flags g) ≡ None
send-blocked p w fd n bytes flags go.Begin e o r t b = last-row p w fd n bytes flags go.Begin e false o r t ∙ rw b refl
send-blocked p w fd n bytes flags (go.More m) e o r t b = last-row p w fd n bytes flags (go.More m) e false o r t ∙ rw b refl

-- there is none, and the sender doesn't wait
pub send-flow : (p : Providers) (w : World) (fd n : ℕ) (bytes : List ℕ) (flags : ℕ) (g : Go) (e : Endpoint) → endpoint p w fd ≡ Some e → Unrefused p n bytes flags (taken_before g) e → ready_for (is_expedited flags) e (linked p w fd e) ≡ false → e.nonblock ≡ true
    → step_of p w (send p w fd n bytes flags g) ≡ Some (made p fd (Done (told g (Refused TFLOW))) (changed p w (flow_marks fd flags g)))
send-flow p w fd n bytes flags go.Begin e o r t b = last-row p w fd n bytes flags go.Begin e false o r t ∙ rw b refl
send-flow p w fd n bytes flags (go.More m) e o r t b = last-row p w fd n bytes flags (go.More m) e false o r t ∙ rw b refl

-- where there is room nothing refuses the step
abbrev plan_in : Providers → World → ℕ → ℕ → List ℕ → ℕ → Go → Plan
plan_in p w fd n bytes flags g = send p w fd n bytes flags g

first-going : (p : Providers) (w : World) (fd n : ℕ) (bytes : List ℕ) (flags : ℕ) (g : Go) (e : Endpoint) → endpoint p w fd ≡ Some e
    → first (plan_in p w fd n bytes flags g).rows ≡ option_map (refused_as g) (first (rows_at p w fd n bytes flags (taken_before g) e))
first-going p w fd n bytes flags go.Begin e o =
    ap (λ (x : Option Endpoint). first (if_open fd x (plan_at p w fd n bytes flags 0)).rows) o ∙ same-option (first (rows_at p w fd n bytes flags 0 e))
first-going p w fd n bytes flags (go.More m) e o =
    ap (λ (x : Option Endpoint). first (later_plan m (if_open fd x (plan_at p w fd n bytes flags m))).rows) o ∙ first-later m (rows_at p w fd n bytes flags m e)

pub has-room : (p : Providers) (w : World) (fd n : ℕ) (bytes : List ℕ) (flags : ℕ) (g : Go) (e : Endpoint) → endpoint p w fd ≡ Some e → Unrefused p n bytes flags (taken_before g) e → ready_for (is_expedited flags) e (linked p w fd e) ≡ true
    → has_effect (first (plan_in p w fd n bytes flags g).rows) ≡ true
has-room p w fd n bytes flags g e o r t =
    ap has_effect (first-going p w fd n bytes flags g e o
    ∙ ap (option_map (refused_as g)) (first-last (early p n bytes flags (taken_before g) e) (row (not (ready_for (is_expedited flags) e (linked p w fd e))) (waits (Refused TFLOW))) r
    ∙ ap (λ (x : Bool). cond (not x) (Some (waits (Refused TFLOW))) None) t))
