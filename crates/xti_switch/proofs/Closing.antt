-- An endpoint closes after all that it is linked with heard of it.
use Rattle.std.proofs.Common.{◌≡◌, ℕ, ◌+◌, ◌<◌, Bool, true, false, not, ◌||◌, ◌&&◌, eqb, List, [], ◌∷◌, ◌++◌, length, Option, Some, None, IfSome, refl, sym, ap, ◌∙◌, subst, arith}
use Rattle.std.specs.Prelude.{is_some, is_none, map, option_map}
use Rattle.std.specs.List.{AllByRecursion}
use Rattle.std.specs.Option.{option_copied}
use Rattle.std.proofs.Common.{Bor}
use Rattle.std.proofs.lemmas.Bool.Decides.{nat_tests}
use Rattle.xti_base.specs.declared.kinds.Fd.{Fd}
use Rattle.xti_base.specs.declared.reasons.TheConstants.{PEER_CLOSED}
use Rattle.xti_model.specs.declared.call.Call.TheVariants as call
use Rattle.xti_model.specs.declared.entry.Applied.{Applied}
use Rattle.xti_model.specs.declared.entry.Outcome.TheVariants.{Done}
use Rattle.xti_model.specs.declared.entry.Reply.TheVariants.{Plain}
use Rattle.xti_model.specs.declared.profile.Providers.{Providers}
use Rattle.xti_model.specs.Calls.Close as Close
use Rattle.xti_model.specs.Endpoint.{Endpoint, Indication, Target}
use Rattle.xti_model.specs.Events.{some_wait}
use Rattle.xti_model.specs.Links.{break}
use Rattle.xti_model.specs.Sound.{is_sound, requests}
use Rattle.xti_model.specs.Step.{made}
use Rattle.xti_model.specs.Switch.{place_at}
use Rattle.xti_model.specs.Touched.{named, touched, of_some, peer_cell, target_cell, caller_cells}
use Rattle.xti_model.specs.World.{World, Change, is_among, place_of, switch_number, endpoint}
use Rattle.xti_end.specs.Held.{Held, parts}
use Rattle.xti_lent.specs.Answers.{AnswersBy, Changed, IsDone}
use Rattle.xti_lent.specs.Fit.{AllLent, IsFit, SameCells}
use Rattle.xti_lent.specs.Lending.{Lending, cells}
use Rattle.xti_lent.specs.Lends.{IsHeld}
use Rattle.xti_lent.proofs.Named.{first-among, later-among, named-lent, held-lent}
use Rattle.xti_lent.proofs.Places.{place-below}
use Rattle.xti_lent.proofs.Sequences.{changed-then}
use Rattle.xti_switch.specs.Closes.{unanswered, unanswered_at, IsKnownOpen, TellsOthers}
use Rattle.xti_switch.specs.Hearing.{CanBreak}
use Rattle.xti_switch.proofs.Breakings.{last-true, sound-open}
use Rattle.xti_switch.proofs.Openings.{place-open}
use Rattle.xti_switch.proofs.Reaching.{some-all, among-first, among-last, fd-among}

-- the cells beside that of the endpoint that closes
abbrev beside_close : Providers → Endpoint → List ℕ
beside_close p e = peer_cell p e ++ target_cell p e ++ caller_cells p e

beside : (l : Lending) (fd : Fd) (e : Endpoint) (other : ℕ) → AllLent l (touched l.providers (cells l) (call.TClose fd)) → endpoint l.providers (cells l) fd.0 ≡ Some e → is_among (beside_close l.providers e) (place_of l.providers other) ≡ true → IsHeld l other
beside l fd e other a o h =
    let own = place_of l.providers fd.0 in
    let n = place_of l.providers other in
    let s = switch_number l.providers in
    let i : is_among (named l.providers (cells l) (call.TClose fd)) n ≡ true =
    ap (λ (x : Option Endpoint). is_among (own ∷ s ∷ of_some x (beside_close l.providers)) n) o ∙ later-among n own (s ∷ beside_close l.providers e) (later-among n s (beside_close l.providers e) h) in
    held-lent l n (place-below l.providers other) (named-lent l (named l.providers (cells l) (call.TClose fd)) n a i)

pub close-reaches : (l : Lending) (fd : Fd) → AllLent l (touched l.providers (cells l) (call.TClose fd)) → IfSome (endpoint l.providers (cells l) fd.0) (CanBreak l)
close-reaches l fd a = some-all (endpoint l.providers (cells l) fd.0) (λ e o.
    let peer = peer_cell l.providers e in
    let target = target_cell l.providers e in
    let callers = caller_cells l.providers e in
    record {
      peer = some-all e.peer (λ q i. let n = place_of l.providers q in beside l fd e q a o (among-first n (peer ++ target) callers (among-first n peer target (fd-among l.providers e.peer q i))));
      listener = some-all e.target (λ t i.
          let n = place_of l.providers t.listener in
          let k = fd-among l.providers (option_map (λ (x : Target). x.listener) e.target) t.listener (ap (option_map (λ (x : Target). x.listener)) i) in
          beside l fd e t.listener a o (among-first n (peer ++ target) callers (among-last n peer target k)));
    })

each-place : (p : Providers) (P : Indication → Type 0) (is : List Indication) → ((i : Indication) → is_among (map (λ (x : Indication). place_of p x.caller) is) (place_of p i.caller) ≡ true → P i) → AllByRecursion P is
each-place p P [] h = tt
each-place p P (i ∷ is) h =
    (h i (first-among (place_of p i.caller) (map (λ (x : Indication). place_of p x.caller) is)), each-place p P is (λ j k. h j (later-among (place_of p j.caller) (place_of p i.caller) (map (λ (x : Indication). place_of p x.caller) is) k)))

callers-step : (l : Lending) (fd : Fd) (o : Option Endpoint) → endpoint l.providers (cells l) fd.0 ≡ o → AllLent l (touched l.providers (cells l) (call.TClose fd)) → AllByRecursion (λ (i : Indication). IsHeld l i.caller) (unanswered o)
callers-step l fd None o a = tt
callers-step l fd (Some e) o a =
    each-place l.providers (λ (i : Indication). IsHeld l i.caller) (e.pending ++ e.outstanding)
    (λ i h. beside l fd e i.caller a o (among-last (place_of l.providers i.caller) (peer_cell l.providers e ++ target_cell l.providers e) (caller_cells l.providers e) h))

pub callers-reached : (l : Lending) (fd : Fd) → AllLent l (touched l.providers (cells l) (call.TClose fd)) → AllByRecursion (λ (i : Indication). IsHeld l i.caller) (unanswered_at l fd.0)
callers-reached l fd a = callers-step l fd (endpoint l.providers (cells l) fd.0) refl a

-- who is asked for a connection has none, and asks for none
some-length : {A : Type 0} (xs ys : List A) → (some_wait xs || some_wait ys) ≡ true → 0 < length xs + length ys
some-length [] [] e = cc
some-length [] (y ∷ ys) e = omega arith
some-length (x ∷ xs) ys e = omega arith

unlinked-by : (p : Option ℕ) (t : Option Target) (n : ℕ) → (eqb n 0 || (is_none p && is_none t)) ≡ true → 0 < n → (p ≡ None) × (t ≡ None)
unlinked-by None None n s lt = (refl, refl)
unlinked-by None (Some t) n s lt = let z : n ≡ 0 = grind (arith, nat_tests, s) in absurd (omega (arith, lt, z))
unlinked-by (Some q) t n s lt = let z : n ≡ 0 = grind (arith, nat_tests, s) in absurd (omega (arith, lt, z))

unlinked : (e : Endpoint) → is_sound e ≡ true → (some_wait e.pending || some_wait e.outstanding) ≡ true → (e.peer ≡ None) × (e.target ≡ None)
unlinked e s a = unlinked-by e.peer e.target (requests e) (last-true _ _ s) (some-length e.pending e.outstanding a)

pub callers-told : (l m : Lending) (fd : ℕ) (e : Endpoint) → endpoint l.providers (cells l) fd ≡ Some e → IsFit l → (some_wait e.pending || some_wait e.outstanding) ≡ true → Changed (map (Close.give_up_caller fd) (unanswered_at l fd)) l m
    → TellsOthers l m fd
callers-told l m fd e o fit a c =
    let u = unlinked e (sound-open l fd e fit o) a in
    let b : break fd e PEER_CLOSED [] ≡ [] = rw (u.0, u.1) refl in
    let k = rw o at c in
    rw o (subst (λ (cs : List Change). Changed (cs ++ map (Close.give_up_caller fd) (e.pending ++ e.outstanding)) l m) (sym b) k)

-- the endpoint is open
pub open-there : (r : Option (Bor Held)) (o : Option Endpoint) (b : Bool) → option_map parts (option_copied r) ≡ o → is_some r ≡ not b → b ≡ false → is_some o ≡ true
open-there None o true e n f = cc
open-there None o false e n f = cc
open-there (Some x) o b e n f = rw (← e) refl

-- its place is open still, as the switch knows it
pub known-still : (l m : Lending) (fd : ℕ) → IsFit l → is_some (endpoint l.providers (cells l) fd) ≡ true → SameCells l m → m.registry ≡ l.registry → IsKnownOpen m fd
known-still l m fd fit o s r = some-all m.registry (λ k e.
    subst (λ (p : Providers). (place_at k.switch (place_of p fd)).is_open ≡ true) (sym s.providers) (place-open l fd (place_of l.providers fd) k fit (sym r ∙ e) o refl))

close-by : (l m k : Lending) (fd : ℕ) (o : Option Endpoint) (a : Applied) → endpoint l.providers (cells l) fd ≡ o → is_some o ≡ true → TellsOthers l m fd → SameCells l m → Changed (Close.closing m.providers fd) m k → SameCells m k → IsDone k fd Plain a
    → AnswersBy (Close.plan l.providers (cells l) fd) l k a
close-by l m k fd None a eo i t s c r d = cc
close-by l m k fd (Some e) a eo i t s c r d =
    let told = break fd e PEER_CLOSED [] ++ map (Close.give_up_caller fd) (e.pending ++ e.outstanding) in
    let h : Changed told l m = rw eo at t in
    let g : Changed (Close.closing l.providers fd) m k = subst (λ (p : Providers). Changed (Close.closing p fd) m k) s.providers c in
    let x = changed-then l m k told (Close.closing l.providers fd) s h g in
    let q = r.providers ∙ s.providers in
    d ∙ (ap (λ (p : Providers). Some (made p fd (Done Plain) (cells k))) q ∙ (ap (λ (w : World). Some (made l.providers fd (Done Plain) w)) x ∙ sym (rw eo refl)))

pub closed : (l m k : Lending) (fd : ℕ) (a : Applied) → is_some (endpoint l.providers (cells l) fd) ≡ true → TellsOthers l m fd → SameCells l m → Changed (Close.closing m.providers fd) m k → SameCells m k → IsDone k fd Plain a
    → AnswersBy (Close.plan l.providers (cells l) fd) l k a
closed l m k fd a i t s c r d = close-by l m k fd (endpoint l.providers (cells l) fd) a refl i t s c r d
