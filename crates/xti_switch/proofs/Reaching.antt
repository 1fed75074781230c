-- The places of those that hear of a disconnect or a close are lent.
use Rattle.std.proofs.Common.{◌≡◌, ℕ, Bool, true, false, ◌||◌, List, [], ◌∷◌, ◌++◌, Option, Some, None, IfSome, refl, sym, ap, ◌∙◌, subst}
use Rattle.std.specs.Prelude.{is_some, option_map, option_and_then}
use Rattle.xti_base.specs.declared.kinds.Fd.{Fd}
use Rattle.xti_base.specs.declared.kinds.Seq.{Seq}
use Rattle.xti_model.specs.declared.call.Call.TheVariants as call
use Rattle.xti_model.specs.declared.profile.Providers.{Providers}
use Rattle.xti_model.specs.Endpoint.{Endpoint, Indication, Target, find_number}
use Rattle.xti_model.specs.Touched.{named, touched, cell_of, of_some, peer_cell, target_cell, caller_cell}
use Rattle.xti_model.specs.World.{is_among, place_of, endpoint}
use Rattle.xti_lent.specs.Lending.{Lending, held_at, cells}
use Rattle.xti_lent.specs.Lends.{IsHeld}
use Rattle.xti_lent.specs.Fit.{AllLent, SameCells}
use Rattle.xti_lent.proofs.Places.{place-below}
use Rattle.xti_lent.proofs.Named.{first-among, later-among, named-lent, held-lent, or-right}
use Rattle.xti_lent.proofs.Written.{still-held}
use Rattle.xti_switch.specs.Hearing.{CanBreak, listener_news}
use Rattle.xti_switch.specs.Disconnects.{asked}

pub some-all : {A : Type 0} {P : A → Type 0} (o : Option A) → ((x : A) → o ≡ Some x → P x) → IfSome o P
some-all None h = tt
some-all (Some x) h = h x refl

pub of-some : {A : Type 0} (P : A → Type 0) (o : Option A) (x : A) → o ≡ Some x → IfSome o P → P x
of-some P None x e p = cc
of-some P (Some y) x e p = let q : y ≡ x = cc in subst P q p

or-left : (a b : Bool) → a ≡ true → (a || b) ≡ true
or-left true b e = refl
or-left false b e = cc

or-same : (a b c : Bool) → ((a || b) || c) ≡ (a || (b || c))
or-same true b c = refl
or-same false b c = refl

among-append : (n : ℕ) (ms ns : List ℕ) → is_among (ms ++ ns) n ≡ (is_among ms n || is_among ns n)
among-append n [] ns = refl
among-append n (m ∷ ms) ns = rw (among-append n ms ns) (sym (or-same _ (is_among ms n) (is_among ns n)))

pub among-first : (n : ℕ) (ms ns : List ℕ) → is_among ms n ≡ true → is_among (ms ++ ns) n ≡ true
among-first n ms ns e = among-append n ms ns ∙ or-left (is_among ms n) (is_among ns n) e

pub among-last : (n : ℕ) (ms ns : List ℕ) → is_among ns n ≡ true → is_among (ms ++ ns) n ≡ true
among-last n ms ns e = among-append n ms ns ∙ or-right (is_among ms n) (is_among ns n) e

-- the cell of a descriptor that is named
pub fd-among : (p : Providers) (o : Option ℕ) (fd : ℕ) → o ≡ Some fd → is_among (cell_of p o) (place_of p fd) ≡ true
fd-among p o fd e = rw e (first-among (place_of p fd) [])

-- the same place is lent still
pub held-kept : (l m : Lending) (fd : ℕ) → SameCells l m → IsHeld l fd → IsHeld m fd
held-kept l m fd s h = subst (λ (p : Providers). is_some (held_at m (place_of p fd)) ≡ true) (sym s.providers) (still-held l m (place_of l.providers fd) s ∙ h)

-- the cells beside that of the endpoint that disconnects
abbrev heard_by : Providers → ℕ → Endpoint → List ℕ
heard_by p number e = peer_cell p e ++ target_cell p e ++ caller_cell p number e

beside : (l : Lending) (fd : Fd) (seq : Seq) (udata : List ℕ) (e : Endpoint) (other : ℕ) → AllLent l (touched l.providers (cells l) (call.TSndDis fd seq udata)) → endpoint l.providers (cells l) fd.0 ≡ Some e
    → is_among (heard_by l.providers seq.0 e) (place_of l.providers other) ≡ true → IsHeld l other
beside l fd seq udata e other a o h =
    let own = place_of l.providers fd.0 in
    let n = place_of l.providers other in
    let i : is_among (named l.providers (cells l) (call.TSndDis fd seq udata)) n ≡ true = ap (λ (x : Option Endpoint). is_among (own ∷ of_some x (heard_by l.providers seq.0)) n) o ∙ later-among n own (heard_by l.providers seq.0 e) h in
    held-lent l n (place-below l.providers other) (named-lent l (named l.providers (cells l) (call.TSndDis fd seq udata)) n a i)

pub disconnect-reaches : (l : Lending) (fd : Fd) (seq : Seq) (udata : List ℕ) (e : Endpoint) → AllLent l (touched l.providers (cells l) (call.TSndDis fd seq udata)) → endpoint l.providers (cells l) fd.0 ≡ Some e
    → IfSome (endpoint l.providers (cells l) fd.0) (CanBreak l)
disconnect-reaches l fd seq udata e a o =
    let peer = peer_cell l.providers e in
    let target = target_cell l.providers e in
    let caller = caller_cell l.providers seq.0 e in
    rw o (record {
      peer = some-all e.peer (λ q i. let n = place_of l.providers q in beside l fd seq udata e q a o (among-first n (peer ++ target) caller (among-first n peer target (fd-among l.providers e.peer q i))));
      listener = some-all e.target (λ t i.
          let n = place_of l.providers t.listener in
          let k = fd-among l.providers (option_map (λ (x : Target). x.listener) e.target) t.listener (ap (option_map (λ (x : Target). x.listener)) i) in
          beside l fd seq udata e t.listener a o (among-first n (peer ++ target) caller (among-last n peer target k)));
    })

pub rejection-reaches : (l : Lending) (fd : Fd) (seq : Seq) (udata : List ℕ) (e : Endpoint) → AllLent l (touched l.providers (cells l) (call.TSndDis fd seq udata)) → endpoint l.providers (cells l) fd.0 ≡ Some e
    → IfSome (asked l fd.0 seq.0) (λ i. IsHeld l i.caller)
rejection-reaches l fd seq udata e a o = some-all (asked l fd.0 seq.0) (λ i j.
    let f : find_number seq.0 e.outstanding ≡ Some i = sym (ap (option_and_then (λ (x : Endpoint). find_number seq.0 x.outstanding)) o) ∙ j in
    let n = place_of l.providers i.caller in
    beside l fd seq udata e i.caller a o
    (among-last n (peer_cell l.providers e ++ target_cell l.providers e) (caller_cell l.providers seq.0 e)
    (fd-among l.providers (option_map (λ (x : Indication). x.caller) (find_number seq.0 e.outstanding)) i.caller (ap (option_map (λ (x : Indication). x.caller)) f))))

listener-held : (l m : Lending) (o : Option Target) (e : Endpoint) → e.target ≡ o → SameCells l m → IfSome e.target (λ t. IsHeld l t.listener) → IfSome (listener_news e) (λ n. IsHeld m n.0.0)
listener-held l m None e q s h = rw q tt
listener-held l m (Some t) e q s h = let k = rw q at h in rw q (held-kept l m t.listener s k)

-- the listener of the open endpoint's request
pub listener-reached : (l m : Lending) (o : Option Endpoint) (e : Endpoint) → o ≡ Some e → SameCells l m → IfSome o (CanBreak l) → IfSome (listener_news e) (λ n. IsHeld m n.0.0)
listener-reached l m o e q s h = listener-held l m e.target e refl s (of-some (CanBreak l) o e q h).listener
