-- What the parts of an endpoint stand for.
use Rattle.std.proofs.Common.{◌≡◌, ℕ, zero, suc, Bool, true, false, List, [], ◌∷◌, Option, Some, None, refl, ap}
use Rattle.std.specs.Prelude.{map, is_none, is_some, option_map, remove}
use Rattle.xti_model.specs.Endpoint.{Endpoint}
use Rattle.xti_model.specs.Events.{some_wait}
use Rattle.xti_model.specs.Calls.Datagrams.{first_of, has_rest, received}
use Rattle.xti_queue.specs.Indications.{begun, left_behind, symbols_of_all}
use Rattle.xti_queue.specs.Queue.{Queue, frames, symbols}
use Rattle.xti_end.specs.declared.parts.Parts.{Parts}
use Rattle.xti_end.specs.declared.parts.Waiting.{Waiting}
use Rattle.xti_end.specs.declared.indications.Ind.{Ind}
use Rattle.xti_end.specs.Frames.{datagram_of, error_in, disconnect_in, indication_of, AreDatagrams}
use Rattle.xti_end.specs.WaitingList.{WaitingList as Listed}
use Rattle.xti_end.specs.Held.{body_of, datagrams_at, normal_at, expedited_at, parts_of}
use Rattle.xti_end.proofs.Fronts.{first_in, left-is}

pub frames-none : (q : Queue) → q.pushed ≡ [] → frames q ≡ []
unfolding begun
frames-none q e = rw e refl

pub symbols-none : (q : Queue) → q.pushed ≡ [] → symbols q ≡ []
unfolding begun symbols_of_all
symbols-none q e = rw e refl

pub datagrams-at : (o : Option Parts) (w : Waiting) → (is_none o ≡ true → w.datagrams.pushed ≡ []) → map datagram_of (frames w.datagrams) ≡ datagrams_at (body_of o w)
datagrams-at None w h = rw (frames-none w.datagrams (h refl)) refl
datagrams-at (Some e) w h = refl

pub normal-at : (o : Option Parts) (w : Waiting) → (is_none o ≡ true → w.normal.pushed ≡ []) → symbols w.normal ≡ normal_at (body_of o w)
normal-at None w h = symbols-none w.normal (h refl)
normal-at (Some e) w h = refl

pub expedited-at : (o : Option Parts) (w : Waiting) → (is_none o ≡ true → w.expedited.pushed ≡ []) → symbols w.expedited ≡ expedited_at (body_of o w)
expedited-at None w h = symbols-none w.expedited (h refl)
expedited-at (Some e) w h = refl

pub closed-none : (o : Option Parts) (w : Waiting) → is_some (body_of o w) ≡ false → is_none o ≡ true
closed-none None w h = refl
closed-none (Some e) w h = cc

pub first-of : (o : Option Parts) (w : Waiting) → is_some (body_of o w) ≡ true → first_of (parts_of (body_of o w)) ≡ first_in w.datagrams.taken w.datagrams.pushed
first-of None w h = cc
first-of (Some e) w h = refl

pub wait-is : (o : Option Parts) (w : Waiting) → is_some (body_of o w) ≡ true → (parts_of (body_of o w)).datagrams ≡ map datagram_of (frames w.datagrams)
wait-is None w h = cc
wait-is (Some e) w h = refl

abbrev pub with_datagrams : Waiting → Queue → Waiting
with_datagrams w q = record w { datagrams = q }

-- a receive leaves the endpoint that the definitions say
left-by : (e : Parts) (w : Waiting) (r : Queue) (max : ℕ) (b : Bool) → AreDatagrams w.datagrams.pushed → some_wait (map datagram_of (frames w.datagrams)) ≡ true
    → has_rest max (first_in w.datagrams.taken w.datagrams.pushed) ≡ b → frames r ≡ left_behind max (frames w.datagrams)
    → option_map (λ (x : Endpoint). record x { begun = b }) (body_of (Some e) (with_datagrams w r)) ≡ option_map (received max) (body_of (Some e) w)
left-by e w r max true all s h f = rw (f, left-is max w.datagrams.taken w.datagrams.pushed true all s h, h) refl
left-by e w r max false all s h f = rw (f, left-is max w.datagrams.taken w.datagrams.pushed false all s h, h) refl

pub received-is : (o : Option Parts) (w : Waiting) (r : Queue) (max : ℕ) (b : Bool) → is_some (body_of o w) ≡ true → AreDatagrams w.datagrams.pushed
    → some_wait (map datagram_of (frames w.datagrams)) ≡ true → has_rest max (first_in w.datagrams.taken w.datagrams.pushed) ≡ b → frames r ≡ left_behind max (frames w.datagrams)
    → option_map (λ (x : Endpoint). record x { begun = b }) (body_of o (with_datagrams w r)) ≡ option_map (received max) (body_of o w)
received-is None w r max b o all s h f = cc
received-is (Some e) w r max b o all s h f = left-by e w r max b all s h f

pub map-removed : {A B : Type 0} (f : A → B) (xs : List A) (place : ℕ) → map f (remove xs place) ≡ remove (map f xs) place
map-removed f [] zero = refl
map-removed f [] (suc place) = refl
map-removed f (x ∷ xs) zero = refl
map-removed f (x ∷ xs) (suc place) = ap (λ ys. f x ∷ ys) (map-removed f xs place)

-- an error is taken out
pub error-removed : (o : Option Parts) (w : Waiting) (r : Listed (List ℕ)) (place : ℕ) → r.items ≡ remove w.datagram_errors.items place
    → body_of o (record w { datagram_errors = r }) ≡ option_map (λ (x : Endpoint). record x { datagram_errors = remove x.datagram_errors place }) (body_of o w)
error-removed None w r place h = refl
error-removed (Some e) w r place h = rw (h, map-removed error_in w.datagram_errors.items place) refl

-- a disconnect is taken out
pub disconnect-removed : (o : Option Parts) (w : Waiting) (r : Listed (List ℕ)) (place : ℕ) → r.items ≡ remove w.disconnects.items place
    → body_of o (record w { disconnects = r }) ≡ option_map (λ (x : Endpoint). record x { disconnects = remove x.disconnects place }) (body_of o w)
disconnect-removed None w r place h = refl
disconnect-removed (Some e) w r place h = rw (h, map-removed disconnect_in w.disconnects.items place) refl

-- a pending request is taken out
pub pending-removed : (o : Option Parts) (w : Waiting) (r : Listed Ind) (place : ℕ) → r.items ≡ remove w.pending.items place
    → body_of o (record w { pending = r }) ≡ option_map (λ (x : Endpoint). record x { pending = remove x.pending place }) (body_of o w)
pending-removed None w r place h = refl
pending-removed (Some e) w r place h = rw (h, map-removed indication_of w.pending.items place) refl

-- an outstanding request is taken out
pub outstanding-removed : (o : Option Parts) (w : Waiting) (r : Listed Ind) (place : ℕ) → r.items ≡ remove w.outstanding.items place
    → body_of o (record w { outstanding = r }) ≡ option_map (λ (x : Endpoint). record x { outstanding = remove x.outstanding place }) (body_of o w)
outstanding-removed None w r place h = refl
outstanding-removed (Some e) w r place h = rw (h, map-removed indication_of w.outstanding.items place) refl
