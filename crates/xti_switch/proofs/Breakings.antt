-- The peer and the listener hear one after the other.
use Rattle.std.proofs.Common.{◌≡◌, ℕ, ◌+◌, Bool, true, false, ◌&&◌, ◌||◌, eqb, cond, List, [], ◌∷◌, ◌++◌, length, Option, Some, None, IfSome, refl, sym, ap, ◌∙◌, subst, arith}
use Rattle.std.specs.Prelude.{is_some, is_none, option_map, option_and_then}
use Rattle.std.proofs.lemmas.Bool.{eqb-true}
use Rattle.std.proofs.lemmas.Bool.Decides.{nat_tests}
use Rattle.xti_base.specs.declared.kinds.Fd.{Fd}
use Rattle.xti_base.specs.declared.reasons.TheConstants.{REJECTED}
use Rattle.xti_model.specs.declared.profile.Providers.{Providers}
use Rattle.xti_model.specs.Calls.Disconnect.{reject}
use Rattle.xti_model.specs.Calls.Listen.{taken_out}
use Rattle.xti_model.specs.Endpoint.{Endpoint, Disconnect, Indication, Target, find_number}
use Rattle.xti_model.specs.Links.{at_linked, break, broken, names, take_back}
use Rattle.xti_model.specs.Sound.{is_sound, is_sound_body, requests}
use Rattle.xti_model.specs.World.{World, Change, endpoint, at_endpoint, generation_of, place_of}
use Rattle.xti_end.specs.Frames.{disconnect_in}
use Rattle.xti_end.specs.Held.{Held}
use Rattle.xti_lent.specs.Answers.{Changed}
use Rattle.xti_lent.specs.Fit.{IsFit, SameCells}
use Rattle.xti_lent.specs.Lending.{Lending, held_at, cells}
use Rattle.xti_lent.proofs.Agreeing.{sound-at}
use Rattle.xti_lent.proofs.Lendings.{endpoint-is, endpoint-not-lent}
use Rattle.xti_lent.proofs.Sequences.{changed-then, same-then}
use Rattle.xti_switch.specs.declared.notices.News.{News}
use Rattle.xti_switch.specs.declared.notices.News.TheVariants as news
use Rattle.xti_switch.specs.declared.notices.Notice.{Notice}
use Rattle.xti_switch.specs.Hearing.{Breaks, IsNotice, IsNoticeOf, IsReady, Silences, TakesRoom, concerns, heard, listener_news, peer_news, telling, telling_any}
use Rattle.xti_switch.proofs.Reaching.{some-all}

-- an open endpoint is sound
sound-by : (b : Bool) (o : Option Endpoint) (x : Endpoint) → cond b o None ≡ Some x → is_sound_body o ≡ true → is_sound x ≡ true
sound-by true o x e s = rw e at s
sound-by false o x e s = cc

sound-step : (l : Lending) (fd : ℕ) (x : Endpoint) (o : Option Held) → held_at l (place_of l.providers fd) ≡ o → IsFit l → endpoint l.providers (cells l) fd ≡ Some x → is_sound x ≡ true
sound-step l fd x None h fit e = let n = endpoint-not-lent l fd h in cc
sound-step l fd x (Some y) h fit e = sound-by (eqb y.generation (generation_of l.providers fd)) y.body x (sym (endpoint-is l fd y h) ∙ e) (sound-at l (place_of l.providers fd) y fit h)

pub sound-open : (l : Lending) (fd : ℕ) (x : Endpoint) → IsFit l → endpoint l.providers (cells l) fd ≡ Some x → is_sound x ≡ true
sound-open l fd x fit e = sound-step l fd x (held_at l (place_of l.providers fd)) refl fit e

-- with a peer it is asked for nothing
pub last-true : (a d : Bool) → (a && d) ≡ true → d ≡ true
last-true true d e = e
last-true false d e = cc

no-members : {A : Type 0} (xs : List A) → length xs ≡ 0 → xs ≡ []
no-members [] e = refl
no-members (x ∷ xs) e = absurd (omega (arith, e))

record Unasked (x : Endpoint) : Type 0 where
  pub pending : x.pending ≡ []
  pub outstanding : x.outstanding ≡ []

unasked-by : (x : Endpoint) (o : Option ℕ) (fd : ℕ) (t : Bool) → ((eqb (requests x) 0) || (is_none o && t)) ≡ true → names fd o ≡ true → Unasked x
unasked-by x None fd t s n = cc
unasked-by x (Some q) fd t s n =
    let z : length x.pending + length x.outstanding ≡ 0 = grind (arith, nat_tests, s) in
    record { pending = no-members x.pending (omega (arith, z)); outstanding = no-members x.outstanding (omega (arith, z)) }

linked-unasked : (x : Endpoint) (fd : ℕ) → is_sound x ≡ true → names fd x.peer ≡ true → Unasked x
linked-unasked x fd s n = unasked-by x x.peer fd (is_none x.target) (last-true _ _ s) n

-- whose connection broke is asked for nothing still
unasked-heard : (x : Endpoint) (fd : Fd) (d : Disconnect) → names fd.0 x.peer ≡ true → Unasked x → Unasked (heard (news.Broken fd) d x)
unasked-heard x fd d n u = rw n (record { pending = u.pending; outstanding = u.outstanding })

told-broken : (o : Option ℕ) (fd : Fd) (r : ℕ) (u : List ℕ) (n : Notice) → IsNoticeOf (option_map (λ (q : ℕ). (record { 0 = q }, news.Broken fd)) o) r u (Some n) → n.news ≡ news.Broken fd
told-broken None fd r u n i = absurd i
told-broken (Some q) fd r u n i = i.told

unconcerned : (o : Option Target) (r : ℕ) (u : List ℕ) (m : Notice) (x : Endpoint) → IsNoticeOf (option_map (λ (t : Target). (record { 0 = t.listener }, news.TakenBack (record { 0 = t.number }))) o) r u (Some m) → Unasked x → concerns m.news x ≡ false
unconcerned None r u m x i a = absurd i
unconcerned (Some t) r u m x i a = rw (i.told, a.pending, a.outstanding) refl

silence : (l k : Lending) (fd : Fd) (e : Endpoint) (r : ℕ) (u : List ℕ) (n m : Notice) → IsFit l → TakesRoom l k → IsNoticeOf (peer_news fd e) r u (Some n) → IsNoticeOf (listener_news e) r u (Some m) → Silences k n m
silence l k fd e r u n m fit t i j = some-all (endpoint k.providers (cells k) n.to.0) (λ x o c.
    let w : endpoint l.providers (cells l) n.to.0 ≡ Some x = ap (λ (q : Providers). endpoint q (cells l) n.to.0) (sym t.kept.providers) ∙ (ap (λ (v : World). endpoint k.providers v n.to.0) (sym t.unchanged) ∙ o) in
    let b : n.news ≡ news.Broken fd = told-broken e.peer fd r u n i in
    let y : names fd.0 x.peer ≡ true = rw b at c in
    let a = unasked-heard x fd (disconnect_in n.frame) y (linked-unasked x fd.0 (sound-open l n.to.0 x fit w) y) in
    rw b (unconcerned e.target r u m (heard (news.Broken fd) (disconnect_in n.frame) x) j a))

later-ready : (l k g : Lending) (fd : Fd) (e : Endpoint) (r : ℕ) (u : List ℕ) (o q : Option Notice) → IsFit l → TakesRoom l k → IsNoticeOf (peer_news fd e) r u o → IsNoticeOf (listener_news e) r u q
    → ((m : Notice) → IfSome o (λ n. Silences k n m) → IsReady k m → IsReady g m) → IfSome q (IsReady k) → IfSome q (IsReady g)
later-ready l k g fd e r u o None fit t i j h s = tt
later-ready l k g fd e r u None (Some m) fit t i j h s = h m tt s
later-ready l k g fd e r u (Some n) (Some m) fit t i j h s = h m (silence l k fd e r u n m fit t i j) s

-- the listener's notice is ready once the peer was told
pub listener-ready : (l k g : Lending) (fd : Fd) (e : Endpoint) (r : ℕ) (u : List ℕ) (a b : Option (Fd × News)) (o q : Option Notice) → a ≡ peer_news fd e → b ≡ listener_news e → IsFit l → TakesRoom l k → IsNoticeOf a r u o → IsNoticeOf b r u q
    → ((m : Notice) → IfSome o (λ n. Silences k n m) → IsReady k m → IsReady g m) → IfSome q (IsReady k) → IfSome q (IsReady g)
listener-ready l k g fd e r u a b o q ea eb fit t i j h s =
    later-ready l k g fd e r u o q fit t (subst (λ (x : Option (Fd × News)). IsNoticeOf x r u o) ea i) (subst (λ (x : Option (Fd × News)). IsNoticeOf x r u q) eb j) h s

-- what the two notices change
peer-told : (o : Option ℕ) (fd : Fd) (r : ℕ) (u : List ℕ) (n : Option Notice) → IsNoticeOf (option_map (λ (q : ℕ). (record { 0 = q }, news.Broken fd)) o) r u n → telling_any n ≡ at_linked fd.0 o (broken r u)
peer-told None fd r u None i = refl
peer-told None fd r u (Some n) i = absurd i
peer-told (Some q) fd r u None i = absurd i
peer-told (Some q) fd r u (Some n) i = rw (i.receiver, i.told, i.disconnect) refl

listener-told : (o : Option Target) (r : ℕ) (u : List ℕ) (n : Option Notice) → IsNoticeOf (option_map (λ (t : Target). (record { 0 = t.listener }, news.TakenBack (record { 0 = t.number }))) o) r u n → telling_any n ≡ take_back o r u
listener-told None r u None i = refl
listener-told None r u (Some n) i = absurd i
listener-told (Some t) r u None i = absurd i
listener-told (Some t) r u (Some n) i = rw (i.receiver, i.told, i.disconnect) refl

pub broken-off : (l k g m : Lending) (fd : Fd) (e : Endpoint) (r : ℕ) (u : List ℕ) (a b : Option (Fd × News)) (o q : Option Notice) → endpoint l.providers (cells l) fd.0 ≡ Some e → a ≡ peer_news fd e → b ≡ listener_news e
    → TakesRoom l k → IsNoticeOf a r u o → IsNoticeOf b r u q → SameCells k g → Changed (telling_any o) k g → Changed (telling_any q) g m → Breaks l m fd.0 r u
broken-off l k g m fd e r u a b o q w ea eb t i j s c d =
    let x = changed-then l k g [] (telling_any o) t.kept t.unchanged c in
    let y = changed-then l g m (telling_any o) (telling_any q) (same-then l k g t.kept s) x d in
    let v : telling_any o ++ telling_any q ≡ break fd.0 e r u =
    ap (λ (z : List Change). z ++ telling_any q) (peer-told e.peer fd r u o (subst (λ (z : Option (Fd × News)). IsNoticeOf z r u o) ea i))
    ∙ ap (λ (z : List Change). at_linked fd.0 e.peer (broken r u) ++ z) (listener-told e.target r u q (subst (λ (z : Option (Fd × News)). IsNoticeOf z r u q) eb j)) in
    rw w (subst (λ (z : List Change). Changed z l m) v y)

-- a request is rejected
found-number : (n : ℕ) (is : List Indication) (i : Indication) → find_number n is ≡ Some i → i.number ≡ n
found-number n [] i e = cc
found-number n (x ∷ is) i e = go (eqb x.number n) refl e (found-number n is i)
  where
    go : (b : Bool) → eqb x.number n ≡ b → cond b (Some x) (find_number n is) ≡ Some i → (find_number n is ≡ Some i → i.number ≡ n) → i.number ≡ n
    go true t s k = let q : x ≡ i = cc in rw (← q) (eqb-true x.number n t)
    go false t s k = k s

abbrev outstanding_at : ℕ → Option Endpoint → Option Indication
outstanding_at n w = option_and_then (λ (e : Endpoint). find_number n e.outstanding) w

found-there : (n : ℕ) (w : Option Endpoint) (i : Indication) → outstanding_at n w ≡ Some i → i.number ≡ n
found-there n None i e = cc
found-there n (Some x) i e = found-number n x.outstanding i e

rejecting-step : (l k g m : Lending) (fd n : ℕ) (u : List ℕ) (to : Fd) (a : Notice) (i : Indication) → i.number ≡ n → to.0 ≡ i.caller → TakesRoom l k → SameCells k g → IsNotice to news.Rejected REJECTED u a
    → Changed (at_endpoint fd (taken_out n) ∷ []) k g → Changed (telling a ∷ []) g m → Changed (reject fd u (Some i)) l m
rejecting-step l k g m fd n u to a i en ec t s h c d =
    let x = changed-then l k g [] (at_endpoint fd (taken_out n) ∷ []) t.kept t.unchanged c in
    let y = changed-then l g m (at_endpoint fd (taken_out n) ∷ []) (telling a ∷ []) (same-then l k g t.kept s) x d in
    let v : (at_endpoint fd (taken_out n) ∷ telling a ∷ []) ≡ reject fd u (Some i) = rw (en, h.receiver, h.told, h.disconnect, ec) refl in
    subst (λ (z : List Change). Changed z l m) v y

pub rejecting : (l k g m : Lending) (fd n : ℕ) (u : List ℕ) (to : Fd) (a : Notice) (w : Option Endpoint) (o : Option Indication) → o ≡ outstanding_at n w → is_some o ≡ true → Some to.0 ≡ option_map (λ (i : Indication). i.caller) o
    → TakesRoom l k → SameCells k g → IsNotice to news.Rejected REJECTED u a → Changed (at_endpoint fd (taken_out n) ∷ []) k g → Changed (telling a ∷ []) g m → Changed (reject fd u o) l m
rejecting l k g m fd n u to a w None eo is ec t s h c d = cc
rejecting l k g m fd n u to a w (Some i) eo is ec t s h c d = let q : to.0 ≡ i.caller = cc in rejecting-step l k g m fd n u to a i (found-there n w i (sym eo)) q t s h c d
