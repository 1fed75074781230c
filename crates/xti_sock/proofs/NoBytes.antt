-- Where a stream is received, no bytes are answered only after a release.
use Rattle.std.proofs.Common.{ℕ, zero, suc, Bool, true, false, List, [], ◌∷◌, ◌++◌, Result, Ok, Err, ◌≡◌, ◌∙◌, ◌≤◌, refl, sym, ap, subst, eqb, cond}
use Rattle.std.proofs.lemmas.List.Folds.{list_any-append}
use Rattle.std.proofs.Math.Bool.{or-false, or-true}
use Rattle.std.specs.Prelude.{MatchResult, if◌then◌else◌}
use Rattle.xti_base.specs.declared.errno.Errno.TheVariants.{TNODATA}
use Rattle.xti_base.specs.declared.kinds.Event.TheVariants.{T_LISTEN, T_DISCONNECT, T_ORDREL}
use Rattle.xti_base.specs.declared.kinds.Fd.{Fd}
use Rattle.xti_base.specs.declared.kinds.Prov.TheVariants.{Ticotsord}
use Rattle.xti_model.specs.declared.call.Call.{Call}
use Rattle.xti_model.specs.declared.call.Call.TheVariants.{TRcv, TRcvRel}
use Rattle.xti_model.specs.declared.entry.Entry.{Entry}
use Rattle.xti_model.specs.declared.entry.Go.TheVariants as go
use Rattle.xti_model.specs.declared.entry.Outcome.TheVariants as outcome
use Rattle.xti_model.specs.declared.entry.Reply.{Reply}
use Rattle.xti_model.specs.declared.entry.Reply.TheVariants as reply
use Rattle.xti_model.specs.Arguments.{is_expedited}
use Rattle.xti_model.specs.History.{Legal, after, own}
use Rattle.xti_model.specs.Provider.{is_stream}
use Rattle.xti_model.specs.SentBytes.{AllSendBytes}
use Rattle.xti_model.specs.World.{opening}
use Rattle.xti_laws.proofs.FewEndsHistories.{after-symbols}
use Rattle.xti_sock.specs.Sights.{Sight}
use Rattle.xti_sock.specs.SightSteps.{AreSteps, Answered}
use Rattle.xti_sock.specs.declared.caller.CallEnd.{CallEnd}
use Rattle.xti_sock.specs.declared.fail.SockFail.{SockFail}
use Rattle.xti_sock.specs.declared.heard.Heard.{Heard}
use Rattle.xti_sock.specs.declared.heard.Heard.TheVariants.{Done, Got, Urgent, Broken, Disconnect, Release}
use Rattle.xti_sock.specs.declared.limits.TheConstants.{MOST_TURNS}
use Rattle.xti_sock.specs.declared.phase.Phase.{Phase}
use Rattle.xti_sock.specs.declared.phase.Phase.TheVariants as phase
use Rattle.xti_sock.specs.declared.sock.Sock.{Sock}
use Rattle.xti_sock.specs.Calling.{Halted}
use Rattle.xti_sock.specs.Rows.{fail_of, sock_after, stops, on_disconnect, reset, with_end, on_release, release, on_recv, recv, recv_in, recv_turn, recv_turns}
use Rattle.xti_sock.specs.Scripts.{Answer, Script, gives, Asked, Runs, heard_in, heard_of, octets}
use Rattle.xti_sock.specs.Socks.{IsInStep, was_released}
use Rattle.xti_sock.specs.Streams.{IsStreamOf, opens_at, was_opened}
use Rattle.xti_sock.proofs.Entries.{adds}
use Rattle.xti_sock.proofs.InStep.{released-release}
use Rattle.xti_sock.proofs.KeptAt.{OfKinds}
use Rattle.xti_sock.proofs.OpenedAs.{opened-prov}
use Rattle.xti_sock.proofs.OpenedOnce.{either, fits-begun, front-legal, last-fits}
use Rattle.xti_sock.proofs.Received.{got-some}

-- ---- one receive

-- no bytes are heard of a receive's answer alone, which isn't expedited
pub record GotNone (r : Reply) : Type 0 where
  pub flags : ℕ
  pub is : r ≡ reply.Got [] flags
  pub plain : is_expedited flags ≡ false

none-reply : (r : Reply) → Got [] ≡ heard_of r → GotNone r
none-reply (reply.Got bytes flags) h = by (is_expedited flags) refl h
  where
    by : (b : Bool) → is_expedited flags ≡ b → Got [] ≡ (if b then Urgent else Got bytes) → GotNone (reply.Got bytes flags)
    by true i k = absurd (cc k)
    by false i k =
        let same : bytes ≡ [] = cc k in
        record { flags = flags; is = ap (λ (l : List ℕ). reply.Got l flags) same; plain = i }
none-reply (reply.Look T_DISCONNECT) h = absurd (cc h)
none-reply (reply.Look T_ORDREL) h = absurd (cc h)
none-reply (reply.Look T_LISTEN) h = absurd (cc h)
none-reply (reply.Look e) h = absurd (cc h)
none-reply (reply.Refused TNODATA) h = absurd (cc h)
none-reply (reply.Refused e) h = absurd (cc h)
none-reply r h = absurd (cc h)

front-bytes : (es : List Entry) (e : Entry) → AllSendBytes (es ++ e ∷ []) → AllSendBytes es
front-bytes [] e h = tt
front-bytes (x ∷ es) e h = (h.0, front-bytes es e h.1)

own-unopened : (fd : Fd) (n : ℕ) (es : List Entry) → was_opened fd es ≡ false → was_opened fd (own es n) ≡ false
own-unopened fd n [] h = refl
own-unopened fd n (e ∷ es) h =
    let r = either (opens_at fd e) (was_opened fd es) h in
    by (eqb e.worker n) r.0 (own-unopened fd n es r.1)
  where
    by : (b : Bool) → opens_at fd e ≡ false → was_opened fd (own es n) ≡ false → was_opened fd (cond b (e ∷ own es n) (own es n)) ≡ false
    by true i k = rw (i, k) refl
    by false i k = k

-- what a caller opened was opened
own-opened : (fd : Fd) (n : ℕ) (es : List Entry) → was_opened fd (own es n) ≡ true → was_opened fd es ≡ true
own-opened fd n es h = by (was_opened fd es) refl
  where
    by : (b : Bool) → was_opened fd es ≡ b → b ≡ true
    by true i = refl
    by false i = absurd (cc (own-unopened fd n es i, h))

stream-got : OfKinds → (u v : Sight) (fd : Fd) (max : ℕ) → 1 ≤ max → IsStreamOf u fd → Asked u (TRcv fd max) (Got []) v → ⊥
stream-got kinds u v fd max m x a = by-answer a.answer a.made.made a.heard
  where
    by-answer : (r : Result Reply CallEnd) → MatchResult r (Answered (TRcv fd max) u v) (Halted (TRcv fd max) u v) → Got [] ≡ heard_in r → ⊥
    by-answer (Err e) k q = absurd (cc q)
    by-answer (Ok r) k q =
        let p = v.providers in
        let parts = k.are_parts.none refl in
        let begun = (subst (λ (es : List Entry). AreSteps (TRcv fd max) go.Begin (es ++ k.last ∷ [])) parts k.steps).0 in
        let mine = subst (λ (es : List Entry). v.mine ≡ u.mine ++ (es ++ k.last ∷ [])) parts k.mine in
        let told = none-reply r q in
        let legal = subst (Legal p) k.ends a.made.standing.legal in
        let bytes = front-bytes k.before k.last (subst AllSendBytes k.ends a.made.standing.bytes) in
        let own-mine : own (k.before ++ k.last ∷ []) v.number ≡ v.mine = ap (λ (es : List Entry). own es v.number) (sym k.ends) ∙ a.made.standing.mine in
        let in-mine : was_opened fd v.mine ≡ true = ap (was_opened fd) mine ∙ (list_any-append (opens_at fd) u.mine (k.last ∷ []) ∙ rw x.opened refl) in
        let in-seen : was_opened fd (k.before ++ k.last ∷ []) ≡ true = own-opened fd v.number (k.before ++ k.last ∷ []) (ap (was_opened fd) own-mine ∙ in-mine) in
        let before : was_opened fd k.before ≡ true = sym (or-false (was_opened fd k.before)) ∙ (sym (list_any-append (opens_at fd) k.before (k.last ∷ []) ∙ rw begun refl) ∙ in-seen) in
        let f = last-fits p (opening p) [] k.before k.last legal in
        let s = fits-begun p (after p k.before) f.0 k.last (TRcv fd max) begun f.1 in
        let legal-before = front-legal p (opening p) [] k.before k.last legal in
        got-some p (after p k.before) fd max s.0 told.flags m told.plain
        (λ e i. (after-symbols p k.before bytes fd.0 e i).stream (ap (is_stream p) (opened-prov kinds p k.before fd e a.made.standing.valid_providers legal-before before i) ∙ (ap (λ (z : _). is_stream z Ticotsord) a.made.later.providers ∙ x.stream)))
        s.1 (sym s.2 ∙ (k.outcome ∙ ap outcome.Done told.is))

-- a call leaves what was opened
stream-moved : (u v : Sight) (fd : Fd) (c : Call) (h : Heard) → Asked u c h v → IsStreamOf u fd → IsStreamOf v fd
stream-moved u v fd c h a x =
    let k = adds u v c h a in
    record {
      stream = ap (λ (z : _). is_stream z Ticotsord) a.made.later.providers ∙ x.stream;
      opened = ap (was_opened fd) k.mine ∙ (list_any-append (opens_at fd) u.mine k.added ∙ rw x.opened refl);
    }

-- ---- scripts that answer an error

abbrev Fails : Script → Type 0
Fails x = (u t : Sight) (a : Answer) (k : Sock) → Runs x u t a k → a ≡ Ok (octets []) → ⊥

gives-fails : (f : SockFail) (s : Sock) → Fails (gives (Err f) s)
gives-fails f s u t a k r e = absurd (cc (r.1, e))

stops-fails : (h : Heard) (s : Sock) → Fails (stops h s)
stops-fails h s = gives-fails (fail_of h) (sock_after h s)

disconnect-fails : (s : Sock) (h : Heard) → Fails (on_disconnect s h)
disconnect-fails s (Broken reason seq) = gives-fails _ _
disconnect-fails s h = stops-fails h s

reset-fails : (s : Sock) → Fails (reset s)
reset-fails s u t a k (h, v, asked, more) = disconnect-fails s h v t a k more

-- ---- receives

abbrev EndsThere : Sock → Script → Type 0
EndsThere s x = (u t : Sight) (a : Answer) (k : Sock) → IsStreamOf u s.fd → Runs x u t a k → a ≡ Ok (octets []) → was_released s.fd t.mine ≡ true

release-ends : (s : Sock) → EndsThere s (release (gives (Ok (octets [])) (with_end s)) s)
release-ends s u t a k x (h, v, asked, more) e = by-heard h asked more
  where
    by-heard : (h : Heard) → Asked u (TRcvRel s.fd) h v → Runs (on_release (gives (Ok (octets [])) (with_end s)) s h) v t a k → was_released s.fd t.mine ≡ true
    by-heard Done y r = ap (λ (z : Sight). was_released s.fd z.mine) r.0 ∙ (released-release s.fd u v Done y ∙ or-true (was_released s.fd u.mine))
    by-heard h y r = absurd (stops-fails h s v t a k r e)

turn-ends : OfKinds → (s : Sock) (max : ℕ) → 1 ≤ max → (again : Script) → EndsThere s again → EndsThere s (recv_turn s max again)
turn-ends kinds s max m again f u t a k x (h, v, asked, more) e = by-heard h asked more
  where
    by-heard : (h : Heard) → Asked u (TRcv s.fd max) h v → Runs (on_recv again s h) v t a k → was_released s.fd t.mine ≡ true
    by-heard (Got bytes) y r =
        let none : bytes ≡ [] = cc (r.1, e) in
        absurd (stream-got kinds u v s.fd max m x (subst (λ (l : List ℕ). Asked u (TRcv s.fd max) (Got l) v) none y))
    by-heard Urgent y r = f v t a k (stream-moved u v s.fd (TRcv s.fd max) Urgent y x) r e
    by-heard Disconnect y r = absurd (reset-fails s v t a k r e)
    by-heard Release y r = release-ends s v t a k (stream-moved u v s.fd (TRcv s.fd max) Release y x) r e
    by-heard h y r = absurd (stops-fails h s v t a k r e)

turns-end : OfKinds → (n : ℕ) (s : Sock) (max : ℕ) → 1 ≤ max → EndsThere s (recv_turns n s max)
unfolding recv_turns
turns-end kinds zero s max m u t a k x r e = absurd (gives-fails _ s u t a k r e)
turns-end kinds (suc n) s max m u t a k x r e = turn-ends kinds s max m (recv_turns n s max) (turns-end kinds n s max m) u t a k x r e

pub recv-none : OfKinds → (s : Sock) (max : ℕ) → 1 ≤ max → (u t : Sight) (a : Answer) (k : Sock) → IsInStep s u.mine → Runs (recv s max) u t a k → IsStreamOf u s.fd → a ≡ Ok (octets []) → was_released s.fd t.mine ≡ true
recv-none kinds s max m u t a k i r x e = by-phase s.phase refl r
  where
    by-phase : (q : Phase) → s.phase ≡ q → Runs (recv_in q s max) u t a k → was_released s.fd t.mine ≡ true
    by-phase (phase.Open shut false) p y = turns-end kinds MOST_TURNS s max m u t a k x y e
    by-phase (phase.Open shut true) p y = ap (λ (z : Sight). was_released s.fd z.mine) y.0 ∙ (i.own (rw p refl) ∙ rw p refl)
    by-phase q p y = absurd (gives-fails _ s u t a k y e)
