-- A socket whose descriptor was just opened is in step.
use Rattle.std.proofs.Common.{◌≡◌, ◌∙◌, Bool, true, false, List, [], ◌∷◌, ◌++◌, Result, Ok, Err, refl, sym, ap, subst}
use Rattle.std.specs.Prelude.{IfOk, MatchResult, if◌then◌else◌}
use Rattle.xti_base.specs.declared.errno.Errno.TheVariants.{TNODATA}
use Rattle.xti_base.specs.declared.kinds.Event.TheVariants.{T_LISTEN, T_DISCONNECT, T_ORDREL}
use Rattle.xti_base.specs.declared.kinds.Fd.{Fd}
use Rattle.xti_base.specs.declared.kinds.Prov.TheVariants.{Ticotsord}
use Rattle.xti_model.specs.declared.call.Call.TheVariants.{TOpen}
use Rattle.xti_model.specs.declared.entry.Entry.{Entry}
use Rattle.xti_model.specs.declared.entry.Go.TheVariants as go
use Rattle.xti_model.specs.declared.entry.Outcome.TheVariants.{Done}
use Rattle.xti_model.specs.declared.entry.Reply.{Reply}
use Rattle.xti_model.specs.declared.entry.Reply.TheVariants as reply
use Rattle.xti_model.specs.History.{Legal, own}
use Rattle.xti_model.specs.Arguments.{is_expedited}
use Rattle.xti_sock.specs.Sights.{Sight}
use Rattle.xti_sock.specs.SightSteps.{AreSteps, Answered}
use Rattle.xti_sock.specs.declared.caller.CallEnd.{CallEnd}
use Rattle.xti_sock.specs.declared.fail.SockFail.{SockFail}
use Rattle.xti_sock.specs.declared.heard.Heard.{Heard}
use Rattle.xti_sock.specs.declared.heard.Heard.TheVariants.{Opened, Got, Urgent}
use Rattle.xti_sock.specs.declared.sock.Sock.{Sock}
use Rattle.xti_sock.specs.Calling.{Halted}
use Rattle.xti_sock.specs.Rows.{OpensOne, opened}
use Rattle.xti_sock.specs.Scripts.{Asked, heard_in, heard_of}
use Rattle.xti_sock.specs.Socks.{IsInStep, was_released}
use Rattle.xti_sock.proofs.KeptAt.{OfKinds}
use Rattle.xti_sock.proofs.OpenedOnce.{own-once}

-- a new descriptor is heard of an open's answer alone
opened-reply : (r : Reply) (fd : Fd) → Opened fd ≡ heard_of r → r ≡ reply.Opened fd
opened-reply (reply.Opened other) fd h = cc h
opened-reply (reply.Got bytes flags) fd h = by (is_expedited flags) h
  where
    by : (b : Bool) → Opened fd ≡ (if b then Urgent else Got bytes) → reply.Got bytes flags ≡ reply.Opened fd
    by true k = absurd (cc k)
    by false k = absurd (cc k)
opened-reply (reply.Look T_DISCONNECT) fd h = absurd (cc h)
opened-reply (reply.Look T_ORDREL) fd h = absurd (cc h)
opened-reply (reply.Look T_LISTEN) fd h = absurd (cc h)
opened-reply (reply.Look e) fd h = absurd (cc h)
opened-reply (reply.Refused TNODATA) fd h = absurd (cc h)
opened-reply (reply.Refused e) fd h = absurd (cc h)
opened-reply r fd h = absurd (cc h)

-- no release on it stands among the caller's entries
pub opened-unreleased : OfKinds → (nonblock : Bool) (s t : Sight) (fd : Fd) → Asked s (TOpen Ticotsord nonblock) (Opened fd) t → was_released fd t.mine ≡ false
opened-unreleased kinds nonblock s t fd a = by-answer a.answer a.made.made a.heard
  where
    by-answer : (r : Result Reply CallEnd) → MatchResult r (Answered (TOpen Ticotsord nonblock) s t) (Halted (TOpen Ticotsord nonblock) s t) → Opened fd ≡ heard_in r → was_released fd t.mine ≡ false
    by-answer (Ok r) k q =
        let none = k.are_parts.none refl in
        let begun = (subst (λ (es : List Entry). AreSteps (TOpen Ticotsord nonblock) go.Begin (es ++ k.last ∷ [])) none k.steps).0 in
        let told = k.outcome ∙ ap Done (opened-reply r fd q) in
        let legal = subst (Legal t.providers) k.ends a.made.standing.legal in
        subst (λ (es : List Entry). was_released fd es ≡ false) (ap (λ (es : List Entry). own es t.number) (sym k.ends) ∙ a.made.standing.mine)
        (own-once kinds t.providers k.before k.last t.number Ticotsord nonblock fd a.made.standing.valid_providers legal begun told)
    by-answer (Err e) k q = absurd (cc q)

pub socket-in-step : OfKinds → (nonblock : Bool) (s t : Sight) (r : Result Sock SockFail) → OpensOne nonblock s t r → IfOk r (λ k. IsInStep k t.mine)
socket-in-step kinds nonblock s t r o = subst (λ (x : Result Sock SockFail). IfOk x (λ k. IsInStep k t.mine)) (sym o.result_is) (by-heard o.heard o.asked)
  where
    by-heard : (h : Heard) → Asked s (TOpen Ticotsord nonblock) h t → IfOk (opened h) (λ k. IsInStep k t.mine)
    by-heard (Opened fd) a = record { own = λ l. opened-unreleased kinds nonblock s t fd a; spare = tt }
    by-heard h a = tt
