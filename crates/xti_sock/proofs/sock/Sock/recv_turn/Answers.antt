use Rattle.std.proofs.Common.{◌≡◌, ℕ, List, [], Ok, Err, ap, refl, subst, sym}
use Rattle.xti_sock.specs.declared.fail.SockFail.{SockFail}
use Rattle.xti_sock.specs.declared.heard.Heard.{Heard}
use Rattle.xti_sock.specs.declared.heard.Heard.TheVariants.{Bound, Broken, Connected, Disconnect, Done, Ended, Got, Listen, Listened, Opened, Refused, Release, Sent, Unasked, Urgent, Waits}
use Rattle.xti_sock.specs.declared.sock.Sock.{Sock}
use Rattle.xti_sock.specs.Rows.{on_recv, stops, with_end}
use Rattle.xti_sock.specs.Scripts.{gives, octets, Runs, Script}
use Rattle.xti_sock.proofs.sock.Sock.recv_turn.Goals as goal

-- what no rule names ends the receive
ended : (again : Script) (s : Sock) (h : Heard) → ((bytes : List ℕ) → h ≡ Got bytes → ⊥) → (h ≡ Urgent → ⊥) → (h ≡ Disconnect → ⊥) → (h ≡ Release → ⊥) → on_recv again s h ≡ stops h s
ended again s (Got bytes) a b c d = absurd (a bytes refl)
ended again s Urgent a b c d = absurd (b refl)
ended again s Disconnect a b c d = absurd (c refl)
ended again s Release a b c d = absurd (d refl)
ended again s Done a b c d = refl
ended again s Bound a b c d = refl
ended again s Connected a b c d = refl
ended again s (Opened fd) a b c d = refl
ended again s (Listened seq) a b c d = refl
ended again s (Sent n) a b c d = refl
ended again s (Broken reason seq) a b c d = refl
ended again s Listen a b c d = refl
ended again s Waits a b c d = refl
ended again s (Refused errno) a b c d = refl
ended again s (Ended e) a b c d = refl
ended again s Unasked a b c d = refl

pub returns-in-Got : goal.returns-in-Got
returns-in-Got g c = record { made = λ again. (Got c.in-Got.bytes, _, c.in-Got.ensures.asked, (refl, refl, refl)) }

pub returns-in-Urgent : goal.returns-in-Urgent
returns-in-Urgent g c = record { made = (c.in-Urgent.ensures.asked, refl, c.in-Urgent.ensures.free) }

pub returns-in-Disconnect : goal.returns-in-Disconnect
returns-in-Disconnect g c = record { made = λ again. (Disconnect, _, c.in-Disconnect.ensures.asked, c.reset.ensures.made) }

pub returns-in-None : goal.returns-in-None
returns-in-None g c =
    let m = c.in-None.ensures.made in
    record { made = λ again. (Release, _, c.in-Release.ensures.asked, (Done, _, m.0, (refl, ap (λ (xs : List ℕ). Ok (octets xs)) c.new.ensures, m.1))) }

pub returns-in-Some : goal.returns-in-Some
returns-in-Some g c =
    record { made = λ again. (Release, _, c.in-Release.ensures.asked, c.in-Some.ensures.made (gives (Ok (octets [])) (with_end c.args.self.now))) }

pub returns-in_default : goal.returns-in_default
returns-in_default g c =
    let heard = c.ask.result in
    let u = g.C.Caller.sight c.ask.new.io in
    record {
      made = λ again. (
        heard,
        u,
        c.ask.ensures.asked,
        subst (λ (x : Script). Runs x u u (Err c.stop.result) c.stop.new.self)
            (sym (ended again c.args.self.now heard c.in_default.not-Got c.in_default.not-Urgent c.in_default.not-Disconnect c.in_default.not-Release))
            (refl, ap (λ (f : SockFail). Err f) c.stop.ensures.fail, c.stop.ensures.sock),
      );
    }
