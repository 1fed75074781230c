-- The sockets of a copy stay in step while others make calls.
use Rattle.std.proofs.Common.{◌≡◌, ℕ, false, List, [], ◌∷◌, ◌++◌, refl, sym, ap, ◌∙◌, subst}
use Rattle.std.specs.Prelude.{flat_map, ◌||◌, None}
use Rattle.std.proofs.lemmas.List.Folds.{list_any-append}
use Rattle.std.proofs.Math.Bool.{or-false}
use Rattle.xti_base.specs.declared.kinds.Fd.{Fd}
use Rattle.xti_model.specs.declared.entry.Entry.{Entry}
use Rattle.xti_laws_streams.specs.Copying.{before, exchange, listener, client, receiver}
use Rattle.xti_copy.specs.Rides.{Ride}
use Rattle.xti_sock.specs.declared.sock.Sock.{Sock}
use Rattle.xti_sock.specs.Socks.{IsInStep, is_unreleased, spare_of, takes_release, was_released}
use Rattle.xti_copy.specs.Ends.{AreInStep, connected}
use Rattle.xti_copy.specs.Going.{IsAt}

unreleased-pieces : (fd : Fd) (ps : List (List ℕ)) → was_released fd (flat_map exchange ps) ≡ false
unreleased-pieces fd [] = refl
unreleased-pieces fd (p ∷ ps) = unreleased-pieces fd ps

-- between the pieces
pub connected-step : (ps : List (List ℕ)) (r : Ride) → IsAt (before ++ flat_map exchange ps) r → AreInStep connected r.entries
connected-step ps r at =
    subst (AreInStep connected) (sym at.entries)
    (record {
      listener = record { own = λ h. unreleased-pieces listener ps; spare = tt };
      client = record { own = λ h. unreleased-pieces client ps; spare = tt };
      receiver = record { own = λ h. unreleased-pieces receiver ps; spare = tt };
    })

-- after entries that take no release on its descriptor
pub step-more : (s : Sock) (mine tail : List Entry) (r : Ride) → IsAt (mine ++ tail) r → was_released s.fd tail ≡ false → spare_of s.phase ≡ None → IsInStep s mine → IsInStep s r.entries
step-more s mine tail r at none spare k =
    subst (IsInStep s) (sym at.entries)
    (record {
      own = λ h. list_any-append (takes_release s.fd) mine tail ∙ (ap (λ b. was_released s.fd mine || b) none ∙ (or-false (was_released s.fd mine) ∙ k.own h));
      spare = subst (λ o. is_unreleased o (mine ++ tail)) (sym spare) tt;
    })

pub step-of : (s k : Sock) (mine : List Entry) → s ≡ k → IsInStep s mine → IsInStep k mine
step-of s k mine e h = subst (λ (z : Sock). IsInStep z mine) e h

pub step-back : (s k : Sock) (mine : List Entry) → s ≡ k → IsInStep k mine → IsInStep s mine
step-back s k mine e h = subst (λ (z : Sock). IsInStep z mine) (sym e) h

-- the same of a socket that is in step with the entries before those
pub step-past : (s : Sock) (mine tail : List Entry) (r r' : Ride) → IsAt mine r → IsAt (mine ++ tail) r' → was_released s.fd tail ≡ false → spare_of s.phase ≡ None → IsInStep s r.entries → IsInStep s r'.entries
step-past s mine tail r r' at there none spare k = step-more s mine tail r' there none spare (subst (IsInStep s) at.entries k)

pub step-at : (s : Sock) (front : List Entry) (r : Ride) → IsAt front r → IsInStep s front → IsInStep s r.entries
step-at s front r at k = subst (IsInStep s) (sym at.entries) k
