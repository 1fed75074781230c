-- A sound endpoint has a short address.
use Rattle.std.proofs.Common.{◌≡◌, ◌≤◌, ℕ, Bool, true, false, ◌&&◌, length, Option, Some, None, refl, arith}
use Rattle.std.specs.Prelude.{is_some}
use Rattle.std.proofs.lemmas.Bool.Decides.{nat_tests}
use Rattle.xti_base.specs.declared.limits.TheConstants.{MOST_ADDRESS}
use Rattle.xti_model.specs.Endpoint.{Endpoint, address_of}
use Rattle.xti_model.specs.Sound.{is_sound_body}
use Rattle.xti_end.specs.Held.{Held, is_open_as, parts, parts_of}
use Rattle.xti_lent.specs.Lending.{Lending, held_at}
use Rattle.xti_lent.specs.Fit.{IsFit}
use Rattle.xti_lent.proofs.Agreeing.{sound-at}

short-body : (o : Option Endpoint) → is_sound_body o ≡ true → is_some o ≡ true → length (address_of (parts_of o)) ≤ MOST_ADDRESS
short-body None s o = cc
short-body (Some e) s o = grind (arith, nat_tests, s)

first-true : (a b c : Bool) → ((a && b) && c) ≡ true → a ≡ true
first-true true b c e = refl
first-true false b c e = cc

pub short-source : (l : Lending) (n fd : ℕ) (h : Held) → IsFit l → held_at l n ≡ Some h → is_open_as l.providers fd h ≡ true → length (address_of (parts h)) ≤ MOST_ADDRESS
short-source l n fd h f e o = short-body h.body (sound-at l n h f e) (first-true (is_some h.body) _ _ o)
