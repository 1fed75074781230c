-- Sizes that no limit lets through.
use Rattle.std.proofs.Common.{◌≡◌, ◌≤◌, ◌<◌, ℕ, Bool, true, false, not, eqb, ltb, ◌&&◌, ◌||◌, List, length, refl, arith}
use Rattle.std.specs.Prelude.{min}
use Rattle.std.proofs.lemmas.Bool.Decides.{nat_tests}
use Rattle.xti_base.specs.declared.limits.TheConstants.{MOST_SEND}
use Rattle.xti_base.specs.declared.limit.Limit.{Limit}
use Rattle.xti_base.specs.declared.limit.Limit.TheVariants.{At, Infinite, Invalid}
use Rattle.xti_base.specs.declared.kinds.Prov.{Prov}
use Rattle.xti_base.specs.declared.kinds.Prov.TheVariants.{Ticots, Ticotsord, Ticlts, Other}
use Rattle.xti_lent.proofs.Joined.{most}
use Rattle.xti_model.specs.declared.profile.Providers.{Providers}
use Rattle.xti_model.specs.Profile.{valid, has_limit, valid_datagrams}
use Rattle.xti_model.specs.Provider.{profile, has_datagrams}
use Rattle.xti_model.specs.Calls.Datagrams.{is_over, is_bad_datagram}

pub capped-over : (limit m n : ℕ) → limit < 4294967296 → n ≡ min m most → ltb limit n ≡ ltb limit m
capped-over limit m n lt e = grind (arith, nat_tests)

pub capped-zero : (m n : ℕ) → n ≡ min m most → eqb n 0 ≡ eqb m 0
capped-zero m n e = grind (arith, nat_tests)

or-parts : (a b : Bool) → (a || b) ≡ false → (a ≡ false) × (b ≡ false)
or-parts true b e = cc
or-parts false b e = (refl, e)

and-left : (a b : Bool) → (a && b) ≡ true → a ≡ true
and-left true b e = refl
and-left false b e = cc

and-right : (a b : Bool) → (a && b) ≡ true → b ≡ true
and-right true b e = e
and-right false b e = cc

-- neither over the limit nor empty
pub plain : (t z o s : Bool) → t ≡ false → t ≡ z → false ≡ o → t ≡ (o || (z && s))
plain true z o s f e h = cc
plain false true o s f e h = cc
plain false false true s f e h = cc
plain false false false s f e h = refl

under-limit : (t : Limit) (n : ℕ) → has_limit t ≡ true → is_over t n ≡ false → n ≤ MOST_SEND
under-limit (At m) n h e = grind (arith, nat_tests, h, e)
under-limit Infinite n h e = cc
under-limit Invalid n h e = cc

has-limit : (p : Providers) → valid p ≡ true → has_limit p.ticlts.tsdu ≡ true
has-limit p v = and-right _ (has_limit p.ticlts.tsdu) (and-left _ (not p.ticlts.same_addr) (and-right _ (valid_datagrams p.ticlts) v))

pub small-datagram : (p : Providers) (prov : Prov) (bytes : List ℕ) → valid p ≡ true → not (has_datagrams prov) ≡ false → is_bad_datagram (profile p prov) bytes ≡ false → length bytes ≤ MOST_SEND
small-datagram p Ticots bytes v d b = cc
small-datagram p Ticotsord bytes v d b = cc
small-datagram p Other bytes v d b = cc
small-datagram p Ticlts bytes v d b = under-limit p.ticlts.tsdu (length bytes) (has-limit p v) (or-parts (is_over p.ticlts.tsdu (length bytes)) _ b).0
