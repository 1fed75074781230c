-- The cells that a call touches are lent.
use Rattle.std.proofs.Common.{◌≡◌, ℕ, ◌<◌, Bool, true, List, [], ◌∷◌, Option, Some, sym, ap, subst, ◌∙◌}
use Rattle.std.specs.Prelude.{is_some, option_to_list}
use Rattle.xti_base.specs.declared.kinds.Prov.{Prov}
use Rattle.xti_model.specs.declared.call.Call.{Call}
use Rattle.xti_model.specs.declared.call.Call.TheVariants as call
use Rattle.xti_model.specs.Touched.{named, touched}
use Rattle.xti_model.specs.Provider.{is_provider}
use Rattle.xti_model.specs.Switch.{free_place, if_provider}
use Rattle.xti_model.specs.World.{is_among, the_switch, places, switch_number}
use Rattle.xti_registry.specs.Known.{Known}
use Rattle.xti_lent.specs.Lending.{Lending, held_at, cells}
use Rattle.xti_lent.specs.Fit.{AllLent}
use Rattle.xti_lent.proofs.Lendings.{switch-is}
use Rattle.xti_lent.proofs.Named.{first-among, later-among, named-lent, held-lent, table-lent}

-- the switch is lent, where the call names it
pub switch-lent : (l : Lending) (c d : Call) → c ≡ d → AllLent l (touched l.providers (cells l) c) → is_among (named l.providers (cells l) d) (switch_number l.providers) ≡ true → is_some l.registry ≡ true
switch-lent l c d e a h = table-lent l (named-lent l (named l.providers (cells l) d) (switch_number l.providers) (subst (λ (x : Call). AllLent l (touched l.providers (cells l) x)) e a) h)

pub second-among : (m n : ℕ) (ns : List ℕ) → is_among (m ∷ n ∷ ns) n ≡ true
second-among m n ns = later-among n m (n ∷ ns) (first-among n ns)

named-opening : (s : ℕ) (b : Bool) (o : Option ℕ) (n : ℕ) → b ≡ true → o ≡ Some n → is_among (s ∷ option_to_list (if_provider b o)) n ≡ true
named-opening s b o n e f = rw (e, f) (second-among s n [])

-- the place that opens is lent
pub opening-lent : (l : Lending) (prov : Prov) (nonblock : Bool) (k : Known) (n : ℕ) → AllLent l (touched l.providers (cells l) (call.TOpen prov nonblock)) → l.registry ≡ Some k → is_provider prov ≡ true → Some n ≡ free_place l.providers k.switch → n < places l.providers
    → is_some (held_at l n) ≡ true
opening-lent l prov nonblock k n a ek e f lt =
    let o : free_place l.providers (the_switch l.providers (cells l)) ≡ Some n = ap (free_place l.providers) (switch-is l k ek) ∙ sym f in
    held-lent l n lt (named-lent l (named l.providers (cells l) (call.TOpen prov nonblock)) n a (named-opening (switch_number l.providers) (is_provider prov) (free_place l.providers (the_switch l.providers (cells l))) n e o))
