-- The first free address.
use Rattle.std.proofs.Common.{◌≡◌, ℕ, zero, suc, ◌+◌, Bool, true, false, refl, ap, add-one, List, []}
use Rattle.std.specs.Prelude.{is_some}
use Rattle.xti_base.specs.declared.kinds.Prov.{Prov}
use Rattle.xti_model.specs.World.{Switch, Binding}
use Rattle.xti_model.specs.Switch.{bound, numbered_address, free_address}

abbrev address_by : Switch → Prov → ℕ → ℕ → Bool → List ℕ
address_by s prov n more b = elim b [ true ↦ free_address s prov (n + 1) more | false ↦ numbered_address n ]

-- a number whose address is taken is passed over
pub free_step : (s : Switch) (prov : Prov) (n more left : ℕ) → more ≡ left + 1 → is_some (bound s prov (numbered_address n)) ≡ true → free_address s prov n more ≡ free_address s prov (n + 1) left
free_step s prov n more left h e = rw (h, add-one) (ap (address_by s prov n left) e)

-- the first number whose address isn't taken
pub free_found : (s : Switch) (prov : Prov) (n more left : ℕ) → more ≡ left + 1 → is_some (bound s prov (numbered_address n)) ≡ false → free_address s prov n more ≡ numbered_address n
free_found s prov n more left h e = rw (h, add-one) (ap (address_by s prov n left) e)

either : (s t : Switch) (prov : Prov) (n more : ℕ) (a b : Bool) → a ≡ b → free_address s prov (n + 1) more ≡ free_address t prov (n + 1) more → address_by s prov n more a ≡ address_by t prov n more b
either s t prov n more true true h later = later
either s t prov n more false false h later = refl
either s t prov n more true false h later = cc
either s t prov n more false true h later = cc

-- only the bindings count
pub free_same : (s t : Switch) (prov : Prov) (n more : ℕ) → s.bindings ≡ t.bindings → free_address s prov n more ≡ free_address t prov n more
free_same s t prov n zero e = refl
free_same s t prov n (suc more) e =
    either s t prov n more (is_some (bound s prov (numbered_address n))) (is_some (bound t prov (numbered_address n))) (ap (λ (bs : List Binding). is_some (bound (record { bindings = bs; places = [] }) prov (numbered_address n))) e) (free_same s t prov (n + 1) more e)
