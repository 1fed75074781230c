-- Places and descriptors, however many places there are.
use Rattle.std.proofs.Common.{◌≡◌, ℕ, ◌+◌, ◌*◌, ◌/◌, ◌%◌, ◌<◌, eqb, false, sym, ap, ◌∙◌, arith}
use Rattle.std.proofs.Math.Nat.{div-add-mod, mod-lt, mul_comm}
use Rattle.std.proofs.lemmas.Bool.{ne_eqb}
use Rattle.std.proofs.lemmas.Nat.{div-mul-add, mod-mul-add}
use Rattle.xti_model.specs.declared.profile.Providers.{Providers}
use Rattle.xti_model.proofs.PlaceNumbers.{two-places}
use Rattle.xti_model.specs.World.{places, place_of, generation_of, descriptor, switch_number}

pub some-places : (p : Providers) → 0 < places p
some-places p = omega (arith, two-places p)

pub apart : (m n : ℕ) → n < m → eqb n m ≡ false
apart m n h = ne_eqb n m (λ e. omega (arith, e, h))

-- no descriptor has the switch's number for its place
pub not-switch : (p : Providers) (fd : ℕ) → eqb (place_of p fd) (switch_number p) ≡ false
not-switch p fd = apart (places p) (place_of p fd) (mod-lt fd (some-places p))

pub row : (p : Providers) (g n : ℕ) → descriptor p g n ≡ g * places p + n
row p g n = ap (λ z. z + n) (mul_comm (places p) g)

-- the place and the generation of a descriptor
pub place-is : (p : Providers) (g n : ℕ) → n < places p → place_of p (descriptor p g n) ≡ n
place-is p g n h = ap (place_of p) (row p g n) ∙ mod-mul-add g (places p) n h

pub generation-is : (p : Providers) (g n : ℕ) → n < places p → generation_of p (descriptor p g n) ≡ g
generation-is p g n h = ap (generation_of p) (row p g n) ∙ div-mul-add g (places p) n h

-- they make the descriptor
pub descriptor-is : (p : Providers) (x g n : ℕ) → place_of p x ≡ n → generation_of p x ≡ g → x ≡ descriptor p g n
descriptor-is p x g n h k = sym (div-add-mod x (places p)) ∙ (ap (λ z. descriptor p z (place_of p x)) k ∙ ap (descriptor p g) h)

pub same-fd : (p : Providers) (x y : ℕ) → place_of p x ≡ place_of p y → generation_of p x ≡ generation_of p y → x ≡ y
same-fd p x y h k = descriptor-is p x (generation_of p y) (place_of p y) h k ∙ div-add-mod y (places p)
