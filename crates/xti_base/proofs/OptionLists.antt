-- Reading a list of options, one option after the other.
use Rattle.std.proofs.Common.{◌≡◌, ◌≤◌, ◌<◌, ◌+◌, ◌&&◌, ◌==◌, ◌∙◌, sym, ℕ, zero, suc, List, [], ◌∷◌, length, true, false, Bool, refl, ap, arith, is_some, nat_le, length-drop, option_map, Option, None, Some, slice_range}
use Rattle.std.proofs.lemmas.Bool.{and_parts}
use Rattle.std.proofs.lemmas.Bool.Decides.{Decides-eqb, nat_tests}
use Rattle.xti_base.specs.Options.{front_size, front_length, filling, are_zero, begins_option, behind_option, front_option, options_within, is_option_list}
use Rattle.xti_base.specs.declared.options.Opt.{Opt}

at_most : (a b : ℕ) → nat_le a b ≡ true → a ≤ b
at_most a b h = grind (arith, nat_tests)

is_at_most : (a b : ℕ) → a ≤ b → nat_le a b ≡ true
is_at_most a b h = grind (arith, nat_tests)

least_sizes : (p n s size : ℕ) (zeros : Bool) → n ≤ s → (nat_le 16 p && nat_le 16 n && nat_le s size && zeros) ≡ true → (16 ≤ s) × (s ≤ size)
least_sizes p n s size zeros longer h =
    let parts = and_parts (nat_le 16 p && nat_le 16 n && nat_le s size) zeros h in
    let left = and_parts (nat_le 16 p && nat_le 16 n) (nat_le s size) parts.0 in
    let first = and_parts (nat_le 16 p) (nat_le 16 n) left.0 in
    let least : 16 ≤ n = at_most 16 n first.1 in
    (omega arith, at_most s size left.1)

-- an option takes 16 bytes at least, and they stand there
pub front_within : (bytes : List ℕ) → begins_option bytes ≡ true → (16 ≤ front_size bytes) × (front_size bytes ≤ length bytes)
unfolding begins_option
front_within bytes h = least_sizes (length bytes) (front_length bytes) (front_size bytes) (length bytes) _ (omega arith) h

sizes_met : (p n s size : ℕ) (zeros : Bool) → 16 ≤ p → 16 ≤ n → s ≤ size → (nat_le 16 p && nat_le 16 n && nat_le s size && zeros) ≡ zeros
sizes_met p n s size zeros h i j = rw (is_at_most 16 p h, is_at_most 16 n i, is_at_most s size j)

-- where the sizes are right, the filling bytes decide
pub zeros_decide : (bytes : List ℕ) (n : ℕ) → n ≡ front_length bytes → 16 ≤ length bytes → 16 ≤ n → n + filling n ≤ length bytes
    → begins_option bytes ≡ are_zero (slice_range bytes n (n + filling n))
unfolding begins_option
zeros_decide bytes n e h i j = rw (e) (sizes_met (length bytes) (front_length bytes) (front_size bytes) (length bytes) _ h (rw (← e) i) (rw (← e) j))

-- what is left after an option is shorter
pub behind_shorter : (bytes : List ℕ) → begins_option bytes ≡ true → length (behind_option bytes) < length bytes
behind_shorter bytes h = let sizes = front_within bytes h in omega (arith, sizes.0, sizes.1, length-drop (front_size bytes) bytes)

same_behind : (m n : ℕ) (b : ℕ) (bytes : List ℕ) → begins_option (b ∷ bytes) ≡ true →
    options_within m (behind_option (b ∷ bytes)) ≡ options_within n (behind_option (b ∷ bytes)) →
    options_within (suc m) (b ∷ bytes) ≡ options_within (suc n) (b ∷ bytes)
unfolding options_within
same_behind m n b bytes begins same = rw (begins, same, options_within)

stops : (m : ℕ) (b : ℕ) (bytes : List ℕ) → begins_option (b ∷ bytes) ≡ false → options_within m (b ∷ bytes) ≡ None
unfolding options_within
stops zero b bytes none = refl
stops (suc m) b bytes none = rw (none, options_within)

read_on : (m n : ℕ) (b : ℕ) (bytes : List ℕ) (begins : Bool) → begins_option (b ∷ bytes) ≡ begins →
    (begins_option (b ∷ bytes) ≡ true → options_within m (behind_option (b ∷ bytes)) ≡ options_within n (behind_option (b ∷ bytes))) →
    options_within (suc m) (b ∷ bytes) ≡ options_within (suc n) (b ∷ bytes)
read_on m n b bytes true e same = same_behind m n b bytes e (same e)
read_on m n b bytes false e same = stops (suc m) b bytes e ∙ sym (stops (suc n) b bytes e)

-- any bound that isn't below the number of the bytes reads the same
pub bound_enough : (m n : ℕ) (bytes : List ℕ) → length bytes ≤ m → length bytes ≤ n → options_within m bytes ≡ options_within n bytes
unfolding options_within
bound_enough m n [] p q = refl
bound_enough zero n (b ∷ bytes) p q = absurd (let no : ⊥ = omega arith in no)
bound_enough (suc m) zero (b ∷ bytes) p q = absurd (let no : ⊥ = omega arith in no)
bound_enough (suc m) (suc n) (b ∷ bytes) p q =
    read_on m n b bytes (begins_option (b ∷ bytes)) refl (λ begins.
    let shorter = behind_shorter (b ∷ bytes) begins in
    bound_enough m n (behind_option (b ∷ bytes)) (omega (arith, shorter)) (omega (arith, shorter)))

joined : (o : Option (List Opt)) (first : Opt) → is_some (option_map (λ rest. first ∷ rest) o) ≡ is_some o
joined None first = refl
joined (Some rest) first = refl

read_behind : (m : ℕ) (b : ℕ) (bytes : List ℕ) → begins_option (b ∷ bytes) ≡ true →
    is_some (options_within (suc m) (b ∷ bytes)) ≡ is_some (options_within m (behind_option (b ∷ bytes)))
unfolding options_within
read_behind m b bytes begins = rw (begins, options_within) (joined (options_within m (behind_option (b ∷ bytes))) (front_option (b ∷ bytes)))

-- after an option the rest decides
pub rest_decides : (bytes : List ℕ) → (length bytes == 0) ≡ false → begins_option bytes ≡ true → is_option_list (behind_option bytes) ≡ is_option_list bytes
unfolding is_option_list
rest_decides [] filled begins = cc
rest_decides (b ∷ bytes) filled begins =
    let shorter = behind_shorter (b ∷ bytes) begins in
    let same = bound_enough (length (behind_option (b ∷ bytes))) (length bytes) (behind_option (b ∷ bytes)) (omega arith) (omega (arith, shorter)) in
    ap is_some same ∙ sym (read_behind (length bytes) b bytes begins)

-- where no option begins and bytes are left, they are no list
pub no_option : (bytes : List ℕ) → (length bytes == 0) ≡ false → begins_option bytes ≡ false → is_option_list bytes ≡ false
unfolding is_option_list
no_option [] filled none = cc
no_option (b ∷ bytes) filled none = ap is_some (stops (length (b ∷ bytes)) b bytes none)

pub no_bytes : (bytes : List ℕ) → (length bytes == 0) ≡ true → is_option_list bytes ≡ true
unfolding is_option_list options_within
no_bytes [] e = refl
no_bytes (b ∷ bytes) e =
    let empty = (Decides-eqb (length (b ∷ bytes)) 0).0 e in
    absurd (let no : ⊥ = omega (arith, empty) in no)
