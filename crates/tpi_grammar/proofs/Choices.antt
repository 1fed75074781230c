-- Some row of a choice meets a range: by the rows, and by the kinds that they come from.
use Rattle.std.proofs.Common.{◌≡◌, ℕ, Bool, true, false, ◌&&◌, ◌||◌, List, [], ◌∷◌, map, find, option_map, Option, Some, cond, refl, ap}
use Rattle.std.specs.List.{list_any}
use Rattle.tpi_grammar.specs.Word.{meets, viable}
use Rattle.tpi_grammar.specs.Frame.{Row, Slot, left, has_part, is_part, first_row}
use Rattle.tpi_grammar.specs.declared.word.Range.{Range}

one_more : (f : Row → Range) (u x : ℕ) (r : Row) (rs : List Row) (t more : Bool) → viable (map f rs) u x ≡ more
    → viable (map f (cond t (r ∷ rs) rs)) u x ≡ ((t && meets u x (f r)) || more)
one_more f u x r rs true more e = ap (λ b. meets u x (f r) || b) e
one_more f u x r rs false more e = e

module _ {K : Type 0} (g : K → Row) where
  pub viable_map : (f : Row → Range) (u x : ℕ) (ks : List K) → viable (map f (map g ks)) u x ≡ list_any (λ k. meets u x (f (g k))) ks
  viable_map f u x [] = refl
  viable_map f u x (k ∷ ks) = ap (λ b. meets u x (f (g k)) || b) (viable_map f u x ks)

  pub viable_left : (q f : Row → Range) (n u x : ℕ) (ks : List K) → viable (map f (left q n (map g ks))) u x ≡ list_any (λ k. meets 1 n (q (g k)) && meets u x (f (g k))) ks
  viable_left q f n u x [] = refl
  viable_left q f n u x (k ∷ ks) = go (meets 1 n (q (g k))) (viable_left q f n u x ks)
    where
      go : (t : Bool) → viable (map f (left q n (map g ks))) u x ≡ list_any (λ k. meets 1 n (q (g k)) && meets u x (f (g k))) ks
          → viable (map f (cond t (g k ∷ left q n (map g ks)) (left q n (map g ks)))) u x
          ≡ ((t && meets u x (f (g k))) || list_any (λ k. meets 1 n (q (g k)) && meets u x (f (g k))) ks)
      go true e = ap (λ b. meets u x (f (g k)) || b) e
      go false e = e

  pub viable_left_twice : (p q f : Row → Range) (m n u x : ℕ) (ks : List K) → viable (map f (left q n (left p m (map g ks)))) u x
      ≡ list_any (λ k. (meets 1 m (p (g k)) && meets 1 n (q (g k))) && meets u x (f (g k))) ks
  viable_left_twice p q f m n u x [] = refl
  viable_left_twice p q f m n u x (k ∷ ks) = go (meets 1 m (p (g k))) (viable_left_twice p q f m n u x ks)
    where
      go : (s : Bool) → viable (map f (left q n (left p m (map g ks)))) u x ≡ list_any (λ k. (meets 1 m (p (g k)) && meets 1 n (q (g k))) && meets u x (f (g k))) ks
          → viable (map f (left q n (cond s (g k ∷ left p m (map g ks)) (left p m (map g ks))))) u x
          ≡ (((s && meets 1 n (q (g k))) && meets u x (f (g k))) || list_any (λ k. (meets 1 m (p (g k)) && meets 1 n (q (g k))) && meets u x (f (g k))) ks)
      go true e = one_more f u x (g k) (left q n (left p m (map g ks))) (meets 1 n (q (g k))) _ e
      go false e = e

pub any_map : {K : Type 0} (g : K → Slot) (ks : List K) → list_any (λ k. is_part (g k)) ks ≡ has_part (map g ks)
any_map g [] = refl
any_map g (k ∷ ks) = ap (λ b. is_part (g k) || b) (any_map g ks)

first_one : {K : Type 0} (g : K → Row) (k : K) (rs : List Row) (t : Bool) (o : Option K) → first_row rs ≡ option_map g o
    → first_row (cond t (g k ∷ rs) rs) ≡ option_map g (cond t (Some k) o)
first_one g k rs true o e = refl
first_one g k rs false o e = e

first_two : {K : Type 0} (g : K → Row) (r : Row → Range) (n : ℕ) (k : K) (rs : List Row) (t : Bool) (o : Option K) → first_row (left r n rs) ≡ option_map g o
    → first_row (left r n (cond t (g k ∷ rs) rs)) ≡ option_map g (cond (t && meets 1 n (r (g k))) (Some k) o)
first_two g r n k rs true o e = first_one g k (left r n rs) (meets 1 n (r (g k))) o e
first_two g r n k rs false o e = e

module _ {K : Type 0} (g : K → Row) where
  pub first_left : (p q r : Row → Range) (l m n : ℕ) (ks : List K) → first_row (left r n (left q m (left p l (map g ks))))
      ≡ option_map g (find (λ k. (meets 1 l (p (g k)) && meets 1 m (q (g k))) && meets 1 n (r (g k))) ks)
  first_left p q r l m n [] = refl
  first_left p q r l m n (k ∷ ks) = go (meets 1 l (p (g k))) (first_left p q r l m n ks)
    where
      go : (s : Bool) → first_row (left r n (left q m (left p l (map g ks)))) ≡ option_map g (find (λ k. (meets 1 l (p (g k)) && meets 1 m (q (g k))) && meets 1 n (r (g k))) ks)
          → first_row (left r n (left q m (cond s (g k ∷ left p l (map g ks)) (left p l (map g ks)))))
          ≡ option_map g (cond ((s && meets 1 m (q (g k))) && meets 1 n (r (g k))) (Some k) (find (λ k. (meets 1 l (p (g k)) && meets 1 m (q (g k))) && meets 1 n (r (g k))) ks))
      go true e = first_two g r n k (left q m (left p l (map g ks))) (meets 1 m (q (g k))) _ e
      go false e = e
