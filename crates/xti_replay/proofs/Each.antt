-- Facts on each of several workers.
use Rattle.std.proofs.Common.{◌≡◌, ◌≢◌, ℕ, zero, suc, ◌<◌, true, false, eqb, List, [], ◌∷◌, ◌++◌, length, get_or, set, refl, sym, subst, arith, ◌⊎◌, inl, inr, ap, ◌∙◌, Option, Some, None}
use Rattle.std.specs.Prelude.{is_some, unwrap_or}
use Rattle.std.proofs.lemmas.Bool.Decides.{eqb_tells}
use Rattle.std.proofs.lemmas.Option.{none-some}
use Rattle.std.proofs.lemmas.List.{length-set, get_or-set_same, get_or-set_other}
use Rattle.xti_replay.specs.declared.workers.Worker.{Worker}
use Rattle.xti_replay.specs.Progress.{Of}

pub at-worker : (P : ℕ → Worker → Type 0) (ws : List Worker) (number : ℕ) (w : Worker) → Of P ws → number < length ws → w ≡ get_or ws number w → P number w
at-worker P ws number w each lt is = subst (λ (v : Worker). P number v) (sym is) (each number w lt)

pub get_or_any : (ws : List Worker) (number : ℕ) (d e : Worker) → number < length ws → get_or ws number d ≡ get_or ws number e
get_or_any [] number d e lt = absurd (omega arith)
get_or_any (w ∷ ws) zero d e lt = refl
get_or_any (w ∷ ws) (suc n) d e lt = get_or_any ws n d e (omega arith)

push-cases : (ws : List Worker) (w d : Worker) (k : ℕ) (P : Worker → Type 0) → k < length (ws ++ w ∷ []) → (k < length ws → P (get_or ws k d)) → (k ≡ length ws → P w) → P (get_or (ws ++ w ∷ []) k d)
push-cases [] w d zero P lt here last = last refl
push-cases [] w d (suc k) P lt here last = absurd (omega arith)
push-cases (x ∷ ws) w d zero P lt here last = here (omega arith)
push-cases (x ∷ ws) w d (suc k) P lt here last = push-cases ws w d k P (omega arith) (λ h. here (omega arith)) (λ h. last (omega arith))

pub of-push : (P : ℕ → Worker → Type 0) (ws : List Worker) (w : Worker) → Of P ws → P (length ws) w → Of P (ws ++ w ∷ [])
of-push P ws w each h = λ k d lt. push-cases ws w d k (P k) lt (λ l. each k d l) (λ e. subst (λ (n : ℕ). P n w) (sym e) h)

pub of-changed : (P Q : ℕ → Worker → Type 0) (ws : List Worker) (i : ℕ) (w : Worker) → Of P ws → ((k : ℕ) (v : Worker) → k ≢ i → k < length ws → P k v → Q k v) → (i < length ws → Q i w) → Of Q (set ws i w)
of-changed P Q ws i w each other here = λ k d lt. let within : k < length ws = omega (arith, length-set {A = Worker}) in by k d within (eqb_tells k i)
  where
    by : (k : ℕ) (d : Worker) → k < length ws → ((eqb k i ≡ true) × (k ≡ i)) ⊎ ((eqb k i ≡ false) × (k ≢ i)) → Q k (get_or (set ws i w) k d)
    by k d lt (inl e) = let same : i ≡ k = sym e.1 in subst (λ (j : ℕ). Q j (get_or (set ws i w) j d)) same (let l : i < length ws = omega arith in rw get_or-set_same (here l))
    by k d lt (inr e) = let ne : k ≢ i = e.1 in rw get_or-set_other (other k (get_or ws k d) ne lt (each k d lt))

pub nothing : {X : Type 0} (o : Option X) → is_some o ≡ false → o ≡ None
nothing None e = refl
nothing (Some x) e = absurd cc

pub something : {X : Type 0} (o : Option X) → is_some o ≡ true → o ≡ None → ⊥
something None e n = cc
something (Some x) e n = none-some x (sym n)

pub one-some : {X : Type 0} (o : Option X) (x y : X) → o ≡ Some x → o ≡ Some y → x ≡ y
one-some {X = X} o x y a b = ap (λ (p : Option X). unwrap_or p x) (sym a ∙ b)

pub part-same : (ws : List Worker) (number : ℕ) (w v : Worker) → number < length ws → w ≡ get_or ws number w → v ≡ get_or ws number v → v.part ≡ None → w.part ≡ None
part-same ws number w v lt at other none = ap (λ (x : Worker). x.part) (at ∙ get_or_any ws number w v lt ∙ sym other) ∙ none
