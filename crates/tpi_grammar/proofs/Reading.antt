-- Reading byte by byte answers what the outcome means.
use Rattle.std.proofs.Common.{◌≡◌, ◌≤◌, ℕ, suc, zero, Bool, true, false, List, [], ◌∷◌, length, take, cond, refl, sym, ◌∙◌, arith}
use Rattle.tpi_grammar.specs.Form.{Form, done, byte, In, Live, Outcome, whole, short, bad, later, scan, HasNone, Means}

-- a live form has a text
pub finish : (f : Form) → Live f → (ws : List ℕ) × In f ws
finish done h = ([], tt)
finish (byte ok next) h = let r = finish (next h.0.0) (h.1 h.0.0 h.0.1) in (h.0.0 ∷ r.0, (h.0.1, r.1))

none_of_nothing : (ok : ℕ → Bool) (next : ℕ → Form) (n : ℕ) → In (byte ok next) (take n []) → ⊥
none_of_nothing ok next zero i = i
none_of_nothing ok next (suc n) i = i

none_longer : (ok : ℕ → Bool) (next : ℕ → Form) (b : ℕ) (bs : List ℕ) → HasNone (next b) bs → HasNone (byte ok next) (b ∷ bs)
none_longer ok next b bs none zero le i = i
none_longer ok next b bs none (suc n) le i = none n (omega (arith, le)) i.1

shift : (ok : ℕ → Bool) (next : ℕ → Form) (b : ℕ) (bs : List ℕ) (o : Outcome) → ok b ≡ true → Means (next b) bs o → Means (byte ok next) (b ∷ bs) (later o)
shift ok next b bs (whole n) e m = (omega (arith, m.0), (e, m.1))
shift ok next b bs short e m = ((m.0.0, (e, m.0.1)), none_longer ok next b bs m.1)
shift ok next b bs (bad at) e m = (omega (arith, m.0), (m.1.0, (e, m.1.1)), λ q. m.2 (q.0, q.1.1), none_longer ok next b bs m.3)

true_not_false : true ≡ false → ⊥
true_not_false e = cc

step : (ok : ℕ → Bool) (next : ℕ → Form) (b : ℕ) (bs : List ℕ) (t : Bool) → ok b ≡ t → Live (byte ok next)
    → (ok b ≡ true → Means (next b) bs (scan (next b) bs)) → Means (byte ok next) (b ∷ bs) (cond t (later (scan (next b) bs)) (bad 0))
step ok next b bs true e h m = shift ok next b bs (scan (next b) bs) e (m e)
step ok next b bs false e h m = (omega arith, finish (byte ok next) h, λ q. true_not_false (sym q.1.0 ∙ e), λ n. none n)
  where
    none : (n : ℕ) → n ≤ length (b ∷ bs) → In (byte ok next) (take n (b ∷ bs)) → ⊥
    none zero le i = i
    none (suc n) le i = true_not_false (sym i.0 ∙ e)

pub exact : (f : Form) → Live f → (bs : List ℕ) → Means f bs (scan f bs)
exact done h bs = (omega arith, tt)
exact (byte ok next) h [] = (finish (byte ok next) h, λ n le i. none_of_nothing ok next n i)
exact (byte ok next) h (b ∷ bs) = step ok next b bs (ok b) refl h (λ t. exact (next b) (h.1 b t) bs)
