-- Words that are joined by a byte and cut at it.
use Rattle.std.proofs.Common.{◌≡◌, ℕ, ◌<◌, Bool, true, false, eqb, List, [], ◌∷◌, ◌++◌, refl, ap, ◌∙◌, append_assoc, arith}
use Rattle.std.specs.Prelude.{All}
use Rattle.std.specs.List.{join_with_byte}
use Rattle.std.proofs.lemmas.Bool.{eqb-true, eq-eqb}
use Rattle.std.proofs.lemmas.List.Elements.{All-weaker, All-append, All-cons, All-head, All-tail, All-nil}
use Rattle.std.proofs.lemmas.List.Splits.{slice_split_none, slice_split_at}
use Rattle.xti_words.specs.Texts.{pieces_of}
use Rattle.xti_journal.proofs.NumberLaws.{Above}

other_byte : (k c : ℕ) → k < c → eqb c k ≡ false
other_byte k c h = go (eqb c k) refl
  where
    go : (b : Bool) → eqb c k ≡ b → b ≡ false
    go true e = let s = eqb-true c k e in absurd (omega arith)
    go false e = refl

pub without : (k : ℕ) (bytes : List ℕ) → Above k bytes → All (λ c. eqb c k ≡ false) bytes
without k bytes h = All-weaker (λ c. k < c) (λ c. eqb c k ≡ false) (other_byte k) bytes h

is_self : (k : ℕ) → eqb k k ≡ true
is_self k = eq-eqb k k refl

pub above_less : (k m : ℕ) (bytes : List ℕ) → m < k → Above k bytes → Above m bytes
above_less k m bytes l h = All-weaker (λ c. k < c) (λ c. m < c) (λ c g. omega arith) bytes h

-- words that are joined are the pieces
pub pieces-join : (k : ℕ) (word : List ℕ) (words : List (List ℕ)) → Above k word → All (Above k) words → pieces_of k (join_with_byte k (word ∷ words)) ≡ word ∷ words
pieces-join k word [] h hs = slice_split_none (λ c. eqb c k) word (without k word h)
pieces-join k word (next ∷ words) h hs =
    slice_split_at (λ c. eqb c k) word k (join_with_byte k (next ∷ words)) (without k word h) (is_self k)
    ∙ ap (λ (ws : List (List ℕ)). word ∷ ws) (pieces-join k next words (All-head (Above k) next words hs) (All-tail (Above k) next words hs))

pub join-append : (k : ℕ) (word : List ℕ) (words : List (List ℕ)) (next : List ℕ) (others : List (List ℕ)) → join_with_byte k ((word ∷ words) ++ next ∷ others) ≡ join_with_byte k (word ∷ words) ++ k ∷ join_with_byte k (next ∷ others)
join-append k word [] next others = refl
join-append k word (w ∷ words) next others =
    ap (λ (l : List ℕ). word ++ k ∷ l) (join-append k w words next others) ∙ rw append_assoc refl

-- where each byte of each word is above k, so is each byte of the words that are joined by such a byte
pub join-above : (k sep : ℕ) (words : List (List ℕ)) → k < sep → All (Above k) words → Above k (join_with_byte sep words)
join-above k sep [] l h = All-nil (λ c. k < c)
join-above k sep (word ∷ []) l h = All-head (Above k) word [] h
join-above k sep (word ∷ next ∷ words) l h =
    All-append (λ c. k < c) word (sep ∷ join_with_byte sep (next ∷ words)) (All-head (Above k) word (next ∷ words) h)
    (All-cons (λ c. k < c) sep (join_with_byte sep (next ∷ words)) l (join-above k sep (next ∷ words) l (All-tail (Above k) word (next ∷ words) h)))
