use Rattle.std.proofs.Common.{◌≡◌, ℕ, ◌<◌, ◌≤◌, List, [], ◌∷◌, length, Option, None, Some, Bor, slice_index_or, sym, ap, refl, ◌∙◌, arith}
use Rattle.std.proofs.lemmas.Result.{IfOk-from_err}
use Rattle.xti_base.specs.declared.options.Opt.{Opt}
use Rattle.xti_base.specs.Options.{word_bytes}
use Rattle.xti_words.specs.Texts.{pieces_of, views}
use Rattle.xti_words.specs.Values.{number_in, option_at, option_with, plain_option, valued_option}
use Rattle.xti_words.proofs.options.option_at.Goals as goal

-- one piece, and two
one-piece : (xs : List (Bor (List ℕ))) (d : Bor (List ℕ)) → 1 ≤ length xs → length xs < 2 → views xs ≡ (slice_index_or xs 0 d).now ∷ []
one-piece [] d a b = absurd (omega (arith, a))
one-piece (x ∷ []) d a b = refl
one-piece (x ∷ y ∷ xs) d a b = absurd (omega (arith, b))

two-pieces : (xs : List (Bor (List ℕ))) (d : Bor (List ℕ)) → 2 ≤ length xs → length xs < 3 → views xs ≡ (slice_index_or xs 0 d).now ∷ (slice_index_or xs 1 d).now ∷ []
two-pieces [] d a b = absurd (omega (arith, a))
two-pieces (x ∷ []) d a b = absurd (omega (arith, a))
two-pieces (x ∷ y ∷ []) d a b = refl
two-pieces (x ∷ y ∷ z ∷ xs) d a b = absurd (omega (arith, b))

-- a name alone, and with a value
named : (level others name : List ℕ) (l n : Option ℕ) (v : List ℕ) (r : Option Opt) → r ≡ plain_option l n v → l ≡ number_in level → n ≡ number_in name → v ≡ [] → pieces_of 61 others ≡ name ∷ []
    → r ≡ option_with level others
named level others name l n v r e a b d p = e ∙ ((λ k. plain_option (a k) (b k) (d k)) ∙ ap (option_at (number_in level)) (sym p))

valued : (level others name value : List ℕ) (l n : Option ℕ) (v : List ℕ) (x : ℕ) (r : Option Opt) → r ≡ plain_option l n v → l ≡ number_in level → n ≡ number_in name → v ≡ word_bytes x
    → number_in value ≡ Some x → pieces_of 61 others ≡ name ∷ value ∷ [] → r ≡ option_with level others
valued level others name value l n v x r e a b d s p =
    e ∙ ((λ k. plain_option (a k) (b k) (d k)) ∙ (ap (valued_option (number_in level) (number_in name)) (sym s) ∙ ap (option_at (number_in level)) (sym p)))

unvalued : (level others name value : List ℕ) → number_in value ≡ None → pieces_of 61 others ≡ name ∷ value ∷ [] → None ≡ option_with level others
unvalued level others name value s p = ap (valued_option (number_in level) (number_in name)) (sym s) ∙ ap (option_at (number_in level)) (sym p)

pub returns-in_err-pieces_of : goal.returns-in_err-pieces_of
returns-in_err-pieces_of c = IfOk-from_err _ _ c.from_residual.ensures.0

pub returns-in_err-value-in-Some : goal.returns-in_err-value-in-Some
returns-in_err-value-in-Some c = IfOk-from_err _ _ c.from_residual-in_err-value-in-Some.ensures.0

pub returns-in-len1 : goal.returns-in-len1
returns-in-len1 c =
    let pieces = sym c.in_ok-pieces_of.ensures ∙ (ap views (sym c.as_slice.ensures.value) ∙ one-piece c.as_slice.result.now _ c.in-len1.len_at_least c.in-len1.len_below) in
    named c.args.level.now c.args.others.now _ c.number_in-level.result c.number_in.result c.new.result c.plain_option.result c.plain_option.ensures c.number_in-level.ensures c.number_in.ensures
    c.new.ensures pieces

pub returns-in-Some : goal.returns-in-Some
returns-in-Some c =
    let pieces = sym c.in_ok-pieces_of.ensures ∙ (ap views (sym c.as_slice.ensures.value) ∙ two-pieces c.as_slice.result.now _ c.in-len2.len_at_least c.in-len2.len_below) in
    valued c.args.level.now c.args.others.now _ _ c.number_in-level.result c.number_in-in-Some.result c.in_ok-value-in-Some.value c.in-Some.value c.plain_option-in-Some.result
    c.plain_option-in-Some.ensures c.number_in-level.ensures c.number_in-in-Some.ensures (c.in_ok-value-in-Some.ensures.copy ∙ c.to_be_bytes.ensures) (sym c.number_in-in-len2.ensures ∙ c.in-Some.is)
    pieces

pub returns-in-len2 : goal.returns-in-len2
returns-in-len2 c =
    let pieces = sym c.in_ok-pieces_of.ensures ∙ (ap views (sym c.as_slice.ensures.value) ∙ two-pieces c.as_slice.result.now _ c.in-len2.len_at_least c.in-len2.len_below) in
    unvalued c.args.level.now c.args.others.now _ _ (sym c.number_in-in-len2.ensures ∙ c.in-None.is) pieces
