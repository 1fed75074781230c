use Rattle.std.proofs.Common.{◌≡◌, ℕ, ◌-◌, Bool, true, false, cond, List, length, take, drop, Option, None, Some, nat_eq, sym, ap, ◌∙◌}
use Rattle.std.specs.Prelude.{codes, option_map}
use Rattle.std.specs.List.{starts_with}
use Rattle.std.proofs.lemmas.Result.{IfOk-from_err}
use Rattle.xti_base.specs.declared.options.Opt.{Opt}
use Rattle.xti_base.specs.Options.{options_bytes}
use Rattle.xti_words.specs.Texts.{pieces_of, views}
use Rattle.xti_words.specs.Values.{bytes_in, each_in, option_in, options_in}
use Rattle.xti_words.proofs.WordBytes.{written-options}
use Rattle.xti_words.proofs.Marks.{marked, past_mark, told}
use Rattle.xti_words.proofs.options.options_in.Goals as goal

-- the bytes by whether the word has the mark of options
by-mark : (word : List ℕ) (options : Bool) → starts_with nat_eq word (codes "o:") ≡ options
    → options_in word ≡ cond options (option_map options_bytes (each_in option_in (pieces_of 44 (drop 2 word)))) (bytes_in word)
unfolding options_in
by-mark word options e = λ k. cond (e k) (option_map options_bytes (each_in option_in (pieces_of 44 (drop 2 word)))) (bytes_in word)

-- what the pieces of the word stand for
of-pieces : (word : List ℕ) (seen pieces : List (List ℕ)) (options : Option (List Opt)) → options ≡ each_in option_in seen → seen ≡ pieces → pieces ≡ pieces_of 44 (take (length word - 2) (drop 2 word))
    → options ≡ each_in option_in (pieces_of 44 (drop 2 word))
of-pieces word seen pieces options o s p = o ∙ ap (each_in option_in) (s ∙ (p ∙ ap (pieces_of 44) (past_mark word)))

of-options : (word : List ℕ) (options : Option (List Opt)) → starts_with nat_eq word (codes "o:") ≡ true → options ≡ each_in option_in (pieces_of 44 (drop 2 word))
    → option_map options_bytes options ≡ options_in word
of-options word options t e = ap (option_map options_bytes) e ∙ sym (by-mark word true t)

pub write_options-requires : goal.write_options-requires
write_options-requires c = (written-options _ c.in-Some.options (sym c.in_ok-options.ensures ∙ c.in-Some.is)).0

pub returns-then-not-starts_with : goal.returns-then-not-starts_with
returns-then-not-starts_with c =
    let word = c.args.word.now in
    told c.bytes_in.result _ _ (sym (by-mark word false (marked word c.as_slice.result.now (codes "o:") c.starts_with.result false c.as_slice.ensures c.starts_with.ensures.value c.if-not-starts_with.true)))
    c.bytes_in.ensures

pub returns-in_err-pieces : goal.returns-in_err-pieces
returns-in_err-pieces c = IfOk-from_err _ _ c.from_residual.ensures.0

pub returns-in_err-options : goal.returns-in_err-options
returns-in_err-options c = IfOk-from_err _ _ c.from_residual-in_err-options.ensures.0

pub returns-in_err-write_options-in-Some : goal.returns-in_err-write_options-in-Some
returns-in_err-write_options-in-Some c = IfOk-from_err _ _ c.from_residual-in_err-write_options-in-Some.ensures.0

pub returns-in-Some : goal.returns-in-Some
returns-in-Some c =
    let word = c.args.word.now in
    let options = of-pieces word (views c.as_slice-2.result.now) (views c.in_ok-pieces.pieces.items) c.in_ok-options.field-0 c.in_ok-options.ensures (ap views c.as_slice-2.ensures.value) c.in_ok-pieces.ensures in
    let mark = marked word c.as_slice.result.now (codes "o:") c.starts_with.result true c.as_slice.ensures c.starts_with.ensures.value c.if-not-starts_with.false in
    ap (λ (xs : List ℕ). Some xs) c.in_ok-write_options-in-Some.ensures ∙ of-options word (Some c.in-Some.options) mark (sym c.in-Some.is ∙ options)

pub returns : goal.returns
returns c =
    let word = c.args.word.now in
    let options = of-pieces word (views c.as_slice-2.result.now) (views c.in_ok-pieces.pieces.items) c.in_ok-options.field-0 c.in_ok-options.ensures (ap views c.as_slice-2.ensures.value) c.in_ok-pieces.ensures in
    let mark = marked word c.as_slice.result.now (codes "o:") c.starts_with.result true c.as_slice.ensures c.starts_with.ensures.value c.if-not-starts_with.false in
    of-options word None mark (sym c.in-None.is ∙ options)
