-- The table of the bytes of plain texts, and texts that are looked up in it.
use Rattle.std.proofs.Common.{◌≡◌, ℕ, ◌+◌, ◌==◌, ◌<◌, Bool, true, false, ◌&&◌, List, ◌++◌, length, take, map, cond, get_or, bit_and, refl, sym, ap, ◌∙◌, arith}
use Rattle.std.proofs.lemmas.List.Folds.{list_all_more, list_all-append}
use Rattle.std.proofs.lemmas.List.FromFn.{get_or-map-range_with_len}
use Rattle.std.specs.List.{range_with_len, list_all}
use Rattle.xti_words.specs.Texts.{is_text_byte}
use Rattle.xti_words.specs.declared.texts.TheConstants.{TEXT_BYTES}

abbrev pub mark : Bool → ℕ
mark t = cond t 1 0

abbrev byte_mark : ℕ → ℕ
byte_mark c = mark (is_text_byte c)

-- the table has the mark of each byte
table_is : TEXT_BYTES ≡ map byte_mark (range_with_len 0 256)
table_is = refl

pub read : (c : ℕ) → c < 256 → get_or TEXT_BYTES c 0 ≡ mark (is_text_byte c)
read c h = ap (λ t. get_or t c 0) table_is ∙ get_or-map-range_with_len byte_mark 0 256 c c 0 h (omega arith)

both : (s t : Bool) → bit_and (mark s) (mark t) ≡ mark (s && t)
both true true = refl
both true false = refl
both false true = refl
both false false = refl

pub marked : (t : Bool) → (mark t == 1) ≡ t
marked true = refl
marked false = refl

pub mark_more : (bytes : List ℕ) (i all one : ℕ) → i < length bytes → one ≡ mark (is_text_byte (get_or bytes i 0)) → all ≡ mark (list_all is_text_byte (take i bytes)) → bit_and all one ≡ mark (list_all is_text_byte (take (i + 1) bytes))
mark_more bytes i all one h m e =
    rw (e, m) (both (list_all is_text_byte (take i bytes)) (is_text_byte (get_or bytes i 0))) ∙ ap mark (sym (list_all_more is_text_byte bytes i 0 h))

and_both : (a b c : Bool) → a ≡ true → (a && b) ≡ c → b ≡ c
and_both true b c t e = e
and_both false b c t e = absurd cc

and_none : (a b c : Bool) → a ≡ false → (a && b) ≡ c → false ≡ c
and_none true b c t e = absurd cc
and_none false b c t e = e

pub behind_pass : (front others rest : List ℕ) (b : Bool) → rest ≡ front ++ others → list_all is_text_byte front ≡ true → list_all is_text_byte rest ≡ b → list_all is_text_byte others ≡ b
behind_pass front others rest b e t h = and_both _ _ b t (sym (list_all-append is_text_byte front others) ∙ ap (list_all is_text_byte) (sym e) ∙ h)

pub front_fails : (front others rest : List ℕ) (b : Bool) → rest ≡ front ++ others → list_all is_text_byte front ≡ false → list_all is_text_byte rest ≡ b → false ≡ b
front_fails front others rest b e t h = and_none _ (list_all is_text_byte others) b t (sym (list_all-append is_text_byte front others) ∙ ap (list_all is_text_byte) (sym e) ∙ h)
