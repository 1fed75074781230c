-- What is read at once: words in their ranges, and the first three words of a frame.
use Rattle.std.proofs.Common.{◌≡◌, ◌<◌, ℕ, true, List, [], ◌∷◌, ◌++◌, length, map, take, take_all, drop, drop-drop, length-drop, ◌-◌, Some, refl, sym, ◌∙◌, ap, arith, inl, subst}
use Rattle.tpi_grammar.specs.Form.{scan}
use Rattle.tpi_grammar.specs.Word.{after_word, after_head, meets}
use Rattle.tpi_grammar.specs.Frame.{Row, table, IsIn, be, left, size_range, data_range, number_range, first_row, form_of, number_form, row_form, chosen, frame}
use Rattle.tpi_grammar.proofs.SpelledWords.{word_scan}
use Rattle.tpi_grammar.proofs.Finished.{is_exactly, meets_exactly, table_is}
use Rattle.tpi_grammar.proofs.Spellings.{left_in, left_has, viable_in, one_row, row_is, table_rises}

first_row_is : (r : Row) (rows : List Row) → IsIn r rows → ((x : Row) → IsIn x rows → x ≡ r) → first_row rows ≡ Some r
first_row_is r [] i only = elim i [ ]
first_row_is r (x ∷ xs) i only = ap (λ y. Some y) (only x (inl refl))

-- the first three words of a frame of this row
pub head_scan : (r : Row) (size count : ℕ) (rest : List ℕ) → IsIn r table → size < 4294967296 → count < 4294967296
    → meets 1 size (size_range r) ≡ true → meets 1 count (data_range r) ≡ true
    → scan frame (be size ++ (be count ++ (be r.number ++ rest))) ≡ after_head (scan (row_form size count r) rest)
unfolding frame
head_scan r size count rest i small_size small_count met_size met_count =
    let good = row_is r table table_is i in
    let rows : List Row = left size_range size table in
    let in_size = left_has size_range size r table i met_size in
    let rows' : List Row = left data_range count rows in
    let in_count = left_has data_range count r rows in_size met_count in
    let met_number = meets_exactly r.number in
    let last : List Row = left number_range r.number rows' in
    let in_number = left_has number_range r.number r rows' in_count met_number in
    let only : (x : Row) → IsIn x last → x ≡ r = λ x at.
    let a = left_in number_range r.number x rows' at in
    let b = left_in data_range count x rows a.1 in
    let c = left_in size_range size x table b.1 in
    one_row x r table table_rises c.1 i (sym (is_exactly r.number x.number a.0)) in
    word_scan (map size_range table) (λ n. chosen data_range (λ d. number_form n d) (left size_range n table)) size (be count ++ (be r.number ++ rest)) small_size (viable_in size_range size r table i met_size)
    ∙ ap after_word (word_scan (map data_range rows) (λ n. number_form size n (left data_range n rows)) count (be r.number ++ rest) small_count (viable_in data_range count r rows in_size met_count)
    ∙ ap after_word (word_scan (map number_range rows') (λ n. form_of size count (first_row (left number_range n rows'))) r.number rest good.number (viable_in number_range r.number r rows' in_count met_number)
    ∙ ap (λ o. after_word (scan (form_of size count o) rest)) (first_row_is r last in_number only)))

-- what a slice from a place to the end has
abbrev pub from_place : ℕ → List ℕ → List ℕ
from_place n bs = take (length bs - n) (drop n bs)

from_place-all : (n : ℕ) (bs : List ℕ) → from_place n bs ≡ drop n bs
from_place-all n bs = take_all (length bs - n) (drop n bs) (omega (arith, length-drop n bs))

-- each word stands at the start of what is after the one before
pub head_text : (bs : List ℕ) (size count number : ℕ) (r : Row) → bs ≡ be size ++ drop 4 bs → from_place 4 bs ≡ be count ++ drop 4 (from_place 4 bs)
    → from_place 8 bs ≡ be number ++ drop 4 (from_place 8 bs) → r.number ≡ number → bs ≡ be size ++ (be count ++ (be r.number ++ drop 12 bs))
head_text bs size count number r first second third same =
    let by_four : drop 4 bs ≡ be count ++ drop 4 (drop 4 bs) = subst (λ t. t ≡ be count ++ drop 4 t) (from_place-all 4 bs) second in
    let by_eight : drop 8 bs ≡ be number ++ drop 4 (drop 8 bs) = subst (λ t. t ≡ be number ++ drop 4 t) (from_place-all 8 bs) third in
    first ∙ ap (λ t. be size ++ t) (by_four ∙ ap (λ t. be count ++ t) (drop-drop 4 4 bs ∙ by_eight
    ∙ ap (λ t. be number ++ t) (drop-drop 4 8 bs) ∙ ap (λ n. be n ++ drop 12 bs) (sym same)))
