use Rattle.std.proofs.Common.{suc, ◌≡◌, ◌≤◌, ◌<◌, ◌+◌, ◌-◌, ℕ, List, [], ◌∷◌, length, get_or, take, drop, length-drop, refl, ap, sym, ◌∙◌, arith}
use Rattle.std.proofs.lemmas.List.{take_rest}
use Rattle.tpi_grammar.specs.Form.{Form, bad, scan, short, whole}
use Rattle.tpi_grammar.specs.Frame.{exactly, offset, part_range}
use Rattle.tpi_grammar.specs.Kinds.{slots_view}
use Rattle.tpi_grammar.specs.Measured.{outcome_of}
use Rattle.tpi_grammar.specs.Measuring.{form_of_slots}
use Rattle.tpi_grammar.specs.Word.{ReadsWord, after_word, goes, word}
use Rattle.tpi_grammar.specs.declared.kind.Slot.{Slot}
use Rattle.tpi_grammar.specs.declared.kind.Slot.TheVariants.{Part, Upto}
use Rattle.tpi_grammar.specs.declared.measure.Measure.{Measure}
use Rattle.tpi_grammar.specs.declared.measure.Measure.TheVariants.{Bad, Short, Whole}
use Rattle.tpi_grammar.specs.declared.word.Within.{Within}
use Rattle.tpi_grammar.specs.declared.word.WordRead.{WordRead}
use Rattle.tpi_grammar.specs.declared.word.WordRead.TheVariants as read
use Rattle.tpi_grammar.proofs.measure.+measure_slots.Goals as goal

abbrev others : List Slot → List Slot
others slots = take (length slots - 1) (drop 1 slots)

abbrev behind : List ℕ → List ℕ
behind bs = take (length bs - 4) (drop 4 bs)

none : (slots : List Slot) → length slots < 1 → slots ≡ []
none [] h = refl
none (s ∷ ss) h = absurd (omega (arith, h))

front : (slots : List Slot) → 1 ≤ length slots → slots ≡ get_or slots 0 (Upto 0) ∷ others slots
front [] h = absurd (omega (arith, h))
front (s ∷ ss) h = ap (λ xs. s ∷ xs) (sym (take_rest (s ∷ ss) 1))

behind_length : (bs : List ℕ) → length (behind bs) ≡ length bs - 4
behind_length bs = ap length (take_rest bs 4) ∙ length-drop 4 bs

-- a slot of either kind is read
module _ (slots : List Slot) (place left total : ℕ) (bs : List ℕ) (there : 1 ≤ length slots) where
  upto_read : (most : ℕ) (w : Within) (r : WordRead) → get_or slots 0 (Upto 0) ≡ Upto most
      → w ≡ record { 0 = record { low = 0; high = most } } → ReadsWord (w.0 ∷ []) bs r
      → scan (form_of_slots slots place left total) bs ≡ goes r (λ _. form_of_slots (others slots) place left total) (drop 4 bs)
  upto_read most w r is range reads =
      ap (λ ss. scan (form_of_slots ss place left total) bs) (front slots there ∙ ap (λ s. s ∷ others slots) is)
      ∙ ap (λ (w : Within). scan (word (w.0 ∷ []) (λ _. form_of_slots (others slots) place left total)) bs) (sym range)
      ∙ reads (λ _. form_of_slots (others slots) place left total)

  abbrev part_form : ℕ → Form
  part_form n = form_of_slots (others slots) (place + n) (left - n) total

  part_read : (r : WordRead) → get_or slots 0 (Upto 0) ≡ Part → ReadsWord (part_range (slots_view (others slots)) left ∷ []) bs r
      → scan (form_of_slots slots place left total) bs ≡ goes r (λ n. word (exactly (offset n place) ∷ []) (λ _. part_form n)) (drop 4 bs)
  part_read r is reads =
      ap (λ ss. scan (form_of_slots ss place left total) bs) (front slots there ∙ ap (λ s. s ∷ others slots) is)
      ∙ reads (λ n. word (exactly (offset n place) ∷ []) (λ _. part_form n))

  offset_read : (n due : ℕ) (w : Within) (r : WordRead) → get_or slots 0 (Upto 0) ≡ Part
      → ReadsWord (part_range (slots_view (others slots)) left ∷ []) bs (read.Value n) → due ≡ offset n place
      → w ≡ record { 0 = record { low = due; high = due } } → ReadsWord (w.0 ∷ []) (behind bs) r
      → scan (form_of_slots slots place left total) bs ≡ after_word (goes r (λ _. part_form n) (drop 4 (behind bs)))
  offset_read n due w r is reads at range again =
      part_read (read.Value n) is reads
      ∙ ap after_word
      (ap (scan (word (exactly (offset n place) ∷ []) (λ _. part_form n))) (sym (take_rest bs 4))
      ∙ ap (λ d. scan (word (exactly d ∷ []) (λ _. part_form n)) (behind bs)) (sym at)
      ∙ ap (λ (w : Within). scan (word (w.0 ∷ []) (λ _. part_form n)) (behind bs)) (sym range)
      ∙ again (λ _. part_form n))

-- how far a measure that is told four bytes earlier goes
whole_no : {P : Type 0} (n : ℕ) → Short ≡ Whole n → P
whole_no n is = absurd (cc)

bad_no : {P : Type 0} (n : ℕ) → Short ≡ Bad n → P
bad_no n is = absurd (cc)

bad_not_whole : {P : Type 0} (at n : ℕ) → Bad at ≡ Whole n → P
bad_not_whole at n is = absurd (cc)

bad_at : (at n len : ℕ) → Bad at ≡ Bad n → at < len → n ≤ len
bad_at at n len is less = let same : at ≡ n = cc in omega (arith, same, less)

after_whole : (m r : Measure) (len : ℕ) → outcome_of r ≡ after_word (outcome_of m) → 4 ≤ len → ((n : ℕ) → m ≡ Whole n → n ≤ len - 4)
    → (n : ℕ) → r ≡ Whole n → n ≤ len
after_whole (Whole k) r len is long within n that =
    let same : whole n ≡ after_word (whole k) = ap outcome_of (sym that) ∙ is in
    let told : n ≡ suc (suc (suc (suc k))) = cc in
    omega (arith, told, long, within k refl)
after_whole Short r len is long within n that = let same : whole n ≡ short = ap outcome_of (sym that) ∙ is in absurd (cc)
after_whole (Bad k) r len is long within n that = let same : whole n ≡ after_word (bad k) = ap outcome_of (sym that) ∙ is in absurd (cc)

after_bad : (m r : Measure) (len : ℕ) → outcome_of r ≡ after_word (outcome_of m) → 4 ≤ len → ((n : ℕ) → m ≡ Bad n → n ≤ len - 4)
    → (n : ℕ) → r ≡ Bad n → n ≤ len
after_bad (Whole k) r len is long within n that = let same : bad n ≡ after_word (whole k) = ap outcome_of (sym that) ∙ is in absurd (cc)
after_bad Short r len is long within n that = let same : bad n ≡ short = ap outcome_of (sym that) ∙ is in absurd (cc)
after_bad (Bad k) r len is long within n that =
    let same : bad n ≡ after_word (bad k) = ap outcome_of (sym that) ∙ is in
    let told : n ≡ suc (suc (suc (suc k))) = cc in
    omega (arith, told, long, within k refl)

-- what holds of the bytes behind a word holds four bytes earlier
shorter : (bs : List ℕ) (n : ℕ) → n ≤ length (behind bs) → n ≤ length bs - 4
shorter bs n le = omega (arith, le, behind_length bs)

pub returns-in_default-clause-scans : goal.returns-in_default-clause-scans
returns-in_default-clause-scans t c =
    c.measure_tail.ensures.scans
    ∙ ap (λ ss. scan (form_of_slots ss c.args.place c.args.left c.args.total) c.args.bytes.now) (sym (none c.args.slots.now c.in_default.len_below))

pub returns-in_default-clause-within : goal.returns-in_default-clause-within
returns-in_default-clause-within t c = c.measure_tail.ensures.within

pub returns-in_default-clause-at : goal.returns-in_default-clause-at
returns-in_default-clause-at t c = c.measure_tail.ensures.at

pub returns-in-Short-clause-scans : goal.returns-in-Short-clause-scans
returns-in-Short-clause-scans t c =
    sym (upto_read c.args.slots.now c.args.place c.args.left c.args.total c.args.bytes.now c.in-len1-up.len_at_least _ c.between.result read.Short c.in-Upto.is c.between.ensures c.in-Short.ensures.scans)

pub returns-in-Bad-clause-scans : goal.returns-in-Bad-clause-scans
returns-in-Bad-clause-scans t c =
    sym (upto_read c.args.slots.now c.args.place c.args.left c.args.total c.args.bytes.now c.in-len1-up.len_at_least _ c.between.result (read.Bad c.in-Bad.at) c.in-Upto.is c.between.ensures c.in-Bad.ensures.scans)

pub returns-in-Value-clause-scans : goal.returns-in-Value-clause-scans
returns-in-Value-clause-scans t c =
    c.after_word.ensures
    ∙ ap after_word
    (c.measure_slots.ensures.scans
    ∙ ap (scan (form_of_slots (others c.args.slots.now) c.args.place c.args.left c.args.total)) (take_rest c.args.bytes.now 4))
    ∙ sym (upto_read c.args.slots.now c.args.place c.args.left c.args.total c.args.bytes.now c.in-len1-up.len_at_least _ c.between.result (read.Value c.in-Value.field-0) c.in-Upto.is c.between.ensures c.in-Value.ensures.scans)

pub returns-in-Short-read_length-clause-scans : goal.returns-in-Short-read_length-clause-scans
returns-in-Short-read_length-clause-scans t c = sym (part_read c.args.slots.now c.args.place c.args.left c.args.total c.args.bytes.now c.in-len1-up.len_at_least read.Short c.in-Part.is c.in-Short-read_length.ensures.scans)

pub returns-in-Bad-read_length-clause-scans : goal.returns-in-Bad-read_length-clause-scans
returns-in-Bad-read_length-clause-scans t c = sym (part_read c.args.slots.now c.args.place c.args.left c.args.total c.args.bytes.now c.in-len1-up.len_at_least (read.Bad c.in-Bad-read_length.at) c.in-Part.is c.in-Bad-read_length.ensures.scans)

pub returns-in-Short-read_word-clause-scans : goal.returns-in-Short-read_word-clause-scans
returns-in-Short-read_word-clause-scans t c =
    c.after_word-in-Short-read_word.ensures
    ∙ sym (offset_read c.args.slots.now c.args.place c.args.left c.args.total c.args.bytes.now c.in-len1-up.len_at_least _ c.offset_of-offset.result c.between-in-Value-read_length.result read.Short
    c.in-Part.is c.in-Value-read_length.ensures.scans c.offset_of-offset.ensures c.between-in-Value-read_length.ensures c.in-Short-read_word.ensures.scans)

pub returns-in-Bad-read_word-clause-scans : goal.returns-in-Bad-read_word-clause-scans
returns-in-Bad-read_word-clause-scans t c =
    c.after_word-in-Bad-read_word.ensures
    ∙ sym (offset_read c.args.slots.now c.args.place c.args.left c.args.total c.args.bytes.now c.in-len1-up.len_at_least _ c.offset_of-offset.result c.between-in-Value-read_length.result (read.Bad c.in-Bad-read_word.at)
    c.in-Part.is c.in-Value-read_length.ensures.scans c.offset_of-offset.ensures c.between-in-Value-read_length.ensures c.in-Bad-read_word.ensures.scans)

pub returns-in-Value-read_word-clause-scans : goal.returns-in-Value-read_word-clause-scans
returns-in-Value-read_word-clause-scans t c =
    c.after_word-in-Value-read_word-2.ensures
    ∙ ap after_word
    (c.after_word-in-Value-read_word.ensures
    ∙ ap after_word
    (c.measure_slots-in-Value-read_word.ensures.scans
    ∙ ap (scan (part_form c.args.slots.now c.args.place c.args.left c.args.total c.args.bytes.now c.in-len1-up.len_at_least c.in-Value-read_length.n)) (take_rest (behind c.args.bytes.now) 4)))
    ∙ sym (offset_read c.args.slots.now c.args.place c.args.left c.args.total c.args.bytes.now c.in-len1-up.len_at_least _ c.offset_of-offset.result c.between-in-Value-read_length.result (read.Value c.in-Value-read_word.field-0)
    c.in-Part.is c.in-Value-read_length.ensures.scans c.offset_of-offset.ensures c.between-in-Value-read_length.ensures c.in-Value-read_word.ensures.scans)

pub returns-in-Short-clause-within : goal.returns-in-Short-clause-within
returns-in-Short-clause-within t c n is = whole_no n is

pub returns-in-Short-clause-at : goal.returns-in-Short-clause-at
returns-in-Short-clause-at t c n is = bad_no n is

pub returns-in-Bad-clause-within : goal.returns-in-Bad-clause-within
returns-in-Bad-clause-within t c n is = bad_not_whole _ n is

pub returns-in-Bad-clause-at : goal.returns-in-Bad-clause-at
returns-in-Bad-clause-at t c n is = bad_at c.in-Bad.at n _ is (c.in-Bad.ensures.at c.in-Bad.at refl)

pub returns-in-Short-read_length-clause-within : goal.returns-in-Short-read_length-clause-within
returns-in-Short-read_length-clause-within t c n is = whole_no n is

pub returns-in-Short-read_length-clause-at : goal.returns-in-Short-read_length-clause-at
returns-in-Short-read_length-clause-at t c n is = bad_no n is

pub returns-in-Bad-read_length-clause-within : goal.returns-in-Bad-read_length-clause-within
returns-in-Bad-read_length-clause-within t c n is = bad_not_whole _ n is

pub returns-in-Bad-read_length-clause-at : goal.returns-in-Bad-read_length-clause-at
returns-in-Bad-read_length-clause-at t c n is = bad_at c.in-Bad-read_length.at n _ is (c.in-Bad-read_length.ensures.at c.in-Bad-read_length.at refl)

pub after_word-requires-in-Short-read_word-clause-within : goal.after_word-requires-in-Short-read_word-clause-within
after_word-requires-in-Short-read_word-clause-within t c n is = whole_no n is

pub after_word-requires-in-Short-read_word-clause-at : goal.after_word-requires-in-Short-read_word-clause-at
after_word-requires-in-Short-read_word-clause-at t c n is = bad_no n is

pub after_word-requires-in-Bad-read_word-clause-within : goal.after_word-requires-in-Bad-read_word-clause-within
after_word-requires-in-Bad-read_word-clause-within t c n is = bad_not_whole _ n is

pub after_word-requires-in-Bad-read_word-clause-at : goal.after_word-requires-in-Bad-read_word-clause-at
after_word-requires-in-Bad-read_word-clause-at t c n is = bad_at c.in-Bad-read_word.at n _ is (c.in-Bad-read_word.ensures.at c.in-Bad-read_word.at refl)

pub after_word-requires-clause-within : goal.after_word-requires-clause-within
after_word-requires-clause-within t c n is = shorter c.args.bytes.now n (c.measure_slots.ensures.within n is)

pub after_word-requires-clause-at : goal.after_word-requires-clause-at
after_word-requires-clause-at t c n is = shorter c.args.bytes.now n (c.measure_slots.ensures.at n is)

pub after_word-requires-in-Value-read_word-clause-within : goal.after_word-requires-in-Value-read_word-clause-within
after_word-requires-in-Value-read_word-clause-within t c n is = shorter (behind c.args.bytes.now) n (c.measure_slots-in-Value-read_word.ensures.within n is)

pub after_word-requires-in-Value-read_word-clause-at : goal.after_word-requires-in-Value-read_word-clause-at
after_word-requires-in-Value-read_word-clause-at t c n is = shorter (behind c.args.bytes.now) n (c.measure_slots-in-Value-read_word.ensures.at n is)

pub returns-in-Value-clause-within : goal.returns-in-Value-clause-within
returns-in-Value-clause-within t c =
    after_whole c.measure_slots.result c.after_word.result _ c.after_word.ensures (c.in-Value.ensures.long c.in-Value.field-0 refl)
    (λ n is. shorter c.args.bytes.now n (c.measure_slots.ensures.within n is))

pub after_word-requires-in-Value-read_word-2-clause-within : goal.after_word-requires-in-Value-read_word-2-clause-within
after_word-requires-in-Value-read_word-2-clause-within t c =
    after_whole c.measure_slots-in-Value-read_word.result c.after_word-in-Value-read_word.result _ c.after_word-in-Value-read_word.ensures (c.in-Value-read_word.ensures.long c.in-Value-read_word.field-0 refl)
    (λ n is. shorter (behind c.args.bytes.now) n (c.measure_slots-in-Value-read_word.ensures.within n is))

pub returns-in-Value-read_word-clause-within : goal.returns-in-Value-read_word-clause-within
returns-in-Value-read_word-clause-within t c =
    after_whole c.after_word-in-Value-read_word.result c.after_word-in-Value-read_word-2.result _ c.after_word-in-Value-read_word-2.ensures (c.in-Value-read_length.ensures.long c.in-Value-read_length.n refl)
    (λ n is. shorter c.args.bytes.now n
    (after_whole c.measure_slots-in-Value-read_word.result c.after_word-in-Value-read_word.result _ c.after_word-in-Value-read_word.ensures (c.in-Value-read_word.ensures.long c.in-Value-read_word.field-0 refl)
    (λ n is. shorter (behind c.args.bytes.now) n (c.measure_slots-in-Value-read_word.ensures.within n is)) n is))

pub returns-in-Value-clause-at : goal.returns-in-Value-clause-at
returns-in-Value-clause-at t c =
    after_bad c.measure_slots.result c.after_word.result _ c.after_word.ensures (c.in-Value.ensures.long c.in-Value.field-0 refl)
    (λ n is. shorter c.args.bytes.now n (c.measure_slots.ensures.at n is))

pub after_word-requires-in-Value-read_word-2-clause-at : goal.after_word-requires-in-Value-read_word-2-clause-at
after_word-requires-in-Value-read_word-2-clause-at t c =
    after_bad c.measure_slots-in-Value-read_word.result c.after_word-in-Value-read_word.result _ c.after_word-in-Value-read_word.ensures (c.in-Value-read_word.ensures.long c.in-Value-read_word.field-0 refl)
    (λ n is. shorter (behind c.args.bytes.now) n (c.measure_slots-in-Value-read_word.ensures.at n is))

pub returns-in-Value-read_word-clause-at : goal.returns-in-Value-read_word-clause-at
returns-in-Value-read_word-clause-at t c =
    after_bad c.after_word-in-Value-read_word.result c.after_word-in-Value-read_word-2.result _ c.after_word-in-Value-read_word-2.ensures (c.in-Value-read_length.ensures.long c.in-Value-read_length.n refl)
    (λ n is. shorter c.args.bytes.now n
    (after_bad c.measure_slots-in-Value-read_word.result c.after_word-in-Value-read_word.result _ c.after_word-in-Value-read_word.ensures (c.in-Value-read_word.ensures.long c.in-Value-read_word.field-0 refl)
    (λ n is. shorter (behind c.args.bytes.now) n (c.measure_slots-in-Value-read_word.ensures.at n is)) n is))

pub returns-in-Short-read_word-clause-within : goal.returns-in-Short-read_word-clause-within
returns-in-Short-read_word-clause-within t c =
    after_whole Short c.after_word-in-Short-read_word.result _ c.after_word-in-Short-read_word.ensures (c.in-Value-read_length.ensures.long c.in-Value-read_length.n refl)
    (λ n is. whole_no n is)

pub returns-in-Short-read_word-clause-at : goal.returns-in-Short-read_word-clause-at
returns-in-Short-read_word-clause-at t c =
    after_bad Short c.after_word-in-Short-read_word.result _ c.after_word-in-Short-read_word.ensures (c.in-Value-read_length.ensures.long c.in-Value-read_length.n refl)
    (λ n is. bad_no n is)

pub returns-in-Bad-read_word-clause-within : goal.returns-in-Bad-read_word-clause-within
returns-in-Bad-read_word-clause-within t c =
    after_whole (Bad c.in-Bad-read_word.at) c.after_word-in-Bad-read_word.result _ c.after_word-in-Bad-read_word.ensures (c.in-Value-read_length.ensures.long c.in-Value-read_length.n refl)
    (λ n is. bad_not_whole _ n is)

pub returns-in-Bad-read_word-clause-at : goal.returns-in-Bad-read_word-clause-at
returns-in-Bad-read_word-clause-at t c =
    after_bad (Bad c.in-Bad-read_word.at) c.after_word-in-Bad-read_word.result _ c.after_word-in-Bad-read_word.ensures (c.in-Value-read_length.ensures.long c.in-Value-read_length.n refl)
    (λ n is. shorter c.args.bytes.now n (bad_at c.in-Bad-read_word.at n _ is (c.in-Bad-read_word.ensures.at c.in-Bad-read_word.at refl)))
