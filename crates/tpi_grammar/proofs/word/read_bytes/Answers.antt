use Rattle.std.proofs.Common.{◌≡◌, ◌≤◌, ◌<◌, ◌+◌, ◌*◌, ◌-◌, ℕ, Bool, true, false, List, [], ◌∷◌, Fits, w8, length, get_or, take, drop, drop-drop, length-drop, refl, ap, sym, subst, ◌∙◌, arith, zero-add, lt-ltb}
use Rattle.std.proofs.lemmas.List.{take_rest, get_or-drop}
use Rattle.tpi_grammar.specs.Form.{Form, Outcome, bad, byte, later, scan, short}
use Rattle.tpi_grammar.specs.Word.{after_word, may_follow, viable, word}
use Rattle.tpi_grammar.specs.declared.word.Range.{Range}
use Rattle.tpi_grammar.specs.declared.word.WordRead.TheVariants.{Bad, Short, Value}
use Rattle.tpi_grammar.proofs.word.read_bytes.Goals as goal

abbrev at : List ℕ → ℕ
at bs = get_or bs 0 0

abbrev rest : List ℕ → List ℕ
rest bs = take (length bs - 1) (drop 1 bs)

front : (bs : List ℕ) → 1 ≤ length bs → bs ≡ at bs ∷ rest bs
front [] h = absurd (omega (arith, h))
front (b ∷ bs) h = ap (λ xs. b ∷ xs) (sym (take_rest (b ∷ bs) 1))

abbrev AreBytes : List ℕ → Type 0
AreBytes bs = (i : ℕ) → Fits w8 (get_or bs i 0)

rest_bytes : (bs : List ℕ) → AreBytes bs → AreBytes (rest bs)
rest_bytes bs small i = rw (take_rest bs 1, get_or-drop 1 bs i) (small (1 + i))

rest_is : (bs : List ℕ) → rest bs ≡ drop 1 bs
rest_is bs = take_rest bs 1

drops : (bs : List ℕ) → drop 1 (drop 1 (drop 1 (drop 1 bs))) ≡ drop 4 bs
drops bs = simp drop-drop

rests : (bs : List ℕ) → rest (rest (rest (rest bs))) ≡ drop 4 bs
rests bs =
    rest_is (rest (rest (rest bs))) ∙ ap (drop 1) (rest_is (rest (rest bs)) ∙ ap (drop 1) (rest_is (rest bs) ∙ ap (drop 1) (rest_is bs)))
    ∙ drops bs

longer : (k : ℕ) (bs : List ℕ) → k < length (rest bs) → k + 1 < length bs
longer k bs more = omega (arith, more, ap length (rest_is bs), length-drop 1 bs)

bad_within : (k n len : ℕ) → Bad k ≡ Bad n → k < len → n < len
bad_within k n len same less = let is : k ≡ n = cc in omega (arith, is, less)

no_value : {P : Type 0} (k v : ℕ) → Bad k ≡ Value v → P
no_value k v is = absurd (cc)

short_no_value : {P : Type 0} (v : ℕ) → Short ≡ Value v → P
short_no_value v is = absurd (cc)

short_not_bad : {P : Type 0} (n : ℕ) → Short ≡ Bad n → P
short_not_bad n is = absurd (cc)

value_not_bad : {P : Type 0} (v n : ℕ) → Value v ≡ Bad n → P
value_not_bad v n is = absurd (cc)

value_met : (rs : List Range) (read v : ℕ) → Value read ≡ Value v → viable rs 1 read ≡ true → viable rs 1 v ≡ true
value_met rs read v is met = let same : read ≡ v = cc in subst (λ n. viable rs 1 n ≡ true) same met

-- the bytes begin with one that may follow x, or may not
record Told (rs : List Range) (m x : ℕ) (bs : List ℕ) (t : Bool) : Type 0 where
  there : 1 ≤ length bs
  tells : may_follow rs m x (at bs) ≡ t

told : (rs : List Range) (m x : ℕ) (bs : List ℕ) (r t : Bool) → 1 ≤ length bs → AreBytes bs → r ≡ viable rs m (256 * x + at bs) → r ≡ t → Told rs m x bs t
told rs m x bs r t there small says is = record { there = there; tells = rw (lt-ltb (at bs) 256 (omega (arith, small 0))) (sym says ∙ is) }

first : (rs : List Range) (bs : List ℕ) (r t : Bool) → 1 ≤ length bs → AreBytes bs → r ≡ viable rs 16777216 (at bs) → r ≡ t → Told rs 16777216 0 bs t
first rs bs r t there small says is = told rs 16777216 0 bs r t there small (subst (λ n. r ≡ viable rs 16777216 n) (sym (zero-add (at bs))) says) is

ends : (ok : ℕ → Bool) (form : ℕ → Form) (bs : List ℕ) → length bs < 1 → scan (byte ok form) bs ≡ short
ends ok form [] h = refl
ends ok form (b ∷ bs) h = absurd (omega (arith, h))

stops : (rs : List Range) (m x : ℕ) (form : ℕ → Form) (bs : List ℕ) → Told rs m x bs false → scan (byte (may_follow rs m x) form) bs ≡ bad 0
stops rs m x form bs b = rw (front bs b.there) (rw b.tells refl)

goes_on : (rs : List Range) (m x : ℕ) (form : ℕ → Form) (bs : List ℕ) (o : Outcome) → Told rs m x bs true → scan (form (at bs)) (rest bs) ≡ o → scan (byte (may_follow rs m x) form) bs ≡ later o
goes_on rs m x form bs o b is = subst (λ xs. scan (byte (may_follow rs m x) form) xs ≡ later o) (sym (front bs b.there)) (rw b.tells (ap later is))

-- what is read behind one, two and three bytes of a word
abbrev fourth : List Range → (ℕ → Form) → ℕ → Form
fourth rs next x = byte (may_follow rs 1 x) (λ d. next (256 * x + d))

abbrev third : List Range → (ℕ → Form) → ℕ → Form
third rs next x = byte (may_follow rs 256 x) (λ c. fourth rs next (256 * x + c))

abbrev second : List Range → (ℕ → Form) → ℕ → Form
second rs next x = byte (may_follow rs 65536 x) (λ b. third rs next (256 * x + b))

module _ (rs : List Range) (next : ℕ → Form) where
  ends_first : (bs : List ℕ) → length bs < 1 → scan (word rs next) bs ≡ short
  unfolding word
  ends_first bs less = ends (may_follow rs 16777216 0) (second rs next) bs less

  stops_first : (bs : List ℕ) → Told rs 16777216 0 bs false → scan (word rs next) bs ≡ bad 0
  unfolding word
  stops_first bs b = stops rs 16777216 0 (second rs next) bs b

  on_first : (bs : List ℕ) (o : Outcome) → Told rs 16777216 0 bs true → scan (second rs next (at bs)) (rest bs) ≡ o
      → scan (word rs next) bs ≡ later o
  unfolding word
  on_first bs o b is = goes_on rs 16777216 0 (second rs next) bs o b is

  on_second : (bs : List ℕ) (o : Outcome) (x : ℕ) → Told rs 65536 x bs true → scan (third rs next (256 * x + at bs)) (rest bs) ≡ o
      → scan (second rs next x) bs ≡ later o
  on_second bs o x b is = goes_on rs 65536 x (λ y. third rs next (256 * x + y)) bs o b is

  on_third : (bs : List ℕ) (o : Outcome) (x : ℕ) → Told rs 256 x bs true → scan (fourth rs next (256 * x + at bs)) (rest bs) ≡ o
      → scan (third rs next x) bs ≡ later o
  on_third bs o x b is = goes_on rs 256 x (λ y. fourth rs next (256 * x + y)) bs o b is

-- reading a word, where each byte before the last that was read may follow
module _ (rs : List Range) (bs : List ℕ) (one : Told rs 16777216 0 bs true) where
  short_two : length (rest bs) < 1 → (next : ℕ → Form) → scan (word rs next) bs ≡ short
  short_two less next = on_first rs next bs short one (ends _ (λ y. third rs next (256 * at bs + y)) (rest bs) less)

  bad_two : Told rs 65536 (at bs) (rest bs) false → (next : ℕ → Form) → scan (word rs next) bs ≡ bad 1
  bad_two two next = on_first rs next bs (bad 0) one (stops rs 65536 (at bs) (λ y. third rs next (256 * at bs + y)) (rest bs) two)

  module _ (two : Told rs 65536 (at bs) (rest bs) true) where
    on_two : (o : Outcome) (next : ℕ → Form) → scan (third rs next (256 * at bs + at (rest bs))) (rest (rest bs)) ≡ o
        → scan (word rs next) bs ≡ later (later o)
    on_two o next is = on_first rs next bs (later o) one (on_second rs next (rest bs) o (at bs) two is)

    short_three : length (rest (rest bs)) < 1 → (next : ℕ → Form) → scan (word rs next) bs ≡ short
    short_three less next =
        on_two short next (ends _ (λ y. fourth rs next (256 * (256 * at bs + at (rest bs)) + y)) (rest (rest bs)) less)

    bad_three : Told rs 256 (256 * at bs + at (rest bs)) (rest (rest bs)) false → (next : ℕ → Form) → scan (word rs next) bs ≡ bad 2
    bad_three three next =
        on_two (bad 0) next (stops rs 256 _ (λ y. fourth rs next (256 * (256 * at bs + at (rest bs)) + y)) (rest (rest bs)) three)

    module _ (three : Told rs 256 (256 * at bs + at (rest bs)) (rest (rest bs)) true) where
      abbrev begun : ℕ
      begun = 256 * (256 * at bs + at (rest bs)) + at (rest (rest bs))

      abbrev last : List ℕ
      last = rest (rest (rest bs))

      on_three : (o : Outcome) (next : ℕ → Form) → scan (fourth rs next begun) last ≡ o → scan (word rs next) bs ≡ later (later (later o))
      on_three o next is = on_two (later o) next (on_third rs next (rest (rest bs)) o (256 * at bs + at (rest bs)) three is)

      short_four : length last < 1 → (next : ℕ → Form) → scan (word rs next) bs ≡ short
      short_four less next = on_three short next (ends _ (λ y. next (256 * begun + y)) last less)

      bad_four : Told rs 1 begun last false → (next : ℕ → Form) → scan (word rs next) bs ≡ bad 3
      bad_four four next = on_three (bad 0) next (stops rs 1 begun (λ y. next (256 * begun + y)) last four)

      reads_four : Told rs 1 begun last true → (next : ℕ → Form)
          → scan (word rs next) bs ≡ after_word (scan (next (256 * begun + at last)) (drop 4 bs))
      reads_four four next =
          on_three (later (scan (next (256 * begun + at last)) (drop 4 bs))) next
          (goes_on rs 1 begun (λ y. next (256 * begun + y)) last _ four (ap (scan (next (256 * begun + at last))) (rests bs)))

pub returns-in_default-clause-scans : goal.returns-in_default-clause-scans
returns-in_default-clause-scans g c = λ next. ends_first (g.C.Choice.ranges c.args.choice.now) next c.args.bytes.now c.in_default.len_below

pub returns-then-not-is_viable-clause-scans : goal.returns-then-not-is_viable-clause-scans
returns-then-not-is_viable-clause-scans g c = λ next.
    stops_first (g.C.Choice.ranges c.args.choice.now) next c.args.bytes.now
    (first _ c.args.bytes.now _ _ c.in-len1-up.len_at_least c.type_inv.bytes c.is_viable.ensures c.if-not-is_viable.true)

pub returns-in_default-rest-clause-scans : goal.returns-in_default-rest-clause-scans
returns-in_default-rest-clause-scans g c =
    short_two (g.C.Choice.ranges c.args.choice.now) c.args.bytes.now
    (first _ c.args.bytes.now _ _ c.in-len1-up.len_at_least c.type_inv.bytes c.is_viable.ensures c.if-not-is_viable.false)
    c.in_default-rest.len_below

pub returns-then-not-is_viable-2-clause-scans : goal.returns-then-not-is_viable-2-clause-scans
returns-then-not-is_viable-2-clause-scans g c =
    let bs = c.args.bytes.now in
    bad_two (g.C.Choice.ranges c.args.choice.now) bs
    (first _ bs _ _ c.in-len1-up.len_at_least c.type_inv.bytes c.is_viable.ensures c.if-not-is_viable.false)
    (told _ 65536 _ (rest bs) _ _ c.in-len1-up-rest.len_at_least (rest_bytes bs c.type_inv.bytes) c.is_viable-2.ensures c.if-not-is_viable-2.true)

pub returns-in_default-rest-2-clause-scans : goal.returns-in_default-rest-2-clause-scans
returns-in_default-rest-2-clause-scans g c =
    let bs = c.args.bytes.now in
    short_three (g.C.Choice.ranges c.args.choice.now) bs
    (first _ bs _ _ c.in-len1-up.len_at_least c.type_inv.bytes c.is_viable.ensures c.if-not-is_viable.false)
    (told _ 65536 _ (rest bs) _ _ c.in-len1-up-rest.len_at_least (rest_bytes bs c.type_inv.bytes) c.is_viable-2.ensures c.if-not-is_viable-2.false)
    c.in_default-rest-2.len_below

pub returns-then-not-is_viable-3-clause-scans : goal.returns-then-not-is_viable-3-clause-scans
returns-then-not-is_viable-3-clause-scans g c =
    let bs = c.args.bytes.now in
    bad_three (g.C.Choice.ranges c.args.choice.now) bs
    (first _ bs _ _ c.in-len1-up.len_at_least c.type_inv.bytes c.is_viable.ensures c.if-not-is_viable.false)
    (told _ 65536 _ (rest bs) _ _ c.in-len1-up-rest.len_at_least (rest_bytes bs c.type_inv.bytes) c.is_viable-2.ensures c.if-not-is_viable-2.false)
    (told _ 256 _ (rest (rest bs)) _ _ c.in-len1-up-rest-2.len_at_least (rest_bytes (rest bs) (rest_bytes bs c.type_inv.bytes)) c.is_viable-3.ensures c.if-not-is_viable-3.true)

pub returns-in_default-rest-3-clause-scans : goal.returns-in_default-rest-3-clause-scans
returns-in_default-rest-3-clause-scans g c =
    let bs = c.args.bytes.now in
    short_four (g.C.Choice.ranges c.args.choice.now) bs
    (first _ bs _ _ c.in-len1-up.len_at_least c.type_inv.bytes c.is_viable.ensures c.if-not-is_viable.false)
    (told _ 65536 _ (rest bs) _ _ c.in-len1-up-rest.len_at_least (rest_bytes bs c.type_inv.bytes) c.is_viable-2.ensures c.if-not-is_viable-2.false)
    (told _ 256 _ (rest (rest bs)) _ _ c.in-len1-up-rest-2.len_at_least (rest_bytes (rest bs) (rest_bytes bs c.type_inv.bytes)) c.is_viable-3.ensures c.if-not-is_viable-3.false)
    c.in_default-rest-3.len_below

pub returns-then-not-is_viable-4-clause-scans : goal.returns-then-not-is_viable-4-clause-scans
returns-then-not-is_viable-4-clause-scans g c =
    let bs = c.args.bytes.now in
    bad_four (g.C.Choice.ranges c.args.choice.now) bs
    (first _ bs _ _ c.in-len1-up.len_at_least c.type_inv.bytes c.is_viable.ensures c.if-not-is_viable.false)
    (told _ 65536 _ (rest bs) _ _ c.in-len1-up-rest.len_at_least (rest_bytes bs c.type_inv.bytes) c.is_viable-2.ensures c.if-not-is_viable-2.false)
    (told _ 256 _ (rest (rest bs)) _ _ c.in-len1-up-rest-2.len_at_least (rest_bytes (rest bs) (rest_bytes bs c.type_inv.bytes)) c.is_viable-3.ensures c.if-not-is_viable-3.false)
    (told _ 1 _ (rest (rest (rest bs))) _ _ c.in-len1-up-rest-3.len_at_least (rest_bytes (rest (rest bs)) (rest_bytes (rest bs) (rest_bytes bs c.type_inv.bytes))) c.is_viable-4.ensures c.if-not-is_viable-4.true)

pub returns-clause-scans : goal.returns-clause-scans
returns-clause-scans g c =
    let bs = c.args.bytes.now in
    reads_four (g.C.Choice.ranges c.args.choice.now) bs
    (first _ bs _ _ c.in-len1-up.len_at_least c.type_inv.bytes c.is_viable.ensures c.if-not-is_viable.false)
    (told _ 65536 _ (rest bs) _ _ c.in-len1-up-rest.len_at_least (rest_bytes bs c.type_inv.bytes) c.is_viable-2.ensures c.if-not-is_viable-2.false)
    (told _ 256 _ (rest (rest bs)) _ _ c.in-len1-up-rest-2.len_at_least (rest_bytes (rest bs) (rest_bytes bs c.type_inv.bytes)) c.is_viable-3.ensures c.if-not-is_viable-3.false)
    (told _ 1 _ (rest (rest (rest bs))) _ _ c.in-len1-up-rest-3.len_at_least (rest_bytes (rest (rest bs)) (rest_bytes (rest bs) (rest_bytes bs c.type_inv.bytes))) c.is_viable-4.ensures c.if-not-is_viable-4.false)

pub returns-in_default-clause-long : goal.returns-in_default-clause-long
returns-in_default-clause-long g c v is = short_no_value v is

pub returns-in_default-clause-met : goal.returns-in_default-clause-met
returns-in_default-clause-met g c v is = short_no_value v is

pub returns-in_default-clause-at : goal.returns-in_default-clause-at
returns-in_default-clause-at g c n is = short_not_bad n is

pub returns-in_default-rest-clause-long : goal.returns-in_default-rest-clause-long
returns-in_default-rest-clause-long g c v is = short_no_value v is

pub returns-in_default-rest-clause-met : goal.returns-in_default-rest-clause-met
returns-in_default-rest-clause-met g c v is = short_no_value v is

pub returns-in_default-rest-clause-at : goal.returns-in_default-rest-clause-at
returns-in_default-rest-clause-at g c n is = short_not_bad n is

pub returns-in_default-rest-2-clause-long : goal.returns-in_default-rest-2-clause-long
returns-in_default-rest-2-clause-long g c v is = short_no_value v is

pub returns-in_default-rest-2-clause-met : goal.returns-in_default-rest-2-clause-met
returns-in_default-rest-2-clause-met g c v is = short_no_value v is

pub returns-in_default-rest-2-clause-at : goal.returns-in_default-rest-2-clause-at
returns-in_default-rest-2-clause-at g c n is = short_not_bad n is

pub returns-in_default-rest-3-clause-long : goal.returns-in_default-rest-3-clause-long
returns-in_default-rest-3-clause-long g c v is = short_no_value v is

pub returns-in_default-rest-3-clause-met : goal.returns-in_default-rest-3-clause-met
returns-in_default-rest-3-clause-met g c v is = short_no_value v is

pub returns-in_default-rest-3-clause-at : goal.returns-in_default-rest-3-clause-at
returns-in_default-rest-3-clause-at g c n is = short_not_bad n is

pub returns-then-not-is_viable-clause-long : goal.returns-then-not-is_viable-clause-long
returns-then-not-is_viable-clause-long g c v is = no_value _ v is

pub returns-then-not-is_viable-clause-met : goal.returns-then-not-is_viable-clause-met
returns-then-not-is_viable-clause-met g c v is = no_value _ v is

pub returns-then-not-is_viable-clause-at : goal.returns-then-not-is_viable-clause-at
returns-then-not-is_viable-clause-at g c n is = bad_within 0 n _ is (c.in-len1-up.len_at_least)

pub returns-then-not-is_viable-2-clause-long : goal.returns-then-not-is_viable-2-clause-long
returns-then-not-is_viable-2-clause-long g c v is = no_value _ v is

pub returns-then-not-is_viable-2-clause-met : goal.returns-then-not-is_viable-2-clause-met
returns-then-not-is_viable-2-clause-met g c v is = no_value _ v is

pub returns-then-not-is_viable-2-clause-at : goal.returns-then-not-is_viable-2-clause-at
returns-then-not-is_viable-2-clause-at g c n is = bad_within 1 n _ is (longer 0 c.args.bytes.now c.in-len1-up-rest.len_at_least)

pub returns-then-not-is_viable-3-clause-long : goal.returns-then-not-is_viable-3-clause-long
returns-then-not-is_viable-3-clause-long g c v is = no_value _ v is

pub returns-then-not-is_viable-3-clause-met : goal.returns-then-not-is_viable-3-clause-met
returns-then-not-is_viable-3-clause-met g c v is = no_value _ v is

pub returns-then-not-is_viable-3-clause-at : goal.returns-then-not-is_viable-3-clause-at
returns-then-not-is_viable-3-clause-at g c n is = bad_within 2 n _ is (longer 1 c.args.bytes.now (longer 0 (rest c.args.bytes.now) c.in-len1-up-rest-2.len_at_least))

pub returns-then-not-is_viable-4-clause-long : goal.returns-then-not-is_viable-4-clause-long
returns-then-not-is_viable-4-clause-long g c v is = no_value _ v is

pub returns-then-not-is_viable-4-clause-met : goal.returns-then-not-is_viable-4-clause-met
returns-then-not-is_viable-4-clause-met g c v is = no_value _ v is

pub returns-then-not-is_viable-4-clause-at : goal.returns-then-not-is_viable-4-clause-at
returns-then-not-is_viable-4-clause-at g c n is = bad_within 3 n _ is (longer 2 c.args.bytes.now (longer 1 (rest c.args.bytes.now) (longer 0 (rest (rest c.args.bytes.now)) c.in-len1-up-rest-3.len_at_least)))

pub returns-clause-long : goal.returns-clause-long
returns-clause-long g c v is = longer 2 c.args.bytes.now (longer 1 (rest c.args.bytes.now) (longer 0 (rest (rest c.args.bytes.now)) c.in-len1-up-rest-3.len_at_least))

pub returns-clause-met : goal.returns-clause-met
returns-clause-met g c v is = value_met _ _ v is (sym c.is_viable-4.ensures ∙ c.if-not-is_viable-4.false)

pub returns-clause-at : goal.returns-clause-at
returns-clause-at g c n is = value_not_bad _ n is
