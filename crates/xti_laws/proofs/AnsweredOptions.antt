-- The options that a negotiation answers are bytes, and its result is a number of 32 bits.
use Rattle.std.proofs.Common.{ℕ, Bool, true, false, List, [], ◌∷◌, ◌++◌, ◌+◌, ◌≡◌, ◌<◌, ◌≤◌, refl, sym, ap, ◌∙◌, subst, cond, eqb, replicate, length, Some, None, arith, append_assoc}
use Rattle.std.specs.Prelude.{nat_lt, nat_le}
use Rattle.std.proofs.lemmas.List.Elements.{All-append, All-replicate}
use Rattle.xti_base.specs.declared.options.Opt.{Opt}
use Rattle.xti_base.specs.Options.{word, word_bytes, filling, option_bytes, options_bytes}
use Rattle.xti_base.specs.Negotiation.{Settings, Negotiated, Answer, Meaning, send_size, receive_size, low_water, unknown, answer, answered, without_setting, sized, asked_size, buffer_answer, low_water_answer, answer_meant, meaning, negotiate_one, negotiate_from, negotiate, only_asks, low_water_mark, most_room, badness, worse, t_success, t_failure, t_partsuccess, t_readonly, t_negotiate, t_check, t_current}
use Rattle.xti_model.specs.SentBytes.{AreBytes}
use Rattle.xti_laws.proofs.ByteLists.{none-bytes, word-bytes}

-- an answer's value is bytes, and its result small
abbrev Fits : Answer → Type 0
Fits a = AreBytes a.value × (a.result ≤ 1024)

sized-fits : (current n : ℕ) → Fits (sized current n)
sized-fits current n = go (eqb n 0) (nat_le n 65536)
  where
    go : (b d : Bool) → Fits (cond b (answer t_failure (word_bytes current) None) (cond d (answer t_success (word_bytes n) (Some n)) (answer t_partsuccess (word_bytes most_room) (Some most_room))))
    go true d = (word-bytes current, omega arith)
    go false true = (word-bytes n, omega arith)
    go false false = (word-bytes most_room, omega arith)

asked-fits : (current : ℕ) (value : List ℕ) → Fits (asked_size current value)
asked-fits current value = go (eqb (length value) 4)
  where
    go : (b : Bool) → Fits (cond b (sized current (word 0 value)) (answer t_failure (word_bytes current) None))
    go true = sized-fits current (word 0 value)
    go false = (word-bytes current, omega arith)

buffer-fits : (action current start : ℕ) (value : List ℕ) → Fits (buffer_answer action current start value)
buffer-fits action current start value = go (only_asks action value) (eqb action t_negotiate) (eqb action t_check) (eqb action t_current)
  where
    go : (a b c d : Bool) → Fits (cond a (answer t_success [] None) (cond b (asked_size current value) (cond c (without_setting (asked_size current value)) (cond d (answer t_success (word_bytes current) None) (answer t_success (word_bytes start) None)))))
    go true b c d = (none-bytes, omega arith)
    go false true c d = asked-fits current value
    go false false true d = asked-fits current value
    go false false false true = (word-bytes current, omega arith)
    go false false false false = (word-bytes start, omega arith)

low-fits : (action : ℕ) (value : List ℕ) → Fits (low_water_answer action value)
low-fits action value = go (only_asks action value)
  where
    go : (a : Bool) → Fits (cond a (answer t_readonly [] None) (answer t_readonly (word_bytes low_water_mark) None))
    go true = (none-bytes, omega arith)
    go false = (word-bytes low_water_mark, omega arith)

meant-fits : (s : Settings) (action : ℕ) (value : List ℕ) (m : Meaning) → Fits (answer_meant s action value m)
meant-fits s action value send_size = buffer-fits action s.sndbuf s.start_sndbuf value
meant-fits s action value receive_size = buffer-fits action s.rcvbuf s.start_rcvbuf value
meant-fits s action value low_water = low-fits action value
meant-fits s action value unknown = (none-bytes, omega arith)

one-bytes : (o : Opt) → AreBytes o.value → AreBytes (option_bytes o)
one-bytes o h =
    let a = All-append (λ b. b < 256) (word_bytes (16 + length o.value)) (word_bytes o.level) (word-bytes (16 + length o.value)) (word-bytes o.level) in
    let b = All-append (λ b. b < 256) (word_bytes (16 + length o.value) ++ word_bytes o.level) (word_bytes o.name) a (word-bytes o.name) in
    let c = All-append (λ b. b < 256) (word_bytes (16 + length o.value) ++ word_bytes o.level ++ word_bytes o.name) (word_bytes o.status) b (word-bytes o.status) in
    let d = All-append (λ b. b < 256) (word_bytes (16 + length o.value) ++ word_bytes o.level ++ word_bytes o.name ++ word_bytes o.status) o.value c h in
    All-append (λ b. b < 256) (word_bytes (16 + length o.value) ++ word_bytes o.level ++ word_bytes o.name ++ word_bytes o.status ++ o.value) (replicate (filling (length o.value)) 0) d (All-replicate (λ b. b < 256) (filling (length o.value)) 0 (omega arith))

bytes-append : (xs ys : List Opt) → options_bytes (xs ++ ys) ≡ options_bytes xs ++ options_bytes ys
bytes-append [] ys = refl
bytes-append (x ∷ xs) ys = ap (λ z. option_bytes x ++ z) (bytes-append xs ys) ∙ sym (append_assoc (option_bytes x) (options_bytes xs) (options_bytes ys))

worse-small : (a b : ℕ) → a ≤ 1024 → b ≤ 1024 → worse a b ≤ 1024
worse-small a b h k = go (nat_lt (badness a) (badness b))
  where
    go : (c : Bool) → cond c b a ≤ 1024
    go true = k
    go false = h

-- what is negotiated so far
abbrev FitsSoFar : Negotiated → Type 0
FitsSoFar n = AreBytes (options_bytes n.options) × (n.result ≤ 1024)

all-fit : (n : Negotiated) (action : ℕ) (os : List Opt) → FitsSoFar n → FitsSoFar (negotiate_from n action os)
all-fit n action [] h = h
all-fit n action (o ∷ os) h =
    let a : Answer = answer_meant n.settings action o.value (meaning o) in
    let f : Fits a = meant-fits n.settings action o.value (meaning o) in
    let one : AreBytes (option_bytes (answered o a) ++ []) = All-append (λ b. b < 256) (option_bytes (answered o a)) [] (one-bytes (answered o a) f.0) none-bytes in
    all-fit (negotiate_one n o a) action os (
      subst AreBytes (sym (bytes-append n.options (answered o a ∷ []))) (All-append (λ b. b < 256) (options_bytes n.options) (option_bytes (answered o a) ++ []) h.0 one),
      worse-small n.result a.result h.1 f.1,
    )

pub negotiated-fits : (s : Settings) (action : ℕ) (os : List Opt) → FitsSoFar (negotiate s action os)
negotiated-fits s action os = all-fit (record { settings = s; options = []; result = t_success }) action os (none-bytes, omega arith)
