-- Lists of options, one after the other.
use Rattle.std.proofs.Common.{◌≡◌, ◌≤◌, ◌<◌, ◌+◌, ◌-◌, ◌==◌, ◌∙◌, sym, ℕ, zero, suc, List, [], ◌∷◌, ◌++◌, length, take, drop, true, false, Bool, refl, ap, arith, is_some, length-drop, option_map, Option, None, Some, unwrap_or, inl, inr}
use Rattle.std.proofs.lemmas.List.{take-append-drop, length-take-le, drop_all}
use Rattle.std.proofs.lemmas.Bool.{cases_lt}
use Rattle.std.proofs.Math.Seq.{take-add}
use Rattle.std.proofs.lemmas.Bool.Decides.{nat_tests}
use Rattle.xti_base.specs.declared.options.Opt.{Opt}
use Rattle.xti_base.specs.Options.{begins_option, behind_option, front_option, front_size, options_within, read_options, is_option_list, the_options, IsFirstWrongOption}
use Rattle.xti_base.proofs.OptionLists.{front_within, behind_shorter, bound_enough, no_option, no_bytes, rest_decides}
use Rattle.xti_opt.proofs.Fronts.{begins_kept, option_kept, behind_kept, begins_alone, size_alone}

abbrev pub headed : Opt → Option (List Opt) → Option (List Opt)
headed o rest = option_map (λ os. o ∷ os) rest

read_step : (most b : ℕ) (bytes : List ℕ) → begins_option (b ∷ bytes) ≡ true
    → options_within (suc most) (b ∷ bytes) ≡ headed (front_option (b ∷ bytes)) (options_within most (behind_option (b ∷ bytes)))
unfolding options_within
read_step most b bytes begins = rw (begins, options_within) refl

-- the first option is read first, and the others from what comes after it
pub read_front : (bytes : List ℕ) → begins_option bytes ≡ true → read_options bytes ≡ headed (front_option bytes) (read_options (behind_option bytes))
read_front [] begins = absurd (let sizes = front_within [] begins in let no : ⊥ = omega (arith, sizes.0, sizes.1) in no)
read_front (b ∷ bytes) begins =
    let shorter = behind_shorter (b ∷ bytes) begins in
    read_step (length bytes) b bytes begins
    ∙ ap (λ o. headed (front_option (b ∷ bytes)) o) (bound_enough (length bytes) (length (behind_option (b ∷ bytes))) (behind_option (b ∷ bytes)) (omega (arith, shorter)) (omega arith))

pub is_some_value : (o : Option (List Opt)) → is_some o ≡ true → o ≡ Some (unwrap_or o [])
is_some_value None h = cc
is_some_value (Some os) h = refl

-- a list of options is read
pub read_list : (bytes : List ℕ) → is_option_list bytes ≡ true → read_options bytes ≡ Some (the_options bytes)
unfolding is_option_list
read_list bytes h = is_some_value (read_options bytes) h

pub list_read : (bytes : List ℕ) (os : List Opt) → read_options bytes ≡ Some os → is_option_list bytes ≡ true
unfolding is_option_list
list_read bytes os h = ap is_some h

filled : (bytes : List ℕ) → 0 < length bytes → (length bytes == 0) ≡ false
filled bytes h = grind (arith, nat_tests)

begun : (bytes : List ℕ) (b : Bool) → begins_option bytes ≡ b → is_option_list bytes ≡ true → 0 < length bytes → begins_option bytes ≡ true
begun bytes true e is filled = e
begun [] false e is filled = absurd (let no : ⊥ = omega arith in no)
begun (x ∷ bytes) false e is some =
    let none : is_option_list (x ∷ bytes) ≡ false = no_option (x ∷ bytes) (filled (x ∷ bytes) some) e in
    cc

-- a list that isn't empty begins with an option
pub list_begins : (bytes : List ℕ) → is_option_list bytes ≡ true → 0 < length bytes → begins_option bytes ≡ true
list_begins bytes is filled = begun bytes (begins_option bytes) refl is filled

joined_none : (o : Option (List Opt)) → o ≡ option_map (λ os. [] ++ os) o
joined_none None = refl
joined_none (Some os) = refl

joined_more : (first : Opt) (firsts : List Opt) (o : Option (List Opt))
    → headed first (option_map (λ os. firsts ++ os) o) ≡ option_map (λ os. (first ∷ firsts) ++ os) o
joined_more first firsts None = refl
joined_more first firsts (Some os) = refl

front_of_options : (o : Opt) (bytes behind : List ℕ) → read_options bytes ≡ headed o (read_options behind) → is_option_list behind ≡ true → the_options bytes ≡ o ∷ the_options behind
front_of_options o bytes behind e h = ap (λ r. unwrap_or r []) (e ∙ ap (headed o) (read_list behind h))

pub behind_is_list : (bytes : List ℕ) → begins_option bytes ≡ true → is_option_list bytes ≡ true → is_option_list (behind_option bytes) ≡ true
behind_is_list [] begins h = absurd (let sizes = front_within [] begins in let no : ⊥ = omega (arith, sizes.0, sizes.1) in no)
behind_is_list (b ∷ bytes) begins h = rest_decides (b ∷ bytes) (filled (b ∷ bytes) (omega arith)) begins ∙ h

pub options_front : (bytes : List ℕ) → begins_option bytes ≡ true → is_option_list bytes ≡ true → the_options bytes ≡ front_option bytes ∷ the_options (behind_option bytes)
options_front bytes begins h =
    front_of_options (front_option bytes) bytes (behind_option bytes) (read_front bytes begins) (behind_is_list bytes begins h)

-- a list where no option begins has none
pub no_more : (bytes : List ℕ) → is_option_list bytes ≡ true → begins_option bytes ≡ false → the_options bytes ≡ []
unfolding options_within
no_more [] is none = refl
no_more (b ∷ bytes) is none =
    let begins : begins_option (b ∷ bytes) ≡ true = list_begins (b ∷ bytes) is (omega arith) in
    absurd (cc)

-- a list of options and other bytes after it: the options of both
append_within : (most : ℕ) (xs ys : List ℕ) → length xs ≤ most → is_option_list xs ≡ true
    → read_options (xs ++ ys) ≡ option_map (λ os. the_options xs ++ os) (read_options ys)
unfolding options_within
append_within most [] ys h is = joined_none (read_options ys)
append_within zero (b ∷ xs) ys h is = absurd (let no : ⊥ = omega arith in no)
append_within (suc most) (b ∷ xs) ys h is =
    let begins : begins_option (b ∷ xs) ≡ true = list_begins (b ∷ xs) is (omega arith) in
    let sizes = front_within (b ∷ xs) begins in
    let shorter = behind_shorter (b ∷ xs) begins in
    let both : begins_option ((b ∷ xs) ++ ys) ≡ true = begins_kept (b ∷ xs) ys (omega (arith, sizes.0, sizes.1)) sizes.1 ∙ begins in
    let first : front_option ((b ∷ xs) ++ ys) ≡ front_option (b ∷ xs) = option_kept (b ∷ xs) ys begins in
    let behind : behind_option ((b ∷ xs) ++ ys) ≡ behind_option (b ∷ xs) ++ ys = behind_kept (b ∷ xs) ys begins in
    let rest = append_within most (behind_option (b ∷ xs)) ys (omega (arith, shorter)) (behind_is_list (b ∷ xs) begins is) in
    read_front ((b ∷ xs) ++ ys) both
    ∙ ap (λ o. headed o (read_options (behind_option ((b ∷ xs) ++ ys)))) first
    ∙ ap (λ l. headed (front_option (b ∷ xs)) (read_options l)) behind
    ∙ ap (headed (front_option (b ∷ xs))) rest
    ∙ joined_more (front_option (b ∷ xs)) (the_options (behind_option (b ∷ xs))) (read_options ys)
    ∙ ap (λ firsts. option_map (λ os. firsts ++ os) (read_options ys)) (sym (options_front (b ∷ xs) begins is))

pub read-append : (xs ys : List ℕ) → is_option_list xs ≡ true → read_options (xs ++ ys) ≡ option_map (λ os. the_options xs ++ os) (read_options ys)
read-append xs ys is = append_within (length xs) xs ys (omega arith) is

is_some_map : (firsts : List Opt) (o : Option (List Opt)) → is_some (option_map (λ os. firsts ++ os) o) ≡ is_some o
is_some_map firsts None = refl
is_some_map firsts (Some os) = refl

-- after a list of options the rest decides
pub is_list-append : (xs ys : List ℕ) → is_option_list xs ≡ true → is_option_list (xs ++ ys) ≡ is_option_list ys
unfolding is_option_list
is_list-append xs ys is = ap is_some (read-append xs ys is) ∙ is_some_map (the_options xs) (read_options ys)

-- an option is a list of one
pub one_is_list : (bytes : List ℕ) → begins_option bytes ≡ true → front_size bytes ≡ length bytes → is_option_list bytes ≡ true
one_is_list [] begins size = absurd (let sizes = front_within [] begins in let no : ⊥ = omega (arith, sizes.0, sizes.1) in no)
one_is_list (b ∷ bytes) begins size =
    let none : behind_option (b ∷ bytes) ≡ [] = drop_all (front_size (b ∷ bytes)) (b ∷ bytes) (omega (arith, size)) in
    sym (rest_decides (b ∷ bytes) (filled (b ∷ bytes) (omega arith)) begins) ∙ ap is_option_list none ∙ no_bytes [] refl

-- one more option after a list of them
pub one_more : (bytes : List ℕ) (at : ℕ) → is_option_list (take at bytes) ≡ true → begins_option (drop at bytes) ≡ true → is_option_list (take (at + front_size (drop at bytes)) bytes) ≡ true
one_more bytes at before begins =
    ap is_option_list (take-add at (front_size (drop at bytes)) bytes)
    ∙ is_list-append (take at bytes) (take (front_size (drop at bytes)) (drop at bytes)) before
    ∙ one_is_list (take (front_size (drop at bytes)) (drop at bytes)) (begins_alone (drop at bytes) begins) (size_alone (drop at bytes) begins)

-- where an option is wrong, the bytes are no list of options
pub wrong_is_no_list : (bytes : List ℕ) (at : ℕ) → IsFirstWrongOption bytes at → is_option_list bytes ≡ false
wrong_is_no_list bytes at wrong =
    let left : 0 < length (drop at bytes) = omega (arith, wrong.inside, length-drop at bytes) in
    sym (ap is_option_list (take-append-drop at bytes))
    ∙ is_list-append (take at bytes) (drop at bytes) wrong.options_before
    ∙ no_option (drop at bytes) (filled (drop at bytes) left) wrong.none_begins

-- no wrong option stands after another
never_later : (bytes : List ℕ) (at later : ℕ) → IsFirstWrongOption bytes at → IsFirstWrongOption bytes later → at < later → ⊥
never_later bytes at later wrong other h =
    let rest : List ℕ = drop at bytes in
    let between : List ℕ = take (later - at) rest in
    let before : is_option_list (take at bytes ++ between) ≡ true =
    ap is_option_list (sym (take-add at (later - at) bytes) ∙ ap (λ k. take k bytes) (let e : at + (later - at) ≡ later = omega arith in e)) ∙ other.options_before in
    let is : is_option_list between ≡ true = sym (is_list-append (take at bytes) between wrong.options_before) ∙ before in
    let some : length between ≡ later - at = length-take-le (later - at) rest (omega (arith, length-drop at bytes, other.inside)) in
    let begins : begins_option between ≡ true = list_begins between is (omega (arith, some)) in
    let sizes = front_within between begins in
    let kept : begins_option (between ++ drop (later - at) rest) ≡ true = begins_kept between (drop (later - at) rest) (omega (arith, sizes.0, sizes.1)) sizes.1 ∙ begins in
    let whole : between ++ drop (later - at) rest ≡ rest = take-append-drop (later - at) rest in
    let yes : begins_option rest ≡ true = sym (ap begins_option whole) ∙ kept in
    let no : begins_option rest ≡ false = wrong.none_begins in
    absurd (cc)

-- only one option is the first that is wrong
pub one_first_wrong : (bytes : List ℕ) (at other : ℕ) → IsFirstWrongOption bytes at → IsFirstWrongOption bytes other → at ≡ other
one_first_wrong bytes at other wrong wrong' =
    elim (cases_lt at other) [
      | inl below ↦ absurd (never_later bytes at other wrong wrong' below)
      | inr not_below ↦ elim (cases_lt other at) [ inl above ↦ absurd (never_later bytes other at wrong' wrong above) | inr not_above ↦ omega arith ]
    ]
