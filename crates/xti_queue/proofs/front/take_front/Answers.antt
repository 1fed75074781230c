use Rattle.std.proofs.Common.{rules, ◌≡◌, ◌≤◌, ◌<◌, ◌+◌, ◌-◌, ◌++◌, ℕ, List, [], ◌∷◌, length, take, drop, min, vec_len, slice_index_or, arith, refl, sym, ap, subst, ◌∙◌, length-append, length-take, length-drop}
use Rattle.xti_queue.specs.Indications.{begun, left_behind}
use Rattle.tpi_grammar.specs.Frame.{AreBytes}
use Rattle.tpi_prim.specs.Fields.{primitive_in}
use Rattle.tpi_prim.specs.Primitive.{user_of}
use Rattle.xti_queue.specs.Front.{AreLastOf, symbols_in}
use Rattle.xti_queue.specs.Kept.{AllWait, IsWithin}
use Rattle.xti_queue.specs.declared.front.Step.TheVariants.{Ended, More, Stopped}
use Rattle.xti_queue.proofs.Steps.{IsFirst, bytes-append, bytes-take, can_first, wait-drop, within_none, cut_moves, cut_stops, cut_left, cut_room, end_moves, more_moves, end_left, more_left, none_stops, none_left}
use Rattle.xti_queue.proofs.front.take_front.Goals as goal

-- a step is one of three
stopped_ended : {P : Type 0} → Stopped ≡ Ended → P
stopped_ended is = absurd (cc)

stopped_more : {P : Type 0} → Stopped ≡ More → P
stopped_more is = absurd (cc)

ended_more : {P : Type 0} → Ended ≡ More → P
ended_more is = absurd (cc)

ended_stopped : {P : Type 0} → Ended ≡ Stopped → P
ended_stopped is = absurd (cc)

more_ended : {P : Type 0} → More ≡ Ended → P
more_ended is = absurd (cc)

more_stopped : {P : Type 0} → More ≡ Stopped → P
more_stopped is = absurd (cc)

-- the frames stay, or the first is gone
last_itself : (xs : List (List ℕ)) → AreLastOf xs xs
last_itself xs = let none : 0 ≡ length xs - length xs = omega arith in ap (λ k. drop k xs) none

last_by : (xs ys : List (List ℕ)) → ys ≡ drop 1 xs → 0 < length xs → AreLastOf xs ys
last_by xs ys is some =
    let one : 1 ≡ length xs - length ys = omega (arith, ap length is, length-drop 1 xs, some) in
    is ∙ ap (λ k. drop k xs) one

shorter_by : (xs ys : List (List ℕ)) → ys ≡ drop 1 xs → length ys ≤ length xs
shorter_by xs ys is = omega (arith, ap length is, length-drop 1 xs)

same_le : (n : ℕ) → n ≤ n
same_le n = omega arith

most_by : (new old k len max : ℕ) (u : List ℕ) → new ≡ old + length (take k u) → k ≡ min (length u) (max - len) → len ≡ old → old ≤ max → new ≤ max
most_by new old k len max u grown least is most = omega (arith, grown, least, is, most, length-take k u)

bytes_by : (k : ℕ) (b c u : List ℕ) → c ≡ b ++ take k u → AreBytes b → AreBytes u → AreBytes c
bytes_by k b c u is old more = subst AreBytes (sym is) (bytes-append b (take k u) old (bytes-take k u more))

within_first : (hs : List (List ℕ)) (f : List ℕ) (n : ℕ) → 0 < length hs → f ≡ slice_index_or hs 0 f → IsWithin n hs → n ≤ length (user_of (primitive_in f))
within_first [] f n some is within = absurd (omega (arith, some))
within_first (h ∷ hs) f n some is within = omega (arith, within, ap (λ x. length (user_of (primitive_in x))) is)

within_by : (hs : List (List ℕ)) (f : List ℕ) (n k : ℕ) (u : List ℕ) → IsFirst hs f n u → k < length u → IsWithin (n + k) hs
within_by [] f n k u first less = absurd (omega (arith, first.some))
within_by (h ∷ hs) f n k u first less =
    omega (arith, less, ap length first.user, length-drop n (user_of (primitive_in f)), ap (λ x. length (user_of (primitive_in x))) first.is)

pub unwrap-requires : goal.unwrap-requires
unwrap-requires c =
    let some : 0 < length c.args.held.now.items = c.in-Some.ensures.item.3.0 in
    let is : c.in-Some.frame.now ≡ slice_index_or c.args.held.now.items 0 c.in-Some.frame.now = c.in-Some.ensures.lookup in
    let first : IsFirst c.args.held.now.items c.in-Some.frame.now c.args.taken.now c.rest_of-rest.result.now =
    record { some = some; is = is; wait = c.requires.wait; user = c.rest_of-rest.ensures.rest; bytes = c.rest_of-rest.ensures.bytes } in
    let taken : length (take c.min-count.result c.rest_of-rest.result.now) ≡ min c.min-count.result (length c.rest_of-rest.result.now) = length-take c.min-count.result c.rest_of-rest.result.now in
    let joined : length (c.args.bytes.now.items ++ take c.min-count.result c.rest_of-rest.result.now) ≡ length c.args.bytes.now.items + length (take c.min-count.result c.rest_of-rest.result.now) = length-append c.args.bytes.now.items (take c.min-count.result c.rest_of-rest.result.now) in
    let most : length (c.args.bytes.now.items ++ take c.min-count.result c.rest_of-rest.result.now) ≤ c.args.max = omega (arith, taken, joined, c.min-count.ensures, c.len.ensures, c.requires.most) in
    c.extend_from_slice.ensures.succeeds (omega (arith, joined, c.requires.room, cut_room c.args.held.now.items c.in-Some.frame.now c.args.taken.now c.min-count.result c.args.max c.rest_of-rest.result.now c.args.bytes.now.items first c.requires.are_bytes most))

pub overflow_add-taken : goal.overflow_add-taken
overflow_add-taken c = omega (arith, c.if-count-rest.true, c.rest_of-rest.ensures.most)

pub returns-in_default-clause-stops : goal.returns-in_default-clause-stops
returns-in_default-clause-stops c = λ _. none_stops c.args.held.now.items c.args.taken.now _ _ (λ some. absurd (search rules))

pub returns-in_default-clause-left : goal.returns-in_default-clause-left
returns-in_default-clause-left c = λ _. none_left c.args.held.now.items c.args.taken.now _ (λ some. absurd (search rules))

pub returns-then-count-rest-clause-other : goal.returns-then-count-rest-clause-other
returns-then-count-rest-clause-other c = λ _.
    let some : 0 < length c.args.held.now.items = c.in-Some.ensures.item.3.0 in
    let is : c.in-Some.frame.now ≡ slice_index_or c.args.held.now.items 0 c.in-Some.frame.now = c.in-Some.ensures.lookup in
    let first : IsFirst c.args.held.now.items c.in-Some.frame.now c.args.taken.now c.rest_of-rest.result.now =
    record { some = some; is = is; wait = c.requires.wait; user = c.rest_of-rest.ensures.rest; bytes = c.rest_of-rest.ensures.bytes } in
    let more : c.extend_from_slice.new.self.items ≡ c.args.bytes.now.items ++ take c.min-count.result c.rest_of-rest.result.now = rw c.unwrap.ensures at c.extend_from_slice.ensures.items in
    cut_moves c.args.held.now.items c.in-Some.frame.now c.args.taken.now c.min-count.result c.rest_of-rest.result.now c.args.bytes.now.items c.extend_from_slice.new.self.items first more

pub returns-then-count-rest-clause-stops : goal.returns-then-count-rest-clause-stops
returns-then-count-rest-clause-stops c = λ _.
    let some : 0 < length c.args.held.now.items = c.in-Some.ensures.item.3.0 in
    let is : c.in-Some.frame.now ≡ slice_index_or c.args.held.now.items 0 c.in-Some.frame.now = c.in-Some.ensures.lookup in
    let first : IsFirst c.args.held.now.items c.in-Some.frame.now c.args.taken.now c.rest_of-rest.result.now =
    record { some = some; is = is; wait = c.requires.wait; user = c.rest_of-rest.ensures.rest; bytes = c.rest_of-rest.ensures.bytes } in
    let more : c.extend_from_slice.new.self.items ≡ c.args.bytes.now.items ++ take c.min-count.result c.rest_of-rest.result.now = rw c.unwrap.ensures at c.extend_from_slice.ensures.items in
    let len : vec_len c.extend_from_slice.new.self ≡ vec_len c.args.bytes.now + length (take c.min-count.result c.rest_of-rest.result.now) = rw c.unwrap.ensures at c.extend_from_slice.ensures.len in
    let full : vec_len c.extend_from_slice.new.self ≡ c.args.max = omega (arith, len, length-take c.min-count.result c.rest_of-rest.result.now, c.if-count-rest.true, c.min-count.ensures, c.len.ensures, c.requires.most) in
    cut_stops c.args.held.now.items c.in-Some.frame.now c.args.taken.now c.min-count.result (vec_len c.extend_from_slice.new.self) c.args.max c.rest_of-rest.result.now first c.if-count-rest.true full

pub returns-then-count-rest-clause-left : goal.returns-then-count-rest-clause-left
returns-then-count-rest-clause-left c = λ _.
    let some : 0 < length c.args.held.now.items = c.in-Some.ensures.item.3.0 in
    let is : c.in-Some.frame.now ≡ slice_index_or c.args.held.now.items 0 c.in-Some.frame.now = c.in-Some.ensures.lookup in
    let first : IsFirst c.args.held.now.items c.in-Some.frame.now c.args.taken.now c.rest_of-rest.result.now =
    record { some = some; is = is; wait = c.requires.wait; user = c.rest_of-rest.ensures.rest; bytes = c.rest_of-rest.ensures.bytes } in
    let all : c.args.max - vec_len c.args.bytes.now ≡ c.min-count.result = omega (arith, c.if-count-rest.true, c.min-count.ensures, c.len.ensures) in
    ap (λ m. left_behind m (begun c.args.taken.now c.args.held.now.items)) all ∙ cut_left c.args.held.now.items c.in-Some.frame.now c.args.taken.now c.min-count.result c.rest_of-rest.result.now first c.if-count-rest.true

pub returns-then-ended-clause-ended : goal.returns-then-ended-clause-ended
returns-then-ended-clause-ended c = λ _.
    let some : 0 < length c.args.held.now.items = c.in-Some.ensures.item.3.0 in
    let is : c.in-Some.frame.now ≡ slice_index_or c.args.held.now.items 0 c.in-Some.frame.now = c.in-Some.ensures.lookup in
    let first : IsFirst c.args.held.now.items c.in-Some.frame.now c.args.taken.now c.rest_of-rest.result.now =
    record { some = some; is = is; wait = c.requires.wait; user = c.rest_of-rest.ensures.rest; bytes = c.rest_of-rest.ensures.bytes } in
    let more : c.extend_from_slice.new.self.items ≡ c.args.bytes.now.items ++ take c.min-count.result c.rest_of-rest.result.now = rw c.unwrap.ensures at c.extend_from_slice.ensures.items in
    end_moves c.args.held.now.items c.in-Some.frame.now c.args.taken.now c.min-count.result c.rest_of-rest.result.now c.args.bytes.now.items c.extend_from_slice.new.self.items first more c.if-count-rest.false (sym c.ends-ended.ensures ∙ c.if-ended.true)
    ∙ ap (λ l. c.extend_from_slice.new.self.items ++ 256 ∷ symbols_in 0 l) (sym c.pop_front.ensures.rest)

pub returns-then-ended-clause-left : goal.returns-then-ended-clause-left
returns-then-ended-clause-left c = λ _.
    let some : 0 < length c.args.held.now.items = c.in-Some.ensures.item.3.0 in
    let is : c.in-Some.frame.now ≡ slice_index_or c.args.held.now.items 0 c.in-Some.frame.now = c.in-Some.ensures.lookup in
    let first : IsFirst c.args.held.now.items c.in-Some.frame.now c.args.taken.now c.rest_of-rest.result.now =
    record { some = some; is = is; wait = c.requires.wait; user = c.rest_of-rest.ensures.rest; bytes = c.rest_of-rest.ensures.bytes } in
    let all : length c.rest_of-rest.result.now ≤ c.args.max - vec_len c.args.bytes.now = omega (arith, c.if-count-rest.false, c.min-count.ensures, c.len.ensures) in
    end_left c.args.held.now.items c.in-Some.frame.now c.args.taken.now _ c.rest_of-rest.result.now first all (sym c.ends-ended.ensures ∙ c.if-ended.true) ∙ ap (λ l. begun 0 l) (sym c.pop_front.ensures.rest)

pub returns-else-ended-clause-other : goal.returns-else-ended-clause-other
returns-else-ended-clause-other c = λ _.
    let some : 0 < length c.args.held.now.items = c.in-Some.ensures.item.3.0 in
    let is : c.in-Some.frame.now ≡ slice_index_or c.args.held.now.items 0 c.in-Some.frame.now = c.in-Some.ensures.lookup in
    let first : IsFirst c.args.held.now.items c.in-Some.frame.now c.args.taken.now c.rest_of-rest.result.now =
    record { some = some; is = is; wait = c.requires.wait; user = c.rest_of-rest.ensures.rest; bytes = c.rest_of-rest.ensures.bytes } in
    let more : c.extend_from_slice.new.self.items ≡ c.args.bytes.now.items ++ take c.min-count.result c.rest_of-rest.result.now = rw c.unwrap.ensures at c.extend_from_slice.ensures.items in
    more_moves c.args.held.now.items c.in-Some.frame.now c.args.taken.now c.min-count.result c.rest_of-rest.result.now c.args.bytes.now.items c.extend_from_slice.new.self.items first more c.if-count-rest.false (sym c.ends-ended.ensures ∙ c.if-ended.false)
    ∙ ap (λ l. c.extend_from_slice.new.self.items ++ symbols_in 0 l) (sym c.pop_front.ensures.rest)

pub returns-else-ended-clause-goes_on : goal.returns-else-ended-clause-goes_on
returns-else-ended-clause-goes_on c = λ _.
    let some : 0 < length c.args.held.now.items = c.in-Some.ensures.item.3.0 in
    let is : c.in-Some.frame.now ≡ slice_index_or c.args.held.now.items 0 c.in-Some.frame.now = c.in-Some.ensures.lookup in
    let first : IsFirst c.args.held.now.items c.in-Some.frame.now c.args.taken.now c.rest_of-rest.result.now =
    record { some = some; is = is; wait = c.requires.wait; user = c.rest_of-rest.ensures.rest; bytes = c.rest_of-rest.ensures.bytes } in
    let more : c.extend_from_slice.new.self.items ≡ c.args.bytes.now.items ++ take c.min-count.result c.rest_of-rest.result.now = rw c.unwrap.ensures at c.extend_from_slice.ensures.items in
    let all : length c.rest_of-rest.result.now ≤ c.args.max - vec_len c.args.bytes.now = omega (arith, c.if-count-rest.false, c.min-count.ensures, c.len.ensures) in
    let len : vec_len c.extend_from_slice.new.self ≡ vec_len c.args.bytes.now + length (take c.min-count.result c.rest_of-rest.result.now) = rw c.unwrap.ensures at c.extend_from_slice.ensures.len in
    let rest : c.args.max - vec_len c.args.bytes.now - length c.rest_of-rest.result.now ≡ c.args.max - vec_len c.extend_from_slice.new.self =
    omega (arith, all, len, length-take c.min-count.result c.rest_of-rest.result.now, c.if-count-rest.false) in
    more_left c.args.held.now.items c.in-Some.frame.now c.args.taken.now _ c.rest_of-rest.result.now first all (sym c.ends-ended.ensures ∙ c.if-ended.false)
    ∙ ap (λ m. left_behind m (begun 0 (drop 1 c.args.held.now.items))) rest
    ∙ ap (λ l. left_behind (c.args.max - vec_len c.extend_from_slice.new.self) (begun 0 l)) (sym c.pop_front.ensures.rest)

pub returns-in_default-clause-ended : goal.returns-in_default-clause-ended
returns-in_default-clause-ended c is = stopped_ended is

pub returns-in_default-clause-other : goal.returns-in_default-clause-other
returns-in_default-clause-other c is = refl

pub returns-in_default-clause-goes_on : goal.returns-in_default-clause-goes_on
returns-in_default-clause-goes_on c is = stopped_more is

pub returns-in_default-clause-falls : goal.returns-in_default-clause-falls
returns-in_default-clause-falls c is = stopped_more is

pub returns-in_default-clause-wait : goal.returns-in_default-clause-wait
returns-in_default-clause-wait c = c.requires.wait

pub returns-in_default-clause-within : goal.returns-in_default-clause-within
returns-in_default-clause-within c = c.requires.within

pub returns-in_default-clause-most : goal.returns-in_default-clause-most
returns-in_default-clause-most c = c.requires.most

pub returns-in_default-clause-are_bytes : goal.returns-in_default-clause-are_bytes
returns-in_default-clause-are_bytes c = c.requires.are_bytes

pub returns-in_default-clause-items : goal.returns-in_default-clause-items
returns-in_default-clause-items c = last_itself c.args.held.now.items

pub returns-in_default-clause-shorter : goal.returns-in_default-clause-shorter
returns-in_default-clause-shorter c = same_le _

pub returns-in_default-clause-bytes_capacity : goal.returns-in_default-clause-bytes_capacity
returns-in_default-clause-bytes_capacity c = same_le _

pub returns-in_default-clause-capacity : goal.returns-in_default-clause-capacity
returns-in_default-clause-capacity c = refl

pub rest_of-rest-requires : goal.rest_of-rest-requires
rest_of-rest-requires c =
    let some : 0 < length c.args.held.now.items = c.in-Some.ensures.item.3.0 in
    let is : c.in-Some.frame.now ≡ slice_index_or c.args.held.now.items 0 c.in-Some.frame.now = c.in-Some.ensures.lookup in
    within_first c.args.held.now.items c.in-Some.frame.now c.args.taken.now some is c.requires.within

pub returns-then-count-rest-clause-ended : goal.returns-then-count-rest-clause-ended
returns-then-count-rest-clause-ended c is = stopped_ended is

pub returns-then-count-rest-clause-goes_on : goal.returns-then-count-rest-clause-goes_on
returns-then-count-rest-clause-goes_on c is = stopped_more is

pub returns-then-count-rest-clause-falls : goal.returns-then-count-rest-clause-falls
returns-then-count-rest-clause-falls c is = stopped_more is

pub returns-then-count-rest-clause-wait : goal.returns-then-count-rest-clause-wait
returns-then-count-rest-clause-wait c = c.requires.wait

pub returns-then-count-rest-clause-within : goal.returns-then-count-rest-clause-within
returns-then-count-rest-clause-within c =
    let some : 0 < length c.args.held.now.items = c.in-Some.ensures.item.3.0 in
    let is : c.in-Some.frame.now ≡ slice_index_or c.args.held.now.items 0 c.in-Some.frame.now = c.in-Some.ensures.lookup in
    let first : IsFirst c.args.held.now.items c.in-Some.frame.now c.args.taken.now c.rest_of-rest.result.now =
    record { some = some; is = is; wait = c.requires.wait; user = c.rest_of-rest.ensures.rest; bytes = c.rest_of-rest.ensures.bytes } in
    within_by c.args.held.now.items c.in-Some.frame.now c.args.taken.now c.min-count.result c.rest_of-rest.result.now first c.if-count-rest.true

pub returns-then-count-rest-clause-most : goal.returns-then-count-rest-clause-most
returns-then-count-rest-clause-most c =
    let len : vec_len c.extend_from_slice.new.self ≡ vec_len c.args.bytes.now + length (take c.min-count.result c.rest_of-rest.result.now) = rw c.unwrap.ensures at c.extend_from_slice.ensures.len in
    most_by _ _ c.min-count.result c.len.result c.args.max c.rest_of-rest.result.now len c.min-count.ensures c.len.ensures c.requires.most

pub returns-then-count-rest-clause-are_bytes : goal.returns-then-count-rest-clause-are_bytes
returns-then-count-rest-clause-are_bytes c =
    let more : c.extend_from_slice.new.self.items ≡ c.args.bytes.now.items ++ take c.min-count.result c.rest_of-rest.result.now = rw c.unwrap.ensures at c.extend_from_slice.ensures.items in
    bytes_by c.min-count.result _ _ c.rest_of-rest.result.now more c.requires.are_bytes c.rest_of-rest.ensures.bytes

pub returns-then-count-rest-clause-items : goal.returns-then-count-rest-clause-items
returns-then-count-rest-clause-items c = last_itself c.args.held.now.items

pub returns-then-count-rest-clause-shorter : goal.returns-then-count-rest-clause-shorter
returns-then-count-rest-clause-shorter c = same_le _

pub returns-then-count-rest-clause-bytes_capacity : goal.returns-then-count-rest-clause-bytes_capacity
returns-then-count-rest-clause-bytes_capacity c = c.extend_from_slice.ensures.capacity

pub returns-then-count-rest-clause-capacity : goal.returns-then-count-rest-clause-capacity
returns-then-count-rest-clause-capacity c = refl

pub ends-ended-requires : goal.ends-ended-requires
ends-ended-requires c =
    let some : 0 < length c.args.held.now.items = c.in-Some.ensures.item.3.0 in
    let is : c.in-Some.frame.now ≡ slice_index_or c.args.held.now.items 0 c.in-Some.frame.now = c.in-Some.ensures.lookup in
    can_first c.args.held.now.items c.in-Some.frame.now some is c.requires.wait

pub returns-then-ended-clause-other : goal.returns-then-ended-clause-other
returns-then-ended-clause-other c not = absurd (not refl)

pub returns-then-ended-clause-stops : goal.returns-then-ended-clause-stops
returns-then-ended-clause-stops c is = ended_stopped is

pub returns-then-ended-clause-goes_on : goal.returns-then-ended-clause-goes_on
returns-then-ended-clause-goes_on c is = ended_more is

pub returns-then-ended-clause-falls : goal.returns-then-ended-clause-falls
returns-then-ended-clause-falls c is = ended_more is

pub returns-then-ended-clause-wait : goal.returns-then-ended-clause-wait
returns-then-ended-clause-wait c = subst AllWait (sym c.pop_front.ensures.rest) (wait-drop c.args.held.now.items c.requires.wait)

pub returns-then-ended-clause-within : goal.returns-then-ended-clause-within
returns-then-ended-clause-within c = within_none c.pop_front.new.self.items

pub returns-then-ended-clause-most : goal.returns-then-ended-clause-most
returns-then-ended-clause-most c =
    let len : vec_len c.extend_from_slice.new.self ≡ vec_len c.args.bytes.now + length (take c.min-count.result c.rest_of-rest.result.now) = rw c.unwrap.ensures at c.extend_from_slice.ensures.len in
    most_by _ _ c.min-count.result c.len.result c.args.max c.rest_of-rest.result.now len c.min-count.ensures c.len.ensures c.requires.most

pub returns-then-ended-clause-are_bytes : goal.returns-then-ended-clause-are_bytes
returns-then-ended-clause-are_bytes c =
    let more : c.extend_from_slice.new.self.items ≡ c.args.bytes.now.items ++ take c.min-count.result c.rest_of-rest.result.now = rw c.unwrap.ensures at c.extend_from_slice.ensures.items in
    bytes_by c.min-count.result _ _ c.rest_of-rest.result.now more c.requires.are_bytes c.rest_of-rest.ensures.bytes

pub returns-then-ended-clause-items : goal.returns-then-ended-clause-items
returns-then-ended-clause-items c =
    let some : 0 < length c.args.held.now.items = c.in-Some.ensures.item.3.0 in
    last_by c.args.held.now.items c.pop_front.new.self.items c.pop_front.ensures.rest some

pub returns-then-ended-clause-shorter : goal.returns-then-ended-clause-shorter
returns-then-ended-clause-shorter c = shorter_by c.args.held.now.items c.pop_front.new.self.items c.pop_front.ensures.rest

pub returns-then-ended-clause-bytes_capacity : goal.returns-then-ended-clause-bytes_capacity
returns-then-ended-clause-bytes_capacity c = c.extend_from_slice.ensures.capacity

pub returns-then-ended-clause-capacity : goal.returns-then-ended-clause-capacity
returns-then-ended-clause-capacity c = c.pop_front.ensures.capacity

pub returns-else-ended-clause-ended : goal.returns-else-ended-clause-ended
returns-else-ended-clause-ended c is = more_ended is

pub returns-else-ended-clause-stops : goal.returns-else-ended-clause-stops
returns-else-ended-clause-stops c is = more_stopped is

pub returns-else-ended-clause-left : goal.returns-else-ended-clause-left
returns-else-ended-clause-left c not = absurd (not refl)

pub returns-else-ended-clause-wait : goal.returns-else-ended-clause-wait
returns-else-ended-clause-wait c = subst AllWait (sym c.pop_front.ensures.rest) (wait-drop c.args.held.now.items c.requires.wait)

pub returns-else-ended-clause-within : goal.returns-else-ended-clause-within
returns-else-ended-clause-within c = within_none c.pop_front.new.self.items

pub returns-else-ended-clause-most : goal.returns-else-ended-clause-most
returns-else-ended-clause-most c =
    let len : vec_len c.extend_from_slice.new.self ≡ vec_len c.args.bytes.now + length (take c.min-count.result c.rest_of-rest.result.now) = rw c.unwrap.ensures at c.extend_from_slice.ensures.len in
    most_by _ _ c.min-count.result c.len.result c.args.max c.rest_of-rest.result.now len c.min-count.ensures c.len.ensures c.requires.most

pub returns-else-ended-clause-are_bytes : goal.returns-else-ended-clause-are_bytes
returns-else-ended-clause-are_bytes c =
    let more : c.extend_from_slice.new.self.items ≡ c.args.bytes.now.items ++ take c.min-count.result c.rest_of-rest.result.now = rw c.unwrap.ensures at c.extend_from_slice.ensures.items in
    bytes_by c.min-count.result _ _ c.rest_of-rest.result.now more c.requires.are_bytes c.rest_of-rest.ensures.bytes

pub returns-else-ended-clause-items : goal.returns-else-ended-clause-items
returns-else-ended-clause-items c =
    let some : 0 < length c.args.held.now.items = c.in-Some.ensures.item.3.0 in
    last_by c.args.held.now.items c.pop_front.new.self.items c.pop_front.ensures.rest some

pub returns-else-ended-clause-shorter : goal.returns-else-ended-clause-shorter
returns-else-ended-clause-shorter c = shorter_by c.args.held.now.items c.pop_front.new.self.items c.pop_front.ensures.rest

pub returns-else-ended-clause-bytes_capacity : goal.returns-else-ended-clause-bytes_capacity
returns-else-ended-clause-bytes_capacity c = c.extend_from_slice.ensures.capacity

pub returns-else-ended-clause-capacity : goal.returns-else-ended-clause-capacity
returns-else-ended-clause-capacity c = c.pop_front.ensures.capacity
