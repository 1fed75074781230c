use Rattle.std.proofs.Common.{◌≡◌, ℕ, ◌+◌, ◌<◌, ◌≤◌, false, List, [], ◌∷◌, ◌++◌, length, get_or, take, Option, Some, None, Result, Ok, Err, refl, sym, ap, ◌∙◌, arith, rules}
use Rattle.std.specs.Result.{is_err, IfOk, OnOk, OnErr}
use Rattle.std.specs.Option.{IfSome, IfNone}
use Rattle.std.specs.declared.alloc.AllocError.{AllocError}
use Rattle.std.proofs.Math.Seq.{take-append_seam}
use Rattle.std.proofs.lemmas.List.{get_or_push}
use Rattle.xti_model.specs.declared.script.Line.{Line}
use Rattle.xti_model.specs.Resolve.{opens, listens}
use Rattle.xti_script_reader.specs.Names.{Defining}
use Rattle.xti_script_reader.specs.Known.{IfAdded, TakesName}
use Rattle.xti_script_reader.specs.TextSets.{TextSet}
use Rattle.xti_script_reader.specs.Reading.{line_with, room_after}
use Rattle.xti_script_reader.proofs.draft.add_line.Goals as goal
use Rattle.xti_script_reader.proofs.draft.add_line.Goals.{in_default-via-in-Ok+in-None-1, in_default-via-in-Err-1}

abbrev Room : Type 0
Room = Result (Option ℕ) AllocError

-- what was pushed is what is read
line_is : (old reserved pushed count : List Line) (got line : Line) → count ≡ old → reserved ≡ old → pushed ≡ reserved ++ line ∷ [] → got ≡ get_or pushed (length count) got → got ≡ line
line_is old reserved pushed count got line c r p g =
    let e : get_or pushed (length count) got ≡ line = rw (p, r, c) (get_or_push old line got (length old) refl) in
    g ∙ e

has_worker : {got line : Line} (sets : List TextSet) → got ≡ line → line.worker < length sets → got.worker < length sets
has_worker sets e h = rw e h

has_room : (r : Result (Unit {0}) AllocError) (n m : ℕ) → false ≡ is_err r → OnOk r (n + 1 ≤ m) → n < m
has_room (Ok x) n m e h = omega arith
has_room (Err x) n m e h = absurd cc

below : {a b n m : ℕ} → a ≡ b → n ≡ b → m ≡ n + 1 → a < m
below p q r = omega arith

room_is : {got line : Line} {count lines : List Line} {room : Option ℕ} (left : ℕ) → count ≡ lines → got ≡ line → room ≡ room_after (length count) left got.call → room ≡ room_after (length lines) left line.call
room_is left c e h = rw (sym c, sym e) h

takes : {room : Option ℕ} {left : ℕ} {got line : Line} (d : Defining) (old new : List TextSet) → room ≡ Some left → got ≡ line → IfSome room (λ _. TakesName d got old new) → TakesName d line old new
takes d old new r e h = rw e at (rw r at h)

-- without a line, nothing is said of one
none_added : {refused result : Room} (P : Type 0) → refused ≡ result → IfAdded result ⊥ → IfAdded refused P
none_added P e h = rw e (by _ h)
  where
    by : (r : Room) → IfAdded r ⊥ → IfAdded r P
    by (Ok (Some left)) h = absurd h
    by (Ok None) h = tt
    by (Err x) h = tt

shortened : {old reserved pushed count cut : List Line} (line : Line) → count ≡ old → reserved ≡ old → pushed ≡ reserved ++ line ∷ [] → cut ≡ take (length count) pushed → cut ≡ old
shortened {old = old} line c r p t = t ∙ rw (p, r, c) (take-append_seam old (line ∷ []))

same_if_none : (r : Room) (P : Type 0) → P → IfOk r (λ room. IfNone room P)
same_if_none (Ok (Some left)) P h = tt
same_if_none (Ok None) P h = h
same_if_none (Err x) P h = tt

same_if_err : (r : Room) (P : Type 0) → P → OnErr r P
same_if_err (Ok x) P h = tt
same_if_err (Err x) P h = h

of_ok : {refused result : Room} (P : Option ℕ → Type 0) → refused ≡ result → IfOk result P → IfOk refused P
of_ok P e h = rw e h

of_err : {refused result : Room} (P : Type 0) → refused ≡ result → OnErr result P → OnErr refused P
of_err P e h = rw e h

room_of : {refused result : Room} {got line : Line} {count lines : List Line} (left : ℕ) → refused ≡ result → count ≡ lines → got ≡ line → IfOk result (λ room. room ≡ room_after (length count) left got.call) → IfOk refused (λ room. room ≡ room_after (length lines) left line.call)
room_of left r c e h = rw (r, sym c, sym e) h

pub returns-then-is_err-clause-opened_kept : goal.returns-then-is_err-clause-opened_kept
returns-then-is_err-clause-opened_kept c at other = refl

pub returns-then-is_err-clause-listened_kept : goal.returns-then-is_err-clause-listened_kept
returns-then-is_err-clause-listened_kept c at other = refl

pub returns-then-is_err-clause-kept : goal.returns-then-is_err-clause-kept
returns-then-is_err-clause-kept c = c.reserve.ensures.items

pub push_reserved-requires : goal.push_reserved-requires
push_reserved-requires c = has_room _ _ _ c.if-is_err.ensures.value c.reserve.ensures.ok

pub index-requires : goal.index-requires
index-requires c = below c.as_slice-count.ensures.len c.reserve.ensures.len c.push_reserved.ensures.len

pub admit-requires-clause-endpoints : goal.admit-requires-clause-endpoints
admit-requires-clause-endpoints c =
    has_worker _ (line_is _ _ _ _ _ _ c.as_slice-count.ensures.value c.reserve.ensures.items c.push_reserved.ensures.items c.index.ensures) c.requires.endpoints

pub admit-requires-clause-sequences : goal.admit-requires-clause-sequences
admit-requires-clause-sequences c =
    has_worker _ (line_is _ _ _ _ _ _ c.as_slice-count.ensures.value c.reserve.ensures.items c.push_reserved.ensures.items c.index.ensures) c.requires.sequences

pub returns-in-Ok-Some-clause-room : goal.returns-in-Ok-Some-clause-room
returns-in-Ok-Some-clause-room c =
    let e = line_is _ _ _ _ _ _ c.as_slice-count.ensures.value c.reserve.ensures.items c.push_reserved.ensures.items c.index.ensures in
    sym c.in-Ok-Some.field-0-is ∙ room_is c.args.left c.as_slice-count.ensures.value e c.in-Ok-Some.ensures.room

pub returns-in-Ok-Some-clause-opened : goal.returns-in-Ok-Some-clause-opened
returns-in-Ok-Some-clause-opened c =
    let e = line_is _ _ _ _ _ _ c.as_slice-count.ensures.value c.reserve.ensures.items c.push_reserved.ensures.items c.index.ensures in
    takes opens _ _ c.in-Ok-Some.field-0-is e c.in-Ok-Some.ensures.opened

pub returns-in-Ok-Some-clause-listened : goal.returns-in-Ok-Some-clause-listened
returns-in-Ok-Some-clause-listened c =
    let e = line_is _ _ _ _ _ _ c.as_slice-count.ensures.value c.reserve.ensures.items c.push_reserved.ensures.items c.index.ensures in
    takes listens _ _ c.in-Ok-Some.field-0-is e c.in-Ok-Some.ensures.listened

pub returns-in-Ok-Some-clause-more : goal.returns-in-Ok-Some-clause-more
returns-in-Ok-Some-clause-more c = c.push_reserved.ensures.items ∙ ap (λ (l : List Line). l ++ line_with c.args.worker c.args.call ∷ []) c.reserve.ensures.items

refused_is : (c : goal.After-shorten) → c.in_default-1.refused ≡ c.admit.result
refused_is c = elim c.in_default-1.branch [ in_default-via-in-Ok+in-None-1 w ↦ search rules | in_default-via-in-Err-1 w ↦ w.refused-is ]

not_added : (c : goal.After-shorten) → IfAdded c.admit.result ⊥
not_added c = elim c.in_default-1.branch [ in_default-via-in-Ok+in-None-1 w ↦ search rules | in_default-via-in-Err-1 w ↦ search rules ]

pub returns-in_default-clause-room : goal.returns-in_default-clause-room
returns-in_default-clause-room c =
    let e = line_is _ _ _ _ _ _ c.as_slice-count.ensures.value c.reserve.ensures.items c.push_reserved.ensures.items c.index.ensures in
    room_of c.args.left (refused_is c) c.as_slice-count.ensures.value e c.admit.ensures.room

pub returns-in_default-clause-opened : goal.returns-in_default-clause-opened
returns-in_default-clause-opened c = none_added _ (refused_is c) (not_added c)

pub returns-in_default-clause-listened : goal.returns-in_default-clause-listened
returns-in_default-clause-listened c = none_added _ (refused_is c) (not_added c)

pub returns-in_default-clause-more : goal.returns-in_default-clause-more
returns-in_default-clause-more c = none_added _ (refused_is c) (not_added c)

pub returns-in_default-clause-opened_same : goal.returns-in_default-clause-opened_same
returns-in_default-clause-opened_same c = of_ok (λ room. IfNone room (c.admit.new.opened ≡ c.args.opened.now)) (refused_is c) c.admit.ensures.opened_same

pub returns-in_default-clause-listened_same : goal.returns-in_default-clause-listened_same
returns-in_default-clause-listened_same c = of_ok (λ room. IfNone room (c.admit.new.listened ≡ c.args.listened.now)) (refused_is c) c.admit.ensures.listened_same

pub returns-in_default-clause-same : goal.returns-in_default-clause-same
returns-in_default-clause-same c =
    same_if_none _ _ (shortened _ c.as_slice-count.ensures.value c.reserve.ensures.items c.push_reserved.ensures.items c.shorten.ensures)

pub returns-in_default-clause-opened_kept : goal.returns-in_default-clause-opened_kept
returns-in_default-clause-opened_kept c = of_err _ (refused_is c) c.admit.ensures.opened_kept

pub returns-in_default-clause-listened_kept : goal.returns-in_default-clause-listened_kept
returns-in_default-clause-listened_kept c = of_err _ (refused_is c) c.admit.ensures.listened_kept

pub returns-in_default-clause-kept : goal.returns-in_default-clause-kept
returns-in_default-clause-kept c =
    same_if_err _ _ (shortened _ c.as_slice-count.ensures.value c.reserve.ensures.items c.push_reserved.ensures.items c.shorten.ensures)
