-- A worker's entries where a history grows by one, and facts on lists for it.
use Rattle.std.specs.Prelude.{ℕ, ◌+◌, ◌≤◌, Bool, List, [], ◌∷◌, ◌++◌, length, map, take, filter, slice_get, Some, ◌≡◌, if◌then◌else◌}
use Rattle.std.specs.List.{AllByRecursion}
use Rattle.std.proofs.Common.{refl, ap, ◌∙◌, arith}
use Rattle.std.proofs.lemmas.List.{take_more}
use Rattle.std.proofs.lemmas.List.Elements.{filter-append}
use Rattle.std.proofs.lemmas.Option.{slice_get_within, get_or_from_slice_get}
use Rattle.xti_model.specs.declared.entry.Act.{Act}
use Rattle.xti_model.specs.declared.entry.Act.TheVariants as act
use Rattle.xti_model.specs.declared.entry.Entry.{Entry}
use Rattle.xti_model.specs.declared.script.NamedCall.{NamedCall}
use Rattle.xti_model.specs.declared.script.Line.{Line}
use Rattle.xti_model.specs.History.{is_own, own}
use Rattle.xti_model.specs.Resolve.{is_begin, begun, answer_of}
use Rattle.xti_model.specs.Complete.{begun_calls}

pub own-append : (past es : List Entry) (worker : ℕ) → own (past ++ es) worker ≡ own past worker ++ own es worker
own-append past es worker = filter-append (is_own worker) past es

pub begun-append : (past es : List Entry) (worker : ℕ) → begun (past ++ es) worker ≡ begun past worker ++ begun es worker
begun-append past es worker = ap (filter (λ e. is_begin e.act)) (own-append past es worker) ∙ filter-append (λ e. is_begin e.act) (own past worker) (own es worker)

pub begun_calls-append : (xs ys : List Entry) → begun_calls (xs ++ ys) ≡ begun_calls xs ++ begun_calls ys
begun_calls-append [] ys = refl
begun_calls-append (x ∷ xs) ys = by_act x.act refl (begun_calls-append xs ys)
  where
    by_act : (a : Act) → x.act ≡ a → begun_calls (xs ++ ys) ≡ begun_calls xs ++ begun_calls ys → begun_calls (x ∷ xs ++ ys) ≡ begun_calls (x ∷ xs) ++ begun_calls ys
    by_act (act.Begin c) e ih = simp (e, ih) refl
    by_act act.More e ih = simp (e, ih) refl

-- what the first entries answered stays where later ones come
pub answer_of-more : (test : NamedCall → Bool) (lines : List Line) (es more : List Entry) → length lines ≤ length es →
    answer_of test lines (es ++ more) ≡ answer_of test lines es
answer_of-more test [] es more h = refl
answer_of-more test (line ∷ lines) [] more h = absurd (omega arith)
answer_of-more test (line ∷ lines) (e ∷ es) more h = ap (λ o. if test line.call then Some e.outcome else o) (answer_of-more test lines es more (omega arith))

pub take-one_more : {X : Type 0} (xs : List X) (k : ℕ) (x : X) → slice_get xs k ≡ Some x → take (k + 1) xs ≡ take k xs ++ x ∷ []
take-one_more xs k x h = take_more xs k x (slice_get_within xs k x h) ∙ ap (λ y. take k xs ++ y ∷ []) (get_or_from_slice_get xs k x x h)

pub all-append : {X : Type 0} (P : X → Type 0) (xs ys : List X) → AllByRecursion P xs → AllByRecursion P ys → AllByRecursion P (xs ++ ys)
all-append P [] ys h g = g
all-append P (x ∷ xs) ys h g = (h.0, all-append P xs ys h.1 g)

pub all-split : {X : Type 0} (P : X → Type 0) (xs ys : List X) → AllByRecursion P (xs ++ ys) → AllByRecursion P xs × AllByRecursion P ys
all-split P [] ys h = (tt, h)
all-split P (x ∷ xs) ys h = let rest = all-split P xs ys h.1 in ((h.0, rest.0), rest.1)

pub all-then : {X : Type 0} (P Q : X → Type 0) → ((x : X) → P x → Q x) → (xs : List X) → AllByRecursion P xs → AllByRecursion Q xs
all-then P Q f [] h = tt
all-then P Q f (x ∷ xs) h = (f x h.0, all-then P Q f xs h.1)

pub map-same : {X Y : Type 0} (f g : X → Y) (xs : List X) → AllByRecursion (λ x. f x ≡ g x) xs → map f xs ≡ map g xs
map-same f g [] h = refl
map-same f g (x ∷ xs) h = λ i. h.0 i ∷ map-same f g xs h.1 i
