use Rattle.std.proofs.Common.{◌≡◌, ℕ, ◌≤◌, List, ◌++◌, append_assoc, ap, subst, ◌∙◌}
use Rattle.std.proofs.lemmas.Result.{IfOk-from_err}
use Rattle.tpi_grammar.specs.declared.kind.TheConstants.{MOST_CONTROL}
use Rattle.tpi_grammar.specs.Frame.{parts}
use Rattle.tpi_prim.specs.declared.encoding.Lent.{Lent}
use Rattle.tpi_prim.specs.Lent.{control_of, frame_of, front_of, values_of}
use Rattle.tpi_prim.proofs.encoding.Lent.write.Goals as goal

-- the front, the parts and the user data are the frame
whole : (lent : Lent) (control : ℕ) → control ≡ control_of lent → (front_of control lent ++ parts (values_of lent.fields)) ++ lent.user.now ≡ frame_of lent
whole lent control e =
    ap (λ (n : ℕ). (front_of n lent ++ parts (values_of lent.fields)) ++ lent.user.now) e

-- written in one go, and one after another
at-once : (lent : Lent) (control : ℕ) (old new written front with-parts all : List ℕ) → control ≡ control_of lent → new ≡ old ++ written → written ≡ all → all ≡ with-parts ++ lent.user.now
    → with-parts ≡ front ++ parts (values_of lent.fields) → front ≡ front_of control lent → new ≡ old ++ frame_of lent
at-once lent control old new written front with-parts all c n w a p f =
    let ps = parts (values_of lent.fields) in
    n ∙ ap (λ (xs : List ℕ). old ++ xs)
    (w ∙ (a ∙ (ap (λ (xs : List ℕ). xs ++ lent.user.now) (p ∙ ap (λ (xs : List ℕ). xs ++ ps) f) ∙ whole lent control c)))

in-turn : (lent : Lent) (control : ℕ) (old first second new written front : List ℕ) → control ≡ control_of lent → first ≡ old ++ written → written ≡ front → front ≡ front_of control lent
    → second ≡ first ++ parts (values_of lent.fields) → new ≡ second ++ lent.user.now → new ≡ old ++ frame_of lent
in-turn lent control old first second new written front c f w h p n =
    let ps = parts (values_of lent.fields) in
    let u = lent.user.now in
    let head = front_of control lent in
    n ∙ (ap (λ (xs : List ℕ). xs ++ u) (p ∙ (ap (λ (xs : List ℕ). xs ++ ps) (f ∙ ap (λ (xs : List ℕ). old ++ xs) (w ∙ h)) ∙ append_assoc old head ps))
    ∙ (append_assoc old (head ++ ps) u ∙ ap (λ (xs : List ℕ). old ++ xs) (whole lent control c)))

pub head-front-requires-clause-small : goal.head-front-requires-clause-small
head-front-requires-clause-small c = subst (λ (n : ℕ). n ≤ MOST_CONTROL) c.requires.control c.requires.small

pub head-front-requires-clause-data : goal.head-front-requires-clause-data
head-front-requires-clause-data c = c.requires.data

pub returns-in_err-extend_from_slice-clause-items : goal.returns-in_err-extend_from_slice-clause-items
returns-in_err-extend_from_slice-clause-items c = IfOk-from_err _ _ c.from_residual.ensures.0

pub returns-in_err-extend_from_slice-clause-part_bytes : goal.returns-in_err-extend_from_slice-clause-part_bytes
returns-in_err-extend_from_slice-clause-part_bytes c = IfOk-from_err _ _ c.from_residual.ensures.0

pub returns-in_err-extend_from_slice-clause-user_bytes : goal.returns-in_err-extend_from_slice-clause-user_bytes
returns-in_err-extend_from_slice-clause-user_bytes c = IfOk-from_err _ _ c.from_residual.ensures.0

pub returns-in_err-extend_from_slice-2-clause-items : goal.returns-in_err-extend_from_slice-2-clause-items
returns-in_err-extend_from_slice-2-clause-items c = IfOk-from_err _ _ c.from_residual-in_err-extend_from_slice-2.ensures.0

pub returns-in_err-extend_from_slice-2-clause-part_bytes : goal.returns-in_err-extend_from_slice-2-clause-part_bytes
returns-in_err-extend_from_slice-2-clause-part_bytes c = IfOk-from_err _ _ c.from_residual-in_err-extend_from_slice-2.ensures.0

pub returns-in_err-extend_from_slice-2-clause-user_bytes : goal.returns-in_err-extend_from_slice-2-clause-user_bytes
returns-in_err-extend_from_slice-2-clause-user_bytes c = IfOk-from_err _ _ c.from_residual-in_err-extend_from_slice-2.ensures.0

pub returns-in_err-put_long_parts-clause-items : goal.returns-in_err-put_long_parts-clause-items
returns-in_err-put_long_parts-clause-items c = IfOk-from_err _ _ c.from_residual-in_err-put_long_parts.ensures.0

pub returns-in_err-put_long_parts-clause-part_bytes : goal.returns-in_err-put_long_parts-clause-part_bytes
returns-in_err-put_long_parts-clause-part_bytes c = IfOk-from_err _ _ c.from_residual-in_err-put_long_parts.ensures.0

pub returns-in_err-put_long_parts-clause-user_bytes : goal.returns-in_err-put_long_parts-clause-user_bytes
returns-in_err-put_long_parts-clause-user_bytes c = IfOk-from_err _ _ c.from_residual-in_err-put_long_parts.ensures.0

pub returns-in_err-put_long-clause-items : goal.returns-in_err-put_long-clause-items
returns-in_err-put_long-clause-items c = IfOk-from_err _ _ c.from_residual-in_err-put_long.ensures.0

pub returns-in_err-put_long-clause-part_bytes : goal.returns-in_err-put_long-clause-part_bytes
returns-in_err-put_long-clause-part_bytes c = IfOk-from_err _ _ c.from_residual-in_err-put_long.ensures.0

pub returns-in_err-put_long-clause-user_bytes : goal.returns-in_err-put_long-clause-user_bytes
returns-in_err-put_long-clause-user_bytes c = IfOk-from_err _ _ c.from_residual-in_err-put_long.ensures.0

pub returns-in_ok-extend_from_slice-clause-items : goal.returns-in_ok-extend_from_slice-clause-items
returns-in_ok-extend_from_slice-clause-items c =
    at-once c.args.self.now c.args.control c.args.out.now.items c.extend_from_slice.new.self.items c.as_slice.result.now c.head-front.result.items c.put_parts.new.out.items c.put_bytes.new.out.items
    c.requires.control c.in_ok-extend_from_slice.ensures.ok c.as_slice.ensures.value c.put_bytes.ensures.items c.put_parts.ensures.items c.head-front.ensures

pub returns-in_ok-extend_from_slice-clause-part_bytes : goal.returns-in_ok-extend_from_slice-clause-part_bytes
returns-in_ok-extend_from_slice-clause-part_bytes c = c.put_parts.ensures.bytes

pub returns-in_ok-extend_from_slice-clause-user_bytes : goal.returns-in_ok-extend_from_slice-clause-user_bytes
returns-in_ok-extend_from_slice-clause-user_bytes c = c.put_bytes.ensures.bytes

pub returns-in_ok-put_long-clause-items : goal.returns-in_ok-put_long-clause-items
returns-in_ok-put_long-clause-items c =
    in-turn c.args.self.now c.args.control c.args.out.now.items c.extend_from_slice-else-control-self-le-INLINE.new.self.items c.put_long_parts.new.out.items c.put_long.new.out.items
    c.as_slice-else-control-self-le-INLINE.result.now c.head-front.result.items c.requires.control c.in_ok-extend_from_slice-2.ensures.ok c.as_slice-else-control-self-le-INLINE.ensures.value c.head-front.ensures
    c.in_ok-put_long_parts.ensures.items c.in_ok-put_long.ensures.items
