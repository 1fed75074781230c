use Rattle.std.proofs.Common.{◌≡◌, ◌∙◌, ◌≤◌, ℕ, eqb, length, refl, sym, ap, arith}
use Rattle.std.proofs.lemmas.Bool.{eqb-true, false≢true}
use Rattle.xti_gbn.specs.declared.wire.Wire.TheVariants.{Data, Ack}
use Rattle.xti_gbn.specs.Wire.{most_body}
use Rattle.xti_gbn.proofs.Spellings.{data-text, ack-text, data-only, ack-only, neither, too-short, never-bad}
use Rattle.xti_gbn.proofs.wire.read_wire.Goals as goal
use Rattle.xti_gbn.proofs.wire.read_wire.Goals.{else-kind-eq-DATA-via-then-kind-eq-DATA+else-rest-le-MOST_BODY, else-kind-eq-DATA-via-else-kind-eq-DATA, else-kind-eq-ACK-via-then-kind-eq-ACK+else-is_empty, else-kind-eq-ACK-via-else-kind-eq-ACK}

pub returns-in_default-clause-bad : goal.returns-in_default-clause-bad
returns-in_default-clause-bad c = (λ _. too-short c.args.bytes.now c.in_default.ensures.short, λ _. refl)

pub returns-in_err-body-clause-bad : goal.returns-in_err-body-clause-bad
returns-in_err-body-clause-bad c =
    let found = c.in-Some.ensures.found in
    let text = data-text c.args.bytes.now c.in-Some.kind c.in-Some.number c.in-Some.rest.now c.in-Some.rest.now found.1 c.if-kind-eq-DATA.true refl in (
      λ e _ _ _. never-bad c.from_residual.result c.from_residual.ensures.1 e,
      λ none. absurd (none (Data (record { seq = c.in-Some.number; body = c.in-Some.rest.now })) (found.0, c.if-rest-le-MOST_BODY.true) text),
    )

pub returns-then-rest-le-MOST_BODY-clause-only : goal.returns-then-rest-le-MOST_BODY-clause-only
returns-then-rest-le-MOST_BODY-clause-only c =
    let found = c.in-Some.ensures.found in
    data-only c.args.bytes.now c.in-Some.number c.in_ok-body.body found.0
    (data-text c.args.bytes.now c.in-Some.kind c.in-Some.number c.in-Some.rest.now c.in_ok-body.body found.1 c.if-kind-eq-DATA.true c.in_ok-body.ensures.copy)

pub returns-then-rest-le-MOST_BODY-clause-bad : goal.returns-then-rest-le-MOST_BODY-clause-bad
returns-then-rest-le-MOST_BODY-clause-bad c =
    let found = c.in-Some.ensures.found in
    let text = data-text c.args.bytes.now c.in-Some.kind c.in-Some.number c.in-Some.rest.now c.in-Some.rest.now found.1 c.if-kind-eq-DATA.true refl in
    (λ e _ _ _. cc, λ none. absurd (none (Data (record { seq = c.in-Some.number; body = c.in-Some.rest.now })) (found.0, c.if-rest-le-MOST_BODY.true) text))

pub returns-then-is_empty-clause-only : goal.returns-then-is_empty-clause-only
returns-then-is_empty-clause-only c =
    let found = c.in-Some.ensures.found in
    ack-only c.args.bytes.now c.in-Some.number found.0
    (ack-text c.args.bytes.now c.in-Some.kind c.in-Some.number c.in-Some.rest.now found.1 c.if-kind-eq-ACK.true (eqb-true (length c.in-Some.rest.now) 0 (sym c.if-is_empty.ensures)))

pub returns-then-is_empty-clause-bad : goal.returns-then-is_empty-clause-bad
returns-then-is_empty-clause-bad c =
    let found = c.in-Some.ensures.found in
    let text = ack-text c.args.bytes.now c.in-Some.kind c.in-Some.number c.in-Some.rest.now found.1 c.if-kind-eq-ACK.true (eqb-true (length c.in-Some.rest.now) 0 (sym c.if-is_empty.ensures)) in
    (λ e _ _ _. cc, λ none. absurd (none (Ack c.in-Some.number) found.0 text))

pub returns-clause-bad : goal.returns-clause-bad
returns-clause-bad c =
    let found = c.in-Some.ensures.found in
    let not_data : c.in-Some.kind ≡ 0x44 → length c.in-Some.rest.now ≤ most_body → ⊥ =
    elim c.else-kind-eq-DATA.branch [
      | else-kind-eq-DATA-via-then-kind-eq-DATA+else-rest-le-MOST_BODY w ↦ λ k h. omega (arith, w.if-rest-le-MOST_BODY.false)
      | else-kind-eq-DATA-via-else-kind-eq-DATA w ↦ λ k h. w.if-kind-eq-DATA.false k
    ] in
    let not_ack : c.in-Some.kind ≡ 0x41 → length c.in-Some.rest.now ≡ 0 → ⊥ =
    elim c.else-kind-eq-ACK.branch [
      | else-kind-eq-ACK-via-then-kind-eq-ACK+else-is_empty w ↦ λ k z. false≢true (w.if-is_empty.ensures ∙ ap (λ (n : ℕ). eqb n 0) z)
      | else-kind-eq-ACK-via-else-kind-eq-ACK w ↦ λ k z. w.if-kind-eq-ACK.false k
    ] in
    (λ _. neither c.args.bytes.now c.in-Some.kind c.in-Some.number c.in-Some.rest.now found.0 found.1 not_data not_ack, λ _. refl)
