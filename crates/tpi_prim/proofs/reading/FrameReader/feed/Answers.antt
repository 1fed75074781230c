use Rattle.std.proofs.Common.{List, [], ℕ, ◌≡◌, ◌<◌, ◌++◌, ◌+◌, ◌^◌, drop, ap, sym, ◌∙◌, subst}
use Rattle.tpi_grammar.specs.Form.{short}
use Rattle.tpi_grammar.specs.Measured.{MeansFrame}
use Rattle.tpi_prim.specs.Fed.{Fed}
use Rattle.tpi_prim.specs.Reading.{capped}
use Rattle.tpi_prim.proofs.FeedReads.{nothing_short, none_in, takes, takes_nothing, as_before}
use Rattle.tpi_prim.proofs.reading.FrameReader.feed.Goals as goal

pub invariant_of-self : goal.invariant_of-self
invariant_of-self c = subst (λ (bs : List ℕ). MeansFrame bs short) (sym c.in_err-extend_from_slice.ensures.err) c.self.invariant

pub invariant_of-self-in-Ok : goal.invariant_of-self-in-Ok
invariant_of-self-in-Ok c = subst (λ (bs : List ℕ). MeansFrame bs short) (sym (c.advance.ensures.items ∙ ap (drop c.in-Ok.field-0.used) (sym c.as_slice.ensures))) c.in-Ok.ensures.rest

pub invariant_of-self-in-Err-Bad : goal.invariant_of-self-in-Err-Bad
invariant_of-self-in-Err-Bad c = subst (λ (bs : List ℕ). MeansFrame bs short) (sym c.clear.ensures.items) nothing_short

pub invariant_of-self-in-Err-OutOfMemory : goal.invariant_of-self-in-Err-OutOfMemory
invariant_of-self-in-Err-OutOfMemory c =
    subst (λ (bs : List ℕ). MeansFrame bs short)
    (sym (c.truncate.ensures.items ∙ as_before _ c.self.inside.rest.items c.args.piece.now _ c.len-held.ensures.value c.in_ok-extend_from_slice.ensures.ok))
    c.self.invariant

pub returns-in-Ok-clause-fed : goal.returns-in-Ok-clause-fed
returns-in-Ok-clause-fed c =
    let old = c.args.self.now in
    let used = c.in-Ok.field-0.used in
    let rest : c.self.inside.rest.items ≡ old.rest = ap (λ (v : Fed). v.rest) c.self.view_is in
    let passed : c.self.inside.passed ≡ old.passed = ap (λ (v : Fed). v.passed) c.self.view_is in
    let wrong : c.self.inside.wrong ≡ old.wrong = ap (λ (v : Fed). v.wrong) c.self.view_is in (
      sym wrong ∙ c.in_default.is,
      takes old _ c.args.piece.now c.as_slice.result.now c.in-Ok.field-0.prims used
          (c.as_slice.ensures ∙ c.in_ok-extend_from_slice.ensures.ok ∙ ap (λ (bs : List ℕ). bs ++ c.args.piece.now) rest)
          c.in-Ok.ensures
          (c.advance.ensures.items ∙ ap (drop used) (sym c.as_slice.ensures))
          (c.saturating_add-self-inside.ensures ∙ ap (λ n. capped (n + used)) passed)
          c.in_default.is,
    )

pub returns-then-is_empty-clause-fed : goal.returns-then-is_empty-clause-fed
returns-then-is_empty-clause-fed c =
    let old = c.args.self.now in
    let rest : c.self.inside.rest.items ≡ old.rest = ap (λ (v : Fed). v.rest) c.self.view_is in
    let passed : c.self.inside.passed ≡ old.passed = ap (λ (v : Fed). v.passed) c.self.view_is in
    let wrong : c.self.inside.wrong ≡ old.wrong = ap (λ (v : Fed). v.wrong) c.self.view_is in
    let small : c.self.inside.passed < 2 ^ 64 = search in
    let none : c.args.piece.now ≡ [] = none_in c.args.piece.now c.is_empty.result c.is_empty.ensures c.if-is_empty.true in (
      sym wrong ∙ c.in_default.is,
      rw c.new.ensures (takes_nothing old c.args.piece.now (subst (λ n. n < 2 ^ 64) passed small) (subst (λ (bs : List ℕ). MeansFrame bs short) rest c.self.invariant) (sym wrong ∙ c.in_default.is) none),
    )
