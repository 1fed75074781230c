use Rattle.std.proofs.Common.{◌≡◌, ◌<◌, length, None, arith, inl, refl, sym, subst, ◌∙◌}
use Rattle.std.proofs.lemmas.Result.{IfOk-from_err, IfOk-weaker, on_err_weaker}
use Rattle.xti_replay.specs.declared.workers.Worker.{Worker}
use Rattle.xti_replay.specs.Progress.{IsKept, IsNext, IsReady, begun_call, made_by}
use Rattle.xti_replay.proofs.Errors.{on_any_err}
use Rattle.xti_replay.proofs.Each.{at-worker, nothing, part-same, something}
use Rattle.xti_replay.proofs.Steps.{asked-begun, asked-by, asked-failed, begun-ready, found-known}
use Rattle.xti_replay.proofs.asking.ask.Goals.{then-is_some-via-then-is_some, then-is_some-via-else-is_some+then-is_some-2}
use Rattle.xti_replay.proofs.asking.ask.Goals as goal

pub returns-then-is_some-clause-asked : goal.returns-then-is_some-clause-asked
returns-then-is_some-clause-asked c = IfOk-weaker c.make.result _ _ (λ made makes past kept may.
    let lt : c.args.number < length c.args.workers.now.items = omega (arith, kept.many, c.requires.number) in
    let known : c.index-worker.result.now.next ≡ None → c.index-worker.result.now.part ≡ None → ⊥ = elim c.then-is_some.branch [
      | then-is_some-via-then-is_some w ↦ λ n p. something _ (sym c.is_some.ensures ∙ w.if-is_some.true) n
      | then-is_some-via-else-is_some+then-is_some-2 w ↦ λ n p. something _ (sym w.is_some-else-is_some.ensures ∙ w.if-is_some-2.true) p
    ] in
    let found = found-known c.args.lines.now past c.args.workers.now.items c.args.number c.index-worker.result.now kept lt c.index-worker.ensures known in
    asked-by c.args.lines.now c.args.number past c.args.world.now c.make.new.world c.args.workers.now.items _ c.index_mut.result.now c.make.new.worker (made_by made c.make.new.entry) c.args.world.now.providers found.kept c.index_mut.ensures.value refl
    (makes past (subst (λ (w : Worker). IsReady c.args.lines.now past c.args.number w) (sym c.index_mut.ensures.value) (found.ready c.index_mut.result.now)))) c.make.ensures.makes

pub returns-clause-asked : goal.returns-clause-asked
returns-clause-asked c = IfOk-weaker c.begin.result _ _ (λ made makes past kept may.
    let lt : c.args.number < length c.args.workers.now.items = omega (arith, kept.many, c.requires.number) in
    let w = c.index_mut-2.result.now in
    let next = begun_call c.begin_next.new.act in
    let whole : w.part ≡ None = part-same c.args.workers.now.items c.args.number w c.index-worker.result.now lt c.index_mut-2.ensures.value c.index-worker.ensures (nothing c.index-worker.result.now.part (sym c.is_some-else-is_some.ensures ∙ c.if-is_some-2.false)) in
    let is : IsNext c.args.lines.now past c.args.number next = c.in_ok-begin_next.ensures past c.args.number
    (at-worker (IsKept c.args.lines.now past) c.args.workers.now.items c.args.number c.index-worker.result.now kept.each lt c.index-worker.ensures).told
    (at-worker (IsKept c.args.lines.now past) c.args.workers.now.items 0 c.index.result.now kept.each (omega (arith, kept.many)) c.index.ensures).told in
    asked-begun c.args.lines.now c.args.number past c.args.world.now c.begin.new.world c.args.workers.now.items _ w c.begin.new.worker next (made_by made c.begin.new.entry) c.args.world.now.providers kept may lt c.index_mut-2.ensures.value whole is refl
    (makes past (begun-ready c.args.lines.now past c.args.workers.now.items c.args.number w next kept may lt c.index_mut-2.ensures.value whole is))) c.begin.ensures.makes

pub returns-then-is_some-clause-err : goal.returns-then-is_some-clause-err
returns-then-is_some-clause-err c = on_err_weaker c.make.result (λ fails past kept may.
    let lt : c.args.number < length c.args.workers.now.items = omega (arith, kept.many, c.requires.number) in
    let known : c.index-worker.result.now.next ≡ None → c.index-worker.result.now.part ≡ None → ⊥ = elim c.then-is_some.branch [
      | then-is_some-via-then-is_some w ↦ λ n p. something _ (sym c.is_some.ensures ∙ w.if-is_some.true) n
      | then-is_some-via-else-is_some+then-is_some-2 w ↦ λ n p. something _ (sym w.is_some-else-is_some.ensures ∙ w.if-is_some-2.true) p
    ] in
    let found = found-known c.args.lines.now past c.args.workers.now.items c.args.number c.index-worker.result.now kept lt c.index-worker.ensures known in
    asked-failed c.args.world.now c.make.new.world c.args.workers.now.items _ c.args.number c.index_mut.result.now c.make.new.worker _ c.index_mut.ensures.value refl
    (fails past (subst (λ (w : Worker). IsReady c.args.lines.now past c.args.number w) (sym c.index_mut.ensures.value) (found.ready c.index_mut.result.now)))) c.make.ensures.err

pub returns-in_err-begin_next-clause-err : goal.returns-in_err-begin_next-clause-err
returns-in_err-begin_next-clause-err c = on_any_err c.from_residual.result (λ past kept may. inl (refl, refl))

pub returns-clause-err : goal.returns-clause-err
returns-clause-err c = on_err_weaker c.begin.result (λ fails past kept may.
    let lt : c.args.number < length c.args.workers.now.items = omega (arith, kept.many, c.requires.number) in
    let w = c.index_mut-2.result.now in
    let next = begun_call c.begin_next.new.act in
    let whole : w.part ≡ None = part-same c.args.workers.now.items c.args.number w c.index-worker.result.now lt c.index_mut-2.ensures.value c.index-worker.ensures (nothing c.index-worker.result.now.part (sym c.is_some-else-is_some.ensures ∙ c.if-is_some-2.false)) in
    let is : IsNext c.args.lines.now past c.args.number next = c.in_ok-begin_next.ensures past c.args.number
    (at-worker (IsKept c.args.lines.now past) c.args.workers.now.items c.args.number c.index-worker.result.now kept.each lt c.index-worker.ensures).told
    (at-worker (IsKept c.args.lines.now past) c.args.workers.now.items 0 c.index.result.now kept.each (omega (arith, kept.many)) c.index.ensures).told in
    asked-failed c.args.world.now c.begin.new.world c.args.workers.now.items _ c.args.number w c.begin.new.worker _ c.index_mut-2.ensures.value refl
    (fails past (begun-ready c.args.lines.now past c.args.workers.now.items c.args.number w next kept may lt c.index_mut-2.ensures.value whole is))) c.begin.ensures.err

pub make-requires-clause-ready : goal.make-requires-clause-ready
make-requires-clause-ready c =
    let past = c.requires.kept.0 in
    let kept = c.requires.kept.1 in
    let lt : c.args.number < length c.args.workers.now.items = omega (arith, kept.many, c.requires.number) in
    let known : c.index-worker.result.now.next ≡ None → c.index-worker.result.now.part ≡ None → ⊥ = elim c.then-is_some.branch [
      | then-is_some-via-then-is_some w ↦ λ n p. something _ (sym c.is_some.ensures ∙ w.if-is_some.true) n
      | then-is_some-via-else-is_some+then-is_some-2 w ↦ λ n p. something _ (sym w.is_some-else-is_some.ensures ∙ w.if-is_some-2.true) p
    ] in
    let found = found-known c.args.lines.now past c.args.workers.now.items c.args.number c.index-worker.result.now kept lt c.index-worker.ensures known in
    (past, subst (λ (w : Worker). IsReady c.args.lines.now past c.args.number w) (sym c.index_mut.ensures.value) (found.ready c.index_mut.result.now))

pub make-requires-clause-none : goal.make-requires-clause-none
make-requires-clause-none c = c.requires.none

pub returns-then-is_some-clause-left : goal.returns-then-is_some-clause-left
returns-then-is_some-clause-left c = c.make.ensures.left

pub returns-then-is_some-clause-providers : goal.returns-then-is_some-clause-providers
returns-then-is_some-clause-providers c = c.make.ensures.providers

pub begin_next-requires-clause-told : goal.begin_next-requires-clause-told
begin_next-requires-clause-told c =
    let past = c.requires.kept.0 in
    let kept = c.requires.kept.1 in
    let lt : c.args.number < length c.args.workers.now.items = omega (arith, kept.many, c.requires.number) in
    (past, c.args.number, (at-worker (IsKept c.args.lines.now past) c.args.workers.now.items c.args.number c.index-worker.result.now kept.each lt c.index-worker.ensures).told, (at-worker (IsKept c.args.lines.now past) c.args.workers.now.items 0 c.index.result.now kept.each (omega (arith, kept.many)) c.index.ensures).told)

pub begin_next-requires-clause-whole : goal.begin_next-requires-clause-whole
begin_next-requires-clause-whole c = nothing c.index-worker.result.now.part (sym c.is_some-else-is_some.ensures ∙ c.if-is_some-2.false)

pub begin_next-requires-clause-none : goal.begin_next-requires-clause-none
begin_next-requires-clause-none c = c.requires.none

pub returns-in_err-begin_next-clause-asked : goal.returns-in_err-begin_next-clause-asked
returns-in_err-begin_next-clause-asked c = IfOk-from_err _ _ c.from_residual.ensures.0

pub returns-in_err-begin_next-clause-left : goal.returns-in_err-begin_next-clause-left
returns-in_err-begin_next-clause-left c = IfOk-from_err _ _ c.from_residual.ensures.0

pub returns-in_err-begin_next-clause-providers : goal.returns-in_err-begin_next-clause-providers
returns-in_err-begin_next-clause-providers c = refl

pub begin-requires-clause-ready : goal.begin-requires-clause-ready
begin-requires-clause-ready c =
    let past = c.requires.kept.0 in
    let kept = c.requires.kept.1 in
    let lt : c.args.number < length c.args.workers.now.items = omega (arith, kept.many, c.requires.number) in
    let w = c.index_mut-2.result.now in
    let next = begun_call c.begin_next.new.act in
    let whole : w.part ≡ None = part-same c.args.workers.now.items c.args.number w c.index-worker.result.now lt c.index_mut-2.ensures.value c.index-worker.ensures (nothing c.index-worker.result.now.part (sym c.is_some-else-is_some.ensures ∙ c.if-is_some-2.false)) in
    let is : IsNext c.args.lines.now past c.args.number next = c.in_ok-begin_next.ensures past c.args.number (at-worker (IsKept c.args.lines.now past) c.args.workers.now.items c.args.number c.index-worker.result.now kept.each lt c.index-worker.ensures).told (at-worker (IsKept c.args.lines.now past) c.args.workers.now.items 0 c.index.result.now kept.each (omega (arith, kept.many)) c.index.ensures).told in
    (past, begun-ready c.args.lines.now past c.args.workers.now.items c.args.number w next kept c.requires.kept.2 lt c.index_mut-2.ensures.value whole is)

pub begin-requires-clause-whole : goal.begin-requires-clause-whole
begin-requires-clause-whole c =
    let kept = c.requires.kept.1 in
    part-same c.args.workers.now.items c.args.number c.index_mut-2.result.now c.index-worker.result.now (omega (arith, kept.many, c.requires.number)) c.index_mut-2.ensures.value c.index-worker.ensures (nothing c.index-worker.result.now.part (sym c.is_some-else-is_some.ensures ∙ c.if-is_some-2.false))

pub returns-clause-left : goal.returns-clause-left
returns-clause-left c = c.begin.ensures.left

pub returns-clause-providers : goal.returns-clause-providers
returns-clause-providers c = c.begin.ensures.providers
