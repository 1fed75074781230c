use Rattle.std.proofs.Common.{◌≡◌, ◌∙◌, ◌+◌, ◌++◌, ◌∷◌, [], ℕ, List, take, slice_index_or, suc, ap, sym, subst, arith}
use Rattle.std.proofs.Math.Seq.{take-suc}
use Rattle.xti_base.specs.declared.kinds.Fd.{Fd}
use Rattle.xti_poll.specs.Tables.{AreFound, line_text, table_text}
use Rattle.xti_poll.proofs.TableRows.{later_still, line_more, one_more}
use Rattle.xti_poll.proofs.tables.table.Goals as goal

pub loop-fd-preserved : goal.loop-fd-preserved
loop-fd-preserved g c =
    let i = c.loop-fd.invariant in
    let before = c.args.caller.now.view in
    let next = c.glance-glance.new.self.view in
    let done = take c.loop-fd.fd-index c.args.fds.now in
    let gs = i.found.0 in
    let seen = c.glance-glance.result in
    let more : c.loop-fd.fd-index + 1 ≡ suc c.loop-fd.fd-index = omega arith in
    let fd = slice_index_or c.args.fds.now c.loop-fd.fd-index _ in
    let one : take (c.loop-fd.fd-index + 1) c.args.fds.now ≡ done ++ fd ∷ [] = ap (λ (n : ℕ). take n c.args.fds.now) more ∙ take-suc c.args.fds.now c.loop-fd.fd-index _ c.loop-fd-test.true in record {
      hall = c.glance-glance.ensures.seat.0 ∙ i.hall;
      id = c.glance-glance.ensures.seat.1 ∙ i.id;
      same = later_still before c.loop-fd.caller.view next i.same c.glance-glance.ensures.same;
      found = (
        gs ++ seen ∷ [],
        subst (λ (fds : List Fd). AreFound before fds (gs ++ seen ∷ []) next) (sym one) (one_more before c.loop-fd.caller.view next done gs fd seen i.found.1 c.glance-glance.ensures.same c.glance-glance.ensures.finds),
        c.in_ok-put_line.ensures
            ∙ (ap (λ (text : List ℕ). text ++ line_text fd seen) i.found.2 ∙ (sym (line_more before c.loop-fd.caller.view done gs fd seen i.found.1) ∙ ap (λ (fds : List Fd). table_text fds (gs ++ seen ∷ [])) (sym one))),
      );
    }
