use Rattle.std.proofs.Common.{◌≡◌, ◌++◌, ◌∷◌, ◌+◌, ◌∙◌, List, [], take, take_all, arith, ap, sym, subst}
use Rattle.std.proofs.lemmas.List.{append-nil, append_assoc, take_more}
use Rattle.xti_model.specs.declared.entry.Entry.{Entry}
use Rattle.xti_outputs.specs.Entries.{Reports}
use Rattle.xti_outputs.proofs.Reported.{worker-at}
use Rattle.xti_outputs.proofs.answers.report_history.Goals as goal

pub loop-entry-init : goal.loop-entry-init
loop-entry-init c = λ summary p past h. subst (λ (es : List Entry). Reports summary p es c.args.report.now) (sym (append-nil past)) h

pub add-requires : goal.add-requires
add-requires c = let small = worker-at c.args.history.now c.loop-entry.entry-index c.entry-item.result c.requires c.loop-entry-test.true c.entry-item.is in omega (arith, small)

pub loop-entry-preserved : goal.loop-entry-preserved
loop-entry-preserved c = λ summary p past h.
    let e = c.entry-item.result in
    let i = c.loop-entry.entry-index in
    let more : past ++ take (i + 1) c.args.history.now ≡ past ++ take i c.args.history.now ++ e ∷ [] =
    ap (λ (es : List Entry). past ++ es) (take_more c.args.history.now i e c.loop-entry-test.true ∙ ap (λ (x : Entry). take i c.args.history.now ++ x ∷ []) (sym c.entry-item.is)) ∙ sym (append_assoc past (take i c.args.history.now) (e ∷ [])) in
    subst (λ (es : List Entry). Reports summary p es c.add.new.self) (sym more) (c.in_ok-add.ensures summary p (past ++ take i c.args.history.now) (c.loop-entry.invariant summary p past h))

pub returns : goal.returns
returns c = λ summary p past h. subst (λ (es : List Entry). Reports summary p (past ++ es) c.loop-entry.report) (take_all c.loop-entry.entry-index c.args.history.now c.loop-entry-test.false) (c.loop-entry.invariant summary p past h)
