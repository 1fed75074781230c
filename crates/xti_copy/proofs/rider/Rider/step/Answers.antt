use Rattle.std.proofs.Common.{List, ◌≡◌, ◌∙◌, ◌++◌, ◌∷◌, [], sym, ap, subst}
use Rattle.xti_model.specs.declared.entry.Act.{Act}
use Rattle.xti_model.specs.declared.entry.Applied.{Applied}
use Rattle.xti_model.specs.declared.entry.Entry.{Entry}
use Rattle.xti_model.specs.declared.entry.Outcome.{Outcome}
use Rattle.xti_end.specs.Taken.{taken}
use Rattle.xti_laws.specs.Replies.{Lengths, IsShortOutcome}
use Rattle.xti_copy.specs.Rides.{Ride, IsAt, IsRiding, entry_of}
use Rattle.xti_copy.proofs.Riding.{reply-short, rides-more}
use Rattle.xti_copy.proofs.rider.Rider.step.Goals as goal

pub copy-requires : goal.copy-requires
copy-requires c =
    let at = subst (λ (r : Ride). IsAt r c.args.call.now c.args.go) (sym c.self.view_is) c.requires in
    let e = ap (λ (a : Applied). taken a c.step.new.self.cells) (sym c.in-Ok-Step.field-0-is) ∙ c.in-Ok-Step.ensures.step in
    subst (λ (n : Lengths). IsShortOutcome n c.in-Ok-Step.outcome) (sym c.in_ok-act.ensures.copy.1) (reply-short c.self.invariant c.args.call.now c.args.go at c.in-Ok-Step.outcome c.in-Ok-Step.after c.step.new.self.cells e)

pub invariant_of-self-in-Ok-Step : goal.invariant_of-self-in-Ok-Step
invariant_of-self-in-Ok-Step c =
    let at = subst (λ (r : Ride). IsAt r c.args.call.now c.args.go) (sym c.self.view_is) c.requires in
    let e = ap (λ (a : Applied). taken a c.step.new.self.cells) (sym c.in-Ok-Step.field-0-is) ∙ c.in-Ok-Step.ensures.step in
    let o : Outcome = c.in-Ok-Step.outcome in
    let after = c.in-Ok-Step.after in
    let x : Entry = record { worker = 0; act = c.in_ok-act.act; outcome = c.copy.result; after = after } in
    let same : x ≡ entry_of c.args.call.now c.args.go o after =
    ap (λ (a : Act). let y : Entry = record { worker = 0; act = a; outcome = c.copy.result; after = after } in y) c.in_ok-act.ensures.copy.0
    ∙ ap (λ (q : Outcome). entry_of c.args.call.now c.args.go q after) c.copy.ensures in
    let pushed = ap (λ (es : List Entry). es ++ x ∷ []) c.in_ok-act.ensures.entries ∙ ap (λ (y : Entry). c.self.inside.entries.items ++ y ∷ []) same in
    let items = ◌∙◌ {A = List Entry} c.push_reserved.ensures.items pushed in
    subst (λ es. IsRiding c.step.new.self es c.is_done-self-inside.result) (sym items)
    (subst (IsRiding c.step.new.self (c.self.inside.entries.items ++ entry_of c.args.call.now c.args.go o after ∷ [])) (sym c.is_done-self-inside.ensures)
    (rides-more c.self.invariant c.args.call.now c.args.go at c.step.new.self o after c.calls_send_bytes.ensures c.in-Ok-Step.ensures.providers e))

pub returns-in-Ok-Step-clause-standing : goal.returns-in-Ok-Step-clause-standing
returns-in-Ok-Step-clause-standing c = (invariant_of-self-in-Ok-Step c).standing
