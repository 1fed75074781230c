-- The call of a worker after its own entry.
use Rattle.std.proofs.Common.{List, [], ◌∷◌, ◌++◌, ◌≡◌, refl, ap, ◌∙◌, true, Option, Some, None}
use Rattle.std.proofs.lemmas.Bool.{eq-eqb}
use Rattle.xti_model.specs.declared.entry.Act.{Act}
use Rattle.xti_model.specs.declared.entry.Act.TheVariants as act
use Rattle.xti_model.specs.declared.entry.Entry.{Entry}
use Rattle.xti_model.specs.History.{Going, own, call_after, going_after, unfinished, unfinished_from, made_by, doing}
use Rattle.xti_model.proofs.Working.{call_from, unfinished_from-snoc, IsCallOf, call_of-from, own-more}
use Rattle.xti_laws.proofs.StepWays.{some-is, none-is}

pub after-own : (past : List Entry) (e : Entry) (g : Going) → doing past e ≡ Some g → unfinished (past ++ e ∷ []) e.worker ≡ going_after (Some g.call) e.outcome
after-own past e g h = ap (unfinished_from None None) (own-more past e e.worker true (eq-eqb e.worker e.worker refl)) ∙ (unfinished_from-snoc None None (own past e.worker) e ∙ ap (λ c. going_after c e.outcome) (go (unfinished past e.worker) e.act (call_of-from None None (own past e.worker) tt) h))
  where
    go : (u : Option Going) (a : Act) → IsCallOf (call_from None (own past e.worker)) u → made_by u a ≡ Some g → call_after (call_from None (own past e.worker)) a ≡ Some g.call
    go None (act.Begin c) k h = ap (λ z. Some z.call) (some-is _ g h)
    go (Some u) (act.Begin c) k h = absurd (none-is g h)
    go None act.More k h = absurd (none-is g h)
    go (Some u) act.More k h = k ∙ ap (λ z. Some z.call) (some-is u g h)
