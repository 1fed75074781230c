use Rattle.std.proofs.Common.{◌≡◌, true, false, List, sym, subst}
use Rattle.std.specs.Prelude.{is_ok}
use Rattle.xti_poll.specs.declared.asked.Asked.{Asked}
use Rattle.xti_poll.specs.Sets.{are_apart, has}
use Rattle.xti_poll.proofs.Apart.{added-apart}
use Rattle.xti_poll.proofs.set.PollSet.add.Goals as goal

pub invariant_of-self : goal.invariant_of-self
invariant_of-self c =
    let xs = c.self.inside.pairs.items in
    let fresh = subst (λ (s : List Asked). has c.args.asked.fd s ≡ false) (sym c.self.view_is) c.requires in
    subst (λ (s : List Asked). are_apart s ≡ true) (sym c.push.ensures.items) (added-apart (is_ok c.push.result) c.args.asked xs fresh c.self.invariant)
