use Rattle.std.proofs.Common.{◌≡◌, true, List, ◌∙◌, sym, ap, subst}
use Rattle.xti_poll.specs.declared.asked.Asked.{Asked}
use Rattle.xti_poll.specs.Sets.{are_apart, has, without, IsFirstOf}
use Rattle.xti_poll.proofs.Sets.{has-first, without-first, without-none}
use Rattle.xti_poll.proofs.Apart.{without-apart}
use Rattle.xti_poll.proofs.set.PollSet.drop_fd.Goals as goal

pub returns-in-Some-clause-left : goal.returns-in-Some-clause-left
returns-in-Some-clause-left c =
    let xs = c.self.inside.pairs.items in
    let first = subst (λ (s : List Asked). IsFirstOf c.args.fd s c.in-Some.place) c.as_slice.ensures.value c.in-Some.ensures in
    c.remove.ensures.items ∙ (sym (without-first c.args.fd xs c.in-Some.place first) ∙ ap (without c.args.fd) c.self.view_is)

pub returns-in-Some-clause-there : goal.returns-in-Some-clause-there
returns-in-Some-clause-there c = sym (has-first c.args.fd c.args.self.now c.in-Some.place (subst (λ (s : List Asked). IsFirstOf c.args.fd s c.in-Some.place) (c.as_slice.ensures.value ∙ c.self.view_is) c.in-Some.ensures))

pub returns-in-None-clause-left : goal.returns-in-None-clause-left
returns-in-None-clause-left c = sym (without-none c.args.fd c.args.self.now (ap (has c.args.fd) (sym (c.as_slice.ensures.value ∙ c.self.view_is)) ∙ c.in-None.ensures))

pub invariant_of-self : goal.invariant_of-self
invariant_of-self c =
    let xs = c.self.inside.pairs.items in
    let first = subst (λ (s : List Asked). IsFirstOf c.args.fd s c.in-Some.place) c.as_slice.ensures.value c.in-Some.ensures in
    subst (λ (s : List Asked). are_apart s ≡ true) (without-first c.args.fd xs c.in-Some.place first ∙ sym c.remove.ensures.items) (without-apart c.args.fd xs c.self.invariant)
