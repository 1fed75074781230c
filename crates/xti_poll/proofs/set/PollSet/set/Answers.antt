use Rattle.std.proofs.Common.{◌≡◌, true, List, ◌∙◌, sym, ap, subst}
use Rattle.std.proofs.lemmas.Result.{on_ok_weaker}
use Rattle.xti_poll.specs.declared.asked.Asked.{Asked}
use Rattle.xti_poll.specs.Sets.{are_apart, has, with_pair, IsFirstOf}
use Rattle.xti_poll.proofs.Sets.{has-first, not-full, with-first, with-last}
use Rattle.xti_poll.proofs.Apart.{with-apart}
use Rattle.xti_poll.proofs.set.PollSet.set.Goals as goal

pub returns-in-Some-clause-set : goal.returns-in-Some-clause-set
returns-in-Some-clause-set c =
    let x : Asked = record { fd = c.args.fd; events = c.args.events } in
    let first = subst (λ (s : List Asked). IsFirstOf c.args.fd s c.in-Some.place) c.as_slice.ensures.value c.in-Some.ensures in
    sym (with-first x c.self.inside.pairs.items c.in-Some.place first) ∙ ap (with_pair x) c.self.view_is

pub returns-in-Some-clause-full : goal.returns-in-Some-clause-full
returns-in-Some-clause-full c =
    let first = subst (λ (s : List Asked). IsFirstOf c.args.fd s c.in-Some.place) (c.as_slice.ensures.value ∙ c.self.view_is) c.in-Some.ensures in
    (λ e. absurd (cc), λ h. absurd (not-full c.args.fd c.args.self.now (has-first c.args.fd c.args.self.now c.in-Some.place first) h.1))

pub returns-in-None-clause-set : goal.returns-in-None-clause-set
returns-in-None-clause-set c =
    let x : Asked = record { fd = c.args.fd; events = c.args.events } in
    let gone = ap (has c.args.fd) (sym (c.as_slice.ensures.value ∙ c.self.view_is)) ∙ c.in-None.ensures in
    on_ok_weaker c.add.result (λ e. e ∙ sym (with-last x c.args.self.now gone)) c.add.ensures.added

pub invariant_of-self : goal.invariant_of-self
invariant_of-self c =
    let x : Asked = record { fd = c.args.fd; events = c.args.events } in
    let xs = c.self.inside.pairs.items in
    let first = subst (λ (s : List Asked). IsFirstOf c.args.fd s c.in-Some.place) c.as_slice.ensures.value c.in-Some.ensures in
    subst (λ (s : List Asked). are_apart s ≡ true) (with-first x xs c.in-Some.place first) (with-apart x xs c.self.invariant)
