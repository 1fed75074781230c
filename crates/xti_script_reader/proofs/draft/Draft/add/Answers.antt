use Rattle.std.proofs.Common.{sym, ◌∙◌}
use Rattle.xti_script_reader.proofs.Workers.{knows_more, knows_written, line_added, line_refused}
use Rattle.xti_script_reader.proofs.draft.Draft.add.Goals as goal

pub invariant_of-self-in-Some : goal.invariant_of-self-in-Some
invariant_of-self-in-Some c =
    let more = rw c.in-Some.is at c.in_ok-left.ensures.more in
    let opened = rw c.as_mut_slice-opened.ensures.value at (rw c.in-Some.is at c.in_ok-left.ensures.opened) in
    let listened = rw c.as_mut_slice-listened.ensures.value at (rw c.in-Some.is at c.in_ok-left.ensures.listened) in
    let count = rw c.as_mut_slice-opened.ensures.value at c.add_line.auto.opened in
    let long = rw c.as_mut_slice-listened.ensures.value at c.add_line.auto.listened in
    let known = knows_more _ _ _ _ _ _ _ _ _ _ c.self.invariant more c.in_ok-left.ensures.room c.in-Some.is count opened long listened in
    knows_written _ _ _ _ _ _ _ _ known (sym (c.add_line.auto.opened ∙ c.as_mut_slice-opened.ensures.len)) (sym (c.add_line.auto.listened ∙ c.as_mut_slice-listened.ensures.len))

pub returns-in-Some-clause-ok : goal.returns-in-Some-clause-ok
returns-in-Some-clause-ok c = line_added _ _ _ _ _ _ _ _ _ c.self.invariant c.self.view_is (rw c.in-Some.is at c.in_ok-left.ensures.more) c.in_ok-left.ensures.room c.in-Some.is

pub returns-in-None-clause-ok : goal.returns-in-None-clause-ok
returns-in-None-clause-ok c = line_refused _ _ _ _ _ _ _ _ c.self.invariant c.self.view_is (rw c.in-None.is at c.in_ok-left.ensures.same) c.in_ok-left.ensures.room c.in-None.is
