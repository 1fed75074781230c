use Rattle.std.proofs.Common.{refl, sym, arith}
use Rattle.xti_journal_text.specs.JournalText.{journal_text}
use Rattle.xti_journal.proofs.Whole.{one_journal}
use Rattle.xti_laws_journals.specs.Runs.{journal_of}
use Rattle.xti_laws_journals.proofs.FewEntries.{few-entries}
use Rattle.xti_laws_journals.proofs.RunJournals.{run-text}
use Rattle.xti_laws_journals.proofs.runs_make_journals.Goals as goal

pub returns-clause-has_text : goal.returns-clause-has_text
returns-clause-has_text c = λ s entries h r. run-text c.answers_have_values.ensures.values c.steps_answer_in_form.ensures.form s entries (c.scripts_have_valid_providers.ensures s h) (c.scripts_tell_releases.ensures s h) (c.scripts_send_bytes.ensures.arguments s h) h r

pub returns-clause-written : goal.returns-clause-written
returns-clause-written c = λ s entries h r. record {
  has_text = run-text c.answers_have_values.ensures.values c.steps_answer_in_form.ensures.form s entries (c.scripts_have_valid_providers.ensures s h) (c.scripts_tell_releases.ensures s h) (c.scripts_send_bytes.ensures.arguments s h) h r;
  written = refl;
}

pub returns-clause-only : goal.returns-clause-only
returns-clause-only c = λ s entries h r k j.
    let few = few-entries s.providers s.lines entries r.legal r.workers_only r.follows in
    let small = c.scripts_are_small.ensures s h in
    sym (one_journal (journal_text (journal_of s entries)) (journal_of s entries) k (omega (arith, few, small)) (record {
      has_text = run-text c.answers_have_values.ensures.values c.steps_answer_in_form.ensures.form s entries (c.scripts_have_valid_providers.ensures s h) (c.scripts_tell_releases.ensures s h) (c.scripts_send_bytes.ensures.arguments s h) h r;
      written = refl;
    }) j)
