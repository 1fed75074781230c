use Rattle.std.proofs.Common.{◌≡◌, true, List, [], sym, ap, ◌∙◌, subst, arith}
use Rattle.std.specs.List.{list_all}
use Rattle.xti_model.specs.declared.entry.Entry.{Entry}
use Rattle.xti_model.specs.declared.profile.Providers.{Providers}
use Rattle.xti_model.specs.Complete.{is_worker}
use Rattle.xti_model.specs.Profile.{usual}
use Rattle.xti_model.specs.SentBytes.{AreBytes}
use Rattle.xti_laws_streams.specs.Copying.{copied, copy_journal}
use Rattle.xti_outputs.specs.Entries.{Reports}
use Rattle.xti_outputs.proofs.Copied.{copied-input, workers}
use Rattle.xti_outputs.proofs.answers.sock_answer.Goals as goal

pub report_history-reported-requires : goal.report_history-reported-requires
report_history-reported-requires g c =
    subst (λ (es : List Entry). list_all is_worker es ≡ true) (sym (c.as_slice-2.ensures ∙ (c.in-Ok.ensures.entries ∙ ap copied c.as_slice.ensures)))
    (workers (copied c.args.input) (c.copies_make_their_calls.ensures c.args.input).own)

pub returns : goal.returns
returns g c =
    let input = c.args.input in
    let bytes : AreBytes input = subst AreBytes c.as_slice.ensures c.copy.ensures.bytes in
    let same : c.as_slice-2.result.now ≡ copied input = c.as_slice-2.ensures ∙ (c.in-Ok.ensures.entries ∙ ap copied c.as_slice.ensures) in
    let begun : Reports c.args.summary usual [] c.in-Ok-begin.made = subst (λ (p : Providers). Reports c.args.summary p [] c.in-Ok-begin.made) c.usual.ensures.values c.in-Ok-begin.ensures in
    let reported : Reports c.args.summary usual (copied input) c.report_history-reported.new.report =
    subst (λ (es : List Entry). Reports c.args.summary usual es c.report_history-reported.new.report) same (c.in-Ok-reported.ensures c.args.summary usual [] begun) in
    copied-input c.args.summary input c.in_ok-text.field-0 (c.copies_have_texts.ensures.texts input bytes) (c.copies_have_texts.ensures.only input bytes (omega (arith, c.requires)))
    (c.in_ok-text.ensures c.args.summary (copy_journal input) reported c.new-stalls.ensures)
    (c.copies_are_legal.ensures.legal input bytes) (c.copies_make_their_calls.ensures input) (c.copies_copy_their_input.ensures.one input) (c.copies_copy_their_input.ensures.sent input) (c.copies_copy_their_input.ensures.got input)
