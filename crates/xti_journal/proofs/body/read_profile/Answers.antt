use Rattle.std.proofs.Common.{ℕ, List, ◌∙◌, subst, rules}
use Rattle.xti_journal.specs.Unread.{ReadsValues}
use Rattle.xti_journal.proofs.HeadLaws.{reads_values}
use Rattle.xti_journal.proofs.body.read_profile.Goals as goal

pub returns-clause-read : goal.returns-clause-read
returns-clause-read c =
    subst (λ (words : List (List ℕ)). ReadsValues c.args.version c.args.prov words c.read_values.result) c.of-fields.ensures
    (reads_values c.args.version c.args.prov c.of-fields.result.words _ _ _ _ _ _ _ _ (search rules) c.accept.ensures c.if-not-accept.false c.accept-else-not-accept.ensures c.if-not-accept-2.false (c.as_bytes.ensures.value ∙ c.name.ensures) c.tells_reldata.ensures c.read_values.ensures.read)
