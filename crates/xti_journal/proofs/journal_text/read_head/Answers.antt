use Rattle.xti_journal.proofs.Whole.{at_first, at_ticots, at_ticotsord, at_ticlts, whole_head}
use Rattle.xti_journal.proofs.journal_text.read_head.Goals as goal

pub returns-in-Err : goal.returns-in-Err
returns-in-Err c = at_first _ c.in-Err.fail _ c.fail_at.ensures c.in-Err.ensures

pub returns-in-Err-read_provider : goal.returns-in-Err-read_provider
returns-in-Err-read_provider c = at_ticots _ _ _ c.in-Err-read_provider.fail _ c.fail_at-in-Err-read_provider.ensures c.in-Ok.ensures c.in-Err-read_provider.ensures

pub returns-in-Err-read_provider-2 : goal.returns-in-Err-read_provider-2
returns-in-Err-read_provider-2 c = at_ticotsord _ _ _ _ c.in-Ok-read_provider.read.0 c.in-Err-read_provider-2.fail _ c.fail_at-in-Err-read_provider-2.ensures c.in-Ok.ensures c.in-Ok-read_provider.ensures.0 c.in-Ok-read_provider.ensures.1 c.in-Err-read_provider-2.ensures

pub returns-in-Err-read_provider-3 : goal.returns-in-Err-read_provider-3
returns-in-Err-read_provider-3 c =
    at_ticlts _ _ _ _ _ c.in-Ok-read_provider.read.0 c.in-Ok-read_provider-2.read.0 c.in-Err-read_provider-3.fail _ c.fail_at-in-Err-read_provider-3.ensures c.in-Ok.ensures c.in-Ok-read_provider.ensures.0 c.in-Ok-read_provider.ensures.1 c.in-Ok-read_provider-2.ensures.0 c.in-Ok-read_provider-2.ensures.1 c.in-Err-read_provider-3.ensures

pub returns : goal.returns
returns c =
    whole_head _ _ _ _ _ _ c.in-Ok-read_provider.read.0 c.in-Ok-read_provider-2.read.0 c.in-Ok-read_provider-3.read.0 c.in-Ok.ensures c.in-Ok-read_provider.ensures.0 c.in-Ok-read_provider.ensures.1 c.in-Ok-read_provider-2.ensures.0 c.in-Ok-read_provider-2.ensures.1 c.in-Ok-read_provider-3.ensures.0 c.in-Ok-read_provider-3.ensures.1
