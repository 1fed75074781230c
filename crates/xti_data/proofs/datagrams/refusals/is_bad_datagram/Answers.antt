use Rattle.std.proofs.Common.{eqb, not, length}
use Rattle.std.specs.List.{concat}
use Rattle.std.proofs.lemmas.Bool.{ne_eqb}
use Rattle.xti_model.specs.Calls.Datagrams.{is_over}
use Rattle.xti_data.proofs.Sizes.{capped-zero, plain}
use Rattle.xti_data.proofs.datagrams.refusals.is_bad_datagram.Goals as goal

pub returns-else-n-eq0 : goal.returns-else-n-eq0
returns-else-n-eq0 c =
    plain (eqb c.total-n.result 0) (eqb (length (concat c.args.parts.now)) 0) (is_over c.args.profile.now.tsdu (length (concat c.args.parts.now))) (not c.args.profile.now.sendzero)
    (ne_eqb c.total-n.result 0 c.if-n-eq0.false)
    (capped-zero (length (concat c.args.parts.now)) c.total-n.result c.total-n.ensures)
    (c.if-is_over.ensures (length (concat c.args.parts.now)) c.total-n.ensures)
