use Rattle.xti_laws_streams.proofs.Ends.{gets-stream, gets-prefix, gets-all}
use Rattle.xti_laws_streams.proofs.sockets.sockets_get_what_was_sent.Goals as goal

pub returns-clause-got : goal.returns-clause-got
returns-clause-got c p entries b place k responds number h = gets-stream p entries b.0 place k responds number h

pub returns-clause-prefix : goal.returns-clause-prefix
returns-clause-prefix c p entries b place k responds number h = gets-prefix p entries b.0 place k responds number h b.1

pub returns-clause-release : goal.returns-clause-release
returns-clause-release c p entries b place k responds number h = gets-all p entries b.0 place k responds number h b.1
