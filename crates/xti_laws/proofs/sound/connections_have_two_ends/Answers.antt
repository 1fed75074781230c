use Rattle.xti_laws.proofs.LinkedEnds.{connected-linked, confirmed-linked}
use Rattle.xti_laws.proofs.sound.connections_have_two_ends.Goals as goal

pub returns-clause-linked : goal.returns-clause-linked
returns-clause-linked c p w h = h.matched

pub returns-clause-there : goal.returns-clause-there
returns-clause-there c p w h = h.there

pub returns-clause-connected : goal.returns-clause-connected
returns-clause-connected c p w h fd e = connected-linked p w fd e h

pub returns-clause-confirmed : goal.returns-clause-confirmed
returns-clause-confirmed c p w h fd e = confirmed-linked p w fd e h
