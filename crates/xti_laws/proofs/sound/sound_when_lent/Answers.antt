use Rattle.xti_laws.proofs.Lent.{lent-cell, lent-open, open-fits, cuts-bounded}
use Rattle.xti_laws.proofs.sound.sound_when_lent.Goals as goal

pub returns-clause-cell : goal.returns-clause-cell
returns-clause-cell c p w h place cell l i = lent-cell p w place cell h l i

pub returns-clause-opened : goal.returns-clause-opened
returns-clause-opened c p w h fd e o = lent-open p w fd e h o

pub returns-clause-fits : goal.returns-clause-fits
returns-clause-fits c p w h fd e o = open-fits p w fd e h o

pub returns-clause-disconnects : goal.returns-clause-disconnects
returns-clause-disconnects c p w h fd e o = cuts-bounded e (h.endpoints fd e o) (h.links.good fd e o)
