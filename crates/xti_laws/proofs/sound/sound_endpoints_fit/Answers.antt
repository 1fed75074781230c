use Rattle.std.proofs.Common.{arith}
use Rattle.xti_laws.proofs.SoundGives.{datagrams-alone, small-numbers, places-differ, few-named, peers-apart, callers-apart, targets-apart, listeners-apart, peer-unbroken}
use Rattle.xti_laws.proofs.sound.sound_endpoints_fit.Goals as goal

pub returns-clause-datagrams : goal.returns-clause-datagrams
returns-clause-datagrams c p w h fd e o d = datagrams-alone e d (h.endpoints fd e o) (h.links.good fd e o)

pub returns-clause-numbers : goal.returns-clause-numbers
returns-clause-numbers c p w h fd e o = small-numbers e (h.endpoints fd e o) (h.links.good fd e o)

pub returns-clause-places : goal.returns-clause-places
returns-clause-places c p w h x y e d o k = places-differ p w x y e d h o k

pub returns-clause-named : goal.returns-clause-named
returns-clause-named c p w d h = let few = few-named p w d (λ fd e o. (h.endpoints fd e o, h.links.good fd e o)) in omega (arith, few)

pub returns-clause-peers : goal.returns-clause-peers
returns-clause-peers c p w h x y e d = peers-apart p w x y e d h

pub returns-clause-callers : goal.returns-clause-callers
returns-clause-callers c p w h l n d e = callers-apart p w l n d e h

pub returns-clause-targets : goal.returns-clause-targets
returns-clause-targets c p w h d e t = targets-apart p w d e t h

pub returns-clause-listeners : goal.returns-clause-listeners
returns-clause-listeners c p w h prov address from fd e = listeners-apart p w prov address from fd e h

pub returns-clause-unbroken : goal.returns-clause-unbroken
returns-clause-unbroken c p w h fd e o peer = peer-unbroken p w fd peer e h o
