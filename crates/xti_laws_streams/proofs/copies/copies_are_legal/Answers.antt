use Rattle.std.proofs.Common.{List, ℕ, [], ◌++◌, sym, subst, flat_map}
use Rattle.xti_model.specs.World.{opening}
use Rattle.xti_model.specs.History.{Legal}
use Rattle.xti_model.specs.Profile.{usual}
use Rattle.xti_model.specs.SentBytes.{AreBytes}
use Rattle.xti_laws_streams.specs.Copying.{before, exchange, ending, copied, pieces}
use Rattle.xti_laws_streams.proofs.Pieces.{each}
use Rattle.xti_laws_streams.proofs.Singles.{AreSteps, legal-steps, steps-append, copied-single}
use Rattle.xti_laws_streams.proofs.Worlds.{before-leaves, before-steps}
use Rattle.xti_laws_streams.proofs.Exchanges.{exchanges-steps}
use Rattle.xti_laws_streams.proofs.Next.{next-entry}
use Rattle.xti_laws_streams.proofs.copies.copies_are_legal.Goals as goal

copied-legal : (input : List ℕ) → AreBytes input → Legal usual (copied input)
copied-legal input b =
    let after : List _ = flat_map exchange (pieces input) ++ ending in
    legal-steps (opening usual) [] (copied input) tt (copied-single input)
    (steps-append (opening usual) before after before-steps
    (subst (λ w. AreSteps w after) (sym before-leaves) (exchanges-steps (pieces input) (each input b))))

pub returns-clause-legal : goal.returns-clause-legal
returns-clause-legal c input b = copied-legal input b

pub returns-clause-only : goal.returns-clause-only
returns-clause-only c input b = next-entry (copied input) (copied-legal input b)
