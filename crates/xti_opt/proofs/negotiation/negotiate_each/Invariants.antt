use Rattle.std.proofs.Common.{◌≡◌, take}
use Rattle.xti_base.specs.Negotiation.{negotiate}
use Rattle.xti_opt.proofs.negotiation.negotiate_each.Given as goal

-- the options so far are negotiated
abbrev pub invariant-loop-option : goal.invariant-loop-option
invariant-loop-option l =
    negotiate l.initial.settings l.action (take l.option-index l.options) ≡ record { settings = l.settings; options = l.answers.items; result = l.overall }
