-- Errors that no call answers.
use Rattle.std.specs.Prelude.{Bool, true, false, not, ◌≡◌}
use Rattle.xti_base.specs.declared.errno.Errno.{Errno}
use Rattle.xti_base.specs.declared.errno.Errno.TheVariants.{TACCES, TNOADDR, TSTATECHNG, TPROTO}
use Rattle.xti_model.specs.declared.entry.Entry.{Entry}
use Rattle.xti_model.specs.declared.entry.Outcome.{Outcome}
use Rattle.xti_model.specs.declared.entry.Outcome.TheVariants.{Done}
use Rattle.xti_model.specs.declared.entry.Reply.TheVariants.{Refused}

-- errors of XNS whose causes don't occur: all may use all addresses, one is chosen where none is given, states change by steps alone, and no protocol fails
abbrev pub is_never_answered : Errno → Bool
is_never_answered TACCES = true
is_never_answered TNOADDR = true
is_never_answered TSTATECHNG = true
is_never_answered TPROTO = true
is_never_answered other = false

abbrev pub is_answer : Outcome → Bool
is_answer (Done (Refused e)) = not (is_never_answered e)
is_answer other = true

-- an outcome that is no such refusal
abbrev pub IsAnswer : Outcome → Type 0
IsAnswer outcome = is_answer outcome ≡ true

abbrev pub HasAnswer : Entry → Type 0
HasAnswer e = IsAnswer e.outcome
