-- What the code's answers and options stand for in the definition of negotiation.
use Rattle.std.specs.Prelude.{ℕ, ◌==◌, List, [], Option, Some, None, if◌then◌else◌}
use Rattle.xti_base.specs.Options.{word_bytes}
use Rattle.xti_base.specs.Negotiation.{Meaning, send_size, receive_size, low_water, unknown, generic_meaning, xti_generic}
use Rattle.xti_base.specs.Negotiation as negotiation
use Rattle.xti_opt.specs.declared.answers.Answer.{Answer}
use Rattle.xti_opt.specs.declared.answers.Subject.{Subject}
use Rattle.xti_opt.specs.declared.answers.Subject.TheVariants.{SendSize, ReceiveSize, LowWater, Unknown}

abbrev pub meaning_of : Subject → Meaning
meaning_of SendSize = send_size
meaning_of ReceiveSize = receive_size
meaning_of LowWater = low_water
meaning_of Unknown = unknown

-- what an option of this level and name is
abbrev pub meaning_at : ℕ → ℕ → Meaning
meaning_at level name = if level == xti_generic then generic_meaning name else unknown

-- a value is one word or empty
abbrev pub value_bytes : Option ℕ → List ℕ
value_bytes None = []
value_bytes (Some n) = word_bytes n

abbrev pub answer_of : Answer → negotiation.Answer
answer_of a = record { result = a.result; value = value_bytes a.value; sets = a.sets }
