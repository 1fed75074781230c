-- The summary of a journal: how its entries ended, and how many bytes were sent and received, in one line.
use Rattle.std.specs.Prelude.{ℕ, ◌-◌, Bool, true, false, not, List, [], ◌++◌, length, sum_by, count_by, Option, Some, None, codes, if◌then◌else◌}
use Rattle.std.specs.List.{concat}
use Rattle.xti_words.specs.WrittenWords.{number_word}
use Rattle.xti_model.specs.declared.call.Call.{Call}
use Rattle.xti_model.specs.declared.call.Call.TheVariants.{TSnd, TSndV, TSndUData, TSndVUData}
use Rattle.xti_model.specs.declared.entry.Entry.{Entry}
use Rattle.xti_model.specs.declared.entry.Go.{Go}
use Rattle.xti_model.specs.declared.entry.Outcome.{Outcome}
use Rattle.xti_model.specs.declared.entry.Outcome.TheVariants.{Done, Part}
use Rattle.xti_model.specs.declared.entry.Reply.TheVariants.{Got, UData}
use Rattle.xti_model.specs.declared.script.Journal.{Journal}
use Rattle.xti_model.specs.Families.{is_error}
use Rattle.xti_model.specs.Streams.{Made, made_from, taken_after}
use Rattle.xti_model.specs.History.{taken_before}

-- how an entry ended

-- the call is done, without an error
abbrev pub is_ok : Outcome → Bool
is_ok (Done reply) = not (is_error reply)
is_ok (Part n) = false

-- the call is done, with an error
abbrev pub is_err : Outcome → Bool
is_err (Done reply) = is_error reply
is_err (Part n) = false

-- the call is part way
abbrev pub is_part : Outcome → Bool
is_part (Done reply) = false
is_part (Part n) = true

-- bytes

-- by how many bytes the count of those that are taken grew
abbrev pub grown : ℕ → Option ℕ → ℕ
grown before None = 0
grown before (Some n) = n - before

-- how many bytes a step of a call sent: of a datagram all, once it is answered without an error
abbrev pub sent_by : Call → Go → Outcome → ℕ
sent_by (TSnd fd bytes flags) so_far outcome = grown (taken_before so_far) (taken_after outcome)
sent_by (TSndV fd parts flags) so_far outcome = grown (taken_before so_far) (taken_after outcome)
sent_by (TSndUData fd addr opt bytes) so_far outcome = if is_ok outcome then length bytes else 0
sent_by (TSndVUData fd addr opt parts) so_far outcome = if is_ok outcome then length (concat parts) else 0
sent_by other so_far outcome = 0

-- how many bytes a step sent
abbrev pub sent_by_step : Made → ℕ
sent_by_step m = sent_by m.going.call m.going.so_far m.outcome

-- how many bytes a call received: data of a connection, or of a datagram
abbrev pub got_by : Outcome → ℕ
got_by (Done (Got bytes flags)) = length bytes
got_by (Done (UData addr opt bytes flags)) = length bytes
got_by other = 0

-- how many bytes the entries sent: those that are a step of a call
abbrev pub sent_in : List Entry → ℕ
sent_in entries = sum_by sent_by_step (made_from [] entries)

-- how many bytes the entries received
abbrev pub got_in : List Entry → ℕ
got_in entries = sum_by (λ e. got_by e.outcome) entries

-- how many entries ended so
abbrev pub how_many : (Outcome → Bool) → List Entry → ℕ
how_many ended entries = count_by (λ e. ended e.outcome) entries

-- the line: every entry counts in the first four numbers and in what was received, be it a step of a call or not
unfoldable pub summary_text : Journal → List ℕ
summary_text j =
    number_word (codes "entries ") (length j.entries)
    ++ number_word (codes " ok ") (how_many is_ok j.entries)
    ++ number_word (codes " err ") (how_many is_err j.entries)
    ++ number_word (codes " part ") (how_many is_part j.entries)
    ++ number_word (codes " sent ") (sent_in j.entries)
    ++ number_word (codes " got ") (got_in j.entries)
    ++ number_word (codes " stalled ") (length j.stalls)
    ++ codes "\n"
