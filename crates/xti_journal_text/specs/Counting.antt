-- A summary that is counted while the entries come.
use Rattle.std.specs.Prelude.{◌≡◌, ℕ, ◌+◌, ◌-◌, ◌^◌, ◌<◌, ◌≤◌, ◌==◌, ◌||◌, Bool, min, List, [], ◌∷◌, ◌++◌, length, slice_index_or, cond, All, Option, Some, None, IfSome, option_map, codes}
use Rattle.std.specs.List.{concat}
use Rattle.xti_words.specs.WrittenWords.{number_word}
use Rattle.xti_base.specs.declared.limits.TheConstants.{WORKERS, LAST_WORKER}
use Rattle.xti_model.specs.declared.call.Call.{Call}
use Rattle.xti_model.specs.declared.call.Call.TheVariants.{TSnd, TSndV, TSndUData, TSndVUData}
use Rattle.xti_model.specs.declared.entry.Act.{Act}
use Rattle.xti_model.specs.declared.entry.Entry.{Entry}
use Rattle.xti_model.specs.declared.entry.Go.{Go}
use Rattle.xti_model.specs.declared.entry.Outcome.{Outcome}
use Rattle.xti_model.specs.declared.script.Journal.{Journal}
use Rattle.xti_model.specs.declared.script.StallLine.{StallLine}
use Rattle.xti_model.specs.History.{Going, own, unfinished, call_after, going_after, made_by}
use Rattle.xti_model.specs.History.{taken_before}
use Rattle.xti_journal_text.specs.declared.payload.Payload.{Payload}
use Rattle.xti_journal_text.specs.declared.payload.Payload.TheVariants.{Nothing, Stream, Datagram}
use Rattle.xti_journal_text.specs.declared.totals.Totals.{Totals}
use Rattle.xti_journal_text.specs.declared.worker.Worker.{Worker}
use Rattle.xti_journal_text.specs.declared.counting.Summary.{Summary}
use Rattle.xti_journal_text.specs.Summaries.{is_ok, is_err, is_part, sent_by, got_by, sent_in, got_in, how_many, summary_text}

-- numbers

-- a number as far as 64 bits hold it
abbrev pub capped : ℕ → ℕ
capped n = min n (2 ^ 64 - 1)

-- one more entry is counted, which sent so many bytes
pub record CountsEntry (outcome : Outcome) (bytes : ℕ) (old new : Totals) : Type 0 where
  pub entries : new.entries ≡ capped (old.entries + 1)
  pub ok : new.ok ≡ capped (old.ok + cond (is_ok outcome) 1 0)
  pub err : new.err ≡ capped (old.err + cond (is_err outcome) 1 0)
  pub part : new.part ≡ capped (old.part + cond (is_part outcome) 1 0)
  pub sent : new.sent ≡ capped (old.sent + bytes)
  pub got : new.got ≡ capped (old.got + got_by outcome)

-- the numbers of these entries
pub record AreTotals (past : List Entry) (t : Totals) : Type 0 where
  pub entries : t.entries ≡ capped (length past)
  pub ok : t.ok ≡ capped (how_many is_ok past)
  pub err : t.err ≡ capped (how_many is_err past)
  pub part : t.part ≡ capped (how_many is_part past)
  pub sent : t.sent ≡ capped (sent_in past)
  pub got : t.got ≡ capped (got_in past)

-- the same, where 64 bits hold them
pub record AreExact (past : List Entry) (t : Totals) : Type 0 where
  pub entries : t.entries ≡ length past
  pub ok : t.ok ≡ how_many is_ok past
  pub err : t.err ≡ how_many is_err past
  pub part : t.part ≡ how_many is_part past
  pub sent : t.sent ≡ sent_in past
  pub got : t.got ≡ got_in past

-- a count that isn't full has the numbers themselves, whatever entries were counted
abbrev pub IsExact : Totals → Type 0
IsExact t = (past : List Entry) → AreTotals past t → AreExact past t

-- a number has come to the greatest that 64 bits hold; there are at least as many entries as of each ending
abbrev pub is_full : Totals → Bool
is_full t = t.entries == 2 ^ 64 - 1 || t.sent == 2 ^ 64 - 1 || t.got == 2 ^ 64 - 1

-- the line up to its stalls
abbrev pub totals_text : Totals → List ℕ
totals_text t =
    number_word (codes "entries ") t.entries ++ number_word (codes " ok ") t.ok ++ number_word (codes " err ") t.err
    ++ number_word (codes " part ") t.part ++ number_word (codes " sent ") t.sent ++ number_word (codes " got ") t.got

-- workers

-- what a call sends: bytes that are taken step by step, a datagram of so many bytes, or nothing
abbrev pub payload_of : Call → Payload
payload_of (TSnd fd bytes flags) = Stream
payload_of (TSndV fd parts flags) = Stream
payload_of (TSndUData fd addr opt bytes) = Datagram (capped (length bytes))
payload_of (TSndVUData fd addr opt parts) = Datagram (capped (length (concat parts)))
payload_of other = Nothing

-- a step of each call with this payload, before which so many bytes were taken, sent so many
abbrev pub SendsAtStep : Payload → ℕ → Outcome → ℕ → Type 0
SendsAtStep payload before outcome sent =
    (c : Call) (so_far : Go) → payload ≡ payload_of c → before ≡ taken_before so_far
    → sent ≡ capped (sent_by c so_far outcome)

-- how many bytes of a call are taken
abbrev pub taken_of : Going → ℕ
taken_of g = taken_before g.so_far

-- the worker began this call last, and this is left of it
pub record Keeps (c : Option Call) (going : Option Going) (w : Worker) : Type 0 where
  pub payload : w.payload ≡ option_map payload_of c
  pub taken : w.taken ≡ option_map taken_of going
  pub call : IfSome going (λ g. c ≡ Some g.call)

-- how many bytes a step of the call sent, if there is one
abbrev pub sent_going : Option Going → Outcome → ℕ
sent_going None outcome = 0
sent_going (Some g) outcome = sent_by g.call g.so_far outcome

-- whatever call the worker began last, these are the bytes that its step sent
abbrev pub Sends : Worker → Act → Outcome → ℕ → Type 0
Sends w a outcome sent =
    (c : Option Call) (going : Option Going) → Keeps c going w → sent ≡ capped (sent_going (made_by going a) outcome)

-- whatever call the worker began last, it stands where the step leaves it
abbrev pub Steps : Worker → Act → Outcome → Worker → Type 0
Steps old a outcome new =
    (c : Option Call) (going : Option Going) → Keeps c going old
    → Keeps (call_after c a) (going_after (call_after c a) outcome) new

-- the call that comes last, where it was this one before
abbrev pub call_from : Option Call → List Entry → Option Call
call_from c [] = c
call_from c (e ∷ es) = call_from (call_after c e.act) es

-- the call that the worker began last
abbrev pub last_call : List Entry → ℕ → Option Call
last_call past worker = call_from None (own past worker)

-- the worker stands after these entries
abbrev pub IsKept : List Entry → ℕ → Worker → Type 0
IsKept past worker w = Keeps (last_call past worker) (unfinished past worker) w

-- summaries

-- the summary stands after these entries: with their numbers, and with the last call of each worker
pub record Counts (past : List Entry) (s : Summary) : Type 0 where
  pub totals : AreTotals past s.totals
  pub many : length s.workers ≡ WORKERS
  pub each : (worker : ℕ) (w : Worker) → worker < WORKERS → IsKept past worker (slice_index_or s.workers worker w)

-- whatever entries the summary stands after, it stands after this one too
abbrev pub CountsOneMore : Summary → Entry → Summary → Type 0
CountsOneMore old e new = (past : List Entry) → Counts past old → Counts (past ++ e ∷ []) new

-- the line is that of each journal whose entries were counted, with these stall lines
abbrev pub IsLine : Summary → List StallLine → List ℕ → Type 0
IsLine s stalls text = (j : Journal) → Counts j.entries s → stalls ≡ j.stalls → text ≡ summary_text j

-- each entry's worker is one of the numbers
abbrev pub HaveWorkers : List Entry → Type 0
HaveWorkers entries = All (λ e. e.worker ≤ LAST_WORKER) entries
