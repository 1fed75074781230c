-- The laws of connections: of each kind of data, what an end received against what the other end sent.
use Rattle.std.specs.Prelude.{ℕ, ◌≡◌, ◌||◌, not, Bool, true, false, List, ◌++◌, Some, is_some, if◌then◌else◌}
use Rattle.std.specs.List.{list_any, list_all}
use Rattle.xti_model.specs.declared.call.Call.{Call}
use Rattle.xti_model.specs.declared.call.Call.TheVariants as call
use Rattle.xti_model.specs.declared.entry.Entry.{Entry}
use Rattle.xti_model.specs.declared.entry.Outcome.{Outcome}
use Rattle.xti_model.specs.declared.entry.Outcome.TheVariants.{Done}
use Rattle.xti_model.specs.declared.entry.Reply.TheVariants.{Plain, RelData, Overflow}
use Rattle.xti_model.specs.declared.profile.Providers.{Providers}
use Rattle.xti_model.specs.declared.script.Script.{Script}
use Rattle.xti_model.specs.Complete.{Follows, Each, workers, is_worker}
use Rattle.xti_model.specs.Endpoint.{Endpoint}
use Rattle.xti_model.specs.World.{World, endpoint}
use Rattle.xti_model.specs.Links.{is_linked}
use Rattle.xti_model.specs.Sending.{waiting_of}
use Rattle.xti_model.specs.History.{Legal, after}
use Rattle.xti_model.specs.SentBytes.{AllSendBytes}
use Rattle.xti_model.specs.Streams.{Made, Connection, connection, life, is_over, sent, got}
use Rattle.xti_script_reader.specs.Grammar.{HasText}

-- a legal history whose sends are of bytes
abbrev pub IsLegalOfBytes : Providers → List Entry → Type 0
IsLegalOfBytes p entries = Legal p entries × AllSendBytes entries

-- this holds of each of those
abbrev pub OfHistoriesOfBytes : (Providers → List Entry → Type 0) → Type 0
OfHistoriesOfBytes law = (p : Providers) (entries : List Entry) → IsLegalOfBytes p entries → law p entries

-- a legal history of the script's workers, each of which follows its lines
pub record IsLegalRun (s : Script) (entries : List Entry) : Type 0 where
  pub legal : Legal s.providers entries
  pub workers_only : list_all is_worker entries ≡ true
  pub follows : Each (Follows entries s.lines) workers

-- this holds of each of those, where the script has a text
abbrev pub OfRunsOfTexts : (Providers → List Entry → Type 0) → Type 0
OfRunsOfTexts law = (s : Script) (entries : List Entry) → HasText s → IsLegalRun s entries → law s.providers entries

-- one list is a prefix of another; it may be the whole
pub record Prefix (prefix whole : List ℕ) : Type 0 where
  pub rest : List ℕ
  pub is_rest : prefix ++ rest ≡ whole

-- one end of a connection or the other, by whether it is the one that accepted
abbrev pub end_of : Connection → Bool → ℕ
end_of c responds = if responds then c.responder else c.caller

-- all that the end received in its life, expedited or normal
abbrev pub got_at : List Entry → ℕ → Connection → Bool → Bool → List ℕ
got_at entries place c responds expedited = got entries place c (end_of c responds) expedited

-- all that the other end sent in its life
abbrev pub sent_to : List Entry → ℕ → Connection → Bool → Bool → List ℕ
sent_to entries place c responds expedited = sent entries place c (end_of c (not responds)) expedited

-- whether the life of the end is over
abbrev pub has_ended : List Entry → ℕ → ℕ → Bool
has_ended entries place fd = list_any (λ m. is_over m.after) (life entries place fd)

-- a release was taken: a t_rcvrel or t_rcvreldata that answered Ok, or one whose data were lost as they were too long
abbrev pub is_release_receipt : Call → Outcome → Bool
is_release_receipt (call.TRcvRel fd) (Done Plain) = true
is_release_receipt (call.TRcvRelData fd umax) (Done (RelData udata)) = true
is_release_receipt (call.TRcvRelData fd umax) (Done (Overflow seq)) = true
is_release_receipt other outcome = false

abbrev pub receives_release : Made → Bool
receives_release m = is_release_receipt m.going.call m.outcome

-- whether the end received the orderly release in its life
abbrev pub received_release : List Entry → ℕ → ℕ → Bool
received_release entries place fd = list_any receives_release (life entries place fd)

-- what an end received is a prefix of what the other end sent
abbrev pub PrefixLaw : Providers → List Entry → Type 0
PrefixLaw p entries = (place : ℕ) (c : Connection) (responds expedited : Bool) → connection p entries place ≡ Some c → Prefix (got_at entries place c responds expedited) (sent_to entries place c responds expedited)

-- the connection is not broken at this end: it is linked, or the release waits there
abbrev pub is_unbroken : Providers → World → ℕ → Endpoint → Bool
is_unbroken p w fd e = is_linked p w fd e || is_some e.release

-- while the life of an end lasts, and the connection is not broken there, what waits is the rest of what was sent
abbrev pub WaitingLaw : Providers → List Entry → Type 0
WaitingLaw p entries = (place : ℕ) (c : Connection) (responds expedited : Bool) (e : Endpoint) → connection p entries place ≡ Some c → has_ended entries place (end_of c responds) ≡ false
    → endpoint p (after p entries) (end_of c responds) ≡ Some e → is_unbroken p (after p entries) (end_of c responds) e ≡ true
    → got_at entries place c responds expedited ++ waiting_of expedited e ≡ sent_to entries place c responds expedited

-- an end that received the orderly release received all that was sent
abbrev pub ReleaseLaw : Providers → List Entry → Type 0
ReleaseLaw p entries = (place : ℕ) (c : Connection) (responds expedited : Bool) → connection p entries place ≡ Some c → received_release entries place (end_of c responds) ≡ true → got_at entries place c responds expedited ≡ sent_to entries place c responds expedited
