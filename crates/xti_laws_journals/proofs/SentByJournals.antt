-- The calls of a journal that has a text send bytes.
use Rattle.std.proofs.Common.{ℕ, ◌<◌, List, [], ◌∷◌, ◌++◌, Option, Some, None}
use Rattle.std.specs.Prelude.{All}
use Rattle.std.specs.List.{concat}
use Rattle.std.proofs.lemmas.List.Elements.{All-nil, All-head, All-tail, All-append}
use Rattle.xti_model.specs.declared.call.Call.{Call}
use Rattle.xti_model.specs.declared.call.Call.TheVariants as call
use Rattle.xti_model.specs.declared.entry.Act.{Act}
use Rattle.xti_model.specs.declared.entry.Act.TheVariants.{Begin, More}
use Rattle.xti_model.specs.declared.entry.Entry.{Entry}
use Rattle.xti_model.specs.SentBytes.{AreBytes, SendsBytes, BeginsBytes, AllSendBytes}
use Rattle.xti_model.specs.declared.profile.Version.{Version}
use Rattle.xti_verbs.specs.declared.verb.Verb.{Verb}
use Rattle.xti_journal.specs.Fields.{field, AreFields}
use Rattle.xti_verbs.specs.Verbs.{verb_of}
use Rattle.xti_journal.specs.Calls.{form, call_values}
use Rattle.xti_journal.specs.Grammar.{IsAct, AreEntries}

joined-bytes : (parts : List (List ℕ)) → All AreBytes parts → AreBytes (concat parts)
joined-bytes [] a = All-nil (λ b. b < 256)
joined-bytes (part ∷ parts) a = All-append (λ b. b < 256) part (concat parts) (All-head AreBytes part parts a) (joined-bytes parts (All-tail AreBytes part parts a))

fields-send : (c : Call) → AreFields (form (verb_of c)) (call_values c) → SendsBytes c
unfolding form field
fields-send (call.TSnd fd bytes flags) h = h.1.0
fields-send (call.TSndV fd parts flags) h = joined-bytes parts h.1.0
fields-send other h = tt

act-sends : (version : Version) (o : Option Verb) (a : Act) → IsAct version o a → BeginsBytes a
act-sends version None (Begin c) h = fields-send c h.1
act-sends version (Some v) (Begin c) h = fields-send c h.1
act-sends version o More h = tt

pub entries-send : (version : Version) (past es : List Entry) → AreEntries version past es → AllSendBytes es
entries-send version past [] h = tt
entries-send version past (e ∷ es) h = (act-sends version _ e.act h.0.act, entries-send version (past ++ e ∷ []) es h.1)
