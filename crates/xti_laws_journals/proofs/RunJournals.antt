-- The journal of a run has a text.
use Rattle.std.specs.Prelude.{◌≡◌, true, List, [], All, length}
use Rattle.xti_model.specs.declared.call.Call.{Call}
use Rattle.xti_model.specs.declared.entry.Entry.{Entry}
use Rattle.xti_model.specs.declared.entry.Go.{Go}
use Rattle.xti_model.specs.declared.profile.Providers.{Providers}
use Rattle.xti_model.specs.declared.script.Script.{Script}
use Rattle.xti_model.specs.Complete.{resolved_in}
use Rattle.xti_model.specs.History.{Legal}
use Rattle.xti_model.specs.Profile.{valid, releases_told}
use Rattle.xti_model.specs.Resolve.{Placed, placed, begun, meanings}
use Rattle.xti_model.specs.SentBytes.{HasByteArguments, AllHaveByteArguments}
use Rattle.xti_model.specs.World.{World, opening}
use Rattle.xti_verbs.specs.Verbs.{verb_of}
use Rattle.xti_journal.specs.Grammar.{HasText}
use Rattle.xti_script_reader.specs.Grammar.{HasText as HasScriptText}
use Rattle.xti_laws.specs.Given.{OfStep}
use Rattle.xti_laws_streams.specs.Laws.{IsLegalRun}
use Rattle.xti_laws.specs.Answers.{AnswersInForm}
use Rattle.xti_laws.specs.Values.{IsOfBytes, AreOfBytes, AnswersValues}
use Rattle.xti_laws_journals.specs.Runs.{journal_of}
use Rattle.xti_laws_journals.proofs.FollowedCalls.{placed-such, one-placed, begun-such}
use Rattle.xti_laws_journals.proofs.ValuedScripts.{IsWritable, IsWritableNamed, script-writable}
use Rattle.xti_laws_journals.proofs.NamedNumbers.{meanings-numbered, named-of-bytes, lines-of-bytes}
use Rattle.xti_laws_journals.proofs.JournalEntries.{entries-are}
use Rattle.xti_laws_journals.proofs.JournalStalls.{stalls-are}

module _
    (valued : (p : Providers) (entries : List Entry) → valid p ≡ true → Legal p entries → AreOfBytes entries → All AnswersValues entries)
    (form : (p : Providers) (w : World) (c : Call) (g : Go) → OfStep p w c g (λ s. AnswersInForm (verb_of c) s.outcome))
    (s : Script)
    (es : List Entry)
    (v : valid s.providers ≡ true)
    (w : releases_told s.providers ≡ true)
    (b : AllHaveByteArguments s.lines)
    (h : HasScriptText s)
    (r : IsLegalRun s es)
  where
    answers : All AnswersValues es
    answers = valued s.providers es v r.legal (begun-such HasByteArguments IsOfBytes s.lines es r.workers_only r.follows (lines-of-bytes s.lines b) (λ l k. named-of-bytes (meanings l.earlier l.line.worker es) l.line.call k))

    of_line : (l : Placed) → IsWritableNamed s.providers.version l.line.call → IsWritable s.providers.version (resolved_in es l)
    of_line l k = k (meanings l.earlier l.line.worker es) (meanings-numbered l.earlier l.line.worker es answers)

    pub run-text : HasText (journal_of s es)
    run-text = record {
      providers = v;
      releases = w;
      entries = entries-are s.providers.version s.providers (opening s.providers) es (form s.providers) r.legal (begun-such (IsWritableNamed s.providers.version) (IsWritable s.providers.version) s.lines es r.workers_only r.follows (script-writable s h) of_line) answers r.workers_only;
      stalls = stalls-are s.providers.version s.lines es (λ worker l n. of_line l (one-placed (IsWritableNamed s.providers.version) (placed s.lines worker) (length (begun es worker)) l (placed-such (IsWritableNamed s.providers.version) [] s.lines worker (script-writable s h)) n));
    }
