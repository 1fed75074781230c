use Rattle.std.proofs.Common.{◌≡◌, [], ◌≤◌, ◌+◌, ◌∙◌, List, length, sym, ap, subst}
use Rattle.std.specs.Prelude.{Result, Ok, Err, IfOk}
use Rattle.xti_model.specs.declared.entry.Entry.{Entry}
use Rattle.xti_model.specs.declared.script.Journal.{Journal}
use Rattle.xti_model.specs.declared.script.Script.{Script}
use Rattle.xti_model.specs.Robin.{robin}
use Rattle.xti_model.specs.Complete.{IsHistoryOf}
use Rattle.xti_model.specs.Work.{script_bytes}
use Rattle.xti_model.proofs.GoingOn.{history-begins}
use Rattle.xti_replay.specs.Stalls.{gone_on, stalls_after, stalls_of}
use Rattle.xti_replay.proofs.Few.{robin-few}
use Rattle.xti_replay.proofs.WholeRuns.{gone-from_start}
use Rattle.xti_replay.proofs.replaying.replay.Goals as goal

pub go_on-requires-clause-history : goal.go_on-requires-clause-history
go_on-requires-clause-history c = subst (IsHistoryOf c.args.s.now.providers c.args.s.now.lines) (sym c.new.ensures) (history-begins c.args.s.now.providers c.args.s.now.lines)

from-start : (s : Script) (history : List Entry) → history ≡ [] → gone_on s history ≡ robin s
from-start s history e = ap (gone_on s) e ∙ gone-from_start s

entries-from : {E : Type 0} (s : Script) (history : List Entry) (r : Result Journal E) → history ≡ [] → IfOk r (λ (j : Journal). j.entries ≡ gone_on s history) → IfOk r (λ (j : Journal). j.entries ≡ robin s)
entries-from s history (Ok j) e h = h ∙ from-start s history e
entries-from s history (Err x) e h = tt

stalls-from : {E : Type 0} (s : Script) (history : List Entry) (r : Result Journal E) → history ≡ [] → IfOk r (λ (j : Journal). j.stalls ≡ stalls_after s.lines (gone_on s history)) → IfOk r (λ (j : Journal). j.stalls ≡ stalls_of s)
stalls-from s history (Ok j) e h = subst (λ (es : List Entry). j.stalls ≡ stalls_after s.lines es) (from-start s history e) h
stalls-from s history (Err x) e h = tt

few-from : {E : Type 0} (s : Script) (r : Result Journal E) → IfOk r (λ (j : Journal). j.entries ≡ robin s) → IfOk r (λ (j : Journal). length j.entries ≤ length s.lines + script_bytes s.lines)
few-from s (Ok j) h = subst (λ (es : List Entry). length es ≤ length s.lines + script_bytes s.lines) (sym h) (robin-few s)
few-from s (Err x) h = tt

pub returns-clause-entries : goal.returns-clause-entries
returns-clause-entries c = entries-from c.args.s.now c.new.result c.go_on.result c.new.ensures c.go_on.ensures.entries

pub returns-clause-stalls : goal.returns-clause-stalls
returns-clause-stalls c = stalls-from c.args.s.now c.new.result c.go_on.result c.new.ensures c.go_on.ensures.stalls

pub returns-clause-few : goal.returns-clause-few
returns-clause-few c = few-from c.args.s.now c.go_on.result (returns-clause-entries c)
