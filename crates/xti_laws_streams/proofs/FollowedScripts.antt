-- Where the lines of a script send bytes, so do the entries of workers that follow them.
use Rattle.std.specs.Prelude.{ℕ, zero, suc, ◌<◌, Bool, true, false, List, [], ◌∷◌, ◌++◌, length, map, take, ◌≡◌}
use Rattle.std.specs.List.{AllByRecursion, list_all}
use Rattle.std.proofs.Common.{cond, refl, inl, subst, sym, arith}
use Rattle.std.proofs.lemmas.Bool.{and_parts, eq-eqb, ltb-true}
use Rattle.std.proofs.lemmas.Option.{IfSome_then}
use Rattle.xti_base.specs.declared.kinds.State.{State}
use Rattle.xti_base.specs.declared.limits.TheConstants.{WORKERS}
use Rattle.xti_model.specs.declared.entry.Act.{Act}
use Rattle.xti_model.specs.declared.entry.Act.TheVariants as act
use Rattle.xti_model.specs.declared.entry.Entry.{Entry}
use Rattle.xti_model.specs.declared.entry.Outcome.{Outcome}
use Rattle.xti_model.specs.declared.script.NamedCall.{NamedCall}
use Rattle.xti_model.specs.declared.script.NamedCall.TheVariants as named
use Rattle.xti_model.specs.declared.script.Line.{Line}
use Rattle.xti_model.specs.declared.script.Script.{Script}
use Rattle.xti_model.specs.Complete.{begun_calls, resolved_in, Follows, is_worker}
use Rattle.xti_model.specs.World.{opening}
use Rattle.xti_model.specs.History.{is_own, own}
use Rattle.xti_model.specs.Resolve.{Placed, placed, placed_from, if_own, is_of, begun, Meanings, meanings, with_numbers}
use Rattle.xti_model.specs.Robin.{next_turn, robin, most_steps}
use Rattle.xti_model.specs.SentBytes.{SendsBytes, BeginsBytes, AllSendBytes, NamedSendsBytes, LinesSendBytes}
use Rattle.xti_model.proofs.Completing.{IsRun, turn-run}
use Rattle.xti_model.proofs.GoingOn.{at-each, history-begins, robin-follows}
use Rattle.xti_model.proofs.Legality.{robin_from-legal}
use Rattle.xti_model.proofs.Turns.{robin_from-keeps}
use Rattle.xti_laws_streams.specs.Laws.{IsLegalRun}

named-bytes : (m : Meanings) (c : NamedCall) → NamedSendsBytes c → SendsBytes (with_numbers m c)
named-bytes m (named.TSnd fd bytes flags) h = h
named-bytes m (named.TSndV fd parts flags) h = h
named-bytes m other h = tt

AllPlaced : List Placed → Type 0
AllPlaced [] = Unit {0}
AllPlaced (l ∷ ls) = NamedSendsBytes l.line.call × AllPlaced ls

placed-bytes : (earlier lines : List Line) (worker : ℕ) → LinesSendBytes lines → AllPlaced (placed_from earlier lines worker)
unfolding AllPlaced
placed-bytes earlier [] worker h = tt
placed-bytes earlier (line ∷ lines) worker h = go (is_of worker line) (placed-bytes (earlier ++ line ∷ []) lines worker h.1)
  where
    go : (b : Bool) → AllPlaced (placed_from (earlier ++ line ∷ []) lines worker) → AllPlaced (if_own b (record { earlier = earlier; line = line }) (placed_from (earlier ++ line ∷ []) lines worker))
    go true k = (h.0, k)
    go false k = k

-- the calls of the first lines, with what their names stand for by these entries
resolved-bytes : (es : List Entry) (n : ℕ) (ls : List Placed) → AllPlaced ls → AllByRecursion SendsBytes (map (resolved_in es) (take n ls))
unfolding AllPlaced
resolved-bytes es zero ls a = tt
resolved-bytes es (suc n) [] a = tt
resolved-bytes es (suc n) (l ∷ ls) a = (named-bytes (meanings l.earlier l.line.worker es) l.line.call a.0, resolved-bytes es n ls a.1)

-- the calls that these entries begin send bytes
Sends : List Entry → Type 0
Sends es = AllByRecursion SendsBytes (begun_calls es)

first-sends : (worker : ℕ) (a : Act) (o : Outcome) (s : State) (es : List Entry) → Sends (record { worker = worker; act = a; outcome = o; after = s } ∷ es) → BeginsBytes a × Sends es
unfolding Sends
first-sends worker (act.Begin c) o s es h = h
first-sends worker act.More o s es h = (tt, h)

-- where those of each worker do, those of all do
all-send : (es : List Entry) → list_all is_worker es ≡ true → ((worker : ℕ) → worker < WORKERS → Sends (own es worker)) → AllSendBytes es
all-send [] small sends = tt
all-send (e ∷ es) small sends = (first.0, all-send es parts.1 (λ worker lt. rest worker (is_own worker e) (sends worker lt)))
  where
    parts : (is_worker e ≡ true) × (list_all is_worker es ≡ true)
    parts = and_parts (is_worker e) (list_all is_worker es) small

    begins : (b : Bool) → is_own e.worker e ≡ b → b ≡ true → Sends (own (e ∷ es) e.worker) → Sends (e ∷ own es e.worker)
    begins true q t h = rw q at h
    begins false q t h = absurd cc

    first : BeginsBytes e.act × Sends (own es e.worker)
    first = first-sends e.worker e.act e.outcome e.after (own es e.worker) (begins true (eq-eqb e.worker e.worker refl) refl (sends e.worker (ltb-true e.worker WORKERS parts.0)))

    rest : (worker : ℕ) (b : Bool) → Sends (cond b (e ∷ own es worker) (own es worker)) → Sends (own es worker)
    rest worker true h = (first-sends e.worker e.act e.outcome e.after (own es worker) h).1
    rest worker false h = h

pub run-bytes : (s : Script) (es : List Entry) → IsLegalRun s es → LinesSendBytes s.lines → AllSendBytes es
unfolding Sends
run-bytes s es r h =
    all-send es r.workers_only (λ worker lt.
    subst (AllByRecursion SendsBytes) (sym (at-each (Follows es s.lines) 0 33 r.follows worker (omega arith) (omega (arith, lt))))
    (resolved-bytes es (length (begun es worker)) (placed s.lines worker) (placed-bytes [] s.lines worker h)))

-- The run in which the workers take turns is such a history.

robin-workers : (s : Script) → list_all is_worker (robin s) ≡ true
robin-workers s =
    (robin_from-keeps s.providers s.lines (IsRun s.providers s.lines)
    (λ w past k. IfSome_then (next_turn s.providers s.lines w past) (turn-run s.providers s.lines w past k) (λ t h. h.0))
    most_steps (opening s.providers) [] (record { legal = (tt, refl); possible = λ worker. tt; phase = inl refl; within = refl })).1.within

pub robin-run : (s : Script) → IsLegalRun s (robin s)
robin-run s = record {
  legal = robin_from-legal s.providers s.lines most_steps [] tt;
  workers_only = robin-workers s;
  follows = robin-follows (history-begins s.providers s.lines) most_steps;
}
