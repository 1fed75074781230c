-- What the names of a script stand for are numbers of 32 bits, where its answers have such values; and its calls are of bytes.
use Rattle.std.proofs.Common.{ℕ, Bool, true, false, cond, List, [], ◌∷◌, Option, Some, None, arith}
use Rattle.std.specs.Prelude.{All}
use Rattle.std.proofs.lemmas.List.Elements.{All-head, All-tail, All-filter}
use Rattle.xti_model.specs.declared.entry.Entry.{Entry}
use Rattle.xti_model.specs.declared.entry.Outcome.{Outcome}
use Rattle.xti_model.specs.declared.entry.Outcome.TheVariants.{Done}
use Rattle.xti_model.specs.declared.entry.Reply.TheVariants as reply
use Rattle.xti_model.specs.declared.script.NamedCall.{NamedCall}
use Rattle.xti_model.specs.declared.script.NamedCall.TheVariants as named
use Rattle.xti_model.specs.declared.script.Line.{Line}
use Rattle.xti_model.specs.History.{is_own, own}
use Rattle.xti_model.specs.Resolve.{is_begin, begun, answer_of, answer_to, or_else, opened_fd, listened_number, opens, listens, lines_of, Meanings, meanings, with_numbers}
use Rattle.xti_model.specs.SentBytes.{HasByteArguments, AllHaveByteArguments}
use Rattle.xti_laws.specs.Values.{IsOfBytes, IsNumber, HasValues, AnswersValues}
use Rattle.xti_laws_journals.proofs.FollowedCalls.{AllLines}
use Rattle.xti_laws_journals.proofs.ValuedScripts.{AreNumbered}

abbrev Valued : Option Outcome → Type 0
Valued None = Unit {0}
Valued (Some o) = HasValues o

answer-valued : (test : NamedCall → Bool) (lines : List Line) (es : List Entry) → All AnswersValues es → Valued (answer_of test lines es)
answer-valued test [] es a = tt
answer-valued test (line ∷ lines) [] a = tt
answer-valued test (line ∷ lines) (e ∷ es) a = go (test line.call) (answer-valued test lines es (All-tail AnswersValues e es a))
  where
    go : (b : Bool) → Valued (answer_of test lines es) → Valued (cond b (Some e.outcome) (answer_of test lines es))
    go true k = All-head AnswersValues e es a
    go false k = k

either-valued : (o other : Option Outcome) → Valued o → Valued other → Valued (or_else o other)
either-valued None other h k = k
either-valued (Some o) other h k = h

begun-valued : (es : List Entry) (worker : ℕ) → All AnswersValues es → All AnswersValues (begun es worker)
begun-valued es worker a = All-filter (λ e. is_begin e.act) AnswersValues (own es worker) (All-filter (is_own worker) AnswersValues es a)

told-valued : (earlier : List Line) (worker : ℕ) (es : List Entry) (test : NamedCall → Bool) → All AnswersValues es → Valued (answer_to earlier worker es test)
told-valued earlier worker es test a =
    either-valued (answer_of test (lines_of earlier worker) (begun es worker)) (answer_of test (lines_of earlier 0) (begun es 0))
    (answer-valued test (lines_of earlier worker) (begun es worker) (begun-valued es worker a)) (answer-valued test (lines_of earlier 0) (begun es 0) (begun-valued es 0 a))

opened-number : (o : Option Outcome) → Valued o → IsNumber (opened_fd o)
opened-number (Some (Done (reply.Opened fd))) h = h
opened-number other h = omega arith

heard-number : (o : Option Outcome) → Valued o → IsNumber (listened_number o)
heard-number (Some (Done (reply.Listened seq addr opt udata))) h = h.0
heard-number (Some (Done (reply.Overflow seq))) h = h
heard-number other h = omega arith

pub meanings-numbered : (earlier : List Line) (worker : ℕ) (es : List Entry) → All AnswersValues es → AreNumbered (meanings earlier worker es)
meanings-numbered earlier worker es a = (
  (λ name. opened-number (answer_to earlier worker es (opens name)) (told-valued earlier worker es (opens name) a)),
  (λ name. heard-number (answer_to earlier worker es (listens name)) (told-valued earlier worker es (listens name) a)),
)

-- ---- bytes

pub named-of-bytes : (m : Meanings) (c : NamedCall) → HasByteArguments c → IsOfBytes (with_numbers m c)
named-of-bytes m (named.TBind fd addr qlen amax) h = h
named-of-bytes m (named.TConnect fd addr opt udata amax omax umax) h = h
named-of-bytes m (named.TAccept fd resfd seq opt udata) h = h
named-of-bytes m (named.TSnd fd bytes flags) h = h
named-of-bytes m (named.TSndV fd parts flags) h = h
named-of-bytes m (named.TSndDis fd seq udata) h = h
named-of-bytes m (named.TSndRelData fd udata) h = h
named-of-bytes m (named.TSndUData fd addr opt bytes) h = h
named-of-bytes m (named.TSndVUData fd addr opt parts) h = h
named-of-bytes m (named.TOptMgmt fd action opt omax) h = h
named-of-bytes m other h = tt

pub lines-of-bytes : (lines : List Line) → AllHaveByteArguments lines → AllLines HasByteArguments lines
lines-of-bytes [] h = tt
lines-of-bytes (line ∷ lines) h = (h.0, lines-of-bytes lines h.1)
