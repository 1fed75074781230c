-- An answer in the form of its call, whose values are as wide as their types, is one that journals have.
use Rattle.std.proofs.Common.{◌≡◌, false, Some, sym}
use Rattle.std.proofs.lemmas.Bool.{false≢true}
use Rattle.xti_base.specs.declared.errno.Errno.{Errno}
use Rattle.xti_base.specs.declared.errno.Errno.TheVariants as errno
use Rattle.xti_base.specs.declared.limit.Limit.{Limit}
use Rattle.xti_base.specs.declared.limit.Limit.TheVariants.{At, Infinite, Invalid}
use Rattle.xti_model.specs.declared.entry.Outcome.{Outcome}
use Rattle.xti_model.specs.declared.entry.Outcome.TheVariants.{Done, Part}
use Rattle.xti_model.specs.declared.entry.Reply.TheVariants as reply
use Rattle.xti_verbs.specs.declared.verb.Verb.{Verb}
use Rattle.xti_journal.specs.Kinds.{Kind as kind}
use Rattle.xti_journal.specs.FieldValue.{Value as value}
use Rattle.xti_journal.specs.Fields.{field, IsOfKind, AreFields}
use Rattle.xti_verbs.specs.Verbs.{answer_to}
use Rattle.xti_journal.specs.Calls.{answer_form, answer_values}
use Rattle.xti_journal.specs.Grammar.{IsAnswer}
use Rattle.xti_laws.specs.Answers.{has_field, AnswersInForm}
use Rattle.xti_laws.specs.Values.{IsLimit, HasValues}

limit-kind : (l : Limit) → IsLimit l → IsOfKind kind.Limit (value.Limit l)
limit-kind (At n) h = h
limit-kind Infinite h = tt
limit-kind Invalid h = tt

error-kind : (e : Errno) → has_field e ≡ false → IsOfKind kind.Errno (value.Errno e)
error-kind errno.TLOOK h = absurd (false≢true (sym h))
error-kind errno.TBUFOVFLW h = absurd (false≢true (sym h))
error-kind other h = tt

answer-fields : (verb : Verb) (o : Outcome) → AnswersInForm verb o → HasValues o → AreFields (answer_form (answer_to o)) (answer_values o)
unfolding answer_form field
answer-fields verb (Part taken) f h = (h, tt)
answer-fields verb (Done reply.Plain) f h = tt
answer-fields verb (Done (reply.Opened fd)) f h = (h, tt)
answer-fields verb (Done (reply.Bound addr qlen)) f h = (h.0, (h.1, tt))
answer-fields verb (Done (reply.Connected addr opt udata)) f h = (h.0, (h.1, (h.2, tt)))
answer-fields verb (Done (reply.Listened seq addr opt udata)) f h = (h.0, (h.1, (h.2, (h.3, tt))))
answer-fields verb (Done (reply.Sent n)) f h = (h, tt)
answer-fields verb (Done (reply.Got bytes flags)) f h = (h.0, (h.1, tt))
answer-fields verb (Done (reply.Discon reason seq udata)) f h = (h.0, (h.1, (h.2, tt)))
answer-fields verb (Done (reply.RelData udata)) f h = (h, tt)
answer-fields verb (Done (reply.UData addr opt bytes flags)) f h = (h.0, (h.1, (h.2, (h.3, tt))))
answer-fields verb (Done (reply.UDErr addr opt code)) f h = (h.0, (h.1, (h.2, tt)))
answer-fields verb (Done (reply.Seen event)) f h = (tt, tt)
answer-fields verb (Done (reply.Stands state)) f h = (tt, tt)
answer-fields verb (Done (reply.Limits info)) f h =
    (limit-kind info.addr h.addr, (limit-kind info.options h.options, (limit-kind info.tsdu h.tsdu, (limit-kind info.etsdu h.etsdu, (limit-kind info.connect h.connect, (limit-kind info.discon h.discon, (tt, (h.flags, tt))))))))
answer-fields verb (Done (reply.Addresses local peer)) f h = (h.0, (h.1, tt))
answer-fields verb (Done (reply.Options result opt)) f h = (h.0, (h.1, tt))
answer-fields verb (Done (reply.Refused e)) f h = (error-kind e f.1, tt)
answer-fields verb (Done (reply.Look event)) f h = (tt, tt)
answer-fields verb (Done (reply.Overflow seq)) f h = (h, tt)

pub is-answer : (verb : Verb) (o : Outcome) → AnswersInForm verb o → HasValues o → IsAnswer (Some verb) o
is-answer verb o f h = (f.0, answer-fields verb o f h)
