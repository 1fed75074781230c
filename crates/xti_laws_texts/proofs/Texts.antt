-- The text of an answer tells the outcome and the state.
use Rattle.std.proofs.Common.{◌≡◌, ℕ, true, false, cond, eqb, List, [], ◌∷◌, ◌++◌, length, get_or, map, Some, refl, sym, ap, subst, ◌∙◌}
use Rattle.std.specs.Prelude.{All, codes}
use Rattle.std.specs.List.{join_with_byte}
use Rattle.std.proofs.lemmas.Bool.{false≢true}
use Rattle.std.proofs.lemmas.List.{append_assoc, append_cancel_left}
use Rattle.std.proofs.lemmas.List.Elements.{All-head, All-tail, All-append}
use Rattle.xti_base.specs.declared.errno.Errno.{Errno}
use Rattle.xti_base.specs.declared.errno.Errno.TheVariants as errno
use Rattle.xti_base.specs.declared.kinds.State.{State}
use Rattle.xti_base.specs.declared.kinds.State.TheVariants as state
use Rattle.xti_base.specs.declared.limit.Limit.{Limit}
use Rattle.xti_base.specs.declared.limit.Limit.TheVariants as limit
use Rattle.xti_base.specs.Kinds.{state_name}
use Rattle.xti_words.specs.Texts.{pieces_of}
use Rattle.xti_model.specs.declared.entry.Act.TheVariants.{More}
use Rattle.xti_model.specs.declared.entry.Entry.{Entry}
use Rattle.xti_model.specs.declared.entry.Outcome.{Outcome}
use Rattle.xti_model.specs.declared.entry.Outcome.TheVariants.{Done, Part}
use Rattle.xti_model.specs.declared.entry.Reply.TheVariants as reply
use Rattle.xti_journal_text.specs.JournalText.{outcome_text, answer_text}
use Rattle.xti_journal.specs.FieldValue.{Value}
use Rattle.xti_journal.specs.FieldValue.{Value as value}
use Rattle.xti_journal.specs.Kinds.{Kind as kind}
use Rattle.xti_verbs.specs.declared.verb.Verb.{Verb}
use Rattle.xti_verbs.specs.declared.answer.Answer.{Answer}
use Rattle.xti_verbs.specs.declared.answer.Answer.TheVariants as answer
use Rattle.xti_journal.specs.Fields.{field, kind_of, IsOfKind}
use Rattle.xti_verbs.specs.Verbs.{answer_of, answer_to, MayAnswer}
use Rattle.xti_journal.specs.Calls.{answer_form, answer_values}
use Rattle.xti_journal.specs.Grammar.{IsAnswer}
use Rattle.xti_journal.specs.Reading.{AnswerRead, EntryRead, entry_read, act_read, outcome_read}
use Rattle.xti_journal.proofs.NumberLaws.{Above}
use Rattle.xti_journal.proofs.Splits.{pieces-join, join-append}
use Rattle.xti_journal.proofs.ValueLaws.{state_above}
use Rattle.xti_journal.proofs.FieldLaws.{texts}
use Rattle.xti_journal.proofs.CallText.{answer_words, outcome_words, outcome_is, answer_above}
use Rattle.xti_journal.proofs.OneEntry.{one_entry}
use Rattle.xti_laws.specs.Answers.{has_field, IsWhole, AnswersInForm}
use Rattle.xti_laws.specs.Values.{IsLimit}
use Rattle.xti_laws_texts.specs.Texts.{AreNumbers}
use Rattle.xti_laws_texts.proofs.Shapes.{AreShaped, IsShaped, are-shaped, fields-above, one-fields, one-value}

-- ---- the values of an answer in form

true-not-false : {P : Type 0} → true ≡ false → P
true-not-false e = absurd (false≢true (sym e))

errno-alone : (e : Errno) → has_field e ≡ false → IsOfKind kind.Errno (value.Errno e)
errno-alone errno.TLOOK h = true-not-false h
errno-alone errno.TBUFOVFLW h = true-not-false h
errno-alone errno.TBADADDR h = tt
errno-alone errno.TBADOPT h = tt
errno-alone errno.TACCES h = tt
errno-alone errno.TBADF h = tt
errno-alone errno.TNOADDR h = tt
errno-alone errno.TOUTSTATE h = tt
errno-alone errno.TBADSEQ h = tt
errno-alone errno.TSYSERR h = tt
errno-alone errno.TBADDATA h = tt
errno-alone errno.TFLOW h = tt
errno-alone errno.TNODATA h = tt
errno-alone errno.TNODIS h = tt
errno-alone errno.TNOUDERR h = tt
errno-alone errno.TBADFLAG h = tt
errno-alone errno.TNOREL h = tt
errno-alone errno.TNOTSUPPORT h = tt
errno-alone errno.TSTATECHNG h = tt
errno-alone errno.TNOSTRUCTYPE h = tt
errno-alone errno.TBADNAME h = tt
errno-alone errno.TBADQLEN h = tt
errno-alone errno.TADDRBUSY h = tt
errno-alone errno.TINDOUT h = tt
errno-alone errno.TPROVMISMATCH h = tt
errno-alone errno.TRESQLEN h = tt
errno-alone errno.TRESADDR h = tt
errno-alone errno.TQFULL h = tt
errno-alone errno.TPROTO h = tt

limit-shaped : (l : Limit) → IsLimit l → IsShaped kind.Limit (value.Limit l)
limit-shaped (limit.At n) h = h
limit-shaped limit.Infinite h = tt
limit-shaped limit.Invalid h = tt

answer-shaped : (o : Outcome) → IsWhole o → AreNumbers o → AreShaped (map kind_of (answer_form (answer_to o))) (answer_values o)
unfolding answer_form field
answer-shaped (Part taken) w h = (h, tt)
answer-shaped (Done reply.Plain) w h = tt
answer-shaped (Done (reply.Opened fd)) w h = (h, tt)
answer-shaped (Done (reply.Bound addr qlen)) w h = (tt, (h, tt))
answer-shaped (Done (reply.Connected addr opt udata)) w h = (tt, (tt, (tt, tt)))
answer-shaped (Done (reply.Listened seq addr opt udata)) w h = (h, (tt, (tt, (tt, tt))))
answer-shaped (Done (reply.Sent n)) w h = (h, tt)
answer-shaped (Done (reply.Got bytes flags)) w h = (tt, (h, tt))
answer-shaped (Done (reply.Discon reason seq udata)) w h = (h.0, (h.1, (tt, tt)))
answer-shaped (Done (reply.RelData udata)) w h = (tt, tt)
answer-shaped (Done (reply.UData addr opt bytes flags)) w h = (tt, (tt, (tt, (h, tt))))
answer-shaped (Done (reply.UDErr addr opt code)) w h = (tt, (tt, (h, tt)))
answer-shaped (Done (reply.Seen event)) w h = (tt, tt)
answer-shaped (Done (reply.Stands state)) w h = (tt, tt)
answer-shaped (Done (reply.Limits info)) w h = (limit-shaped info.addr h.addr, (limit-shaped info.options h.options, (limit-shaped info.tsdu h.tsdu, (limit-shaped info.etsdu h.etsdu, (limit-shaped info.connect h.connect, (limit-shaped info.discon h.discon, (tt, (h.flags, tt))))))))
answer-shaped (Done (reply.Addresses local peer)) w h = (tt, (tt, tt))
answer-shaped (Done (reply.Options result opt)) w h = (h, (tt, tt))
answer-shaped (Done (reply.Refused errno)) w h = (errno-alone errno w, tt)
answer-shaped (Done (reply.Look event)) w h = (tt, tt)
answer-shaped (Done (reply.Overflow seq)) w h = (h, tt)

-- ---- the words of an answer and a state

abbrev words : Outcome → State → List (List ℕ)
words o s = outcome_words o ++ state_name s ∷ []

first-words : (a : Answer) → (rest : List (List ℕ)) → All (Above 32) rest → All (Above 32) (answer_words a ++ rest)
first-words a rest h = All-append (Above 32) (answer_words a) rest (answer_above a) h

words-are : (o : Outcome) (s : State) → words o s ≡ answer_words (answer_to o) ++ (texts (answer_form (answer_to o)) (answer_values o) ++ state_name s ∷ [])
words-are o s = append_assoc (answer_words (answer_to o)) (texts (answer_form (answer_to o)) (answer_values o)) (state_name s ∷ [])

-- there is a first word
begins : (a : Answer) → (rest : List (List ℕ)) → (word : List ℕ) × (others : List (List ℕ)) × (answer_words a ++ rest ≡ word ∷ others)
begins answer.Part rest = (codes "part", rest, refl)
begins answer.Refused rest = (codes "err", rest, refl)
begins answer.Look rest = (codes "err", codes "TLOOK" ∷ rest, refl)
begins answer.Overflow rest = (codes "err", codes "TBUFOVFLW" ∷ rest, refl)
begins answer.Plain rest = (codes "ok", rest, refl)
begins answer.Opened rest = (codes "ok", rest, refl)
begins answer.Bound rest = (codes "ok", rest, refl)
begins answer.Connected rest = (codes "ok", rest, refl)
begins answer.Listened rest = (codes "ok", rest, refl)
begins answer.Sent rest = (codes "ok", rest, refl)
begins answer.Got rest = (codes "ok", rest, refl)
begins answer.Discon rest = (codes "ok", rest, refl)
begins answer.RelData rest = (codes "ok", rest, refl)
begins answer.UData rest = (codes "ok", rest, refl)
begins answer.UDErr rest = (codes "ok", rest, refl)
begins answer.Seen rest = (codes "ok", rest, refl)
begins answer.Stands rest = (codes "ok", rest, refl)
begins answer.Limits rest = (codes "ok", rest, refl)
begins answer.Addresses rest = (codes "ok", rest, refl)
begins answer.Options rest = (codes "ok", rest, refl)

text-is : (o : Outcome) (s : State) → answer_text o s ≡ join_with_byte 32 (words o s)
text-is o s =
    let b = begins (answer_to o) (texts (answer_form (answer_to o)) (answer_values o)) in
    append_assoc (outcome_text o) (codes " ") (state_name s)
    ∙ ap (λ (t : List ℕ). t ++ 32 ∷ state_name s) (outcome_is o ∙ ap (join_with_byte 32) b.2)
    ∙ sym (join-append 32 b.0 b.1 (state_name s) [])
    ∙ ap (λ (ws : List (List ℕ)). join_with_byte 32 (ws ++ state_name s ∷ [])) (sym b.2)

pieces-are : (o : Outcome) (s : State) → AreShaped (map kind_of (answer_form (answer_to o))) (answer_values o) → pieces_of 32 (answer_text o s) ≡ words o s
pieces-are o s h =
    let rest : List (List ℕ) = texts (answer_form (answer_to o)) (answer_values o) ++ state_name s ∷ [] in
    let b = begins (answer_to o) rest in
    let all : All (Above 32) (answer_words (answer_to o) ++ rest) = first-words (answer_to o) rest (fields-above (answer_form (answer_to o)) (answer_values o) (state_name s) h (state_above s)) in
    let each : All (Above 32) (b.0 ∷ b.1) = subst (All (Above 32)) b.2 all in
    ap (pieces_of 32) (text-is o s ∙ ap (join_with_byte 32) (words-are o s ∙ b.2))
    ∙ pieces-join 32 b.0 b.1 (All-head (Above 32) b.0 b.1 each) (All-tail (Above 32) b.0 b.1 each)
    ∙ sym (words-are o s ∙ b.2)

-- ---- the first words tell which answer it is

abbrev sort_of : Answer → ℕ
sort_of answer.Part = 0
sort_of answer.Refused = 1
sort_of answer.Look = 2
sort_of answer.Overflow = 3
sort_of other = 4

abbrev sort_in : List (List ℕ) → ℕ
sort_in ws = cond (eqb (get_or (get_or ws 0 []) 0 0) 112) 0 (cond (eqb (get_or (get_or ws 0 []) 0 0) 111) 4 (cond (eqb (length ws) 3) 1 (cond (eqb (get_or (get_or ws 1 []) 1 0) 76) 2 3)))

told-sort : (o : Outcome) (s : State) → sort_in (words o s) ≡ sort_of (answer_to o)
unfolding answer_form field
told-sort (Part taken) s = refl
told-sort (Done reply.Plain) s = refl
told-sort (Done other) s = refl

-- the answer of this sort
abbrev answer_with : Verb → ℕ → Answer
answer_with v n = get_or (answer.Part ∷ answer.Refused ∷ answer.Look ∷ answer.Overflow ∷ []) n (answer_of v)

by-sort : (v : Verb) (a : Answer) → MayAnswer v a → a ≡ answer_with v (sort_of a)
by-sort v answer.Part h = refl
by-sort v answer.Refused h = refl
by-sort v answer.Look h = refl
by-sort v answer.Overflow h = refl
by-sort v answer.Plain h = h
by-sort v answer.Opened h = h
by-sort v answer.Bound h = h
by-sort v answer.Connected h = h
by-sort v answer.Listened h = h
by-sort v answer.Sent h = h
by-sort v answer.Got h = h
by-sort v answer.Discon h = h
by-sort v answer.RelData h = h
by-sort v answer.UData h = h
by-sort v answer.UDErr h = h
by-sort v answer.Seen h = h
by-sort v answer.Stands h = h
by-sort v answer.Limits h = h
by-sort v answer.Addresses h = h
by-sort v answer.Options h = h

same-answer : (v : Verb) (o q : Outcome) (a b : State) → MayAnswer v (answer_to o) → MayAnswer v (answer_to q) → words o a ≡ words q b → answer_to o ≡ answer_to q
same-answer v o q a b h g e =
    by-sort v (answer_to o) h
    ∙ ap (answer_with v) (sym (told-sort o a) ∙ ap sort_in e ∙ told-sort q b)
    ∙ sym (by-sort v (answer_to q) g)

-- ---- the outcome and the state

abbrev at_entry : Outcome → State → Entry
at_entry o s = record { worker = 0; act = More; outcome = o; after = s }

abbrev read_as : Answer → List Value → AnswerRead
read_as a values = record { answer = a; values = values }

abbrev entry_as : AnswerRead → EntryRead
entry_as read = record { step = record { worker = 0; act = act_read More }; answer = read; after = state.T_IDLE }

one-outcome : (o q : Outcome) → answer_to o ≡ answer_to q → answer_values o ≡ answer_values q → o ≡ q
one-outcome o q a v =
    let read : outcome_read o ≡ outcome_read q = ap (λ (x : Answer). read_as x (answer_values o)) a ∙ ap (read_as (answer_to q)) v in
    let entries : entry_read (at_entry o state.T_IDLE) ≡ entry_read (at_entry q state.T_IDLE) = ap entry_as read in
    ap (λ (e : Entry). e.outcome) (one_entry (at_entry o state.T_IDLE) (at_entry q state.T_IDLE) entries)

one-state : (a b : State) → state_name a ≡ state_name b → a ≡ b
one-state a b e =
    let same : value.State a ≡ value.State b = one-value kind.State (value.State a) (value.State b) tt tt e in
    cc

pub one-answer : (v : Verb) (o q : Outcome) (a b : State) → AnswersInForm v o → AreNumbers o → IsAnswer (Some v) q → answer_text o a ≡ answer_text q b → (o ≡ q) × (a ≡ b)
one-answer v o q a b h n g e =
    let os : AreShaped (map kind_of (answer_form (answer_to o))) (answer_values o) = answer-shaped o h.1 n in
    let qs : AreShaped (map kind_of (answer_form (answer_to q))) (answer_values q) = are-shaped (answer_form (answer_to q)) (answer_values q) g.1 in
    let all : words o a ≡ words q b = sym (pieces-are o a os) ∙ ap (pieces_of 32) e ∙ pieces-are q b qs in
    let same : answer_to o ≡ answer_to q = same-answer v o q a b h.0 g.0 all in
    let qs_here : AreShaped (map kind_of (answer_form (answer_to o))) (answer_values q) = subst (λ (x : Answer). AreShaped (map kind_of (answer_form x)) (answer_values q)) (sym same) qs in
    let other : words q b ≡ answer_words (answer_to o) ++ (texts (answer_form (answer_to o)) (answer_values q) ++ state_name b ∷ []) = words-are q b ∙ ap (λ (x : Answer). answer_words x ++ (texts (answer_form x) (answer_values q) ++ state_name b ∷ [])) (sym same) in
    let rest : texts (answer_form (answer_to o)) (answer_values o) ++ state_name a ∷ [] ≡ texts (answer_form (answer_to o)) (answer_values q) ++ state_name b ∷ [] =
    append_cancel_left (answer_words (answer_to o)) (texts (answer_form (answer_to o)) (answer_values o) ++ state_name a ∷ []) (texts (answer_form (answer_to o)) (answer_values q) ++ state_name b ∷ []) (sym (words-are o a) ∙ all ∙ other) in
    let both = one-fields (answer_form (answer_to o)) (answer_values o) (answer_values q) (state_name a) (state_name b) os qs_here rest in
    (one-outcome o q same both.0, one-state a b both.1)
