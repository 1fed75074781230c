-- Lines are read exactly where they are written so: acts, answers, entries and stall lines.
use Rattle.std.proofs.Common.{◌≡◌, ℕ, ◌≤◌, Bool, true, false, cond, leb, List, [], ◌∷◌, ◌++◌, length, Option, Some, None, Err, refl, sym, ap, subst, ◌∙◌, append_assoc, arith}
use Rattle.std.specs.Prelude.{codes, decimal, All, ◌==◌}
use Rattle.std.specs.Str.{bytes_eq}
use Rattle.std.specs.List.{join_with_byte}
use Rattle.std.proofs.lemmas.Bool.{leb-true, le-leb, eqb-true}
use Rattle.std.proofs.lemmas.Option.{cond_some}
use Rattle.std.proofs.lemmas.List.{append-nil}
use Rattle.std.proofs.lemmas.List.Elements.{All-nil, All-cons, All-append}
use Rattle.std.proofs.lemmas.Slice.Eq.{bytes_eq-Decides}
use Rattle.xti_base.specs.declared.kinds.State.{State}
use Rattle.xti_base.specs.declared.errno.Errno.{Errno}
use Rattle.xti_base.specs.declared.errno.Errno.TheVariants as errno
use Rattle.xti_base.specs.declared.limits.TheConstants.{LAST_WORKER}
use Rattle.xti_base.specs.Errno.{errno_name}
use Rattle.xti_base.specs.Kinds.{state_name}
use Rattle.xti_model.specs.declared.entry.Act.{Act}
use Rattle.xti_model.specs.declared.entry.Act.TheVariants.{Begin, More}
use Rattle.xti_model.specs.declared.entry.Outcome.{Outcome}
use Rattle.xti_model.specs.declared.entry.Outcome.TheVariants.{Done, Part}
use Rattle.xti_model.specs.declared.entry.Reply.TheVariants as reply
use Rattle.xti_model.specs.declared.entry.Entry.{Entry}
use Rattle.xti_model.specs.declared.script.StallLine.{StallLine}
use Rattle.xti_model.specs.declared.profile.Version.{Version}
use Rattle.xti_journal_text.specs.JournalText.{act_text, outcome_text, entry_text, stall_text, end_text}
use Rattle.xti_words.specs.Values.{number_in}
use Rattle.xti_journal.specs.FieldValue.{Value}
use Rattle.xti_journal.specs.FieldValue.{Value as value}
use Rattle.xti_journal.specs.declared.fields.Key.TheVariants as key
use Rattle.xti_verbs.specs.declared.verb.Verb.{Verb}
use Rattle.xti_verbs.specs.declared.verb.Verb.TheVariants.{Open, Close, Bind, Unbind, Connect, RcvConnect, Listen, Accept, Snd, SndV, Rcv, RcvV, SndDis, RcvDis, SndRel, RcvRel, SndRelData, RcvRelData, SndUData, SndVUData, RcvUData, RcvVUData, RcvUDErr, Look, GetState, Sync, GetInfo, GetProtAddr, OptMgmt, SetMode}
use Rattle.xti_verbs.specs.declared.answer.Answer.{Answer}
use Rattle.xti_verbs.specs.declared.answer.Answer.TheVariants as answer
use Rattle.xti_journal.specs.Kinds.{Kind as kind}
use Rattle.xti_journal.specs.Fields.{field, AreFields, IsOfKind}
use Rattle.xti_verbs.specs.Verbs.{is_in_texts, row_of, verb_word, answer_of, verb_of, answer_to, MayAnswer, verb_in}
use Rattle.xti_verbs.proofs.WordLaws.{verb_is, is_known, is_verb}
use Rattle.xti_journal.specs.Calls.{form, call_values, answer_form, answer_values}
use Rattle.xti_journal.specs.Grammar.{verb_after, last_verb, IsAct, IsAnswer, IsEntry, IsStall}
use Rattle.xti_words.specs.declared.noted.FieldFail.{FieldFail}
use Rattle.xti_words.specs.declared.noted.FieldFail.TheVariants.{Wrong, OutOfMemory}
use Rattle.xti_journal.specs.Unread.{IsRead}
use Rattle.xti_journal.specs.Reading.{Found, fields_of, ActRead, Begins, Goes, act_read, begun, call_in, act_in, verb_after_read, AnswerRead, outcome_read, error_in, answer_in, answered, with_answer, outcome_in, small, worker_in, StepRead, worker_does, by_worker, step_in, EntryRead, entry_read, last_state, state_at_end, with_state, with_outcome, behind_arrow, whole_entry, with_step, entry_in, stall_read, is_whole, stall_verb, with_stall, stall_in}
use Rattle.xti_journal.proofs.NumberLaws.{Above, number_sound, number_complete, decimal_above}
use Rattle.xti_journal.proofs.Splits.{join-append, above_less}
use Rattle.xti_journal.proofs.ValueLaws.{is_word, some_is, none_is, known, state_above}
use Rattle.xti_journal.proofs.FieldLaws.{texts, fields_full, fields_exact, texts_above}
use Rattle.xti_journal.proofs.CallText.{call_words, answer_words, outcome_words, call_is, outcome_is, verb_word_above, answer_above}

pub is_same : (xs : List ℕ) → bytes_eq xs xs ≡ true
is_same xs = (bytes_eq-Decides xs xs).1 refl

pair_is : {A B : Type 0} (a c : A) (b d : B) → ◌≡◌ {A = Option (A × B)} (Some (a, b)) (Some (c, d)) → (a ≡ c) × (b ≡ d)
pair_is a c b d e = let p = some_is (a, b) (c, d) e in (ap (λ x. x.0) p, ap (λ x. x.1) p)

-- ---- acts

abbrev pub act_words : Act → List (List ℕ)
act_words (Begin c) = call_words c
act_words More = codes "more" ∷ []

-- journals have the call, and its values are of their kinds
abbrev pub Fits : Version → Act → Type 0
Fits version (Begin c) = (is_in_texts version (verb_of c) ≡ true) × AreFields (form (verb_of c)) (call_values c)
Fits version More = Unit {0}

pub act_fits : (version : Version) (before : Option Verb) (act : Act) → IsAct version before act → Fits version act
act_fits version before (Begin c) h = h
act_fits version None More h = absurd h
act_fits version (Some v) More h = tt

pub is_act : (version : Version) (before : Option Verb) (act : Act) (v : Verb) → Fits version act → verb_after before act ≡ Some v → IsAct version before act
is_act version before (Begin c) v h e = h
is_act version None More v h e = none_is v e
is_act version (Some w) More v h e = tt

pub has_verb : (version : Version) (before : Option Verb) (act : Act) → IsAct version before act → (v : Verb) × (verb_after before act ≡ Some v)
has_verb version before (Begin c) h = (verb_of c, refl)
has_verb version None More h = absurd h
has_verb version (Some v) More h = (v, refl)

pub verb_after_is : (before : Option Verb) (act : Act) → verb_after_read before (act_read act) ≡ verb_after before act
verb_after_is before (Begin c) = refl
verb_after_is before More = refl

not_more : (v : Verb) → bytes_eq (verb_word v) (codes "more") ≡ false
unfolding row_of
not_more Open = refl
not_more Close = refl
not_more Bind = refl
not_more Unbind = refl
not_more Connect = refl
not_more RcvConnect = refl
not_more Listen = refl
not_more Accept = refl
not_more Snd = refl
not_more SndV = refl
not_more Rcv = refl
not_more RcvV = refl
not_more SndDis = refl
not_more RcvDis = refl
not_more SndRel = refl
not_more RcvRel = refl
not_more SndRelData = refl
not_more RcvRelData = refl
not_more SndUData = refl
not_more SndVUData = refl
not_more RcvUData = refl
not_more RcvVUData = refl
not_more RcvUDErr = refl
not_more Look = refl
not_more GetState = refl
not_more Sync = refl
not_more GetInfo = refl
not_more GetProtAddr = refl
not_more OptMgmt = refl
not_more SetMode = refl

act_full : (version : Version) (act : Act) (rest : List (List ℕ)) → Fits version act → act_in version (act_words act ++ rest) ≡ Some (act_read act, rest)
unfolding act_in
act_full version (Begin c) rest h =
    let v : Verb = verb_of c in
    let f : fields_of (form v) (texts (form v) (call_values c) ++ rest) ≡ Some (call_values c, rest) = fields_full (form v) (call_values c) rest h.1 in
    rw (not_more v) (rw (is_verb version v h.0) (ap (begun v) f))
act_full version More rest h = refl

record BegunIs (verb : Verb) (words : List (List ℕ)) (act : ActRead) (rest : List (List ℕ)) : Type 0 where
  values : List Value
  found : fields_of (form verb) words ≡ Some (values, rest)
  same : Begins verb values ≡ act

begun_is : (verb : Verb) (o : Found (List Value)) (words : List (List ℕ)) (act : ActRead) (rest : List (List ℕ)) → fields_of (form verb) words ≡ o → begun verb o ≡ Some (act, rest) → BegunIs verb words act rest
begun_is verb None words act rest p e = none_is (act, rest) e
begun_is verb (Some (values, left)) words act rest p e =
    let q = pair_is (Begins verb values) act left rest e in
    record { values = values; found = p ∙ ap (λ (ws : List (List ℕ)). Some (values, ws)) q.1; same = q.0 }

abbrev goes_verb : ActRead → Option Verb
goes_verb (Begins verb values) = Some verb
goes_verb Goes = None

abbrev act_values : ActRead → List Value
act_values (Begins verb values) = values
act_values Goes = []

act_by_verb : (version : Version) (word : List ℕ) (words : List (List ℕ)) (o : Option Verb) (act : Act) (rest : List (List ℕ)) → verb_in version word ≡ o → call_in o words ≡ Some (act_read act, rest) → (word ∷ words ≡ act_words act ++ rest) × Fits version act
act_by_verb version word words None act rest p e = none_is (act_read act, rest) e
act_by_verb version word words (Some verb) (Begin c) rest p e =
    let b = begun_is verb (fields_of (form verb) words) words (act_read (Begin c)) rest refl e in
    let v : verb ≡ verb_of c = some_is verb (verb_of c) (ap goes_verb b.same) in
    let vs : b.values ≡ call_values c = ap act_values b.same in
    let f : fields_of (form (verb_of c)) words ≡ Some (call_values c, rest) = subst (λ (w : Verb). fields_of (form w) words ≡ Some (call_values c, rest)) v (b.found ∙ ap (λ (l : List Value). Some (l, rest)) vs) in
    let r = fields_exact (form (verb_of c)) words (call_values c) rest f in
    let w : word ≡ verb_word (verb_of c) = verb_is version word verb p ∙ ap verb_word v in
    (ap (λ (l : List ℕ). l ∷ words) w ∙ ap (λ (ls : List (List ℕ)). verb_word (verb_of c) ∷ ls) r.written, (subst (λ (w : Verb). is_in_texts version w ≡ true) v (is_known version word verb p), r.are))
act_by_verb version word words (Some verb) More rest p e =
    let b = begun_is verb (fields_of (form verb) words) words (act_read More) rest refl e in
    none_is verb (sym (ap goes_verb b.same))

act_exact : (version : Version) (words : List (List ℕ)) (act : Act) (rest : List (List ℕ)) → act_in version words ≡ Some (act_read act, rest) → (words ≡ act_words act ++ rest) × Fits version act
unfolding act_in
act_exact version [] act rest e = none_is (act_read act, rest) e
act_exact version (word ∷ words) act rest e = go (bytes_eq word (codes "more")) refl act e
  where
    go : (b : Bool) → bytes_eq word (codes "more") ≡ b → (act : Act) → ◌≡◌ {A = Found ActRead} (cond {A = Found ActRead} b (Some (Goes, words)) (call_in (verb_in version word) words)) (Some (act_read act, rest)) → (word ∷ words ≡ act_words act ++ rest) × Fits version act
    go true t (Begin c) e = let q = pair_is Goes (act_read (Begin c)) words rest e in none_is (verb_of c) (ap goes_verb q.0)
    go true t More e =
        let q = pair_is Goes Goes words rest e in
        (ap (λ (l : List ℕ). l ∷ words) (is_word word (codes "more") t) ∙ ap (λ (ls : List (List ℕ)). codes "more" ∷ ls) q.1, tt)
    go false t act e = act_by_verb version word words (verb_in version word) act rest refl e

act_above : (version : Version) (act : Act) → Fits version act → All (Above 32) (act_words act)
act_above version (Begin c) h = All-cons (Above 32) (verb_word (verb_of c)) (texts (form (verb_of c)) (call_values c)) (verb_word_above (verb_of c)) (texts_above (form (verb_of c)) (call_values c) h.1)
act_above version More h = All-cons (Above 32) (codes "more") [] (known (codes "more") refl) (All-nil (Above 32))

-- ---- answers

other_error : (e : Errno) → IsOfKind kind.Errno (value.Errno e) → (bytes_eq (errno_name e) (codes "TLOOK") ≡ false) × (bytes_eq (errno_name e) (codes "TBUFOVFLW") ≡ false)
other_error errno.TLOOK h = absurd h
other_error errno.TBUFOVFLW h = absurd h
other_error errno.TBADADDR h = (refl, refl)
other_error errno.TBADOPT h = (refl, refl)
other_error errno.TACCES h = (refl, refl)
other_error errno.TBADF h = (refl, refl)
other_error errno.TNOADDR h = (refl, refl)
other_error errno.TOUTSTATE h = (refl, refl)
other_error errno.TBADSEQ h = (refl, refl)
other_error errno.TSYSERR h = (refl, refl)
other_error errno.TBADDATA h = (refl, refl)
other_error errno.TFLOW h = (refl, refl)
other_error errno.TNODATA h = (refl, refl)
other_error errno.TNODIS h = (refl, refl)
other_error errno.TNOUDERR h = (refl, refl)
other_error errno.TBADFLAG h = (refl, refl)
other_error errno.TNOREL h = (refl, refl)
other_error errno.TNOTSUPPORT h = (refl, refl)
other_error errno.TSTATECHNG h = (refl, refl)
other_error errno.TNOSTRUCTYPE h = (refl, refl)
other_error errno.TBADNAME h = (refl, refl)
other_error errno.TBADQLEN h = (refl, refl)
other_error errno.TADDRBUSY h = (refl, refl)
other_error errno.TINDOUT h = (refl, refl)
other_error errno.TPROVMISMATCH h = (refl, refl)
other_error errno.TRESQLEN h = (refl, refl)
other_error errno.TRESADDR h = (refl, refl)
other_error errno.TQFULL h = (refl, refl)
other_error errno.TPROTO h = (refl, refl)

done_full : (v : Verb) (a : Answer) (values : List Value) (rest : List (List ℕ)) → a ≡ answer_of v → AreFields (answer_form a) values → outcome_in v (codes "ok" ∷ (texts (answer_form a) values ++ rest)) ≡ Some (record { answer = a; values = values }, rest)
unfolding outcome_in answer_in
done_full v a values rest e h =
    ap (λ (b : Answer). answered b (fields_of (answer_form b) (texts (answer_form a) values ++ rest))) (sym e)
    ∙ ap (answered a) (fields_full (answer_form a) values rest h)

part_full : (v : Verb) (values : List Value) (rest : List (List ℕ)) → AreFields (answer_form answer.Part) values → outcome_in v (codes "part" ∷ (texts (answer_form answer.Part) values ++ rest)) ≡ Some (record { answer = answer.Part; values = values }, rest)
unfolding outcome_in answer_in
part_full v values rest h = ap (answered answer.Part) (fields_full (answer_form answer.Part) values rest h)

look_full : (v : Verb) (values : List Value) (rest : List (List ℕ)) → AreFields (answer_form answer.Look) values → outcome_in v (codes "err" ∷ codes "TLOOK" ∷ (texts (answer_form answer.Look) values ++ rest)) ≡ Some (record { answer = answer.Look; values = values }, rest)
unfolding outcome_in answer_in
look_full v values rest h = ap (answered answer.Look) (fields_full (answer_form answer.Look) values rest h)

overflow_full : (v : Verb) (values : List Value) (rest : List (List ℕ)) → AreFields (answer_form answer.Overflow) values → outcome_in v (codes "err" ∷ codes "TBUFOVFLW" ∷ (texts (answer_form answer.Overflow) values ++ rest)) ≡ Some (record { answer = answer.Overflow; values = values }, rest)
unfolding outcome_in answer_in
overflow_full v values rest h = ap (answered answer.Overflow) (fields_full (answer_form answer.Overflow) values rest h)

refused_full : (v : Verb) (e : Errno) (rest : List (List ℕ)) → AreFields (answer_form answer.Refused) (value.Errno e ∷ []) → outcome_in v (codes "err" ∷ (texts (answer_form answer.Refused) (value.Errno e ∷ []) ++ rest)) ≡ Some (record { answer = answer.Refused; values = value.Errno e ∷ [] }, rest)
unfolding outcome_in answer_in answer_form field
refused_full v e rest h =
    let o = other_error e h.0 in
    let f : fields_of (key.Errno ∷ []) (errno_name e ∷ rest) ≡ Some (value.Errno e ∷ [], rest) = fields_full (key.Errno ∷ []) (value.Errno e ∷ []) rest h in
    rw (o.0, o.1) (ap (answered answer.Refused) f)

pub outcome_full : (v : Verb) (o : Outcome) (rest : List (List ℕ)) → IsAnswer (Some v) o → outcome_in v (outcome_words o ++ rest) ≡ Some (outcome_read o, rest)
outcome_full v (Part taken) rest h = part_full v (answer_values (Part taken)) rest h.1
outcome_full v (Done reply.Plain) rest h = done_full v answer.Plain (answer_values (Done reply.Plain)) rest h.0 h.1
outcome_full v (Done (reply.Opened fd)) rest h = done_full v answer.Opened (answer_values (Done (reply.Opened fd))) rest h.0 h.1
outcome_full v (Done (reply.Bound addr qlen)) rest h = done_full v answer.Bound (answer_values (Done (reply.Bound addr qlen))) rest h.0 h.1
outcome_full v (Done (reply.Connected addr opt udata)) rest h = done_full v answer.Connected (answer_values (Done (reply.Connected addr opt udata))) rest h.0 h.1
outcome_full v (Done (reply.Listened seq addr opt udata)) rest h = done_full v answer.Listened (answer_values (Done (reply.Listened seq addr opt udata))) rest h.0 h.1
outcome_full v (Done (reply.Sent n)) rest h = done_full v answer.Sent (answer_values (Done (reply.Sent n))) rest h.0 h.1
outcome_full v (Done (reply.Got bytes flags)) rest h = done_full v answer.Got (answer_values (Done (reply.Got bytes flags))) rest h.0 h.1
outcome_full v (Done (reply.Discon reason seq udata)) rest h = done_full v answer.Discon (answer_values (Done (reply.Discon reason seq udata))) rest h.0 h.1
outcome_full v (Done (reply.RelData udata)) rest h = done_full v answer.RelData (answer_values (Done (reply.RelData udata))) rest h.0 h.1
outcome_full v (Done (reply.UData addr opt bytes flags)) rest h = done_full v answer.UData (answer_values (Done (reply.UData addr opt bytes flags))) rest h.0 h.1
outcome_full v (Done (reply.UDErr addr opt code)) rest h = done_full v answer.UDErr (answer_values (Done (reply.UDErr addr opt code))) rest h.0 h.1
outcome_full v (Done (reply.Seen event)) rest h = done_full v answer.Seen (answer_values (Done (reply.Seen event))) rest h.0 h.1
outcome_full v (Done (reply.Stands state)) rest h = done_full v answer.Stands (answer_values (Done (reply.Stands state))) rest h.0 h.1
outcome_full v (Done (reply.Limits info)) rest h = done_full v answer.Limits (answer_values (Done (reply.Limits info))) rest h.0 h.1
outcome_full v (Done (reply.Addresses local peer)) rest h = done_full v answer.Addresses (answer_values (Done (reply.Addresses local peer))) rest h.0 h.1
outcome_full v (Done (reply.Options result opt)) rest h = done_full v answer.Options (answer_values (Done (reply.Options result opt))) rest h.0 h.1
outcome_full v (Done (reply.Refused errno)) rest h = refused_full v errno rest h.1
outcome_full v (Done (reply.Look event)) rest h = look_full v (answer_values (Done (reply.Look event))) rest h.1
outcome_full v (Done (reply.Overflow seq)) rest h = overflow_full v (answer_values (Done (reply.Overflow seq))) rest h.1

abbrev Chosen : Verb → List (List ℕ) → Answer → List (List ℕ) → Type 0
Chosen v words a left = (words ≡ answer_words a ++ left) × MayAnswer v a

ok_words : (v : Verb) → answer_words (answer_of v) ≡ codes "ok" ∷ []
unfolding row_of
ok_words Open = refl
ok_words Close = refl
ok_words Bind = refl
ok_words Unbind = refl
ok_words Connect = refl
ok_words RcvConnect = refl
ok_words Listen = refl
ok_words Accept = refl
ok_words Snd = refl
ok_words SndV = refl
ok_words Rcv = refl
ok_words RcvV = refl
ok_words SndDis = refl
ok_words RcvDis = refl
ok_words SndRel = refl
ok_words RcvRel = refl
ok_words SndRelData = refl
ok_words RcvRelData = refl
ok_words SndUData = refl
ok_words SndVUData = refl
ok_words RcvUData = refl
ok_words RcvVUData = refl
ok_words RcvUDErr = refl
ok_words Look = refl
ok_words GetState = refl
ok_words Sync = refl
ok_words GetInfo = refl
ok_words GetProtAddr = refl
ok_words OptMgmt = refl
ok_words SetMode = refl

may_answer : (v : Verb) → MayAnswer v (answer_of v)
unfolding row_of
may_answer Open = refl
may_answer Close = refl
may_answer Bind = refl
may_answer Unbind = refl
may_answer Connect = refl
may_answer RcvConnect = refl
may_answer Listen = refl
may_answer Accept = refl
may_answer Snd = refl
may_answer SndV = refl
may_answer Rcv = refl
may_answer RcvV = refl
may_answer SndDis = refl
may_answer RcvDis = refl
may_answer SndRel = refl
may_answer RcvRel = refl
may_answer SndRelData = refl
may_answer RcvRelData = refl
may_answer SndUData = refl
may_answer SndVUData = refl
may_answer RcvUData = refl
may_answer RcvVUData = refl
may_answer RcvUDErr = refl
may_answer Look = refl
may_answer GetState = refl
may_answer Sync = refl
may_answer GetInfo = refl
may_answer GetProtAddr = refl
may_answer OptMgmt = refl
may_answer SetMode = refl

chosen_error : (v : Verb) (words : List (List ℕ)) (a : Answer) (left : List (List ℕ)) → error_in words ≡ Some (a, left) → Chosen v (codes "err" ∷ words) a left
chosen_error v [] a left e =
    let t = pair_is answer.Refused a [] left e in
    subst (λ (x : Answer). Chosen v (codes "err" ∷ []) x left) t.0 (ap (λ (ls : List (List ℕ)). codes "err" ∷ ls) t.1, tt)
chosen_error v (word ∷ words) a left e = go (bytes_eq word (codes "TLOOK")) refl (bytes_eq word (codes "TBUFOVFLW")) refl e
  where
    go : (b : Bool) → bytes_eq word (codes "TLOOK") ≡ b → (c : Bool) → bytes_eq word (codes "TBUFOVFLW") ≡ c → ◌≡◌ {A = Found Answer} (cond {A = Found Answer} b (Some (answer.Look, words)) (cond {A = Found Answer} c (Some (answer.Overflow, words)) (Some (answer.Refused, word ∷ words)))) (Some (a, left)) → Chosen v (codes "err" ∷ word ∷ words) a left
    go true p c q e =
        let t = pair_is answer.Look a words left e in
        subst (λ (x : Answer). Chosen v (codes "err" ∷ word ∷ words) x left) t.0 (ap (λ (l : List ℕ). codes "err" ∷ l ∷ words) (is_word word (codes "TLOOK") p) ∙ ap (λ (ls : List (List ℕ)). codes "err" ∷ codes "TLOOK" ∷ ls) t.1, tt)
    go false p true q e =
        let t = pair_is answer.Overflow a words left e in
        subst (λ (x : Answer). Chosen v (codes "err" ∷ word ∷ words) x left) t.0 (ap (λ (l : List ℕ). codes "err" ∷ l ∷ words) (is_word word (codes "TBUFOVFLW") q) ∙ ap (λ (ls : List (List ℕ)). codes "err" ∷ codes "TBUFOVFLW" ∷ ls) t.1, tt)
    go false p false q e =
        let t = pair_is answer.Refused a (word ∷ words) left e in
        subst (λ (x : Answer). Chosen v (codes "err" ∷ word ∷ words) x left) t.0 (ap (λ (ls : List (List ℕ)). codes "err" ∷ ls) t.1, tt)

chosen : (v : Verb) (words : List (List ℕ)) (a : Answer) (left : List (List ℕ)) → answer_in v words ≡ Some (a, left) → Chosen v words a left
unfolding answer_in
chosen v [] a left e = none_is (a, left) e
chosen v (word ∷ words) a left e = go (bytes_eq word (codes "ok")) refl (bytes_eq word (codes "err")) refl (bytes_eq word (codes "part")) refl e
  where
    go : (b : Bool) → bytes_eq word (codes "ok") ≡ b → (c : Bool) → bytes_eq word (codes "err") ≡ c → (d : Bool) → bytes_eq word (codes "part") ≡ d → ◌≡◌ {A = Found Answer} (cond {A = Found Answer} b (Some (answer_of v, words)) (cond {A = Found Answer} c (error_in words) (cond {A = Found Answer} d (Some (answer.Part, words)) None))) (Some (a, left)) → Chosen v (word ∷ words) a left
    go true p c q d r e =
        let t = pair_is (answer_of v) a words left e in
        subst (λ (x : Answer). Chosen v (word ∷ words) x left) t.0
        (ap (λ (l : List ℕ). l ∷ words) (is_word word (codes "ok") p) ∙ ap (λ (ls : List (List ℕ)). codes "ok" ∷ ls) t.1 ∙ ap (λ (ls : List (List ℕ)). ls ++ left) (sym (ok_words v)), may_answer v)
    go false p true q d r e =
        let t = chosen_error v words a left e in
        (ap (λ (l : List ℕ). l ∷ words) (is_word word (codes "err") q) ∙ t.0, t.1)
    go false p false q true r e =
        let t = pair_is answer.Part a words left e in
        subst (λ (x : Answer). Chosen v (word ∷ words) x left) t.0 (ap (λ (l : List ℕ). l ∷ words) (is_word word (codes "part") r) ∙ ap (λ (ls : List (List ℕ)). codes "part" ∷ ls) t.1, tt)
    go false p false q false r e = none_is (a, left) e

record Answered (v : Verb) (words : List (List ℕ)) (read : AnswerRead) (rest : List (List ℕ)) : Type 0 where
  left : List (List ℕ)
  choice : answer_in v words ≡ Some (read.answer, left)
  found : fields_of (answer_form read.answer) left ≡ Some (read.values, rest)

answered_is : (a : Answer) (o : Found (List Value)) (read : AnswerRead) (rest : List (List ℕ)) → answered a o ≡ Some (read, rest) → (a ≡ read.answer) × (o ≡ Some (read.values, rest))
answered_is a None read rest e = none_is (read, rest) e
answered_is a (Some (values, left)) read rest e =
    let p = pair_is (record { answer = a; values = values }) read left rest e in
    (ap (λ (r : AnswerRead). r.answer) p.0, ap (λ (r : AnswerRead). Some (r.values, left)) p.0 ∙ ap (λ (ls : List (List ℕ)). Some (read.values, ls)) p.1)

answered_by : (v : Verb) (words : List (List ℕ)) (o : Found Answer) (read : AnswerRead) (rest : List (List ℕ)) → answer_in v words ≡ o → with_answer o ≡ Some (read, rest) → Answered v words read rest
answered_by v words None read rest p e = none_is (read, rest) e
answered_by v words (Some (a, left)) read rest p e =
    let q = answered_is a (fields_of (answer_form a) left) read rest e in
    record { left = left; choice = p ∙ ap (λ (x : Answer). Some (x, left)) q.0; found = ap (λ (x : Answer). fields_of (answer_form x) left) (sym q.0) ∙ q.1 }

pub outcome_exact : (v : Verb) (words : List (List ℕ)) (o : Outcome) (rest : List (List ℕ)) → outcome_in v words ≡ Some (outcome_read o, rest) → (words ≡ outcome_words o ++ rest) × IsAnswer (Some v) o
unfolding outcome_in
outcome_exact v words o rest e =
    let a = answered_by v words (answer_in v words) (outcome_read o) rest refl e in
    let c = chosen v words (answer_to o) a.left a.choice in
    let f = fields_exact (answer_form (answer_to o)) a.left (answer_values o) rest a.found in
    (c.0 ∙ ap (λ (ls : List (List ℕ)). answer_words (answer_to o) ++ ls) f.written ∙ sym (append_assoc (answer_words (answer_to o)) (texts (answer_form (answer_to o)) (answer_values o)) rest), (c.1, f.are))

outcome_above : (v : Verb) (o : Outcome) → IsAnswer (Some v) o → All (Above 32) (outcome_words o)
outcome_above v o h = All-append (Above 32) (answer_words (answer_to o)) (texts (answer_form (answer_to o)) (answer_values o)) (answer_above (answer_to o)) (texts_above (answer_form (answer_to o)) (answer_values o) h.1)

-- ---- workers

worker_full : (w : ℕ) → w ≤ LAST_WORKER → worker_in (decimal w) ≡ Some w
worker_full w h =
    let n : number_in (decimal w) ≡ Some w = number_complete w (omega arith) in
    let l : leb w LAST_WORKER ≡ true = le-leb w LAST_WORKER h in
    rw n (rw l refl)

worker_exact : (word : List ℕ) (o : Option ℕ) (w : ℕ) → number_in word ≡ o → small o ≡ Some w → (word ≡ decimal w) × (w ≤ LAST_WORKER)
worker_exact word None w p e = none_is w e
worker_exact word (Some n) w p e =
    let t = cond_some (leb n LAST_WORKER) n w e in
    let d = number_sound word n p in
    (d.0 ∙ ap decimal t.1, subst (λ (x : ℕ). x ≤ LAST_WORKER) t.1 (leb-true n LAST_WORKER t.0))

abbrev step_of : ℕ → Act → StepRead
step_of worker act = record { worker = worker; act = act_read act }

step_full : (version : Version) (worker : ℕ) (act : Act) (rest : List (List ℕ)) → worker ≤ LAST_WORKER → Fits version act → step_in version (decimal worker ∷ (act_words act ++ rest)) ≡ Some (step_of worker act, rest)
unfolding step_in
step_full version worker act rest w h = ap (λ (o : Option ℕ). by_worker version o (act_words act ++ rest)) (worker_full worker w) ∙ ap (worker_does worker) (act_full version act rest h)

worker_does_is : (worker : ℕ) (o : Found ActRead) (step : StepRead) (rest : List (List ℕ)) → worker_does worker o ≡ Some (step, rest) → (worker ≡ step.worker) × (o ≡ Some (step.act, rest))
worker_does_is worker None step rest e = none_is (step, rest) e
worker_does_is worker (Some (act, words)) step rest e =
    let p = pair_is (record { worker = worker; act = act }) step words rest e in
    (ap (λ (s : StepRead). s.worker) p.0, ap (λ (s : StepRead). Some (s.act, words)) p.0 ∙ ap (λ (ls : List (List ℕ)). Some (step.act, ls)) p.1)

record StepIs (version : Version) (words : List (List ℕ)) (worker : ℕ) (act : Act) (rest : List (List ℕ)) : Type 0 where
  written : words ≡ decimal worker ∷ (act_words act ++ rest)
  is_worker : worker ≤ LAST_WORKER
  fits : Fits version act

step_by : (version : Version) (word : List ℕ) (words : List (List ℕ)) (o : Option ℕ) (worker : ℕ) (act : Act) (rest : List (List ℕ)) → worker_in word ≡ o → by_worker version o words ≡ Some (step_of worker act, rest) → StepIs version (word ∷ words) worker act rest
step_by version word words None worker act rest p e = none_is (step_of worker act, rest) e
step_by version word words (Some w) worker act rest p e =
    let d = worker_does_is w (act_in version words) (step_of worker act) rest e in
    let n = worker_exact word (number_in word) worker refl (p ∙ ap (λ (x : ℕ). Some x) d.0) in
    let a = act_exact version words act rest d.1 in
    record { written = ap (λ (l : List ℕ). l ∷ words) n.0 ∙ ap (λ (ls : List (List ℕ)). decimal worker ∷ ls) a.0; is_worker = n.1; fits = a.1 }

step_exact : (version : Version) (words : List (List ℕ)) (worker : ℕ) (act : Act) (rest : List (List ℕ)) → step_in version words ≡ Some (step_of worker act, rest) → StepIs version words worker act rest
unfolding step_in
step_exact version [] worker act rest e = none_is (step_of worker act, rest) e
step_exact version (word ∷ words) worker act rest e = step_by version word words (worker_in word) worker act rest refl e

-- ---- states

state_full : (s : State) → state_at_end (state_name s ∷ []) ≡ Some s
unfolding field
state_full s = ap last_state (fields_full (key.State ∷ []) (value.State s ∷ []) [] (tt, tt))

last_is : (o : Found (List Value)) (s : State) → last_state o ≡ Some s → o ≡ Some (value.State s ∷ [], [])
last_is None s e = none_is s e
last_is (Some ([], words)) s e = none_is s e
last_is (Some (value.State t ∷ [], [])) s e = ap (λ (x : State). Some (value.State x ∷ [], [])) (some_is t s e)
last_is (Some (value.State t ∷ [], word ∷ words)) s e = none_is s e
last_is (Some (value.State t ∷ v ∷ vs, words)) s e = none_is s e
last_is (Some (value.Number x ∷ vs, words)) s e = none_is s e
last_is (Some (value.Bytes x ∷ vs, words)) s e = none_is s e
last_is (Some (value.Parts x ∷ vs, words)) s e = none_is s e
last_is (Some (value.Sizes x ∷ vs, words)) s e = none_is s e
last_is (Some (value.Truth x ∷ vs, words)) s e = none_is s e
last_is (Some (value.Provider x ∷ vs, words)) s e = none_is s e
last_is (Some (value.Mode x ∷ vs, words)) s e = none_is s e
last_is (Some (value.Limit x ∷ vs, words)) s e = none_is s e
last_is (Some (value.Service x ∷ vs, words)) s e = none_is s e
last_is (Some (value.Event x ∷ vs, words)) s e = none_is s e
last_is (Some (value.EventOrNone x ∷ vs, words)) s e = none_is s e
last_is (Some (value.Errno x ∷ vs, words)) s e = none_is s e

state_exact : (words : List (List ℕ)) (s : State) → state_at_end words ≡ Some s → words ≡ state_name s ∷ []
unfolding field
state_exact words s e =
    let f = fields_exact (key.State ∷ []) words (value.State s ∷ []) [] (last_is (fields_of (key.State ∷ []) words) s e) in
    f.written

-- ---- entries

abbrev pub behind_words : Outcome → State → List (List ℕ)
behind_words o s = codes "=>" ∷ (outcome_words o ++ state_name s ∷ [])

behind_full : (before : Option Verb) (o : Outcome) (s : State) → IsAnswer before o → behind_arrow before (behind_words o s) ≡ Some (outcome_read o, s)
behind_full None o s h = absurd h
behind_full (Some v) o s h = ap with_outcome (outcome_full v o (state_name s ∷ []) h) ∙ ap (with_state (outcome_read o)) (state_full s)

with_state_is : (read : AnswerRead) (o : Option State) (wanted : AnswerRead) (s : State) → with_state read o ≡ Some (wanted, s) → (read ≡ wanted) × (o ≡ Some s)
with_state_is read None wanted s e = none_is (wanted, s) e
with_state_is read (Some t) wanted s e = let p = pair_is read wanted t s e in (p.0, ap (λ (x : State). Some x) p.1)

with_outcome_is : (v : Verb) (words : List (List ℕ)) (found : Found AnswerRead) (o : Outcome) (s : State) → outcome_in v words ≡ found → with_outcome found ≡ Some (outcome_read o, s) → (words ≡ outcome_words o ++ state_name s ∷ []) × IsAnswer (Some v) o
with_outcome_is v words None o s p e = none_is (outcome_read o, s) e
with_outcome_is v words (Some (read, left)) o s p e =
    let w = with_state_is read (state_at_end left) (outcome_read o) s e in
    let x = outcome_exact v words o left (p ∙ ap (λ (r : AnswerRead). Some (r, left)) w.0) in
    (x.0 ∙ ap (λ (ls : List (List ℕ)). outcome_words o ++ ls) (state_exact left s w.1), x.1)

behind_exact : (before : Option Verb) (words : List (List ℕ)) (o : Outcome) (s : State) → behind_arrow before words ≡ Some (outcome_read o, s) → (words ≡ behind_words o s) × IsAnswer before o
behind_exact None words o s e = none_is (outcome_read o, s) e
behind_exact (Some v) [] o s e = none_is (outcome_read o, s) e
behind_exact (Some v) (word ∷ words) o s e = go (bytes_eq word (codes "=>")) refl e
  where
    go : (b : Bool) → bytes_eq word (codes "=>") ≡ b → cond b (with_outcome (outcome_in v words)) None ≡ Some (outcome_read o, s) → (word ∷ words ≡ behind_words o s) × IsAnswer (Some v) o
    go true p e =
        let w = with_outcome_is v words (outcome_in v words) o s refl e in
        (ap (λ (l : List ℕ). l ∷ words) (is_word word (codes "=>") p) ∙ ap (λ (ls : List (List ℕ)). codes "=>" ∷ ls) w.0, w.1)
    go false p e = none_is (outcome_read o, s) e

-- the words of an entry after its number
abbrev pub entry_words : Entry → List (List ℕ)
entry_words e = decimal e.worker ∷ (act_words e.act ++ behind_words e.outcome e.after)

pub entry_full : (version : Version) (n : ℕ) (past : List Entry) (e : Entry) → IsEntry version past e → entry_in version n (last_verb past) (decimal n) (entry_words e) ≡ Some (entry_read e)
unfolding entry_in
entry_full version n past e h =
    let before : Option Verb = last_verb past e.worker in
    let step : step_in version (entry_words e) ≡ Some (step_of e.worker e.act, behind_words e.outcome e.after) = step_full version e.worker e.act (behind_words e.outcome e.after) h.worker (act_fits version before e.act h.act) in
    let behind : behind_arrow (verb_after before e.act) (behind_words e.outcome e.after) ≡ Some (outcome_read e.outcome, e.after) = behind_full (verb_after before e.act) e.outcome e.after h.answer in
    rw (is_same (decimal n))
    (ap (with_step (last_verb past)) step
    ∙ ap (λ (v : Option Verb). whole_entry (step_of e.worker e.act) (behind_arrow v (behind_words e.outcome e.after))) (verb_after_is before e.act)
    ∙ ap (whole_entry (step_of e.worker e.act)) behind)

record WholeIs (step : StepRead) (o : Option (AnswerRead × State)) (e : Entry) : Type 0 where
  step_is : step ≡ step_of e.worker e.act
  behind_is : o ≡ Some (outcome_read e.outcome, e.after)

whole_is : (step : StepRead) (o : Option (AnswerRead × State)) (e : Entry) → whole_entry step o ≡ Some (entry_read e) → WholeIs step o e
whole_is step None e h = none_is (entry_read e) h
whole_is step (Some (read, s)) e h =
    let p = some_is (record { step = step; answer = read; after = s }) (entry_read e) h in
    record { step_is = ap (λ (r : EntryRead). r.step) p; behind_is = ap (λ (r : EntryRead). Some (r.answer, r.after)) p }

pub record EntryIs (version : Version) (past : List Entry) (words : List (List ℕ)) (e : Entry) : Type 0 where
  pub written : words ≡ entry_words e
  pub is_entry : IsEntry version past e

with_step_is : (version : Version) (past : List Entry) (words : List (List ℕ)) (o : Found StepRead) (e : Entry) → step_in version words ≡ o → with_step (last_verb past) o ≡ Some (entry_read e) → EntryIs version past words e
with_step_is version past words None e p h = none_is (entry_read e) h
with_step_is version past words (Some (step, left)) e p h =
    let w = whole_is step (behind_arrow (verb_after_read (last_verb past step.worker) step.act) left) e h in
    let s = step_exact version words e.worker e.act left (p ∙ ap (λ (x : StepRead). Some (x, left)) w.step_is) in
    let before : Option Verb = last_verb past e.worker in
    let at : behind_arrow (verb_after_read before (act_read e.act)) left ≡ Some (outcome_read e.outcome, e.after) =
    ap (λ (x : StepRead). behind_arrow (verb_after_read (last_verb past x.worker) x.act) left) (sym w.step_is) ∙ w.behind_is in
    let b = behind_exact (verb_after before e.act) left e.outcome e.after (ap (λ (v : Option Verb). behind_arrow v left) (sym (verb_after_is before e.act)) ∙ at) in
    record {
      written = s.written ∙ ap (λ (ls : List (List ℕ)). decimal e.worker ∷ (act_words e.act ++ ls)) b.0;
      is_entry = record { worker = s.is_worker; act = answered_act before e.act e.outcome s.fits b.1; answer = b.1 };
    }
  where
    answered_act : (before : Option Verb) (act : Act) (o : Outcome) → Fits version act → IsAnswer (verb_after before act) o → IsAct version before act
    answered_act before (Begin c) o h a = h
    answered_act None More o h a = a
    answered_act (Some v) More o h a = tt

pub entry_exact : (version : Version) (n : ℕ) (past : List Entry) (word : List ℕ) (words : List (List ℕ)) (e : Entry) → entry_in version n (last_verb past) word words ≡ Some (entry_read e) → (word ≡ decimal n) × EntryIs version past words e
unfolding entry_in
entry_exact version n past word words e h = go (bytes_eq word (decimal n)) refl h
  where
    go : (b : Bool) → bytes_eq word (decimal n) ≡ b → cond b (with_step (last_verb past) (step_in version words)) None ≡ Some (entry_read e) → (word ≡ decimal n) × EntryIs version past words e
    go true p h = (is_word word (decimal n) p, with_step_is version past words (step_in version words) e refl h)
    go false p h = none_is (entry_read e) h

small_number : (w : ℕ) → w ≤ LAST_WORKER → Above 32 (decimal w)
small_number w h = above_less 44 32 (decimal w) (omega arith) (decimal_above w (omega arith))

pub entry_above : (version : Version) (past : List Entry) (e : Entry) → IsEntry version past e → All (Above 32) (entry_words e)
entry_above version past e h =
    let v = has_verb version (last_verb past e.worker) e.act h.act in
    let a : IsAnswer (Some v.0) e.outcome = subst (λ (x : Option Verb). IsAnswer x e.outcome) v.1 h.answer in
    All-cons (Above 32) (decimal e.worker) (act_words e.act ++ behind_words e.outcome e.after) (small_number e.worker h.worker)
    (All-append (Above 32) (act_words e.act) (behind_words e.outcome e.after) (act_above version e.act (act_fits version (last_verb past e.worker) e.act h.act))
    (All-cons (Above 32) (codes "=>") (outcome_words e.outcome ++ state_name e.after ∷ []) (known (codes "=>") refl)
    (All-append (Above 32) (outcome_words e.outcome) (state_name e.after ∷ []) (outcome_above v.0 e.outcome a)
    (All-cons (Above 32) (state_name e.after) [] (state_above e.after) (All-nil (Above 32))))))

-- ---- stall lines

abbrev pub stall_words : StallLine → List (List ℕ)
stall_words s = decimal s.worker ∷ act_words s.act

pub stall_full : (version : Version) (entries : List Entry) (s : StallLine) → IsStall version entries s → stall_in version (last_verb entries) (stall_words s) ≡ Some (stall_read s)
unfolding stall_in
stall_full version entries s h =
    let before : Option Verb = last_verb entries s.worker in
    let v = has_verb version before s.act h.act in
    let step : step_in version (decimal s.worker ∷ (act_words s.act ++ [])) ≡ Some (step_of s.worker s.act, []) = step_full version s.worker s.act [] h.worker (act_fits version before s.act h.act) in
    let here : step_in version (stall_words s) ≡ Some (step_of s.worker s.act, []) = ap (λ (ls : List (List ℕ)). step_in version (decimal s.worker ∷ ls)) (sym (append-nil (act_words s.act))) ∙ step in
    ap (with_stall (last_verb entries)) here ∙ ap (λ (x : Option Verb). stall_verb (step_of s.worker s.act) x []) (verb_after_is before s.act ∙ v.1)

stall_verb_is : (step : StepRead) (o : Option Verb) (words : List (List ℕ)) (wanted : StepRead) → stall_verb step o words ≡ Some wanted → (step ≡ wanted) × (words ≡ []) × ((v : Verb) × (o ≡ Some v))
stall_verb_is step None words wanted e = none_is wanted e
stall_verb_is step (Some v) [] wanted e = (some_is step wanted e, refl, (v, refl))
stall_verb_is step (Some v) (word ∷ words) wanted e = none_is wanted e

pub record StallIs (version : Version) (entries : List Entry) (words : List (List ℕ)) (s : StallLine) : Type 0 where
  pub written : words ≡ stall_words s
  pub is_stall : IsStall version entries s

with_stall_is : (version : Version) (entries : List Entry) (words : List (List ℕ)) (o : Found StepRead) (s : StallLine) → step_in version words ≡ o → with_stall (last_verb entries) o ≡ Some (stall_read s) → StallIs version entries words s
with_stall_is version entries words None s p e = none_is (stall_read s) e
with_stall_is version entries words (Some (step, left)) s p e =
    let v = stall_verb_is step (verb_after_read (last_verb entries step.worker) step.act) left (stall_read s) e in
    let x = step_exact version words s.worker s.act left (p ∙ ap (λ (y : StepRead). Some (y, left)) v.0) in
    let before : Option Verb = last_verb entries s.worker in
    let verb : verb_after before s.act ≡ Some v.2.0 = sym (verb_after_is before s.act) ∙ ap (λ (y : StepRead). verb_after_read (last_verb entries y.worker) y.act) (sym v.0) ∙ v.2.1 in
    record {
      written = x.written ∙ ap (λ (ls : List (List ℕ)). decimal s.worker ∷ (act_words s.act ++ ls)) v.1 ∙ ap (λ (ls : List (List ℕ)). decimal s.worker ∷ ls) (append-nil (act_words s.act));
      is_stall = record { worker = x.is_worker; act = is_act version before s.act v.2.0 x.fits verb };
    }

pub stall_exact : (version : Version) (entries : List Entry) (words : List (List ℕ)) (s : StallLine) → stall_in version (last_verb entries) words ≡ Some (stall_read s) → StallIs version entries words s
unfolding stall_in
stall_exact version entries words s e = with_stall_is version entries words (step_in version words) s refl e

pub stall_above : (version : Version) (entries : List Entry) (s : StallLine) → IsStall version entries s → All (Above 32) (stall_words s)
stall_above version entries s h = All-cons (Above 32) (decimal s.worker) (act_words s.act) (small_number s.worker h.worker) (act_above version s.act (act_fits version (last_verb entries s.worker) s.act h.act))

-- ---- texts

after_arrow : (o : Outcome) → join_with_byte 32 (codes "=>" ∷ outcome_words o) ≡ codes "=>" ++ 32 ∷ join_with_byte 32 (outcome_words o)
after_arrow o = go (answer_to o) (texts (answer_form (answer_to o)) (answer_values o))
  where
    go : (a : Answer) (ts : List (List ℕ)) → join_with_byte 32 (codes "=>" ∷ (answer_words a ++ ts)) ≡ codes "=>" ++ 32 ∷ join_with_byte 32 (answer_words a ++ ts)
    go answer.Plain ts = refl
    go answer.Opened ts = refl
    go answer.Bound ts = refl
    go answer.Connected ts = refl
    go answer.Listened ts = refl
    go answer.Sent ts = refl
    go answer.Got ts = refl
    go answer.Discon ts = refl
    go answer.RelData ts = refl
    go answer.UData ts = refl
    go answer.UDErr ts = refl
    go answer.Seen ts = refl
    go answer.Stands ts = refl
    go answer.Limits ts = refl
    go answer.Addresses ts = refl
    go answer.Options ts = refl
    go answer.Refused ts = refl
    go answer.Look ts = refl
    go answer.Overflow ts = refl
    go answer.Part ts = refl

act_joined : (worker : ℕ) (act : Act) → join_with_byte 32 (decimal worker ∷ act_words act) ≡ decimal worker ++ 32 ∷ act_text act
act_joined worker (Begin c) = ap (λ (l : List ℕ). decimal worker ++ 32 ∷ l) (sym (call_is c))
act_joined worker More = refl

behind_joined : (o : Outcome) (s : State) → join_with_byte 32 (behind_words o s) ≡ (codes "=>" ++ 32 ∷ outcome_text o) ++ 32 ∷ state_name s
behind_joined o s =
    join-append 32 (codes "=>") (outcome_words o) (state_name s) []
    ∙ ap (λ (l : List ℕ). l ++ 32 ∷ state_name s) (after_arrow o ∙ ap (λ (l : List ℕ). codes "=>" ++ 32 ∷ l) (sym (outcome_is o)))

entry_shape : (n w a o s : List ℕ) → n ++ (codes " " ++ w) ++ codes " " ++ a ++ codes " => " ++ (o ++ codes " " ++ s) ++ codes "\n" ≡ (n ++ 32 ∷ ((w ++ 32 ∷ a) ++ 32 ∷ ((codes "=>" ++ 32 ∷ o) ++ 32 ∷ s))) ++ 10 ∷ []
entry_shape n w a o s = simp append_assoc

pub entry_text_is : (n : ℕ) (e : Entry) → entry_text n e ≡ join_with_byte 32 (decimal n ∷ entry_words e) ++ 10 ∷ []
unfolding entry_text
entry_text_is n e =
    let rest : join_with_byte 32 (entry_words e) ≡ (decimal e.worker ++ 32 ∷ act_text e.act) ++ 32 ∷ ((codes "=>" ++ 32 ∷ outcome_text e.outcome) ++ 32 ∷ state_name e.after) =
    join-append 32 (decimal e.worker) (act_words e.act) (codes "=>") (outcome_words e.outcome ++ state_name e.after ∷ [])
    ∙ ap (λ (l : List ℕ). l ++ 32 ∷ join_with_byte 32 (behind_words e.outcome e.after)) (act_joined e.worker e.act)
    ∙ ap (λ (l : List ℕ). (decimal e.worker ++ 32 ∷ act_text e.act) ++ 32 ∷ l) (behind_joined e.outcome e.after) in
    entry_shape (decimal n) (decimal e.worker) (act_text e.act) (outcome_text e.outcome) (state_name e.after)
    ∙ ap (λ (l : List ℕ). (decimal n ++ 32 ∷ l) ++ 10 ∷ []) (sym rest)

stall_shape : (w a : List ℕ) → (codes "stall " ++ w) ++ codes " " ++ a ++ codes "\n" ≡ (codes "stall" ++ 32 ∷ (w ++ 32 ∷ a)) ++ 10 ∷ []
stall_shape w a = simp append_assoc

pub stall_text_is : (s : StallLine) → stall_text s ≡ join_with_byte 32 (codes "stall" ∷ stall_words s) ++ 10 ∷ []
unfolding stall_text
stall_text_is s = stall_shape (decimal s.worker) (act_text s.act) ∙ ap (λ (l : List ℕ). (codes "stall" ++ 32 ∷ l) ++ 10 ∷ []) (sym (act_joined s.worker s.act))

end_shape : (n : List ℕ) → (codes "end " ++ n) ++ codes "\n" ≡ (codes "end" ++ 32 ∷ n) ++ 10 ∷ []
end_shape n = refl

pub end_text_is : (n : ℕ) → end_text n ≡ join_with_byte 32 (codes "end" ∷ decimal n ∷ []) ++ 10 ∷ []
unfolding end_text
end_text_is n = end_shape (decimal n)

-- ---- what readers of lines give

entry_by : (version : Version) (n : ℕ) (verbs : ℕ → Option Verb) (word : List ℕ) (words left : List (List ℕ)) (worker : ℕ) (act : Act) (verb : Option Verb) → bytes_eq word (decimal n) ≡ true → step_in version words ≡ Some (step_of worker act, left) → verb ≡ verb_after (verbs worker) act
    → entry_in version n verbs word words ≡ whole_entry (step_of worker act) (behind_arrow verb left)
unfolding entry_in
entry_by version n verbs word words left worker act verb t s v =
    rw t (ap (with_step verbs) s ∙ ap (λ (x : Option Verb). whole_entry (step_of worker act) (behind_arrow x left)) (verb_after_is (verbs worker) act ∙ sym v))

pub entry_ok : (version : Version) (n : ℕ) (verbs : ℕ → Option Verb) (word : List ℕ) (words left : List (List ℕ)) (worker : ℕ) (act : Act) (verb : Option Verb) (o : Outcome) (s : State) → bytes_eq word (decimal n) ≡ true → step_in version words ≡ Some (step_of worker act, left) → verb ≡ verb_after (verbs worker) act
    → behind_arrow verb left ≡ Some (outcome_read o, s) → entry_in version n verbs word words ≡ Some (entry_read (record { worker = worker; act = act; outcome = o; after = s }))
entry_ok version n verbs word words left worker act verb o s t p v b = entry_by version n verbs word words left worker act verb t p v ∙ ap (whole_entry (step_of worker act)) b

pub entry_err : (version : Version) (n : ℕ) (verbs : ℕ → Option Verb) (word : List ℕ) (words left : List (List ℕ)) (worker : ℕ) (act : Act) (verb : Option Verb) (fail : FieldFail) → bytes_eq word (decimal n) ≡ true → step_in version words ≡ Some (step_of worker act, left) → verb ≡ verb_after (verbs worker) act
    → IsRead (λ (r : AnswerRead × State). r) (behind_arrow verb left) (Err fail) → IsRead entry_read (entry_in version n verbs word words) (Err fail)
entry_err version n verbs word words left worker act verb Wrong t p v b = entry_by version n verbs word words left worker act verb t p v ∙ ap (whole_entry (step_of worker act)) b
entry_err version n verbs word words left worker act verb OutOfMemory t p v b = tt

pub stall_by : (version : Version) (verbs : ℕ → Option Verb) (words left : List (List ℕ)) (worker : ℕ) (act : Act) (verb : Option Verb) → step_in version words ≡ Some (step_of worker act, left) → verb ≡ verb_after (verbs worker) act → stall_in version verbs words ≡ stall_verb (step_of worker act) verb left
unfolding stall_in
stall_by version verbs words left worker act verb s v = ap (with_stall verbs) s ∙ ap (λ (x : Option Verb). stall_verb (step_of worker act) x left) (verb_after_is (verbs worker) act ∙ sym v)

stall_verb_if : (step : StepRead) (verb : Option Verb) (words : List (List ℕ)) → stall_verb step verb words ≡ cond (is_whole verb words) (Some step) None
stall_verb_if step None words = refl
stall_verb_if step (Some v) [] = refl
stall_verb_if step (Some v) (word ∷ words) = go (length (word ∷ words) == 0) refl
  where
    go : (b : Bool) → (length (word ∷ words) == 0) ≡ b → None ≡ cond b (Some step) None
    go true e = let z = eqb-true (length (word ∷ words)) 0 e in absurd (omega arith)
    go false e = refl

pub stall_yes : (version : Version) (verbs : ℕ → Option Verb) (words left : List (List ℕ)) (worker : ℕ) (act : Act) (verb : Option Verb) (b : Bool) → step_in version words ≡ Some (step_of worker act, left) → verb ≡ verb_after (verbs worker) act → b ≡ is_whole verb left → b ≡ true → stall_in version verbs words ≡ Some (step_of worker act)
stall_yes version verbs words left worker act verb b s v w t = stall_by version verbs words left worker act verb s v ∙ stall_verb_if (step_of worker act) verb left ∙ ap (λ (x : Bool). cond x (Some (step_of worker act)) None) (sym w ∙ t)

pub stall_no : (version : Version) (verbs : ℕ → Option Verb) (words left : List (List ℕ)) (worker : ℕ) (act : Act) (verb : Option Verb) (b : Bool) → step_in version words ≡ Some (step_of worker act, left) → verb ≡ verb_after (verbs worker) act → b ≡ is_whole verb left → b ≡ false → stall_in version verbs words ≡ None
stall_no version verbs words left worker act verb b s v w t = stall_by version verbs words left worker act verb s v ∙ stall_verb_if (step_of worker act) verb left ∙ ap (λ (x : Bool). cond x (Some (step_of worker act)) None) (sym w ∙ t)
