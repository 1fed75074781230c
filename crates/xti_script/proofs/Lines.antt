-- A line that is written whole is the line of its call, where the texts of its values are read as these.
use Rattle.std.proofs.Common.{◌≡◌, refl, sym, ap, subst, ◌∙◌, ℕ, ◌≤◌, ◌<◌, true, false, not, eqb, List, [], ◌∷◌, ◌++◌, append_assoc, Some, codes, decimal, arith}
use Rattle.std.specs.List.{list_all}
use Rattle.std.proofs.lemmas.List.Elements.{All-nil, All-cons}
use Rattle.xti_base.specs.declared.limits.TheConstants.{LAST_WORKER}
use Rattle.xti_model.specs.declared.profile.Version.{Version}
use Rattle.xti_model.specs.declared.script.NamedCall.{NamedCall}
use Rattle.xti_model.specs.declared.script.NamedCall.TheVariants as call
use Rattle.xti_model.specs.declared.script.Line.{Line}
use Rattle.xti_words.specs.Texts.{words_of}
use Rattle.xti_words.proofs.WordBytes.{some-is, none-is}
use Rattle.xti_script_reader.specs.FieldValue.{Value}
use Rattle.xti_script_reader.specs.FieldValue.Value.{Bytes, Number, Parts, Sizes, Name, NameOrNone, Provider, Mode}
use Rattle.xti_verbs.specs.declared.verb.Verb.{Verb}
use Rattle.xti_verbs.specs.declared.verb.Verb.TheVariants.{Open, Close, Bind, Unbind, Connect, RcvConnect, Listen, Accept, Snd, SndV, Rcv, RcvV, SndDis, RcvDis, SndRel, RcvRel, SndRelData, RcvRelData, SndUData, SndVUData, RcvUData, RcvVUData, RcvUDErr, Look, GetState, Sync, GetInfo, GetProtAddr, OptMgmt, SetMode}
use Rattle.xti_script_reader.specs.Names.{Spot, after}
use Rattle.xti_verbs.specs.Verbs.{is_in_texts, row_of, verb_word}
use Rattle.xti_script_reader.specs.Calls.{form, call_with}
use Rattle.xti_script_reader.specs.Grammar.{IsCall, IsLine}
use Rattle.xti_script.specs.Canonical.{Written, written, written_call, call_text, line_text}
use Rattle.xti_script.proofs.Numbers.{Lacks, number_lacks, number_read}
use Rattle.xti_script.proofs.Pieces.{AllLack, after_each, cut_again, lacks_by, lacks_both, pieces_lack, pieces_lack_separator}
use Rattle.xti_script.proofs.Fields.{AllReads, field_words, words_are_text, fields_written, fields_read}

-- ---- words of calls

record WordFits (verb : Verb) : Type 0 where
  spaceless : Lacks 32 (verb_word verb)
  endless : Lacks 10 (verb_word verb)

fits_by : (verb : Verb) → list_all (λ c. not (eqb c 32)) (verb_word verb) ≡ true → list_all (λ c. not (eqb c 10)) (verb_word verb) ≡ true → WordFits verb
fits_by verb h i = record { spaceless = lacks_by 32 (verb_word verb) h; endless = lacks_by 10 (verb_word verb) i }

word_fits : (verb : Verb) → WordFits verb
unfolding row_of
word_fits Open = fits_by Open refl refl
word_fits Close = fits_by Close refl refl
word_fits Bind = fits_by Bind refl refl
word_fits Unbind = fits_by Unbind refl refl
word_fits Connect = fits_by Connect refl refl
word_fits RcvConnect = fits_by RcvConnect refl refl
word_fits Listen = fits_by Listen refl refl
word_fits Accept = fits_by Accept refl refl
word_fits Snd = fits_by Snd refl refl
word_fits SndV = fits_by SndV refl refl
word_fits Rcv = fits_by Rcv refl refl
word_fits RcvV = fits_by RcvV refl refl
word_fits SndDis = fits_by SndDis refl refl
word_fits RcvDis = fits_by RcvDis refl refl
word_fits SndRel = fits_by SndRel refl refl
word_fits RcvRel = fits_by RcvRel refl refl
word_fits SndRelData = fits_by SndRelData refl refl
word_fits RcvRelData = fits_by RcvRelData refl refl
word_fits SndUData = fits_by SndUData refl refl
word_fits SndVUData = fits_by SndVUData refl refl
word_fits RcvUData = fits_by RcvUData refl refl
word_fits RcvVUData = fits_by RcvVUData refl refl
word_fits RcvUDErr = fits_by RcvUDErr refl refl
word_fits Look = fits_by Look refl refl
word_fits GetState = fits_by GetState refl refl
word_fits Sync = fits_by Sync refl refl
word_fits GetInfo = fits_by GetInfo refl refl
word_fits GetProtAddr = fits_by GetProtAddr refl refl
word_fits OptMgmt = fits_by OptMgmt refl refl
word_fits SetMode = fits_by SetMode refl refl

-- ---- calls

-- the call that values make is written as these values
written_is : (verb : Verb) (values : List Value) (d : NamedCall) → call_with verb values ≡ Some d → written_call d ≡ written verb values
unfolding call_with written_call
written_is Open (Name v1 ∷ Provider v2 ∷ Mode v3 ∷ []) d e = ap written_call (sym (some-is (call.TOpen v1 v2 v3) d e))
written_is Close (Name v1 ∷ []) d e = ap written_call (sym (some-is (call.TClose v1) d e))
written_is Bind (Name v1 ∷ Bytes v2 ∷ Number v3 ∷ Number v4 ∷ []) d e = ap written_call (sym (some-is (call.TBind v1 v2 v3 v4) d e))
written_is Unbind (Name v1 ∷ []) d e = ap written_call (sym (some-is (call.TUnbind v1) d e))
written_is Connect (Name v1 ∷ Bytes v2 ∷ Bytes v3 ∷ Bytes v4 ∷ Number v5 ∷ Number v6 ∷ Number v7 ∷ []) d e = ap written_call (sym (some-is (call.TConnect v1 v2 v3 v4 v5 v6 v7) d e))
written_is RcvConnect (Name v1 ∷ Number v2 ∷ Number v3 ∷ Number v4 ∷ []) d e = ap written_call (sym (some-is (call.TRcvConnect v1 v2 v3 v4) d e))
written_is Listen (Name v1 ∷ Name v2 ∷ Number v3 ∷ Number v4 ∷ Number v5 ∷ []) d e = ap written_call (sym (some-is (call.TListen v1 v2 v3 v4 v5) d e))
written_is Accept (Name v1 ∷ Name v2 ∷ Name v3 ∷ Bytes v4 ∷ Bytes v5 ∷ []) d e = ap written_call (sym (some-is (call.TAccept v1 v2 v3 v4 v5) d e))
written_is Snd (Name v1 ∷ Bytes v2 ∷ Number v3 ∷ []) d e = ap written_call (sym (some-is (call.TSnd v1 v2 v3) d e))
written_is SndV (Name v1 ∷ Parts v2 ∷ Number v3 ∷ []) d e = ap written_call (sym (some-is (call.TSndV v1 v2 v3) d e))
written_is Rcv (Name v1 ∷ Number v2 ∷ []) d e = ap written_call (sym (some-is (call.TRcv v1 v2) d e))
written_is RcvV (Name v1 ∷ Sizes v2 ∷ []) d e = ap written_call (sym (some-is (call.TRcvV v1 v2) d e))
written_is SndDis (Name v1 ∷ NameOrNone v2 ∷ Bytes v3 ∷ []) d e = ap written_call (sym (some-is (call.TSndDis v1 v2 v3) d e))
written_is RcvDis (Name v1 ∷ Number v2 ∷ []) d e = ap written_call (sym (some-is (call.TRcvDis v1 v2) d e))
written_is SndRel (Name v1 ∷ []) d e = ap written_call (sym (some-is (call.TSndRel v1) d e))
written_is RcvRel (Name v1 ∷ []) d e = ap written_call (sym (some-is (call.TRcvRel v1) d e))
written_is SndRelData (Name v1 ∷ Bytes v2 ∷ []) d e = ap written_call (sym (some-is (call.TSndRelData v1 v2) d e))
written_is RcvRelData (Name v1 ∷ Number v2 ∷ []) d e = ap written_call (sym (some-is (call.TRcvRelData v1 v2) d e))
written_is SndUData (Name v1 ∷ Bytes v2 ∷ Bytes v3 ∷ Bytes v4 ∷ []) d e = ap written_call (sym (some-is (call.TSndUData v1 v2 v3 v4) d e))
written_is SndVUData (Name v1 ∷ Bytes v2 ∷ Bytes v3 ∷ Parts v4 ∷ []) d e = ap written_call (sym (some-is (call.TSndVUData v1 v2 v3 v4) d e))
written_is RcvUData (Name v1 ∷ Number v2 ∷ Number v3 ∷ Number v4 ∷ []) d e = ap written_call (sym (some-is (call.TRcvUData v1 v2 v3 v4) d e))
written_is RcvVUData (Name v1 ∷ Sizes v2 ∷ Number v3 ∷ Number v4 ∷ []) d e = ap written_call (sym (some-is (call.TRcvVUData v1 v2 v3 v4) d e))
written_is RcvUDErr (Name v1 ∷ Number v2 ∷ Number v3 ∷ []) d e = ap written_call (sym (some-is (call.TRcvUDErr v1 v2 v3) d e))
written_is Look (Name v1 ∷ []) d e = ap written_call (sym (some-is (call.TLookAt v1) d e))
written_is GetState (Name v1 ∷ []) d e = ap written_call (sym (some-is (call.TGetState v1) d e))
written_is Sync (Name v1 ∷ []) d e = ap written_call (sym (some-is (call.TSync v1) d e))
written_is GetInfo (Name v1 ∷ []) d e = ap written_call (sym (some-is (call.TGetInfo v1) d e))
written_is GetProtAddr (Name v1 ∷ Number v2 ∷ Number v3 ∷ []) d e = ap written_call (sym (some-is (call.TGetProtAddr v1 v2 v3) d e))
written_is OptMgmt (Name v1 ∷ Number v2 ∷ Bytes v3 ∷ Number v4 ∷ []) d e = ap written_call (sym (some-is (call.TOptMgmt v1 v2 v3 v4) d e))
written_is SetMode (Name v1 ∷ Mode v2 ∷ []) d e = ap written_call (sym (some-is (call.SetMode v1 v2) d e))
written_is verb values d e = absurd (none-is d e)

-- the values as which a call is written make this call
made : (c : NamedCall) → call_with (written_call c).verb (written_call c).values ≡ Some c
unfolding call_with written_call
made (call.TOpen name prov nonblock) = refl
made (call.TClose fd) = refl
made (call.TBind fd addr qlen amax) = refl
made (call.TUnbind fd) = refl
made (call.TConnect fd addr opt udata amax omax umax) = refl
made (call.TRcvConnect fd amax omax umax) = refl
made (call.TListen fd name amax omax umax) = refl
made (call.TAccept fd resfd seq opt udata) = refl
made (call.TSnd fd bytes flags) = refl
made (call.TSndV fd parts flags) = refl
made (call.TRcv fd max) = refl
made (call.TRcvV fd sizes) = refl
made (call.TSndDis fd seq udata) = refl
made (call.TRcvDis fd umax) = refl
made (call.TSndRel fd) = refl
made (call.TRcvRel fd) = refl
made (call.TSndRelData fd udata) = refl
made (call.TRcvRelData fd umax) = refl
made (call.TSndUData fd addr opt bytes) = refl
made (call.TSndVUData fd addr opt parts) = refl
made (call.TRcvUData fd max amax omax) = refl
made (call.TRcvVUData fd sizes amax omax) = refl
made (call.TRcvUDErr fd amax omax) = refl
made (call.TLookAt fd) = refl
made (call.TGetState fd) = refl
made (call.TSync fd) = refl
made (call.TGetInfo fd) = refl
made (call.TGetProtAddr fd amax pmax) = refl
made (call.TOptMgmt fd action opt omax) = refl
made (call.SetMode fd nonblock) = refl

-- scripts of the version have the call
abbrev pub IsInTexts : Version → NamedCall → Type 0
IsInTexts version call = is_in_texts version (written_call call).verb ≡ true

-- the text of each of the call's values is read there as this value
abbrev pub CallReads : Spot → NamedCall → Type 0
CallReads s call = AllReads s (form (written_call call).verb) (written_call call).values

-- a call that is written whole: its text is words without a space or an end of a line, and they are the call
pub record CallWritten (version : Version) (s : Spot) (call : NamedCall) : Type 0 where
  pub first : List ℕ
  pub others : List (List ℕ)
  pub text_is : call_text call ≡ first ++ after_each 32 others
  pub is_call : IsCall version s call (first ∷ others)
  pub spaceless : AllLack 32 (first ∷ others)
  pub endless : AllLack 10 (first ∷ others)

pub call_written : (version : Version) (s : Spot) (call : NamedCall) → IsInTexts version call → CallReads s call → CallWritten version s call
call_written version s call t h =
    let w = written_call call in
    let f = fields_written s (form w.verb) w.values h in
    record {
      first = verb_word w.verb;
      others = field_words (form w.verb) w.values;
      text_is = ap (λ t. verb_word w.verb ++ t) (words_are_text (form w.verb) w.values);
      is_call = record { verb = w.verb; fields = field_words (form w.verb) w.values; values = w.values; in_texts = t; spelled = refl; are_fields = f.are_fields; made = made call };
      spaceless = ((word_fits w.verb).spaceless, f.spaceless);
      endless = ((word_fits w.verb).endless, f.endless);
    }

call_read : (version : Version) (s : Spot) (call : NamedCall) (words : List (List ℕ)) → AllLack 32 words → AllLack 10 words → IsCall version s call words → CallReads s call
call_read version s call words space line h =
    subst (λ (w : Written). AllReads s (form w.verb) w.values) (sym (written_is h.verb h.values call h.made))
    (fields_read s (form h.verb) h.values h.fields (subst (AllLack 32) h.spelled space).1 (subst (AllLack 10) h.spelled line).1 h.are_fields)

call_in_texts : (version : Version) (s : Spot) (call : NamedCall) (words : List (List ℕ)) → IsCall version s call words → IsInTexts version call
call_in_texts version s call words h = subst (λ (w : Written). is_in_texts version w.verb ≡ true) (sym (written_is h.verb h.values call h.made)) h.in_texts

-- ---- lines

-- a line without its end
abbrev pub bare_line : Line → List ℕ
bare_line line = decimal line.worker ++ codes " " ++ call_text line.call

pub line_is : (line : Line) (text : List ℕ) → line_text line ++ text ≡ bare_line line ++ 10 ∷ text
line_is line text = append_assoc (bare_line line) (codes "\n") text

joined_lacks : (byte : ℕ) (texts : List (List ℕ)) → eqb 32 byte ≡ false → AllLack byte texts → Lacks byte (after_each 32 texts)
joined_lacks byte [] e h = All-nil (λ c. eqb c byte ≡ false)
joined_lacks byte (text ∷ texts) e h = All-cons (λ c. eqb c byte ≡ false) 32 (text ++ after_each 32 texts) e (lacks_both byte text (after_each 32 texts) h.0 (joined_lacks byte texts e h.1))

-- the worker is one, scripts of the version have the call, and the text of each of its values is read there as this value
pub record LineReads (version : Version) (earlier : List Line) (line : Line) : Type 0 where
  pub is_worker : line.worker ≤ LAST_WORKER
  pub in_texts : IsInTexts version line.call
  pub call : CallReads (after earlier line.worker) line.call

-- a line that is written whole
pub record LineWritten (version : Version) (earlier : List Line) (line : Line) : Type 0 where
  pub is_line : IsLine version earlier line (bare_line line)
  pub endless : Lacks 10 (bare_line line)

pub line_written : (version : Version) (earlier : List Line) (line : Line) → LineReads version earlier line → LineWritten version earlier line
line_written version earlier line h =
    let c = call_written version (after earlier line.worker) line.call h.in_texts h.call in
    let small : line.worker < 4294967296 = let most = h.is_worker in omega arith in
    let bare : bare_line line ≡ decimal line.worker ++ after_each 32 (c.first ∷ c.others) =
    append_assoc (decimal line.worker) (codes " ") (call_text line.call) ∙ ap (λ t. decimal line.worker ++ 32 ∷ t) c.text_is in
    let cut : words_of (bare_line line) ≡ decimal line.worker ∷ c.first ∷ c.others =
    ap words_of bare ∙ cut_again 32 (decimal line.worker) (c.first ∷ c.others) (number_lacks 32 line.worker (omega arith) small) c.spaceless in
    record {
      is_line = record { number = decimal line.worker; words = c.first ∷ c.others; split = cut; worker = number_read line.worker small; is_worker = h.is_worker; call = c.is_call };
      endless = subst (Lacks 10) (sym bare) (lacks_both 10 (decimal line.worker) (after_each 32 (c.first ∷ c.others)) (number_lacks 10 line.worker (omega arith) small) (joined_lacks 10 (c.first ∷ c.others) refl c.endless));
    }

pub line_read : (version : Version) (earlier : List Line) (line : Line) (text : List ℕ) → Lacks 10 text → IsLine version earlier line text → LineReads version earlier line
line_read version earlier line text endless h =
    let space : AllLack 32 (h.number ∷ h.words) = subst (AllLack 32) h.split (pieces_lack_separator 32 text) in
    let end : AllLack 10 (h.number ∷ h.words) = subst (AllLack 10) h.split (pieces_lack 32 10 text endless) in
    record { is_worker = h.is_worker; in_texts = call_in_texts version (after earlier line.worker) line.call h.words h.call; call = call_read version (after earlier line.worker) line.call h.words space.1 end.1 h.call }
