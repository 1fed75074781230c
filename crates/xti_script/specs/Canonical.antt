-- The canonical text of a script: no head, comment or empty line, each field written, bytes in hexadecimal digits, and an
-- action as its number. docs/SCRIPTS.md has the form in words.
use Rattle.std.specs.Prelude.{◌≡◌, ℕ, Bool, List, [], ◌∷◌, ◌++◌, Option, Some, None, codes, decimal, map, option_to_list, if◌then◌else◌}
use Rattle.std.specs.List.{flat_map}
use Rattle.xti_base.specs.Kinds.{prov_name}
use Rattle.xti_model.specs.declared.script.NamedCall.{NamedCall}
use Rattle.xti_model.specs.declared.script.NamedCall.TheVariants as call
use Rattle.xti_model.specs.declared.script.Line.{Line}
use Rattle.xti_model.specs.declared.script.Script.{Script}
use Rattle.xti_words.specs.WrittenWords.{octets_word}
use Rattle.xti_script_reader.specs.FieldValue.{Value}
use Rattle.xti_script_reader.specs.FieldValue.Value.{Bytes, Number, Parts, Sizes, Name, NameOrNone, Provider, Mode}
use Rattle.xti_script_reader.specs.declared.fields.Key.{Key}
use Rattle.xti_verbs.specs.declared.verb.Verb.{Verb}
use Rattle.xti_verbs.specs.declared.verb.Verb.TheVariants.{Open, Bind, Connect, RcvConnect, Listen, Accept, Snd, SndV, Rcv, RcvV, SndDis, RcvDis, SndRelData, RcvRelData, SndUData, SndVUData, RcvUData, RcvVUData, RcvUDErr, GetProtAddr, OptMgmt, SetMode}
use Rattle.xti_script_reader.specs.Fields.{key_word}
use Rattle.xti_verbs.specs.Verbs.{plain_name, verb_of_named, verb_word}
use Rattle.xti_script_reader.specs.Calls.{form}
use Rattle.xti_script_reader.specs.Grammar.{first_line, IsScript}

-- the texts of several values, separated by commas
abbrev pub listed : {A : Type 0} → (A → List ℕ) → List A → List ℕ
listed text [] = []
listed text (x ∷ xs) = text x ++ flat_map (λ y. codes "," ++ text y) xs

-- bytes as `x:` and two hexadecimal digits for each
abbrev pub bytes_text : List ℕ → List ℕ
bytes_text bytes = octets_word [] bytes

-- several byte strings, and several numbers
abbrev pub parts_text : List (List ℕ) → List ℕ
parts_text parts = listed bytes_text parts

abbrev pub sizes_text : List ℕ → List ℕ
sizes_text sizes = listed decimal sizes

abbrev pub mode_text : Bool → List ℕ
mode_text nonblock = if nonblock then codes "nonblock" else codes "block"

-- a sequence number's name, or `-` for none
abbrev pub name_or_none_text : Option (List ℕ) → List ℕ
name_or_none_text None = codes "-"
name_or_none_text (Some name) = name

-- the text of a field's value
abbrev pub value_text : Value → List ℕ
value_text (Bytes bytes) = bytes_text bytes
value_text (Number n) = decimal n
value_text (Parts parts) = parts_text parts
value_text (Sizes sizes) = sizes_text sizes
value_text (Name name) = name
value_text (NameOrNone name) = name_or_none_text name
value_text (Provider prov) = prov_name prov
value_text (Mode nonblock) = mode_text nonblock

-- a field, whose key stands before its value
abbrev pub field_text : Key → Value → List ℕ
field_text key value = key_word key ++ value_text value

-- the fields of a call, each after a space
abbrev pub fields_text : List Key → List Value → List ℕ
fields_text [] values = []
fields_text (key ∷ keys) [] = []
fields_text (key ∷ keys) (value ∷ values) = codes " " ++ field_text key value ++ fields_text keys values

-- fields that several calls have, each after a space: the most bytes that the caller takes of an address and of options
abbrev pub address_limits_text : ℕ → ℕ → List ℕ
address_limits_text amax omax = (codes " amax=" ++ decimal amax) ++ (codes " omax=" ++ decimal omax)

-- an address and options
abbrev pub address_text : List ℕ → List ℕ → List ℕ
address_text addr opt = (codes " addr=" ++ bytes_text addr) ++ (codes " opt=" ++ bytes_text opt)

-- the same, and data
abbrev pub request_text : List ℕ → List ℕ → List ℕ → List ℕ
request_text addr opt udata = address_text addr opt ++ (codes " udata=" ++ bytes_text udata)

-- options and data
abbrev pub answer_text : List ℕ → List ℕ → List ℕ
answer_text opt udata = (codes " opt=" ++ bytes_text opt) ++ (codes " udata=" ++ bytes_text udata)

-- where a request is accepted, which one, options and data
abbrev pub acceptance_text : List ℕ → List ℕ → List ℕ → List ℕ → List ℕ
acceptance_text resfd seq opt udata = (codes " " ++ resfd) ++ (codes " " ++ seq) ++ answer_text opt udata

-- a call by its word, and the values of its fields
pub record Written : Type 0 where
  pub verb : Verb
  pub values : List Value

abbrev pub written : Verb → List Value → Written
written verb values = record { verb = verb; values = values }

-- the table of calls; those that are not named here say no more than which endpoint
unfoldable pub written_call : NamedCall → Written
written_call (call.TOpen name prov nonblock) = written Open (Name name ∷ Provider prov ∷ Mode nonblock ∷ [])
written_call (call.TBind fd addr qlen amax) = written Bind (Name fd ∷ Bytes addr ∷ Number qlen ∷ Number amax ∷ [])
written_call (call.TConnect fd addr opt udata amax omax umax) = written Connect (Name fd ∷ Bytes addr ∷ Bytes opt ∷ Bytes udata ∷ Number amax ∷ Number omax ∷ Number umax ∷ [])
written_call (call.TRcvConnect fd amax omax umax) = written RcvConnect (Name fd ∷ Number amax ∷ Number omax ∷ Number umax ∷ [])
written_call (call.TListen fd name amax omax umax) = written Listen (Name fd ∷ Name name ∷ Number amax ∷ Number omax ∷ Number umax ∷ [])
written_call (call.TAccept fd resfd seq opt udata) = written Accept (Name fd ∷ Name resfd ∷ Name seq ∷ Bytes opt ∷ Bytes udata ∷ [])
written_call (call.TSnd fd bytes flags) = written Snd (Name fd ∷ Bytes bytes ∷ Number flags ∷ [])
written_call (call.TSndV fd parts flags) = written SndV (Name fd ∷ Parts parts ∷ Number flags ∷ [])
written_call (call.TRcv fd max) = written Rcv (Name fd ∷ Number max ∷ [])
written_call (call.TRcvV fd sizes) = written RcvV (Name fd ∷ Sizes sizes ∷ [])
written_call (call.TSndDis fd seq udata) = written SndDis (Name fd ∷ NameOrNone seq ∷ Bytes udata ∷ [])
written_call (call.TRcvDis fd umax) = written RcvDis (Name fd ∷ Number umax ∷ [])
written_call (call.TSndRelData fd udata) = written SndRelData (Name fd ∷ Bytes udata ∷ [])
written_call (call.TRcvRelData fd umax) = written RcvRelData (Name fd ∷ Number umax ∷ [])
written_call (call.TSndUData fd addr opt bytes) = written SndUData (Name fd ∷ Bytes addr ∷ Bytes opt ∷ Bytes bytes ∷ [])
written_call (call.TSndVUData fd addr opt parts) = written SndVUData (Name fd ∷ Bytes addr ∷ Bytes opt ∷ Parts parts ∷ [])
written_call (call.TRcvUData fd max amax omax) = written RcvUData (Name fd ∷ Number max ∷ Number amax ∷ Number omax ∷ [])
written_call (call.TRcvVUData fd sizes amax omax) = written RcvVUData (Name fd ∷ Sizes sizes ∷ Number amax ∷ Number omax ∷ [])
written_call (call.TRcvUDErr fd amax omax) = written RcvUDErr (Name fd ∷ Number amax ∷ Number omax ∷ [])
written_call (call.TGetProtAddr fd amax pmax) = written GetProtAddr (Name fd ∷ Number amax ∷ Number pmax ∷ [])
written_call (call.TOptMgmt fd action opt omax) = written OptMgmt (Name fd ∷ Number action ∷ Bytes opt ∷ Number omax ∷ [])
written_call (call.SetMode fd nonblock) = written SetMode (Name fd ∷ Mode nonblock ∷ [])
written_call plain = written (verb_of_named plain) (map Name (option_to_list (plain_name plain)))

abbrev pub text_of : Written → List ℕ
text_of w = verb_word w.verb ++ fields_text (form w.verb) w.values

abbrev pub call_text : NamedCall → List ℕ
call_text c = text_of (written_call c)

-- a worker, a call, and the end of the line
abbrev pub line_text : Line → List ℕ
line_text line = decimal line.worker ++ codes " " ++ call_text line.call ++ codes "\n"

-- the text of a script whose providers have the usual values of its version: the first line of the version, and the lines of calls
unfoldable pub script_text : Script → List ℕ
script_text s = first_line s.providers.version ++ codes "\n" ++ flat_map line_text s.lines

-- where the canonical text of the first is a text of the other, they are the same
abbrev pub AreSameIfRead : Script → Script → Type 0
AreSameIfRead s other = IsScript other (script_text s) → other ≡ s
