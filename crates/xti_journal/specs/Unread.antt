-- Fields that are read one after the other, and what readers give.
use Rattle.std.specs.Prelude.{◌≡◌, ℕ, Bool, false, List, [], ◌∷◌, Option, Some, None, Result, Ok, Err}
use Rattle.xti_base.specs.declared.kinds.Prov.{Prov}
use Rattle.xti_model.specs.declared.entry.Act.{Act}
use Rattle.xti_model.specs.declared.entry.Entry.{Entry}
use Rattle.xti_model.specs.declared.entry.Outcome.{Outcome}
use Rattle.xti_model.specs.declared.profile.Profile.{Profile}
use Rattle.xti_model.specs.declared.profile.Version.{Version}
use Rattle.xti_model.specs.declared.script.Journal.{Journal}
use Rattle.xti_model.specs.Profile.{tells_reldata}
use Rattle.xti_verbs.specs.declared.verb.Verb.{Verb}
use Rattle.xti_verbs.specs.declared.answer.Answer.{Answer}
use Rattle.xti_journal.specs.Kinds.{Kind}
use Rattle.xti_journal.specs.FieldValue.{Value}
use Rattle.xti_journal.specs.declared.fields.Key.{Key}
use Rattle.xti_journal.specs.declared.fields.Fields.{Fields}
use Rattle.xti_words.specs.declared.noted.FieldFail.{FieldFail}
use Rattle.xti_words.specs.declared.noted.FieldFail.TheVariants.{Wrong, OutOfMemory}
use Rattle.xti_words.specs.Noted.{left, Ends, Keeps}
use Rattle.xti_journal.specs.Fields.{kind_of}
use Rattle.xti_journal.specs.Reading.{Found, text_value, before, fields_of, act_read, act_in, step_read, step_in, begun, outcome_read, answered, outcome_in, entry_read, entry_after, profile_keys, profile_values, alone, profile_in}

-- the values that the words give the fields that are not read yet, or none after one that is wrong
abbrev pub unread : Fields → Found (List Value)
unread fields = left fields.noted.is_wrong (fields_of fields.keys.now fields.words)

-- the next field was taken, with this key and this word: its value is the first of those that were not read
pub record TakesField (old new : Fields) (key : Key) (text : Option (List ℕ)) : Type 0 where
  pub keys : old.keys.now ≡ key ∷ new.keys.now
  pub noted : new.noted ≡ old.noted
  pub value : unread old ≡ before (text_value (kind_of key) text) (unread new)

-- the next field is of this kind
abbrev pub NextIs : Kind → List Key → Type 0
NextIs kind [] = ⊥
NextIs kind (key ∷ keys) = kind_of key ≡ kind

-- these values before others, where these are there
abbrev pub all_before : List Value → Found (List Value) → Found (List Value)
all_before [] others = others
all_before (value ∷ values) others = before (Some value) (all_before values others)

-- the values are the first of those that were not read, which the others follow; or memory ran out
abbrev pub Reads : List Value → Fields → Fields → Type 0
Reads values old new = Keeps old.noted new.noted (unread old ≡ all_before values (unread new))

-- each field was read; or one is wrong; or memory ran out
abbrev pub EndsAs : {A : Type 0} → Fields → Result A FieldFail → Type 0
EndsAs fields result = Ends fields.noted result

-- each field was read, and no word is left; or one is wrong, or a word is left; or memory ran out
abbrev pub EndsLine : {A : Type 0} → Fields → Result A FieldFail → Type 0
EndsLine fields (Ok read) = (fields.noted.ran_out ≡ false) × (unread fields ≡ Some ([], []))
EndsLine fields (Err Wrong) = (fields.noted.ran_out ≡ false) × (alone (unread fields) ≡ None)
EndsLine fields (Err OutOfMemory) = Unit {0}

-- what the words give is this, and these words are left; or they give nothing
abbrev pub Gives : {A B : Type 0} → (A → B) → Found B → List (List ℕ) → Result A FieldFail → Type 0
Gives is_read found left (Ok read) = found ≡ Some (is_read read, left)
Gives is_read found left (Err Wrong) = found ≡ None
Gives is_read found left (Err OutOfMemory) = Unit {0}

-- the fields give this call of the verb, and what is left of them is given
abbrev pub GivesCall : {A : Type 0} → Verb → Fields → Act → Fields → Result A FieldFail → Type 0
GivesCall verb old act new result = Gives (λ _. act_read act) (begun verb (unread old)) new.words result

-- the words give this act of journals of the version, and what is left of them is given
abbrev pub TellsAct : {A : Type 0} → Version → Fields → Act → Fields → Result A FieldFail → Type 0
TellsAct version old act new result = Gives (λ _. act_read act) (act_in version old.words) new.words result

-- the same of a worker and its act
abbrev pub TellsStep : Version → Fields → Act → Fields → Result ℕ FieldFail → Type 0
TellsStep version old act new result = Gives (step_read act) (step_in version old.words) new.words result

-- the fields give this outcome, which is the answer, and what is left of them is given
abbrev pub GivesOutcome : {A : Type 0} → Answer → Fields → Outcome → Fields → Result A FieldFail → Type 0
GivesOutcome answer old outcome new result = Gives (λ _. outcome_read outcome) (answered answer (unread old)) new.words result

-- the words give this outcome of the call, and what is left of them is given
abbrev pub TellsOutcome : {A : Type 0} → Verb → Fields → Outcome → Fields → Result A FieldFail → Type 0
TellsOutcome verb old outcome new result = Gives (λ _. outcome_read outcome) (outcome_in verb old.words) new.words result

-- what a whole line gives is this, or it gives nothing
abbrev pub IsRead : {A B : Type 0} → (A → B) → Option B → Result A FieldFail → Type 0
IsRead is_read found (Ok read) = found ≡ Some (is_read read)
IsRead is_read found (Err Wrong) = found ≡ None
IsRead is_read found (Err OutOfMemory) = Unit {0}

-- the words after this one are those of this entry, with the number, after what was read
abbrev pub ReadsEntry : {A : Type 0} → Journal → ℕ → List ℕ → List (List ℕ) → Entry → Result A FieldFail → Type 0
ReadsEntry j n word words e result = IsRead (λ _. entry_read e) (entry_after j n word words) result

-- the words are the values of a provider
abbrev pub ReadsFields : Bool → List (List ℕ) → Result Profile FieldFail → Type 0
ReadsFields told words result = IsRead (profile_values told) (alone (fields_of (profile_keys told) words)) result

-- the words are those of the line of this provider, with these values
abbrev pub ReadsValues : Version → Prov → List (List ℕ) → Result Profile FieldFail → Type 0
ReadsValues version prov words result = IsRead (profile_values (tells_reldata version prov)) (profile_in version prov words) result
