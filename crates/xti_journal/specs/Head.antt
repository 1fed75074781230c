-- What reading the head gives.
use Rattle.std.specs.Prelude.{◌≡◌, ℕ, Bool, true, false, ◌&&◌, List, ◌++◌, Result, Ok, Err}
use Rattle.xti_base.specs.declared.kinds.Prov.{Prov}
use Rattle.xti_base.specs.declared.kinds.Prov.TheVariants.{Ticots, Ticotsord, Ticlts, Other}
use Rattle.xti_model.specs.declared.profile.Profile.{Profile}
use Rattle.xti_model.specs.declared.profile.Providers.{Providers}
use Rattle.xti_model.specs.declared.profile.Version.{Version}
use Rattle.xti_model.specs.Profile.{valid_connections, valid_orderly, valid_datagrams, valid, tells_reldata, is_told, releases_told}
use Rattle.xti_journal_text.specs.JournalText.{first_line, provider_text, head_text}
use Rattle.xti_words.specs.declared.noted.FieldFail.{FieldFail}
use Rattle.xti_words.specs.declared.noted.FieldFail.TheVariants as field
use Rattle.xti_journal.specs.declared.journal_text.JournalFail.{JournalFail}
use Rattle.xti_journal.specs.declared.journal_text.JournalFail.TheVariants as journal
use Rattle.xti_journal.specs.Fields.{AreFields}
use Rattle.xti_journal.specs.Reading.{profile_keys, profile_values}
use Rattle.xti_journal.specs.Refused.{IsRefusedAt}
use denote.Ref.{Bor}

-- the values are within the bounds of the provider
abbrev pub valid_profile : Prov → Profile → Bool
valid_profile Ticots p = valid_connections p
valid_profile Ticotsord p = valid_orderly p
valid_profile Ticlts p = valid_datagrams p
valid_profile Other p = false

-- a head of the version may give the provider these values
abbrev pub is_in_head : Version → Prov → Profile → Bool
is_in_head version prov p = valid_profile prov p && is_told version prov p

-- a head has these values
abbrev pub valid_head : Providers → Bool
valid_head p = valid p && releases_told p

-- its numbers have 32 bits, and what the line doesn't tell is as it is then
abbrev pub FitsProfile : Version → Prov → Profile → Type 0
FitsProfile version prov p = (is_told version prov p ≡ true) × AreFields (profile_keys (tells_reldata version prov)) (profile_values (tells_reldata version prov) p)

-- the text begins with the line of this provider, which others follow; or with no such line
abbrev pub ReadsProvider : Version → Prov → List ℕ → Result (Profile × Bor (List ℕ)) FieldFail → Type 0
ReadsProvider version prov text (Ok (p, rest)) = (is_in_head version prov p ≡ true) × (text ≡ provider_text version prov p ++ rest.now)
ReadsProvider version prov text (Err field.Wrong) = (p : Profile) (rest : List ℕ) → is_in_head version prov p ≡ true → text ≡ provider_text version prov p ++ rest → ⊥
ReadsProvider version prov text (Err field.OutOfMemory) = Unit {0}

-- the text begins with the first line of this version; or with that of none
abbrev pub ReadsFirst : List ℕ → Result (Version × Bor (List ℕ)) FieldFail → Type 0
ReadsFirst text (Ok (version, rest)) = text ≡ first_line version ++ rest.now
ReadsFirst text (Err field.Wrong) = (version : Version) (rest : List ℕ) → text ≡ first_line version ++ rest → ⊥
ReadsFirst text (Err field.OutOfMemory) = Unit {0}

abbrev pub fail_at : ℕ → FieldFail → JournalFail
fail_at line field.Wrong = journal.Bad line
fail_at line field.OutOfMemory = journal.OutOfMemory

-- the text begins with the head of these providers; or it is refused at a line of its head
abbrev pub ReadsHead : List ℕ → Result (Providers × Bor (List ℕ)) JournalFail → Type 0
ReadsHead text (Ok (p, rest)) = (valid_head p ≡ true) × (text ≡ head_text p ++ rest.now)
ReadsHead text (Err (journal.Bad line)) = IsRefusedAt text line
ReadsHead text (Err journal.OutOfMemory) = Unit {0}
