-- What is noted of the fields that were read.
use Rattle.std.specs.Prelude.{◌≡◌, ◌⊎◌, Bool, true, false, Option, Some, None, Result, Ok, Err}
use Rattle.xti_words.specs.declared.noted.Noted.{Noted}
use Rattle.xti_words.specs.declared.noted.FieldFail.{FieldFail}
use Rattle.xti_words.specs.declared.noted.FieldFail.TheVariants.{Wrong, OutOfMemory}

-- what was read is given; or it is noted that it is wrong, or that memory ran out
abbrev pub Notes : {A E : Type 0} → Result (Option A) E → Noted → Noted → A → Type 0
Notes (Ok (Some read)) old new given = (given ≡ read) × (new ≡ old)
Notes (Ok None) old new given = new ≡ record old { is_wrong = true }
Notes (Err e) old new given = new ≡ record old { ran_out = true }

-- nothing was noted; or what was
abbrev pub Ends : {A : Type 0} → Noted → Result A FieldFail → Type 0
Ends noted (Ok read) = (noted.ran_out ≡ false) × (noted.is_wrong ≡ false)
Ends noted (Err Wrong) = (noted.ran_out ≡ false) × (noted.is_wrong ≡ true)
Ends noted (Err OutOfMemory) = noted.ran_out ≡ true

-- what the words give the fields that are not read yet, or nothing after a field that is wrong
abbrev pub left : {A : Type 0} → Bool → Option A → Option A
left true found = None
left false found = found

-- this holds; or memory ran out
abbrev pub Keeps : Noted → Noted → Type 0 → Type 0
Keeps old new holds = (new.ran_out ≡ true) ⊎ ((new.ran_out ≡ old.ran_out) × holds)
