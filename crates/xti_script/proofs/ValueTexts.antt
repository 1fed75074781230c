-- The text of a value is read as this value.
use Rattle.std.proofs.Common.{◌≡◌, refl, sym, ap, subst, ◌∙◌, ℕ, ◌≤◌, ◌<◌, Bool, true, false, cond, not, eqb, List, [], ◌∷◌, length, Option, Some, None, codes, decimal, option_map, arith, ne_eqb, bytes_eq}
use Rattle.std.specs.List.{list_all}
use Rattle.xti_base.specs.declared.kinds.Prov.{Prov}
use Rattle.xti_base.specs.declared.kinds.Prov.TheVariants.{Ticots, Ticotsord, Ticlts, Other}
use Rattle.xti_base.specs.Negotiation.{t_negotiate, t_check, t_default, t_current}
use Rattle.xti_model.specs.Resolve.{listens}
use Rattle.xti_words.proofs.WordBytes.{AreBytes, word-bytes, option-bytes}
use Rattle.xti_words.specs.declared.values.TheConstants.{MOST_PIECES}
use Rattle.xti_words.specs.Texts.{is_digit}
use Rattle.xti_words.specs.Values.{number_in, bytes_in, list_in, options_in, provider_in, mode_in, action_in}
use Rattle.xti_script_reader.specs.Kinds.{Kind}
use Rattle.xti_script_reader.specs.Kinds.{Kind as kind}
use Rattle.xti_script_reader.specs.FieldValue.{Value}
use Rattle.xti_script_reader.specs.FieldValue.Value.{Bytes, Number, Parts, Sizes, Name, NameOrNone, Provider, Mode}
use Rattle.xti_script_reader.specs.Names.{Spot, is_defined, can_name}
use Rattle.xti_script_reader.specs.Values.{named, sequence_or_none, value_in}
use Rattle.xti_script.specs.Canonical.{bytes_text, value_text}
use Rattle.xti_script.proofs.Numbers.{Lacks, number_read, number_small, number_lacks, number_begins, digit_bounds}
use Rattle.xti_script.proofs.Octets.{bytes_read, options_read, bytes_lack}
use Rattle.xti_script.proofs.Pieces.{AllRead, Each, lacks_by, list_again, list_has, list_lacks}

-- the value's text is read as it there, and has no space and no end of a line
pub record Reads (s : Spot) (k : Kind) (v : Value) : Type 0 where
  pub read : value_in s k (value_text v) ≡ Some v
  pub spaceless : Lacks 32 (value_text v)
  pub endless : Lacks 10 (value_text v)

mapped : {A : Type 0} (f : A → Value) (o : Option A) (v : Value) → option_map f o ≡ Some v → (a : A) × (o ≡ Some a) × (f a ≡ v)
mapped f None v h = absurd (cc)
mapped f (Some a) v h = (a, refl, cc)

-- ---- bytes and numbers

pub bytes_reads : (s : Spot) (bytes : List ℕ) → AreBytes bytes → Reads s kind.Bytes (Bytes bytes)
bytes_reads s bytes h = record {
  read = ap (option_map Bytes) (bytes_read bytes h);
  spaceless = bytes_lack 32 bytes (omega arith);
  endless = bytes_lack 10 bytes (omega arith);
}

pub options_reads : (s : Spot) (bytes : List ℕ) → AreBytes bytes → Reads s kind.Options (Bytes bytes)
options_reads s bytes h = record {
  read = ap (option_map Bytes) (options_read bytes h);
  spaceless = bytes_lack 32 bytes (omega arith);
  endless = bytes_lack 10 bytes (omega arith);
}

pub number_reads : (s : Spot) (n : ℕ) → n < 4294967296 → Reads s kind.Number (Number n)
number_reads s n h = record {
  read = ap (option_map Number) (number_read n h);
  spaceless = number_lacks 32 n (omega arith) h;
  endless = number_lacks 10 n (omega arith) h;
}

-- ---- lists

parts_read : (parts : List (List ℕ)) → Each AreBytes parts → AllRead bytes_in bytes_text parts
parts_read [] h = tt
parts_read (part ∷ parts) h = (bytes_read part h.0, bytes_lack 44 part (omega arith), parts_read parts h.1)

parts_lack : (byte : ℕ) → byte < 48 → (parts : List (List ℕ)) → Each (λ part. Lacks byte (bytes_text part)) parts
parts_lack byte l [] = tt
parts_lack byte l (part ∷ parts) = (bytes_lack byte part l, parts_lack byte l parts)

parts_reads : (s : Spot) (parts : List (List ℕ)) → Each AreBytes parts → 0 < length parts → length parts ≤ MOST_PIECES → Reads s kind.Parts (Parts parts)
parts_reads s parts h some few = record {
  read = ap (option_map Parts) (list_again bytes_in bytes_text parts (parts_read parts h) some few);
  spaceless = list_lacks 32 bytes_text parts refl (parts_lack 32 (omega arith) parts);
  endless = list_lacks 10 bytes_text parts refl (parts_lack 10 (omega arith) parts);
}

abbrev IsSmall : ℕ → Type 0
IsSmall n = n < 4294967296

sizes_read : (sizes : List ℕ) → Each IsSmall sizes → AllRead number_in decimal sizes
sizes_read [] h = tt
sizes_read (n ∷ sizes) h = (number_read n h.0, number_lacks 44 n (omega arith) h.0, sizes_read sizes h.1)

sizes_lack : (byte : ℕ) → byte < 48 → (sizes : List ℕ) → Each IsSmall sizes → Each (λ n. Lacks byte (decimal n)) sizes
sizes_lack byte l [] h = tt
sizes_lack byte l (n ∷ sizes) h = (number_lacks byte n l h.0, sizes_lack byte l sizes h.1)

sizes_reads : (s : Spot) (sizes : List ℕ) → Each IsSmall sizes → 0 < length sizes → length sizes ≤ MOST_PIECES → Reads s kind.Sizes (Sizes sizes)
sizes_reads s sizes h some few = record {
  read = ap (option_map Sizes) (list_again number_in decimal sizes (sizes_read sizes h) some few);
  spaceless = list_lacks 32 decimal sizes refl (sizes_lack 32 (omega arith) sizes h);
  endless = list_lacks 10 decimal sizes refl (sizes_lack 10 (omega arith) sizes h);
}

-- ---- words without a key

-- by tests that compute
pub reads_by : (s : Spot) (k : Kind) (v : Value) → value_in s k (value_text v) ≡ Some v
    → list_all (λ c. not (eqb c 32)) (value_text v) ≡ true → list_all (λ c. not (eqb c 10)) (value_text v) ≡ true → Reads s k v
reads_by s k v read h i = record { read = read; spaceless = lacks_by 32 (value_text v) h; endless = lacks_by 10 (value_text v) i }

pub provider_reads : (s : Spot) (prov : Prov) → Reads s kind.Provider (Provider prov)
unfolding provider_in
provider_reads s Ticots = reads_by s kind.Provider (Provider Ticots) refl refl refl
provider_reads s Ticotsord = reads_by s kind.Provider (Provider Ticotsord) refl refl refl
provider_reads s Ticlts = reads_by s kind.Provider (Provider Ticlts) refl refl refl
provider_reads s Other = reads_by s kind.Provider (Provider Other) refl refl refl

pub mode_reads : (s : Spot) (nonblock : Bool) → Reads s kind.Mode (Mode nonblock)
unfolding mode_in
mode_reads s true = reads_by s kind.Mode (Mode true) refl refl refl
mode_reads s false = reads_by s kind.Mode (Mode false) refl refl refl

-- a word that begins with a letter is no number
no_word : (c : ℕ) (cs : List ℕ) (d : ℕ) (ds : List ℕ) → is_digit c ≡ true → 57 < d → bytes_eq (c ∷ cs) (d ∷ ds) ≡ false
no_word c cs d ds h l =
    let bounds = digit_bounds c h in
    let other : eqb c d ≡ false = ne_eqb c d (λ e. omega (arith, bounds.1, e)) in
    rw other refl

digits_action : (word : List ℕ) (c : ℕ) (cs : List ℕ) → word ≡ c ∷ cs → is_digit c ≡ true → action_in word ≡ number_in word
unfolding action_in
digits_action word c cs e h =
    let n : bytes_eq word (codes "negotiate") ≡ false = ap (λ w. bytes_eq w (codes "negotiate")) e ∙ no_word c cs 110 _ h (omega arith) in
    let k : bytes_eq word (codes "check") ≡ false = ap (λ w. bytes_eq w (codes "check")) e ∙ no_word c cs 99 _ h (omega arith) in
    let d : bytes_eq word (codes "default") ≡ false = ap (λ w. bytes_eq w (codes "default")) e ∙ no_word c cs 100 _ h (omega arith) in
    let u : bytes_eq word (codes "current") ≡ false = ap (λ w. bytes_eq w (codes "current")) e ∙ no_word c cs 99 _ h (omega arith) in
    rw (n, k, d, u) refl

action_reads : (s : Spot) (n : ℕ) → n < 4294967296 → Reads s kind.Action (Number n)
action_reads s n h = record {
  read = let b = number_begins n h in ap (option_map Number) (digits_action (decimal n) b.0 b.1 b.2 b.3 ∙ number_read n h);
  spaceless = number_lacks 32 n (omega arith) h;
  endless = number_lacks 10 n (omega arith) h;
}

action_small : (word : List ℕ) (n : ℕ) → action_in word ≡ Some n → n < 4294967296
unfolding action_in
action_small word n h = go (bytes_eq word (codes "negotiate")) (bytes_eq word (codes "check")) (bytes_eq word (codes "default")) (bytes_eq word (codes "current")) h
  where
    is : (m : ℕ) → m < 4294967296 → Some m ≡ Some n → n < 4294967296
    is m l e = let same : m ≡ n = cc in omega (arith, same)

    go : (a b c d : Bool) → cond a (Some t_negotiate) (cond b (Some t_check) (cond c (Some t_default) (cond d (Some t_current) (number_in word)))) ≡ Some n → n < 4294967296
    go true b c d e = is t_negotiate (omega arith) e
    go false true c d e = is t_check (omega arith) e
    go false false true d e = is t_default (omega arith) e
    go false false false true e = is t_current (omega arith) e
    go false false false false e = number_small word n e

-- ---- names

-- a name is its own text, where it may stand there
pub name_reads : (s : Spot) (k : Kind) (name : List ℕ) → value_in s k name ≡ named (can_name s k name) name → can_name s k name ≡ true → Lacks 32 name → Lacks 10 name → Reads s k (Name name)
name_reads s k name e can space line = record { read = e ∙ ap (λ known. named known name) can; spaceless = space; endless = line }

-- a name that was read already
named_reads : (s : Spot) (k : Kind) (text : List ℕ) (v : Value) (known : Bool) → value_in s k text ≡ Some v → value_in s k text ≡ named known text → Lacks 32 text → Lacks 10 text → Reads s k v
named_reads s k text v true h e space line =
    let is : Name text ≡ v = cc in
    subst (Reads s k) is (record { read = h ∙ ap Some (sym is); spaceless = space; endless = line })
named_reads s k text v false h e space line = absurd (let bad : None ≡ Some v = sym e ∙ h in cc)

sequence_reads : (s : Spot) (text : List ℕ) (v : Value) → value_in s kind.SequenceOrNone text ≡ Some v → Lacks 32 text → Lacks 10 text → Reads s kind.SequenceOrNone v
sequence_reads s text v h space line = go (bytes_eq text (codes "-")) (is_defined listens s text) refl
  where
    go : (a b : Bool) → value_in s kind.SequenceOrNone text ≡ sequence_or_none a b text → Reads s kind.SequenceOrNone v
    go true b e =
        let is : NameOrNone None ≡ v = cc in
        subst (Reads s kind.SequenceOrNone) is (reads_by s kind.SequenceOrNone (NameOrNone None) refl refl refl)
    go false true e =
        let is : NameOrNone (Some text) ≡ v = cc in
        subst (Reads s kind.SequenceOrNone) is (record { read = h ∙ ap Some (sym is); spaceless = space; endless = line })
    go false false e = absurd (let bad : None ≡ Some v = sym e ∙ h in cc)

-- ---- all kinds

-- a value that a text was read as is read again from its own text
pub value_reads : (s : Spot) (k : Kind) (text : List ℕ) (v : Value) → value_in s k text ≡ Some v → Lacks 32 text → Lacks 10 text → Reads s k v
value_reads s kind.Bytes text v h space line =
    let m = mapped Bytes (bytes_in text) v h in subst (Reads s kind.Bytes) m.2 (bytes_reads s m.0 (word-bytes text m.0 m.1))
value_reads s kind.Options text v h space line =
    let m = mapped Bytes (options_in text) v h in subst (Reads s kind.Options) m.2 (options_reads s m.0 (option-bytes text m.0 m.1))
value_reads s kind.Number text v h space line =
    let m = mapped Number (number_in text) v h in subst (Reads s kind.Number) m.2 (number_reads s m.0 (number_small text m.0 m.1))
value_reads s kind.Parts text v h space line =
    let m = mapped Parts (list_in bytes_in text) v h in
    let l = list_has bytes_in AreBytes word-bytes text m.0 m.1 in
    subst (Reads s kind.Parts) m.2 (parts_reads s m.0 l.0 l.1 l.2)
value_reads s kind.Sizes text v h space line =
    let m = mapped Sizes (list_in number_in text) v h in
    let l = list_has number_in IsSmall number_small text m.0 m.1 in
    subst (Reads s kind.Sizes) m.2 (sizes_reads s m.0 l.0 l.1 l.2)
value_reads s kind.SequenceOrNone text v h space line = sequence_reads s text v h space line
value_reads s kind.Provider text v h space line =
    let m = mapped Provider (provider_in text) v h in subst (Reads s kind.Provider) m.2 (provider_reads s m.0)
value_reads s kind.Mode text v h space line =
    let m = mapped Mode (mode_in text) v h in subst (Reads s kind.Mode) m.2 (mode_reads s m.0)
value_reads s kind.Action text v h space line =
    let m = mapped Number (action_in text) v h in subst (Reads s kind.Action) m.2 (action_reads s m.0 (action_small text m.0 m.1))
value_reads s kind.NewEndpoint text v h space line = named_reads s kind.NewEndpoint text v (can_name s kind.NewEndpoint text) h refl space line
value_reads s kind.Endpoint text v h space line = named_reads s kind.Endpoint text v (can_name s kind.Endpoint text) h refl space line
value_reads s kind.NewSequence text v h space line = named_reads s kind.NewSequence text v (can_name s kind.NewSequence text) h refl space line
value_reads s kind.Sequence text v h space line = named_reads s kind.Sequence text v (can_name s kind.Sequence text) h refl space line
