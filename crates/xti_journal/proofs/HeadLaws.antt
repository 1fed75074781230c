-- The head is read exactly where it is written so.
use Rattle.std.proofs.Common.{◌≡◌, ℕ, ◌<◌, ◌≤◌, Bool, true, false, cond, not, ◌&&◌, ◌||◌, eqb, leb, List, [], ◌∷◌, ◌++◌, length, Option, Some, None, Result, Err, refl, sym, ap, subst, ◌∙◌, append_assoc, arith}
use Rattle.std.specs.Prelude.{codes, All, ◌==◌}
use Rattle.std.specs.Str.{bytes_eq}
use Rattle.std.specs.List.{join_with_byte}
use Rattle.std.proofs.lemmas.Bool.{and_parts, leb-true, eqb-true}
use Rattle.std.proofs.lemmas.List.{append-nil}
use Rattle.std.proofs.lemmas.List.Elements.{All-cons}
use Rattle.xti_base.specs.declared.kinds.Prov.{Prov}
use Rattle.xti_base.specs.declared.kinds.Prov.TheVariants.{Ticots, Ticotsord, Ticlts, Other}
use Rattle.xti_base.specs.declared.limit.Limit.{Limit}
use Rattle.xti_base.specs.declared.limit.Limit.TheVariants as limit
use Rattle.xti_base.specs.declared.limits.TheConstants.{MOST_SIZE}
use Rattle.xti_base.specs.Kinds.{prov_name}
use Rattle.xti_model.specs.declared.profile.Profile.{Profile}
use Rattle.xti_model.specs.declared.profile.Providers.{Providers}
use Rattle.xti_model.specs.declared.profile.Version.{Version}
use Rattle.xti_model.specs.declared.profile.Version.TheVariants.{One, Two}
use Rattle.xti_model.specs.Profile.{usual_of, tells_reldata, is_told, releases_told, is_size, has_limit, has_messages, is_stream_limit, has_buffers, valid_connections, valid_orderly, valid_datagrams, valid}
use Rattle.xti_journal_text.specs.JournalText.{limit_word, bit_word, profile_text, release_text, provider_text, first_line, head_text}
use Rattle.xti_words.specs.Texts.{words_of}
use Rattle.xti_journal.specs.Kinds.{Kind as kind}
use Rattle.xti_journal.specs.FieldValue.{Value}
use Rattle.xti_journal.specs.FieldValue.{Value as value}
use Rattle.xti_journal.specs.declared.fields.Key.{Key}
use Rattle.xti_journal.specs.Fields.{field, IsOfKind, AreFields}
use Rattle.xti_journal.specs.Line.{IsLine}
use Rattle.xti_words.specs.declared.noted.FieldFail.{FieldFail}
use Rattle.xti_words.specs.declared.noted.FieldFail.TheVariants.{Wrong, OutOfMemory}
use Rattle.xti_journal.specs.Unread.{IsRead, ReadsFields, ReadsValues}
use Rattle.xti_journal.specs.Head.{valid_profile, is_in_head, valid_head, FitsProfile, ReadsProvider}
use Rattle.xti_journal.specs.Reading.{Found, accepted, fields_of, release_keys, release_values, profile_keys, profile_values, alone, profile_in}
use Rattle.xti_journal.proofs.NumberLaws.{Above}
use Rattle.xti_journal.proofs.ValueLaws.{is_word, some_is, none_is, known}
use Rattle.xti_journal.proofs.FieldLaws.{texts, fields_full, fields_exact, texts_above}
use Rattle.xti_words.specs.WrittenWords.{number_word}
use Rattle.xti_journal.proofs.CallText.{n5, n6}
use Rattle.xti_journal.proofs.LineLaws.{is_same}
use Rattle.xti_journal.proofs.TextLines.{ended, one_cut, words_line, words_are, joined_again}
use Rattle.xti_journal.proofs.BodyLaws.{with_lf, Line}
use Rattle.xti_journal.proofs.OneEntry.{one_profile}
use Rattle.xti_journal.proofs.Ruled.{Ruled, ruled_one, ruled_append, same_line}

-- the keys of the line of a provider, its values, and their words
abbrev pub keys_of : Version → Prov → List Key
keys_of version prov = profile_keys (tells_reldata version prov)

abbrev pub values_of : Version → Prov → Profile → List Value
values_of version prov p = profile_values (tells_reldata version prov) p

abbrev fields_words : Version → Prov → Profile → List (List ℕ)
fields_words version prov p = texts (keys_of version prov) (values_of version prov p)

abbrev pub provider_words : Version → Prov → Profile → List (List ℕ)
provider_words version prov p = codes "provider" ∷ prov_name prov ∷ fields_words version prov p

provider_shape : (name fields told : List ℕ) → codes "provider " ++ name ++ fields ++ told ++ codes "\n" ≡ (codes "provider" ++ 32 ∷ (name ++ (fields ++ told))) ++ 10 ∷ []
provider_shape name fields told =
    n5 (codes "provider ") name fields told (codes "\n")
    ∙ ap (λ (l : List ℕ). codes "provider " ++ l) (ap (λ (l : List ℕ). name ++ l) (sym (append_assoc fields told (codes "\n"))) ∙ sym (append_assoc name (fields ++ told) (codes "\n")))

profile_joined : (version : Version) (prov : Prov) (p : Profile) → join_with_byte 32 (provider_words version prov p) ≡ codes "provider" ++ 32 ∷ (prov_name prov ++ (profile_text p ++ release_text version prov p))
unfolding field
profile_joined version prov p = by_told (tells_reldata version prov)
  where
    by_told : (told : Bool) → join_with_byte 32 (codes "provider" ∷ prov_name prov ∷ texts (profile_keys told) (profile_values told p)) ≡ codes "provider" ++ 32 ∷ (prov_name prov ++ (profile_text p ++ cond told (bit_word (codes " reldata=") p.reldata) []))
    by_told true = ap (λ (l : List ℕ). codes "provider" ++ 32 ∷ (prov_name prov ++ l)) (sym (n6 (limit_word (codes " tsdu=") p.tsdu) (bit_word (codes " sendzero=") p.sendzero) (bit_word (codes " same_addr=") p.same_addr) (number_word (codes " sndbuf=") p.sndbuf) (number_word (codes " rcvbuf=") p.rcvbuf) (bit_word (codes " reldata=") p.reldata)))
    by_told false = ap (λ (l : List ℕ). codes "provider" ++ 32 ∷ (prov_name prov ++ l)) (sym (append-nil (profile_text p) ∙ n5 (limit_word (codes " tsdu=") p.tsdu) (bit_word (codes " sendzero=") p.sendzero) (bit_word (codes " same_addr=") p.same_addr) (number_word (codes " sndbuf=") p.sndbuf) (number_word (codes " rcvbuf=") p.rcvbuf)))

pub provider_text_is : (version : Version) (prov : Prov) (p : Profile) → provider_text version prov p ≡ join_with_byte 32 (provider_words version prov p) ++ 10 ∷ []
unfolding provider_text
provider_text_is version prov p = provider_shape (prov_name prov) (profile_text p) (release_text version prov p) ∙ ap with_lf (sym (profile_joined version prov p))

name_above : (prov : Prov) → Above 32 (prov_name prov)
name_above Ticots = known (codes "ticots") refl
name_above Ticotsord = known (codes "ticotsord") refl
name_above Ticlts = known (codes "ticlts") refl
name_above Other = known (codes "other") refl

pub provider_is_line : (version : Version) (prov : Prov) (p : Profile) → FitsProfile version prov p → Line (provider_words version prov p) (provider_text version prov p)
provider_is_line version prov p h =
    let w : Above 32 (codes "provider") = known (codes "provider") refl in
    let ws : All (Above 32) (prov_name prov ∷ fields_words version prov p) = All-cons (Above 32) (prov_name prov) (fields_words version prov p) (name_above prov) (texts_above (keys_of version prov) (values_of version prov p) h.1) in
    record {
      line = join_with_byte 32 (provider_words version prov p);
      is_line = words_line (provider_words version prov p) (All-cons (Above 32) (codes "provider") (prov_name prov ∷ fields_words version prov p) w ws);
      whole = provider_text_is version prov p;
      words_are = words_are (codes "provider") (prov_name prov ∷ fields_words version prov p) w ws;
    }

pub profile_full : (version : Version) (prov : Prov) (p : Profile) → FitsProfile version prov p → profile_in version prov (provider_words version prov p) ≡ Some (values_of version prov p)
unfolding profile_in
profile_full version prov p h =
    let f : fields_of (keys_of version prov) (fields_words version prov p) ≡ Some (values_of version prov p, []) =
    ap (fields_of (keys_of version prov)) (sym (append-nil (fields_words version prov p))) ∙ fields_full (keys_of version prov) (values_of version prov p) [] h.1 in
    rw (is_same (prov_name prov)) (ap alone f)

alone_is : (o : Found (List Value)) (values : List Value) → alone o ≡ Some values → o ≡ Some (values, [])
alone_is None values e = none_is values e
alone_is (Some (vs, [])) values e = ap (λ (x : List Value). Some (x, [])) (some_is vs values e)
alone_is (Some (vs, word ∷ words)) values e = go (length (word ∷ words) == 0) refl e
  where
    go : (b : Bool) → (length (word ∷ words) == 0) ≡ b → cond b (Some vs) None ≡ Some values → ◌≡◌ {A = Found (List Value)} (Some (vs, word ∷ words)) (Some (values, []))
    go true p e = let z = eqb-true (length (word ∷ words)) 0 p in absurd (omega arith)
    go false p e = none_is values e

record ProfileRead (version : Version) (prov : Prov) (words : List (List ℕ)) (p : Profile) : Type 0 where
  pub written : words ≡ provider_words version prov p
  pub fits : FitsProfile version prov p

profile_exact : (version : Version) (prov : Prov) (words : List (List ℕ)) (p : Profile) → is_told version prov p ≡ true → profile_in version prov words ≡ Some (values_of version prov p) → ProfileRead version prov words p
unfolding profile_in
profile_exact version prov [] p z e = none_is (values_of version prov p) e
profile_exact version prov (word ∷ []) p z e = none_is (values_of version prov p) e
profile_exact version prov (word ∷ named ∷ words) p z e = go (bytes_eq word (codes "provider")) refl (bytes_eq named (prov_name prov)) refl e
  where
    go : (a : Bool) → bytes_eq word (codes "provider") ≡ a → (b : Bool) → bytes_eq named (prov_name prov) ≡ b → cond (a && b) (alone (fields_of (keys_of version prov) words)) None ≡ Some (values_of version prov p) → ProfileRead version prov (word ∷ named ∷ words) p
    go true q true r e =
        let f = fields_exact (keys_of version prov) words (values_of version prov p) [] (alone_is (fields_of (keys_of version prov) words) (values_of version prov p) e) in
        record {
          written = ap (λ (l : List ℕ). l ∷ named ∷ words) (is_word word (codes "provider") q) ∙ ap (λ (l : List ℕ). codes "provider" ∷ l ∷ words) (is_word named (prov_name prov) r) ∙ ap (λ (ls : List (List ℕ)). codes "provider" ∷ prov_name prov ∷ ls) (f.written ∙ append-nil (fields_words version prov p));
          fits = (z, f.are);
        }
    go true q false r e = none_is (values_of version prov p) e
    go false q b r e = none_is (values_of version prov p) e

-- a first word that is accepted or not, and the words after it
abbrev Accepts : List ℕ → List (List ℕ) → Bool → List (List ℕ) → Type 0
Accepts wanted words b rest = ◌≡◌ {A = Bool × List (List ℕ)} (b, rest) (accepted wanted words)

abbrev FirstOf : Bool → Bool → List (List ℕ) → List (List ℕ) → List (List ℕ) → Type 0
FirstOf b d rest then other = ◌≡◌ {A = Bool × List (List ℕ)} (b, rest) (cond d (true, then) (false, other))

-- a first word that is accepted
accepted_is : (wanted : List ℕ) (words rest : List (List ℕ)) (b : Bool) → Accepts wanted words b rest → b ≡ true → words ≡ wanted ∷ rest
accepted_is wanted [] rest b e t = let c : true ≡ false = sym t ∙ ap (λ x. x.0) e in absurd cc
accepted_is wanted (word ∷ words) rest b e t = by_word (bytes_eq word wanted) refl e
  where
    by_word : (d : Bool) → bytes_eq word wanted ≡ d → FirstOf b d rest words (word ∷ words) → word ∷ words ≡ wanted ∷ rest
    by_word true w e = ap (λ (x : List ℕ). x ∷ words) (is_word word wanted w) ∙ ap (λ (x : List (List ℕ)). wanted ∷ x) (sym (ap (λ x. x.1) e))
    by_word false w e = let c : true ≡ false = sym t ∙ ap (λ x. x.0) e in absurd cc

-- the values of the words after the provider's name are those of the line
pub reads_values : (version : Version) (prov : Prov) (words left rest : List (List ℕ)) (wanted name : List ℕ) (a b told : Bool) (r : Result Profile FieldFail) → wanted ≡ codes "provider" → Accepts wanted words a left → a ≡ true → Accepts name left b rest → b ≡ true → name ≡ prov_name prov → told ≡ tells_reldata version prov
    → ReadsFields told rest r → ReadsValues version prov words r
unfolding profile_in
reads_values version prov words left rest wanted name a b told r p e s f t n k h =
    let is : words ≡ codes "provider" ∷ prov_name prov ∷ rest = accepted_is (codes "provider") words left a (subst (λ (x : List ℕ). Accepts x words a left) p e) s ∙ ap (λ (x : List (List ℕ)). codes "provider" ∷ x) (accepted_is name left rest b f t ∙ ap (λ (x : List ℕ). x ∷ rest) n) in
    let read : profile_in version prov words ≡ alone (fields_of (keys_of version prov) rest) = ap (profile_in version prov) is ∙ ap (λ (x : Bool). cond x (alone (fields_of (keys_of version prov) rest)) None) (is_same (prov_name prov)) in
    subst (λ (x : Option (List Value)). IsRead (values_of version prov) x r) (sym read) (subst (λ (x : Bool). ReadsFields x rest r) k h)

-- a line that is read
provider_found : (version : Version) (prov : Prov) (line rest text : List ℕ) (p : Profile) → is_told version prov p ≡ true → text ≡ ended line ++ rest → profile_in version prov (words_of line) ≡ Some (values_of version prov p) → FitsProfile version prov p × (text ≡ provider_text version prov p ++ rest)
provider_found version prov line rest text p z t e =
    let r = profile_exact version prov (words_of line) p z e in
    let w : line ≡ join_with_byte 32 (provider_words version prov p) = sym (joined_again line) ∙ ap (join_with_byte 32) r.written in
    (r.fits, t ∙ ap (λ (l : List ℕ). l ++ rest) (ap with_lf w ∙ sym (provider_text_is version prov p)))

-- a line that is not read
provider_not_found : (version : Version) (prov : Prov) (line rest text : List ℕ) → IsLine line → text ≡ ended line ++ rest → profile_in version prov (words_of line) ≡ None → (p : Profile) (left : List ℕ) → FitsProfile version prov p → text ≡ provider_text version prov p ++ left → ⊥
provider_not_found version prov line rest text h t e p left f w =
    let l = provider_is_line version prov p f in
    let c = one_cut line l.line rest left h l.is_line (sym t ∙ w ∙ ap (λ (x : List ℕ). x ++ left) l.whole) in
    let q : profile_in version prov (words_of line) ≡ Some (values_of version prov p) = ap (λ (x : List ℕ). profile_in version prov (words_of x)) c.0 ∙ ap (profile_in version prov) l.words_are ∙ profile_full version prov p f in
    none_is (values_of version prov p) (sym e ∙ q)

-- ---- values within their bounds

size_fits : (n : ℕ) → is_size n ≡ true → n < 4294967296
size_fits n h = let p = and_parts (leb 1 n) (leb n MOST_SIZE) h in let l : n ≤ MOST_SIZE = leb-true n MOST_SIZE p.1 in omega arith

limit_fits : (l : Limit) → (has_messages l || is_stream_limit l) ≡ true → IsOfKind kind.Limit (value.Limit l)
limit_fits (limit.At n) h = go (is_size n) refl h
  where
    go : (b : Bool) → is_size n ≡ b → (b || eqb n 0) ≡ true → n < 4294967296
    go true s h = size_fits n s
    go false s h = let z = eqb-true n 0 h in omega (arith, z)
limit_fits limit.Infinite h = tt
limit_fits limit.Invalid h = tt

buffers_fit : (p : Profile) → has_buffers p ≡ true → (p.sndbuf < 4294967296) × (p.rcvbuf < 4294967296)
buffers_fit p h = let b = and_parts (is_size p.sndbuf) (is_size p.rcvbuf) h in (size_fits p.sndbuf b.0, size_fits p.rcvbuf b.1)

release_fits : (told reldata : Bool) → AreFields (release_keys told) (release_values told reldata)
unfolding field
release_fits true reldata = (tt, tt)
release_fits false reldata = tt

profile_fits : (version : Version) (prov : Prov) (p : Profile) → is_told version prov p ≡ true → has_buffers p ≡ true → (has_messages p.tsdu || is_stream_limit p.tsdu) ≡ true → FitsProfile version prov p
unfolding field
profile_fits version prov p z b l = let s = buffers_fit p b in (z, (limit_fits p.tsdu l, (tt, (tt, (s.0, (s.1, release_fits (tells_reldata version prov) p.reldata))))))

or_first : (a b : Bool) → a ≡ true → (a || b) ≡ true
or_first a b h = rw h refl

limited : (l : Limit) → has_limit l ≡ true → has_messages l ≡ true
limited (limit.At n) h = h
limited limit.Infinite h = refl
limited limit.Invalid h = h

record HasSizes (p : Profile) : Type 0 where
  buffers : has_buffers p ≡ true
  messages : (has_messages p.tsdu || is_stream_limit p.tsdu) ≡ true

has_sizes : (prov : Prov) (p : Profile) → valid_profile prov p ≡ true → HasSizes p
has_sizes Ticots p h = let q = and_parts (has_buffers p) (has_messages p.tsdu) h in record { buffers = q.0; messages = or_first (has_messages p.tsdu) (is_stream_limit p.tsdu) q.1 }
has_sizes Ticotsord p h =
    let q = and_parts (has_buffers p) (has_messages p.tsdu || (is_stream_limit p.tsdu && not p.sendzero)) h in
    record { buffers = q.0; messages = go (has_messages p.tsdu) (is_stream_limit p.tsdu) (not p.sendzero) q.1 }
  where
    go : (a b c : Bool) → (a || (b && c)) ≡ true → (a || b) ≡ true
    go true b c h = refl
    go false b c h = (and_parts b c h).0
has_sizes Ticlts p h =
    let q = and_parts (has_buffers p && has_limit p.tsdu) (not p.same_addr) h in
    let r = and_parts (has_buffers p) (has_limit p.tsdu) q.0 in
    record { buffers = r.0; messages = or_first (has_messages p.tsdu) (is_stream_limit p.tsdu) (limited p.tsdu r.1) }
has_sizes Other p h = absurd cc

pub parted : (version : Version) (prov : Prov) (p : Profile) → is_in_head version prov p ≡ true → (valid_profile prov p ≡ true) × (is_told version prov p ≡ true)
parted version prov p h = and_parts (valid_profile prov p) (is_told version prov p) h

both : (version : Version) (prov : Prov) (p : Profile) → valid_profile prov p ≡ true → is_told version prov p ≡ true → is_in_head version prov p ≡ true
both version prov p v z = rw (v, z) refl

pub head_fits : (version : Version) (prov : Prov) (p : Profile) → is_in_head version prov p ≡ true → FitsProfile version prov p
head_fits version prov p h =
    let w = parted version prov p h in
    let s = has_sizes prov p w.0 in
    profile_fits version prov p w.1 s.buffers s.messages

-- ---- one line of a provider

pub record TwoProfiles (p q : Profile) (a b : List ℕ) : Type 0 where
  pub one : p ≡ q
  pub rest : a ≡ b

-- what the lines don't tell of both is the same
untold : (version : Version) (prov : Prov) (p q : Profile) → is_told version prov p ≡ true → is_told version prov q ≡ true → tells_reldata version prov ≡ false → p.reldata ≡ q.reldata
untold version prov p q h k t = lacks p.reldata (rw t at h) ∙ sym (lacks q.reldata (rw t at k))
  where
    lacks : (b : Bool) → not b ≡ true → b ≡ false
    lacks true e = absurd cc
    lacks false e = refl

pub two_profiles : (version : Version) (prov : Prov) (p q : Profile) (a b : List ℕ) → FitsProfile version prov p → FitsProfile version prov q → provider_text version prov p ++ a ≡ provider_text version prov q ++ b → TwoProfiles p q a b
two_profiles version prov p q a b h k t =
    let c = same_line _ _ _ _ a b (provider_is_line version prov p h) (provider_is_line version prov q k) t in
    let r : Some (values_of version prov p) ≡ Some (values_of version prov q) = sym (profile_full version prov p h) ∙ ap (profile_in version prov) c.words_same ∙ profile_full version prov q k in
    record { one = one_profile (tells_reldata version prov) p q (untold version prov p q h.0 k.0) (some_is (values_of version prov p) (values_of version prov q) r); rest = c.rest }

-- ---- the lines of a head

pub record Valid (p : Providers) : Type 0 where
  pub ticots : is_in_head p.version Ticots p.ticots ≡ true
  pub ticotsord : is_in_head p.version Ticotsord p.ticotsord ≡ true
  pub ticlts : is_in_head p.version Ticlts p.ticlts ≡ true

pub valid_is : (p : Providers) → valid_head p ≡ true → Valid p
valid_is p h =
    let q = and_parts (valid p) (releases_told p) h in
    let v = and_parts (valid_connections p.ticots && valid_orderly p.ticotsord) (valid_datagrams p.ticlts) q.0 in
    let w = and_parts (valid_connections p.ticots) (valid_orderly p.ticotsord) v.0 in
    let r = and_parts (is_told p.version Ticots p.ticots && is_told p.version Ticotsord p.ticotsord) (is_told p.version Ticlts p.ticlts) q.1 in
    let s = and_parts (is_told p.version Ticots p.ticots) (is_told p.version Ticotsord p.ticotsord) r.0 in
    record { ticots = both p.version Ticots p.ticots w.0 s.0; ticotsord = both p.version Ticotsord p.ticotsord w.1 s.1; ticlts = both p.version Ticlts p.ticlts v.1 r.1 }

pub in_head : (p : Providers) → valid p ≡ true → releases_told p ≡ true → valid_head p ≡ true
in_head p h w = true_both (valid p) (releases_told p) h w
  where
    true_both : (a b : Bool) → a ≡ true → b ≡ true → (a && b) ≡ true
    true_both a b h k = rw (h, k) refl

-- what a head says of its providers
pub head_within : (p : Providers) → valid_head p ≡ true → valid p ≡ true
head_within p h = (and_parts (valid p) (releases_told p) h).0

pub head_told : (p : Providers) → valid_head p ≡ true → releases_told p ≡ true
head_told p h = (and_parts (valid p) (releases_told p) h).1

pub is_valid : (p : Providers) → Valid p → valid_head p ≡ true
is_valid p v =
    let a = parted p.version Ticots p.ticots v.ticots in
    let b = parted p.version Ticotsord p.ticotsord v.ticotsord in
    let c = parted p.version Ticlts p.ticlts v.ticlts in
    in_head p (rw (a.0, b.0) c.0) (rw (a.1, b.1) c.1)

pub usual_valid : (version : Version) → Valid (usual_of version)
usual_valid One = record { ticots = refl; ticotsord = refl; ticlts = refl }
usual_valid Two = record { ticots = refl; ticotsord = refl; ticlts = refl }

-- the first line without its LF
abbrev pub first_word : Version → List ℕ
first_word One = codes "xti-journal 1"
first_word Two = codes "xti-journal 2"

pub first_is_line : (version : Version) → Line (words_of (first_word version)) (first_line version)
unfolding first_line
first_is_line One = record { line = codes "xti-journal 1"; is_line = (refl, (refl, (refl, (refl, (refl, (refl, (refl, (refl, (refl, (refl, (refl, (refl, (refl, tt))))))))))))); whole = refl; words_are = refl }
first_is_line Two = record { line = codes "xti-journal 2"; is_line = (refl, (refl, (refl, (refl, (refl, (refl, (refl, (refl, (refl, (refl, (refl, (refl, (refl, tt))))))))))))); whole = refl; words_are = refl }

pub first_ruled : (version : Version) → Ruled (first_line version) 1
first_ruled version = ruled_one _ _ (first_is_line version)

pub provider_ruled : (version : Version) (prov : Prov) (p : Profile) → is_in_head version prov p ≡ true → Ruled (provider_text version prov p) 1
provider_ruled version prov p h = ruled_one _ _ (provider_is_line version prov p (head_fits version prov p h))

-- the parts of a head, in order
pub head_parts : (p : Providers) (rest : List ℕ) → head_text p ++ rest ≡ first_line p.version ++ (provider_text p.version Ticots p.ticots ++ (provider_text p.version Ticotsord p.ticotsord ++ (provider_text p.version Ticlts p.ticlts ++ rest)))
unfolding head_text
head_parts p rest = simp append_assoc refl

pub head_ruled : (p : Providers) → Valid p → Ruled (head_text p) 4
unfolding head_text
head_ruled p v =
    let one = ruled_append (first_line p.version) (provider_text p.version Ticots p.ticots) 1 1 (first_ruled p.version) (provider_ruled p.version Ticots p.ticots v.ticots) in
    let two = ruled_append (first_line p.version ++ provider_text p.version Ticots p.ticots) (provider_text p.version Ticotsord p.ticotsord) 2 1 one (provider_ruled p.version Ticotsord p.ticotsord v.ticotsord) in
    ruled_append (first_line p.version ++ provider_text p.version Ticots p.ticots ++ provider_text p.version Ticotsord p.ticotsord) (provider_text p.version Ticlts p.ticlts) 3 1 two (provider_ruled p.version Ticlts p.ticlts v.ticlts)

-- texts that begin with the first line of a version each have the same version
pub first_same : (v w : Version) (a b : List ℕ) → first_line v ++ a ≡ first_line w ++ b → (v ≡ w) × (a ≡ b)
unfolding first_line
first_same One One a b e = (refl, cc)
first_same One Two a b e = let c : ◌≡◌ {A = ℕ} 49 50 = cc in absurd (omega (arith, c))
first_same Two One a b e = let c : ◌≡◌ {A = ℕ} 50 49 = cc in absurd (omega (arith, c))
first_same Two Two a b e = (refl, cc)

pub record TwoHeads (p q : Providers) (a b : List ℕ) : Type 0 where
  pub one : p ≡ q
  pub rest : a ≡ b

-- the lines of the providers of a version
abbrev lines_at : Version → Providers → List ℕ → List ℕ
lines_at version p rest = provider_text version Ticots p.ticots ++ (provider_text version Ticotsord p.ticotsord ++ (provider_text version Ticlts p.ticlts ++ rest))

-- the same as of a head of that version
record ValidAt (version : Version) (p : Providers) : Type 0 where
  ticots : is_in_head version Ticots p.ticots ≡ true
  ticotsord : is_in_head version Ticotsord p.ticotsord ≡ true
  ticlts : is_in_head version Ticlts p.ticlts ≡ true

valid_at : (p : Providers) → Valid p → ValidAt p.version p
valid_at p v = record { ticots = v.ticots; ticotsord = v.ticotsord; ticlts = v.ticlts }

pub two_heads : (p q : Providers) (a b : List ℕ) → Valid p → Valid q → head_text p ++ a ≡ head_text q ++ b → TwoHeads p q a b
two_heads p q a b v w t =
    let f = first_same p.version q.version _ _ (sym (head_parts p a) ∙ t ∙ head_parts q b) in
    let w' : ValidAt p.version q = subst (λ (x : Version). ValidAt x q) (sym f.0) (valid_at q w) in
    let g : lines_at p.version p a ≡ lines_at p.version q b = f.1 ∙ ap (λ (x : Version). lines_at x q b) (sym f.0) in
    let x = two_profiles p.version Ticots p.ticots q.ticots _ _ (head_fits p.version Ticots p.ticots v.ticots) (head_fits p.version Ticots q.ticots w'.ticots) g in
    let y = two_profiles p.version Ticotsord p.ticotsord q.ticotsord _ _ (head_fits p.version Ticotsord p.ticotsord v.ticotsord) (head_fits p.version Ticotsord q.ticotsord w'.ticotsord) x.rest in
    let z = two_profiles p.version Ticlts p.ticlts q.ticlts a b (head_fits p.version Ticlts p.ticlts v.ticlts) (head_fits p.version Ticlts q.ticlts w'.ticlts) y.rest in
    record {
      one = ap (λ (u : Version). record { version = u; ticots = p.ticots; ticotsord = p.ticotsord; ticlts = p.ticlts }) f.0
          ∙ ap (λ (u : Profile). record { version = q.version; ticots = u; ticotsord = p.ticotsord; ticlts = p.ticlts }) x.one
          ∙ ap (λ (u : Profile). record { version = q.version; ticots = q.ticots; ticotsord = u; ticlts = p.ticlts }) y.one
          ∙ ap (λ (u : Profile). record { version = q.version; ticots = q.ticots; ticotsord = q.ticotsord; ticlts = u }) z.one;
      rest = z.rest;
    }

-- ---- what the readers of these lines give

no_lf : (l left : List ℕ) → IsLine (ended l ++ left) → ⊥
no_lf [] left h = let c : true ≡ false = h.0 in cc
no_lf (c ∷ cs) left h = no_lf cs left h.1

pub no_line : (version : Version) (prov : Prov) (text : List ℕ) → IsLine text → (p : Profile) (rest : List ℕ) → is_in_head version prov p ≡ true → text ≡ provider_text version prov p ++ rest → ⊥
no_line version prov text h p rest v w =
    let l = provider_is_line version prov p (head_fits version prov p v) in
    no_lf l.line rest (subst IsLine (w ∙ ap (λ (x : List ℕ). x ++ rest) l.whole) h)

pub wrong_line : (version : Version) (prov : Prov) (line rest text : List ℕ) (fail : FieldFail) → IsLine line → text ≡ ended line ++ rest → IsRead (values_of version prov) (profile_in version prov (words_of line)) (Err fail) → ReadsProvider version prov text (Err fail)
wrong_line version prov line rest text Wrong h t e = λ p left v w. provider_not_found version prov line rest text h t e p left (head_fits version prov p v) w
wrong_line version prov line rest text OutOfMemory h t e = tt

pub invalid_line : (version : Version) (prov : Prov) (line rest text : List ℕ) (p : Profile) (b : Bool) → is_told version prov p ≡ true → text ≡ ended line ++ rest → profile_in version prov (words_of line) ≡ Some (values_of version prov p) → b ≡ valid_profile prov p → b ≡ false
    → (q : Profile) (left : List ℕ) → is_in_head version prov q ≡ true → text ≡ provider_text version prov q ++ left → ⊥
invalid_line version prov line rest text p b z c r e f q left v w =
    let h = provider_found version prov line rest text p z c r in
    let two = two_profiles version prov p q rest left h.0 (head_fits version prov q v) (sym h.1 ∙ w) in
    let t : valid_profile prov p ≡ true = ap (valid_profile prov) two.one ∙ (parted version prov q v).0 in
    let c : true ≡ false = sym t ∙ sym e ∙ f in
    cc

pub valid_line : (version : Version) (prov : Prov) (line rest text : List ℕ) (p : Profile) (b : Bool) → is_told version prov p ≡ true → text ≡ ended line ++ rest → profile_in version prov (words_of line) ≡ Some (values_of version prov p) → b ≡ valid_profile prov p → b ≡ true
    → (is_in_head version prov p ≡ true) × (text ≡ provider_text version prov p ++ rest)
valid_line version prov line rest text p b z c r e f = (both version prov p (sym e ∙ f) z, (provider_found version prov line rest text p z c r).1)
