-- What is read from a frame is what it encodes.
use Rattle.std.proofs.Common.{◌≡◌, ◌≤◌, ◌<◌, ◌+◌, ℕ, suc, zero, Bool, true, false, List, [], ◌∷◌, ◌++◌, length, take, drop, map, length-append, append_assoc, nat_eq, not, cond, refl, sym, ◌∙◌, ap, arith, subst, inl, inr, lit≤}
use Rattle.std.proofs.Math.Seq.{drop-append_seam, take-append_seam}
use Rattle.std.specs.Int.{w32, from_be_bytes}
use Rattle.std.specs.List.{AllByRecursion}
use Rattle.std.specs.Prelude.{Result, Ok, Err, IfOk, OnOk}
use Rattle.std.proofs.lemmas.Nat.{from_be_bytes-to_be_bytes_4}
use Rattle.tpi_grammar.specs.declared.kind.TheConstants.{MOST_DATA}
use Rattle.tpi_grammar.specs.Frame.{AreBytes, Row, Slot, upto, part, Value, num, text, Filled, IsFilled, IsIn, Fit, table, spelling, be, words, parts, offset, head, slots_size, control_size}
use Rattle.tpi_grammar.specs.Kinds.{row_of}
use Rattle.tpi_grammar.specs.Measured.{IsFrame}
use Rattle.tpi_grammar.proofs.Finished.{IsSlot, table_is}
use Rattle.tpi_grammar.proofs.Spellings.{row_is}
use Rattle.tpi_grammar.proofs.OneSpelling.{one_filled}
use Rattle.tpi_grammar.specs.declared.kind.Kind.{Kind}
use Rattle.tpi_grammar.specs.declared.kind.Kind.TheVariants as kind
use Rattle.tpi_prim.specs.declared.primitive.Prim.{Prim}
use Rattle.tpi_prim.specs.declared.primitive.Prim.TheVariants as prim
use Rattle.tpi_prim.specs.Primitive.{user_of, of_kind, flag_value, filled, numbered, kind_of, Spells}
use Rattle.tpi_prim.specs.Fields.{word_in, part_in, user_in, read_as, kind_in, primitive_in, LiesIn}

-- ---- words and parts

pub word_read : (bs front behind : List ℕ) (place n : ℕ) → n < 4294967296 → length front ≡ place → bs ≡ front ++ (be n ++ behind) → word_in bs place ≡ n
unfolding word_in
word_read bs front behind place n small at is =
    let dropped : drop place bs ≡ be n ++ behind = rw (is, ← at) (drop-append_seam front (be n ++ behind)) in
    ap (λ (xs : List ℕ). from_be_bytes w32 (take 4 xs)) dropped ∙ from_be_bytes-to_be_bytes_4 n small

part_read : (bs front bytes behind : List ℕ) (place : ℕ) → word_in bs place ≡ length bytes → length front ≡ 8 + word_in bs (place + 4)
    → bs ≡ front ++ (bytes ++ behind) → part_in bs place ≡ bytes
unfolding part_in
part_read bs front bytes behind place long at is =
    let dropped : drop (8 + word_in bs (place + 4)) bs ≡ bytes ++ behind = rw (← at) (ap (drop (length front)) is ∙ drop-append_seam front (bytes ++ behind)) in
    rw (long, dropped) (take-append_seam bytes behind)

no_part : (bs : List ℕ) (place : ℕ) → word_in bs place ≡ 0 → part_in bs place ≡ []
unfolding part_in
no_part bs place none = rw none refl

none_long : (bytes : List ℕ) → length bytes ≡ 0 → bytes ≡ []
none_long [] e = refl
none_long (b ∷ bs) e = absurd (omega (arith, e))

-- ---- all the values

abbrev values_in : List Slot → ℕ → List ℕ → List Value
values_in [] place bs = []
values_in (upto m ∷ ss) place bs = num (word_in bs place) ∷ values_in ss (place + 4) bs
values_in (part ∷ ss) place bs = text (part_in bs place) ∷ values_in ss (place + 8) bs

length-words : (ss : List Slot) (vs : List Value) (at : ℕ) → Fit ss vs → length (words at vs) ≡ slots_size ss
length-words [] [] at fit = refl
length-words [] (v ∷ vs) at fit = elim fit [ ]
length-words (upto m ∷ ss) [] at fit = elim fit [ ]
length-words (part ∷ ss) [] at fit = elim fit [ ]
length-words (upto m ∷ ss) (text bs ∷ vs) at fit = elim fit [ ]
length-words (part ∷ ss) (num n ∷ vs) at fit = elim fit [ ]
length-words (upto m ∷ ss) (num n ∷ vs) at fit = omega (arith, length-append (be n) (words at vs), length-words ss vs at fit.1)
length-words (part ∷ ss) (text bs ∷ vs) at fit =
    omega (arith, length-append (be (length bs) ++ be (offset (length bs) at)) (words (at + length bs) vs), length-words ss vs (at + length bs) fit.1)

-- the words of the slots stand at `place`, and their parts begin at the control part's place `at`
record Stands (ss : List Slot) (vs : List Value) (place at : ℕ) (bs : List ℕ) : Type 0 where
  front : List ℕ
  middle : List ℕ
  back : List ℕ
  begins : length front ≡ place
  gap : place + slots_size ss + length middle ≡ 8 + at
  small : at + length (parts vs) < 4294967296
  text : bs ≡ front ++ (words at vs ++ (middle ++ (parts vs ++ back)))

after_number : (front number more rest : List ℕ) → front ++ ((number ++ more) ++ rest) ≡ (front ++ number) ++ (more ++ rest)
after_number front number more rest = simp append_assoc

after_part : (front long at more middle bytes others back : List ℕ)
    → front ++ ((long ++ at ++ more) ++ (middle ++ ((bytes ++ others) ++ back))) ≡ (front ++ (long ++ at)) ++ (more ++ ((middle ++ bytes) ++ (others ++ back)))
after_part front long at more middle bytes others back = simp append_assoc

to_offset : (front long at more middle bytes others back : List ℕ)
    → front ++ ((long ++ at ++ more) ++ (middle ++ ((bytes ++ others) ++ back))) ≡ (front ++ long) ++ (at ++ (more ++ (middle ++ ((bytes ++ others) ++ back))))
to_offset front long at more middle bytes others back = simp append_assoc

to_bytes : (front long at more middle bytes others back : List ℕ)
    → front ++ ((long ++ at ++ more) ++ (middle ++ ((bytes ++ others) ++ back))) ≡ (front ++ (long ++ at ++ more) ++ middle) ++ (bytes ++ (others ++ back))
to_bytes front long at more middle bytes others back = simp append_assoc

next_number : (m : ℕ) (ss : List Slot) (n : ℕ) (vs : List Value) (place at : ℕ) (bs : List ℕ)
    → Stands (upto m ∷ ss) (num n ∷ vs) place at bs → Stands ss vs (place + 4) at bs
next_number m ss n vs place at bs s = record {
  front = s.front ++ be n;
  middle = s.middle;
  back = s.back;
  begins = omega (arith, length-append s.front (be n), s.begins);
  gap = omega (arith, s.gap);
  small = s.small;
  text = s.text ∙ after_number s.front (be n) (words at vs) (s.middle ++ (parts vs ++ s.back));
}

next_part : (ss : List Slot) (bytes : List ℕ) (vs : List Value) (place at : ℕ) (bs : List ℕ)
    → Stands (part ∷ ss) (text bytes ∷ vs) place at bs → Stands ss vs (place + 8) (at + length bytes) bs
next_part ss bytes vs place at bs s =
    let n : ℕ = length bytes in
    record {
      front = s.front ++ (be n ++ be (offset n at));
      middle = s.middle ++ bytes;
      back = s.back;
      begins = omega (arith, length-append s.front (be n ++ be (offset n at)), s.begins);
      gap = omega (arith, s.gap, length-append s.middle bytes);
      small = omega (arith, s.small, length-append bytes (parts vs));
      text = s.text ∙ after_part s.front (be n) (be (offset n at)) (words (at + n) vs) s.middle bytes (parts vs) s.back;
    }

first_number : (m : ℕ) (ss : List Slot) (n : ℕ) (vs : List Value) (place at : ℕ) (bs : List ℕ) → n < 4294967296
    → Stands (upto m ∷ ss) (num n ∷ vs) place at bs → word_in bs place ≡ n
first_number m ss n vs place at bs small s =
    word_read bs s.front _ place n small s.begins (s.text ∙ ap (λ (xs : List ℕ). s.front ++ xs) (append_assoc (be n) (words at vs) (s.middle ++ (parts vs ++ s.back))))

offset_small : (n at : ℕ) → at < 4294967296 → offset n at < 4294967296
offset_small n at lt = go (nat_eq n 0)
  where
    go : (t : Bool) → cond t 0 at < 4294967296
    go true = omega arith
    go false = lt

record PartStands (bytes : List ℕ) (place : ℕ) (bs : List ℕ) : Type 0 where
  read : part_in bs place ≡ bytes
  within : 8 + word_in bs (place + 4) + word_in bs place ≤ length bs

first_part : (ss : List Slot) (bytes : List ℕ) (vs : List Value) (place at : ℕ) (bs : List ℕ) → Fit ss vs
    → Stands (part ∷ ss) (text bytes ∷ vs) place at bs → PartStands bytes place bs
first_part ss bytes vs place at bs fit s =
    let n : ℕ = length bytes in
    let o : ℕ = offset n at in
    let sum = length-append bytes (parts vs) in
    let long : word_in bs place ≡ n = word_read bs s.front _ place n (omega (arith, s.small, sum)) s.begins
    (s.text ∙ at_length s.front (be n) (be o) (words (at + n) vs) (s.middle ++ ((bytes ++ parts vs) ++ s.back))) in
    let where_to : word_in bs (place + 4) ≡ o = word_read bs (s.front ++ be n) _ (place + 4) o (offset_small n at (omega (arith, s.small)))
    (omega (arith, length-append s.front (be n), s.begins))
    (s.text ∙ to_offset s.front (be n) (be o) (words (at + n) vs) s.middle bytes (parts vs) s.back) in
    let ahead : List ℕ = s.front ++ (be n ++ be o ++ words (at + n) vs) ++ s.middle in
    let is : bs ≡ ahead ++ (bytes ++ (parts vs ++ s.back)) = s.text ∙ to_bytes s.front (be n) (be o) (words (at + n) vs) s.middle bytes (parts vs) s.back in
    let all : length bs ≡ length ahead + (n + length (parts vs ++ s.back)) = ap length is ∙ length-append ahead (bytes ++ (parts vs ++ s.back))
    ∙ ap (λ (k : ℕ). length ahead + k) (length-append bytes (parts vs ++ s.back)) in
    let far : length ahead ≡ 8 + at = omega (
      arith,
      length-append (s.front ++ (be n ++ be o ++ words (at + n) vs)) s.middle,
      length-append s.front (be n ++ be o ++ words (at + n) vs),
      length-append (be n ++ be o) (words (at + n) vs),
      length-words ss vs (at + n) fit,
      s.begins,
      s.gap,
    ) in
    go (nat_eq n 0) refl long where_to ahead _ is all far
  where
    at_length : (front long at more rest : List ℕ) → front ++ ((long ++ at ++ more) ++ rest) ≡ front ++ (long ++ (at ++ (more ++ rest)))
    at_length front long at more rest = simp append_assoc

    go : (t : Bool) → nat_eq (length bytes) 0 ≡ t → word_in bs place ≡ length bytes → word_in bs (place + 4) ≡ cond t 0 at
        → (ahead behind : List ℕ) → bs ≡ ahead ++ (bytes ++ behind) → length bs ≡ length ahead + (length bytes + length behind) → length ahead ≡ 8 + at
        → PartStands bytes place bs
    go true none long where_to ahead behind is all far =
        let zero_long : length bytes ≡ 0 = grind (arith, none) in
        record {
          read = no_part bs place (long ∙ zero_long) ∙ sym (none_long bytes zero_long);
          within = omega (arith, long, where_to, zero_long, all, far);
        }
    go false some long where_to ahead behind is all far = record {
      read = part_read bs ahead bytes behind place long (omega (arith, far, where_to)) is;
      within = omega (arith, long, where_to, all, far);
    }

record AreRead (ss : List Slot) (vs : List Value) (place : ℕ) (bs : List ℕ) : Type 0 where
  values : values_in ss place bs ≡ vs
  lies : LiesIn ss place bs

all_read : (ss : List Slot) (vs : List Value) (place at : ℕ) (bs : List ℕ) → AllByRecursion IsSlot ss → Fit ss vs → Stands ss vs place at bs → AreRead ss vs place bs
all_read [] [] place at bs small fit s =
    record { values = refl; lies = omega (arith, ap length s.text, length-append s.front (words at [] ++ (s.middle ++ (parts [] ++ s.back))), s.begins) }
all_read [] (v ∷ vs) place at bs small fit s = elim fit [ ]
all_read (upto m ∷ ss) [] place at bs small fit s = elim fit [ ]
all_read (part ∷ ss) [] place at bs small fit s = elim fit [ ]
all_read (upto m ∷ ss) (text b ∷ vs) place at bs small fit s = elim fit [ ]
all_read (part ∷ ss) (num n ∷ vs) place at bs small fit s = elim fit [ ]
all_read (upto m ∷ ss) (num n ∷ vs) place at bs small fit s =
    let first = first_number m ss n vs place at bs (omega (arith, small.0, fit.0)) s in
    let more = all_read ss vs (place + 4) at bs small.1 fit.1 (next_number m ss n vs place at bs s) in
    record { values = rw (first, more.values) refl; lies = (omega (arith, first, fit.0), more.lies) }
all_read (part ∷ ss) (text bytes ∷ vs) place at bs small fit s =
    let first = first_part ss bytes vs place at bs fit.1 s in
    let more = all_read ss vs (place + 8) (at + length bytes) bs small.1 fit.1 (next_part ss bytes vs place at bs s) in
    record { values = rw (first.read, more.values) refl; lies = (first.within, more.lies) }

-- ---- kinds

numbered-number : (k : Kind) → numbered (row_of k).number ≡ k
numbered-number kind.T_CONN_REQ = refl
numbered-number _ = refl

-- a frame of this kind is read so
pub record IsRead (k : Kind) (vs : List Value) (u bs : List ℕ) : Type 0 where
  pub prim_type : (row_of k).number ≡ word_in bs 8
  pub values : values_in (row_of k).slots 12 bs ≡ vs
  pub lies : LiesIn (row_of k).slots 12 bs
  pub user : user_in bs ≡ u
  pub long : 8 + word_in bs 0 ≤ length bs

regrouped : (a b c d e f : List ℕ) → a ++ b ++ c ++ d ++ e ++ f ≡ a ++ (b ++ (c ++ (d ++ (e ++ f))))
regrouped a b c d e f = simp append_assoc

third : (a b c rest : List ℕ) → a ++ (b ++ (c ++ rest)) ≡ (a ++ b) ++ (c ++ rest)
third a b c rest = simp append_assoc

behind_head : (a b c d e f : List ℕ) → a ++ (b ++ (c ++ (d ++ (e ++ f)))) ≡ (a ++ b ++ c) ++ (d ++ ([] ++ (e ++ f)))
behind_head a b c d e f = simp append_assoc

behind_control : (a b c d e f : List ℕ) → a ++ (b ++ (c ++ (d ++ (e ++ f)))) ≡ (a ++ b ++ c ++ d ++ e) ++ f
behind_control a b c d e f = simp append_assoc

user_read : (bs front user : List ℕ) → length front ≡ 8 + word_in bs 0 → bs ≡ front ++ user → user_in bs ≡ user
unfolding user_in
user_read bs front user at is = rw (← at) (ap (drop (length front)) is ∙ drop-append_seam front user)

pub kind_read : (k : Kind) (vs : List Value) (user bs : List ℕ) → IsFilled (of_kind k vs user) → bs ≡ spelling (of_kind k vs user) → IsRead k vs user bs
kind_read k vs user bs good is =
    let ss : List Slot = (row_of k).slots in
    let sound = row_is (row_of k) table table_is good.row in
    let c : ℕ = control_size (of_kind k vs user) in
    let d : ℕ = length user in
    let n : ℕ = (row_of k).number in
    let ws : List ℕ = words (head ss) vs in
    let text : bs ≡ be c ++ (be d ++ (be n ++ (ws ++ (parts vs ++ user)))) = is ∙ regrouped (be c) (be d) (be n) ws (parts vs) user in
    let size : word_in bs 0 ≡ c = word_read bs [] _ 0 c (omega (arith, good.control)) refl text in
    let number : word_in bs 8 ≡ n = word_read bs (be c ++ be d) _ 8 n sound.number refl (text ∙ third (be c) (be d) (be n) (ws ++ (parts vs ++ user))) in
    let read = all_read ss vs 12 (head ss) bs sound.slots good.values (record {
      front = be c ++ be d ++ be n;
      middle = [];
      back = user;
      begins = refl;
      gap = omega arith;
      small = omega (arith, good.control);
      text = text ∙ behind_head (be c) (be d) (be n) ws (parts vs) user;
    }) in
    let ahead : List ℕ = be c ++ be d ++ be n ++ ws ++ parts vs in
    let far : length ahead ≡ 8 + word_in bs 0 = omega (arith, size, length-append (be c ++ be d ++ be n ++ ws) (parts vs), length-append (be c ++ be d ++ be n) ws, length-words ss vs (head ss) good.values) in
    let split : bs ≡ ahead ++ user = text ∙ behind_control (be c) (be d) (be n) ws (parts vs) user in
    record {
      prim_type = sym number;
      values = read.values;
      lies = read.lies;
      user = user_read bs ahead user far split;
      long = omega (arith, far, ap length split, length-append ahead user);
    }

-- ---- the primitive

flag_small : (n : ℕ) → n ≤ 1 → flag_value (not (nat_eq n 0)) ≡ num n
flag_small zero le = refl
flag_small (suc zero) le = refl
flag_small (suc (suc n)) le = absurd (omega (arith, le))

made : (k : Kind) (vs vs' : List Value) (u u' : List ℕ) → vs ≡ vs' → u ≡ u' → of_kind k vs u ≡ of_kind k vs' u'
made k vs vs' u u' a b = rw (a, b) refl

-- with no place for user data there are none
no_data : (k : Kind) (vs vs' : List Value) (u : List ℕ) → (row_of k).most_data ≡ 0 → length u ≤ (row_of k).most_data → vs ≡ vs' → of_kind k vs [] ≡ of_kind k vs' u
no_data k vs vs' u none room a = made k vs vs' [] u a (sym (none_long u (omega (arith, none, room))))

flagged : (k : Kind) (n : ℕ) (vs : List Value) (u u' : List ℕ) → n ≤ 1 → num n ∷ [] ≡ vs → u ≡ u' → of_kind k (flag_value (not (nat_eq n 0)) ∷ []) u ≡ of_kind k vs u'
flagged k n vs u u' small a b = made k _ vs u u' (ap (λ v. v ∷ []) (flag_small n small) ∙ a) b

pub filled-read_as : (k : Kind) (vs : List Value) (u bs : List ℕ) → length u ≤ (row_of k).most_data → IsRead k vs u bs → filled (read_as k bs) ≡ of_kind k vs u
filled-read_as kind.T_DATA_REQ vs u bs room r = flagged kind.T_DATA_REQ (word_in bs 12) vs _ u r.lies.0 r.values r.user
filled-read_as kind.T_EXDATA_REQ vs u bs room r = flagged kind.T_EXDATA_REQ (word_in bs 12) vs _ u r.lies.0 r.values r.user
filled-read_as kind.T_DATA_IND vs u bs room r = flagged kind.T_DATA_IND (word_in bs 12) vs _ u r.lies.0 r.values r.user
filled-read_as kind.T_EXDATA_IND vs u bs room r = flagged kind.T_EXDATA_IND (word_in bs 12) vs _ u r.lies.0 r.values r.user
filled-read_as kind.T_BIND_REQ vs u bs room r = no_data kind.T_BIND_REQ _ vs u refl room r.values
filled-read_as kind.T_UNBIND_REQ vs u bs room r = no_data kind.T_UNBIND_REQ _ vs u refl room r.values
filled-read_as kind.T_BIND_ACK vs u bs room r = no_data kind.T_BIND_ACK _ vs u refl room r.values
filled-read_as kind.T_ERROR_ACK vs u bs room r = no_data kind.T_ERROR_ACK _ vs u refl room r.values
filled-read_as kind.T_OK_ACK vs u bs room r = no_data kind.T_OK_ACK _ vs u refl room r.values
filled-read_as kind.T_UDERROR_IND vs u bs room r = no_data kind.T_UDERROR_IND _ vs u refl room r.values
filled-read_as k vs u bs room r = made k _ vs _ u r.values r.user

all_kinds : List Kind
all_kinds = kind.T_CONN_REQ ∷ kind.T_CONN_RES ∷ kind.T_DISCON_REQ ∷ kind.T_DATA_REQ ∷ kind.T_EXDATA_REQ ∷ kind.T_BIND_REQ
    ∷ kind.T_UNBIND_REQ ∷ kind.T_UNITDATA_REQ ∷ kind.T_ORDREL_REQ ∷ kind.T_CONN_IND ∷ kind.T_CONN_CON ∷ kind.T_DISCON_IND
    ∷ kind.T_DATA_IND ∷ kind.T_EXDATA_IND ∷ kind.T_BIND_ACK ∷ kind.T_ERROR_ACK ∷ kind.T_OK_ACK ∷ kind.T_UNITDATA_IND
    ∷ kind.T_UDERROR_IND ∷ kind.T_ORDREL_IND ∷ []

all_rows : table ≡ map row_of all_kinds
unfolding table all_kinds
all_rows = refl

row_kind : (r : Row) (ks : List Kind) → IsIn r (map row_of ks) → (k : Kind) × (row_of k ≡ r)
row_kind r [] i = elim i [ ]
row_kind r (k ∷ ks) (inl e) = (k, e)
row_kind r (k ∷ ks) (inr i) = row_kind r ks i

-- what a frame is
pub record IsSpelled (bs : List ℕ) : Type 0 where
  pub kind : Kind
  pub values : List Value
  pub user : List ℕ
  pub good : IsFilled (of_kind kind values user)
  pub text : bs ≡ spelling (of_kind kind values user)
  pub read : IsRead kind values user bs

pub is_spelled : (bs : List ℕ) → IsFrame bs → IsSpelled bs
is_spelled bs f =
    let r : Row = f.0.row in
    let k = row_kind r all_kinds (subst (λ (rs : List Row). IsIn r rs) all_rows f.1.row) in
    let same : f.0 ≡ of_kind k.0 f.0.values f.0.user = ap (λ (x : Row). record { row = x; values = f.0.values; user = f.0.user }) (sym k.1) in
    let good = subst IsFilled same f.1 in
    let text = f.2 ∙ ap spelling same in
    record { kind = k.0; values = f.0.values; user = f.0.user; good = good; text = text; read = kind_read k.0 f.0.values f.0.user bs good text }

pub kind_found : (bs : List ℕ) (k : Kind) (n : ℕ) → (row_of k).number ≡ n → n ≡ word_in bs 8 → k ≡ kind_in bs
unfolding kind_in
kind_found bs k n a b = sym (numbered-number k) ∙ ap numbered (a ∙ b)

pub kind_is : (bs : List ℕ) (f : IsSpelled bs) → kind_in bs ≡ f.kind
kind_is bs f = sym (kind_found bs f.kind (word_in bs 8) f.read.prim_type refl)

pub primitive_is : (bs : List ℕ) (f : IsSpelled bs) → filled (primitive_in bs) ≡ of_kind f.kind f.values f.user
unfolding primitive_in
primitive_is bs f = rw (kind_is bs f) (filled-read_as f.kind f.values f.user bs f.good.room f.read)

-- PRIM_type of a frame is the number of a kind
pub has_kind : (bs : List ℕ) (n : ℕ) → IsFrame bs → n ≡ word_in bs 8 → ((k : Kind) → (row_of k).number ≡ n → ⊥) → ⊥
has_kind bs n frame is none = let f = is_spelled bs frame in none f.kind (f.read.prim_type ∙ sym is)

pub frame_lies : (bs : List ℕ) → IsFrame bs → LiesIn (row_of (kind_in bs)).slots 12 bs
frame_lies bs frame = let f = is_spelled bs frame in rw (kind_is bs f) f.read.lies

pub frame_long : (bs : List ℕ) → IsFrame bs → 8 + word_in bs 0 ≤ length bs
frame_long bs frame = (is_spelled bs frame).read.long

-- a frame is that of its primitive
pub spelled_by : (bs : List ℕ) → IsFrame bs → Spells (primitive_in bs) bs
spelled_by bs frame =
    let f = is_spelled bs frame in
    let same = primitive_is bs f in
    record { good = subst IsFilled (sym same) f.good; text = f.text ∙ ap spelling (sym same) }

pub each_filled : (f : Filled) → IsFilled f → (p : Prim) × (filled p ≡ f)
each_filled f good =
    let bs : List ℕ = spelling f in
    let frame : IsFrame bs = (f, good, refl) in
    let read = spelled_by bs frame in
    (primitive_in bs, one_filled (filled (primitive_in bs)) f read.good good (sym read.text))

pub user_is : (bs : List ℕ) → IsFrame bs → user_of (primitive_in bs) ≡ user_in bs
user_is bs frame = let f = is_spelled bs frame in ap (λ (x : Filled). x.user) (primitive_is bs f) ∙ sym f.read.user

most_of : (k : Kind) → (row_of k).most_data ≤ MOST_DATA
most_of kind.T_CONN_REQ = lit≤ tt
most_of _ = lit≤ tt

pub user_bytes : (f : List ℕ) → IsFrame f → AreBytes (user_of (primitive_in f))
user_bytes f frame = (spelled_by f frame).good.user

pub user_most : (f : List ℕ) → IsFrame f → length (user_of (primitive_in f)) ≤ MOST_DATA
user_most f frame =
    let s = is_spelled f frame in
    let room : length (filled (primitive_in f)).user ≤ (filled (primitive_in f)).row.most_data = (spelled_by f frame).good.room in
    let row : (filled (primitive_in f)).row.most_data ≡ (row_of s.kind).most_data = ap (λ g. g.row.most_data) (primitive_is f s) in
    omega (arith, room, row, most_of s.kind)

pub kind_of-primitive_in : (bs : List ℕ) → kind_of (primitive_in bs) ≡ kind_in bs
unfolding primitive_in
kind_of-primitive_in bs = by_kind (kind_in bs) bs
  where
    by_kind : (k : Kind) (bs : List ℕ) → kind_of (read_as k bs) ≡ k
    by_kind kind.T_CONN_REQ bs = refl
    by_kind _ bs = refl

-- ---- reading a primitive back

same_flag : (n : ℕ) (more : Bool) (vs : List Value) → num n ∷ vs ≡ flag_value more ∷ vs → not (nat_eq n 0) ≡ more
same_flag n true vs e = let is : n ≡ 1 = cc in rw is refl
same_flag n false vs e = let is : n ≡ 0 = cc in rw is refl

read_back : (p : Prim) (bs : List ℕ) → IsRead (kind_of p) (filled p).values (filled p).user bs → read_as (kind_of p) bs ≡ p
read_back (prim.T_DATA_REQ more user) bs r = let m = same_flag (word_in bs 12) more [] r.values in let u = r.user in cc
read_back (prim.T_EXDATA_REQ more user) bs r = let m = same_flag (word_in bs 12) more [] r.values in let u = r.user in cc
read_back (prim.T_DATA_IND more user) bs r = let m = same_flag (word_in bs 12) more [] r.values in let u = r.user in cc
read_back (prim.T_EXDATA_IND more user) bs r = let m = same_flag (word_in bs 12) more [] r.values in let u = r.user in cc
read_back p bs r = let v = r.values in let u = r.user in cc

pub of_its_kind : (p : Prim) → filled p ≡ of_kind (kind_of p) (filled p).values (filled p).user
of_its_kind prim.T_UNBIND_REQ = refl
of_its_kind _ = refl

-- what encodes the row that a primitive fills in encodes the primitive
pub by_row : (p : Prim) (f : Filled) (bs : List ℕ) → f ≡ filled p → IsFilled f → bs ≡ spelling f → Spells p bs
by_row p f bs same good spelled = record { good = subst IsFilled same good; text = spelled ∙ ap spelling same }

pub reads_back : (p : Prim) (bs : List ℕ) → Spells p bs → primitive_in bs ≡ p
unfolding primitive_in
reads_back p bs s =
    let own = of_its_kind p in
    let read = kind_read (kind_of p) (filled p).values (filled p).user bs (subst IsFilled own s.good) (s.text ∙ ap spelling own) in
    rw (← kind_found bs (kind_of p) (word_in bs 8) read.prim_type refl) (read_back p bs read)

-- what is encoded by the row that a primitive fills in is read as the primitive
pub read_by_row : {E : Type 0} (p : Prim) (f : Filled) (r : Result (List ℕ) E) → f ≡ filled p → OnOk r (IsFilled f) → IfOk r (λ bs. bs ≡ spelling f)
    → IfOk r (λ bs. primitive_in bs ≡ p)
read_by_row p f (Ok bs) same good spelled = reads_back p bs (by_row p f bs same good spelled)
read_by_row p f (Err e) same good spelled = tt
