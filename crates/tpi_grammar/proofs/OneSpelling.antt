-- A primitive has one encoding, no encoding is a prefix of another, and an encoding is that of one primitive.
use Rattle.std.proofs.Common.{◌≡◌, ◌<◌, ◌+◌, ℕ, List, [], ◌∷◌, ◌++◌, length, length-append, append_assoc, refl, sym, ◌∙◌, ap, arith, subst}
use Rattle.std.specs.Int.{w32, from_be_bytes}
use Rattle.std.specs.List.{AllByRecursion}
use Rattle.std.proofs.lemmas.Nat.{from_be_bytes-to_be_bytes_4}
use Rattle.tpi_grammar.specs.Form.{Form, done, byte, In}
use Rattle.tpi_grammar.specs.Frame.{Row, Slot, upto, part, Value, num, text, table, Filled, IsFilled, Fit, spelling, be, words, parts, offset, head, control_size}
use Rattle.tpi_grammar.proofs.Spellings.{one_row, row_is, table_rises, joined}
use Rattle.tpi_grammar.proofs.Finished.{IsSlot, table_is}

same_head : (p q : ℕ) (xs ys : List ℕ) → p ∷ xs ≡ q ∷ ys → p ≡ q
same_head p q xs ys e = cc

same_rest : (p q : ℕ) (xs ys : List ℕ) → p ∷ xs ≡ q ∷ ys → xs ≡ ys
same_rest p q xs ys e = cc

-- no text of a form begins another
pub no_prefix : (f : Form) (a b x y : List ℕ) → In f a → In f b → a ++ x ≡ b ++ y → a ≡ b
no_prefix done [] [] x y ia ib e = refl
no_prefix done [] (q ∷ b) x y ia ib e = elim ib [ ]
no_prefix done (p ∷ a) b x y ia ib e = elim ia [ ]
no_prefix (byte ok next) [] b x y ia ib e = elim ia [ ]
no_prefix (byte ok next) (p ∷ a) [] x y ia ib e = elim ib [ ]
no_prefix (byte ok next) (p ∷ a) (q ∷ b) x y ia ib e =
    let s : p ≡ q = same_head p q (a ++ x) (b ++ y) e in
    let t = no_prefix (next p) a b x y ia.1 (subst (λ n. In (next n) b) (sym s) ib.1) (same_rest p q (a ++ x) (b ++ y) e) in
    cc

pub split_same : (a b x y : List ℕ) → length a ≡ length b → a ++ x ≡ b ++ y → (a ≡ b) × (x ≡ y)
split_same [] [] x y l e = (refl, e)
split_same [] (q ∷ b) x y l e = absurd (omega (arith, l))
split_same (p ∷ a) [] x y l e = absurd (omega (arith, l))
split_same (p ∷ a) (q ∷ b) x y l e =
    let s : p ≡ q = same_head p q (a ++ x) (b ++ y) e in
    let t = split_same a b x y (omega (arith, l)) (same_rest p q (a ++ x) (b ++ y) e) in
    ((cc), t.1)

be_same : (a b : ℕ) (x y : List ℕ) → a < 4294967296 → b < 4294967296 → be a ++ x ≡ be b ++ y → (a ≡ b) × (x ≡ y)
be_same a b x y la lb e =
    let t = split_same (be a) (be b) x y refl e in
    (sym (from_be_bytes-to_be_bytes_4 a la) ∙ ap (from_be_bytes w32) t.0 ∙ from_be_bytes-to_be_bytes_4 b lb, t.1)

-- the same numbers, and parts of the same lengths
abbrev SameShape : List Value → List Value → Type 0
SameShape [] [] = Unit {0}
SameShape (num a ∷ vs) (num b ∷ ws) = (a ≡ b) × SameShape vs ws
SameShape (text a ∷ vs) (text b ∷ ws) = (length a ≡ length b) × SameShape vs ws
SameShape _ _ = ⊥

shape_same : (ss : List Slot) (vs ws : List Value) (place : ℕ) (x y : List ℕ) → AllByRecursion IsSlot ss → Fit ss vs → Fit ss ws
    → length (parts vs) < 4294967296 → length (parts ws) < 4294967296
    → words place vs ++ x ≡ words place ws ++ y → SameShape vs ws × (x ≡ y)
shape_same [] [] [] place x y small f g lv lw e = (tt, e)
shape_same [] (v ∷ vs) ws place x y small f g lv lw e = elim f [ ]
shape_same [] [] (w ∷ ws) place x y small f g lv lw e = elim g [ ]
shape_same (upto m ∷ ss) [] ws place x y small f g lv lw e = elim f [ ]
shape_same (upto m ∷ ss) (text a ∷ vs) ws place x y small f g lv lw e = elim f [ ]
shape_same (upto m ∷ ss) (num a ∷ vs) [] place x y small f g lv lw e = elim g [ ]
shape_same (upto m ∷ ss) (num a ∷ vs) (text b ∷ ws) place x y small f g lv lw e = elim g [ ]
shape_same (upto m ∷ ss) (num a ∷ vs) (num b ∷ ws) place x y small f g lv lw e =
    let t = be_same a b (words place vs ++ x) (words place ws ++ y) (omega (arith, small.0, f.0)) (omega (arith, small.0, g.0))
    (sym (append_assoc (be a) (words place vs) x) ∙ e ∙ append_assoc (be b) (words place ws) y) in
    let more = shape_same ss vs ws place x y small.1 f.1 g.1 lv lw t.1 in
    ((t.0, more.0), more.1)
shape_same (part ∷ ss) [] ws place x y small f g lv lw e = elim f [ ]
shape_same (part ∷ ss) (num a ∷ vs) ws place x y small f g lv lw e = elim f [ ]
shape_same (part ∷ ss) (text a ∷ vs) [] place x y small f g lv lw e = elim g [ ]
shape_same (part ∷ ss) (text a ∷ vs) (num b ∷ ws) place x y small f g lv lw e = elim g [ ]
shape_same (part ∷ ss) (text a ∷ vs) (text b ∷ ws) place x y small f g lv lw e =
    let sa = length-append a (parts vs) in
    let sb = length-append b (parts ws) in
    let t = be_same (length a) (length b) _ _ (omega (arith, sa, lv)) (omega (arith, sb, lw))
    (sym (three (be (length a)) (be (offset (length a) place)) (words (place + length a) vs) x) ∙ e
    ∙ three (be (length b)) (be (offset (length b) place)) (words (place + length b) ws) y) in
    let o = split_same (be (offset (length a) place)) (be (offset (length b) place)) _ _ refl t.1 in
    let more = shape_same ss vs ws (place + length a) x y small.1 f.1 g.1 (omega (arith, sa, lv)) (omega (arith, sb, lw))
    (subst (λ n. words (place + length a) vs ++ x ≡ words (place + n) ws ++ y) (sym t.0) o.1) in
    ((t.0, more.0), more.1)
  where
    three : (a b c d : List ℕ) → a ++ b ++ c ++ d ≡ a ++ (b ++ (c ++ d))
    three a b c d = simp append_assoc

values_same : (vs ws : List Value) (x y : List ℕ) → SameShape vs ws → parts vs ++ x ≡ parts ws ++ y → (vs ≡ ws) × (x ≡ y)
values_same [] [] x y s e = (refl, e)
values_same [] (w ∷ ws) x y s e = elim s [ ]
values_same (num a ∷ vs) [] x y s e = elim s [ ]
values_same (text a ∷ vs) [] x y s e = elim s [ ]
values_same (num a ∷ vs) (text b ∷ ws) x y s e = elim s [ ]
values_same (text a ∷ vs) (num b ∷ ws) x y s e = elim s [ ]
values_same (num a ∷ vs) (num b ∷ ws) x y s e =
    let h : a ≡ b = s.0 in
    let t = values_same vs ws x y s.1 e in
    let u : vs ≡ ws = t.0 in
    ((cc), t.1)
values_same (text a ∷ vs) (text b ∷ ws) x y s e =
    let p = split_same a b (parts vs ++ x) (parts ws ++ y) s.0 (sym (append_assoc a (parts vs) x) ∙ e ∙ append_assoc b (parts ws) y) in
    let h : a ≡ b = p.0 in
    let t = values_same vs ws x y s.1 p.1 in
    let u : vs ≡ ws = t.0 in
    ((cc), t.1)

abbrev prim : Row → List Value → List ℕ → Filled
prim r v u = record { row = r; values = v; user = u }

made : (r r' : Row) (v v' : List Value) (u u' : List ℕ) → r ≡ r' → v ≡ v' → u ≡ u' → prim r v u ≡ prim r' v' u'
made r r' v v' u u' a b c = rw (a, b, c) refl

-- an encoding is that of one primitive
pub one_filled : (p q : Filled) → IsFilled p → IsFilled q → spelling p ≡ spelling q → p ≡ q
one_filled p q hp hq e =
    let gp = row_is p.row table table_is hp.row in
    let gq = row_is q.row table table_is hq.row in
    let lp : length (parts p.values) < 4294967296 = omega (arith, hp.control) in
    let lq : length (parts q.values) < 4294967296 = omega (arith, hq.control) in
    let c = be_same (control_size p) (control_size q) _ _ (omega (arith, hp.control)) (omega (arith, hq.control))
    (joined (be (control_size p)) (be (length p.user)) (be p.row.number) (words (head p.row.slots) p.values) (parts p.values) p.user ∙ e
    ∙ sym (joined (be (control_size q)) (be (length q.user)) (be q.row.number) (words (head q.row.slots) q.values) (parts q.values) q.user)) in
    let d = be_same (length p.user) (length q.user) _ _ (omega (arith, hp.room, gp.most_data)) (omega (arith, hq.room, gq.most_data)) c.1 in
    let n = be_same p.row.number q.row.number _ _ gp.number gq.number d.1 in
    let r : p.row ≡ q.row = one_row p.row q.row table table_rises hp.row hq.row n.0 in
    let s = shape_same p.row.slots p.values q.values (head p.row.slots) _ _ gp.slots hp.values (subst (λ (x : Row). Fit x.slots q.values) (sym r) hq.values) lp lq
    (subst (λ (x : Row). words (head p.row.slots) p.values ++ (parts p.values ++ p.user) ≡ words (head x.slots) q.values ++ (parts q.values ++ q.user)) (sym r) n.1) in
    let t = values_same p.values q.values p.user q.user s.0 s.1 in
    let v : p.values ≡ q.values = t.0 in
    let u : p.user ≡ q.user = t.1 in
    made p.row q.row p.values q.values p.user q.user r v u
