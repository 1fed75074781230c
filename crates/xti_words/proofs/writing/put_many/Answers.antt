use Rattle.std.proofs.Common.{◌≡◌, ℕ, true, List, [], ◌∷◌, ◌++◌, length, take, drop, eqb, Result, Ok, Err, OnErr, sym, ap, refl, subst, ◌∙◌, suc}
use Rattle.std.specs.Io.{StartsWith}
use Rattle.std.specs.List.{flat_map}
use Rattle.std.specs.Result.{OnOk}
use Rattle.std.proofs.Math.Dec.{eqb-suc-zero}
use Rattle.std.proofs.lemmas.Grind.{flat_map-append}
use Rattle.std.proofs.lemmas.List.{append-nil, append_assoc, take-append-drop}
use Rattle.std.proofs.lemmas.Result.{IfOk-from_err}
use Rattle.xti_words.specs.WrittenWords.{hex_pair}
use Rattle.xti_words.proofs.writing.put_many.Goals as goal

-- what starts with a text does so with more after it
starts-all : (xs : List ℕ) → StartsWith xs xs
starts-all [] = refl
starts-all (x ∷ xs) = ap (λ (ys : List ℕ). x ∷ ys) (starts-all xs)

starts-more : (prefix xs ys : List ℕ) → StartsWith xs prefix → StartsWith (xs ++ ys) prefix
starts-more [] xs ys h = refl
starts-more (p ∷ prefix) [] ys h = cc
starts-more (p ∷ prefix) (x ∷ xs) ys h =
    let tail : take (length prefix) xs ≡ prefix = cc in
    let head : x ≡ p = cc in
    λ k. head k ∷ starts-more prefix xs ys tail k

-- the digits of sixteen bytes more are written
sixteen-more : (n : ℕ) (old bytes out rest new pairs sixteen others : List ℕ) → out ++ flat_map hex_pair rest ≡ old ++ flat_map hex_pair bytes → new ≡ out ++ pairs → pairs ≡ flat_map hex_pair sixteen
    → sixteen ≡ take n rest → others ≡ drop n rest → new ++ flat_map hex_pair others ≡ old ++ flat_map hex_pair bytes
sixteen-more n old bytes out rest new pairs sixteen others inv e p s o =
    let whole : sixteen ++ others ≡ rest = (λ k. s k ++ o k) ∙ take-append-drop n rest in
    ap (λ (xs : List ℕ). xs ++ flat_map hex_pair others) (e ∙ ap (λ (xs : List ℕ). out ++ xs) p)
    ∙ (append_assoc out (flat_map hex_pair sixteen) (flat_map hex_pair others)
    ∙ (ap (λ (xs : List ℕ). out ++ xs) (sym (flat_map-append hex_pair sixteen others) ∙ ap (flat_map hex_pair) whole) ∙ inv))

starts-on : (old out new pairs : List ℕ) → new ≡ out ++ pairs → StartsWith out old → StartsWith new old
starts-on old out new pairs e h = subst (λ (xs : List ℕ). StartsWith xs old) (sym e) (starts-more old out pairs h)

starts-as : (old out new : List ℕ) → new ≡ out → StartsWith out old → StartsWith new old
starts-as old out new e h = subst (λ (xs : List ℕ). StartsWith xs old) (sym e) h

never-empty : (n : ℕ) → eqb (suc n) 0 ≡ true → ⊥
never-empty n e = let no = sym (eqb-suc-zero n) ∙ e in cc no

-- no bytes are left
all-written : (old bytes out rest : List ℕ) → out ++ flat_map hex_pair rest ≡ old ++ flat_map hex_pair bytes → eqb (length rest) 0 ≡ true → out ≡ old ++ flat_map hex_pair bytes
all-written old bytes out [] inv e = sym (append-nil out) ∙ inv
all-written old bytes out (x ∷ rest) inv e = absurd (never-empty (length rest) e)

on-err : {T E P : Type 0} (r : Result T E) → P → OnErr r P
on-err (Ok x) p = tt
on-err (Err x) p = p

on-ok-then : {T E P Q : Type 0} (r : Result T E) → (P → Q) → OnOk r P → OnOk r Q
on-ok-then (Ok x) f p = f p
on-ok-then (Err x) f p = tt

on-err-then : {T E P Q : Type 0} (r : Result T E) → (P → Q) → OnErr r P → OnErr r Q
on-err-then (Ok x) f p = tt
on-err-then (Err x) f p = f p

pub returns-in_err-reserve-clause-items : goal.returns-in_err-reserve-clause-items
returns-in_err-reserve-clause-items c = IfOk-from_err _ _ c.from_residual.ensures.0

pub returns-in_err-reserve-clause-kept : goal.returns-in_err-reserve-clause-kept
returns-in_err-reserve-clause-kept c =
    on-err c.from_residual.result (starts-as c.args.out.now.items c.args.out.now.items c.reserve.new.self.items c.in_err-reserve.ensures.items (starts-all c.args.out.now.items))

pub loop-sixteen-init : goal.loop-sixteen-init
loop-sixteen-init c =
    let old = c.args.out.now.items in (
      ap (λ (xs : List ℕ). xs ++ flat_map hex_pair c.args.bytes.now) c.in_ok-reserve.ensures.items,
      starts-as old old c.reserve.new.self.items c.in_ok-reserve.ensures.items (starts-all old),
    )

pub returns-in_err-extend_from_slice-clause-items : goal.returns-in_err-extend_from_slice-clause-items
returns-in_err-extend_from_slice-clause-items c = IfOk-from_err _ _ c.from_residual-in_err-extend_from_slice.ensures.0

pub returns-in_err-extend_from_slice-clause-kept : goal.returns-in_err-extend_from_slice-clause-kept
returns-in_err-extend_from_slice-clause-kept c =
    on-err c.from_residual-in_err-extend_from_slice.result
    (starts-as c.args.out.now.items c.loop-sixteen.out.items c.extend_from_slice.new.self.items c.in_err-extend_from_slice.ensures.items c.loop-sixteen.invariant.1)

pub loop-sixteen-preserved : goal.loop-sixteen-preserved
loop-sixteen-preserved c =
    let e = c.in_ok-extend_from_slice.ensures.items in (
      sixteen-more 16 c.args.out.now.items c.args.bytes.now c.loop-sixteen.out.items c.loop-sixteen.rest.now c.extend_from_slice.new.self.items c.pairs_of.result c.in-Some.sixteen.now
          c.in-Some.others.now c.loop-sixteen.invariant.0 e c.pairs_of.ensures c.in-Some.ensures.cases.0 c.in-Some.ensures.cases.1,
      starts-on c.args.out.now.items c.loop-sixteen.out.items c.extend_from_slice.new.self.items c.pairs_of.result e c.loop-sixteen.invariant.1,
    )

pub returns-then-is_empty-clause-items : goal.returns-then-is_empty-clause-items
returns-then-is_empty-clause-items c =
    all-written c.args.out.now.items c.args.bytes.now c.loop-sixteen.out.items c.loop-sixteen.rest.now c.loop-sixteen.invariant.0 (sym c.is_empty.ensures ∙ c.if-is_empty.true)

pub put_few-requires : goal.put_few-requires
put_few-requires c = c.in_default.ensures.cases

pub returns-clause-items : goal.returns-clause-items
returns-clause-items c = on-ok-then c.put_few.result (λ e. e ∙ c.loop-sixteen.invariant.0) c.put_few.ensures.items

pub returns-clause-kept : goal.returns-clause-kept
returns-clause-kept c =
    on-err-then c.put_few.result (λ e. starts-as c.args.out.now.items c.loop-sixteen.out.items c.put_few.new.out.items e c.loop-sixteen.invariant.1) c.put_few.ensures.err
