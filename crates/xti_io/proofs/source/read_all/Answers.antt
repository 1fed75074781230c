use Rattle.std.proofs.Common.{◌≡◌, ℕ, zero, suc, ◌+◌, ◌-◌, ◌<◌, ◌≤◌, min, false, List, [], ◌++◌, length, take, Option, None, Some, Result, Ok, Err, if◌then◌else◌, length-append, sym, refl, subst, ◌∙◌, arith}
use Rattle.std.specs.Result.{IsErrOf, is_err, is_ok}
use Rattle.std.proofs.lemmas.List.{length-take}
use Rattle.xti_io.specs.declared.source.ReadEnd.{ReadEnd}
use Rattle.xti_io.specs.declared.source.ReadEnd.TheVariants.{Fault, OutOfMemory, TooLong}
use Rattle.xti_io.specs.Faults.{Rose}
use Rattle.xti_io.specs.Source.{Gives}
use Rattle.xti_io.proofs.Pieces.{GivesAll-from, Gives-then}
use Rattle.xti_io.proofs.source.read_all.Goals as goal

-- the ends differ
no-error : {T E : Type 0} (x : T) (e : E) → IsErrOf (Ok x) e → ⊥
no-error x e h = cc

fault-is-not-long : {T : Type 0} (r : Result T ReadEnd) → r ≡ Err Fault → IsErrOf r TooLong → ⊥
fault-is-not-long r f h = let no = sym f ∙ h in cc no

fault-is-not-memory : {T : Type 0} (r : Result T ReadEnd) → r ≡ Err Fault → IsErrOf r OutOfMemory → ⊥
fault-is-not-memory r f h = let no = sym f ∙ h in cc no

memory-is-not-long : {T : Type 0} (r : Result T ReadEnd) → r ≡ Err OutOfMemory → IsErrOf r TooLong → ⊥
memory-is-not-long r f h = let no = sym f ∙ h in cc no

memory-is-not-fault : {T : Type 0} (r : Result T ReadEnd) → r ≡ Err OutOfMemory → IsErrOf r Fault → ⊥
memory-is-not-fault r f h = let no = sym f ∙ h in cc no

long-is-not-memory : {T : Type 0} (r : Result T ReadEnd) → r ≡ Err TooLong → IsErrOf r OutOfMemory → ⊥
long-is-not-memory r f h = let no = sym f ∙ h in cc no

long-is-not-fault : {T : Type 0} (r : Result T ReadEnd) → r ≡ Err TooLong → IsErrOf r Fault → ⊥
long-is-not-fault r f h = let no = sym f ∙ h in cc no

-- faults do not become fewer
later : (a b n : ℕ) → a ≤ b → b ≤ n → a ≤ n
later a b n h k = omega (arith, h, k)

rose-later : (a b n : ℕ) → a ≤ b → Rose b n → Rose a n
rose-later a b n h r = omega (arith, h, r)

-- nothing was taken yet
gives-none : (a : Option (List ℕ)) → Gives a a []
gives-none None = tt
gives-none (Some bytes) = (bytes, refl, refl)

-- the piece is added
added : {T E : Type 0} (r : Result T E) (all piece new : List ℕ) → false ≡ is_err r → new ≡ (if is_ok r then all ++ piece else all) → new ≡ all ++ piece
added (Ok x) all piece new h e = e
added (Err x) all piece new h e = cc

above-none : (n : ℕ) → (n ≡ 0 → ⊥) → 0 < n
above-none zero h = absurd (h refl)
above-none (suc n) h = omega arith

-- the bytes stay within the limit, but for one, and come closer to it
within : (all piece buf : List ℕ) (limit l want count : ℕ) → count ≤ length piece → length piece ≡ length (take (want + 1) buf) → want ≡ min (limit - l) 16383 → l ≡ length all → l ≤ limit
    → length (all ++ take count piece) ≤ limit + 1
within all piece buf limit l want count c p w e h = simp (length-append, length-take) (omega (arith, c, simp length-take at p, w, e, h))

closer : (all piece : List ℕ) (limit count : ℕ) → count ≤ length piece → length all ≤ limit → 0 < count → limit + 1 - length (all ++ take count piece) < limit + 1 - length all
closer all piece limit count c h p = simp (length-append, length-take) (omega (arith, c, h, p))

some-there : (all piece : List ℕ) (count : ℕ) → count ≤ length piece → 0 < count → 0 < length (all ++ take count piece)
some-there all piece count c p = simp (length-append, length-take) (omega (arith, c, p))

-- what is wanted has its place in the buffer
want-fits : (buf : List ℕ) (limit l want : ℕ) → want ≡ min (limit - l) 16383 → length buf ≡ 16384 → want + 1 ≤ length buf
want-fits buf limit l want w e = omega (arith, w, e)

all-taken : (xs : List ℕ) (n : ℕ) → n ≤ length xs → n ≡ length (take n xs)
all-taken xs n h = simp length-take (omega (arith, h))

some-space : (buf : List ℕ) (want : ℕ) → want + 1 ≤ length buf → 0 < length (take (want + 1) buf)
some-space buf want h = simp length-take (omega (arith, h))

at-most : (n limit l : ℕ) → l ≤ limit → l ≡ n → n ≤ limit
at-most n limit l h e = omega (arith, h, e)

over-by-one : (n limit l : ℕ) → n ≤ limit + 1 → limit < l → l ≡ n → n ≡ limit + 1
over-by-one n limit l b h e = omega (arith, b, h, e)

pub returns-in-Ok-eq0-clause-all : goal.returns-in-Ok-eq0-clause-all
returns-in-Ok-eq0-clause-all g c =
    rw c.from_vec.ensures (GivesAll-from _ _ _ _ _ _ c.in-Ok-eq0.field-0-test c.loop-buf.invariant.took c.in-Ok-eq0.ensures.bytes.1 c.in-Ok-eq0.ensures.bytes.2)

pub returns-then-is_err-clause-front : goal.returns-then-is_err-clause-front
returns-then-is_err-clause-front g c = (
  c.loop-buf.all.items ++ take c.in-Ok.count c.read.new.buf,
  within c.loop-buf.all.items c.read.new.buf c.loop-buf.buf c.args.limit c.len-in-loop-buf.result c.min-want.result c.in-Ok.count c.in-Ok.ensures.bytes.0 c.read.auto.buf c.min-want.ensures
      (c.len-in-loop-buf.ensures ∙ c.loop-buf.all.ok.0) (at-most _ _ _ c.loop-buf-test.true (c.len.ensures ∙ sym c.len-in-loop-buf.ensures)),
  Gives-then _ _ _ _ _ c.loop-buf.invariant.took c.in-Ok.ensures.bytes.1,
)

pub returns-then-is_err-clause-memory : goal.returns-then-is_err-clause-memory
returns-then-is_err-clause-memory g c out = (
  c.loop-buf.all.items ++ take c.in-Ok.count c.read.new.buf,
  some-there c.loop-buf.all.items c.read.new.buf c.in-Ok.count c.in-Ok.ensures.bytes.0 (above-none c.in-Ok.count c.in-Ok.count-test.1),
  Gives-then _ _ _ _ _ c.loop-buf.invariant.took c.in-Ok.ensures.bytes.1,
)

pub overflow_sub-limit : goal.overflow_sub-limit
overflow_sub-limit g c = at-most _ _ _ c.loop-buf-test.true (c.len.ensures ∙ sym c.len-in-loop-buf.ensures)

pub slice_bounds-buf-end : goal.slice_bounds-buf-end
slice_bounds-buf-end g c = want-fits c.loop-buf.buf c.args.limit c.len-in-loop-buf.result c.min-want.result c.min-want.ensures c.min-want.array_long

pub slice_bounds-piece-end : goal.slice_bounds-piece-end
slice_bounds-piece-end g c =
    all-taken c.loop-buf.buf (c.min-want.result + 1) (want-fits c.loop-buf.buf c.args.limit c.len-in-loop-buf.result c.min-want.result c.min-want.ensures c.min-want.array_long)

pub read-requires : goal.read-requires
read-requires g c =
    some-space c.loop-buf.buf c.min-want.result (want-fits c.loop-buf.buf c.args.limit c.len-in-loop-buf.result c.min-want.result c.min-want.ensures c.min-want.array_long)

pub slice_bounds-extend_from_slice-end : goal.slice_bounds-extend_from_slice-end
slice_bounds-extend_from_slice-end g c = all-taken c.read.new.buf c.in-Ok.count c.in-Ok.ensures.bytes.0

pub loop-buf-init : goal.loop-buf-init
loop-buf-init g c = record {
  bound = subst (λ (xs : List ℕ). length xs ≤ c.args.limit + 1) (sym c.new-all.ensures.items) (omega arith);
  took = subst (λ (xs : List ℕ). Gives (g.R.Source.left c.args.src.now) (g.R.Source.left c.args.src.now) xs) (sym c.new-all.ensures.items) (gives-none (g.R.Source.left c.args.src.now));
  later = omega arith;
}

pub loop-buf-preserved : goal.loop-buf-preserved
loop-buf-preserved g c =
    let new = added c.extend_from_slice.result c.loop-buf.all.items (take c.in-Ok.count c.read.new.buf) c.extend_from_slice.new.self.items c.if-is_err.ensures.value c.extend_from_slice.ensures.items in
    record {
      bound = subst (λ (xs : List ℕ). length xs ≤ c.args.limit + 1) (sym new)
          (within c.loop-buf.all.items c.read.new.buf c.loop-buf.buf c.args.limit c.len-in-loop-buf.result c.min-want.result c.in-Ok.count c.in-Ok.ensures.bytes.0 c.read.auto.buf c.min-want.ensures
          (c.len-in-loop-buf.ensures ∙ c.loop-buf.all.ok.0) (at-most _ _ _ c.loop-buf-test.true (c.len.ensures ∙ sym c.len-in-loop-buf.ensures)));
      took = subst (λ (xs : List ℕ). Gives (g.R.Source.left c.args.src.now) (g.R.Source.left c.read.new.self) xs) (sym new)
          (Gives-then _ _ _ _ _ c.loop-buf.invariant.took c.in-Ok.ensures.bytes.1);
      later = later _ _ _ c.loop-buf.invariant.later c.in-Ok.ensures.cause.later;
    }

pub loop-buf-smaller : goal.loop-buf-smaller
loop-buf-smaller g c =
    let new = added c.extend_from_slice.result c.loop-buf.all.items (take c.in-Ok.count c.read.new.buf) c.extend_from_slice.new.self.items c.if-is_err.ensures.value c.extend_from_slice.ensures.items in
    subst (λ (xs : List ℕ). c.args.limit + 1 - length xs < c.args.limit + 1 - length c.loop-buf.all.items) (sym new)
    (closer c.loop-buf.all.items c.read.new.buf c.args.limit c.in-Ok.count c.in-Ok.ensures.bytes.0 (at-most _ _ _ c.loop-buf-test.true (c.len.ensures ∙ c.loop-buf.all.ok.0)) (above-none c.in-Ok.count c.in-Ok.count-test.1))

pub returns-in-Err-clause-too_long : goal.returns-in-Err-clause-too_long
returns-in-Err-clause-too_long g c = λ e. absurd (fault-is-not-long _ refl e)

pub returns-in-Err-clause-memory : goal.returns-in-Err-clause-memory
returns-in-Err-clause-memory g c = λ e. absurd (fault-is-not-memory _ refl e)

pub returns-in-Err-clause-fault : goal.returns-in-Err-clause-fault
returns-in-Err-clause-fault g c = λ e. rose-later _ _ _ c.loop-buf.invariant.later c.in-Err.ensures.cause.failed

pub returns-in-Err-clause-front : goal.returns-in-Err-clause-front
returns-in-Err-clause-front g c = (
  c.loop-buf.all.items,
  c.loop-buf.invariant.bound,
  subst (λ (now : Option (List ℕ)). Gives (g.R.Source.left c.args.src.now) now c.loop-buf.all.items) (sym c.in-Err.ensures.bytes) c.loop-buf.invariant.took,
)

pub returns-in-Err-clause-later : goal.returns-in-Err-clause-later
returns-in-Err-clause-later g c = later _ _ _ c.loop-buf.invariant.later c.in-Err.ensures.cause.later

pub returns-in-Ok-eq0-clause-bound : goal.returns-in-Ok-eq0-clause-bound
returns-in-Ok-eq0-clause-bound g c =
    subst (λ (xs : List ℕ). length xs ≤ c.args.limit) (sym c.from_vec.ensures) (at-most _ _ _ c.loop-buf-test.true (c.len.ensures ∙ c.loop-buf.all.ok.0))

pub returns-in-Ok-eq0-clause-too_long : goal.returns-in-Ok-eq0-clause-too_long
returns-in-Ok-eq0-clause-too_long g c = λ e. absurd (no-error _ _ e)

pub returns-in-Ok-eq0-clause-memory : goal.returns-in-Ok-eq0-clause-memory
returns-in-Ok-eq0-clause-memory g c = λ e. absurd (no-error _ _ e)

pub returns-in-Ok-eq0-clause-fault : goal.returns-in-Ok-eq0-clause-fault
returns-in-Ok-eq0-clause-fault g c = λ e. absurd (no-error _ _ e)

pub returns-in-Ok-eq0-clause-later : goal.returns-in-Ok-eq0-clause-later
returns-in-Ok-eq0-clause-later g c = later _ _ _ c.loop-buf.invariant.later c.in-Ok-eq0.ensures.cause.later

pub returns-then-is_err-clause-too_long : goal.returns-then-is_err-clause-too_long
returns-then-is_err-clause-too_long g c = λ e. absurd (memory-is-not-long _ refl e)

pub returns-then-is_err-clause-fault : goal.returns-then-is_err-clause-fault
returns-then-is_err-clause-fault g c = λ e. absurd (memory-is-not-fault _ refl e)

pub returns-then-is_err-clause-later : goal.returns-then-is_err-clause-later
returns-then-is_err-clause-later g c = later _ _ _ c.loop-buf.invariant.later c.in-Ok.ensures.cause.later

pub returns-clause-too_long : goal.returns-clause-too_long
returns-clause-too_long g c = λ e. (c.loop-buf.all.items, over-by-one _ _ _ c.loop-buf.invariant.bound c.loop-buf-test.false (c.len.ensures ∙ c.loop-buf.all.ok.0), c.loop-buf.invariant.took)

pub returns-clause-memory : goal.returns-clause-memory
returns-clause-memory g c = λ e. absurd (long-is-not-memory _ refl e)

pub returns-clause-fault : goal.returns-clause-fault
returns-clause-fault g c = λ e. absurd (long-is-not-fault _ refl e)

pub returns-clause-front : goal.returns-clause-front
returns-clause-front g c = (c.loop-buf.all.items, c.loop-buf.invariant.bound, c.loop-buf.invariant.took)

pub returns-clause-later : goal.returns-clause-later
returns-clause-later g c = c.loop-buf.invariant.later
