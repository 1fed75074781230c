-- What holds of every call of a script, with what its names stand for, holds of each call that the entries of its workers begin.
use Rattle.std.specs.Prelude.{ℕ, zero, suc, ◌<◌, Bool, true, false, List, [], ◌∷◌, ◌++◌, length, map, take, slice_get, Some, ◌≡◌}
use Rattle.std.specs.List.{AllByRecursion, list_all}
use Rattle.std.proofs.Common.{cond, refl, subst, sym, arith}
use Rattle.std.proofs.lemmas.Bool.{and_parts, eq-eqb, ltb-true}
use Rattle.xti_base.specs.declared.limits.TheConstants.{WORKERS}
use Rattle.xti_base.specs.declared.kinds.State.{State}
use Rattle.xti_model.specs.declared.call.Call.{Call}
use Rattle.xti_model.specs.declared.entry.Act.{Act}
use Rattle.xti_model.specs.declared.entry.Act.TheVariants as act
use Rattle.xti_model.specs.declared.entry.Entry.{Entry}
use Rattle.xti_model.specs.declared.entry.Outcome.{Outcome}
use Rattle.xti_model.specs.declared.script.NamedCall.{NamedCall}
use Rattle.xti_model.specs.declared.script.Line.{Line}
use Rattle.xti_model.specs.Complete.{begun_calls, resolved_in, Follows, Each, workers, is_worker}
use Rattle.xti_model.specs.History.{is_own, own}
use Rattle.xti_model.specs.Resolve.{Placed, placed, placed_from, if_own, is_of, begun}
use Rattle.xti_model.proofs.GoingOn.{at-each}

-- each line's call is such
abbrev pub AllLines : (NamedCall → Type 0) → List Line → Type 0
AllLines R [] = Unit {0}
AllLines R (line ∷ lines) = R line.call × AllLines R lines

abbrev pub AllPlaced : (NamedCall → Type 0) → List Placed → Type 0
AllPlaced R [] = Unit {0}
AllPlaced R (l ∷ ls) = R l.line.call × AllPlaced R ls

-- a call that the act begins is such
abbrev pub Begins : (Call → Type 0) → Act → Type 0
Begins P (act.Begin c) = P c
Begins P act.More = Unit {0}

abbrev pub AllBegin : (Call → Type 0) → List Entry → Type 0
AllBegin P [] = Unit {0}
AllBegin P (e ∷ es) = Begins P e.act × AllBegin P es

pub placed-such : (R : NamedCall → Type 0) (earlier lines : List Line) (worker : ℕ) → AllLines R lines → AllPlaced R (placed_from earlier lines worker)
placed-such R earlier [] worker h = tt
placed-such R earlier (line ∷ lines) worker h = go (is_of worker line) (placed-such R (earlier ++ line ∷ []) lines worker h.1)
  where
    go : (b : Bool) → AllPlaced R (placed_from (earlier ++ line ∷ []) lines worker) → AllPlaced R (if_own b (record { earlier = earlier; line = line }) (placed_from (earlier ++ line ∷ []) lines worker))
    go true k = (h.0, k)
    go false k = k

-- one of them
pub one-placed : (R : NamedCall → Type 0) (ls : List Placed) (n : ℕ) (l : Placed) → AllPlaced R ls → slice_get ls n ≡ Some l → R l.line.call
one-placed R [] n l a h = absurd cc
one-placed R (x ∷ ls) zero l a h = (let same : x ≡ l = cc in subst (λ (y : Placed). R y.line.call) same a.0)
one-placed R (x ∷ ls) (suc n) l a h = one-placed R ls n l a.1 h

resolved-such : (R : NamedCall → Type 0) (P : Call → Type 0) (es : List Entry) → ((l : Placed) → R l.line.call → P (resolved_in es l)) → (n : ℕ) (ls : List Placed) → AllPlaced R ls → AllByRecursion P (map (resolved_in es) (take n ls))
resolved-such R P es f zero ls a = tt
resolved-such R P es f (suc n) [] a = tt
resolved-such R P es f (suc n) (l ∷ ls) a = (f l a.0, resolved-such R P es f n ls a.1)

-- the calls that these entries begin are such
Such : (Call → Type 0) → List Entry → Type 0
Such P es = AllByRecursion P (begun_calls es)

first-such : (P : Call → Type 0) (worker : ℕ) (a : Act) (o : Outcome) (s : State) (es : List Entry) → Such P (record { worker = worker; act = a; outcome = o; after = s } ∷ es) → Begins P a × Such P es
unfolding Such
first-such P worker (act.Begin c) o s es h = h
first-such P worker act.More o s es h = (tt, h)

-- where those of each worker are, those of all are
all-such : (P : Call → Type 0) (es : List Entry) → list_all is_worker es ≡ true → ((worker : ℕ) → worker < WORKERS → Such P (own es worker)) → AllBegin P es
all-such P [] small such = tt
all-such P (e ∷ es) small such = (first.0, all-such P es parts.1 (λ worker lt. rest worker (is_own worker e) (such worker lt)))
  where
    parts : (is_worker e ≡ true) × (list_all is_worker es ≡ true)
    parts = and_parts (is_worker e) (list_all is_worker es) small

    begins : (b : Bool) → is_own e.worker e ≡ b → b ≡ true → Such P (own (e ∷ es) e.worker) → Such P (e ∷ own es e.worker)
    begins true q t h = rw q at h
    begins false q t h = absurd cc

    first : Begins P e.act × Such P (own es e.worker)
    first = first-such P e.worker e.act e.outcome e.after (own es e.worker) (begins true (eq-eqb e.worker e.worker refl) refl (such e.worker (ltb-true e.worker WORKERS parts.0)))

    rest : (worker : ℕ) (b : Bool) → Such P (cond b (e ∷ own es worker) (own es worker)) → Such P (own es worker)
    rest worker true h = (first-such P e.worker e.act e.outcome e.after (own es worker) h).1
    rest worker false h = h

pub begun-such : (R : NamedCall → Type 0) (P : Call → Type 0) (lines : List Line) (es : List Entry) → list_all is_worker es ≡ true → Each (Follows es lines) workers → AllLines R lines → ((l : Placed) → R l.line.call → P (resolved_in es l)) → AllBegin P es
unfolding Such
begun-such R P lines es h f a g =
    all-such P es h (λ worker lt.
    subst (AllByRecursion P) (sym (at-each (Follows es lines) 0 33 f worker (omega arith) (omega (arith, lt))))
    (resolved-such R P es g (length (begun es worker)) (placed lines worker) (placed-such R [] lines worker a)))
