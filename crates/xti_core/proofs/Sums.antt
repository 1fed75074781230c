-- Sums of the numbers of events.
use Rattle.std.proofs.Common.{◌≡◌, ◌≤◌, ◌+◌, ℕ, Bool, true, false, cond, List, [], ◌∷◌, refl, sym, ap, ◌∙◌, arith}
use Rattle.std.specs.Prelude.{filter, fold}
use Rattle.xti_base.specs.Kinds.{event_number}
use Rattle.xti_base.specs.declared.kinds.Event.{Event}
use Rattle.xti_base.specs.declared.kinds.Event.TheVariants.{T_LISTEN, T_CONNECT, T_DATA, T_EXDATA, T_DISCONNECT, T_UDERR, T_ORDREL, T_GODATA, T_GOEXDATA}
use Rattle.xti_core.specs.Looks.{number_where}

-- no number of an event is above that of T_GOEXDATA
pub number-small : (event : Event) → event_number event ≤ 512
number-small T_LISTEN = omega arith
number-small T_CONNECT = omega arith
number-small T_DATA = omega arith
number-small T_EXDATA = omega arith
number-small T_DISCONNECT = omega arith
number-small T_UDERR = omega arith
number-small T_ORDREL = omega arith
number-small T_GODATA = omega arith
number-small T_GOEXDATA = omega arith

-- the numbers of those that pass, summed, are those of all where another counts 0
pub sum-where : (test : Event → Bool) (a : ℕ) (xs : List Event) → fold (λ n x. n + event_number x) a (filter test xs) ≡ fold (λ n x. n + number_where test x) a xs
sum-where test a [] = refl
sum-where test a (x ∷ xs) = go (test x) (sum-where test (a + event_number x) xs) (sum-where test a xs)
  where
    rest : ℕ → ℕ
    rest n = fold (λ n x. n + number_where test x) n xs

    add_zero : (n : ℕ) → n + 0 ≡ n
    add_zero n = omega arith

    go : (b : Bool) → fold (λ n x. n + event_number x) (a + event_number x) (filter test xs) ≡ rest (a + event_number x) → fold (λ n x. n + event_number x) a (filter test xs) ≡ rest a
        → fold (λ n x. n + event_number x) a (cond b (x ∷ filter test xs) (filter test xs)) ≡ rest (a + cond b (event_number x) 0)
    go true h _ = h
    go false _ h = h ∙ ap rest (sym (add_zero a))
