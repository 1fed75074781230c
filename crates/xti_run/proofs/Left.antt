-- What a source had left, from what it gave.
use Rattle.std.specs.Prelude.{◌≡◌, ◌≤◌, ◌+◌, length, List, [], ℕ, Option, Some, None}
use Rattle.std.proofs.Common.{arith, refl, sym, subst, inl, inr}
use Rattle.std.proofs.lemmas.List.{append-nil, length-append}
use Rattle.xti_io.specs.Source.{Gives, GivesAll, GivesUpTo}
use Rattle.xti_command.specs.declared.command.Reading.{Reading}
use Rattle.xti_outputs.specs.Outputs.{IsAnswered, limit_of}
use Rattle.xti_run.specs.Program.{IsLeft, IsRun, refused_size}

pub gives_front : (most limit : ℕ) (before now : Option (List ℕ)) (all : List ℕ) → most ≡ limit → GivesAll before now all → length all ≤ most → GivesUpTo (limit + 1) before now
gives_front most limit None now all e h of = ([], omega arith, tt)
gives_front most limit (Some bytes) now all e h of = (all, omega (arith, of, e), ([], h.0, rw h.1 (sym (append-nil all))))

all_is_left : (before now : Option (List ℕ)) (all : List ℕ) → GivesAll before now all → IsLeft before all
all_is_left None now all h = tt
all_is_left (Some bytes) now all h = h.1

front_is_left : (before now : Option (List ℕ)) (front : List ℕ) → Gives before now front → (input : List ℕ) × IsLeft before input × length front ≤ length input
front_is_left None now front h = (front, tt, omega arith)
front_is_left (Some bytes) now front h = (bytes, refl, rw h.2 (omega (arith, length-append front h.0)))

pub answered : (reading : Reading) (most : ℕ) (before now : Option (List ℕ)) (all : List ℕ) (status : ℕ) (text : List ℕ) → most ≡ limit_of reading → GivesAll before now all → length all ≤ most → IsAnswered reading all status text → IsRun reading before status text
answered reading most before now all status text e h of got = record { input = all; is_left = all_is_left before now all h; answer = inl (subst (λ n. length all ≤ n) e of, got) }

pub too_long : (reading : Reading) (most : ℕ) (before now : Option (List ℕ)) (front : List ℕ) (status : ℕ) (text : List ℕ) → most ≡ limit_of reading → length front ≡ most + 1 → Gives before now front → status ≡ 2 → text ≡ refused_size → IsRun reading before status text
too_long reading most before now front status text e long h done printed =
    let whole = front_is_left before now front h in
    record { input = whole.0; is_left = whole.1; answer = inr (record { long = omega (arith, long, whole.2, e); done = done; printed = printed }) }
