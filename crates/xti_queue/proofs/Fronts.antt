-- The start of a list of symbols, by a run of bytes and what stands after it.
use Rattle.std.proofs.Common.{◌≡◌, ◌≤◌, ◌<◌, ◌+◌, ◌-◌, ◌++◌, ℕ, suc, zero, Bool, true, false, not, cond, List, [], ◌∷◌, length, take, drop, if◌then◌else◌, refl, sym, ap, ◌∙◌, arith, append_assoc, ne_eqb, length-append}
use Rattle.std.specs.List.{slice_get, take_while}
use Rattle.std.proofs.lemmas.List.{append-nil}
use Rattle.std.proofs.lemmas.List.Sums.{take_while-cons, sum_by-cons, sum_by-append}
use Rattle.tpi_grammar.specs.Frame.{AreBytes}
use Rattle.xti_model.specs.Symbols.{is_end, is_byte, front, ended, rest, piece, bytes_waiting, ends_waiting, is_end_next, end_of_message}
use Rattle.xti_queue.specs.Front.{StopsAt}
use mir.Val.{bool_byte}

pub byte_is : (b : ℕ) → b < 256 → is_end b ≡ false
byte_is b low = ne_eqb b 256 (λ e. absurd (omega (arith, low, e)))

front-cons : (x m : ℕ) (s : List ℕ) → x < 256 → front (suc m) (x ∷ s) ≡ x ∷ front m s
front-cons x m s low =
    take_while-cons is_byte x (take m s) ∙ ap (λ e. cond (not e) (x ∷ take_while is_byte (take m s)) []) (byte_is x low)

pub front-none : (max : ℕ) → front max [] ≡ []
front-none zero = refl
front-none (suc m) = refl

pub front-end : (max : ℕ) (s : List ℕ) → front max (end_of_message ∷ s) ≡ []
front-end zero s = refl
front-end (suc m) s = take_while-cons is_byte 256 (take m s)

-- a run of bytes that is no longer than the most is the first part of what is taken
pub front-bytes : (b s : List ℕ) (max : ℕ) → AreBytes b → length b ≤ max → front max (b ++ s) ≡ b ++ front (max - length b) s
front-bytes [] s max bytes most = ap (λ n. front n s) (omega arith)
front-bytes (x ∷ b) s zero bytes most = absurd (omega (arith, most))
front-bytes (x ∷ b) s (suc m) (low, bytes) most =
    front-cons x m (b ++ s) low
    ∙ ap (λ t. x ∷ t) (front-bytes b s m bytes (omega (arith, most)))
    ∙ ap (λ n. x ∷ (b ++ front n s)) (omega arith)

front-stops : (n max : ℕ) (s : List ℕ) → StopsAt n s max → front (max - n) s ≡ []
front-stops n max [] stops = front-none (max - n)
front-stops n max (x ∷ s) (full, low) =
    let none : max - n ≡ 0 = omega (arith, full) in
    ap (λ k. front k (x ∷ s)) none

pub room_for : (b s : List ℕ) (max : ℕ) → AreBytes b → length b ≤ max → length b ≤ length (front max (b ++ s))
room_for b s max bytes most = omega (arith, ap length (front-bytes b s max bytes most), length-append b (front (max - length b) s))

-- ---- a run, an end after it or not, and what is left

pub record IsTaken (b : List ℕ) (e : Bool) (s : List ℕ) (max : ℕ) : Type 0 where
  pub bytes : AreBytes b
  pub most : length b ≤ max
  pub stops : e ≡ false → StopsAt (length b) s max

closed : (b s : List ℕ) → piece b true ++ s ≡ b ++ (end_of_message ∷ s)
closed b s = append_assoc b (end_of_message ∷ []) s

front_of : (b : List ℕ) (e : Bool) (s : List ℕ) (max : ℕ) → IsTaken b e s max → front max (piece b e ++ s) ≡ b
front_of b true s max t =
    ap (λ l. front max l) (closed b s)
    ∙ front-bytes b (end_of_message ∷ s) max t.bytes t.most
    ∙ ap (λ l. b ++ l) (front-end (max - length b) s)
    ∙ append-nil b
front_of b false s max t =
    front-bytes b s max t.bytes t.most
    ∙ ap (λ l. b ++ l) (front-stops (length b) max s (t.stops refl))
    ∙ append-nil b

behind : (b t : List ℕ) → slice_get (b ++ t) (length b) ≡ slice_get t 0
behind [] t = refl
behind (x ∷ b) t = behind b t

drop_behind : (b t : List ℕ) (n : ℕ) → drop (length b + n) (b ++ t) ≡ drop n t
drop_behind [] t n = ap (λ k. drop k t) (omega arith)
drop_behind (x ∷ b) t n =
    let e : length (x ∷ b) + n ≡ suc (length b + n) = omega arith in
    ap (λ k. drop k (x ∷ (b ++ t))) e ∙ drop_behind b t n

next_of : (n max : ℕ) (s : List ℕ) → StopsAt n s max → is_end_next (slice_get s 0) ≡ false
next_of n max [] stops = refl
next_of n max (x ∷ s) (full, low) = byte_is x low

next : (b : List ℕ) (e : Bool) (s : List ℕ) (max : ℕ) → IsTaken b e s max → is_end_next (slice_get (piece b e ++ s) (length b)) ≡ e
next b true s max t = ap is_end_next (ap (λ l. slice_get l (length b)) (closed b s) ∙ behind b (end_of_message ∷ s))
next b false s max t = ap is_end_next (behind b s) ∙ next_of (length b) max s (t.stops refl)

ended_of : (b : List ℕ) (e : Bool) (s : List ℕ) (max : ℕ) → IsTaken b e s max → ended max (piece b e ++ s) ≡ e
ended_of b e s max t = ap (λ l. is_end_next (slice_get (piece b e ++ s) (length l))) (front_of b e s max t) ∙ next b e s max t

dropped : (b : List ℕ) (e : Bool) (s : List ℕ) → drop (length b + (if e then 1 else 0)) (piece b e ++ s) ≡ s
dropped b true s = ap (λ l. drop (length b + 1) l) (closed b s) ∙ drop_behind b (end_of_message ∷ s) 1
dropped b false s = drop_behind b s 0

rest_of : (b : List ℕ) (e : Bool) (s : List ℕ) (max : ℕ) → IsTaken b e s max → rest max (piece b e ++ s) ≡ s
rest_of b e s max t =
    ap (λ l. drop (length l + (if ended max (piece b e ++ s) then 1 else 0)) (piece b e ++ s)) (front_of b e s max t)
    ∙ ap (λ (x : Bool). drop (length b + (if x then 1 else 0)) (piece b e ++ s)) (ended_of b e s max t)
    ∙ dropped b e s

pub taken_front : (all b : List ℕ) (e : Bool) (s : List ℕ) (max : ℕ) → all ≡ piece b e ++ s → IsTaken b e s max → b ≡ front max all
taken_front all b e s max is t = sym (ap (λ l. front max l) is ∙ front_of b e s max t)

pub taken_ended : (all b : List ℕ) (e : Bool) (s : List ℕ) (max : ℕ) → all ≡ piece b e ++ s → IsTaken b e s max → e ≡ ended max all
taken_ended all b e s max is t = sym (ap (λ l. ended max l) is ∙ ended_of b e s max t)

pub taken_rest : (all b : List ℕ) (e : Bool) (s : List ℕ) (max : ℕ) → all ≡ piece b e ++ s → IsTaken b e s max → s ≡ rest max all
taken_rest all b e s max is t = sym (ap (λ l. rest max l) is ∙ rest_of b e s max t)

-- ---- how many bytes and ends

bytes_count : (b : List ℕ) → AreBytes b → bytes_waiting b ≡ length b
bytes_count [] bytes = refl
bytes_count (x ∷ b) (low, bytes) =
    let f : ℕ → ℕ = λ s. cond (is_byte s) 1 0 in
    let one : f x ≡ 1 = ap (λ e. cond (not e) 1 0) (byte_is x low) in
    sum_by-cons f x b ∙ omega (arith, one, bytes_count b bytes)

no_ends : (b : List ℕ) → AreBytes b → ends_waiting b ≡ 0
no_ends [] bytes = refl
no_ends (x ∷ b) (low, bytes) =
    let f : ℕ → ℕ = λ s. cond (is_end s) 1 0 in
    let none : f x ≡ 0 = ap (λ e. cond e 1 0) (byte_is x low) in
    sum_by-cons f x b ∙ omega (arith, none, no_ends b bytes)

pub bytes_waiting-append : (a b : List ℕ) → bytes_waiting (a ++ b) ≡ bytes_waiting a + bytes_waiting b
bytes_waiting-append a b = sum_by-append (λ s. cond (is_byte s) 1 0) a b

pub ends_waiting-append : (a b : List ℕ) → ends_waiting (a ++ b) ≡ ends_waiting a + ends_waiting b
ends_waiting-append a b = sum_by-append (λ s. cond (is_end s) 1 0) a b

pub bytes_waiting-piece : (b : List ℕ) (e : Bool) → AreBytes b → bytes_waiting (piece b e) ≡ length b
bytes_waiting-piece b true bytes = omega (arith, bytes_waiting-append b (end_of_message ∷ []), bytes_count b bytes)
bytes_waiting-piece b false bytes = bytes_count b bytes

pub ends_waiting-piece : (b : List ℕ) (e : Bool) → AreBytes b → ends_waiting (piece b e) ≡ bool_byte e
ends_waiting-piece b true bytes = omega (arith, ends_waiting-append b (end_of_message ∷ []), no_ends b bytes)
ends_waiting-piece b false bytes = no_ends b bytes
