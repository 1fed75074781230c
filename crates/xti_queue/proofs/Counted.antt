-- What stays true of a queue over its calls.
use Rattle.std.proofs.Common.{◌≡◌, ◌≤◌, ◌<◌, ◌+◌, ◌-◌, ◌*◌, ◌^◌, ◌++◌, ℕ, Bool, true, false, List, [], ◌∷◌, length, drop, slice_index_or, Some, None, refl, sym, ap, ◌∙◌, arith, subst, append_assoc, length-append}
use Rattle.std.specs.List.{slice_get}
use Rattle.std.specs.Option.{option_map}
use Rattle.std.proofs.lemmas.List.{append-nil, map-append}
use Rattle.tpi_grammar.specs.Frame.{AreBytes}
use Rattle.tpi_prim.specs.declared.primitive.Prim.{Prim}
use Rattle.tpi_prim.specs.Primitive.{user_of}
use Rattle.tpi_prim.specs.Fields.{kind_in, primitive_in}
use Rattle.xti_model.specs.Symbols.{piece, bytes_waiting, ends_waiting}
use Rattle.xti_queue.specs.Indications.{can_wait, ends_message, without, symbols_of, begun, symbols_of_all}
use Rattle.xti_queue.specs.Kept.{AllWait, IsWithin, IsKept}
use Rattle.xti_queue.specs.Front.{symbols_in}
use mir.Val.{bool_byte}
use Rattle.xti_queue.proofs.Indicated.{begun-none, symbols_in-none, symbols_in-cons, without_none}
use Rattle.xti_queue.proofs.Fronts.{bytes_waiting-append, ends_waiting-append, bytes_waiting-piece, ends_waiting-piece}

-- ---- no frame

pub kept_new : (hs : List (List ℕ)) (capacity : ℕ) → hs ≡ [] → IsKept hs 0 0 0 0 capacity
kept_new hs capacity none = record {
  wait = subst AllWait (sym none) tt;
  within = subst (λ (l : List (List ℕ)). IsWithin 0 l) (sym none) refl;
  bytes = sym (ap (λ l. bytes_waiting (symbols_in 0 l)) none ∙ ap bytes_waiting (symbols_in-none 0));
  ends = sym (ap (λ l. ends_waiting (symbols_in 0 l)) none ∙ ap ends_waiting (symbols_in-none 0));
  counted = omega arith;
  room = omega (arith, ap length none);
}

pub kept_none : (old hs : List (List ℕ)) (taken bytes ends spare before after : ℕ) → IsKept old taken bytes ends spare before → hs ≡ [] → after ≡ before
    → IsKept hs 0 0 0 spare after
kept_none old hs taken bytes ends spare before after kept none same =
    let new = kept_new hs after none in
    let counted : 65537 * spare < 2 ^ 64 = omega (arith, kept.counted) in
    record {
      wait = new.wait;
      within = new.within;
      bytes = new.bytes;
      ends = new.ends;
      counted = omega (arith, counted);
      room = omega (arith, ap length none, kept.room, same);
    }

pub begun_none : (hs : List (List ℕ)) (n : ℕ) → hs ≡ [] → begun n hs ≡ []
begun_none hs n none = ap (λ l. begun n l) none ∙ begun-none n

pub symbols_none : (hs : List (List ℕ)) (n : ℕ) → hs ≡ [] → symbols_in n hs ≡ []
symbols_none hs n none = ap (λ l. symbols_in n l) none ∙ symbols_in-none n

-- ---- a frame more

pub begun-push : (hs : List (List ℕ)) (f : List ℕ) (n : ℕ) → IsWithin n hs → begun n (hs ++ f ∷ []) ≡ begun n hs ++ primitive_in f ∷ []
unfolding begun
begun-push [] f n within = ap (λ k. without k (primitive_in f) ∷ []) within ∙ ap (λ p. p ∷ []) (without_none (primitive_in f))
begun-push (h ∷ hs) f n within = ap (λ ps. without n (primitive_in h) ∷ ps) (map-append primitive_in hs (f ∷ []))

all-push : (ps : List Prim) (p : Prim) → symbols_of_all (ps ++ p ∷ []) ≡ symbols_of_all ps ++ symbols_of p
unfolding symbols_of_all
all-push [] p = append-nil (symbols_of p)
all-push (q ∷ ps) p = ap (λ l. symbols_of q ++ l) (all-push ps p) ∙ sym (append_assoc (symbols_of q) (symbols_of_all ps) (symbols_of p))

pub symbols-push : (hs : List (List ℕ)) (f : List ℕ) (n : ℕ) → IsWithin n hs → symbols_in n (hs ++ f ∷ []) ≡ symbols_in n hs ++ symbols_of (primitive_in f)
symbols-push hs f n within = ap symbols_of_all (begun-push hs f n within) ∙ all-push (begun n hs) (primitive_in f)

wait-push : (hs : List (List ℕ)) (f : List ℕ) → AllWait hs → can_wait (kind_in f) ≡ true → AllWait (hs ++ f ∷ [])
wait-push [] f wait can = (can, tt)
wait-push (h ∷ hs) f (one, wait) can = (one, wait-push hs f wait can)

within-push : (hs : List (List ℕ)) (f : List ℕ) (n : ℕ) → IsWithin n hs → IsWithin n (hs ++ f ∷ [])
within-push [] f n within = omega (arith, within)
within-push (h ∷ hs) f n within = within

flag_most : (e : Bool) → bool_byte e ≤ 1
flag_most true = omega arith
flag_most false = omega arith

kept_pushed : (hs : List (List ℕ)) (f : List ℕ) (taken bytes ends spare before after : ℕ) → IsKept hs taken bytes ends spare before
    → can_wait (kind_in f) ≡ true → AreBytes (user_of (primitive_in f)) → length (user_of (primitive_in f)) ≤ 65536 → 1 ≤ spare → after ≡ before
    → IsKept (hs ++ f ∷ []) taken (bytes + length (user_of (primitive_in f))) (ends + bool_byte (ends_message (primitive_in f))) (spare - 1) after
kept_pushed hs f taken bytes ends spare before after kept can are most some same =
    let u = user_of (primitive_in f) in
    let e = ends_message (primitive_in f) in
    let more = symbols-push hs f taken kept.within in
    record {
      wait = wait-push hs f kept.wait can;
      within = within-push hs f taken kept.within;
      bytes =
          sym (ap bytes_waiting more ∙ bytes_waiting-append (symbols_in taken hs) (piece u e)
          ∙ ap (λ k. bytes_waiting (symbols_in taken hs) + k) (bytes_waiting-piece u e are)
          ∙ ap (λ k. k + length u) (sym kept.bytes));
      ends =
          sym (ap ends_waiting more ∙ ends_waiting-append (symbols_in taken hs) (piece u e)
          ∙ ap (λ k. ends_waiting (symbols_in taken hs) + k) (ends_waiting-piece u e are)
          ∙ ap (λ k. k + bool_byte e) (sym kept.ends));
      counted = omega (arith, kept.counted, most, some, flag_most e);
      room = omega (arith, kept.room, length-append hs (f ∷ []), some, same);
    }

pub kept_push : (hs new : List (List ℕ)) (f : List ℕ) (taken bytes ends spare before after m k : ℕ) → IsKept hs taken bytes ends spare before
    → new ≡ hs ++ f ∷ [] → m ≡ length (user_of (primitive_in f)) → k ≡ bool_byte (ends_message (primitive_in f)) → can_wait (kind_in f) ≡ true → AreBytes (user_of (primitive_in f)) → length (user_of (primitive_in f)) ≤ 65536 → 1 ≤ spare → after ≡ before
    → IsKept new taken (bytes + m) (ends + k) (spare - 1) after
kept_push hs new f taken bytes ends spare before after m k kept is m_is k_is can are most some same =
    let pushed = kept_pushed hs f taken bytes ends spare before after kept can are most some same in
    rw (is, m_is, k_is) pushed

-- ---- a piece less

pub piece_counts : (hs new : List (List ℕ)) (taken n bytes ends spare capacity : ℕ) (b : List ℕ) (e : Bool) → IsKept hs taken bytes ends spare capacity
    → symbols_in taken hs ≡ piece b e ++ symbols_in n new → AreBytes b
    → (bytes ≡ length b + bytes_waiting (symbols_in n new)) × (ends ≡ bool_byte e + ends_waiting (symbols_in n new))
piece_counts hs new taken n bytes ends spare capacity b e kept moved are = (
  kept.bytes ∙ ap bytes_waiting moved ∙ bytes_waiting-append (piece b e) (symbols_in n new)
      ∙ ap (λ k. k + bytes_waiting (symbols_in n new)) (bytes_waiting-piece b e are),
  kept.ends ∙ ap ends_waiting moved ∙ ends_waiting-append (piece b e) (symbols_in n new)
      ∙ ap (λ k. k + ends_waiting (symbols_in n new)) (ends_waiting-piece b e are),
)

pub kept_less : (hs new : List (List ℕ)) (taken n bytes ends spare before after m k : ℕ) (b : List ℕ) (e : Bool) → IsKept hs taken bytes ends spare before
    → symbols_in taken hs ≡ piece b e ++ symbols_in n new → AreBytes b → AllWait new → IsWithin n new → length new ≤ length hs → after ≡ before
    → m ≡ length b → k ≡ bool_byte e → IsKept new n (bytes - m) (ends - k) spare after
kept_less hs new taken n bytes ends spare before after m k b e kept moved are wait within shorter same m_is k_is =
    let counts = piece_counts hs new taken n bytes ends spare before b e kept moved are in
    record {
      wait = wait;
      within = within;
      bytes = omega (arith, counts.0, m_is);
      ends = omega (arith, counts.1, k_is);
      counted = omega (arith, kept.counted);
      room = omega (arith, kept.room, shorter, same);
    }

-- ---- the first frame

pub popped_symbols : (hs fs : List (List ℕ)) (f : List ℕ) (n : ℕ) (u : List ℕ) → hs ≡ f ∷ fs → AllWait hs → u ≡ drop n (user_of (primitive_in f))
    → symbols_in n hs ≡ piece u (ends_message (primitive_in f)) ++ symbols_in 0 fs
popped_symbols hs fs f n u is wait user =
    let can : can_wait (kind_in f) ≡ true = (subst AllWait is wait).0 in
    ap (λ l. symbols_in n l) is ∙ symbols_in-cons n f fs can ∙ ap (λ v. piece v (ends_message (primitive_in f)) ++ symbols_in 0 fs) (sym user)

-- what a reader of the first frame tells
pub first_told : {A : Type 0} (g : Prim → A) (hs : List (List ℕ)) (f : List ℕ) (n : ℕ) → 0 < length hs → f ≡ slice_index_or hs 0 f
    → option_map g (slice_get (begun n hs) 0) ≡ Some (g (without n (primitive_in f)))
unfolding begun
first_told g [] f n some is = absurd (omega (arith, some))
first_told g (h ∷ hs) f n some is = ap (λ x. Some (g (without n (primitive_in x)))) (sym is)

pub none_told : {A : Type 0} (g : Prim → A) (hs : List (List ℕ)) (n : ℕ) → (0 < length hs → ⊥) → option_map g (slice_get (begun n hs) 0) ≡ None
unfolding begun
none_told g [] n empty = refl
none_told g (h ∷ hs) n empty = absurd (empty (omega arith))
