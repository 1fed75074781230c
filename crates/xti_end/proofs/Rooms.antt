-- What a change leaves of the room of an endpoint.
use Rattle.std.proofs.Common.{◌≡◌, ℕ, true, Option, None, Some, Result, Ok, Err, ◌∙◌, ap, refl, sym}
use Rattle.std.specs.Prelude.{is_some, option_map}
use Rattle.std.specs.Result.{OnErr}
use Rattle.xti_model.specs.Endpoint.{Endpoint}
use Rattle.xti_end.specs.Held.{Held, SameRoom, is_open, with_parts}

pub same_room : (h : Held) → SameRoom h h
same_room h = record {
  place = refl;
  generation = refl;
  pending = refl;
  outstanding = refl;
  disconnects = refl;
  normal = refl;
  expedited = refl;
  datagrams = refl;
  datagram_errors = refl;
}

pub as_before : {old new : Held} → new ≡ old → SameRoom old new
as_before e = rw e (same_room _)

pub after_change : {old new : Held} (f : Endpoint → Endpoint) → new ≡ with_parts f old → SameRoom old new
after_change f e = rw e (record {
  place = refl;
  generation = refl;
  pending = refl;
  outstanding = refl;
  disconnects = refl;
  normal = refl;
  expedited = refl;
  datagrams = refl;
  datagram_errors = refl;
})

-- what holds whatever the result holds where it is an error
pub on_any_err : {T E P : Type 0} (r : Result T E) → P → OnErr r P
on_any_err (Ok x) p = tt
on_any_err (Err x) p = p

-- an endpoint that changes stays open, at its place
pub stays_open : (old new : Held) (f : Endpoint → Endpoint) → new ≡ with_parts f old → is_open old ≡ true → is_open new ≡ true
stays_open old new f e o = ap is_open e ∙ (by old.body ∙ o)
  where
    by : (body : Option Endpoint) → is_some (option_map f body) ≡ is_some body
    by None = refl
    by (Some x) = refl

pub stays_at : (old new : Held) (f : Endpoint → Endpoint) (place : ℕ) → new ≡ with_parts f old → place ≡ old.place → place ≡ new.place
stays_at old new f place e h = h ∙ sym (ap (λ (x : Held). x.place) e)

-- two changes that are one
pub two_changes : (old mid new : Held) (f g whole : Endpoint → Endpoint) → mid ≡ with_parts f old → new ≡ with_parts g mid → option_map g (option_map f old.body) ≡ option_map whole old.body
    → new ≡ with_parts whole old
two_changes old mid new f g whole a b e = b ∙ (ap (with_parts g) a ∙ ap (λ (o : Option Endpoint). record old { body = o }) e)
