-- Step by step an end gets the streams of its life, as the definitions have them.
use Rattle.std.proofs.Common.{ℕ, Bool, true, false, List, [], ◌∷◌, ◌++◌, ◌≡◌, refl, sym, ap, ◌∙◌, cond, filter, append_assoc, not, ◌||◌, ◌&&◌}
use Rattle.std.proofs.lemmas.List.{append-nil}
use Rattle.std.specs.Prelude.{flat_map}
use Rattle.std.specs.List.{list_any}
use Rattle.xti_model.specs.Streams.{Made, Connection, is_made_by, is_over, until_over}
use Rattle.xti_laws_streams.proofs.ConnectionEnds.{End, with_step, after_step, after_steps, counts}

-- of these steps, those that are still of its life
abbrev until_end : Bool → List Made → List Made
until_end over ms = cond over [] (until_over ms)

-- the steps of the end's life that are among these
abbrev rest_of_life : End → List Made → List Made
rest_of_life x ms = until_end x.is_over (filter (is_made_by x.fd) ms)

-- what a step makes of a part of an end
part-after : {A : Type 0} (part : End → A) (c : Connection) (x : End) (m : Made) → part (after_step c x m) ≡ cond (counts x m) (part (with_step c x m)) (part x)
part-after part c x m = go (counts x m)
  where
    go : (b : Bool) → part (cond b (with_step c x m) x) ≡ cond b (part (with_step c x m)) (part x)
    go true = refl
    go false = refl

pub fd-after : (c : Connection) (x : End) (m : Made) → (after_step c x m).fd ≡ x.fd
fd-after c x m = part-after (λ x. x.fd) c x m ∙ go (counts x m)
  where
    go : (b : Bool) → cond b x.fd x.fd ≡ x.fd
    go true = refl
    go false = refl

rest-after : (c : Connection) (x : End) (m : Made) (ms : List Made) → rest_of_life (after_step c x m) ms ≡ until_end (cond (counts x m) (is_over m.after) x.is_over) (filter (is_made_by x.fd) ms)
rest-after c x m ms = ap (λ fd. until_end (after_step c x m).is_over (filter (is_made_by fd) ms)) (fd-after c x m) ∙ ap (λ b. until_end b (filter (is_made_by x.fd) ms)) (part-after (λ x. x.is_over) c x m)

pub folded-fd : (c : Connection) (x : End) (ms : List Made) → (after_steps c x ms).fd ≡ x.fd
folded-fd c x [] = refl
folded-fd c x (m ∷ ms) = folded-fd c (after_step c x m) ms ∙ fd-after c x m

-- A stream to which each step of the end adds.
module _ (c : Connection) (stream : End → List ℕ) (adds : Made → List ℕ) (step : (x : End) (m : Made) → stream (with_step c x m) ≡ stream x ++ adds m) where
  one-more : (over made : Bool) (before : List ℕ) (m : Made) (ms : List Made) →
      cond (not over && made) (before ++ adds m) before ++ flat_map adds (until_end (cond (not over && made) (is_over m.after) over) ms) ≡ before ++ flat_map adds (until_end over (cond made (m ∷ ms) ms))
  one-more true made before m ms = refl
  one-more false false before m ms = refl
  one-more false true before m ms = append_assoc before (adds m) (flat_map adds (until_end (is_over m.after) ms))

  -- all of it is what was there before, and what the rest of the life adds
  pub folded-stream : (x : End) (ms : List Made) → stream (after_steps c x ms) ≡ stream x ++ flat_map adds (rest_of_life x ms)
  folded-stream x [] = go x.is_over
    where
      go : (b : Bool) → stream x ≡ stream x ++ flat_map adds (until_end b [])
      go true = sym (append-nil (stream x))
      go false = sym (append-nil (stream x))
  folded-stream x (m ∷ ms) =
      folded-stream (after_step c x m) ms ∙
      (ap (λ s. s ++ flat_map adds (rest_of_life (after_step c x m) ms)) (part-after stream c x m ∙ ap (λ s. cond (counts x m) s (stream x)) (step x m)) ∙
      (ap (λ l. cond (counts x m) (stream x ++ adds m) (stream x) ++ flat_map adds l) (rest-after c x m ms) ∙
      one-more x.is_over (is_made_by x.fd m) (stream x) m (filter (is_made_by x.fd) ms)))

-- Whether some step of the end passes a test; an end that a step ended makes no more.
module _ (c : Connection) (holds : End → Bool) (test : Made → Bool) (step : (x : End) (m : Made) → counts x m ≡ true → holds (with_step c x m) ≡ (holds x || test m)) where
  or-assoc : (a b d : Bool) → ((a || b) || d) ≡ (a || (b || d))
  or-assoc true b d = refl
  or-assoc false b d = refl

  or-false : (a : Bool) → a ≡ (a || false)
  or-false true = refl
  or-false false = refl

  step-test : (x : End) (m : Made) (b : Bool) → counts x m ≡ b → cond b (holds (with_step c x m)) (holds x) ≡ cond b (holds x || test m) (holds x)
  step-test x m true i = step x m i
  step-test x m false i = refl

  one-more-test : (over made before : Bool) (m : Made) (ms : List Made) →
      (cond (not over && made) (before || test m) before || list_any test (until_end (cond (not over && made) (is_over m.after) over) ms)) ≡ (before || list_any test (until_end over (cond made (m ∷ ms) ms)))
  one-more-test true made before m ms = refl
  one-more-test false false before m ms = refl
  one-more-test false true before m ms = or-assoc before (test m) (list_any test (until_end (is_over m.after) ms))

  pub folded-test : (x : End) (ms : List Made) → holds (after_steps c x ms) ≡ (holds x || list_any test (rest_of_life x ms))
  folded-test x [] = go x.is_over
    where
      go : (b : Bool) → holds x ≡ (holds x || list_any test (until_end b []))
      go true = or-false (holds x)
      go false = or-false (holds x)
  folded-test x (m ∷ ms) =
      folded-test (after_step c x m) ms ∙
      (ap (λ s. s || list_any test (rest_of_life (after_step c x m) ms)) (part-after holds c x m ∙ step-test x m (counts x m) refl) ∙
      (ap (λ l. cond (counts x m) (holds x || test m) (holds x) || list_any test l) (rest-after c x m ms) ∙
      one-more-test x.is_over (is_made_by x.fd m) (holds x) m (filter (is_made_by x.fd) ms)))
