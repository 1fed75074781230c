-- Names stay known on later lines, and what no line defines isn't known.
use Rattle.std.proofs.Common.{◌≡◌, refl, ◌∙◌, ℕ, Bool, true, false, ◌&&◌, ◌||◌, eqb, List, [], ◌∷◌, ◌++◌}
use Rattle.std.specs.List.{list_any}
use Rattle.std.proofs.lemmas.List.Folds.{list_any-append}
use Rattle.xti_model.specs.declared.script.Line.{Line}
use Rattle.xti_script_reader.specs.Names.{Defining, after, defines, is_defined}

or_left : (a b : Bool) → a ≡ true → (a || b) ≡ true
or_left true b h = refl
or_left false b h = absurd (cc)

or_right : (a b : Bool) → b ≡ true → (a || b) ≡ true
or_right true b h = refl
or_right false b h = h

or_none : (a b : Bool) → a ≡ false → b ≡ false → (a || b) ≡ false
or_none true b h i = absurd (cc)
or_none false b h i = i

and_none : (a b : Bool) → b ≡ false → (a && b) ≡ false
and_none true b h = h
and_none false b h = refl

-- what is known stays so
pub still_known : (defining : Defining) (earlier more : List Line) (worker : ℕ) (name : List ℕ)
    → is_defined defining (after earlier worker) name ≡ true → is_defined defining (after (earlier ++ more) worker) name ≡ true
still_known defining earlier more worker name h =
    list_any-append (defines defining worker name) earlier more
    ∙ or_left (list_any (defines defining worker name) earlier) (list_any (defines defining worker name) more) h

-- what the last line defines is known
pub just_known : (defining : Defining) (earlier : List Line) (line : Line) (worker : ℕ) (name : List ℕ)
    → defines defining worker name line ≡ true → is_defined defining (after (earlier ++ line ∷ []) worker) name ≡ true
just_known defining earlier line worker name h =
    list_any-append (defines defining worker name) earlier (line ∷ [])
    ∙ or_right (list_any (defines defining worker name) earlier) (list_any (defines defining worker name) (line ∷ [])) (or_left (defines defining worker name line) false h)

-- no line of these defines the name for any worker
abbrev pub AreSilent : Defining → List ℕ → List Line → Type 0
AreSilent defining name lines = list_any (λ line. defining name line.call) lines ≡ false

pub silent_both : (defining : Defining) (name : List ℕ) (lines others : List Line) → AreSilent defining name lines → AreSilent defining name others → AreSilent defining name (lines ++ others)
silent_both defining name lines others h i =
    list_any-append (λ line. defining name line.call) lines others
    ∙ or_none (list_any (λ line. defining name line.call) lines) (list_any (λ line. defining name line.call) others) h i

-- then it isn't known
pub not_known : (defining : Defining) (name : List ℕ) (lines : List Line) (worker : ℕ) → AreSilent defining name lines → is_defined defining (after lines worker) name ≡ false
not_known defining name [] worker h = refl
not_known defining name (line ∷ lines) worker h =
    let parts = none_of (defining name line.call) (list_any (λ line. defining name line.call) lines) h in
    or_none (defines defining worker name line) (is_defined defining (after lines worker) name)
    (and_none (eqb line.worker worker || eqb line.worker 0) (defining name line.call) parts.0) (not_known defining name lines worker parts.1)
  where
    none_of : (a b : Bool) → (a || b) ≡ false → (a ≡ false) × (b ≡ false)
    none_of true b h = absurd (cc)
    none_of false b h = (refl, h)
