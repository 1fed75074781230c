use Rattle.std.proofs.Common.{◌≡◌, ℕ, ◌+◌, ◌<◌, ◌≤◌, List, [], ◌∷◌, ◌++◌, length, get_or, take, sym, ap, ◌∙◌}
use Rattle.std.specs.Prelude.{codes}
use Rattle.std.specs.List.{flat_map}
use Rattle.std.proofs.lemmas.List.{append_assoc, flat_map_more, take_all, take_more}
use Rattle.xti_words.specs.WrittenWords.{hex_pair, octets_word}
use Rattle.xti_journal_text.specs.JournalText.{parts_field}
use Rattle.xti_journal_text.proofs.words.put_parts.Goals as goal

-- one part more is written
part_more : (start out new : List ℕ) (others : List (List ℕ)) (i : ℕ) (part : List ℕ) → i < length others → part ≡ get_or others i part → out ≡ start ++ flat_map (octets_word (codes ",")) (take i others)
    → new ≡ (out ++ codes ",x:") ++ flat_map hex_pair part → new ≡ start ++ flat_map (octets_word (codes ",")) (take (i + 1) others)
part_more start out new others i part h p o n =
    let f = octets_word (codes ",") in
    let taken : take (i + 1) others ≡ take i others ++ part ∷ [] = take_more others i part h ∙ ap (λ (x : List ℕ). take i others ++ x ∷ []) (sym p) in
    n ∙ ap (λ (xs : List ℕ). (xs ++ codes ",x:") ++ flat_map hex_pair part) o
    ∙ append_assoc (start ++ flat_map f (take i others)) (codes ",x:") (flat_map hex_pair part)
    ∙ flat_map_more f start (take i others) part
    ∙ ap (λ (xs : List (List ℕ)). start ++ flat_map f xs) (sym taken)

-- the first part is written, and then the others
parts_written : (old now out first : List ℕ) (others parts : List (List ℕ)) (i : ℕ) → parts ≡ first ∷ others → length others ≤ i → now ≡ (old ++ codes " parts=x:") ++ flat_map hex_pair first
    → out ≡ now ++ flat_map (octets_word (codes ",")) (take i others) → out ≡ old ++ parts_field parts
parts_written old now out first others parts i p h n o =
    let f = octets_word (codes ",") in
    o ∙ ap (λ (ps : List (List ℕ)). now ++ flat_map f ps) (take_all i others h)
    ∙ ap (λ (xs : List ℕ). xs ++ flat_map f others) n
    ∙ append_assoc (old ++ codes " parts=x:") (flat_map hex_pair first) (flat_map f others)
    ∙ append_assoc old (codes " parts=x:") (flat_map hex_pair first ++ flat_map f others)
    ∙ ap (λ (ps : List (List ℕ)). old ++ parts_field ps) (sym p)

pub loop-part-preserved : goal.loop-part-preserved
loop-part-preserved c =
    part_more c.put_pairs.new.out.items c.loop-part.out.items c.put_pairs-in-loop-part.new.out.items c.in-Some.others.now c.loop-part.part-index c.part-item.result
    c.loop-part-test.true c.part-item.is c.loop-part.invariant c.in_ok-put_pairs-in-Some-2.ensures

pub returns-after-loop-part : goal.returns-after-loop-part
returns-after-loop-part c =
    parts_written c.args.out.now.items c.put_pairs.new.out.items c.loop-part.out.items c.in-Some.first.now c.in-Some.others.now c.args.parts.now c.loop-part.part-index
    c.in-Some.ensures.cases.0 c.loop-part-test.false c.in_ok-put_pairs-in-Some.ensures c.loop-part.invariant
