use Rattle.std.proofs.Common.{ℕ, List, ◌≡◌, sym, ap, subst, ◌∙◌, take, take_all}
use Rattle.std.proofs.lemmas.List.{append-nil, take_more}
use Rattle.std.proofs.lemmas.List.Elements.{All-append}
use Rattle.std.proofs.lemmas.List.Folds.{concat-append}
use Rattle.std.specs.List.{concat}
use Rattle.std.specs.Prelude.{◌<◌, ◌+◌, ◌++◌, ◌∷◌, [], length, get_or}
use Rattle.xti_model.specs.SentBytes.{AreBytes}
use Rattle.xti_model.proofs.laws.parts_are_bytes.Goals as goal

-- one part more
with-part : (parts : List (List ℕ)) (k : ℕ) (part : List ℕ) → k < length parts → part ≡ get_or parts k part → AreBytes part → AreBytes (concat (take k parts)) → AreBytes (concat (take (k + 1) parts))
with-part parts k part h i b a = subst (λ ps. AreBytes (concat ps)) (sym (take_more parts k part h ∙ ap (λ x. take k parts ++ x ∷ []) (sym i)))
    (subst AreBytes (sym (concat-append (take k parts) (part ∷ []) ∙ ap (λ l. concat (take k parts) ++ l) (append-nil part))) (All-append (λ b. b < 256) (concat (take k parts)) part a b))

pub loop-part-preserved : goal.loop-part-preserved
loop-part-preserved c = with-part c.args.parts.now c.loop-part.part-index c.part-item.result c.loop-part-test.true c.part-item.is (subst AreBytes c.as_slice.ensures c.slices_are_bytes.ensures) c.loop-part.invariant

pub returns : goal.returns
returns c = subst (λ ps. AreBytes (concat ps)) (take_all c.loop-part.part-index c.args.parts.now c.loop-part-test.false) c.loop-part.invariant
