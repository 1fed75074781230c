use Rattle.std.proofs.Common.{◌≡◌, sym, ap, subst, ◌∙◌, ℕ, ◌+◌, ◌<◌, List, [], ◌∷◌, ◌++◌, length, get_or, take, take_all, append-nil, codes}
use Rattle.std.specs.List.{flat_map}
use Rattle.std.proofs.lemmas.List.{flat_map_more, take_more}
use Rattle.xti_model.specs.declared.script.Script.{Script}
use Rattle.xti_script_reader.specs.Grammar.{first_line, IsScript}
use Rattle.xti_script.specs.Canonical.{line_text, script_text}
use Rattle.xti_script.proofs.scripts.write_script.Goals as goal

-- the first line is written, and no line of a call
first_written : (none before out first : List ℕ) → none ≡ [] → before ≡ none ++ first → out ≡ before ++ codes "\n" → out ≡ (first ++ codes "\n") ++ []
first_written none before out first e f g = g ∙ ap (λ t. t ++ codes "\n") (f ∙ ap (λ t. t ++ first) e) ∙ sym (append-nil (first ++ codes "\n"))

-- one more text is written
one_more : {X : Type 0} (text : X → List ℕ) (start before out : List ℕ) (xs : List X) (i : ℕ) (x : X) → i < length xs → x ≡ get_or xs i x → before ≡ start ++ flat_map text (take i xs)
    → out ≡ before ++ text x → out ≡ start ++ flat_map text (take (i + 1) xs)
one_more text start before out xs i x h e f g =
    g ∙ ap (λ t. t ++ text x) f ∙ flat_map_more text start (take i xs) x
    ∙ ap (λ ys. start ++ flat_map text ys) (ap (λ y. take i xs ++ y ∷ []) e ∙ sym (take_more xs i x h))

-- all lines are written
all_written : (s : Script) (out : List ℕ) → out ≡ (first_line s.providers.version ++ codes "\n") ++ flat_map line_text s.lines → out ≡ script_text s
unfolding script_text
all_written s out e = e

whole : (c : goal.After-from_vec) → c.from_vec.result ≡ script_text c.args.s.now
whole c = all_written c.args.s.now c.from_vec.result
    (c.from_vec.ensures ∙ c.loop-line.invariant
    ∙ ap (λ ls. (first_line c.args.s.now.providers.version ++ codes "\n") ++ flat_map line_text ls)
    (take_all c.loop-line.line-index c.as_slice-line-items.result.now c.loop-line-test.false ∙ c.as_slice-line-items.ensures))

pub loop-line-init : goal.loop-line-init
loop-line-init c =
    first_written c.new-out.result.items c.put_text.new.out.items c.put_text-2.new.out.items (first_line c.args.s.now.providers.version) c.new-out.ensures.items
    (c.in_ok-put_text.ensures.items ∙ ap (λ t. c.new-out.result.items ++ t) c.first_line.ensures) c.in_ok-put_text-2.ensures.items

pub loop-line-preserved : goal.loop-line-preserved
loop-line-preserved c =
    one_more line_text (first_line c.args.s.now.providers.version ++ codes "\n") c.loop-line.out.items c.put_line.new.out.items
    c.as_slice-line-items.result.now c.loop-line.line-index c.line-item.result c.loop-line-test.true c.line-item.is c.loop-line.invariant c.in_ok-put_line.ensures

pub returns-clause-text : goal.returns-clause-text
returns-clause-text c = whole c

pub returns-clause-read_back : goal.returns-clause-read_back
returns-clause-read_back c =
    subst (IsScript c.args.s.now) (sym (whole c)) (c.scripts_are_read_back.ensures.written c.args.s.now c.requires.text c.requires.providers)
