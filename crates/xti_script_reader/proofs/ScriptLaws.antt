-- What each script that has a text is made of.
use Rattle.std.proofs.Common.{◌≡◌, ℕ, ◌+◌, ◌≤◌, ◌⊎◌, inl, inr, Bool, true, leb, List, [], ◌∷◌, ◌++◌, length, Some, refl, sym, subst, arith}
use Rattle.std.specs.List.{list_all}
use Rattle.std.proofs.lemmas.Bool.{le-leb}
use Rattle.xti_model.specs.declared.profile.Version.{Version}
use Rattle.xti_model.specs.declared.script.Line.{Line}
use Rattle.xti_model.specs.declared.script.Script.{Script}
use Rattle.xti_model.specs.Robin.{most_steps}
use Rattle.xti_model.specs.declared.profile.Providers.{Providers}
use Rattle.xti_model.specs.Profile.{usual_of}
use Rattle.xti_model.specs.Work.{script_bytes}
use Rattle.xti_base.specs.declared.limits.TheConstants.{LAST_WORKER}
use Rattle.xti_head.specs.Head.{head_of}
use Rattle.xti_words.specs.Texts.{text_of}
use Rattle.xti_script_reader.specs.Grammar.{AreLines, calls_in, HasHead, HasNoHead, HasText}

abbrev has_worker : Line → Bool
has_worker line = leb line.worker LAST_WORKER

lines_have_workers : (version : Version) (earlier lines : List Line) (texts : List (List ℕ)) → AreLines version earlier lines texts → list_all has_worker lines ≡ true
lines_have_workers version earlier [] texts h = refl
lines_have_workers version earlier (line ∷ lines) [] h = absurd h
lines_have_workers version earlier (line ∷ lines) (text ∷ texts) h =
    let one : leb line.worker LAST_WORKER ≡ true = le-leb _ _ h.0.is_worker in
    rw (one, lines_have_workers version (earlier ++ line ∷ []) lines texts h.1) refl

pub script_has_workers : (s : Script) → HasText s → list_all has_worker s.lines ≡ true
script_has_workers s h = lines_have_workers s.providers.version [] s.lines (calls_in h.1.form.rest) h.1.form.lines

pub script_is_small : (s : Script) → HasText s → length s.lines + script_bytes s.lines ≤ most_steps
script_is_small s h =
    let few = h.1.small.few_lines in
    let bytes = h.1.small.few_bytes in
    omega arith

-- what holds of each head's providers and of the usual ones holds of a script's
pub head_has : (Holds : Providers → Type 0) → ((version : Version) (text : List ℕ) (p : Providers) → head_of version text ≡ Some p → Holds p) → ((version : Version) → Holds (usual_of version))
    → (p : Providers) (texts rest : List (List ℕ)) → HasHead p texts rest ⊎ HasNoHead p texts rest → Holds p
head_has Holds heads start p texts rest (inl h) = heads p.version (text_of h.head) p h.gives
head_has Holds heads start p texts rest (inr h) = subst Holds (sym h.0) (start p.version)
