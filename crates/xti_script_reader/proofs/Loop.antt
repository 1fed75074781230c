-- Reading lines one after the other, as a loop does.
use Rattle.std.proofs.Common.{◌≡◌, ℕ, ◌+◌, List, [], ◌∷◌, length, Result, Ok, Err, Bool, true, false, eqb, refl, sym, ap, ◌∙◌}
use Rattle.std.proofs.lemmas.Bool.{eqb-true}
use Rattle.std.proofs.lemmas.List.{nil_from_length}
use Rattle.xti_model.specs.declared.profile.Version.{Version}
use Rattle.xti_model.specs.declared.script.Line.{Line}
use Rattle.xti_words.specs.Texts.{lines_of}
use Rattle.xti_script_reader.specs.declared.draft.Taken.{Taken}
use Rattle.xti_script_reader.specs.declared.draft.Taken.TheVariants as taken
use Rattle.xti_script_reader.specs.declared.script_text.ScriptFail.{ScriptFail}
use Rattle.xti_script_reader.specs.declared.script_text.ScriptFail.TheVariants as fail
use Rattle.xti_script_reader.specs.Reading.{after_text, behind, lines_from}

abbrev Lines : Type 0
Lines = Result (List Line) ScriptFail

one_more : (version : Version) (n : ℕ) (earlier : List Line) (rest first later : List ℕ) → lines_of rest ≡ first ∷ lines_of later → lines_from version n earlier (lines_of rest) ≡ behind n (after_text version earlier first) (λ lines. lines_from version (n + 1) lines (lines_of later))
unfolding lines_from
one_more version n earlier rest first later e = rw e refl

pub goes_on : (version : Version) (n : ℕ) (earlier : List Line) (rest first later : List ℕ) (t : Taken) (more : List Line) (total : Lines) → lines_of rest ≡ first ∷ lines_of later → (t, more) ≡ after_text version earlier first → t ≡ taken.Read → lines_from version n earlier (lines_of rest) ≡ total
    → lines_from version (n + 1) more (lines_of later) ≡ total
goes_on version n earlier rest first later t more total e a s so_far =
    let outcome : after_text version earlier first ≡ (taken.Read, more) = sym a ∙ ap (λ (x : Taken). (x, more)) s in
    let one : lines_from version n earlier (lines_of rest) ≡ lines_from version (n + 1) more (lines_of later) = one_more version n earlier rest first later e ∙ ap (λ (o : Taken × List Line). behind n o (λ lines. lines_from version (n + 1) lines (lines_of later))) outcome in
    sym one ∙ so_far

pub is_wrong : (version : Version) (n : ℕ) (earlier : List Line) (rest first later : List ℕ) (t : Taken) (more : List Line) (total : Lines) → lines_of rest ≡ first ∷ lines_of later → (t, more) ≡ after_text version earlier first → t ≡ taken.Wrong → lines_from version n earlier (lines_of rest) ≡ total
    → total ≡ Err (fail.Bad n)
is_wrong version n earlier rest first later t more total e a s so_far =
    let outcome : after_text version earlier first ≡ (taken.Wrong, more) = sym a ∙ ap (λ (x : Taken). (x, more)) s in
    sym so_far ∙ one_more version n earlier rest first later e ∙ ap (λ (o : Taken × List Line). behind n o (λ lines. lines_from version (n + 1) lines (lines_of later))) outcome

pub is_over : (version : Version) (n : ℕ) (earlier : List Line) (rest first later : List ℕ) (t : Taken) (more : List Line) (total : Lines) → lines_of rest ≡ first ∷ lines_of later → (t, more) ≡ after_text version earlier first → t ≡ taken.TooMany → lines_from version n earlier (lines_of rest) ≡ total
    → total ≡ Err (fail.TooMany n)
is_over version n earlier rest first later t more total e a s so_far =
    let outcome : after_text version earlier first ≡ (taken.TooMany, more) = sym a ∙ ap (λ (x : Taken). (x, more)) s in
    sym so_far ∙ one_more version n earlier rest first later e ∙ ap (λ (o : Taken × List Line). behind n o (λ lines. lines_from version (n + 1) lines (lines_of later))) outcome

pub ends : (version : Version) (n : ℕ) (earlier : List Line) (rest : List ℕ) (total : Lines) (empty : Bool) → empty ≡ true → empty ≡ eqb (length rest) 0 → lines_from version n earlier (lines_of rest) ≡ total → total ≡ Ok earlier
unfolding lines_from
ends version n earlier rest total false t h so_far = absurd cc
ends version n earlier rest total true t h so_far =
    let e : rest ≡ [] = nil_from_length rest (eqb-true _ _ (sym h)) in
    let one : lines_from version n earlier (lines_of rest) ≡ Ok earlier = rw e refl in
    sym so_far ∙ one
