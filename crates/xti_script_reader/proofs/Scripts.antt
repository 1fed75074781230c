-- What reading a text says of scripts.
use Rattle.std.proofs.Common.{◌≡◌, ℕ, ◌⊎◌, inl, inr, List, [], ◌∷◌, Result, Ok, Err, refl, sym, ap, subst, ◌∙◌, arith}
use Rattle.std.specs.Prelude.{IfOk, IfErr}
use Rattle.xti_model.specs.declared.profile.Providers.{Providers}
use Rattle.xti_model.specs.declared.profile.Version.{Version}
use Rattle.xti_model.specs.declared.script.Line.{Line}
use Rattle.xti_model.specs.declared.script.Script.{Script}
use Rattle.xti_words.specs.Texts.{lines_of}
use Rattle.xti_script_reader.specs.declared.script_text.ScriptFail.{ScriptFail}
use Rattle.xti_script_reader.specs.declared.script_text.ScriptFail.TheVariants as fail
use Rattle.xti_script_reader.specs.Grammar.{AreLines, HasHead, HasNoHead, HasForm, IsSmall, IsScript, calls_in}
use Rattle.xti_script_reader.specs.Refused.{HasWrongHead, IsRefusedAt}
use Rattle.xti_script_reader.specs.Gives.{Fails, Gives}
use Rattle.xti_script_reader.specs.Read.{IsRead, IsBad}
use Rattle.xti_script_reader.specs.Reading.{lines_from, with_providers, all_of}
use Rattle.xti_script_reader.proofs.Heads.{mark, same_version, tails, Opens, opens, one_head}
use Rattle.xti_script_reader.proofs.LineLaws.{lines_are, stops, same_lines}
use Rattle.xti_script_reader.proofs.Least.{Opened, bad_start, bad_head, stopped}
use Rattle.xti_script_reader.proofs.Seen.{Seen, no_start, wrong_head, opened, seen}

no_lines : IsSmall []
no_lines = record { few_lines = omega arith; few_bytes = omega arith }

-- ---- what is read is a script

record Made (p : Providers) (r : Result (List Line) ScriptFail) (s : Script) : Type 0 where
  lines : List Line
  is : r ≡ Ok lines
  same : record { providers = p; lines = lines } ≡ s

made : (p : Providers) (r : Result (List Line) ScriptFail) (s : Script) → with_providers p r ≡ Ok s → Made p r s
made p (Ok lines) s e = record { lines = lines; is = refl; same = cc }
made p (Err f) s e = absurd cc

with_no_head : (p : Providers) (texts rest : List (List ℕ)) → Opens p texts rest → HasHead p texts rest ⊎ HasNoHead p texts rest
with_no_head p texts rest (inl h) = inl h
with_no_head p texts rest (inr h) = inr h.0

whole : (text : List ℕ) (o : Opened text) (lines : List Line) → lines_from o.p.version o.number [] o.rest ≡ Ok lines → IsScript (record { providers = o.p; lines = lines }) text
whole text o lines e =
    let w = lines_are o.p.version o.number [] lines o.rest no_lines e in
    record {
      form = record { texts = o.texts; rest = o.rest; first = o.first; head = with_no_head o.p o.texts o.rest o.opened; lines = subst (λ (ls : List Line). AreLines o.p.version [] ls (calls_in o.rest)) (sym w.same) w.good };
      small = w.small;
    }

is_script : (text : List ℕ) (s : Script) → all_of (lines_of text) ≡ Ok s → IsScript s text
is_script text s e = by_seen (seen text)
  where
    by_seen : Seen text → IsScript s text
    by_seen (no_start never r) = let q = sym r ∙ e in absurd cc
    by_seen (wrong_head h r) = let q = sym r ∙ e in absurd cc
    by_seen (opened o r) =
        let m = made o.p (lines_from o.p.version o.number [] o.rest) s (sym r ∙ e) in
        subst (λ (t : Script). IsScript t text) m.same (whole text o m.lines m.is)

-- ---- what is refused is none

failed : (p : Providers) (r : Result (List Line) ScriptFail) (f : ScriptFail) → with_providers p r ≡ Err f → r ≡ Err f
failed p (Ok lines) f e = absurd cc
failed p (Err g) f e = let same : g ≡ f = cc in ap (λ (x : ScriptFail). Err x) same

is_refused : (text : List ℕ) (f : ScriptFail) → all_of (lines_of text) ≡ Err f → IsBad text f
is_refused text f e = by_seen (seen text)
  where
    by_seen : Seen text → IsBad text f
    by_seen (no_start never r) = let same : fail.Bad 1 ≡ f = let q = sym r ∙ e in cc in subst (IsBad text) same (bad_start text never)
    by_seen (wrong_head h r) = let same : fail.Bad 2 ≡ f = let q = sym r ∙ e in cc in subst (IsBad text) same (bad_head text h)
    by_seen (opened o r) = stopped text o f (stops o.p.version o.number [] o.rest f no_lines (failed o.p _ f (sym r ∙ e)))

is_bad : (text : List ℕ) (e : ScriptFail) → Fails e (all_of (lines_of text)) → IsBad text e
is_bad text (fail.Bad line) r = is_refused text (fail.Bad line) r
is_bad text (fail.TooMany line) r = is_refused text (fail.TooMany line) r
is_bad text fail.OutOfMemory r = tt

-- ---- a text has one script, or is refused

-- a text that is a script has no wrong head
right_head : (text : List ℕ) (s : Script) → HasForm s text → HasWrongHead text → ⊥
right_head text s h w =
    let first = sym h.first ∙ w.begins in
    by_opening (same_version s.providers.version w.version h.texts (mark ∷ w.texts) first) (opens s.providers s.lines h.texts h.rest h.head h.lines) (tails _ _ h.texts (mark ∷ w.texts) first)
  where
    by_opening : s.providers.version ≡ w.version → Opens s.providers h.texts h.rest → h.texts ≡ mark ∷ w.texts → ⊥
    by_opening v (inl k) e = w.wrong s.providers h.rest v (subst (λ (ts : List (List ℕ)). HasHead s.providers ts h.rest) e k)
    by_opening v (inr k) e = k.1 w.texts e

pub not_both : (text : List ℕ) (s : Script) (n : ℕ) → IsScript s text → IsRefusedAt text n → ⊥
not_both text s n h (inl r) = right_head text s h.form r.0
not_both text s n h (inr r) = r.1.refused (record { script = s; other = text; has_form = h; same = refl })

pub same_script : (text : List ℕ) (s t : Script) → IsScript s text → IsScript t text → s ≡ t
same_script text s t h k =
    let a = h.form in
    let b = k.form in
    let first = sym a.first ∙ b.first in
    let version : s.providers.version ≡ t.providers.version = same_version s.providers.version t.providers.version a.texts b.texts first in
    let texts : a.texts ≡ b.texts = tails _ _ a.texts b.texts first in
    let theirs : Opens t.providers a.texts b.rest = subst (λ (ts : List (List ℕ)). Opens t.providers ts b.rest) (sym texts) (opens t.providers t.lines b.texts b.rest b.head b.lines) in
    let one = one_head s.providers t.providers a.texts a.rest b.rest version (opens s.providers s.lines a.texts a.rest a.head a.lines) theirs in
    let read : AreLines t.providers.version [] s.lines (calls_in a.rest) = subst (λ (v : Version). AreLines v [] s.lines (calls_in a.rest)) version a.lines in
    let lines : s.lines ≡ t.lines = same_lines t.providers.version [] s.lines t.lines (calls_in b.rest) (subst (λ (ts : List (List ℕ)). AreLines t.providers.version [] s.lines (calls_in ts)) one.1 read) b.lines in
    ap (λ (q : Providers). record { providers = q; lines = s.lines }) one.0 ∙ ap (λ (ls : List Line). record { providers = t.providers; lines = ls }) lines

-- a text that is refused is no script
refused_is_none : (text : List ℕ) (e : ScriptFail) → IsBad text e → (s : Script) → IsScript s text → IsRead (Err e) s
refused_is_none text (fail.Bad line) b s h = not_both text s line h b.0
refused_is_none text (fail.TooMany line) b s h = not_both text s line h b.0
refused_is_none text fail.OutOfMemory b s h = tt

no_other : (text : List ℕ) (e : ScriptFail) → Fails e (all_of (lines_of text)) → (s : Script) → IsScript s text → IsRead (Err e) s
no_other text e r = refused_is_none text e (is_bad text e r)

-- ---- what reading answers

pub found : (text : List ℕ) (r : Result Script ScriptFail) → Gives r (all_of (lines_of text)) → IfOk r (λ s. IsScript s text)
found text (Ok s) g = is_script text s g
found text (Err e) g = tt

pub only : (text : List ℕ) (r : Result Script ScriptFail) → Gives r (all_of (lines_of text)) → (s : Script) → IsScript s text → IsRead r s
only text (Ok t) g s h = same_script text t s (is_script text t g) h
only text (Err e) g s h = no_other text e g s h

pub bad : (text : List ℕ) (r : Result Script ScriptFail) → Gives r (all_of (lines_of text)) → IfErr r (IsBad text)
bad text (Ok s) g = tt
bad text (Err e) g = is_bad text e g
