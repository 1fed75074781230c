-- What one entry more does to a history.
use Rattle.std.proofs.Common.{◌≡◌, ◌≢◌, ℕ, Bool, true, false, eqb, List, [], ◌∷◌, ◌++◌, refl, ap, sym, subst, ◌∙◌}
use Rattle.std.specs.Prelude.{Option, Some, None}
use Rattle.std.proofs.lemmas.Bool.{eq-eqb, ne_eqb, eqb-true}
use Rattle.std.proofs.lemmas.List.Elements.{filter-append}
use Rattle.xti_model.specs.declared.entry.Entry.{Entry}
use Rattle.xti_model.specs.SentBytes.{BeginsBytes, AllSendBytes}
use Rattle.xti_model.specs.World.{cell_at, is_among, without}
use Rattle.xti_model.specs.History.{Going, is_own, LegalFrom, left_by, step_at, doing}
use Rattle.xti_model.specs.declared.profile.Providers.{Providers}
use mathlib.Core.List.{IsPrefix}
use Rattle.xti_model.specs.Touched.{touched}
use Rattle.xti_laws.proofs.TouchedCells.{touched-changes}
use Rattle.xti_model.proofs.Legality.{after-snoc, legal-snoc}
use Rattle.xti_hall_rule.specs.declared.setting.Setting.{Setting}
use Rattle.xti_hall_rule.specs.Histories.{World, opening, part, cell_or_closed, own, after, Legal, Right, next_world, Touches}

pub own-append : (k : ℕ) (xs ys : List Entry) → own k (xs ++ ys) ≡ own k xs ++ own k ys
own-append k xs ys = filter-append (is_own k) xs ys

pub own-mine : (k : ℕ) (e : Entry) → e.worker ≡ k → own k (e ∷ []) ≡ e ∷ []
own-mine k e is = rw (eq-eqb e.worker k is) refl

pub own-other : (k : ℕ) (e : Entry) → e.worker ≢ k → own k (e ∷ []) ≡ []
own-other k e is = rw (ne_eqb e.worker k is) refl

pub after-more : (p : Setting) (past : List Entry) (e : Entry) → after p (past ++ e ∷ []) ≡ next_world p (after p past) (doing past e)
after-more p past e = after-snoc p.providers (opening p) [] past e

pub legal-more : (p : Setting) (past : List Entry) (e : Entry) → Legal p past → Right p past e → Legal p (past ++ e ∷ [])
legal-more p past e l r = legal-snoc p.providers (opening p) [] past e l r

legal-front-from : (p : Providers) (w : World) (past xs ys : List Entry) → LegalFrom p w past (xs ++ ys) → LegalFrom p w past xs
legal-front-from p w past [] ys l = tt
legal-front-from p w past (x ∷ xs) ys l = (l.0, legal-front-from p (left_by w (step_at p w past x)) (past ++ x ∷ []) xs ys l.1)

-- an entry that sends bytes, after others that do
pub bytes-more : (past : List Entry) (e : Entry) → AllSendBytes past → BeginsBytes e.act → AllSendBytes (past ++ e ∷ [])
bytes-more [] e h b = (b, tt)
bytes-more (x ∷ xs) e h b = (h.0, bytes-more xs e h.1 b)

-- a beginning of a legal history is legal
pub legal-front : (p : Setting) (xs ys : List Entry) → IsPrefix xs ys → Legal p ys → Legal p xs
legal-front p xs ys q l =
    let m = subst (Legal p) (sym q.1) l in
    legal-front-from p.providers (opening p) [] xs q.0 m

-- a cell outside is found as among all
outside : (t : List ℕ) (w : World) (i : ℕ) → is_among t i ≡ false → cell_at (without t w) i ≡ cell_at w i
outside t [] i o = refl
outside t (c ∷ w) i o = go (is_among t c.number) refl (eqb c.number i) refl (outside t w i o)
  where
    go : (a : Bool) → is_among t c.number ≡ a → (b : Bool) → eqb c.number i ≡ b → cell_at (without t w) i ≡ cell_at w i → cell_at (without t (c ∷ w)) i ≡ cell_at (c ∷ w) i
    go true e true f ih = let same : c.number ≡ i = eqb-true c.number i f in absurd (let z : is_among t i ≡ true = subst (λ k. is_among t k ≡ true) same e in cc)
    go true e false f ih = rw (e, f) ih
    go false e true f ih = rw (e, f) refl
    go false e false f ih = rw (e, f) ih

not-among : (t : List ℕ) (i : ℕ) → ¬ (is_among t i ≡ true) → is_among t i ≡ false
not-among t i n = go (is_among t i) refl
  where
    go : (b : Bool) → is_among t i ≡ b → is_among t i ≡ false
    go true e = absurd (n e)
    go false e = e

-- a step changes no cell that it does not touch
pub untouched : (p : Setting) (past : List Entry) (g : Option Going) (i : ℕ) → ¬ Touches p (after p past) g i → part i (next_world p (after p past) g) ≡ part i (after p past)
untouched p past None i n = refl
untouched p past (Some g) i n =
    let w : World = after p past in
    let t : List ℕ = touched p.providers w g.call in
    let o = not-among t i n in
    ap cell_or_closed (sym (outside t (next_world p w (Some g)) i o) ∙ (ap (λ v. cell_at v i) (touched-changes p.providers w g.call g.so_far) ∙ outside t w i o))
