-- After a legal history one entry alone is legal that does a given act: a step is a function of its world and its call.
use Rattle.std.proofs.Common.{List, [], ◌∷◌, ◌++◌, ◌≡◌, sym, ap₂, ◌∙◌, subst, append-nil, append_assoc, Option, Some, None}
use Rattle.xti_model.specs.declared.entry.Entry.{Entry}
use Rattle.xti_model.specs.declared.profile.Providers.{Providers}
use Rattle.xti_model.specs.World.{World}
use Rattle.xti_model.specs.Step.{Step}
use Rattle.xti_model.specs.History.{step_at, left_by, after_from, Fits, LegalFrom, Legal}
use Rattle.xti_model.specs.Profile.{usual}
use Rattle.xti_laws_streams.specs.CopyLaws.{IsNextEntry}

-- the entry after the first ones fits
fits-after : (p : Providers) (w : World) (past xs ys : List Entry) (e : Entry) → LegalFrom p w past (xs ++ e ∷ ys) → Fits (step_at p (after_from p w past xs) (past ++ xs) e) e
fits-after p w past [] ys e l = subst (λ q. Fits (step_at p w q e) e) (sym (append-nil past)) l.0
fits-after p w past (x ∷ xs) ys e l =
    subst (λ q. Fits (step_at p (after_from p (left_by w (step_at p w past x)) (past ++ x ∷ []) xs) q e) e) (append_assoc past (x ∷ []) xs)
    (fits-after p (left_by w (step_at p w past x)) (past ++ x ∷ []) xs ys e l.1)

-- two entries of one worker that do the same and fit
one-fits : (p : Providers) (w : World) (past : List Entry) (e f : Entry) → e.worker ≡ f.worker → e.act ≡ f.act → Fits (step_at p w past e) e → Fits (step_at p w past f) f → e ≡ f
one-fits p w past e f i a k l = go (step_at p w past f) (subst (λ o. Fits o e) same k) l
  where
    same : step_at p w past e ≡ step_at p w past f
    same = ap₂ (λ worker act. step_at p w past (record e { worker = worker; act = act })) i a

    go : (o : Option Step) → Fits o e → Fits o f → e ≡ f
    go None k l = absurd k
    go (Some s) k l = λ j. record { worker = i j; act = a j; outcome = (k.0 ∙ sym l.0) j; after = (k.1 ∙ sym l.1) j }

pub next-entry : (entries : List Entry) → Legal usual entries → IsNextEntry entries
next-entry entries h front rest e f i l worker acts =
    one-fits usual _ _ e f worker acts (fits-after usual _ [] front [] e l) (fits-after usual _ [] front rest f (subst (Legal usual) i h))
