-- What holds of a connection is kept along a legal history.
use Rattle.std.proofs.Common.{ℕ, false, List, [], ◌∷◌, ◌++◌, ◌≡◌, refl, sym, ap, ◌∙◌, subst, eqb, Option, Some, None}
use Rattle.std.specs.Prelude.{option_map, option_and_then}
use Rattle.xti_model.specs.declared.entry.Entry.{Entry}
use Rattle.xti_model.specs.declared.profile.Providers.{Providers}
use Rattle.xti_model.specs.World.{World}
use Rattle.xti_model.specs.Step.{Step, step}
use Rattle.xti_model.specs.History.{Going, doing, step_going, step_at, left_by, after_from, Fits, LegalFrom, unfinished}
use Rattle.xti_model.specs.Streams.{Connection, made_of, add, made_from}
use Rattle.xti_laws_streams.proofs.ConnectionEnds.{End, after_step, after_steps}
use Rattle.xti_laws_streams.proofs.FoldedStreams.{fd-after}
use Rattle.xti_laws_streams.proofs.Invariant.{SoundConnection}
use Rattle.xti_laws.proofs.RequestHistories.{Sound, left-sound}
use Rattle.xti_model.specs.SentBytes.{AllSendBytes}
use Rattle.xti_laws_streams.proofs.UnderWay.{SendGoesOn}
use Rattle.xti_laws_streams.proofs.UnderWay.{doing-goes_on, next-goes_on}
use Rattle.xti_laws_streams.proofs.OneStep.{step-sound, made_by_step}

-- an entry that fits the definitions, with its call and its step
pub record FittingEntry (p : Providers) (w : World) (past : List Entry) (e : Entry) : Type 0 where
  pub g : Going
  pub s : Step
  pub is_doing : doing past e ≡ Some g
  pub is_step : step p w g.call g.so_far ≡ Some s
  pub outcome : e.outcome ≡ s.outcome
  pub after : e.after ≡ s.after

pub fitting-entry : (p : Providers) (w : World) (past : List Entry) (e : Entry) → Fits (step_at p w past e) e → FittingEntry p w past e
fitting-entry p w past e f = go (doing past e) refl f
  where
    stepped : (g : Going) → doing past e ≡ Some g → (o : Option Step) → step p w g.call g.so_far ≡ o → Fits o e → FittingEntry p w past e
    stepped g d None h f = absurd f
    stepped g d (Some s) h f = record { g = g; s = s; is_doing = d; is_step = h; outcome = f.0; after = f.1 }

    go : (o : Option Going) → doing past e ≡ o → Fits (option_and_then (step_going p w) o) e → FittingEntry p w past e
    go None d f = absurd f
    go (Some g) d f = stepped g d (step p w g.call g.so_far) refl f

pub left-is : (p : Providers) (w : World) (past : List Entry) (e : Entry) (n : FittingEntry p w past e) → left_by w (step_at p w past e) ≡ n.s.world
left-is p w past e n = ap (λ o. left_by w (option_and_then (step_going p w) o)) n.is_doing ∙ ap (left_by w) n.is_step

-- the step of an entry is the one that its call makes
made-is : (p : Providers) (w : World) (past : List Entry) (e : Entry) (es : List Entry) (n : FittingEntry p w past e) → made_from past (e ∷ es) ≡ made_by_step n.g.call n.g.so_far n.s ∷ made_from (past ++ e ∷ []) es
made-is p w past e es n =
    ap (λ o. add (option_map (made_of e) o) (made_from (past ++ e ∷ []) es)) n.is_doing ∙
    (ap (λ z. record { going = n.g; outcome = z; after = e.after } ∷ made_from (past ++ e ∷ []) es) n.outcome ∙
    ap (λ z. record { going = n.g; outcome = n.s.outcome; after = z } ∷ made_from (past ++ e ∷ []) es) n.after)

-- what holds of a connection before the entries holds after them, of both ends with their steps
pub along : (p : Providers) (w : World) (c : Connection) (x y : End) (past es : List Entry) → Sound p w → LegalFrom p w past es → AllSendBytes es → ((n : ℕ) → SendGoesOn (unfinished past n)) → eqb y.fd x.fd ≡ false → SoundConnection p w c x y
    → SoundConnection p (after_from p w past es) c (after_steps c x (made_from past es)) (after_steps c y (made_from past es))
along p w c x y past [] f l b r n h = h
along p w c x y past (e ∷ es) f l b r n h =
    let i : FittingEntry p w past e = fitting-entry p w past e l.0 in
    let m = made_by_step i.g.call i.g.so_far i.s in
    let right = doing-goes_on past e i.g (r e.worker) b.0 i.is_doing in
    let stepped = step-sound p w c x y i.g.call i.g.so_far i.s f.links n h right.0 right.1 i.is_step in
    subst (λ ms. SoundConnection p (after_from p (left_by w (step_at p w past e)) (past ++ e ∷ []) es) c (after_steps c x ms) (after_steps c y ms)) (sym (made-is p w past e es i))
    (along p (left_by w (step_at p w past e)) c (after_step c x m) (after_step c y m) (past ++ e ∷ []) es (left-sound p w (doing past e) f) l.1 b.1 (next-goes_on p w past e i.g i.s r right i.is_doing i.is_step i.outcome)
    (ap (λ z. eqb z (after_step c x m).fd) (fd-after c y m) ∙ (ap (eqb y.fd) (fd-after c x m) ∙ n))
    (subst (λ z. SoundConnection p z c (after_step c x m) (after_step c y m)) (sym (left-is p w past e i)) stepped))
