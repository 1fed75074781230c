-- A rider with one entry more.
use Rattle.std.proofs.Common.{◌≡◌, Bool, true, List, [], ◌∷◌, ◌++◌, Option, Some, None, refl, sym, ap, ◌∙◌, subst}
use Rattle.std.specs.Prelude.{is_none, option_and_then, option_map}
use Rattle.std.proofs.lemmas.Option.{none-some}
use Rattle.xti_base.specs.declared.kinds.State.{State}
use Rattle.xti_model.specs.declared.call.Call.{Call}
use Rattle.xti_model.specs.declared.entry.Act.{Act}
use Rattle.xti_model.specs.declared.entry.Act.TheVariants as act
use Rattle.xti_model.specs.declared.entry.Applied.TheVariants as applied
use Rattle.xti_model.specs.declared.entry.Entry.{Entry}
use Rattle.xti_model.specs.declared.entry.Go.{Go}
use Rattle.xti_model.specs.declared.entry.Go.TheVariants as go
use Rattle.xti_model.specs.declared.entry.Outcome.{Outcome}
use Rattle.xti_model.specs.declared.entry.Outcome.TheVariants.{Done, Part}
use Rattle.xti_model.specs.declared.profile.Providers.{Providers}
use Rattle.xti_model.specs.History.{Going, call_after, going_after, unfinished_from, made_by, step_going, step_at, left_by, after, Fits}
use Rattle.xti_model.specs.Profile.{valid}
use Rattle.xti_model.specs.Robin.{act_of}
use Rattle.xti_model.specs.SentBytes.{SendsBytes, BeginsBytes, AllSendBytes}
use Rattle.xti_model.specs.Step.{step}
use Rattle.xti_model.specs.World.{World, opening}
use Rattle.xti_model.proofs.Appending.{own-append}
use Rattle.xti_model.proofs.Legality.{after-snoc, legal-snoc}
use Rattle.xti_model.proofs.Working.{call_from, unfinished_from-snoc, IsCallOf, call_of-from}
use Rattle.xti_end.specs.Taken.{taken}
use Rattle.xti_core.specs.Standing.{Standing}
use Rattle.xti_laws.specs.Replies.{lengths_of, IsShortOutcome}
use Rattle.xti_laws.proofs.ShortReplies.{replies-short}
use Rattle.xti_laws.proofs.SoundSteps.{after-sound}
use Rattle.xti_sock.specs.SightSteps.{going_at}
use Rattle.xti_copy.specs.Rides.{IsRiding, is_done, entry_of}

-- no entries
pub rides-first : (p : Providers) (w : Standing) → valid p ≡ true → w ≡ record { providers = p; cells = opening p } → IsRiding w [] true
rides-first p w v e = subst (λ (z : Standing). IsRiding z [] true) (sym e) (record { cells = refl; standing = record { valid_providers = v; legal = tt; bytes = tt; mine = refl; free = refl } })

-- the call that an entry makes is the last begun one after it
made-call : (u : Option Going) (c : Option Call) (a : Act) (g : Going) → IsCallOf c u → made_by u a ≡ Some g → call_after c a ≡ Some g.call
made-call None c (act.Begin x) g h e = ap (option_map (λ (y : Going). y.call)) e
made-call (Some u) c (act.Begin x) g h e = absurd (none-some g e)
made-call u c act.More g h e = subst (IsCallOf c) e h

may-by : (u : Option Going) (c : Call) (g : Go) → u ≡ going_at c g → made_by u (act_of g c) ≡ Some (record { call = c; so_far = g })
may-by u c go.Begin e = ap (λ z. made_by z (act.Begin c)) e
may-by u c (go.More n) e = e

begins-bytes : (g : Go) (c : Call) → SendsBytes c → BeginsBytes (act_of g c)
begins-bytes go.Begin c h = h
begins-bytes (go.More n) c h = tt

bytes-more : (past : List Entry) (e : Entry) → AllSendBytes past → BeginsBytes e.act → AllSendBytes (past ++ e ∷ [])
bytes-more [] e h b = (b, tt)
bytes-more (x ∷ xs) e h b = (h.0, bytes-more xs e h.1 b)

-- what is unfinished after one more step
pub after-step : (es : List Entry) (c : Call) (g : Go) (o : Outcome) (s : State) → unfinished_from None None es ≡ going_at c g →
    unfinished_from None None (es ++ entry_of c g o s ∷ []) ≡ going_after (Some c) o
after-step es c g o s at =
    unfinished_from-snoc None None es (entry_of c g o s)
    ∙ ap (λ (x : Option Call). going_after x o) (made-call (unfinished_from None None es) (call_from None es) (act_of g c) (record { call = c; so_far = g }) (call_of-from None None es tt) (may-by (unfinished_from None None es) c g at))

free-after : (c : Call) (o : Outcome) → is_done o ≡ is_none (going_after (Some c) o)
free-after c (Done reply) = refl
free-after c (Part n) = refl

module _ {w : Standing} {es : List Entry} {free : Bool} (k : IsRiding w es free) (c : Call) (g : Go) (at : unfinished_from None None es ≡ going_at c g) where
  -- the step of the entry is that of the call
  this-step : (o : Outcome) (s : State) → step_at w.providers (after w.providers es) es (entry_of c g o s) ≡ step w.providers (after w.providers es) c g
  this-step o s = ap (option_and_then (step_going w.providers (after w.providers es))) (ap (λ z. made_by (unfinished_from None None z) (act_of g c)) k.standing.mine ∙ may-by (unfinished_from None None es) c g at)

  made-here : (o : Outcome) (s : State) (cells : World) → taken (applied.Step o s) cells ≡ step w.providers w.cells c g → step w.providers (after w.providers es) c g ≡ Some (record { outcome = o; after = s; world = cells })
  made-here o s cells e = ap (λ z. step w.providers z c g) (sym k.cells) ∙ sym e

  pub reply-short : (o : Outcome) (s : State) (cells : World) → taken (applied.Step o s) cells ≡ step w.providers w.cells c g → IsShortOutcome (lengths_of c) o
  reply-short o s cells e =
      replies-short w.providers (after w.providers es) (after-sound w.providers es k.standing.valid_providers) c g (record { outcome = o; after = s; world = cells }) (made-here o s cells e)

  pub fits-here : (o : Outcome) (s : State) (cells : World) → taken (applied.Step o s) cells ≡ step w.providers w.cells c g → Fits (step w.providers (after w.providers es) c g) (entry_of c g o s)
  fits-here o s cells e = rw (made-here o s cells e) (refl, refl)

  pub blocked-here : (cells : World) → taken applied.Blocked cells ≡ step w.providers w.cells c g → step w.providers (after w.providers es) c g ≡ None
  blocked-here cells e = ap (λ z. step w.providers z c g) (sym k.cells) ∙ sym e

  rides-same : (o : Outcome) (s : State) (cells : World) → SendsBytes c → taken (applied.Step o s) cells ≡ step w.providers w.cells c g → IsRiding (record { providers = w.providers; cells = cells }) (es ++ entry_of c g o s ∷ []) (is_done o)
  rides-same o s cells sends e =
      let x : Entry = entry_of c g o s in
      record {
        cells = sym (after-snoc w.providers (opening w.providers) [] es x ∙ ap (left_by (after w.providers es)) (this-step o s ∙ made-here o s cells e));
        standing = record {
          valid_providers = k.standing.valid_providers;
          legal = legal-snoc w.providers (opening w.providers) [] es x k.standing.legal (subst (λ z. Fits z x) (sym (this-step o s)) (fits-here o s cells e));
          bytes = bytes-more es x k.standing.bytes (begins-bytes g c sends);
          mine = own-append es (x ∷ []) 0 ∙ ap (λ z. z ++ x ∷ []) k.standing.mine;
          free = free-after c o ∙ ap is_none (sym (after-step es c g o s at));
        };
      }

  pub rides-more : (w' : Standing) (o : Outcome) (s : State) → SendsBytes c → w'.providers ≡ w.providers → taken (applied.Step o s) w'.cells ≡ step w.providers w.cells c g → IsRiding w' (es ++ entry_of c g o s ∷ []) (is_done o)
  rides-more w' o s sends same e =
      subst (λ (p : Providers). IsRiding (record { providers = p; cells = w'.cells }) (es ++ entry_of c g o s ∷ []) (is_done o)) (sym same) (rides-same o s w'.cells sends e)
