-- A worker's own entries, alone and after those of others.
use Rattle.std.proofs.Common.{◌≡◌, ◌≢◌, ℕ, ◌<◌, Bool, true, false, List, [], ◌∷◌, ◌++◌, refl, sym, ap, ◌∙◌, subst, arith, append_assoc}
use Rattle.std.specs.Prelude.{◌&&◌, if◌then◌else◌}
use Rattle.std.specs.List.{AllByRecursion, list_all}
use Rattle.std.proofs.lemmas.Bool.{eq-eqb, eqb-true, ne_eqb, false≢true}
use Rattle.std.proofs.lemmas.List.{append-nil}
use Rattle.xti_model.specs.declared.entry.Entry.{Entry}
use Rattle.xti_model.specs.declared.script.Line.{Line}
use Rattle.xti_model.specs.History.{is_own}
use Rattle.xti_model.specs.Complete.{is_setup}
use Rattle.xti_model.proofs.Appending.{own-append, all-split}
use Rattle.xti_hall_rule.specs.declared.view.View.{View}
use Rattle.xti_hall_rule.specs.Histories.{own}
use Rattle.xti_hall.specs.Seats.{IsStanding}
use Rattle.xti_replay.specs.declared.workers.Worker.{Worker}
use Rattle.xti_replay.specs.Progress.{Told}
use Rattle.xti_replay.proofs.Lines.{told-other}

abbrev pub IsBy : ℕ → Entry → Type 0
IsBy k e = e.worker ≡ k

own-by : (k : ℕ) (h : List Entry) → AllByRecursion (IsBy k) (own k h)
own-by k [] = tt
own-by k (e ∷ h) = by (is_own k e) refl (own-by k h)
  where
    by : (b : Bool) → is_own k e ≡ b → AllByRecursion (IsBy k) (own k h) → AllByRecursion (IsBy k) (if b then e ∷ own k h else own k h)
    by true i r = (eqb-true e.worker k i, r)
    by false i r = r

-- all entries of one worker are its own
pub own-all : (k : ℕ) (h : List Entry) → AllByRecursion (IsBy k) h → own k h ≡ h
own-all k [] a = refl
own-all k (e ∷ h) a = rw (eq-eqb e.worker k a.0) (ap (λ (l : List Entry). e ∷ l) (own-all k h a.1))

-- and none of another's
pub own-none-of : (k n : ℕ) (h : List Entry) → k ≢ n → AllByRecursion (IsBy k) h → own n h ≡ []
own-none-of k n [] ne a = refl
own-none-of k n (e ∷ h) ne a = rw (ne_eqb e.worker n (λ i. ne (sym a.0 ∙ i))) (own-none-of k n h ne a.1)

-- worker 0's entries are none of another's
pub own-setup : (n : ℕ) (h : List Entry) → 0 < n → list_all is_setup h ≡ true → own n h ≡ []
own-setup n [] lt a = refl
own-setup n (e ∷ h) lt a = by (is_setup e) refl a (own-setup n h lt)
  where
    by : (b : Bool) → is_setup e ≡ b → (b && list_all is_setup h) ≡ true → (list_all is_setup h ≡ true → own n h ≡ []) → own n (e ∷ h) ≡ []
    by true i a ih = let z = eqb-true e.worker 0 i in rw (ne_eqb e.worker n (λ x. omega (arith, x, z))) (ih a)
    by false i a ih = absurd (false≢true a)

-- what a seat has made is by its number
pub mine-by : (v : View) (n : ℕ) → v.number ≡ n → IsStanding v → AllByRecursion (IsBy n) v.mine
mine-by v n e s = subst (λ (m : ℕ). AllByRecursion (IsBy m) v.mine) e (subst (AllByRecursion (IsBy v.number)) s.mine (own-by v.number v.seen))

pub more-by : (v v' : View) (es : List Entry) (n : ℕ) → v'.number ≡ n → IsStanding v' → v'.mine ≡ v.mine ++ es → AllByRecursion (IsBy n) es
more-by v v' es n e s mine = (all-split (IsBy n) v.mine es (subst (AllByRecursion (IsBy n)) mine (mine-by v' n e s))).1

-- the seat's own entries after those of others
pub own-after : (front : List Entry) (v : View) (n : ℕ) → own n front ≡ [] → v.number ≡ n → IsStanding v → own n (front ++ v.mine) ≡ v.mine
own-after front v n none e s = own-append front v.mine n ∙ (ap (λ (es : List Entry). es ++ own n v.mine) none ∙ own-all n v.mine (mine-by v n e s))

-- what is told of one worker stays as another makes calls
pub told-others : (lines : List Line) (past es : List Entry) (k n : ℕ) (w : Worker) → k ≢ n → AllByRecursion (IsBy k) es → Told lines past n w → Told lines (past ++ es) n w
told-others lines past [] k n w ne a t = subst (λ (z : List Entry). Told lines z n w) (sym (append-nil past)) t
told-others lines past (e ∷ es) k n w ne a t =
    subst (λ (z : List Entry). Told lines z n w) (append_assoc past (e ∷ []) es)
    (told-others lines (past ++ e ∷ []) es k n w ne a.1 (told-other lines past e n w (λ i. ne (sym a.0 ∙ i)) t))
