-- Entries of worker 0, each of which begins a call and finishes it: each is the step of its call in the world before it.
use Rattle.std.proofs.Common.{ℕ, true, List, [], ◌∷◌, ◌++◌, ◌≡◌, refl, sym, ap, subst, flat_map, Option, Some, None, option_and_then}
use Rattle.std.specs.List.{AllByRecursion, list_all}
use Rattle.xti_base.specs.declared.kinds.State.{State}
use Rattle.xti_model.specs.declared.call.Call.{Call}
use Rattle.xti_model.specs.declared.entry.Act.TheVariants as act
use Rattle.xti_model.specs.declared.entry.Reply.{Reply}
use Rattle.xti_model.specs.declared.entry.Entry.{Entry}
use Rattle.xti_model.specs.World.{World}
use Rattle.xti_model.specs.Step.{Step}
use Rattle.xti_model.specs.Profile.{usual}
use Rattle.xti_model.specs.History.{Going, is_own, own, unfinished_from, made_by, doing, step_going, step_at, left_by, Fits, LegalFrom}
use Rattle.xti_model.proofs.Appending.{all-append}
use Rattle.xti_laws_streams.specs.Copying.{answered, before, exchange, ending, copied, pieces}

-- the entry is that of a call that is done at once
pub record IsSingle (e : Entry) : Type 0 where
  pub call : Call
  pub reply : Reply
  pub state : State
  pub is : e ≡ answered call reply state

pub single : (c : Call) (r : Reply) (s : State) → IsSingle (answered c r s)
single c r s = record { call = c; reply = r; state = s; is = refl }

abbrev pub AreSingle : List Entry → Type 0
AreSingle entries = AllByRecursion IsSingle entries

-- the entries of a copy

pub before-single : AreSingle before
before-single = (single _ _ _, (single _ _ _, (single _ _ _, (single _ _ _, (single _ _ _, (single _ _ _, (single _ _ _, (single _ _ _, (single _ _ _, tt)))))))))

pub ending-single : AreSingle ending
ending-single = (single _ _ _, (single _ _ _, (single _ _ _, (single _ _ _, (single _ _ _, (single _ _ _, (single _ _ _, (single _ _ _, (single _ _ _, tt)))))))))

pub exchanges-single : (ps : List (List ℕ)) → AreSingle (flat_map exchange ps)
exchanges-single [] = tt
exchanges-single (p ∷ ps) = (single _ _ _, (single _ _ _, exchanges-single ps))

pub copied-single : (input : List ℕ) → AreSingle (copied input)
copied-single input = all-append IsSingle before (flat_map exchange (pieces input) ++ ending) before-single (all-append IsSingle (flat_map exchange (pieces input)) ending (exchanges-single (pieces input)) ending-single)

-- all are worker 0's
pub all-own : (es : List Entry) → AreSingle es → list_all (is_own 0) es ≡ true
all-own [] h = refl
all-own (e ∷ es) h = subst (λ e. list_all (is_own 0) (e ∷ es) ≡ true) (sym h.0.is) (all-own es h.1)

-- none is unfinished

quiet : (c : Option Call) (es : List Entry) → AreSingle es → unfinished_from c None (own es 0) ≡ None
quiet c [] h = refl
quiet c (e ∷ es) h = subst (λ e. unfinished_from c None (own (e ∷ es) 0) ≡ None) (sym h.0.is) (quiet (Some h.0.call) es h.1)

-- what a single entry does: it begins its call
abbrev pub begun_by : Entry → Option Going
begun_by e = made_by None e.act

pub doing-single : (past : List Entry) (e : Entry) → AreSingle past → IsSingle e → doing past e ≡ begun_by e
doing-single past e p h = subst (λ e. doing past e ≡ begun_by e) (sym h.is) (ap (λ u. made_by u (act.Begin h.call)) (quiet None past p))

-- the step of its call
abbrev pub fresh : World → Entry → Option Step
fresh w e = option_and_then (step_going usual w) (begun_by e)

-- each entry is the step of its call
abbrev pub AreSteps : World → List Entry → Type 0
AreSteps w [] = Unit {0}
AreSteps w (e ∷ es) = Fits (fresh w e) e × AreSteps (left_by w (fresh w e)) es

-- the world after them
abbrev pub left : World → List Entry → World
left w [] = w
left w (e ∷ es) = left (left_by w (fresh w e)) es

pub steps-append : (w : World) (xs ys : List Entry) → AreSteps w xs → AreSteps (left w xs) ys → AreSteps w (xs ++ ys)
steps-append w [] ys h k = k
steps-append w (x ∷ xs) ys h k = (h.0, steps-append (left_by w (fresh w x)) xs ys h.1 k)

-- an entry that is the step of its call, and more
pub step-more : (w v : World) (e : Entry) (es : List Entry) → fresh w e ≡ Some (record { outcome = e.outcome; after = e.after; world = v }) → AreSteps v es → AreSteps w (e ∷ es)
step-more w v e es h k = subst (λ o. Fits o e × AreSteps (left_by w o) es) (sym h) ((refl, refl), k)

-- such entries are legal
pub legal-steps : (w : World) (past es : List Entry) → AreSingle past → AreSingle es → AreSteps w es → LegalFrom usual w past es
legal-steps w past [] p s k = tt
legal-steps w past (e ∷ es) p s k =
    let same : step_at usual w past e ≡ fresh w e = ap (option_and_then (step_going usual w)) (doing-single past e p s.0) in (
      subst (λ o. Fits o e) (sym same) k.0,
      subst (λ o. LegalFrom usual (left_by w o) (past ++ e ∷ []) es) (sym same)
          (legal-steps (left_by w (fresh w e)) (past ++ e ∷ []) es (all-append IsSingle past (e ∷ []) p (s.0, tt)) s.1 k.1),
    )
