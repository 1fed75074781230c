-- A step that is made answers what C asked.
use Rattle.std.proofs.Common.{◌≡◌, ◌≤◌, ◌<◌, ℕ, List, refl, sym, subst, ap, arith, ◌∙◌}
use Rattle.std.specs.Prelude.{Some, None, false}
use Rattle.std.specs.Option.{MatchOption}
use Rattle.xti_base.specs.declared.kinds.State.{State}
use Rattle.xti_model.specs.declared.call.Call.{Call}
use Rattle.xti_model.specs.declared.entry.Go.{Go}
use Rattle.xti_model.specs.declared.entry.Outcome.{Outcome}
use Rattle.xti_model.specs.declared.entry.Outcome.TheVariants.{Done, Part}
use Rattle.xti_model.specs.Memory.{may_run_out}
use Rattle.xti_model.specs.Step.{step}
use Rattle.xti_core.specs.Standing.{Standing}
use Rattle.xti_flat.specs.declared.asked.Asked.{Asked}
use Rattle.xti_flat.specs.declared.bytes.Bytes.{Bytes}
use Rattle.xti_flat.specs.declared.told.Told.{Told}
use Rattle.xti_verbs.specs.Verbs.{verb_of}
use Rattle.xti_flat.specs.Calls.{Asks, AsksNoCall, CopiesNone, CopiesTakeNone, go_of}
use Rattle.xti_flat.specs.Answers.{Rooms, told_of, end_of, filled}
use Rattle.xti_c.specs.Answers.{Answers, IsSure, Leaves, Places, RunsOutRightly, Steps, TellsNoCall, places_of}

pub small : (o : Outcome) → end_of o ≤ 1
small (Done r) = omega arith
small (Part taken) = omega arith

-- a number that no call has is no call's
pub asks_none : (a : Asked) (b : Bytes) (c : Call) → Asks c a b → AsksNoCall a → ⊥
asks_none a b c asks m = let e : None ≡ Some (verb_of c) = sym m ∙ asks.0 in cc

-- a step that is made leaves what it should
pub made_steps : (w w' : Standing) (c : Call) (g : Go) (o : Outcome) (after : State) (n : ℕ) (t t' : Told) (r r' : Rooms)
    → Some (record { outcome = o; after = after; world = w'.cells }) ≡ step w.providers w.cells c g → w'.providers ≡ w.providers
    → n ≡ end_of o → t' ≡ told_of o after → r' ≡ filled o r → Steps c g w w' n (record { told = t; rooms = r }) (record { told = t'; rooms = r' })
made_steps w w' c g o after n t t' r r' es ep en et er =
    let few : n ≤ 1 = subst (λ (m : ℕ). m ≤ 1) (sym en) (small o) in
    record {
      made = λ _. subst (λ s. Leaves s w w' n (record { told = t; rooms = r }) (record { told = t'; rooms = r' })) es (refl, en, et, er);
      not_made = λ (l : 3 ≤ n). let no : ⊥ = omega arith in absurd no;
      end = omega arith;
      providers = ep;
    }

-- a blocked step leaves all as it was
pub blocked_steps : (w w' : Standing) (c : Call) (g : Go) (t : Places) → None ≡ step w.providers w.cells c g → w' ≡ w → Steps c g w w' 2 t t
blocked_steps w w' c g t es ew = record {
  made = λ _. subst (λ s. Leaves s w w' 2 t t) es (ew, refl, refl);
  not_made = λ (l : 3 ≤ 2). let no : ⊥ = omega arith in absurd no;
  end = omega arith;
  providers = ap (λ (v : Standing). v.providers) ew;
}

-- out of memory leaves all as it was
pub unmade_steps : (w w' : Standing) (c : Call) (g : Go) (t : Places) → w' ≡ w → Steps c g w w' 3 t t
unmade_steps w w' c g t ew = record {
  made = λ (f : 3 < 3). let no : ⊥ = omega arith in absurd no;
  not_made = λ _. (ew, refl);
  end = omega arith;
  providers = ap (λ (v : Standing). v.providers) ew;
}

-- what a branch leaves is what is left behind it
pub left_steps : (w w' : Standing) (c : Call) (g : Go) (n m : ℕ) (t : Places) (told told' : Told) (addr addr' opt opt' udata udata' : List ℕ)
    → n ≡ m → told ≡ told' → addr ≡ addr' → opt ≡ opt' → udata ≡ udata'
    → Steps c g w w' m t (places_of told' addr' opt' udata') → Steps c g w w' n t (places_of told addr opt udata)
left_steps w w' c g n m t told told' addr addr' opt opt' udata udata' en et ea eo eu s =
    let places : places_of told' addr' opt' udata' ≡ places_of told addr opt udata = cc in
    subst (λ (k : ℕ). Steps c g w w' k t (places_of told addr opt udata)) (sym en) (subst (λ p. Steps c g w w' m t p) places s)

-- the step of the call that is asked for answers what C asked
pub step_answers : (a : Asked) (b : Bytes) (w w' : Standing) (c : Call) (g : Go) (n : ℕ) (t t' : Places)
    → Asks c a b → g ≡ go_of a → Steps c g w w' n t t' → Answers a b w w' n t t'
step_answers a b w w' c g n t t' asks eg s = let most = s.end in record {
  made = λ f. (c, asks, subst (λ h. Leaves (step w.providers w.cells c h) w w' n t t') eg (s.made f));
  not_made = s.not_made;
  no_call = λ (e : n ≡ 4). let no : ⊥ = omega arith in absurd no;
  end = omega arith;
  providers = s.providers;
}

-- it is out of memory only where it may be
pub step_rightly : (a : Asked) (b : Bytes) (w : Standing) (c : Call) (g : Go) (n : ℕ)
    → Asks c a b → g ≡ go_of a → IsSure c g w n → RunsOutRightly w a b n
step_rightly a b w c g n asks eg sure copies steps =
    sure (subst (λ h. may_run_out w.providers w.cells c h ≡ false) (sym eg) (steps c asks))

-- where no call has the number, nothing is copied
pub copies_none : (a : Asked) (b : Bytes) → AsksNoCall a → CopiesTakeNone a b
copies_none a b m = subst (λ v. MatchOption v (Unit {0}) (λ verb. CopiesNone verb b)) (sym m) tt

-- out of memory, and no such call, leave all as it was
pub unmade_answers : (a : Asked) (b : Bytes) (w w' : Standing) (n : ℕ) (t : Places)
    → w' ≡ w → 3 ≤ n → n ≤ 4 → (n ≡ 4 → AsksNoCall a) → Answers a b w w' n t t
unmade_answers a b w w' n t ew l m no_call = record {
  made = λ (f : n < 3). let no : ⊥ = omega arith in absurd no;
  not_made = λ _. (ew, refl);
  no_call = no_call;
  end = m;
  providers = ap (λ (v : Standing). v.providers) ew;
}

-- a call that is read has its number
pub reads_call : (a : Asked) (b : Bytes) (n : ℕ) (c : Call) → Asks c a b → TellsNoCall a n
reads_call a b n c asks m = absurd (asks_none a b c asks m)
