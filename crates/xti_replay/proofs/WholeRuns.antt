-- Turns, one after the other, are the run of the definition.
use Rattle.std.proofs.Common.{◌≡◌, ℕ, zero, suc, ◌-◌, ◌<◌, ◌⊎◌, inl, inr, Bool, true, false, List, [], ◌∷◌, ◌++◌, Option, Some, None, refl, sym, ap, ◌∙◌, subst, arith}
use Rattle.std.specs.Prelude.{◌↔◌, if◌then◌else◌}
use Rattle.std.specs.List.{list_all}
use Rattle.std.proofs.lemmas.Bool.{and_parts, eqb-true}
use Rattle.std.proofs.lemmas.Option.{none-some, same_Some}
use Rattle.xti_base.specs.declared.limits.TheConstants.{WORKERS}
use Rattle.xti_model.specs.declared.entry.Entry.{Entry}
use Rattle.xti_model.specs.declared.script.Line.{Line}
use Rattle.xti_model.specs.declared.script.Script.{Script}
use Rattle.xti_model.specs.declared.script.StallLine.{StallLine}
use Rattle.xti_model.specs.declared.profile.Providers.{Providers}
use Rattle.xti_model.specs.World.{World, opening}
use Rattle.xti_model.specs.History.{after}
use Rattle.xti_model.specs.Robin.{is_through, last_worker, order_after, whose_turn, Turn, turn, first_turn, next_turn, robin_from, robin, most_steps}
use Rattle.xti_model.specs.Complete.{is_setup, setup_first, IsHistoryOf}
use Rattle.xti_model.proofs.Completing.{last-within}
use Rattle.xti_replay.specs.declared.run.Run.{Run}
use Rattle.xti_replay.specs.Runs.{StandsAfter, GoesOn, Leads, IsWhole}
use Rattle.xti_replay.specs.Stalls.{gone_on, stalls_after, are_through}
use Rattle.xti_replay.specs.Turns.{AreTurns}
use Rattle.xti_replay.proofs.OthersAsked.{no-turn}
use Rattle.xti_replay.proofs.StallLines.{stalls-through}

-- The beginning.

setup-last : (w : ℕ) (past : List Entry) → w ≡ 0 → list_all is_setup past ≡ true → last_worker w past ≡ 0
setup-last w [] z h = z
setup-last w (e ∷ past) z h = let parts = and_parts (is_setup e) (list_all is_setup past) h in setup-last e.worker past (eqb-true e.worker 0 parts.0) parts.1

pub history-last : (p : Providers) (lines : List Line) (past : List Entry) → IsHistoryOf p lines past → last_worker 0 past < WORKERS
history-last p lines past h = last-within 0 past (omega arith) h.workers_only

pub history-setup : (p : Providers) (lines : List Line) (past : List Entry) → IsHistoryOf p lines past → is_through lines past 0 ≡ false → last_worker 0 past ≡ 0
history-setup p lines past h f = by h.phase
  where
    by : (list_all is_setup past ≡ true) ⊎ ((setup_first past ≡ true) × (is_through lines past 0 ≡ true)) → last_worker 0 past ≡ 0
    by (inl all) = setup-last 0 past refl all
    by (inr t) = absurd (let no : true ≡ false = sym t.1 ∙ f in cc)

-- One entry more.

runs_on : Providers → List Line → ℕ → List Entry → Option Turn → List Entry
runs_on p lines m past None = past
runs_on p lines m past (Some t) = robin_from p lines m t.world (past ++ t.entry ∷ [])

turned : (p : Providers) (lines : List Line) (m : ℕ) (w : World) (past : List Entry) → robin_from p lines (suc m) w past ≡ runs_on p lines m past (next_turn p lines w past)
unfolding runs_on
turned p lines m w past = by (next_turn p lines w past)
  where
    by : (o : Option Turn) → ◌≡◌ {A = List Entry} (elim o [ None ↦ past | Some t ↦ robin_from p lines m t.world (past ++ t.entry ∷ []) ]) (runs_on p lines m past o)
    by None = refl
    by (Some t) = refl

-- where nobody is left no entry follows, whatever the world
none-follow : (p : Providers) (lines : List Line) (more : ℕ) (w : World) (past : List Entry) → is_through lines past 0 ≡ true → AreTurns lines past [] → robin_from p lines more w past ≡ past
unfolding runs_on
none-follow p lines zero w past through turns = refl
none-follow p lines (suc m) w past through turns =
    let order : whose_turn lines past ≡ order_after (last_worker 0 past) = ap (λ (b : Bool). if b then order_after (last_worker 0 past) else 0 ∷ []) through in
    let none : next_turn p lines w past ≡ None = ap (first_turn (turn p lines w past)) order ∙ no-turn p lines w past (order_after (last_worker 0 past)) turns in
    turned p lines m w past ∙ ap (runs_on p lines m past) none

-- so it is all the same from which world the run goes on
pub same-end : (p : Providers) (lines : List Line) (more : ℕ) (v w : World) (past : List Entry) (r : Run) → StandsAfter past r → r.lines.now ≡ lines → is_through r.lines.now past 0 ≡ true → r.turns.items ≡ [] → robin_from p lines more v past ≡ robin_from p lines more w past
same-end p lines more v w past r k is through none =
    let through_all : is_through lines past 0 ≡ true = subst (λ (ls : List Line). is_through ls past 0 ≡ true) is through in
    let turns : AreTurns lines past [] = subst (λ (ls : List Line). AreTurns ls past []) is (subst (AreTurns r.lines.now past) none k.turns) in
    none-follow p lines more v past through_all turns ∙ sym (none-follow p lines more w past through_all turns)

abbrev pub turn_of_run : List Entry → Run → Option Turn
turn_of_run past r = next_turn r.world.providers r.lines.now r.world.cells past

turn-is : (s : Script) (all : List Entry) (more : ℕ) (past : List Entry) (r : Run) → Leads s all more past r → turn_of_run past r ≡ next_turn s.providers s.lines r.world.cells past
turn-is s all more past r k = ap (λ (p : Providers). next_turn p r.lines.now r.world.cells past) k.providers ∙ ap (λ (ls : List Line). next_turn s.providers ls r.world.cells past) k.lines

pub leads-step : (s : Script) (all : List Entry) (more less : ℕ) (past : List Entry) (r t : Run) (entry : Option Entry) (e : Entry) → Leads s all more past r → 0 < more → less ≡ more - 1 → GoesOn past r t entry (turn_of_run past r) → t.world.providers ≡ r.world.providers → t.lines.now ≡ r.lines.now → entry ≡ Some e
    → Leads s all less (past ++ e ∷ []) t
unfolding runs_on
leads-step s all zero less past r t entry e k pos m g providers lines some = absurd (omega arith)
leads-step s all (suc n) less past r t entry e k pos m g providers lines some =
    let one : n ≡ less = omega (arith, m) in
    subst (λ (l : ℕ). Leads s all l (past ++ e ∷ []) t) one (by (turn_of_run past r) refl g)
  where
    by : (o : Option Turn) → turn_of_run past r ≡ o → GoesOn past r t entry o → Leads s all n (past ++ e ∷ []) t
    by None q g = absurd (none-some e (sym g.0 ∙ some))
    by (Some u) q g =
        let same : u.entry ≡ e = same_Some u.entry e (sym g.0 ∙ some) in
        let next : next_turn s.providers s.lines r.world.cells past ≡ Some u = sym (turn-is s all (suc n) past r k) ∙ q in
        subst (λ (x : Entry). Leads s all n (past ++ x ∷ []) t) same (record {
          stands = g.2;
          lines = lines ∙ k.lines;
          providers = providers ∙ k.providers;
          left = ap (λ (w : World). robin_from s.providers s.lines n w (past ++ u.entry ∷ [])) g.1 ∙ ap (runs_on s.providers s.lines n past) (sym next) ∙ sym (turned s.providers s.lines n r.world.cells past) ∙ k.left;
        })

whole-of : (s : Script) (past all : List Entry) (r : Run) → past ≡ all → StandsAfter past r → r.lines.now ≡ s.lines → IsWhole s all r
whole-of s past all r e k l = record { stands = subst (λ (es : List Entry). StandsAfter es r) e k; lines = l }

pub leads-end : (s : Script) (all : List Entry) (more : ℕ) (past : List Entry) (r t : Run) (entry : Option Entry) → Leads s all more past r → 0 < more → GoesOn past r t entry (turn_of_run past r) → t.lines.now ≡ r.lines.now → entry ≡ None → (past ≡ all) × IsWhole s all t
unfolding runs_on
leads-end s all zero past r t entry k pos g lines none = absurd (omega arith)
leads-end s all (suc n) past r t entry k pos g lines none = by (turn_of_run past r) refl g
  where
    by : (o : Option Turn) → turn_of_run past r ≡ o → GoesOn past r t entry o → (past ≡ all) × IsWhole s all t
    by (Some u) q g = absurd (none-some u.entry (sym none ∙ g.0))
    by None q g =
        let next : next_turn s.providers s.lines r.world.cells past ≡ None = sym (turn-is s all (suc n) past r k) ∙ q in
        let end : past ≡ all = ap (runs_on s.providers s.lines n past) (sym next) ∙ sym (turned s.providers s.lines n r.world.cells past) ∙ k.left in
        (end, whole-of s past all t end g.2 (lines ∙ k.lines))

pub leads-stop : (s : Script) (all : List Entry) (more : ℕ) (past : List Entry) (r : Run) → more ≡ 0 → Leads s all more past r → (past ≡ all) × IsWhole s all r
leads-stop s all zero past r z k = (k.left, whole-of s past all r k.left k.stands k.lines)
leads-stop s all (suc n) past r z k = absurd (omega (arith, z))

-- where there are no entries yet, the whole run follows
pub gone-from_start : (s : Script) → gone_on s [] ≡ robin s
unfolding gone_on
gone-from_start s = let begun : after s.providers [] ≡ opening s.providers = refl in ap (λ (w : World). robin_from s.providers s.lines most_steps w []) begun

-- what a run to its end gives
pub record Ends (s : Script) (all : List Entry) (told : List StallLine) : Type 0 where
  pub stalls : told ≡ stalls_after s.lines all
  pub through : (told ≡ []) ↔ (are_through s.lines all ≡ true)

pub ends : (s : Script) (all : List Entry) (told : List StallLine) (lines : List Line) → lines ≡ s.lines → told ≡ stalls_after lines all → Ends s all told
ends s all told lines e t =
    let stalled : told ≡ stalls_after s.lines all = t ∙ ap (λ (ls : List Line). stalls_after ls all) e in
    record { stalls = stalled; through = subst (λ (l : List StallLine). (l ≡ []) ↔ (are_through s.lines all ≡ true)) (sym stalled) (stalls-through s.lines all) }
