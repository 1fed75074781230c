-- The steps on a cell's turn turns the hall's rule.
use Rattle.std.proofs.Common.{◌≡◌, ◌≢◌, inl, inr, ℕ, suc, ◌+◌, ◌<◌, eqb, true, List, [], ◌∷◌, length, set, refl, ap, sym, subst, ◌∙◌, arith, length-set}
use Rattle.std.proofs.lemmas.List.{set-get_or}
use mathlib.Core.Option.{none, some, some-injective, some-ne-none}
use mathlib.Core.Option as maybe
use lib.ListN.{get_or, get_elem?}
use prog.Atomic.{either}
use Rattle.std.specs.Prelude.{Option, Some, None}
use Rattle.atomic_table.specs.Table.{State, Me, step, keeps, takes, gives, rest, Allows, stepped}
use Rattle.atomic_table.proofs.Lists.{set_here, set_else, set_again, exchanged}
use Rattle.xti_model.specs.World.{Cell as MCell}
use Rattle.xti_hall_rule.specs.declared.setting.Setting.{Setting}
use Rattle.xti_hall_rule.specs.Histories.{part, after, Legal}
use Rattle.xti_hall_rule.specs.declared.view.View.{View}
use Rattle.xti_hall_rule.specs.declared.view.Held.TheVariants.{Cell}
use Rattle.xti_hall_rule.specs.Rule.{Slot, Turn, free, kept, opened, bit, by, CellIn, SeatOk, HallRule}
use Rattle.xti_hall_rule.specs.Steps.{with_held, Fresh, Seated, Took, entered, refused_at, tried, settled, reopened, left}
use Rattle.xti_hall_rule.proofs.Frames.{at_length, cell_step}
use Rattle.xti_hall_rule.proofs.Looks.{view_step}

abbrev pub D : Type 0
D = View

bit_by : (k : Turn) → bit k ≡ 0 → k ≡ free
bit_by free e = refl
bit_by (kept j) e = absurd (omega arith)
bit_by (opened j) e = absurd (omega arith)

-- one turn held by a seat that has no slot kept: its value is taken kept
out_of : (k : Turn) (j : ℕ) → by k ≡ suc j → k ≢ opened j → k ≡ kept j
out_of free j e n = absurd (omega arith)
out_of (kept i) j e n = ap kept (omega arith)
out_of (opened i) j e n = absurd (n (ap opened (omega arith)))

module _ {C : Type 0} (stands : C → List (ℕ × MCell) → Type 0) (p : Setting) where
  abbrev H : State (Slot C) View → Type 0
  H = HallRule stands p

  -- what a step owes at one state
  abbrev pub Goes : State (Slot C) View → ℕ → ℕ → Seated C → (ℕ → Seated C → Type 0) → ℕ → ℕ → Type 0
  Goes s i id me then found new = (w : View) × (a : Rattle.atomic_table.specs.Table.Act (Slot C)) × Rattle.atomic_table.specs.Table.Valid s.homes me.1 a × H (stepped s i new id me.1 w a) × then found (w, Rattle.atomic_table.specs.Table.carried_after me.1 a)

  -- a step that changes nothing
  pub stays : (s : State (Slot C) View) (r : H s) (i id : ℕ) (me : Seated C) (then : ℕ → Seated C → Type 0) → get_elem? s.views id ≡ some me.0 → then (get_or s.words i 0) me
      → Goes s i id me then (get_or s.words i 0) (get_or s.words i 0)
  stays s r i id me then at told = (
    me.0,
    keeps,
    tt,
    subst H (λ k. record { words = sym (set-get_or s.words i 0) k; homes = s.homes; views = sym (set_again s.views id me.0 at) k }) r,
    told,
  )

  fresh : (s : State (Slot C) View) (r : H s) (id : ℕ) (v : View) → SeatOk p r.log r.turns r.marks r.pen r.owner id v → Fresh v
  fresh s r id v ok = (r.log, subst (λ z. Legal z r.log) (sym ok.history.setting) r.legal, ok.history.seen, λ i m e. (ok.cells.held i m e).1 ∙ ap (λ (z : Setting). part i (after z r.log)) (sym ok.history.setting))

  -- the seat's own records at a state
  mine_at : (s : State (Slot C) View) (r : H s) (id i : ℕ) (v : View) → get_elem? s.views id ≡ some v → (lt : i < p.cells) → by (r.turns i) ≡ suc id → (m : MCell) × (get_elem? v.held i ≡ some (Some m))
  mine_at s r id i v at lt mine = let q = (r.each_cell i lt).has id mine in let is : v ≡ q.0 = some-injective v q.0 (sym at ∙ q.2) in (q.1, ap (λ (z : View). get_elem? z.held i) is ∙ q.4)

  -- a cell's turn goes on with the same record, and the slot goes free empty
  settles' : (n id i : ℕ) (v : View) (more : List (ℕ × Slot C)) → v.live ≡ true → i < p.cells → v.opened ≡ suc i
      → Allows H n id (v, (i, None) ∷ more) (i + 1) (λ _. 1) (λ _ m. settled (v, (i, None) ∷ more) m)
  settles' n id i v more live lt opened_is s r wide at small = let ok = r.each_seat id v at live in let is : r.turns i ≡ opened id = ok.cells.is_opened i opened_is in let q = mine_at s r id i v at lt (ap by is) in let m : MCell = q.0 in
      let hs : ℕ = length s.homes in let deep : hs ≡ p.cells + 1 = r.deep in
      let r' = cell_step stands p s r id i 1 v (set s.homes i (some None)) (kept id) (Some m) 0 lt at live (length-set s.homes i (some None)) (λ k ne. set_else s.homes i k (some None) ne) refl
      (set_here s.homes i (some None) (omega arith)) (inr (ap by is)) (inr refl) (λ m' e. (refl, (let z : m' ≡ m = cc in z ∙ (ok.cells.held i m q.1).1))) (λ _. (m, refl)) (λ e. absurd (cc)) (λ k e. absurd (omega arith)) (inr opened_is) in (
        with_held v v.held 0,
        gives,
        tt,
        subst (λ (l : List (Option MCell)). H record { words = set s.words (i + 1) 1; homes = set s.homes i (some None); views = set s.views id (with_held v l 0) }) (set_again v.held i (Some m) q.1) r',
        refl,
      )

  pub settles : (n id i : ℕ) (me : Seated C) (more : List (ℕ × Slot C)) → me.0.live ≡ true → i < p.cells → me.0.opened ≡ suc i → me.1 ≡ (i, None) ∷ more → Allows H n id me (i + 1) (λ _. 1) (λ _ m. settled me m)
  settles n id i me more live lt is e = subst (λ (l : List (ℕ × Slot C)). Allows H n id (me.0, l) (i + 1) (λ _. 1) (λ _ m. settled (me.0, l) m)) (sym e) (settles' n id i me.0 more live lt is)

  -- the empty slot comes kept again
  pub reopens : (n id i : ℕ) (me : Seated C) (m : MCell) → me.0.live ≡ true → i < p.cells → me.0.opened ≡ 0 → get_elem? me.0.held i ≡ some (Some m)
      → Allows H n id me (i + 1) (λ _. 1) (λ _ m'. reopened (step n (i + 1) 1 0 none) me m')
  reopens n id i me m live lt shut has s r wide at small = let v : View = me.0 in let ok = r.each_seat id v at live in
      let unheld : r.turns i ≢ opened id = λ e. let z : v.opened ≡ suc i = ok.cells.opened_is i lt e in omega arith in
      let is : r.turns i ≡ kept id = out_of (r.turns i) id (ok.cells.held i m has).0 unheld in let empty = subst (CellIn stands p s.homes r.log i) is (r.each_cell i lt).value in
      let r' = cell_step stands p s r id i 1 v (set s.homes i none) (opened id) (Some m) (suc i) lt at live (length-set s.homes i none) (λ k ne. set_else s.homes i k none ne) refl tt
      (inr (ap by is)) (inr refl) (λ m' e. (refl, (let z : m' ≡ m = cc in z ∙ (ok.cells.held i m has).1))) (λ _. (m, refl)) (λ _. refl) (λ k e. (omega arith, refl)) (inl shut) in (
        with_held v v.held (suc i),
        takes i None,
        empty,
        subst (λ (l : List (Option MCell)). H record { words = set s.words (i + 1) 1; homes = set s.homes i none; views = set s.views id (with_held v l (suc i)) }) (set_again v.held i (Some m) has) r',
        λ k e. let same : i ≡ k = omega arith in λ z. (with_held v v.held (suc (same z)), (same z, None) ∷ me.1),
      )

  -- the value goes free with the turn
  leaves' : (n id i : ℕ) (v : View) (x : C) (m : MCell) (more : List (ℕ × Slot C)) → v.live ≡ true → i < p.cells → v.opened ≡ suc i → get_elem? v.held i ≡ some (Some m) → stands x ((i, m) ∷ [])
      → Allows H n id (v, (i, Some (Cell x)) ∷ more) (i + 1) (λ _. 0) (λ _ m'. left (step n (i + 1) 0 0 none) (v, (i, Some (Cell x)) ∷ more) m')
  leaves' n id i v x m more live lt opened_is has good s r wide at small = let ok = r.each_seat id v at live in let is : r.turns i ≡ opened id = ok.cells.is_opened i opened_is in
      let hs : ℕ = length s.homes in let deep : hs ≡ p.cells + 1 = r.deep in let y : maybe.Option (Slot C) = some (Some (Cell x)) in
      let r' = cell_step stands p s r id i 0 v (set s.homes i y) free None 0 lt at live (length-set s.homes i y) (λ k ne. set_else s.homes i k y ne) refl
      (x, set_here s.homes i y (omega arith), subst (λ (z : MCell). stands x ((i, z) ∷ [])) (ok.cells.held i m has).1 good) (inr (ap by is)) (inl refl) (λ m' e. absurd (cc)) (λ e. absurd (omega arith)) (λ e. absurd (cc)) (λ k e. absurd (omega arith)) (inr opened_is) in (
        with_held v (set v.held i None) 0,
        gives,
        tt,
        r',
        λ k e. let same : i ≡ k = omega arith in λ z. (with_held v (set v.held (same z) None) 0, more),
      )

  pub leaves : (n id i : ℕ) (me : Seated C) (x : C) (m : MCell) (more : List (ℕ × Slot C)) → me.0.live ≡ true → i < p.cells → me.0.opened ≡ suc i → get_elem? me.0.held i ≡ some (Some m) → stands x ((i, m) ∷ []) → me.1 ≡ (i, Some (Cell x)) ∷ more
      → Allows H n id me (i + 1) (λ _. 0) (λ _ m'. left (step n (i + 1) 0 0 none) me m')
  leaves n id i me x m more live lt is has good e = subst (λ (l : List (ℕ × Slot C)). Allows H n id (me.0, l) (i + 1) (λ _. 0) (λ _ m'. left (step n (i + 1) 0 0 none) (me.0, l) m')) (sym e) (leaves' n id i me.0 x m more live lt is has good)

-- a try at a cell's turn: it is taken with its value, which stands for the cell in this hall
pub enters : {C : Type 0} (S : Setting → C → List (ℕ × MCell) → Type 0) (p : Setting) (n id i : ℕ) (me : Seated C) → me.0.live ≡ true → i < p.cells → me.0.opened ≡ 0
    → Allows (HallRule (S p) p) n id me (i + 1) (λ n. either (eqb n 0) 1 n) (entered S (step n (i + 1) 0 1 none) me)
enters {C} S p n id i me live lt shut s r wide at small = let f : ℕ = get_or s.words (i + 1) 0 in let told = entered S (step n (i + 1) 0 1 none) me in
    exchanged f 0 1 (Goes (S p) p s (i + 1) id me told f)
    (λ hit. let ok = r.each_cell i lt in let unheld : r.turns i ≡ free = bit_by (r.turns i) (sym ok.word ∙ hit) in let v : View = me.0 in
    let here = subst (CellIn (S p) p s.homes r.log i) unheld ok.value in let x : C = here.0 in let m : MCell = part i (after p r.log) in
    let w : View = with_held v (set v.held i (Some m)) (suc i) in
    let r' = cell_step (S p) p s r id i 1 v (set s.homes i none) (opened id) (Some m) (suc i) lt at live (length-set s.homes i none) (λ k ne. set_else s.homes i k none ne) refl tt
    (inl (ap by unheld)) (inr refl) (λ m' e. (refl, cc)) (λ _. (m, refl)) (λ _. refl) (λ k e. (omega arith, refl)) (inl shut) in
    let ok' = r'.each_seat id w (set_here s.views id w (at_length s.views id v at)) live in (
      w,
      takes i (Some (Cell x)),
      here.1,
      r',
      ((λ _ k is. let same : i ≡ k = omega arith in subst (λ (z : ℕ). Took S me z (w, (i, Some (Cell x)) ∷ me.1)) same (x, m, refl, subst (λ (z : Setting). S z x ((i, m) ∷ [])) (sym (r.each_seat id v at live).history.setting) here.2, fresh (S p) p _ r' id w ok', (let room : length v.held ≡ p.cells = (r.each_seat id v at live).cells.room in omega arith))), λ miss. absurd (miss hit)),
    ))
    (λ miss. stays (S p) p s r (i + 1) id me told at ((λ hit. absurd (miss hit)), λ _. refl))

-- where the turn is held, a try is recorded
pub refuses : {C : Type 0} (S : Setting → C → List (ℕ × MCell) → Type 0) (p : Setting) (s : State (Slot C) View) (r : HallRule (S p) p s) (id i : ℕ) (v : View)
    → get_elem? s.views id ≡ some v → v.live ≡ true → HallRule (S p) p record { words = s.words; homes = s.homes; views = set s.views id (refused_at v i) }
refuses S p s r id i v at live = let ok = r.each_seat id v at live in let h = ok.history in
    view_step (S p) p s r id s.words v (refused_at v i) refl (λ _ _. refl) at live refl refl (λ k x. x) record {
      history = record { setting = h.setting; seen = h.seen; mine = h.mine; mine_seen = h.mine_seen; no_calls = h.no_calls; heard = h.heard };
      cells = record { room = ok.cells.room; held = ok.cells.held; opened_is = ok.cells.opened_is; is_opened = ok.cells.is_opened };
      journal = record { held = ok.journal.held };
      numbers = λ x. let k = ok.numbers x in record { owned = k.owned; below = k.below; small = k.small; marked = k.marked; spare = k.spare };
    }

-- a try at a cell's turn that isn't made again
pub tries : {C : Type 0} (S : Setting → C → List (ℕ × MCell) → Type 0) (p : Setting) (n id i : ℕ) (me : Seated C) → me.0.live ≡ true → i < p.cells → me.0.opened ≡ 0
    → Allows (HallRule (S p) p) n id me (i + 1) (λ n. either (eqb n 0) 1 n) (tried S (step n (i + 1) 0 1 none) me)
tries {C} S p n id i me live lt shut s r wide at small = let f : ℕ = get_or s.words (i + 1) 0 in let v : View = me.0 in
    let told = tried S (step n (i + 1) 0 1 none) me in
    let e = enters S p n id i me live lt shut s r wide at small in
    exchanged f 0 1 (Goes (S p) p s (i + 1) id me told f)
    (λ hit. let one : either (eqb f 0) 1 f ≡ 1 = exchanged f 0 1 (λ x. x ≡ 1) (λ _. refl) (λ miss. absurd (miss hit)) in
    (e.0, e.1, e.2, subst (λ (x : ℕ). HallRule (S p) p (stepped s (i + 1) x id me.1 e.0 e.1)) one e.3, (e.4.0, λ miss. absurd (miss hit))))
    (λ miss. (
      refused_at v i,
      keeps,
      tt,
      subst (λ (z : List ℕ). HallRule (S p) p record { words = z; homes = s.homes; views = set s.views id (refused_at v i) }) (sym (set-get_or s.words (i + 1) 0)) (refuses S p s r id i v at live),
      ((λ hit. absurd (miss hit)), λ _ k is. let same : i ≡ k = omega arith in ap (λ (z : ℕ). (refused_at v z, me.1)) same),
    ))
