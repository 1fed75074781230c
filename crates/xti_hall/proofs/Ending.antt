-- A seat that took the journal for good and saw the history, one whose journal went back with no more seen, and one that gave
-- a number away.
use Rattle.std.proofs.Common.{◌≡◌, ℕ, ◌+◌, ◌<◌, ◌≤◌, List, [], ◌∷◌, refl, ap, sym, subst, ◌∙◌, if◌then◌else◌, true, false, arith}
use Rattle.std.specs.Prelude.{Option, None}
use Rattle.atomic_table.specs.Table.{rest}
use Rattle.xti_model.specs.declared.entry.Entry.{Entry}
use Rattle.xti_hall_rule.specs.declared.view.Journal.{Journal}
use Rattle.xti_hall_rule.specs.declared.view.Mark.{Mark}
use Rattle.xti_hall_rule.specs.declared.view.View.{View}
use Rattle.xti_hall_rule.specs.Steps.{Seated, Looked, giver, with_pen, with_seen, without_pen_unseen}
use Rattle.xti_hall.specs.Seats.{FitsSeat, IsStanding, Looks, TakesJournal}

-- its journal counts as given back, and it as told nothing
abbrev pub at_end : View → View
at_end v = record v { journal = false; heard = [] }

pub looks-at-end : (v l w : View) (j : Journal) (n : ℕ) (h : List Entry) → TakesJournal v j l → w ≡ with_seen l h → Looked l n h → v.journal ≡ false → Looks v (at_end w)
looks-at-end v l w j n h pen seen looked free =
    let found : List Entry = l.history in let marks : List Mark = j.marks.items in
    let all : w ≡ with_seen (with_pen v found marks) h = seen ∙ ap (λ (z : View). with_seen z h) pen in
    let k : Looked (with_pen v found marks) n h = subst (λ (z : View). Looked z n h) pen looked in
    subst (λ (z : View). Looks v (at_end z)) (sym all) record { setting = refl; number = refl; next = refl; mine = refl; held = refl; journal = sym free; refused = refl; seen = k.seen }

pub stands-at-end : (l w : View) (n : ℕ) (h : List Entry) → IsStanding l → w ≡ with_seen l h → Looked l n h → IsStanding (at_end w)
stands-at-end l w n h s seen looked = subst (λ (z : View). IsStanding (at_end z)) (sym seen) record {
  numbered = s.numbered;
  below = s.below;
  legal = looked.legal;
  bytes = looked.bytes;
  mine = looked.mine s.numbered;
  spare = looked.spare s.numbered;
}

-- the journal went back with this mark, and no more was seen
pub after-return-unseen : {C : Type 0} (m m' : Seated C) (mark : Mark) (number next steps : ℕ) (unfinished : Option ℕ) → FitsSeat m number next steps unfinished → m.0.journal ≡ true → m' ≡ (without_pen_unseen m.0 mark, rest m.1) → FitsSeat m' number next steps unfinished
after-return-unseen {C} m m' mark number next steps unfinished fits on new = let s = fits.1 in let t = fits.6 in
    subst (λ (z : Seated C). FitsSeat z number next steps unfinished) (sym new) (
      ap rest fits.0 ∙ ap (λ b. rest (if b then (m.0.setting.cells, None) ∷ [] else [])) on,
      record { live = s.live; numbered = s.numbered; shut = s.shut; small = s.small },
      fits.2,
      fits.3,
      fits.4,
      fits.5,
      record { numbered = t.numbered; below = t.below; legal = t.legal; bytes = t.bytes; mine = t.mine; spare = t.spare },
    )

pub giver-stands : (v : View) → IsStanding v → IsStanding (giver v)
giver-stands v s = let b : v.number < v.next = s.below in record {
  numbered = s.numbered;
  below = omega (arith, b);
  legal = s.legal;
  bytes = s.bytes;
  mine = s.mine;
  spare = λ k le. s.spare k (let l : v.next + 1 ≤ k = le in omega (arith, l));
}
