-- What a seat is once it gave the journal back without an entry.
use Rattle.std.proofs.Common.{◌≡◌, ℕ, ◌<◌, [], ◌∷◌, ap, sym, subst, ◌∙◌, if◌then◌else◌, true}
use Rattle.std.specs.Prelude.{Option, None}
use Rattle.atomic_table.specs.Table.{rest}
use Rattle.xti_hall_rule.specs.declared.view.Mark.{Mark}
use Rattle.xti_hall_rule.specs.declared.view.View.{View}
use Rattle.xti_hall_rule.specs.Steps.{Seated, without_pen, Holds}
use Rattle.xti_hall.specs.Seats.{FitsSeat, IsStanding}

pub stands-back : (v : View) (mark : Mark) → Holds v → v.numbered ≡ true → v.number < v.next → IsStanding (without_pen v mark)
stands-back v mark holds numbered below = record {
  numbered = numbered;
  below = below;
  legal = holds.legal;
  bytes = holds.bytes;
  mine = holds.mine numbered;
  spare = holds.spare numbered;
}

-- the journal went back with this mark
pub after-return : {C : Type 0} (m m' : Seated C) (mark : Mark) (number next steps : ℕ) (unfinished : Option ℕ) → FitsSeat m number next steps unfinished → Holds m.0 → m' ≡ (without_pen m.0 mark, rest m.1) → FitsSeat m' number next steps unfinished
after-return {C} m m' mark number next steps unfinished fits holds new = let s = fits.1 in
    subst (λ (z : Seated C). FitsSeat z number next steps unfinished) (sym new) (
      ap rest fits.0 ∙ ap (λ b. rest (if b then (m.0.setting.cells, None) ∷ [] else [])) holds.journal,
      record { live = s.live; numbered = s.numbered; shut = s.shut; small = s.small },
      fits.2,
      fits.3,
      fits.4,
      fits.5,
      stands-back m.0 mark holds s.numbered fits.6.below,
    )
