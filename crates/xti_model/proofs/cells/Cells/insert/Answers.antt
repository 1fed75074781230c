use Rattle.std.proofs.Common.{◌≡◌, ◌<◌, ◌∙◌, sym, subst, length, true, arith}
use Rattle.xti_base.specs.declared.limits.TheConstants.{MOST_TOUCHED}
use Rattle.xti_model.specs.Cells.{IsPlaceFor, IsRising}
use Rattle.xti_model.specs.World.{is_among}
use Rattle.xti_model.proofs.RisingNumbers.{rising-with, insert-with, member-with, room-for}
use Rattle.xti_model.proofs.cells.Cells.insert.Goals as goal

pub insert-requires : goal.insert-requires
insert-requires c =
    let p : IsPlaceFor c.args.n c.self.inside.numbers.items c.in-Some.place = rw c.as_slice.ensures.value at c.in-Some.ensures.place in
    let r : length c.self.inside.numbers.items < MOST_TOUCHED = room-for MOST_TOUCHED c.args.n c.in-Some.place c.self.inside.numbers.items c.self.invariant p (rw (← c.self.view_is) at c.requires) in
    (omega arith, (p.within, r))

pub invariant_of-self : goal.invariant_of-self
invariant_of-self c =
    let p : IsPlaceFor c.args.n c.self.inside.numbers.items c.in-Some.place = rw c.as_slice.ensures.value at c.in-Some.ensures.place in
    subst (IsRising 0) (sym (c.insert.ensures.items ∙ insert-with c.args.n c.in-Some.place c.self.inside.numbers.items c.self.invariant p)) (rising-with c.args.n c.self.inside.numbers.items c.self.invariant)

pub returns-in-Some : goal.returns-in-Some
returns-in-Some c =
    let p : IsPlaceFor c.args.n c.self.inside.numbers.items c.in-Some.place = rw c.as_slice.ensures.value at c.in-Some.ensures.place in
    rw (← c.self.view_is) (c.insert.ensures.items ∙ insert-with c.args.n c.in-Some.place c.self.inside.numbers.items c.self.invariant p)

pub returns-in_default : goal.returns-in_default
returns-in_default c =
    let m : is_among c.self.inside.numbers.items c.args.n ≡ true = rw c.as_slice.ensures.value at c.in_default.ensures.there in
    rw (← c.self.view_is) (sym (member-with c.args.n c.self.inside.numbers.items c.self.invariant m))
