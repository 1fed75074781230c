use Rattle.std.proofs.Common.{◌≡◌, ◌≤◌, ◌+◌, ◌-◌, ◌++◌, ℕ, List, [], ◌∷◌, true, false, length, drop, arith, refl, ap, subst, ◌∙◌, append_assoc, drop-drop}
use Rattle.xti_queue.specs.Front.{AreLastOf, HasRoomFor}
use Rattle.xti_queue.specs.declared.front.Step.TheVariants.{Ended, More, Stopped}
use Rattle.xti_queue.proofs.front.take_run.Goals as goal

-- a step is one of three
ended_more : Ended ≡ More → ⊥
ended_more is = cc

stopped_ended : Stopped ≡ Ended → ⊥
stopped_ended is = cc

stopped_more : Stopped ≡ More → ⊥
stopped_more is = cc

more_ended : More ≡ Ended → ⊥
more_ended is = cc

ended_stops : {P : Type 0} → true ≡ false → P
ended_stops is = absurd (cc)

closed : (a s : List ℕ) (e : ℕ) → a ++ e ∷ s ≡ (a ++ e ∷ []) ++ s
closed a s e = rw append_assoc refl

through : (a b d : ℕ) → a ≤ b → b ≤ d → a ≤ d
through a b d low high = omega (arith, low, high)

last_through : (xs ys zs : List (List ℕ)) → AreLastOf xs ys → length ys ≤ length xs → AreLastOf ys zs → length zs ≤ length ys → AreLastOf xs zs
last_through xs ys zs first less second fewer =
    let sum : (length xs - length ys) + (length ys - length zs) ≡ length xs - length zs = omega (arith, less, fewer) in
    second ∙ ap (drop (length ys - length zs)) first ∙ drop-drop (length ys - length zs) (length xs - length ys) xs ∙ ap (λ k. drop k xs) sum

pub take_front-requires-clause-wait : goal.take_front-requires-clause-wait
take_front-requires-clause-wait c = c.loop.invariant.wait

pub take_front-requires-clause-within : goal.take_front-requires-clause-within
take_front-requires-clause-within c = c.loop.invariant.within

pub take_front-requires-clause-most : goal.take_front-requires-clause-most
take_front-requires-clause-most c = c.loop.invariant.most

pub take_front-requires-clause-are_bytes : goal.take_front-requires-clause-are_bytes
take_front-requires-clause-are_bytes c = c.loop.invariant.are_bytes

pub take_front-requires-clause-room : goal.take_front-requires-clause-room
take_front-requires-clause-room c = subst (HasRoomFor c.loop.bytes c.args.max) c.loop.invariant.moved c.loop.invariant.room

pub returns-in-Ended-clause-moved : goal.returns-in-Ended-clause-moved
returns-in-Ended-clause-moved c = c.loop.invariant.moved ∙ c.in-Ended.ensures.ended refl ∙ closed c.take_front.new.bytes.items _ _

pub returns-in-Ended-clause-stops : goal.returns-in-Ended-clause-stops
returns-in-Ended-clause-stops c is = ended_stops is

pub returns-in-Ended-clause-left : goal.returns-in-Ended-clause-left
returns-in-Ended-clause-left c = c.loop.invariant.left ∙ c.in-Ended.ensures.left ended_more

pub returns-in-Ended-clause-wait : goal.returns-in-Ended-clause-wait
returns-in-Ended-clause-wait c = c.take_front.ensures.wait

pub returns-in-Ended-clause-within : goal.returns-in-Ended-clause-within
returns-in-Ended-clause-within c = c.take_front.ensures.within

pub returns-in-Ended-clause-most : goal.returns-in-Ended-clause-most
returns-in-Ended-clause-most c = c.take_front.ensures.most

pub returns-in-Ended-clause-are_bytes : goal.returns-in-Ended-clause-are_bytes
returns-in-Ended-clause-are_bytes c = c.take_front.ensures.are_bytes

pub returns-in-Ended-clause-items : goal.returns-in-Ended-clause-items
returns-in-Ended-clause-items c = last_through c.args.held.now.items c.loop.held.items c.take_front.new.held.items c.loop.invariant.items c.loop.invariant.shorter c.take_front.ensures.items c.take_front.ensures.shorter

pub returns-in-Ended-clause-shorter : goal.returns-in-Ended-clause-shorter
returns-in-Ended-clause-shorter c = through (length c.take_front.new.held.items) (length c.loop.held.items) (length c.args.held.now.items) c.take_front.ensures.shorter c.loop.invariant.shorter

pub returns-in-Ended-clause-capacity : goal.returns-in-Ended-clause-capacity
returns-in-Ended-clause-capacity c = c.take_front.ensures.capacity ∙ c.loop.invariant.capacity

pub returns-in-Stopped-clause-moved : goal.returns-in-Stopped-clause-moved
returns-in-Stopped-clause-moved c = c.loop.invariant.moved ∙ c.in-Stopped.ensures.other stopped_ended

pub returns-in-Stopped-clause-stops : goal.returns-in-Stopped-clause-stops
returns-in-Stopped-clause-stops c _ = c.in-Stopped.ensures.stops refl

pub returns-in-Stopped-clause-left : goal.returns-in-Stopped-clause-left
returns-in-Stopped-clause-left c = c.loop.invariant.left ∙ c.in-Stopped.ensures.left stopped_more

pub returns-in-Stopped-clause-wait : goal.returns-in-Stopped-clause-wait
returns-in-Stopped-clause-wait c = c.take_front.ensures.wait

pub returns-in-Stopped-clause-within : goal.returns-in-Stopped-clause-within
returns-in-Stopped-clause-within c = c.take_front.ensures.within

pub returns-in-Stopped-clause-most : goal.returns-in-Stopped-clause-most
returns-in-Stopped-clause-most c = c.take_front.ensures.most

pub returns-in-Stopped-clause-are_bytes : goal.returns-in-Stopped-clause-are_bytes
returns-in-Stopped-clause-are_bytes c = c.take_front.ensures.are_bytes

pub returns-in-Stopped-clause-items : goal.returns-in-Stopped-clause-items
returns-in-Stopped-clause-items c = last_through c.args.held.now.items c.loop.held.items c.take_front.new.held.items c.loop.invariant.items c.loop.invariant.shorter c.take_front.ensures.items c.take_front.ensures.shorter

pub returns-in-Stopped-clause-shorter : goal.returns-in-Stopped-clause-shorter
returns-in-Stopped-clause-shorter c = through (length c.take_front.new.held.items) (length c.loop.held.items) (length c.args.held.now.items) c.take_front.ensures.shorter c.loop.invariant.shorter

pub returns-in-Stopped-clause-capacity : goal.returns-in-Stopped-clause-capacity
returns-in-Stopped-clause-capacity c = c.take_front.ensures.capacity ∙ c.loop.invariant.capacity

pub loop-smaller : goal.loop-smaller
loop-smaller c = c.in-More.ensures.falls refl

pub loop-preserved : goal.loop-preserved
loop-preserved c = record {
  wait = c.take_front.ensures.wait;
  within = c.take_front.ensures.within;
  most = c.take_front.ensures.most;
  are_bytes = c.take_front.ensures.are_bytes;
  moved = c.loop.invariant.moved ∙ c.in-More.ensures.other more_ended;
  room = through _ _ _ c.loop.invariant.room c.take_front.ensures.bytes_capacity;
  left = c.loop.invariant.left ∙ c.in-More.ensures.goes_on refl;
  items = last_through c.args.held.now.items c.loop.held.items c.take_front.new.held.items c.loop.invariant.items c.loop.invariant.shorter c.take_front.ensures.items c.take_front.ensures.shorter;
  shorter = through (length c.take_front.new.held.items) (length c.loop.held.items) (length c.args.held.now.items) c.take_front.ensures.shorter c.loop.invariant.shorter;
  capacity = c.take_front.ensures.capacity ∙ c.loop.invariant.capacity;
}
