use Rattle.std.proofs.Common.{◌≡◌, ◌∙◌, refl, sym, ap, ℕ, ◌+◌, ◌<◌, ◌≤◌, List, ◌∷◌, [], ◌++◌, Option, length, get_or, map, take, take_all, append-nil, append_assoc, arith}
use Rattle.std.proofs.lemmas.List.{map_more}
use Rattle.xti_base.specs.declared.kinds.Fd.{Fd}
use Rattle.xti_core.specs.Looks.{events_among}
use Rattle.xti_gather.proofs.glancing.surveying.add_events.Goals as goal

-- what is pending at one more descriptor is added
one-more : (f : Fd → Option ℕ) (start before after : List (Option ℕ)) (fds : List Fd) (i : ℕ) (d : Fd) (x : Option ℕ) → i < length fds → before ≡ start ++ map f (take i fds) → after ≡ before ++ x ∷ [] → x ≡ f (get_or fds i d)
    → after ≡ start ++ map f (take (i + 1) fds)
one-more f start before after fds i d x h e a v =
    a ∙ ap (λ (xs : List (Option ℕ)). xs ++ x ∷ []) e ∙ append_assoc start (map f (take i fds)) (x ∷ [])
    ∙ ap (λ (y : Option ℕ). start ++ (map f (take i fds) ++ y ∷ [])) v ∙ ap (λ (xs : List (Option ℕ)). start ++ xs) (sym (map_more f fds i d h))

none-more : (n : ℕ) → n ≡ n + 0
none-more n = omega arith

one-longer : (len before start i : ℕ) → len ≡ before + 1 → before ≡ start + i → len ≡ start + (i + 1)
one-longer len before start i e f = omega arith

room-left : (len capacity start room i n : ℕ) → len ≡ start + i → capacity ≡ room → start + n ≤ room → i < n → len < capacity
room-left len capacity start room i n e f r h = omega arith

pub loop-fd-init : goal.loop-fd-init
loop-fd-init c = record { so_far = sym (append-nil c.args.found.now.items); many = none-more _; room = refl }

pub bounds-fds-fd-index : goal.bounds-fds-fd-index
bounds-fds-fd-index c = c.loop-fd-test.true

pub push_reserved-requires : goal.push_reserved-requires
push_reserved-requires c = room-left _ _ _ _ c.loop-fd.fd-index (length c.args.fds.now) c.loop-fd.invariant.many c.loop-fd.invariant.room c.requires.room c.loop-fd-test.true

pub loop-fd-preserved : goal.loop-fd-preserved
loop-fd-preserved c = record {
  so_far = one-more (λ (fd : Fd). events_among c.args.lent.now fd.0) c.args.found.now.items c.loop-fd.found.items c.push_reserved.new.self.items c.args.fds.now c.loop-fd.fd-index _ c.events_of.result c.loop-fd-test.true
      c.loop-fd.invariant.so_far c.push_reserved.ensures.items c.events_of.ensures;
  many = one-longer _ _ _ c.loop-fd.fd-index c.push_reserved.ensures.len c.loop-fd.invariant.many;
  room = c.push_reserved.ensures.capacity ∙ c.loop-fd.invariant.room;
}

pub returns : goal.returns
returns c =
    c.loop-fd.invariant.so_far
    ∙ ap (λ (fds : List Fd). c.args.found.now.items ++ map (λ (fd : Fd). events_among c.args.lent.now fd.0) fds) (take_all c.loop-fd.fd-index c.args.fds.now c.loop-fd-test.false)
