use Rattle.std.proofs.Common.{◌≡◌, ◌∙◌, sym, ap, ℕ, ◌+◌, ◌<◌, List, ◌∷◌, [], ◌++◌, length, get_or, map, take, take_all, arith}
use Rattle.std.proofs.lemmas.List.{map_more}
use Rattle.xti_base.specs.declared.kinds.Fd.{Fd}
use Rattle.xti_poll.specs.declared.asked.Asked.{Asked}
use Rattle.xti_poll.proofs.polling.descriptors.Goals as goal

-- one more descriptor is added
one_more : (before after : List Fd) (pairs : List Asked) (i : ℕ) (d : Asked) → i < length pairs → before ≡ map (λ (a : Asked). a.fd) (take i pairs)
    → after ≡ before ++ (get_or pairs i d).fd ∷ [] → after ≡ map (λ (a : Asked). a.fd) (take (i + 1) pairs)
one_more before after pairs i d h e f = f ∙ ap (λ fds. fds ++ (get_or pairs i d).fd ∷ []) e ∙ sym (map_more (λ (a : Asked). a.fd) pairs i d h)

pub loop-asked-preserved : goal.loop-asked-preserved
loop-asked-preserved c = record {
  so_far = one_more c.loop-asked.fds.items c.push_reserved.new.self.items c.args.pairs.now c.loop-asked.asked-index _ c.loop-asked-test.true
      c.loop-asked.invariant.so_far c.push_reserved.ensures.items;
  many = omega arith;
  room = omega arith;
}

pub returns : goal.returns
returns c =
    c.loop-asked.invariant.so_far
    ∙ ap (map (λ (a : Asked). a.fd)) (take_all c.loop-asked.asked-index c.args.pairs.now c.loop-asked-test.false)
