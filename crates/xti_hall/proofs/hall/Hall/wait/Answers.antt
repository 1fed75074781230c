use Rattle.std.proofs.Common.{◌∙◌}
use Rattle.xti_hall.proofs.Looking.{looks-on}
use Rattle.xti_hall.proofs.hall.Hall.wait.Goals as goal
use Rattle.xti_hall.proofs.hall.Hall.wait.Goals.{in-Alone, in-Parks}

pub look_once-requires-clause-hall : goal.look_once-requires-clause-hall
look_once-requires-clause-hall g c = let i = c.loop.invariant in (i.hall ∙ c.requires.hall.0, i.setting ∙ c.requires.hall.1)

pub look_once-requires-clause-free : goal.look_once-requires-clause-free
look_once-requires-clause-free g c = c.loop.invariant.free

pub look_once-requires-clause-want : goal.look_once-requires-clause-want
look_once-requires-clause-want g c = c.loop.invariant.want

pub look_once-requires-clause-set : goal.look_once-requires-clause-set
look_once-requires-clause-set g c = c.loop.invariant.mark

pub returns-in-Again-clause-hall : goal.returns-in-Again-clause-hall
returns-in-Again-clause-hall g c = let i = c.loop.invariant in let l = c.look_once.ensures in (l.hall.0 ∙ i.hall, l.hall.1 ∙ i.id)

pub returns-in-Again-clause-waited : goal.returns-in-Again-clause-waited
returns-in-Again-clause-waited g c = c.in-Again.ensures.sight

pub returns-in-Again-clause-looks : goal.returns-in-Again-clause-looks
returns-in-Again-clause-looks g c = looks-on c.args.seat.now.view c.loop.seat.view c.look_once.new.seat.view c.loop.invariant.looks c.look_once.ensures.looks

pub returns-in-Again-clause-standing : goal.returns-in-Again-clause-standing
returns-in-Again-clause-standing g c = c.look_once.ensures.standing

pub returns-in-Stalls-clause-hall : goal.returns-in-Stalls-clause-hall
returns-in-Stalls-clause-hall g c = let i = c.loop.invariant in let l = c.look_once.ensures in (l.hall.0 ∙ i.hall, l.hall.1 ∙ i.id)

pub returns-in-Stalls-clause-waited : goal.returns-in-Stalls-clause-waited
returns-in-Stalls-clause-waited g c = c.in-Stalls.ensures.sight

pub returns-in-Stalls-clause-looks : goal.returns-in-Stalls-clause-looks
returns-in-Stalls-clause-looks g c = looks-on c.args.seat.now.view c.loop.seat.view c.look_once.new.seat.view c.loop.invariant.looks c.look_once.ensures.looks

pub returns-in-Stalls-clause-standing : goal.returns-in-Stalls-clause-standing
returns-in-Stalls-clause-standing g c = c.look_once.ensures.standing

pub loop-preserved : goal.loop-preserved
loop-preserved g c = let i = c.loop.invariant in let l = c.look_once.ensures in record {
  hall = l.hall.0 ∙ i.hall;
  id = l.hall.1 ∙ i.id;
  setting = l.setting ∙ i.setting;
  free = l.free;
  want = l.want;
  mark = λ _. elim c.match-look_once.branch [ in-Alone w ↦ w.in-Alone.ensures.sight.1 | in-Parks w ↦ w.in-Parks.ensures.sight.1 ];
  looks = looks-on c.args.seat.now.view c.loop.seat.view c.look_once.new.seat.view i.looks l.looks;
}
