use Rattle.std.proofs.Common.{◌≡◌, List, true, length}
use Rattle.xti_model.specs.declared.entry.Act.TheVariants as act
use Rattle.xti_model.specs.declared.entry.Entry.{Entry}
use Rattle.xti_model.specs.Robin.{is_through}
use Rattle.xti_replay.specs.Runs.{StandsAfter}
use Rattle.xti_replay.proofs.OthersAsked.{AreAsked}
use Rattle.xti_replay.proofs.run.Run.ask_others.Given as goal

abbrev pub invariant-loop-asked : goal.invariant-loop-asked
invariant-loop-asked l = (l.self.entry.act ≡ act.More) × ((past : List Entry) → StandsAfter past l.fn.self → is_through l.fn.self.lines.now past 0 ≡ true → AreAsked past l.fn.self l.self (length l.fn.self.turns.items) l._asked) × (l.self.made ≡ l.fn.self.made)
