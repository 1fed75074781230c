use Rattle.std.proofs.Common.{Option, sym, subst}
use Rattle.xti_base.specs.declared.kinds.Fd.{Fd}
use Rattle.xti_lent.specs.Answers.{Changed}
use Rattle.xti_lent.specs.Lending.{number_of}
use Rattle.xti_data.specs.Sends.{telling}
use Rattle.xti_data.proofs.Changes.{peer-told, sender-released}
use Rattle.xti_data.proofs.Reached.{held-after}
use Rattle.xti_data.proofs.releasing.tell.Goals as goal
use Rattle.xti_data.proofs.releasing.tell.Goals.{in-Some+in_ok-frame, in_default}

pub release-requires-clause-there : goal.release-requires-clause-there
release-requires-clause-there c = elim c.match-peer.branch [
  | in-Some+in_ok-frame w ↦ rw w.lent-is (held-after c.args.lent.now w.tell_release.new.lent c.args.fd.0 w.tell_release.ensures.kept c.requires.sender)
  | in_default w ↦ rw w.lent-is c.requires.sender
]

pub returns-clause-ok : goal.returns-clause-ok
returns-clause-ok c =
    let told = λ (peer : Option Fd). Changed (telling c.args.fd.0 (number_of peer) c.args.udata.now) c.args.lent.now c.release.new.lent in
    elim c.match-peer.branch [
      | in-Some+in_ok-frame w ↦ subst told (sym w.in-Some.is)
          (peer-told c.args.lent.now w.tell_release.new.lent c.release.new.lent c.args.fd.0 w.in-Some.peer.0 c.args.udata.now _ w.in_ok-frame.ensures.release w.tell_release.ensures.kept
          w.tell_release.ensures.cells (sender-released c.args.fd.0 _ _ _ w.lent-is c.release.ensures.cells))
      | in_default w ↦ subst told (sym w.in_default.is) (sender-released c.args.fd.0 _ _ _ w.lent-is c.release.ensures.cells)
    ]
