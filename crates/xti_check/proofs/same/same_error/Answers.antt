use Rattle.std.proofs.Common.{◌≡◌}
use Rattle.xti_base.specs.contracts.errno.Errno as errno
use Rattle.xti_base.specs.contracts.kinds.Event as event
use Rattle.xti_base.specs.declared.errno.Errno.{Errno}
use Rattle.xti_base.specs.declared.kinds.Event.{Event}
use Rattle.xti_base.specs.declared.kinds.Seq.{Seq}
use Rattle.xti_model.specs.declared.entry.Reply.TheVariants.{Look, Overflow, Refused}
use Rattle.xti_check.proofs.Sameness.{tells-made, tells-seq, tells-variant}
use Rattle.xti_check.proofs.same.same_error.Goals as goal

refused-back : (a b : Errno) → Refused a ≡ Refused b → a ≡ b
refused-back a b e = cc

look-back : (a b : Event) → Look a ≡ Look b → a ≡ b
look-back a b e = cc

overflow-back : (a b : Seq) → Overflow a ≡ Overflow b → a ≡ b
overflow-back a b e = cc

pub returns-in-Refused-Refused : goal.returns-in-Refused-Refused
returns-in-Refused-Refused c =
    let i = c.in-Refused-Refused in
    tells-made Refused refused-back _ _ i.errno i.other_errno _ i.is-0 i.is-1 (tells-variant errno.the_type i.errno i.other_errno _ c.eq.ensures tt)

pub returns-in-Look-Look : goal.returns-in-Look-Look
returns-in-Look-Look c =
    let i = c.in-Look-Look in
    tells-made Look look-back _ _ i.event i.other_event _ i.is-0 i.is-1 (tells-variant event.the_type i.event i.other_event _ c.eq-in-Look-Look.ensures tt)

pub returns-in-Overflow-Overflow : goal.returns-in-Overflow-Overflow
returns-in-Overflow-Overflow c =
    let i = c.in-Overflow-Overflow in
    tells-made Overflow overflow-back _ _ i.seq i.other_seq _ i.is-0 i.is-1 (tells-seq i.seq i.other_seq _ c.eq-in-Overflow-Overflow.ensures)
