use Rattle.std.proofs.Common.{◌≤◌, length, List, ℕ, subst}
use Rattle.tpi_grammar.specs.declared.kind.TheConstants.{MOST_DATA}
use Rattle.tpi_grammar.specs.Frame.{AreBytes}
use Rattle.tpi_prim.proofs.FrameReads.{user_is, user_bytes, user_most}
use Rattle.tpi_prim.proofs.frames.Frame.user.Goals as goal

pub returns-clause-value : goal.returns-clause-value
returns-clause-value c = rw (c.user_at.ensures, c.bytes.ensures.value) (user_is c.args.self.now c.bytes.ensures.frame)

pub returns-clause-bytes : goal.returns-clause-bytes
returns-clause-bytes c = subst AreBytes (returns-clause-value c) (user_bytes c.args.self.now c.bytes.ensures.frame)

pub returns-clause-most : goal.returns-clause-most
returns-clause-most c = subst (λ (u : List ℕ). length u ≤ MOST_DATA) (returns-clause-value c) (user_most c.args.self.now c.bytes.ensures.frame)
