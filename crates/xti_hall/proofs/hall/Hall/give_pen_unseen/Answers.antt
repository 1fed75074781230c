use Rattle.std.proofs.Common.{arith, sym, ◌∙◌}
use Rattle.xti_hall_rule.proofs.Pens.{returns_at, after_return, sees_no_more}
use Rattle.xti_hall.proofs.hall.Hall.give_pen_unseen.Goals as goal

pub store-requires : goal.store-requires
store-requires g c = let sized = c.args.self.now.sized in let s = c.requires.seat in (
  c.put_journal.ensures.hall.0 ∙ c.requires.hall,
  omega arith,
  returns_at (g.C.Stands.stands c.args.self.now.table.shared.key) c.args.self.now.table.shared.key (λ v. v.seen) _ _ _ _ _ _ _ c.put_journal.ensures.view (sees_no_more c.args.self.now.table.shared.key _) (sym sized.2) s.live s.numbered c.requires.taken.0 c.requires.journal.0 c.requires.journal.1 c.requires.setting,
)

pub returns-clause-view : goal.returns-clause-view
returns-clause-view g c = after_return (λ v. v.seen) _ _ _ _ _ _ c.put_journal.ensures.view c.store.ensures.2
