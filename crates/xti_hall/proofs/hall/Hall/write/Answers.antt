use Rattle.std.proofs.Common.{arith, ap, subst, sym, ◌∙◌, ◌≡◌, ◌+◌, ◌++◌, ◌∷◌, [], length, length-append}
use Rattle.xti_model.specs.declared.entry.Entry.{Entry}
use Rattle.xti_hall_rule.specs.declared.view.Journal.{Journal as Book}
use Rattle.xti_hall_rule.specs.Rule.{HasLog}
use Rattle.xti_hall_rule.specs.Steps.{Marked, added, shown}
use Rattle.xti_hall.specs.Seats.{gave_with}
use Rattle.xti_hall_rule.proofs.Pens.{returns_at, after_return, sees_all}
use Rattle.xti_hall_rule.proofs.Commits.{commits_at, written, marked_more}
use Rattle.xti_hall.proofs.hall.Hall.write.Goals as goal

pub fetch_add-requires : goal.fetch_add-requires
fetch_add-requires g c = let sized = c.args.self.now.sized in let s = c.requires.seat in
    let e : Entry = shown c.args.entry in let h = c.args.pass.now.me.0.history in
    let more : length (h ++ e ∷ []) ≡ length h + 1 = length-append h (e ∷ []) in let long = c.requires.log.0 in let top = c.length-length.type_inv in let is = c.length-length.ensures in (
      c.put_journal.ensures.hall.0 ∙ c.requires.hall,
      omega arith,
      commits_at (g.C.Stands.stands c.args.self.now.table.shared.key) c.args.self.now.table.shared.key _ _ _ _ _ e _ c.put_journal.ensures.view s.live s.numbered c.requires.taken.0 (ap added c.of.ensures) (omega (arith, more, long, top, is)) c.requires.setting c.requires.entry,
    )

pub store-requires : goal.store-requires
store-requires g c = let sized = c.args.self.now.sized in let s = c.requires.seat in
    let w = written _ _ _ _ _ _ c.put_journal.ensures.view c.fetch_add.ensures.2 _ (ap added c.of.ensures) in (
      c.fetch_add.ensures.0 ∙ (c.put_journal.ensures.hall.0 ∙ c.requires.hall),
      omega arith,
      returns_at (g.C.Stands.stands c.args.self.now.table.shared.key) c.args.self.now.table.shared.key (λ v. v.history) _ _ _ _ _ _ _ w (sees_all c.args.self.now.table.shared.key _) (sym sized.2) s.live s.numbered c.requires.taken.0 (subst (λ (j : Book). HasLog c.args.pass.now.me.0.setting j (c.args.pass.now.me.0.history ++ shown c.args.entry ∷ [])) (sym c.deref_mut.ensures.value) c.requires.log)
          (marked_more _ _ _ (subst (λ (j : Book). Marked c.args.pass.now.me.0 j.marks.items) (sym c.deref_mut.ensures.value) c.requires.marks)) c.requires.setting,
    )

pub returns-clause-view : goal.returns-clause-view
returns-clause-view g c = after_return (λ v. v.history) _ _ _ _ _ _ (written _ _ _ _ _ _ c.put_journal.ensures.view c.fetch_add.ensures.2 _ (ap added c.of.ensures)) c.store.ensures.2
    ∙ ap (λ (j : Book). gave_with c.args.pass.now.me j (shown c.args.entry)) c.deref_mut.ensures.value
