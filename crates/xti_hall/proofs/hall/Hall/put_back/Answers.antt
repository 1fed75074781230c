use Rattle.std.proofs.Common.{arith, ℕ, ◌∷◌, set, None, ap, ◌∙◌, sym, refl}
use lib.ListN.{get_elem?}
use Rattle.xti_hall_rule.specs.Steps.{with_held}
use Rattle.atomic_table.specs.Table.{rest}
use Rattle.xti_hall.proofs.Fronts.{front_value}
use Rattle.xti_hall_rule.proofs.Turns.{reopens, leaves}
use Rattle.xti_hall.proofs.hall.Hall.put_back.Goals as goal

pub store-requires : goal.store-requires
store-requires g c = let sized = c.args.self.now.sized in (
  c.requires.hall,
  omega arith,
  reopens (g.C.Stands.stands c.args.self.now.table.shared.key) c.args.self.now.table.shared.key _ _ _ c.args.pass.now.me c.requires.held.0 c.requires.seat.live c.requires.cell c.requires.seat.shut c.requires.held.1,
)

pub exchange-empty-requires : goal.exchange-empty-requires
exchange-empty-requires g c = let e = c.store.ensures.2 c.args.cell refl in
    (c.store.ensures.0 ∙ c.requires.hall, (None, ap (λ m. m.1) e ∙ sym (ap (λ m. (c.args.cell, None) ∷ rest m.1) e)))

pub store-requires-2 : goal.store-requires-2
store-requires-2 g c = let sized = c.args.self.now.sized in let e = c.store.ensures.2 c.args.cell refl in let f = c.exchange-empty.ensures.3 in (
  c.exchange-empty.ensures.0 ∙ (c.store.ensures.0 ∙ c.requires.hall),
  omega arith,
  leaves (g.C.Stands.stands c.args.self.now.table.shared.key) c.args.self.now.table.shared.key _ _ c.args.cell c.exchange-empty.new.seat.me c.args.value c.requires.held.0 _ (ap (λ m. m.0.live) f ∙ (ap (λ m. m.0.live) e ∙ c.requires.seat.live)) c.requires.cell (ap (λ m. m.0.opened) f ∙ ap (λ m. m.0.opened) e)
      (ap (λ m. get_elem? m.0.held c.args.cell) f ∙ (ap (λ m. get_elem? m.0.held c.args.cell) e ∙ c.requires.held.1)) c.requires.held.2 (ap (λ m. m.1) f),
)

pub unreachable-requires : goal.unreachable-requires
unreachable-requires g c = let e = c.store.ensures.2 c.args.cell refl in c.in_default.not-None (front_value c.args.cell _ _ _ _ _ c.exchange-empty.ensures.2 (ap (λ m. m.1) e))

pub returns-clause-gone : goal.returns-clause-gone
returns-clause-gone g c = let e = c.store.ensures.2 c.args.cell refl in let f = c.exchange-empty.ensures.3 in let k : ℕ = c.args.cell in
    c.store-2.ensures.2 k refl ∙ (ap (λ m. (with_held m.0 (set m.0.held k None) 0, rest m.1)) f ∙ ap (λ m. (with_held m.0 (set m.0.held k None) 0, rest m.1)) e)
