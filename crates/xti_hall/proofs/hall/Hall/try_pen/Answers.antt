use Rattle.std.proofs.Common.{arith, sym, ap, ◌+◌, ℕ, MatchBool, nat_eq, ◌≡◌, ◌≢◌, eq-eqb, ne_eqb, subst}
use mathlib.Core.Logic.{dite}
use native.Mathlib.Decide.{ℕ_discrete}
use Rattle.xti_hall_rule.proofs.Pens.{begins_at}
use Rattle.xti_hall.proofs.hall.Hall.try_pen.Goals as goal

-- a found word, by cases
by_found : (n : ℕ) (A B : Type 0) → (n ≡ 0 → A) → (n ≢ 0 → B) → MatchBool (nat_eq n 0) A B
by_found n A B a b = dite (ℕ_discrete n 0) (λ e. subst (λ z. MatchBool z A B) (sym (eq-eqb n 0 e)) (a e)) (λ ne. subst (λ z. MatchBool z A B) (sym (ne_eqb n 0 ne)) (b ne))

pub compare_exchange-requires : goal.compare_exchange-requires
compare_exchange-requires g c = let sized = c.args.self.now.sized in let s = c.requires.seat in
    (c.requires.hall, omega arith, begins_at (g.C.Stands.stands c.args.self.now.table.shared.key) c.args.self.now.table.shared.key _ _ _ c.args.pass.now.me (sym sized.2) s.live)

pub returns-clause-began : goal.returns-clause-began
returns-clause-began g c = let sized = c.args.self.now.sized in let told = c.compare_exchange.ensures.2 in
    by_found c.compare_exchange.result _ _ (λ z. told.0 z c.args.self.now.table.shared.key.cells (ap (λ (k : ℕ). k + 1) (sym sized.2))) told.1
