-- A mark that is set as the journal goes back, and how many entries are the seat's own.
use Rattle.std.proofs.Common.{◌≡◌, ℕ, suc, ◌+◌, ◌<◌, ◌≤◌, ◌==◌, Bool, true, false, List, [], ◌∷◌, ◌++◌, length, set, if◌then◌else◌, ap, sym, subst, ◌∙◌, arith, length-set, length-append, get_or-set_same, get_or-set_other}
use lib.ListN.{get_or}
use Rattle.xti_model.specs.declared.entry.Entry.{Entry}
use Rattle.xti_hall_rule.specs.Histories.{own}
use Rattle.xti_hall_rule.proofs.Laws.{own-append, own-mine}
use Rattle.xti_hall_rule.specs.declared.view.Mark.{Mark}
use Rattle.xti_hall_rule.specs.declared.view.Mark.TheVariants.{Absent}
use Rattle.xti_hall_rule.specs.declared.view.View.{View}
use Rattle.xti_hall_rule.specs.Rule.{mark_of, MarkFits}
use Rattle.xti_hall_rule.specs.Steps.{Marked, Commits}

-- the seat's mark is the one that was set at its number
pub mark-set : (v : View) (marks : List Mark) (k : ℕ) (mark : Mark) → k ≡ v.number → v.number < 33 → length v.marks ≡ 33 → marks ≡ v.marks → mark_of (set marks k mark) v.number ≡ mark
mark-set v marks k mark is lt many same = let long : length marks ≡ 33 = ap length same ∙ many in
    ap (λ (j : ℕ). get_or (set marks k mark) j Absent) (sym is) ∙ get_or-set_same marks k mark Absent (let z : k ≡ v.number = is in omega arith)

-- the marks of others stay as they were
pub marked-with : (v : View) (marks : List Mark) (k : ℕ) (mark : Mark) → k ≡ v.number → v.number < 33 → length v.marks ≡ 33 → marks ≡ v.marks → MarkFits v.setting v.history mark → Marked v (set marks k mark)
marked-with v marks k mark is lt many same fit = let long : length marks ≡ 33 = ap length same ∙ many in record {
  many = length-set marks k mark ∙ long;
  others = λ j ne. get_or-set_other marks k j mark Absent (λ e. ne (e ∙ is)) ∙ ap (λ (l : List Mark). mark_of l j) same;
  fits = subst (MarkFits v.setting v.history) (sym (mark-set v marks k mark is lt many same)) fit;
}

pub own_length : (k : ℕ) (h : List Entry) → length (own k h) ≤ length h
own_length k [] = omega arith
own_length k (e ∷ es) = by_test (e.worker == k) e (own k es) (length es) (own_length k es)
  where
    by_test : (b : Bool) (e : Entry) (l : List Entry) (n : ℕ) → length l ≤ n → length (if b then e ∷ l else l) ≤ suc n
    by_test true e l n le = omega arith
    by_test false e l n le = omega arith

pub one_more : (v : View) (e : Entry) → own v.number v.history ≡ v.mine → Commits v e → length (own v.number (v.history ++ e ∷ [])) ≡ length v.mine + 1
one_more v e is c = ap length (own-append v.number v.history (e ∷ []) ∙ (ap (λ z. z ++ own v.number (e ∷ [])) is ∙ ap (λ z. v.mine ++ z) (own-mine v.number e c.mine))) ∙ length-append v.mine (e ∷ [])

pub mine_length : (v : View) → own v.number v.history ≡ v.mine → length v.mine ≤ length v.history
mine_length v is = subst (λ (z : List Entry). length z ≤ length v.history) is (own_length v.number v.history)
