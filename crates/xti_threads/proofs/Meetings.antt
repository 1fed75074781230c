-- The seats that came back meet main's, which has ended the library.
use Rattle.std.specs.Prelude.{ℕ, ◌+◌, ◌<◌, ◌≤◌, nat_lt, Bool, true, false, List, [], ◌++◌, ◌≡◌, Vec}
use Rattle.std.specs.declared.alloc.Global.{Global}
use Rattle.std.proofs.Common.{refl, sym, ap, subst, ◌∙◌, arith, append_assoc}
use Rattle.std.proofs.lemmas.Bool.Decides.{nat_tests}
use Rattle.std.proofs.lemmas.List.{append-nil}
use mathlib.Core.List.{IsPrefix}
use Rattle.xti_base.specs.declared.limits.TheConstants.{WORKERS}
use Rattle.xti_model.specs.declared.entry.Entry.{Entry}
use Rattle.xti_model.specs.declared.script.Line.{Line}
use Rattle.xti_model.specs.Complete.{Follows, IsHistoryOf}
use Rattle.xti_model.proofs.Appending.{own-append}
use Rattle.xti_model.proofs.GoingOn.{own-alone}
use Rattle.xti_hall_rule.specs.declared.setting.Setting.{Setting}
use Rattle.xti_hall_rule.specs.declared.view.View.{View}
use Rattle.xti_hall_rule.specs.Histories.{own, Legal}
use Rattle.xti_hall_rule.proofs.Splits.{own_between}
use Rattle.xti_hall.specs.Seats.{SeatView, IsStanding, Looks, Meets}
use Rattle.xti_hall.specs.Words.{IsSameSeat}
use Rattle.xti_calls.specs.declared.shared.Xti.{Xti}
use Rattle.xti_calls.specs.Library.{providers_of}
use Rattle.xti_threads.specs.Working.{CameBack}
use Rattle.xti_threads.specs.Meeting.{AllPlayed, IsSetUp, Leads}
use Rattle.xti_threads.proofs.Owned.{follows-same, own-again, own-another, history-whole}

pub prefix-then : (xs ys zs : List Entry) → IsPrefix xs ys → IsPrefix ys zs → IsPrefix xs zs
prefix-then xs ys zs a b = (a.0 ++ b.0, sym (append_assoc xs a.0 b.0) ∙ (ap (λ l. l ++ b.0) a.1 ∙ b.1))

-- main's seat after it ended the library
pub leads-looks : {x : Xti} {setup : List Entry} {next : ℕ} (s s' : SeatView) → Leads x setup next s → IsSameSeat s s' → Looks s.view s'.view → IsStanding s'.view → Leads x setup next s'
leads-looks {x} {setup} {next} s s' l same m standing = record {
  of_x = (same.0 ∙ l.of_x.0, m.setting ∙ l.of_x.1);
  next_is = m.next ∙ l.next_is;
  number_is = m.number ∙ l.number_is;
  mine = m.mine ∙ l.mine;
  begins = prefix-then setup s.view.seen s'.view.seen l.begins m.seen;
  standing = standing;
}

pub played-looks : {x : Xti} {lines : List Line} {seats : Vec SeatView Global} (s s' : SeatView) → AllPlayed x lines s seats → IsSameSeat s s' → Looks s.view s'.view → IsStanding s'.view → AllPlayed x lines s' seats
played-looks s s' p same m standing = record { many = p.many; past = p.past; set_up = p.set_up; leads = leads-looks s s' p.leads same m standing; back = p.back }

-- worker 0's entries are those of the setup
pub leads-own : {x : Xti} {setup : List Entry} {next : ℕ} (s : SeatView) → Leads x setup next s → own 0 s.view.seen ≡ own 0 setup
leads-own s l = subst (λ n. own n s.view.seen ≡ s.view.mine) l.number_is l.standing.mine ∙ l.mine

-- the worker's calls in a history that begins with all that its seat had seen, and begins what it sees later
pub back-follows : {x : Xti} {lines : List Line} {setup : List Entry} (k : ℕ) (s : SeatView) (w v' : View) (h : List Entry) → IsSetUp lines setup → 0 < k → CameBack x lines setup k s → own 0 h ≡ own 0 setup →
    IsPrefix s.view.seen h → w.seen ≡ h → Meets s.view w v' → IsStanding v' → Follows h lines k
back-follows {x} {lines} {setup} k s w v' h u lt b z p q m standing = follows-same lines h (setup ++ s.view.mine) k here no0 b.follows.follows
  where
    old : own k s.view.seen ≡ s.view.mine
    old = subst (λ n. own n s.view.seen ≡ s.view.mine) b.number_is b.standing.mine

    new : own k v'.seen ≡ s.view.mine
    new = subst (λ n. own n v'.seen ≡ v'.mine) (m.number ∙ b.number_is) standing.mine ∙ m.mine

    mine : own k h ≡ s.view.mine
    mine = own_between k s.view.seen h v'.seen s.view.mine p (subst (λ y. IsPrefix y v'.seen) q m.second) old new

    again : own k s.view.mine ≡ s.view.mine
    again = subst (λ es. own k es ≡ es) old (own-again s.view.seen k)

    here : own k h ≡ own k (setup ++ s.view.mine)
    here = mine ∙ sym (own-append setup s.view.mine k ∙ (ap (λ es. es ++ own k s.view.mine) (own-alone setup k lt u.alone) ∙ again))

    none : own 0 s.view.mine ≡ []
    none = subst (λ es. own 0 es ≡ []) old (own-another s.view.seen k 0 (λ e. omega (arith, lt, e)))

    no0 : own 0 h ≡ own 0 (setup ++ s.view.mine)
    no0 = z ∙ sym (own-append setup s.view.mine 0 ∙ (ap (λ es. own 0 setup ++ es) none ∙ append-nil (own 0 setup)))

-- what main's seat has seen, where each worker's entries follow its lines
pub leads-history : {x : Xti} {lines : List Line} {setup : List Entry} {next : ℕ} (s : SeatView) → IsSetUp lines setup → Leads x setup next s → next ≤ WORKERS → ((k : ℕ) → 0 < k → k < next → Follows s.view.seen lines k) → IsHistoryOf (providers_of x) lines s.view.seen
leads-history {x} {lines} {setup} {next} s u l le each = subst (IsHistoryOf (providers_of x) lines) l.begins.1
    (history-whole (providers_of x) lines setup l.begins.0 next
    (subst (λ (h : List Entry). Legal x.hall.table.shared.key h) (sym l.begins.1) (subst (λ (z : Setting). Legal z s.view.seen) l.of_x.1 l.standing.legal))
    u.alone u.follows u.finished
    (subst (λ (h : List Entry). own 0 h ≡ own 0 setup) (sym l.begins.1) (leads-own s l))
    le
    (λ k a. subst (λ (h : List Entry). own k h ≡ []) (sym l.begins.1) (l.standing.spare k (subst (λ n. n ≤ k) (sym l.next_is) a)))
    (λ k a b. subst (λ (h : List Entry). Follows h lines k) (sym l.begins.1) (each k a b)))

-- each of the first workers but 0 follows its lines
abbrev pub AllFollow : List Line → List Entry → ℕ → Type 0
AllFollow lines h n = (k : ℕ) → 0 < k → k ≤ n → Follows h lines k

pub follow-more : (lines : List Line) (h : List Entry) (n : ℕ) → AllFollow lines h n → Follows h lines (n + 1) → AllFollow lines h (n + 1)
follow-more lines h n f x k lt le = by (nat_lt n k) refl
  where
    by : (b : Bool) → nat_lt n k ≡ b → Follows h lines k
    by true i = subst (Follows h lines) (let a : n < k = grind (arith, nat_tests) in let e : n + 1 ≡ k = omega (arith, a, le) in e) x
    by false i = f k lt (let a : k ≤ n = grind (arith, nat_tests) in a)
