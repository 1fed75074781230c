-- What is lent is what is held, as cells are entered and left.
use Rattle.std.proofs.Common.{◌≡◌, ◌≢◌, ℕ, Bool, true, false, cond, List, [], ◌∷◌, Option, Some, None, refl, sym, ap, ◌∙◌, subst}
use Rattle.std.specs.Prelude.{is_some}
use Rattle.std.specs.List.{AllByRecursion}
use Rattle.xti_model.specs.declared.call.Call.{Call}
use Rattle.xti_model.specs.declared.profile.Providers.{Providers}
use Rattle.xti_model.specs.World.{Cell, is_among, only}
use Rattle.xti_model.specs.Touched.{touched}
use Rattle.xti_lent.specs.Lending.{Lending, cell_lent, cells_by}
use Rattle.xti_lent.proofs.Worlds.{same-is}
use Rattle.xti_laws.proofs.TouchedAgain.{touched-again}
use Rattle.xti_core.specs.Standing.{IsLoan}
use Rattle.xti_core.proofs.Settling.{only-is, kept_by}
use Rattle.xti_hall_rule.specs.declared.setting.Setting.{Setting}
use Rattle.xti_hall_rule.specs.declared.view.View.{View}
use Rattle.xti_hall_rule.specs.Histories.{part, after}
use Rattle.xti_hall_rule.specs.Steps.{at, Fresh}
use Rattle.xti_hall_rule.proofs.Lookups.{at_has}
use Rattle.xti_hall.specs.Seats.{SeatView, bare, Entered, Left, HoldsNone}
use Rattle.xti_hall.specs.Words.{setting_of, IsSeatOf}
use Rattle.xti_hall.specs.declared.hall.Hall.{Hall}
use Rattle.xti_gather.specs.declared.cell.Cell as rust
use Rattle.xti_gather.specs.Cells.{whole, IsWhole}
use Rattle.xti_gather.specs.Lends.{Lends, Somewhen, IsEmpty, Just}
use Rattle.xti_gather.proofs.Numbers.{cases}

none_some : {A : Type 0} (m : A) → None ≡ Some m → ⊥
none_some m e = absurd (cc)

pub same-setting : (v v' : View) → bare v' ≡ bare v → v'.setting ≡ v.setting
same-setting v v' e = ap (λ (z : View). z.setting) e

-- a seat that lends before and after is one of the same providers
pub same-providers : (v v' : View) (l l' : Lending) → Lends v l → Lends v' l' → bare v' ≡ bare v → l'.providers ≡ l.providers
same-providers v v' l l' before then rest = then.providers ∙ (ap (λ (s : Setting). s.providers) (same-setting v v' rest) ∙ sym before.providers)

-- the seat is still one of the hall, and the hall has the cells of these providers
pub still-of : (h : Hall rust.Cell) (s s' : SeatView) (p p' : Providers) → IsSeatOf h s × IsWhole (setting_of h) p → s'.hall ≡ s.hall → bare s'.view ≡ bare s.view → p' ≡ p → IsSeatOf h s' × IsWhole (setting_of h) p'
still-of h s s' p p' of same rest e = ((same ∙ of.0.0, same-setting s.view s'.view rest ∙ of.0.1), of.1 ∙ ap (λ q. whole q (setting_of h).keeps) (sym e))

pub left_lends : (v v' : View) (l l' : Lending) (k : ℕ) → Lends v l → Left v k v' → l'.providers ≡ l.providers → IsLoan l' → cell_lent l' k ≡ None → ((n : ℕ) → n ≢ k → cell_lent l' n ≡ cell_lent l n) → Lends v' l'
left_lends v v' l l' k lends e same loan gone others =
    let setting : v'.setting ≡ v.setting = same-setting v v' e.rest in record {
      providers = same ∙ (lends.providers ∙ ap (λ (z : Setting). z.providers) (sym setting));
      loan = loan;
      held = λ n. cases n k (at v' n ≡ cell_lent l' n)
          (λ s. subst (λ z. at v' z ≡ cell_lent l' z) (sym s) (e.here ∙ sym gone))
          (λ ne. e.others n ne ∙ (lends.held n ∙ sym (others n ne)));
      somewhen = subst (λ (p : Setting). Somewhen p l') (sym setting) (
        lends.somewhen.0,
        lends.somewhen.1,
        λ n m h. cases n k (m ≡ part n (after v.setting lends.somewhen.0))
            (λ s. absurd (none_some m (sym gone ∙ (ap (cell_lent l') (sym s) ∙ h))))
            (λ ne. lends.somewhen.2 n m (sym (others n ne) ∙ h)),
      );
    }

pub entered_lends : (v v' : View) (l l' : Lending) (k : ℕ) (m : Cell) → Lends v l → Entered v k m v' → Fresh v' → l'.providers ≡ l.providers → IsLoan l' → cell_lent l' k ≡ Some m → ((n : ℕ) → n ≢ k → cell_lent l' n ≡ cell_lent l n) → Lends v' l'
entered_lends v v' l l' k m lends e fresh same loan here others =
    let setting : v'.setting ≡ v.setting = same-setting v v' e.rest in
    let held : (n : ℕ) → at v' n ≡ cell_lent l' n = λ n. cases n k (at v' n ≡ cell_lent l' n)
    (λ s. subst (λ z. at v' z ≡ cell_lent l' z) (sym s) (e.here ∙ sym here))
    (λ ne. e.others n ne ∙ (lends.held n ∙ sym (others n ne))) in record {
      providers = same ∙ (lends.providers ∙ ap (λ (z : Setting). z.providers) (sym setting));
      loan = loan;
      held = held;
      somewhen = (fresh.0, fresh.1, λ n x h. fresh.3 n x (at_has v'.held n x (held n ∙ h)));
    }

-- a seat that holds nothing lends nothing
pub nothing_lends : (v : View) (l : Lending) → l.providers ≡ v.setting.providers → IsEmpty l → HoldsNone v → Lends v l
nothing_lends v l p empty none = record {
  providers = p;
  loan = empty.loan;
  held = λ n. none n ∙ sym (empty.none n);
  somewhen = ([], tt, λ n m h. absurd (none_some m (sym (empty.none n) ∙ h)));
}

-- with nothing lent nothing is held
pub holds_none : (v : View) (l : Lending) → Lends v l → ((n : ℕ) → cell_lent l n ≡ None) → HoldsNone v
holds_none v l lends none n = lends.held n ∙ none n

-- the same cells, but for those that were left
only_left : (p : Providers) (t : List ℕ) (lt lt' : ℕ → Option Cell) → ((n : ℕ) → is_among t n ≡ true → lt' n ≡ lt n) → ((n : ℕ) → is_among t n ≡ false → lt' n ≡ None) → cells_by p lt' ≡ only t (cells_by p lt)
only_left p t lt lt' same gone = same-is p lt' (kept_by t lt) (λ n lt. go n (is_among t n) refl) ∙ sym (only-is p t lt)
  where
    go : (n : ℕ) (b : Bool) → is_among t n ≡ b → lt' n ≡ cond (is_among t n) (lt n) None
    go n true e = rw e (same n e)
    go n false e = rw e (gone n e)

-- the cells that were to be kept are all lent, and no others: then they are what the call touches
pub just_lent : (p : Providers) (c : Call) (lt lt' : ℕ → Option Cell) (t : List ℕ) → t ≡ touched p (cells_by p lt) c → ((n : ℕ) → is_among t n ≡ true → lt' n ≡ lt n) → ((n : ℕ) → is_among t n ≡ false → lt' n ≡ None)
    → AllByRecursion (λ n. is_some (lt' n) ≡ true) t → Just p lt' c
just_lent p c lt lt' t is same gone all =
    let w : cells_by p lt' ≡ only (touched p (cells_by p lt) c) (cells_by p lt) = only_left p t lt lt' same gone ∙ ap (λ z. only z (cells_by p lt)) is in
    let again : touched p (cells_by p lt') c ≡ t = ap (λ v. touched p v c) w ∙ (touched-again p (cells_by p lt) c ∙ sym is) in record {
      all = subst (AllByRecursion (λ n. is_some (lt' n) ≡ true)) (sym again) all;
      only = λ n i. ap (λ z. is_among z n) again ∙ go n (is_among t n) refl i;
    }
  where
    go : (n : ℕ) (b : Bool) → is_among t n ≡ b → is_some (lt' n) ≡ true → is_among t n ≡ true
    go n true e i = e
    go n false e i = absurd (let g = ap is_some (gone n e) in let h = sym g ∙ i in cc)

-- the same of what the seat holds
pub just_held : (v : View) (l : Lending) (p : Providers) (c : Call) → ((n : ℕ) → at v n ≡ cell_lent l n) → Just p (cell_lent l) c → Just p (at v) c
just_held v l p c held just =
    let w : cells_by p (at v) ≡ cells_by p (cell_lent l) = same-is p (at v) (cell_lent l) (λ n lt. held n) in
    let t : touched p (cells_by p (at v)) c ≡ touched p (cells_by p (cell_lent l)) c = ap (λ z. touched p z c) w in record {
      all = subst (AllByRecursion (λ n. is_some (at v n) ≡ true)) (sym t) (more (touched p (cells_by p (cell_lent l)) c) just.all);
      only = λ n i. ap (λ z. is_among z n) t ∙ just.only n (ap is_some (sym (held n)) ∙ i);
    }
  where
    more : (ns : List ℕ) → AllByRecursion (λ n. is_some (cell_lent l n) ≡ true) ns → AllByRecursion (λ n. is_some (at v n) ≡ true) ns
    more [] a = tt
    more (n ∷ ns) a = (ap is_some (held n) ∙ a.0, more ns a.1)
