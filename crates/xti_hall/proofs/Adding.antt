-- What a journal has of its history once an entry was added.
use Rattle.std.proofs.Common.{◌≡◌, ℕ, ◌+◌, List, [], ◌∷◌, ◌++◌, length, true, false, ap, sym, ◌∙◌, length-append}
use Rattle.xti_model.specs.declared.call.Call.{Call}
use Rattle.xti_model.specs.declared.entry.Entry.{Entry}
use Rattle.xti_model.specs.declared.entry.Outcome.{Outcome}
use Rattle.xti_hall_rule.specs.declared.setting.Setting.{Setting}
use Rattle.xti_hall_rule.specs.declared.view.Journal.{Journal}
use Rattle.xti_hall_rule.specs.declared.view.View.{View}
use Rattle.xti_hall_rule.specs.Rule.{HasLog, recorded}
use Rattle.xti_hall.specs.Pens.{PenView}
use Rattle.xti_hall.specs.Records.{kept_in, KeepsMore}
use Rattle.xti_hall.specs.Seats.{HasLogWith, entry_of, entry_of_step}
use Rattle.xti_hall.specs.declared.made_step.MadeStep.{MadeStep}

one-longer : (v : View) (p : PenView) (j j' : Journal) (e : Entry) → j.length ≡ length p.history → p.history ≡ v.history → j'.length ≡ j.length + 1 → j'.length ≡ length (v.history ++ e ∷ [])
one-longer v p j j' e is history more = let longer : length (v.history ++ e ∷ []) ≡ length v.history + 1 = length-append v.history (e ∷ []) in
    more ∙ (ap (λ (n : ℕ). n + 1) (is ∙ ap (λ (h : List Entry). length h) history) ∙ sym longer)

-- of a journal that keeps its entries
pub adds-kept : (v : View) (p : PenView) (j j' : Journal) (e e' : Entry) → HasLog p.setting j p.history → p.setting ≡ v.setting → p.history ≡ v.history → v.setting.keeps ≡ true → e' ≡ e → j'.length ≡ j.length + 1 → KeepsMore j e j' → HasLogWith v j' e'
adds-kept v p j j' e e' log setting history keeps same more kept =
    let had : kept_in j ≡ recorded true v.history = log.1 ∙ (λ i. recorded ((ap (λ (s : Setting). s.keeps) setting ∙ keeps) i) (history i)) in
    (one-longer v p j j' e' log.0 history more, kept v.history had ∙ (λ i. recorded (sym keeps i) (v.history ++ sym same i ∷ [])))

-- of one that doesn't
pub adds-unkept : (v : View) (p : PenView) (j j' : Journal) (e : Entry) → HasLog p.setting j p.history → p.setting ≡ v.setting → p.history ≡ v.history → v.setting.keeps ≡ false → j'.length ≡ j.length + 1 → kept_in j' ≡ kept_in j → HasLogWith v j' e
adds-unkept v p j j' e log setting history keeps more kept =
    let none : kept_in j ≡ recorded false v.history = log.1 ∙ (λ i. recorded ((ap (λ (s : Setting). s.keeps) setting ∙ keeps) i) (history i)) in
    (one-longer v p j j' e log.0 history more, kept ∙ (none ∙ (λ i. recorded (sym keeps i) (v.history ++ e ∷ []))))

-- the entry of a step that isn't kept, as its parts show it
pub shown-step : (v : View) (s : MadeStep) (worker : ℕ) (call : Call) (outcome : Outcome) → worker ≡ v.number → call ≡ s.call.now → outcome ≡ s.outcome.now → entry_of_step v s ≡ entry_of (record v { number = worker }) call s.go outcome s.after
shown-step v s worker call outcome w c o = λ i. entry_of (record v { number = sym w i }) (sym c i) s.go (sym o i) s.after
