-- What an entry leaves unfinished of its worker's call.
use Rattle.std.proofs.Common.{◌≡◌, [], ◌∷◌, ◌++◌, ap, sym, subst, ◌∙◌, refl}
use Rattle.std.specs.Prelude.{Option, Some, None, option_map, option_and_then}
use Rattle.std.proofs.lemmas.Option.{none-some}
use Rattle.xti_model.specs.declared.call.Call.{Call}
use Rattle.xti_model.specs.declared.entry.Act.{Act}
use Rattle.xti_model.specs.declared.entry.Act.TheVariants as act
use Rattle.xti_model.specs.declared.entry.Outcome.{Outcome}
use Rattle.xti_model.specs.declared.entry.Outcome.TheVariants.{Done, Part}
use Rattle.xti_model.specs.declared.entry.Entry.{Entry}
use Rattle.xti_model.specs.History.{Going, Fits, call_after, going_after, made_by, doing, unfinished_from, step_going}
use Rattle.xti_model.specs.History.{taken_before}
use Rattle.xti_model.proofs.Working.{call_from, unfinished_from-snoc, IsCallOf, call_of-from}
use Rattle.xti_hall_rule.specs.Histories.{own, after}
use Rattle.xti_hall_rule.specs.declared.view.View.{View}
use Rattle.xti_hall_rule.specs.Steps.{Commits}
use Rattle.xti_hall_rule.proofs.Laws.{own-append, own-mine}
use Rattle.xti_hall.specs.Seats.{unfinished_bytes, taken_in}

-- the call that an entry makes is the last begun one after it
made-call : (u : Option Going) (c : Option Call) (a : Act) (g : Going) → IsCallOf c u → made_by u a ≡ Some g → call_after c a ≡ Some g.call
made-call None c (act.Begin x) g h e = ap (option_map (λ (y : Going). y.call)) e
made-call (Some u) c (act.Begin x) g h e = absurd (none-some g e)
made-call u c act.More g h e = subst (IsCallOf c) e h

left-by : (c : Option Call) (o : Outcome) (g : Going) → c ≡ Some g.call → option_map (λ (z : Going). taken_before z.so_far) (going_after c o) ≡ taken_in o
left-by c (Done reply) g e = rw e refl
left-by c (Part n) g e = rw e refl

pub mine-more : (v : View) (e : Entry) → own v.number v.history ≡ v.mine → Commits v e → own v.number (v.history ++ e ∷ []) ≡ v.mine ++ e ∷ []
mine-more v e is c = own-append v.number v.history (e ∷ []) ∙ (ap (λ z. z ++ own v.number (e ∷ [])) is ∙ ap (λ z. v.mine ++ z) (own-mine v.number e c.mine))

pub unfinished-more : (v : View) (e : Entry) → own v.number v.history ≡ v.mine → Commits v e → taken_in e.outcome ≡ unfinished_bytes (own v.number (v.history ++ e ∷ []))
unfinished-more v e is c = sym (ap unfinished_bytes (mine-more v e is c) ∙ (ap (option_map (λ (z : Going). taken_before z.so_far)) (unfinished_from-snoc None None v.mine e) ∙ made (doing v.history e) refl c.right))
  where
    mine : own e.worker v.history ≡ v.mine
    mine = ap (λ k. own k v.history) c.mine ∙ is

    made : (o : Option Going) → doing v.history e ≡ o → Fits (option_and_then (step_going v.setting.providers (after v.setting v.history)) o) e
        → option_map (λ (z : Going). taken_before z.so_far) (going_after (call_after (call_from None v.mine) e.act) e.outcome) ≡ taken_in e.outcome
    made None d f = absurd f
    made (Some g) d f = left-by (call_after (call_from None v.mine) e.act) e.outcome g
        (made-call (unfinished_from None None v.mine) (call_from None v.mine) e.act g (call_of-from None None v.mine tt) (ap (λ z. made_by (unfinished_from None None z) e.act) (sym mine) ∙ d))
