use Rattle.std.proofs.Common.{◌≡◌, ℕ, List, ◌∙◌, refl, sym, ap, subst}
use Rattle.std.specs.Prelude.{is_some}
use Rattle.std.proofs.lemmas.Bool.{false≢true}
use Rattle.xti_model.specs.declared.profile.Providers.{Providers}
use Rattle.xti_hall_rule.specs.declared.setting.Setting.{Setting}
use Rattle.xti_hall_rule.specs.declared.view.View.{View}
use Rattle.xti_model.specs.World.{is_among}
use Rattle.xti_lent.specs.Fit.{AllLent}
use Rattle.xti_lent.specs.Lending.{Lending, cell_lent}
use Rattle.xti_gather.specs.Lends.{Just}
use Rattle.xti_gather.specs.Orders.{AreCells}
use Rattle.xti_gather.proofs.Wholes.{lends-sound}
use Rattle.xti_gather.proofs.Holdings.{nothing_lends, just_lent, same-providers, still-of}
use Rattle.xti_gather.proofs.gathering.gather.Goals as goal

pub enter-requires-clause-lends : goal.enter-requires-clause-lends
enter-requires-clause-lends g c =
    let p = ap (λ (s : Setting). s.providers) (sym c.requires.hall.1 ∙ sym c.requires.hall.0.1) in
    nothing_lends c.args.seat.now.view c.args.lent.now p c.requires.empty c.requires.none

pub enter-requires-clause-order : goal.enter-requires-clause-order
enter-requires-clause-order g c = λ _ n lent. absurd (false≢true (ap is_some (sym (c.requires.empty.none n)) ∙ lent))

pub try_missing-requires-clause-lends : goal.try_missing-requires-clause-lends
try_missing-requires-clause-lends g c =
    let p = ap (λ (s : Setting). s.providers) (sym c.requires.hall.1 ∙ sym c.requires.hall.0.1) in
    nothing_lends c.args.seat.now.view c.args.lent.now p c.requires.empty c.requires.none

pub touch-cells-requires-clause-sound : goal.touch-cells-requires-clause-sound
touch-cells-requires-clause-sound g c = lends-sound c.try_missing.new.seat.view c.try_missing.new.lent c.try_missing.ensures.lends

pub returns-then-are_same-clause-just : goal.returns-then-are_same-clause-just
returns-then-are_same-clause-just g c =
    let p = ap (λ (s : Setting). s.providers) (sym c.requires.hall.1 ∙ sym c.requires.hall.0.1) in
    let before = nothing_lends c.args.seat.now.view c.args.lent.now p c.requires.empty c.requires.none in
    let t = c.try_missing.ensures in
    let l : Lending = c.try_missing.new.lent in
    let one : c.touch-cells.result ≡ c.args.first.now = c.are_same.ensures c.if-are_same.true in
    let all = subst (λ (ns : List ℕ). AllLent l ns) (sym one) (t.all c.if-try_missing.true) in
    subst (λ (q : Providers). Just q (cell_lent l) c.args.call.now) (same-providers c.args.seat.now.view c.try_missing.new.seat.view c.args.lent.now l before t.lends t.rest)
    (just_lent l.providers c.args.call.now (cell_lent l) (cell_lent l) c.touch-cells.result c.touch-cells.ensures (λ n i. refl)
    (λ n i. t.others n (ap (λ (ns : List ℕ). is_among ns n) (sym one) ∙ i) ∙ c.requires.empty.none n) all)

pub returns-in-Some-clause-providers : goal.returns-in-Some-clause-providers
returns-in-Some-clause-providers g c =
    let p = ap (λ (s : Setting). s.providers) (sym c.requires.hall.1 ∙ sym c.requires.hall.0.1) in
    let before = nothing_lends c.args.seat.now.view c.args.lent.now p c.requires.empty c.requires.none in
    let t = c.enter.ensures in
    same-providers c.args.seat.now.view c.enter.new.seat.view c.args.lent.now c.enter.new.lent before t.lends t.rest

pub returns-then-are_same-clause-providers : goal.returns-then-are_same-clause-providers
returns-then-are_same-clause-providers g c =
    let p = ap (λ (s : Setting). s.providers) (sym c.requires.hall.1 ∙ sym c.requires.hall.0.1) in
    let before = nothing_lends c.args.seat.now.view c.args.lent.now p c.requires.empty c.requires.none in
    let t = c.try_missing.ensures in
    same-providers c.args.seat.now.view c.try_missing.new.seat.view c.args.lent.now c.try_missing.new.lent before t.lends t.rest

pub returns-clause-providers : goal.returns-clause-providers
returns-clause-providers g c =
    let p = ap (λ (s : Setting). s.providers) (sym c.requires.hall.1 ∙ sym c.requires.hall.0.1) in
    let before = nothing_lends c.args.seat.now.view c.args.lent.now p c.requires.empty c.requires.none in
    let t = c.try_missing.ensures in
    c.settle.ensures.providers ∙ same-providers c.args.seat.now.view c.try_missing.new.seat.view c.args.lent.now c.try_missing.new.lent before t.lends t.rest

pub settle-requires-clause-hall : goal.settle-requires-clause-hall
settle-requires-clause-hall g c =
    let p = ap (λ (s : Setting). s.providers) (sym c.requires.hall.1 ∙ sym c.requires.hall.0.1) in
    let before = nothing_lends c.args.seat.now.view c.args.lent.now p c.requires.empty c.requires.none in
    let t = c.try_missing.ensures in
    still-of c.args.hall.now c.args.seat.now c.try_missing.new.seat c.args.lent.now.providers c.try_missing.new.lent.providers c.requires.hall t.hall.0 t.rest (same-providers c.args.seat.now.view c.try_missing.new.seat.view c.args.lent.now c.try_missing.new.lent before t.lends t.rest)

pub settle-requires-clause-free : goal.settle-requires-clause-free
settle-requires-clause-free g c =
    ap (λ (z : View). z.journal) c.try_missing.ensures.rest ∙ c.requires.free

pub returns-clause-just : goal.returns-clause-just
returns-clause-just g c =
    let p = ap (λ (s : Setting). s.providers) (sym c.requires.hall.1 ∙ sym c.requires.hall.0.1) in
    let before = nothing_lends c.args.seat.now.view c.args.lent.now p c.requires.empty c.requires.none in
    let t = c.try_missing.ensures in
    subst (λ (q : Providers). Just q (cell_lent c.settle.new.lent) c.args.call.now) (same-providers c.args.seat.now.view c.try_missing.new.seat.view c.args.lent.now c.try_missing.new.lent before t.lends t.rest) c.settle.ensures.just

pub returns-clause-first : goal.returns-clause-first
returns-clause-first g c =
    let p = ap (λ (s : Setting). s.providers) (sym c.requires.hall.1 ∙ sym c.requires.hall.0.1) in
    let before = nothing_lends c.args.seat.now.view c.args.lent.now p c.requires.empty c.requires.none in
    let t = c.try_missing.ensures in
    subst (λ (q : Providers). AreCells q c.settle.new.first) (same-providers c.args.seat.now.view c.try_missing.new.seat.view c.args.lent.now c.try_missing.new.lent before t.lends t.rest) c.settle.ensures.first
