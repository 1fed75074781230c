use Rattle.std.proofs.Common.{◌∙◌, [], ◌∷◌, ap, sym}
use Rattle.std.specs.Prelude.{option_to_list}
use Rattle.std.proofs.lemmas.List.{append-nil}
use Rattle.xti_model.proofs.RisingNumbers.{listed-none}
use Rattle.xti_core.specs.Touches.{with_switch, calling_cell}
use Rattle.xti_core.proofs.touching.accepting_cells.Goals as goal

pub returns : goal.returns
returns c =
    let l = c.args.lent.now in
    let fd = c.args.fd.0 in
    c.with_own_and_switch.ensures _ (c.with-both.ensures.cells _ (c.with-caller.ensures.cells [] (c.new.ensures ∙ sym listed-none)))
    ∙ (ap (λ ns. with_switch l fd (c.place_of.result ∷ ns)) (append-nil (option_to_list c.calling_place.result) ∙ c.calling_place.ensures) ∙ ap (λ n. with_switch l fd (n ∷ calling_cell l fd c.args.seq.0)) c.place_of.ensures.place)
