use Rattle.std.proofs.Common.{◌≡◌, ◌∙◌, sym, ap, ℕ, ◌+◌, ◌<◌, List, [], ◌∷◌, ◌++◌, length, get_or, take, append-nil}
use Rattle.std.specs.List.{flat_map}
use Rattle.std.proofs.lemmas.List.{flat_map_more, take_all, take_more}
use Rattle.xti_model.specs.declared.script.StallLine.{StallLine}
use Rattle.xti_journal_text.specs.JournalText.{stall_text}
use Rattle.xti_journal_text.proofs.journal.put_stalls.Goals as goal

-- one more line is written
one_more : (start before out : List ℕ) (stalls : List StallLine) (i : ℕ) (s : StallLine) → i < length stalls → s ≡ get_or stalls i s → before ≡ start ++ flat_map stall_text (take i stalls)
    → out ≡ before ++ stall_text s → out ≡ start ++ flat_map stall_text (take (i + 1) stalls)
one_more start before out stalls i s h e f g =
    g ∙ ap (λ t. t ++ stall_text s) f ∙ flat_map_more stall_text start (take i stalls) s
    ∙ ap (λ lines. start ++ flat_map stall_text lines) (ap (λ y. take i stalls ++ y ∷ []) e ∙ sym (take_more stalls i s h))

pub loop-s-init : goal.loop-s-init
loop-s-init c = sym (append-nil c.args.out.now.items)

pub loop-s-preserved : goal.loop-s-preserved
loop-s-preserved c =
    one_more c.args.out.now.items c.loop-s.out.items c.put_stall.new.out.items c.args.stalls.now c.loop-s.s-index c.s-item.result
    c.loop-s-test.true c.s-item.is c.loop-s.invariant c.in_ok-put_stall.ensures

pub returns : goal.returns
returns c =
    c.loop-s.invariant ∙ ap (λ (lines : List StallLine). c.args.out.now.items ++ flat_map stall_text lines) (take_all c.loop-s.s-index c.args.stalls.now c.loop-s-test.false)
