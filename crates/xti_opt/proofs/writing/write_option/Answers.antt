use Rattle.std.proofs.Common.{◌≡◌, ◌+◌, ◌++◌, ◌∷◌, [], ◌∙◌, ap, ℕ, List, length, take, replicate}
use Rattle.xti_base.specs.Options.{word_bytes, filling}
use Rattle.xti_opt.proofs.Words.{zeros_taken}
use Rattle.xti_opt.proofs.Spelling.{parts_written}
use Rattle.xti_opt.proofs.writing.write_option.Goals as goal

pub returns : goal.returns
returns c =
    let o = c.args.option.now in
    let value : c.as_slice-value.result.now ≡ o.value = c.as_slice-value.ensures in
    let zeros : take {A = ℕ} c.filling.result (0 ∷ 0 ∷ 0 ∷ []) ≡ replicate (filling (length o.value)) 0 =
    ap (λ n. take {A = ℕ} n (0 ∷ 0 ∷ 0 ∷ [])) (c.filling.ensures ∙ ap (λ v. filling (length v)) value) ∙ zeros_taken (length o.value) in
    parts_written c.args.bytes.now.items (word_bytes (16 + length o.value)) (word_bytes o.level) (word_bytes o.name) (word_bytes o.status) o.value (replicate (filling (length o.value)) 0)
    c.write_word.new.bytes.items c.write_word-2.new.bytes.items c.write_word-3.new.bytes.items c.write_word-4.new.bytes.items c.extend_from_slice.new.self.items c.extend_from_slice-2.new.self.items
    (c.in_ok-write_word.ensures ∙ ap (λ (v : List ℕ). c.args.bytes.now.items ++ word_bytes (16 + length v)) value) c.in_ok-write_word-2.ensures c.in_ok-write_word-3.ensures c.in_ok-write_word-4.ensures
    (c.in_ok-extend_from_slice.ensures.items ∙ ap (λ v. c.write_word-4.new.bytes.items ++ v) value)
    (c.in_ok-extend_from_slice-2.ensures.items ∙ ap (λ z. c.extend_from_slice.new.self.items ++ z) zeros)
