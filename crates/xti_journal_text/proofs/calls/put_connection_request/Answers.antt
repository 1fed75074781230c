use Rattle.std.proofs.Common.{◌≡◌, ◌++◌, ap, sym, ◌∙◌, List, [], ◌∷◌, ℕ, codes}
use Rattle.std.specs.List.{flat_map}
use Rattle.std.proofs.lemmas.List.{append_assoc}
use Rattle.xti_words.specs.WrittenWords.{hex_pair, number_word, octets_word}
use Rattle.xti_journal_text.specs.JournalText.{call_text}
use Rattle.xti_journal_text.proofs.Spaces.{space_first, on_ok_and}
use Rattle.xti_journal_text.proofs.calls.put_connection_request.Goals as goal

pub returns-in-TSndRelData : goal.returns-in-TSndRelData
returns-in-TSndRelData c =
    let before : List ℕ = c.args.out.now.items in
    let word : List ℕ = number_word (codes "sndreldata ") c.in-TSndRelData.fd.0 in
    let rest : List ℕ = octets_word (codes " udata=") c.in-TSndRelData.udata in
    let text : call_text c.args.call.now ≡ word ++ rest = ap call_text c.in-TSndRelData.is in
    on_ok_and c.put_number-in-TSndRelData.result c.put_pairs-in-TSndRelData.result c.and-in-TSndRelData.result c.and-in-TSndRelData.ensures
    (λ number more. more
    ∙ append_assoc c.put_number-in-TSndRelData.new.out.items (codes " udata=x:") (flat_map hex_pair c.in-TSndRelData.udata)
    ∙ ap (λ (l : List ℕ). l ++ rest) number
    ∙ space_first before word rest
    ∙ ap (λ (l : List ℕ). (before ++ 32 ∷ []) ++ l) (sym text))
    c.put_number-in-TSndRelData.ensures.items c.put_pairs-in-TSndRelData.ensures
