-- What clap finds gives the command that the words are.
use Rattle.std.proofs.Common.{◌≡◌, ◌≢◌, refl, ap, sym, subst, ◌∙◌, ℕ, ◌<◌, ◌^◌, Bool, true, false, List, [], ◌∷◌, Option, Some, None, option_map, codes, decimal}
use Rattle.clap.specs.Words.{Kinds, Row, Text}
use Rattle.clap.proofs.OnLiterals.{clap_on_literals}
use Rattle.xti_command.specs.declared.command.Command.{Command}
use Rattle.xti_command.specs.declared.command.Command.TheVariants.{Gen}
use Rattle.xti_command.specs.Words.{IsPlain, replay, run, check, frames, link, sock, gen, command_in, command_of, faults_in, found_in, is_taken, seed_of, summary_words, unless_wrong}
use Rattle.xti_command.proofs.Seeds.{Digit, d0, d1, d2, d3, d4, d5, d6, d7, d8, d9, decimal_begins, seed_again}

with_none : (faults : Kinds) (command : Option Command) → faults ≡ [] → unless_wrong faults command ≡ command
with_none [] command none = refl
with_none (fault ∷ faults) command none = absurd (cc)

with_some : (faults : Kinds) (command : Option Command) → faults ≢ [] → unless_wrong faults command ≡ None
with_some [] command some = absurd (some refl)
with_some (fault ∷ faults) command some = refl

-- the command is what stands in words that clap takes
pub found : (words : List Text) (rows : List Row) → faults_in words ≡ [] → rows ≡ found_in words → command_of words ≡ command_in rows
unfolding command_of
found words rows none same = with_none _ _ none ∙ ap command_in (sym same)

-- words that clap refuses are no command
pub refused : (words : List Text) → faults_in words ≢ [] → command_of words ≡ None
unfolding command_of
refused words some = with_some _ _ some

gen_command : (summary : Bool) (d : ℕ) (ds : Text) → Digit d
    → command_of (codes "gen" ∷ codes "--seed" ∷ (d ∷ ds) ∷ summary_words summary) ≡ option_map (λ n. Gen n summary) (seed_of (d ∷ ds))
unfolding command_of faults_in found_in clap_on_literals
gen_command true d ds d0 = refl
gen_command true d ds d1 = refl
gen_command true d ds d2 = refl
gen_command true d ds d3 = refl
gen_command true d ds d4 = refl
gen_command true d ds d5 = refl
gen_command true d ds d6 = refl
gen_command true d ds d7 = refl
gen_command true d ds d8 = refl
gen_command true d ds d9 = refl
gen_command false d ds d0 = refl
gen_command false d ds d1 = refl
gen_command false d ds d2 = refl
gen_command false d ds d3 = refl
gen_command false d ds d4 = refl
gen_command false d ds d5 = refl
gen_command false d ds d6 = refl
gen_command false d ds d7 = refl
gen_command false d ds d8 = refl
gen_command false d ds d9 = refl

gen_taken : (summary : Bool) (d : ℕ) (ds : Text) → Digit d → is_taken (codes "gen" ∷ codes "--seed" ∷ (d ∷ ds) ∷ summary_words summary) ≡ true
unfolding is_taken clap_on_literals
gen_taken true d ds d0 = refl
gen_taken true d ds d1 = refl
gen_taken true d ds d2 = refl
gen_taken true d ds d3 = refl
gen_taken true d ds d4 = refl
gen_taken true d ds d5 = refl
gen_taken true d ds d6 = refl
gen_taken true d ds d7 = refl
gen_taken true d ds d8 = refl
gen_taken true d ds d9 = refl
gen_taken false d ds d0 = refl
gen_taken false d ds d1 = refl
gen_taken false d ds d2 = refl
gen_taken false d ds d3 = refl
gen_taken false d ds d4 = refl
gen_taken false d ds d5 = refl
gen_taken false d ds d6 = refl
gen_taken false d ds d7 = refl
gen_taken false d ds d8 = refl
gen_taken false d ds d9 = refl

-- the words with the digits of a seed
gen_plain : (seed : ℕ) (summary : Bool) → seed < 2 ^ 64 → command_of (codes "gen" ∷ codes "--seed" ∷ decimal seed ∷ summary_words summary) ≡ Some (Gen seed summary)
gen_plain seed summary small =
    let b = decimal_begins seed small in
    let read : seed_of (b.first ∷ b.rest) ≡ Some seed = subst (λ text. seed_of text ≡ Some seed) b.text_is (seed_again seed small) in
    subst (λ text. command_of (codes "gen" ∷ codes "--seed" ∷ text ∷ summary_words summary) ≡ Some (Gen seed summary)) (sym b.text_is)
    (gen_command summary b.first b.rest b.digit ∙ ap (option_map (λ n. Gen n summary)) read)

gen_plain_taken : (seed : ℕ) (summary : Bool) → seed < 2 ^ 64 → is_taken (codes "gen" ∷ codes "--seed" ∷ decimal seed ∷ summary_words summary) ≡ true
gen_plain_taken seed summary small =
    let b = decimal_begins seed small in
    subst (λ text. is_taken (codes "gen" ∷ codes "--seed" ∷ text ∷ summary_words summary) ≡ true) (sym b.text_is) (gen_taken summary b.first b.rest b.digit)

pub plain_command : (words : List Text) (command : Command) → IsPlain words command → command_of words ≡ Some command
unfolding command_of faults_in found_in clap_on_literals
plain_command words command (replay true) = refl
plain_command words command (replay false) = refl
plain_command words command (run true) = refl
plain_command words command (run false) = refl
plain_command words command check = refl
plain_command words command frames = refl
plain_command words command link = refl
plain_command words command (sock true) = refl
plain_command words command (sock false) = refl
plain_command words command (gen seed summary small) = gen_plain seed summary small

pub plain_taken : (words : List Text) (command : Command) → IsPlain words command → is_taken words ≡ true
unfolding is_taken clap_on_literals
plain_taken words command (replay true) = refl
plain_taken words command (replay false) = refl
plain_taken words command (run true) = refl
plain_taken words command (run false) = refl
plain_taken words command check = refl
plain_taken words command frames = refl
plain_taken words command link = refl
plain_taken words command (sock true) = refl
plain_taken words command (sock false) = refl
plain_taken words command (gen seed summary small) = gen_plain_taken seed summary small
