use Rattle.std.proofs.Common.{◌<◌, ℕ, List, [], length, ap, sym, ◌∙◌, arith, unwrap_or, inl, inr, All}
use Rattle.std.proofs.lemmas.Bool.{cases_lt}
use Rattle.std.proofs.lemmas.List.{get_or_past}
use Rattle.xti_base.specs.Options.{options_bytes}
use Rattle.xti_opt.proofs.Words.{AreBytes}
use Rattle.xti_opt.proofs.Lists.{list_read, wrong_is_no_list, one_first_wrong}
use Rattle.xti_opt.proofs.Spelling.{read_written, written_read}
use Rattle.xti_opt.proofs.laws.round_trips.Goals as goal

all_are_bytes : (bytes : List ℕ) → All (λ b. b < 256) bytes → AreBytes bytes
all_are_bytes bytes are i = elim (cases_lt i (length bytes)) [ inl below ↦ are i 0 below | inr past ↦ rw (get_or_past bytes i 0 past) (omega arith) ]

pub returns-clause-written : goal.returns-clause-written
returns-clause-written c = λ os are. read_written os are

pub returns-clause-read : goal.returns-clause-read
returns-clause-read c =
    λ bytes os are e. ap (λ o. options_bytes (unwrap_or o [])) (sym e) ∙ written_read bytes (all_are_bytes bytes are) (list_read bytes os e)

pub returns-clause-wrong : goal.returns-clause-wrong
returns-clause-wrong c = λ bytes at wrong. wrong_is_no_list bytes at wrong

pub returns-clause-one_wrong : goal.returns-clause-one_wrong
returns-clause-one_wrong c = λ bytes at other wrong wrong'. one_first_wrong bytes at other wrong wrong'
