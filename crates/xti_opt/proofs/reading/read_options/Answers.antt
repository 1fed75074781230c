use Rattle.std.proofs.Common.{◌≡◌, ◌∙◌, ap, sym, subst, false, not, Some, Err, arith}
use Rattle.xti_base.specs.Options.{is_option_list, options_bytes, IsFirstWrongOption}
use Rattle.xti_opt.specs.declared.reading.OptRead.TheVariants.{BadOption}
use Rattle.xti_opt.proofs.Lists.{read_list, wrong_is_no_list, one_first_wrong}
use Rattle.xti_opt.proofs.Spelling.{written_read, read_are_options}
use Rattle.xti_opt.proofs.reading.read_options.Goals as goal

pub returns-in_err-read_whole-in-None-clause-at : goal.returns-in_err-read_whole-in-None-clause-at
returns-in_err-read_whole-in-None-clause-at c = λ at. (λ e. absurd (cc (rw e at c.from_residual.ensures.1)), λ wrong. let none : is_option_list c.args.bytes.now ≡ false = wrong_is_no_list c.args.bytes.now at wrong in absurd (cc c.in-None.ensures))

pub returns-in-Some-clause-bad : goal.returns-in-Some-clause-bad
returns-in-Some-clause-bad c = ap not (sym (wrong_is_no_list c.args.bytes.now c.in-Some.at c.in-Some.ensures))

pub returns-in-Some-clause-at : goal.returns-in-Some-clause-at
returns-in-Some-clause-at c =
    λ at. (
      λ e. let same : c.in-Some.at ≡ at = cc in subst (IsFirstWrongOption c.args.bytes.now) same c.in-Some.ensures,
      λ wrong. ap (λ k. Err (BadOption k)) (one_first_wrong c.args.bytes.now c.in-Some.at at c.in-Some.ensures wrong),
    )

pub returns-in_ok-read_whole-in-None-clause-ok : goal.returns-in_ok-read_whole-in-None-clause-ok
returns-in_ok-read_whole-in-None-clause-ok c = read_list c.args.bytes.now c.in-None.ensures ∙ ap (λ l. Some l) (sym c.in_ok-read_whole-in-None.ensures)

pub returns-in_ok-read_whole-in-None-clause-at : goal.returns-in_ok-read_whole-in-None-clause-at
returns-in_ok-read_whole-in-None-clause-at c = λ at. (λ e. absurd (cc), λ wrong. let none : is_option_list c.args.bytes.now ≡ false = wrong_is_no_list c.args.bytes.now at wrong in absurd (cc c.in-None.ensures))

pub returns-in_ok-read_whole-in-None-clause-back : goal.returns-in_ok-read_whole-in-None-clause-back
returns-in_ok-read_whole-in-None-clause-back c =
    ap options_bytes c.in_ok-read_whole-in-None.ensures ∙ written_read c.args.bytes.now (λ i. omega (arith, c.type_inv.bytes i)) c.in-None.ensures

pub returns-in_ok-read_whole-in-None-clause-options : goal.returns-in_ok-read_whole-in-None-clause-options
returns-in_ok-read_whole-in-None-clause-options c =
    rw c.in_ok-read_whole-in-None.ensures (read_are_options c.args.bytes.now (λ i. omega (arith, c.type_inv.bytes i)) c.in-None.ensures)
