use Rattle.std.proofs.Common.{◌≡◌, ◌++◌, Some, drop, length, sym, ap, ◌∙◌, take-append-drop, length-take-le, arith}
use Rattle.xti_words.proofs.WordLaws.{before-nil}
use Rattle.xti_words.proofs.HexLaws.{many_more, many_none, end_first, end_more, last_some, last_none}
use Rattle.xti_words.proofs.hex.many_bytes.Goals as goal

pub loop-first-init : goal.loop-first-init
loop-first-init c = record {
  so_far = before-nil _ _ c.in_ok-bytes.ensures.items;
  even = c.requires.pairs;
  end = end_first c.args.digits.now;
}

pub loop-first-preserved : goal.loop-first-preserved
loop-first-preserved c =
    let p = c.in-Some.ensures.cases in
    let cut : c.loop-first.rest.now ≡ c.in-Some.first.now ++ c.in-Some.others.now = sym (take-append-drop 32 c.loop-first.rest.now) ∙ ap (λ xs. xs ++ drop 32 c.loop-first.rest.now) (sym p.0) ∙ ap (λ xs. c.in-Some.first.now ++ xs) (sym p.1) in
    record {
      so_far = many_more _ _ c.in-Some.first.now c.in-Some.others.now c.in-Some-bytes_at_once.more _ _ cut (sym c.bytes_at_once.ensures ∙ c.in-Some-bytes_at_once.is) c.in_ok-extend_from_slice-in-Some-bytes_at_once.ensures.items c.loop-first.invariant.so_far;
      even = omega (arith, p.2, c.loop-first.invariant.even);
      end = end_more c.args.digits.now c.loop-first.rest.now c.in-Some.others.now c.loop-first.invariant.end p.1 (omega (arith, p.2));
    }

pub returns-in-None : goal.returns-in-None
returns-in-None c =
    let p = c.in-Some.ensures.cases in
    let cut : c.loop-first.rest.now ≡ c.in-Some.first.now ++ c.in-Some.others.now = sym (take-append-drop 32 c.loop-first.rest.now) ∙ ap (λ xs. xs ++ drop 32 c.loop-first.rest.now) (sym p.0) ∙ ap (λ xs. c.in-Some.first.now ++ xs) (sym p.1) in
    many_none _ c.in-Some.first.now c.in-Some.others.now _ 16 _ cut (ap length p.0 ∙ length-take-le 32 c.loop-first.rest.now (omega (arith, p.2))) (sym c.bytes_at_once.ensures ∙ c.in-None.is) c.loop-first.invariant.so_far

pub returns-in-None-bytes_at_once : goal.returns-in-None-bytes_at_once
returns-in-None-bytes_at_once c = last_none c.args.digits.now c.loop-first.rest.now c.args.last.now c.loop-first.invariant.end c.in_default.ensures.cases c.loop-first.invariant.even c.requires.last c.told-last c.requires.pairs (sym c.bytes_at_once-2.ensures ∙ c.in-None-bytes_at_once.is)

pub returns : goal.returns
returns c = ap (λ b. Some b) c.from_vec.ensures ∙ last_some c.args.digits.now c.loop-first.rest.now c.args.last.now c.loop-first.invariant.end c.in_default.ensures.cases c.loop-first.invariant.even c.requires.last c.told-last _ _ _ c.loop-first.invariant.so_far (sym c.bytes_at_once-2.ensures ∙ c.in-Some-bytes_at_once-2.is) c.in_ok-extend_from_slice-in-Some-bytes_at_once-2.ensures.items
