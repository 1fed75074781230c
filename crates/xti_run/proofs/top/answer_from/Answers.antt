use Rattle.std.proofs.Common.{refl}
use Rattle.xti_run.proofs.Left.{gives_front, answered, too_long}
use Rattle.xti_run.proofs.top.answer_from.Goals as goal

pub returns-in_ok-answer_to-in-Ok-clause-ok : goal.returns-in_ok-answer_to-in-Ok-clause-ok
returns-in_ok-answer_to-in-Ok-clause-ok g c = answered _ _ _ _ _ _ _ c.most_bytes-most.ensures c.in-Ok.ensures.all c.in-Ok.ensures.bound c.in_ok-answer_to-in-Ok.ensures

pub returns-in_ok-answer_to-in-Ok-clause-read : goal.returns-in_ok-answer_to-in-Ok-clause-read
returns-in_ok-answer_to-in-Ok-clause-read g c = gives_front _ _ _ _ _ c.most_bytes-most.ensures c.in-Ok.ensures.all c.in-Ok.ensures.bound

pub returns-in_err-answer_to-in-Ok-clause-read : goal.returns-in_err-answer_to-in-Ok-clause-read
returns-in_err-answer_to-in-Ok-clause-read g c = gives_front _ _ _ _ _ c.most_bytes-most.ensures c.in-Ok.ensures.all c.in-Ok.ensures.bound

pub returns-in_ok-size_answer-in-Err-TooLong-clause-ok : goal.returns-in_ok-size_answer-in-Err-TooLong-clause-ok
returns-in_ok-size_answer-in-Err-TooLong-clause-ok g c =
    let long = c.in-Err-TooLong.ensures.too_long (rw c.in-Err-TooLong.field-0-is refl) in
    too_long _ _ _ _ long.0 _ _ c.most_bytes-most.ensures long.1 long.2 c.in_ok-size_answer-in-Err-TooLong.ensures.0 c.in_ok-size_answer-in-Err-TooLong.ensures.1
