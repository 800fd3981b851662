use Rattle.std.proofs.Common.{◌≡◌, Some, refl}
use Rattle.binder_console.specs.Commands.{task_of}
use Rattle.binder_console.proofs.Ends.{ends_answer, ends_too_long, read_is_no_fault, too_long_is_no_fault}
use Rattle.binder_console.proofs.console.pvbind.Goals as goal

pub returns-in-Err-TooLong-clause-ends : goal.returns-in-Err-TooLong-clause-ends
returns-in-Err-TooLong-clause-ends g c =
    let asks = c.in-Ok.ensures in
    let is = c.in-Ok.task-is in
    let asked : task_of c.args.words.now ≡ Some c.in-Ok.task = cc in
    record {
      by = ends_too_long _ _ _ _ _ asked (c.in-Err-TooLong.ensures.too_long (cc)) (c.in-Err-TooLong.ensures.past_limit (cc))
          (rw c.as_bytes-in-Err-TooLong.ensures.value at c.end_with-in-Err-TooLong.ensures.written);
      unfailed = λ _. c.in-Err-TooLong.ensures.unfailed (too_long_is_no_fault _ (cc));
      reads_later = c.in-Err-TooLong.ensures.later;
      writes_later = c.end_with-in-Err-TooLong.ensures.later;
    }

pub returns-in-Ok-answer_of-clause-ends : goal.returns-in-Ok-answer_of-clause-ends
returns-in-Ok-answer_of-clause-ends g c =
    let asks = c.in-Ok.ensures in
    let is = c.in-Ok.task-is in
    let asked : task_of c.args.words.now ≡ Some c.in-Ok.task = cc in
    record {
      by = ends_answer _ _ _ _ _ _ _ asked c.in-Ok-read_input.ensures.whole c.in-Ok-read_input.ensures.end (rw c.as_slice.ensures at c.in-Ok-answer_of.ensures) c.end_answer.ensures.written;
      unfailed = λ _. c.in-Ok-read_input.ensures.unfailed (read_is_no_fault _ _ refl);
      reads_later = c.in-Ok-read_input.ensures.later;
      writes_later = c.end_answer.ensures.later;
    }
