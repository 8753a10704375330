-- The number of the answer and LF stand at the front of the line. Assumes nothing.
use Rattle.std.proofs.Common.{arith, length-take}
use Rattle.text.proofs.Putting.{put_front}
use Rattle.numbers.specs.Answers.{refusal_number}
use Rattle.numbers.proofs.Answers.{refused-not-0}
use Rattle.desk.proofs.Going.{number_short}
use Rattle.desk.proofs.refuse.Goals as goal

pub invariant_of-number-clause-next : goal.invariant_of-number-clause-next
invariant_of-number-clause-next g c =
    ∣ record {
      answer = refusal_number c.args.refusal;
      refuses = c.requires;
      not_done = refused-not-0 c.args.refusal;
      is = put_front (rw c.number_of.ensures at c.answer_text-len.ensures) (omega (arith, number_short (refusal_number c.args.refusal)));
    } ∣₁

pub invariant_of-number-clause-in_range : goal.invariant_of-number-clause-in_range
invariant_of-number-clause-in_range g c = omega (arith, length-take c.answer_text-len.result c.answer_text-len.new.buf)
