-- The line is written at the front of a buffer with room for it, and compared with the text. Assumes nothing.
use mathlib.Core.List.{List}
use mathlib.Core.Path.{sym, ap, ◌∙◌}
use Prim.Native.Nat.{ℕ, ◌≤◌}
use native.Mathlib.Omega.{arith}
use lib.ListN.{length, replicate, length-replicate, length-append}
use Rattle.text.specs.Putting.{Put}
use Rattle.text.proofs.Putting.{put_then, put_front}
use Rattle.decimal.specs.Decimal.{numbered}
use Rattle.decimal.proofs.Laws.{numbered-short}
use Rattle.words.specs.ScriptWords.{spelling}
use Rattle.words.specs.Bytes.{same}
use Rattle.words.specs.Rows.{number}
use Rattle.words.proofs.Laws.{same_bytes}
use Rattle.words.proofs.Tables.{spelling-short}
use Rattle.reading.specs.Form.{render}
use Rattle.reading.proofs.gives.Goals as goal
use Rattle.reading.proofs.gives.Goals.{After-put_numbers-end}

-- what stands in the buffer: the line, at its front
put : (c : After-put_numbers-end) → Put (replicate 2048 0) 0 (render (number c.args.word) c.args.numbers.now) c.put_numbers-end.new.buf c.put_numbers-end.result
unfolding render
put c = put_then (rw c.number.ensures at c.put_word-next.ensures) c.put_numbers-end.ensures

room : (c : After-put_numbers-end) → length (render (number c.args.word) c.args.numbers.now) ≤ length {A = ℕ} (replicate 2048 0)
unfolding render
room c = omega (arith, c.requires, length-append (spelling (number c.args.word)) (numbered c.args.numbers.now), spelling-short (number c.args.word), numbered-short c.args.numbers.now, length-replicate {A = ℕ} 2048 0)

pub returns : goal.returns
returns c =
    let k = (goal.at.returns c).After-put_numbers-end in
    c.eq.ensures ∙ sym (same_bytes _ _) ∙ ap (λ (l : List ℕ). same l c.args.text.now) (put_front (put k) (room k))
