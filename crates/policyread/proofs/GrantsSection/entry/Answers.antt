-- The grant that the next three numbers name is added. Assumes nothing.
use mathlib.Core.List.{List}
use mathlib.Core.Path.{◌≡◌, ◌∙◌}
use Prim.Native.Nat.{ℕ, ◌+◌}
use native.Mathlib.Omega.{arith}
use Rattle.text.specs.Places.{word_at}
use Rattle.policyread.specs.Steps.{From, read_grant}
use Rattle.policyread.proofs.InOrder.{from_past, from_same, word_there}
use Rattle.policyread.proofs.GrantsSection.entry.Goals as goal
use Rattle.policyread.proofs.GrantsSection.entry.Goals.{After-word-obj}

module _ (c : After-word-obj) (bytes : List ℕ) (at : ℕ) (e : From bytes at c.args.file.now) where
  one : From bytes (at + 2) c.word-r.new.self
  one = from_past 2 e c.word-r.ensures.left

  two : From bytes (at + 4) c.word-op.new.self
  two = from_same {i = at + 2 + 2} (omega arith) (from_past 2 one c.word-op.ensures.left)

  three : From bytes (at + 6) c.word-obj.new.self
  three = from_same {i = at + 4 + 2} (omega arith) (from_past 2 two c.word-obj.ensures.left)

pub returns : goal.returns
unfolding read_grant
returns c =
    let x = (goal.at.returns c).After-word-obj in
    record {
      left = three x;
      is = λ bytes at e.
          let r : c.word-r.result ≡ word_at bytes at = word_there e c.word-r.ensures.value in
          let op : c.word-op.result ≡ word_at bytes (at + 2) = word_there (one x bytes at e) c.word-op.ensures.value in
          let obj : c.word-obj.result ≡ word_at bytes (at + 4) = word_there (two x bytes at e) c.word-obj.ensures.value in
          c.put_holders.ensures ∙ rw (c.with-roles.ensures.is, c.holders_of.ensures, r, op, obj);
    }
