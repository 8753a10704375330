-- The entries of the members passed are written. Assumes nothing.
use mathlib.Core.List.{List, [], ◌∷◌, map}
use mathlib.Core.Path.{◌≡◌, refl, sym, ap, ◌∙◌}
use Prim.Native.Nat.{ℕ, ◌+◌, ◌*◌}
use native.Mathlib.Omega.{arith}
use borrow.Author.Tests.{ltb-false}
use lib.ListN.{length, length-append, length-map}
use Rattle.std.proofs.lemmas.List.{map-append, get_or_past}
use Rattle.roleset.specs.Bounded.{members}
use Rattle.roleset.specs.Roles.{has}
use Rattle.text.specs.Bytes.{flat}
use Rattle.hierarchy.specs.Lines.{table_of}
use Rattle.policywrite.specs.Parts.{row}
use Rattle.policywrite.proofs.Appended.{writes_as, entries_none, entries_more, entry_written}
use Rattle.policywrite.proofs.Numbered.{row-empty, ahead_more, ahead_none, ahead_few}
use Rattle.policywrite.proofs.TableSection.put_at.Goals as goal
use Rattle.policywrite.proofs.TableSection.put_at.Given.{Over}
use Rattle.policywrite.proofs.TableSection.put_at.Goals.{In_default, In-None}

pub loop-r-init : goal.loop-r-init
loop-r-init g c = record { counted = refl; written = entries_none g.E.Entry.bytes _; ahead = refl }

pub loop-r-preserved : goal.loop-r-preserved
loop-r-preserved g c =
    let head = c.loop-r in
    let number : ℕ → ℕ = λ r. 64 * c.args.k + r in
    record {
      counted = omega (arith, head.invariant.counted, length-append head.yielded (c.in-Some-r.r ∷ []));
      written =
          writes_as (ap (flat g.E.Entry.bytes) (sym (map-append number head.yielded (c.in-Some-r.r ∷ []))))
          (entries_more g.E.Entry.bytes (map number head.yielded) (number c.in-Some-r.r ∷ []) head.invariant.written
          (entry_written g.E.Entry.bytes (rw (c.from-in-loop-r.ensures, c.from-in-loop-r-2.ensures) at c.put.ensures)));
      ahead = ahead_more head.yielded c.in-Some-r.ensures.steps head.invariant.ahead;
    }

-- past the table's end nobody is
nobody : (g : Over) (c : In_default g) → row (table_of c.args.self.now.sets.now) c.args.k ≡ []
nobody g c = row-empty (table_of c.args.self.now.sets.now) c.args.k (get_or_past c.args.self.now.sets.now c.args.k 0 (omega (arith, c.from.ensures, ltb-false c.from.result (length c.args.self.now.sets.now) (sym c.in_default.ensures.lookup.0))))

pub returns-in_default-clause-all : goal.returns-in_default-clause-all
returns-in_default-clause-all g c = sym (ap length (nobody g c))

pub returns-in_default-clause-written : goal.returns-in_default-clause-written
returns-in_default-clause-written g c = writes_as (ap (flat g.E.Entry.bytes) (sym (nobody g c))) (entries_none g.E.Entry.bytes c.args.pen.now)

-- the set is the one at the place, and all its members are passed
passed : (g : Over) (c : In-None g) → c.loop-r.yielded ≡ members 64 (has (table_of c.args.self.now.sets.now c.args.k))
passed g c =
    let there : c.in-Some.set.now ≡ table_of c.args.self.now.sets.now c.args.k = rw c.from.ensures at (c.in-Some.ensures.lookup.3.1 0) in
    ahead_none c.loop-r.yielded c.in-None.ensures.steps.0 c.loop-r.invariant.ahead ∙ rw (c.into_iter-r-iterator.ensures.into_iter_gives, c.members-r-items.ensures, there)

pub returns-clause-few : goal.returns-clause-few
returns-clause-few g c = omega (arith, c.loop-r.invariant.counted, ahead_few c.loop-r.yielded _ c.into_iter-r-iterator.result.rest c.loop-r.invariant.ahead)

pub returns-clause-all : goal.returns-clause-all
returns-clause-all g c = c.loop-r.invariant.counted ∙ ap length (passed g c) ∙ sym (length-map (members 64 (has (table_of c.args.self.now.sets.now c.args.k))) (λ r. 64 * c.args.k + r))

pub returns-clause-written : goal.returns-clause-written
returns-clause-written g c = writes_as (ap (λ (l : List ℕ). flat g.E.Entry.bytes (map (λ r. 64 * c.args.k + r) l)) (passed g c)) c.loop-r.invariant.written

pub overflow_add-n : goal.overflow_add-n
overflow_add-n g c = omega (arith, c.loop-r.invariant.counted, ahead_few c.loop-r.yielded _ c.into_iter-r-iterator.result.rest c.loop-r.invariant.ahead)
