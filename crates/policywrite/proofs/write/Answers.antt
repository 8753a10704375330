-- The eight sections are written one after the other, which is the file. Assumes nothing.
use borrow.Author.Rules.{rules}
use mathlib.Core.List.{List}
use mathlib.Core.Path.{ap, ◌∙◌}
use Prim.Native.Nat.{ℕ, ◌*◌}
use native.Mathlib.Omega.{arith}
use Rattle.roleset.specs.Bounded.{members}
use Rattle.hierarchy.specs.Lines.{table_of}
use Rattle.state.specs.Stores.{Table}
use Rattle.state.specs.View.{view}
use Rattle.text.specs.Bytes.{two, section}
use Rattle.policyform.specs.Encode.{pair_entry, pair_in, grants_part, set_entry, session_entry, encode}
use Rattle.policyform.proofs.Size.{encode-most}
use Rattle.policywrite.specs.declared.Pen.{Pen}
use Rattle.policywrite.specs.Parts.{Writes, row, below}
use Rattle.policywrite.proofs.Appended.{writes_as, writes_more, lent_back}
use Rattle.policywrite.proofs.Numbered.{below-members, below-rows}
use Rattle.policywrite.proofs.write.Goals as goal

-- the pairs of a table that is lent are those of the table
pairs : {a b : Pen} {n : ℕ} {table : ℕ → ℕ} {x : List ℕ} → Table n table x → Writes a b (section pair_entry (below (row (table_of x)) n)) → Writes a b (section pair_entry (members (64 * n) (pair_in table)))
pairs {n = n} {table} {x} t w = writes_as (ap (section pair_entry) (below-rows (table_of x) n ∙ ap (λ (f : ℕ → ℕ). members (64 * n) (pair_in f)) t.each)) w

pub returns : goal.returns
unfolding encode
returns c =
    let m = view c.args.state.now in
    let whole : Writes _ c.put_section-6.new.pen (encode m) =
    writes_more (writes_as (ap (section two) (below-members m.users 256)) c.put_section.ensures)
    (writes_more (rw c.roles.ensures at c.roles-2.ensures)
    (writes_more (pairs c.juniors.ensures c.put_section-2.ensures)
    (writes_more (pairs c.assigned.ensures c.put_section-3.ensures)
    (writes_more (writes_as (ap grants_part c.holders.ensures.each) c.put_grants.ensures)
    (writes_more (writes_as (ap (section (set_entry m.ssd)) (below-members (λ n. (m.ssd n).there) 16)) c.put_section-4.ensures)
    (writes_more (writes_as (ap (section (set_entry m.dsd)) (below-members (λ n. (m.dsd n).there) 16)) c.put_section-5.ensures)
    (writes_as (ap (section (session_entry m.sessions)) (below-members (λ s. (m.sessions s).live) 64)) c.put_section-6.ensures))))))) in
    lent_back whole (omega (arith, encode-most m)) (λ e. search rules)
