-- Of the roles that are looked at none holds the grant, and the others are still to come. Assumes nothing.
use mathlib.Core.Path.{◌≡◌, sym, ap₂, ◌∙◌}
use Prim.Native.Nat.{ℕ}
use mathlib.Core.Bool.{Bool, true, false}
use native.Mathlib.Omega.{arith}
use Rattle.roleset.specs.Roles.{has}
use Rattle.roleset.proofs.Taking.{Next, next, at-end}
use Rattle.checking.specs.declared.Checked.{Checked}
use Rattle.checking.proofs.Looking.{seen, seen_most, seen_none, found_none, passed_seen, passed_found, held_seen, held_found}
use Rattle.checking.proofs.look.Goals as goal
use Rattle.checking.proofs.look.Goals.{After-has}

-- the role that this turn looks at
taken : (c : After-has) → Next c.loop-r.r-iterator.rest c.in-Some.r c.next.new.self.rest
taken c = next c.loop-r.r-iterator.fits c.next.new.self.fits c.in-Some.ensures.steps

abbrev checked : Bool → ℕ → Checked
checked b n = record { yes = b; looked = n }

-- yes: it holds the grant
pub returns-then-has : goal.returns-then-has
returns-then-has c =
    let holders = c.args.holders in
    let now = taken (goal.at.returns-then-has c).After-has in
    let held : has holders c.in-Some.r ≡ true = sym c.has.ensures ∙ c.if-has.true in
    ap₂ checked (sym (held_found holders now held) ∙ c.loop-r.invariant.1) (omega (arith, held_seen holders now held, c.loop-r.invariant.0))

-- not this one
pub loop-r-preserved : goal.loop-r-preserved
loop-r-preserved c =
    let holders = c.args.holders in
    let now = taken (goal.at.loop-r-preserved c).After-has in
    let off : has holders c.in-Some.r ≡ false = sym c.has.ensures ∙ c.if-has.false in
    (omega (arith, passed_seen holders now off, c.loop-r.invariant.0), passed_found holders now off ∙ c.loop-r.invariant.1)

-- no: none is left
pub returns : goal.returns
returns c =
    let holders = c.args.holders in
    let loop = c.loop-r in
    let none = at-end loop.r-iterator.fits c.in-None.ensures.steps.0 in
    let unseen : seen loop.r-iterator.rest holders ≡ 0 = rw none (seen_none holders) in
    ap₂ checked (sym (rw none (found_none holders)) ∙ loop.invariant.1) (omega (arith, unseen, loop.invariant.0))

pub overflow_add-looked : goal.overflow_add-looked
overflow_add-looked c = omega (arith, c.loop-r.invariant.0, seen_most c.args.roles c.args.holders)
