-- A rule asked of the users, or of the sessions, one after the other, by the roles that they have and all roles these inherit: the first that
-- breaks it ends the sweep. One law for both. Assumes nothing.
use mathlib.Core.Bool.{Bool, true, false, not, ◌&&◌}
use mathlib.Core.List.{List}
use mathlib.Core.Path.{◌≡◌, refl, sym, ap, ap₂, subst, ◌∙◌}
use Prim.Native.Nat.{ℕ, zero, suc, ◌+◌, ◌<◌}
use borrow.Author.Tests.{ne_eqb}
use lib.Dec.{eqb}
use lib.ListN.{length}
use Rattle.std.specs.List.{list_any}
use Rattle.separation.proofs.Somes.{any-some}
use native.Mathlib.Omega.{arith}
use Rattle.roleset.specs.Bounded.{some, every}
use Rattle.roleset.specs.Roles.{has}
use Rattle.roleset.proofs.BoundedLaws.{clash, never, every-elim, some_more, some-intro, some-none, some-ext}
use Rattle.roleset.proofs.Laws.{is_empty-none}
use Rattle.hierarchy.specs.Lines.{table_of}
use Rattle.hierarchy.specs.Walks.{reach}
use Rattle.hierarchy.proofs.WalkLaws.{walk_empty}
use Rattle.model.specs.Model.{Model, RoleSet, with_lines}
use Rattle.model.specs.Words.{breaks, static_broken, dynamic_broken}
use Rattle.model.specs.commands.Sets.{asked_of, broken, rule_broken}
use Rattle.model.specs.declared.Kind.{Kind}
use Rattle.model.specs.declared.Kind.TheVariants.{Static, Dynamic}
use Rattle.state.specs.Stores.{Table}
use Rattle.sweeps.specs.Sweeps.{own_roles, asks_rule}

-- the user, or session, i breaks the rule
abbrev pub breaking : (ℕ → Bool) → (ℕ → ℕ) → (ℕ → ℕ) → ℕ → Bool
breaking rule lines own i = rule (reach lines (own i))

-- it is asked of some
pub asked-some : (kind : Kind) → 0 < asked_of kind
asked-some Static = omega arith
asked-some Dynamic = omega arith

-- a rule of the kind, asked with other lines, is that of the policy with these lines: they change neither the sets nor what anybody has itself
pub asks-lines : (kind : Kind) (m : Model) (lines : ℕ → ℕ) (n : ℕ) → asks_rule kind m lines ≡ rule_broken kind (with_lines m lines n)
unfolding static_broken dynamic_broken
asks-lines Static m lines n = refl
asks-lines Dynamic m lines n = refl

-- what is a table of one kind is one of the kind that is that
pub table-of : (one kind : Kind) (m : Model) (x : List ℕ) → kind ≡ one → Table (asked_of one) (own_roles one m) x → Table (asked_of kind) (own_roles kind m) x
table-of one kind m x e t = subst (λ (k : Kind). Table (asked_of k) (own_roles k m) x) (sym e) t

-- the rule of a set is broken where somebody breaks it
pub set-broken : (kind : Kind) (m : Model) (set : RoleSet) → broken kind m set ≡ some (asked_of kind) (breaking (breaks set) m.juniors (own_roles kind m))
unfolding broken
set-broken Static m set = refl
set-broken Dynamic m set = refl

all-64 : every 64 (has 18446744073709551615) ≡ true
unfolding every has
all-64 = refl

-- every role is one of all
pub all_held : (held k : ℕ) → k < 64 → has held k ≡ true → has 18446744073709551615 k ≡ true
all_held held k l h = every-elim 64 (has 18446744073709551615) all-64 k l

-- from no roles, none is reached
reach-none : (lines : ℕ → ℕ) → reach lines 0 ≡ 0
unfolding reach
reach-none lines = walk_empty lines 64 0 is_empty-none

module _ (rule : ℕ → Bool) (lines own : ℕ → ℕ) where
  -- none of n breaks the rule, and neither does one more, that was walked for
  pub passed_walk : (n held w : ℕ) → held ≡ own n → w ≡ reach lines held → rule w ≡ false → some n (breaking rule lines own) ≡ false → some (n + 1) (breaking rule lines own) ≡ false
  passed_walk n held w h e b p = some_more n _ p (ap rule (sym (e ∙ ap (reach lines) h)) ∙ b)

  -- neither does one more, with no roles, where no roles break nothing
  pub passed_idle : (n held : ℕ) → held ≡ own n → held ≡ 0 → rule 0 ≡ false → some n (breaking rule lines own) ≡ false → some (n + 1) (breaking rule lines own) ≡ false
  passed_idle n held h z b p = some_more n _ p (ap rule (ap (reach lines) (sym h ∙ z) ∙ reach-none lines) ∙ b)

  -- one breaks it
  pub asks_walk : (n k held w : ℕ) → k < n → held ≡ own k → w ≡ reach lines held → rule w ≡ true → true ≡ some n (breaking rule lines own)
  asks_walk n k held w l h e b = sym (some-intro n (breaking rule lines own) k l (ap rule (sym (e ∙ ap (reach lines) h)) ∙ b))

  -- nobody does where those who break it are among all roles, and all roles together do not
  pub asks_none : (n all : ℕ) → ((held : ℕ) → rule held ≡ true → rule all ≡ true) → rule all ≡ false → false ≡ some n (breaking rule lines own)
  asks_none n all grows b = sym (some-none n (breaking rule lines own) (λ i l. never (rule (reach lines (own i))) (λ e. clash (rule all) (grows _ e) b)))

  -- all do
  pub asks_any : (n : ℕ) → 0 < n → ((held : ℕ) → rule held ≡ true) → true ≡ some n (breaking rule lines own)
  asks_any n l b = asks_walk n 0 (own 0) (reach lines (own 0)) l refl refl (b _)

  -- one by one, over a table of what they have themselves: where no roles break nothing, one with none need not be asked
  pub asked-any : (n : ℕ) (x : List ℕ) (b : Bool) → Table n own x → rule 0 ≡ false → b ≡ list_any (λ r. not (eqb r 0) && rule (reach lines r)) x → b ≡ some n (breaking rule lines own)
  asked-any n x b t idle e = e ∙ any-some _ x ∙ some-ext (length x) _ (breaking rule lines (table_of x)) (λ k h. one (table_of x k)) ∙ ap₂ (λ (k : ℕ) (f : ℕ → ℕ). some k (breaking rule lines f)) t.long t.each
    where
      one : (r : ℕ) → (not (eqb r 0) && rule (reach lines r)) ≡ rule (reach lines r)
      one zero = sym (ap rule (reach-none lines) ∙ idle)
      one (suc r) = rw (ne_eqb (suc r) 0 (λ z. omega arith))
