-- A user is assigned to all 64 roles and has all of them active. Assumes nothing.
use mathlib.Core.Bool.{true, false, not, ◌||◌}
use mathlib.Core.List.{[], ◌∷◌}
use mathlib.Core.Path.{◌≡◌, refl}
use Prim.Native.Nat.{ℕ}
use lib.ListN.{length}
use Rattle.roleset.specs.Bounded.{bit, some, every, tally, members}
use Rattle.roleset.specs.Roles.{has, pack, those, with, union, common, subset, is_empty}
use Rattle.hierarchy.specs.Walks.{juniors_of, walk, reach}
use Rattle.model.specs.Lists.{rising, some_from, listed, set_of, up_to_first}
use Rattle.model.specs.Model.{Model, empty, put}
use Rattle.model.specs.Sheet.{verdict, settle, done}
use Rattle.model.specs.Step.{step}
use Rattle.model.specs.Words.{permission, breaks, breaks_some, static_broken, dynamic_broken, sessions_open}
use Rattle.model.specs.commands.Users.{user, role}
use Rattle.model.specs.commands.Assigning.{assign, assigned, grant, granted}
use Rattle.model.specs.commands.Naming.{session_beyond, permission_beyond}
use Rattle.model.specs.commands.Sessions.{free_from, opened, session, permitted, looked, check}
use Rattle.model.specs.declared.Command.TheVariants.{AddUser, Assign, Grant, OpenSession}
use Rattle.demands.specs.Reachable.{Reachable, start, after}
use Rattle.edges.specs.MostLooked.{MostLooked}
use Rattle.edges.proofs.LongestChain.{after-all, reached-all, all-roles}

unfoldable pub with-user : Model
with-user = (step (step all-roles (AddUser (record { number = 7 })) []).after (Grant 4 30 (record { number = 63 })) []).after

unfoldable pub all-assigned : Model
all-assigned = after-all (λ k. Assign (record { number = 7 }) (record { number = k })) 0 64 with-user

unfoldable pub all-active : Model
all-active = (step all-assigned (OpenSession (record { number = 7 })) (members 64 (has 18446744073709551615))).after

reachable : Reachable all-active
unfolding all-active all-assigned with-user all-roles
reachable = after (reached-all _ 0 64 _ (after (after (reached-all _ 0 64 _ start) _ _) _ _)) _ _

-- what a check looks at there: one part after another
pub record Parts : Type 0 where
  pub live : (all-active.sessions 0).live ≡ true
  pub active : (all-active.sessions 0).active ≡ 18446744073709551615
  pub lines : all-active.juniors ≡ empty.juniors
  pub held : all-active.holders 1054 ≡ 9223372036854775808
  pub unheld : all-active.holders 1055 ≡ 0

parts : Parts
unfolding all-active all-assigned with-user all-roles after-all some every members has pack those with union common subset is_empty juniors_of walk reach rising some_from listed set_of empty put verdict settle step breaks breaks_some static_broken dynamic_broken sessions_open tally user role assign assigned grant granted free_from opened session
parts = record { live = refl; active = refl; lines = refl; held = refl; unheld = refl }

-- a check by these parts
by_parts : (m : Model) (juniors : ℕ → ℕ) (active holders obj : ℕ) → (session_beyond 0 || permission_beyond 4 obj) ≡ false → (m.sessions 0).live ≡ true → m.juniors ≡ juniors → (m.sessions 0).active ≡ active → m.holders (permission 4 obj) ≡ holders → check m 0 4 obj ≡ done (bit (not (is_empty (common (reach juniors active) holders))) ∷ length (up_to_first (has holders) (members 64 (has (reach juniors active)))) ∷ []) m
unfolding check settle verdict permitted looked
by_parts m juniors active holders obj within live lines e h = rw (within, live, lines, e, h)

-- All 64 can be looked at.
pub most-looked : MostLooked
unfolding some members has pack those with union common is_empty juniors_of walk reach up_to_first empty
most-looked =
    record {
      policy = all-active;
      reached = reachable;
      found = by_parts all-active empty.juniors 18446744073709551615 9223372036854775808 30 refl parts.live parts.lines parts.active parts.held;
      not_found = by_parts all-active empty.juniors 18446744073709551615 0 31 refl parts.live parts.lines parts.active parts.unheld;
    }
