-- The lines of a state are 64 numbers below 2 ^ 64, and the walk over them is exact. Assumes nothing.
use mathlib.Core.Bool.{true}
use mathlib.Core.List.{List}
use mathlib.Core.Logic.{◌↔◌}
use mathlib.Core.Path.{◌≡◌, refl}
use Prim.Native.Nat.{ℕ}
use Rattle.roleset.specs.Roles.{has}
use Rattle.hierarchy.specs.Lines.{Small, Under}
use Rattle.hierarchy.proofs.InheritsLaws.{small-intro}
use Rattle.hierarchy.proofs.WalkLaws.{reach_reaches, reach_small}
use Rattle.model.specs.Words.{reached}
use Rattle.model.specs.commands.Sessions.{looked}
use Rattle.sound.proofs.Words.{permitted-exact}
use Rattle.demands.proofs.Looking.{how_far, at_most_64}
use Rattle.state.specs.Places.{juniors_at}
use Rattle.state.specs.View.{view}
use Rattle.state.proofs.OneToOne.{part_small}
use Rattle.state.proofs.Slots.{part_none}
use Rattle.unique.specs.AnyState.{AnyState}
use Rattle.unique.specs.Unique.{State}
use Rattle.unique.proofs.Unique.{numbers_of}

lines : (l : List ℕ) → State l → Small (view l).juniors
unfolding view
lines l v = small-intro (λ s h. part_none l juniors_at 64 s h) (λ s h. part_small l (numbers_of l v) juniors_at 64 s)

reaches : (l : List ℕ) → State l → (from r : ℕ) → (has (reached (view l) from) r ≡ true) ↔ Under (view l).juniors from r
reaches l v from = (reach_reaches (view l).juniors from (reached (view l) from) refl).exactly (lines l v)

-- inheritance is exact on any state, and so is how far a check looks
pub any-state : AnyState
unfolding looked
any-state =
    record {
      lines = lines;
      reaches = reaches;
      permits = λ l v s p.
          let one = reaches l v ((view l).sessions s).active in
          let exact = permitted-exact (view l) s p in
          ((λ e. let q = exact.0 e in (q.0, (one q.0).0 q.1, q.2)), (λ q. exact.1 (q.0, (one q.0).1 q.1, q.2)));
      looks = λ l v s p. how_far (reached (view l) ((view l).sessions s).active) ((view l).holders p) (reach_small (view l).juniors ((view l).sessions s).active) (reaches l v ((view l).sessions s).active);
      at_most = λ l v s p. at_most_64 (reached (view l) ((view l).sessions s).active) ((view l).holders p) (reach_small (view l).juniors ((view l).sessions s).active) (reaches l v ((view l).sessions s).active);
    }
