-- Long chains: when one of more roles than are allowed starts in a front. Assumes nothing.
use mathlib.Core.Bool.{Bool, true, false}
use mathlib.Core.Path.{◌≡◌, refl}
use Prim.Native.Nat.{ℕ, zero, suc, ◌<◌}
use Rattle.roleset.specs.Roles.{has, is_empty}
use Rattle.roleset.proofs.BoundedLaws.{clash}
use Rattle.roleset.proofs.Laws.{is_empty_false}
use Rattle.hierarchy.specs.Lines.{line, Chain, Small}
use Rattle.hierarchy.specs.Lines.Chain.{alone, down}
use Rattle.hierarchy.specs.Walks.{juniors_of, longer_chain}
use Rattle.hierarchy.proofs.WalkLaws.{not-empty, junior_of, of_junior}

module _ (lines : ℕ → ℕ) where
  -- ---- case by case

  -- no chain starts in an empty front
  pub longer_empty : (n front : ℕ) → is_empty front ≡ true → longer_chain lines n front ≡ false
  unfolding longer_chain
  longer_empty zero front e = rw e
  longer_empty (suc n) front e = rw (e, longer_chain)

  -- with no role allowed, any role is a longer one
  pub longer_stopped : (front : ℕ) → is_empty front ≡ false → longer_chain lines 0 front ≡ true
  unfolding longer_chain
  longer_stopped front e = rw e

  -- else it is asked of the front's juniors, with one role fewer allowed
  pub longer_on : (n front : ℕ) → is_empty front ≡ false → longer_chain lines (suc n) front ≡ longer_chain lines n (juniors_of lines front)
  unfolding longer_chain
  longer_on n front e = rw (e, longer_chain)

  -- ---- runs

  -- a run of n roles starts at s: a chain whose roles after s are 0 to 63
  pub data Run : ℕ → ℕ → Type 0 where
    stay : {s : ℕ} → Run 1 s
    go_on : {n s k : ℕ} → line lines s k ≡ true → k < 64 → Run n k → Run (suc n) s

  -- a run of n roles starts at some role of the front
  pub record RunFrom (n front : ℕ) : Type 0 where
    pub role : ℕ
    pub small : role < 64
    pub member : has front role ≡ true
    pub run : Run n role

  longer_nothing : (n front : ℕ) → is_empty front ≡ true → longer_chain lines n front ≡ true → RunFrom (suc n) front
  longer_nothing n front e h = clash false (rw (longer_empty n front e) at h) refl

  -- Where the answer is yes, a run of more roles than were allowed starts in the front.
  pub longer_run : (n front : ℕ) → longer_chain lines n front ≡ true → RunFrom (suc n) front
  longer_run zero front h = go (is_empty front) refl
    where
      go : (b : Bool) → is_empty front ≡ b → RunFrom 1 front
      go true e = longer_nothing 0 front e h
      go false e =
          let m = is_empty_false front e in
          record { role = m.0; small = m.1; member = m.2; run = stay }
  longer_run (suc n) front h = go (is_empty front) refl (longer_run n (juniors_of lines front))
    where
      go : (b : Bool) → is_empty front ≡ b → (longer_chain lines n (juniors_of lines front) ≡ true → RunFrom (suc n) (juniors_of lines front)) → RunFrom (suc (suc n)) front
      go true e ih = longer_nothing (suc n) front e h
      go false e ih =
          let f = ih (rw (longer_on n front e) at h) in
          let o = of_junior lines front f.role f.member in
          record { role = o.1.0; small = o.1.1; member = o.1.2; run = go_on o.1.3 f.small f.run }

  -- Where such a run starts in the front, the answer is yes.
  pub run_longer : (n front s : ℕ) → s < 64 → has front s ≡ true → Run (suc n) s → longer_chain lines n front ≡ true
  run_longer zero front s l h c = rw (longer_stopped front (not-empty front s l h))
  run_longer (suc n) front s l h (go_on {k = k} p lk c) = rw (longer_on n front (not-empty front s l h)) (run_longer n (juniors_of lines front) k lk (junior_of lines front s k l lk h p) c)

  -- Over lines between roles 0 to 63 every chain is a run.
  pub chain_run : Small lines → {n s : ℕ} → Chain lines n s → Run n s
  chain_run small alone = stay
  chain_run small (down {s = s} {j = j} p c) = go_on p (small.within s j p).1 (chain_run small c)
