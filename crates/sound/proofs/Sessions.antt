-- `session`, `activate`, `drop` and `end` keep a model sound; and the lowest free session number. Assumes nothing.
use mathlib.Core.Bool.{Bool, true, false, not, ◌||◌}
use mathlib.Core.List.{List}
use mathlib.Core.Logic.{◌⊎◌, inl, inr}
use mathlib.Core.Path.{◌≡◌, refl, sym, ap, ◌∙◌}
use Prim.Native.Nat.{ℕ, zero, suc, ◌+◌, ◌≤◌, ◌<◌}
use native.Mathlib.Omega.{arith}
use native.Mathlib.Decide.{dec_lt}
use lib.Dec.{eqb}
use borrow.Author.Tests.{leb-false, eqb-true, not-false}
use Rattle.roleset.specs.Bounded.{bit, tally}
use Rattle.roleset.specs.Roles.{has, with, without, subset}
use Rattle.roleset.proofs.BoundedLaws.{clash}
use Rattle.roleset.proofs.Laws.{has-none, member-small, subset-true}
use Rattle.model.specs.Model.{Model, Session, closed_session, put, with_sessions}
use Rattle.model.specs.Words.{authorised, breaks_some, dynamic_broken, sessions_open}
use Rattle.model.specs.Lists.{set_of}
use Rattle.model.specs.Sound.{SessionShape, Sound}
use Rattle.model.specs.commands.Sessions.{free_from, lowest_free, session_set, open_for, opened, session, active_set, activate, drop, end, check, owner}
use Rattle.sound.proofs.Sheet.{kept, settle-same}
use Rattle.model.proofs.Puts.{session-dynamic}
use Rattle.sound.proofs.Put.{put_all}
use Rattle.sound.proofs.Members.{or_no, with-member, without-member}
use Rattle.sound.proofs.Carried.{existing-with, existing-without, session-none}
use Rattle.sound.proofs.Changing.{sessions_changed}
use Rattle.sound.proofs.Counted.{counted_of, closed-breaks-none, dynamic-fewer}
use Rattle.sound.proofs.Sets.{listed-existing}

-- ---- the lowest free session number

-- n is the lowest number from k on, and below the bound, that no live session has
pub record Free (sessions : ℕ → Session) (k bound n : ℕ) : Type 0 where
  pub within : n < bound
  pub free : (sessions n).live ≡ false
  pub lowest : (i : ℕ) → k ≤ i → i < n → (sessions i).live ≡ true

-- every session from k on and below the bound is live
abbrev Full : (ℕ → Session) → ℕ → ℕ → Type 0
Full sessions k bound = (i : ℕ) → k ≤ i → i < bound → (sessions i).live ≡ true

-- The search from k on, for as many numbers as are left, finds the lowest, or all these sessions are live.
free-or-full : (sessions : ℕ → Session) (left k : ℕ) → Free sessions k (k + left) (free_from sessions left k) ⊎ Full sessions k (k + left)
unfolding free_from
free-or-full sessions zero k = inr (λ i h l. absurd (omega arith))
free-or-full sessions (suc left) k = go (sessions k).live refl (free-or-full sessions left (suc k))
  where
    from : (i : ℕ) → (sessions k).live ≡ true → k ≤ i → (suc k ≤ i → (sessions i).live ≡ true) → Dec (k < i) → (sessions i).live ≡ true
    from i here h f (yes p) = f p
    from i here h f (no p) = let e : i ≡ k = omega arith in rw e here

    go : (b : Bool) → (sessions k).live ≡ b → Free sessions (suc k) (suc k + left) (free_from sessions left (suc k)) ⊎ Full sessions (suc k) (suc k + left) → Free sessions k (k + suc left) (free_from sessions (suc left) k) ⊎ Full sessions k (k + suc left)
    go true e (inl f) =
        let on : free_from sessions (suc left) k ≡ free_from sessions left (suc k) = rw (e, free_from) in
        let w = f.within in
        inl (rw on (record { within = omega arith; free = f.free; lowest = λ i h l. from i e h (λ p. f.lowest i p l) (dec_lt k i) }))
    go true e (inr f) = inr (λ i h l. from i e h (λ p. f i p (omega arith)) (dec_lt k i))
    go false e rest =
        let here : free_from sessions (suc left) k ≡ k = rw (e, free_from) in
        inl (rw here (record { within = omega arith; free = e; lowest = λ i h l. absurd (omega arith) }))

free-at-most : (sessions : ℕ → Session) (left k : ℕ) → free_from sessions left k ≤ k + left
unfolding free_from
free-at-most sessions zero k = omega arith
free-at-most sessions (suc left) k = go (sessions k).live refl (free-at-most sessions left (suc k))
  where
    go : (b : Bool) → (sessions k).live ≡ b → free_from sessions left (suc k) ≤ suc k + left → free_from sessions (suc left) k ≤ k + suc left
    go true e ih = rw (e, free_from) (omega arith)
    go false e ih = rw (e, free_from) (omega arith)

-- The number searched for is at most 64, whether or not there is room.
pub lowest-within : (m : Model) → lowest_free m ≤ 64
lowest-within m = omega (arith, free-at-most m.sessions 64 0)

-- where every test passes, all are counted
tally-all : (n : ℕ) (f : ℕ → Bool) → ((k : ℕ) → k < n → f k ≡ true) → tally n f ≡ n
unfolding tally
tally-all zero f h = refl
tally-all (suc n) f h = omega (arith, ap bit (h n (omega arith)), tally-all n f (λ k l. h k (omega arith)))

-- "the lowest free session number": where fewer than 64 sessions are open there is one, and this is it.
pub lowest-free : (m : Model) → sessions_open m < 64 → Free m.sessions 0 64 (lowest_free m)
unfolding sessions_open
lowest-free m h = go (free-or-full m.sessions 64 0)
  where
    go : Free m.sessions 0 (0 + 64) (lowest_free m) ⊎ Full m.sessions 0 (0 + 64) → Free m.sessions 0 64 (lowest_free m)
    go (inl f) = f
    go (inr f) = absurd (let full = tally-all 64 (λ s. (m.sessions s).live) (λ k l. f k (omega arith) l) in omega arith)

-- ---- the commands

-- One session changed, to one of the right shape that obeys the rules, leaves a sound model sound.
pub session-put-sound : (m : Model) (k : ℕ) (new : Session) → Sound m → SessionShape m k new → ((r : ℕ) → has new.active r ≡ true → has (authorised m new.owner) r ≡ true) → breaks_some m.dsd (counted_of m new) ≡ false → Sound (session_set m k new)
unfolding dynamic_broken
session-put-sound m k new s shaped active unbroken =
    sessions_changed m s (put m.sessions k new)
    (put_all (λ i y. SessionShape m i y) m.sessions k new shaped (λ i d. s.shape.sessions i))
    (put_all (λ i y. (r : ℕ) → has y.active r ≡ true → has (authorised m y.owner) r ≡ true) m.sessions k new active (λ i d. s.rules.active i))
    (put_all (λ i y. breaks_some m.dsd (counted_of m y) ≡ false) m.sessions k new unbroken (λ i d. s.rules.dynamic i))

-- `session u r..` keeps a sound model sound.
pub session-sound : (m : Model) (u : ℕ) (list : List ℕ) → Sound m → Sound (session m u list).after
unfolding session opened
session-sound m u list s =
    kept Sound _ m _ _ refl s (λ c.
    let there = or_no (not (m.users u)) (not (subset (set_of list) m.roles)) c.1.1.0 in
    let existing = listed-existing m list (not-false (subset (set_of list) m.roles) there.1) in
    let free = lowest-free m (leb-false 64 (sessions_open m) c.1.1.1.1.1.0) in
    session-put-sound m (lowest_free m) (open_for u (set_of list)) s
    (record { closed = λ e. clash true refl e; numbered = λ e. free.within; owned = λ e. not-false (m.users u) there.0; active = existing })
    (λ r e. subset-true (set_of list) (authorised m u) (not-false (subset (set_of list) (authorised m u)) c.1.1.1.0) r (member-small (set_of list) r existing.small e) e)
    (sym (session-dynamic m (lowest_free m) (open_for u (set_of list))) ∙ c.1.1.1.1.0))

-- `activate u s r` keeps a sound model sound.
pub activate-sound : (m : Model) (u k r : ℕ) → Sound m → Sound (activate m u k r).after
unfolding activate active_set
activate-sound m u k r s =
    kept Sound _ m _ _ refl s (λ c.
    let missing = or_no (not (m.users u)) (not (m.sessions k).live || not (has m.roles r)) c.1.0 in
    let there = or_no (not (m.sessions k).live) (not (has m.roles r)) missing.1 in
    let live = not-false (m.sessions k).live there.0 in
    let own = eqb-true (m.sessions k).owner u (not-false (eqb (m.sessions k).owner u) c.1.1.0) in
    let asked = not-false (has (authorised m u) r) c.1.1.1.1.0 in
    session-put-sound m k new s
    (record { closed = λ e. clash (m.sessions k).live live e; numbered = x.numbered; owned = x.owned; active = existing-with m (m.sessions k).active r x.active (not-false (has m.roles r) there.1) })
    (λ j e. either j own asked (with-member (m.sessions k).active r j e).1)
    (sym (session-dynamic m k new) ∙ c.1.1.1.1.1.0))
  where
    new : Session
    new = record { live = (m.sessions k).live; owner = (m.sessions k).owner; active = with (m.sessions k).active r }

    x : SessionShape m k (m.sessions k)
    x = s.shape.sessions k

    either : (j : ℕ) → (m.sessions k).owner ≡ u → has (authorised m u) r ≡ true → (has (m.sessions k).active j ≡ true) ⊎ (j ≡ r) → has (authorised m (m.sessions k).owner) j ≡ true
    either j own asked (inl e) = s.rules.active k j e
    either j own asked (inr e) = rw (e, own) asked

-- `drop u s r` keeps a sound model sound.
pub drop-sound : (m : Model) (u k r : ℕ) → Sound m → Sound (drop m u k r).after
unfolding drop active_set dynamic_broken
drop-sound m u k r s =
    kept Sound _ m _ _ refl s (λ c.
    let missing = or_no (not (m.users u)) (not (m.sessions k).live || not (has m.roles r)) c.1.0 in
    let live = not-false (m.sessions k).live (or_no (not (m.sessions k).live) (not (has m.roles r)) missing.1).0 in
    session-put-sound m k new s
    (record { closed = λ e. clash (m.sessions k).live live e; numbered = x.numbered; owned = x.owned; active = existing-without m (m.sessions k).active r x.active })
    (λ j e. s.rules.active k j (without-member (m.sessions k).active r j e).1)
    (dynamic-fewer m (with_sessions m (λ i. new)) k (λ a j e. e) (λ j e. (without-member (m.sessions k).active r j e).1) (s.rules.dynamic k)))
  where
    new : Session
    new = record { live = (m.sessions k).live; owner = (m.sessions k).owner; active = without (m.sessions k).active r }

    x : SessionShape m k (m.sessions k)
    x = s.shape.sessions k

-- `end u s` keeps a sound model sound.
pub end-sound : (m : Model) (u k : ℕ) → Sound m → Sound (end m u k).after
unfolding end dynamic_broken
end-sound m u k s =
    kept Sound _ m _ _ refl s (λ c. session-put-sound m k closed_session s (session-none m k)
    (λ r e. clash (has 0 r) e (has-none r))
    (closed-breaks-none m s.shape))

-- The question `check` changes nothing,
pub check-changes-nothing : (m : Model) (k op obj : ℕ) → (check m k op obj).after ≡ m
unfolding check
check-changes-nothing m k op obj = settle-same _ m _

-- and neither does the question whose a session is.
pub owner-changes-nothing : (m : Model) (k : ℕ) → (owner m k).after ≡ m
unfolding owner
owner-changes-nothing m k = settle-same _ m _
