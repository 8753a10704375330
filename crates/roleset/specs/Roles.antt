-- A set of roles is a number below 2 ^ 64: role r is a member where bit r is 1. "Users are 0 to 255, roles 0 to 63."
-- Every operation says which roles are members of its result. Assumes nothing.
use Rattle.std.specs.Prelude.{Bool, ◌&&◌, ◌||◌, not, ℕ, zero, suc, ◌+◌, ◌*◌, ◌/◌, ◌%◌, ◌^◌, eqb}
use Rattle.roleset.specs.Bounded.{bit, some, every, tally}

-- role r is a member of the set s
unfoldable pub has : ℕ → ℕ → Bool
has s r = eqb (s / 2 ^ r % 2) 1

-- the set of the roles below n that pass the test
unfoldable pub pack : ℕ → (ℕ → Bool) → ℕ
pack zero test = 0
pack (suc n) test = bit (test n) * 2 ^ n + pack n test

-- the set of the roles, 0 to 63, that pass the test
unfoldable pub those : (ℕ → Bool) → ℕ
those test = pack 64 test

-- no role
abbrev pub none : ℕ
none = 0

-- s and the role r
unfoldable pub with : ℕ → ℕ → ℕ
with s r = those (λ k. has s k || eqb k r)

-- s without the role r
unfoldable pub without : ℕ → ℕ → ℕ
without s r = those (λ k. has s k && not (eqb k r))

-- the roles in a or in b
unfoldable pub union : ℕ → ℕ → ℕ
union a b = those (λ k. has a k || has b k)

-- the roles in a and in b
unfoldable pub common : ℕ → ℕ → ℕ
common a b = those (λ k. has a k && has b k)

-- the roles in a and not in b
unfoldable pub minus : ℕ → ℕ → ℕ
minus a b = those (λ k. has a k && not (has b k))

-- every role in a is in b
unfoldable pub subset : ℕ → ℕ → Bool
subset a b = every 64 (λ k. not (has a k) || has b k)

-- no role is in s
unfoldable pub is_empty : ℕ → Bool
is_empty s = not (some 64 (has s))

-- how many roles are in s
unfoldable pub count : ℕ → ℕ
count s = tally 64 (has s)
