-- "A policy of ours never needs more than 36,048 bytes." It holds of everything that a file may hold. Assumes nothing.
use mathlib.Core.Bool.{Bool}
use mathlib.Core.List.{List, [], ◌∷◌, ◌++◌}
use Prim.Native.Nat.{ℕ, ◌+◌, ◌*◌, ◌≤◌}
use native.Mathlib.Nat.{mul-suc, mul-le-mul_left}
use native.Mathlib.Omega.{arith}
use lib.ListN.{length, length-append}
use Rattle.roleset.specs.Bounded.{members}
use Rattle.roleset.specs.Roles.{has}
use Rattle.roleset.proofs.MembersLaws.{members-most}
use Rattle.model.specs.Model.{Model, RoleSet, Session}
use Rattle.model.specs.Words.{assignments, grants, lines_standing}
use Rattle.model.specs.Sound.{Limits}
use Rattle.text.specs.Bytes.{two, flat, section}
use Rattle.policyform.specs.Encode.{role_list, pair_entry, pair_in, grant_entry, grant_in, set_entry, session_entry, users_part, lines_part, assigned_part, grants_part, sets_part, sessions_part, encode}
use Rattle.policyform.specs.Form.{Formed}
use Rattle.policyform.proofs.Counts.{pairs-count, grants-count}

flat-size : (put : ℕ → List ℕ) (w : ℕ) → ((k : ℕ) → length (put k) ≤ w) → (ks : List ℕ) → length (flat put ks) ≤ w * length ks
unfolding flat
flat-size put w h [] = omega arith
flat-size put w h (k ∷ ks) = omega (arith, length-append (put k) (flat put ks), h k, flat-size put w h ks, mul-suc w (length ks))

section-size : (put : ℕ → List ℕ) (w n : ℕ) → ((k : ℕ) → length (put k) ≤ w) → (ks : List ℕ) → length ks ≤ n → length (section put ks) ≤ 2 + w * n
unfolding section
section-size put w n h ks l = omega (arith, length-append (two (length ks)) (flat put ks), flat-size put w h ks, mul-le-mul_left w l)

list-size : (set : ℕ) → length (role_list set) ≤ 130
list-size set = section-size two 2 64 (λ k. omega arith) (members 64 (has set)) (members-most 64 (has set))

users-size : (users : ℕ → Bool) → length (users_part users) ≤ 514
users-size users = section-size two 2 256 (λ k. omega arith) (members 256 users) (members-most 256 users)

sets-size : (sets : ℕ → RoleSet) → length (sets_part sets) ≤ 2146
sets-size sets = section-size (set_entry sets) 134 16 (λ k. omega (arith, list-size (sets k).roles)) (members 16 (λ n. (sets n).there)) (members-most 16 (λ n. (sets n).there))

sessions-size : (sessions : ℕ → Session) → length (sessions_part sessions) ≤ 8578
sessions-size sessions = section-size (session_entry sessions) 134 64 (λ k. omega (arith, list-size (sessions k).active)) (members 64 (λ s. (sessions s).live)) (members-most 64 (λ s. (sessions s).live))

pub few-lines : (m : Model) → Limits m → length (members 4096 (pair_in m.juniors)) ≤ 512
unfolding lines_standing
few-lines m l = omega (arith, pairs-count 64 m.juniors, l.lined)

pub few-assigned : (m : Model) → Limits m → length (members 16384 (pair_in m.assigned)) ≤ 2048
unfolding assignments
few-assigned m l = omega (arith, pairs-count 256 m.assigned, l.assigned)

pub few-grants : (m : Model) → Limits m → length (members 262144 (grant_in m.holders)) ≤ 2048
unfolding grants
few-grants m l = omega (arith, grants-count m.holders, l.granted)

lines-size : (m : Model) → Limits m → length (lines_part m.juniors) ≤ 2050
lines-size m l = section-size pair_entry 4 512 (λ k. omega arith) (members 4096 (pair_in m.juniors)) (few-lines m l)

assigned-size : (m : Model) → Limits m → length (assigned_part m.assigned) ≤ 8194
assigned-size m l = section-size pair_entry 4 2048 (λ k. omega arith) (members 16384 (pair_in m.assigned)) (few-assigned m l)

grants-size : (m : Model) → Limits m → length (grants_part m.holders) ≤ 12290
grants-size m l = section-size grant_entry 6 2048 (λ k. omega arith) (members 262144 (grant_in m.holders)) (few-grants m l)

-- one part before the others
more : (x y : List ℕ) (a b : ℕ) → length x ≤ a → length y ≤ b → length (x ++ y) ≤ a + b
more x y a b p q = omega (arith, length-append x y)

pub encode-size : (m : Model) → Formed m → length (encode m) ≤ 36048
unfolding encode
encode-size m f =
    let l = f.limits in
    more (users_part m.users) _ 514 35534 (users-size m.users)
    (more (role_list m.roles) _ 130 35404 (list-size m.roles)
    (more (lines_part m.juniors) _ 2050 33354 (lines-size m l)
    (more (assigned_part m.assigned) _ 8194 25160 (assigned-size m l)
    (more (grants_part m.holders) _ 12290 12870 (grants-size m l)
    (more (sets_part m.ssd) _ 2146 10724 (sets-size m.ssd)
    (more (sets_part m.dsd) (sessions_part m.sessions) 2146 8578 (sets-size m.dsd) (sessions-size m.sessions)))))))

-- Of any model whatever, the file's length is far below 2 ^ 64.
pub encode-most : (m : Model) → length (encode m) ≤ 1668304
unfolding encode
encode-most m =
    more (users_part m.users) _ 514 1667790 (users-size m.users)
    (more (role_list m.roles) _ 130 1667660 (list-size m.roles)
    (more (lines_part m.juniors) _ 16386 1651274 (pairs-size 4096 m.juniors)
    (more (assigned_part m.assigned) _ 65538 1585736 (pairs-size 16384 m.assigned)
    (more (grants_part m.holders) _ 1572866 12870 (section-size grant_entry 6 262144 (λ k. omega arith) (members 262144 (grant_in m.holders)) (members-most 262144 (grant_in m.holders)))
    (more (sets_part m.ssd) _ 2146 10724 (sets-size m.ssd)
    (more (sets_part m.dsd) (sessions_part m.sessions) 2146 8578 (sets-size m.dsd) (sessions-size m.sessions)))))))
  where
    pairs-size : (n : ℕ) (table : ℕ → ℕ) → length (section pair_entry (members n (pair_in table))) ≤ 2 + 4 * n
    pairs-size n table = section-size pair_entry 4 n (λ k. omega arith) (members n (pair_in table)) (members-most n (pair_in table))
