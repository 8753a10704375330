-- "Each public function has a promise that determines its result, the policy and sessions after it and the buffer it wrote, on refusals too. For each,
-- prove that any two outcomes meeting it are equal". What that says of one function. Assumes nothing.
use Rattle.std.specs.Prelude.{List, ◌≡◌, ℕ}
use Rattle.std.specs.Int.{w64}
use mir.Val.{Val}
use contract.Lifetimes.{Lfts}
use Rattle.std.specs.Borrow.{Array, RattleType}
use denote.Laws.{Is}
use denote.Plain.{UInt}
use denote.Triple.Clauses.{AtExit}
use borrow.Fn.Kinds.{ParamKind, ResultKind, Dens, res_t, ended_of, Out}
use Rattle.state.specs.Places.{places}

-- x is a value of the type: some machine values are its own
abbrev pub Value : (R : RattleType) → R.Denot → Type 0
Value R x = (vs : List Val) × Is R x vs

-- For any arguments, two values of the result's type that meet the promise are equal. `Post` is the function's own contract, as the prover has it:
-- of the lifetimes, the arguments, the result and the parameters at exit
abbrev pub Unique : {n : ℕ} (ps : List (ParamKind n)) (r : ResultKind n) → Out n ps r → Type 0
Unique {n} ps r Post = (κs : Lfts n) (a : Dens κs ps) (x y : (res_t r κs).Denot) (e f : AtExit (ended_of n ps r) κs) → Value (res_t r κs) x → Value (res_t r κs) y → Post κs a x e → Post κs a y f → x ≡ y

-- The same, and what is lent holds the same after both
abbrev pub UniqueLent : {A : Type 0} {n : ℕ} (ps : List (ParamKind n)) (r : ResultKind n) → Out n ps r → ((κs : Lfts n) → AtExit (ended_of n ps r) κs → A) → Type 0
UniqueLent {A} {n} ps r Post buffer = (κs : Lfts n) (a : Dens κs ps) (x y : (res_t r κs).Denot) (e f : AtExit (ended_of n ps r) κs) → Value (res_t r κs) x → Value (res_t r κs) y → Post κs a x e → Post κs a y f → (x ≡ y) × (buffer κs e ≡ buffer κs f)

-- Where a function hands back a part of what it was lent, a value is an address and what stands there. A promise speaks of what stands there: what
-- can be seen of two outcomes is the same
abbrev pub UniqueSeen : {A : Type 0} {n : ℕ} (ps : List (ParamKind n)) (r : ResultKind n) → Out n ps r → ((κs : Lfts n) → (res_t r κs).Denot → AtExit (ended_of n ps r) κs → A) → Type 0
UniqueSeen {A} {n} ps r Post seen = (κs : Lfts n) (a : Dens κs ps) (x y : (res_t r κs).Denot) (e f : AtExit (ended_of n ps r) κs) → Post κs a x e → Post κs a y f → seen κs x e ≡ seen κs y f

-- the numbers are a value of the type that a state is lent as: [u64; PLACES]
abbrev pub State : List ℕ → Type 0
State l = Value (Array (UInt w64) places) l

-- Where the state is lent to be changed: two values of the result's type and two states that meet the promise are equal, in every number of the state
abbrev pub UniqueState : {n : ℕ} (ps : List (ParamKind n)) (r : ResultKind n) → Out n ps r → ((κs : Lfts n) → AtExit (ended_of n ps r) κs → List ℕ) → Type 0
UniqueState {n} ps r Post state = (κs : Lfts n) (a : Dens κs ps) (x y : (res_t r κs).Denot) (e f : AtExit (ended_of n ps r) κs) → State (state κs e) → State (state κs f) → Post κs a x e → Post κs a y f → (x ≡ y) × (state κs e ≡ state κs f)

-- The same, with a buffer lent besides
abbrev pub UniqueBoth : {n : ℕ} (ps : List (ParamKind n)) (r : ResultKind n) → Out n ps r → ((κs : Lfts n) → AtExit (ended_of n ps r) κs → List ℕ) → ((κs : Lfts n) → AtExit (ended_of n ps r) κs → List ℕ) → Type 0
UniqueBoth {n} ps r Post state buffer = (κs : Lfts n) (a : Dens κs ps) (x y : (res_t r κs).Denot) (e f : AtExit (ended_of n ps r) κs) → State (state κs e) → State (state κs f) → Post κs a x e → Post κs a y f → (x ≡ y) × (state κs e ≡ state κs f) × (buffer κs e ≡ buffer κs f)
