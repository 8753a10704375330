-- Demand 2 leaves one engine, and shuts out those that the paper names. Assumes nothing.
use mathlib.Core.Bool.{true, not}
use mathlib.Core.List.Memᴰ
use mathlib.Core.List.{List, [], ◌∷◌}
use mathlib.Core.Logic.{◌⊎◌, inl, inr, ◌↔◌}
use mathlib.Core.Path.{◌≡◌, refl, sym, ap, ◌∙◌}
use Prim.Native.Nat.{ℕ}
use native.Mathlib.Omega.{arith}
use native.Mathlib.Decide.{ℕ_discrete}
use Rattle.roleset.specs.Roles.{has}
use Rattle.roleset.proofs.BoundedLaws.{clash}
use Rattle.roleset.proofs.Laws.{has-none}
use Rattle.hierarchy.specs.Lines.{one}
use Rattle.model.specs.Model.{Model, empty, put}
use Rattle.model.specs.Sheet.{Refusal, Told, verdict, settle}
use Rattle.model.specs.Step.{step}
use Rattle.model.specs.Words.{permission}
use Rattle.model.specs.commands.Users.{user}
use Rattle.model.specs.declared.Command.{Command}
use Rattle.model.specs.declared.Command.TheVariants.{AddUser}
use Rattle.sound.proofs.Sheet.{AllClear}
use Rattle.benchsheet.specs.Lines.{Line, command, question, afterwards, at_the_bench, first_ten, u}
use Rattle.demands.specs.Demand2.{Obeys, Answers, Applies, Exactly, check_refusals, Checked, Granted, FirstToApply, refusals, results, effect}
use Rattle.demands.specs.Reachable.{Reachable, start, after}
use Rattle.misreadings.specs.ShutOut.{ShutOut, Engine, Checker}
use Rattle.misreadings.proofs.Bench.{bench}

-- ---- one engine, one checker

-- Two answers to one list, each of which is given exactly as demand 2 says, are one.
one_answer : (a b : ℕ) (P : ℕ → Type 0) → ((n : ℕ) → (n ≡ 0 → ⊥) → (a ≡ n) ↔ P n) → ((n : ℕ) → (n ≡ 0 → ⊥) → (b ≡ n) ↔ P n) → a ≡ b
one_answer a b P f g = go (ℕ_discrete a 0) (ℕ_discrete b 0)
  where
    go : Dec (a ≡ 0) → Dec (b ≡ 0) → a ≡ b
    go (yes p) (yes q) = p ∙ sym q
    go (yes p) (no q) = (f b q).1 ((g b q).0 refl)
    go (no p) q = sym ((g a p).1 ((f a p).0 refl))

told-one : (t v : Told) → t.answer ≡ v.answer → t.results ≡ v.results → t.after ≡ v.after → t ≡ v
told-one t v a b c = λ i. record { answer = a i; results = b i; after = c i }

pub exactly-one : (m : Model) (list : List Refusal) (results : List ℕ) (then : Model) (t v : Told) → Exactly m list results then t → Exactly m list results then v → t ≡ v
exactly-one m list results then t v x y = go (ℕ_discrete t.answer 0)
  where
    same : t.answer ≡ v.answer
    same = one_answer t.answer v.answer (FirstToApply list) x.refused y.refused

    go : Dec (t.answer ≡ 0) → t ≡ v
    go (yes p) = told-one t v same (x.gives p ∙ sym (y.gives (sym same ∙ p))) (x.changes p ∙ sym (y.changes (sym same ∙ p)))
    go (no p) = told-one t v same (x.silent p ∙ sym (y.silent (λ e. p (same ∙ e)))) (x.unchanged p ∙ sym (y.unchanged (λ e. p (same ∙ e))))

one-engine : (engine other : Engine) → Obeys engine → Obeys other → (m : Model) → Reachable m → (c : Command) (list : List ℕ) → engine m c list ≡ other m c list
one-engine engine other f g m p c list = exactly-one m (refusals m c list) (results m c list) (effect m c list) (engine m c list) (other m c list) (f m p c list) (g m p c list)

pub checked-one : (m : Model) (s op obj : ℕ) (t v : Told) → Checked m s op obj t → Checked m s op obj v → t ≡ v
checked-one m s op obj t v x y = told-one t v same (go (ℕ_discrete t.answer 0)) (x.unchanged ∙ sym y.unchanged)
  where
    same : t.answer ≡ v.answer
    same = one_answer t.answer v.answer _ x.refused y.refused

    go : Dec (t.answer ≡ 0) → t.results ≡ v.results
    go (yes p) = pick (x.answers p)
      where
        pick : (n : ℕ) × ((t.results ≡ 1 ∷ n ∷ []) ⊎ (t.results ≡ 0 ∷ n ∷ [])) → t.results ≡ v.results
        pick (n, inl a) = a ∙ sym ((y.looked_yes (sym same ∙ p) n).1 ((x.looked_yes p n).0 a))
        pick (n, inr a) = a ∙ sym ((y.looked_no (sym same ∙ p) n).1 ((x.looked_no p n).0 a))
    go (no p) = x.silent p ∙ sym (y.silent (λ e. p (same ∙ e)))

pub one-checker : (checker other : Checker) → Answers checker → Answers other → (m : Model) → Reachable m → (s op obj : ℕ) → checker m s op obj ≡ other m s op obj
one-checker checker other f g m p s op obj = checked-one m s op obj (checker m s op obj) (other m s op obj) (f m p s op obj) (g m p s op obj)

-- ---- the engines that are shut out

-- what lines leave of a reachable policy is reachable
pub afterwards-reachable : (m : Model) → Reachable m → (lines : List Line) → Reachable (afterwards m lines)
unfolding afterwards
afterwards-reachable m p [] = p
afterwards-reachable m p (command c list ∷ rest) = afterwards-reachable (step m c list).after (after p c list) rest
afterwards-reachable m p (question q ∷ rest) = afterwards-reachable m p rest

pub bench-reachable : Reachable at_the_bench
unfolding at_the_bench
bench-reachable = afterwards-reachable empty start first_ten

-- where no condition of a list holds no number of it applies
pub none-applies : (cases : List Refusal) → AllClear cases → (n : ℕ) → Applies cases n → ⊥
none-applies [] c n a = Memᴰ.not-nil a
none-applies (r ∷ rest) c n (Memᴰ.head e) = clash true refl (ap (λ (x : Refusal). x.holds) e ∙ c.0)
none-applies (r ∷ rest) c n (Memᴰ.tail a) = none-applies rest c.1 n a

-- on the empty policy a user may be added
first-user : (n : ℕ) → Applies (refusals empty (AddUser (u 0)) []) n → ⊥
unfolding refusals empty
first-user = none-applies _ (refl, (refl, tt))

refusing : (engine : Engine) → Obeys engine → ((m : Model) (c : Command) (list : List ℕ) → (engine m c list).answer ≡ 0 → ⊥) → ⊥
refusing engine f h = h empty (AddUser (u 0)) [] ((f empty start (AddUser (u 0)) []).done.1 first-user)

idle : (engine : Engine) → Obeys engine → ((m : Model) (c : Command) (list : List ℕ) → (engine m c list).after ≡ m) → ⊥
unfolding effect empty put
idle engine f h =
    let x = f empty start (AddUser (u 0)) [] in
    clash true refl (ap (λ (m : Model). m.users 0) (sym (x.changes (x.done.1 first-user)) ∙ h empty (AddUser (u 0)) []))

-- the policy with user 0 alone
abbrev one-user : Model
one-user = (step empty (AddUser (u 0)) []).after

once : (engine : Engine) → Obeys engine → ((m : Model) → (m ≡ empty → ⊥) → (c : Command) (list : List ℕ) → ((engine m c list).answer ≡ 0) × ((engine m c list).after ≡ m)) → ⊥
unfolding effect empty put step user settle verdict
once engine f h =
    let not-empty : one-user ≡ empty → ⊥ = λ e. clash true refl (ap (λ (m : Model). m.users 0) e) in
    let x = f one-user (after start (AddUser (u 0)) []) (AddUser (u 1)) [] in
    let y = h one-user not-empty (AddUser (u 1)) [] in
    clash true refl (ap (λ (m : Model). m.users 1) (sym (x.changes y.0) ∙ y.1))

-- at the bench session 0 may do 4 on 30, through role 0 below role 2, and not 4 on 31, which no role holds
bench-granted : Granted at_the_bench 0 (permission 4 30)
bench-granted = record { role = 0; effective = record { exists = bench.exists; through = inr (2, bench.active, one bench.lower) }; holds = bench.holds }

bench-open : (n : ℕ) → Applies (check_refusals at_the_bench 0 4 30) n → ⊥
bench-open = none-applies _ (refl, (ap not bench.live, tt))

bench-closed : (n : ℕ) → Applies (check_refusals at_the_bench 0 4 31) n → ⊥
bench-closed = none-applies _ (refl, (ap not bench.live, tt))

yes-is-not-no : (n k : ℕ) → ◌≡◌ {A = List ℕ} (1 ∷ n ∷ []) (0 ∷ k ∷ []) → ⊥
yes-is-not-no n k e = let z : ◌≡◌ {A = ℕ} 1 0 = cc in omega arith

yes-always : (checker : Checker) → Answers checker → ((m : Model) (s op obj : ℕ) → (checker m s op obj).answer ≡ 0 → (n : ℕ) × ((checker m s op obj).results ≡ 1 ∷ n ∷ [])) → ⊥
yes-always checker f h =
    let x = f at_the_bench bench-reachable 0 4 31 in
    let answered = x.done.1 bench-closed in
    let g = (x.exactly answered).0 (h at_the_bench 0 4 31 answered) in
    clash (has 0 g.role) (ap (λ (set : ℕ). has set g.role) (sym bench.unheld) ∙ g.holds) (has-none g.role)

no-always : (checker : Checker) → Answers checker → ((m : Model) (s op obj : ℕ) → (checker m s op obj).answer ≡ 0 → (n : ℕ) × ((checker m s op obj).results ≡ 0 ∷ n ∷ [])) → ⊥
no-always checker f h =
    let x = f at_the_bench bench-reachable 0 4 30 in
    let answered = x.done.1 bench-open in
    let told = (x.exactly answered).1 bench-granted in
    let said = h at_the_bench 0 4 30 answered in
    yes-is-not-no told.0 said.0 (sym told.1 ∙ said.1)

-- demand 2 leaves one engine; those that the paper names are shut out
pub shut_out : ShutOut
shut_out = record { one_engine = one-engine; one_checker = one-checker; refusing = refusing; yes_always = yes-always; no_always = no-always; idle = idle; once = once }
