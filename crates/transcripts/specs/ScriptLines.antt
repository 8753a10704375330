-- What a line of a script tells, whatever its bytes. Assumes nothing.
use Rattle.std.specs.Prelude.{List, ◌≡◌, ℕ, get_or, drop}
use Rattle.model.specs.Model.{Model}
use Rattle.model.specs.Sheet.{refused}
use Rattle.words.specs.ScriptWords.{word_of}
use Rattle.meaning.specs.Meaning.{meant}
use Rattle.script.specs.Script.{obey, doing}
use Rattle.demands.specs.Reachable.{Reachable}
use Rattle.transcripts.specs.LineForm.{LineForm}

pub record ScriptLines : Type 0 where
  -- A text that is a word and as many numbers as it takes, in the paper's form, tells what that command or question tells.
  pub formed : (m : Model) (text : List ℕ) (k : ℕ) (ns : List ℕ) → LineForm text k ns → obey m text ≡ doing m (meant k (get_or ns 0 0) (get_or ns 1 0) (get_or ns 2 0)) (drop (word_of k).numbers ns)
  -- "An unknown word, a wrong number of numbers, a number written otherwise, a stray space or other byte, an empty line or a line over 512 bytes answers 14": a text that has the form of no line. It changes nothing.
  pub not_formed : (m : Model) (text : List ℕ) → ((k : ℕ) (ns : List ℕ) → LineForm text k ns → ⊥) → obey m text ≡ refused 14 m
  -- A text is one line at most.
  pub one_line : (text : List ℕ) (k k' : ℕ) (ns ns' : List ℕ) → LineForm text k ns → LineForm text k' ns' → (k ≡ k') × (ns ≡ ns')
  -- "it never prints 15"
  pub never_short : (m : Model) (text : List ℕ) → (obey m text).answer ≡ 15 → ⊥
  -- Demand 3 holds along every script: what a line leaves of a reachable policy can be reached.
  pub reachable : (m : Model) (text : List ℕ) → Reachable m → Reachable (obey m text).after
