-- A number is that of a word, which asks for what the definition says, or past the last. Assumes nothing.
use mathlib.Core.Path.{◌≡◌, sym, ap, ◌∙◌}
use Prim.Native.Nat.{ℕ, ◌≤◌}
use Rattle.std.proofs.Common.{None}
use Rattle.std.specs.Option.{option_map}
use Rattle.std.proofs.lemmas.Option.{slice_get_past}
use Rattle.words.specs.ScriptWords.{word_count}
use Rattle.words.proofs.Numbers.{named-number, named_none}
use Rattle.meaning.specs.Meaning.{Row, meanings, meant}
use Rattle.meaning.proofs.meaning.Goals as goal

past-last : (k a b c : ℕ) → word_count ≤ k → meant k a b c ≡ None
unfolding meant meanings
past-last k a b c h = ap (option_map (λ (r : Row). r.asks)) (slice_get_past (meanings a b c) k h)

pub returns-in_err-word : goal.returns-in_err-word
returns-in_err-word c = c.from_residual.ensures ∙ sym (past-last _ _ _ _ (named_none _ (sym c.numbered.ensures ∙ c.in_err-word.was)))

pub returns : goal.returns
returns c = rw (named-number c.args.word c.in_ok-word.word (sym c.numbered.ensures ∙ c.in_ok-word.was)) at c.of_word.ensures
