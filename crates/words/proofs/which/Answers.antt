-- The first row with the letters of the text. Assumes nothing.
use mathlib.Core.Path.{◌≡◌, ap, ◌∙◌}
use Rattle.std.proofs.Common.{Option, Some, None, rules, tests}
use Rattle.std.specs.Option.{option_map, MatchOption, IsSomeAnd}
use Rattle.std.specs.Str.{bytes_eq}
use Rattle.std.proofs.lemmas.Iterator.{YieldsList-from_slice}
use Rattle.std.proofs.lemmas.Iterator.Search.{find_from_yields_List}
use Rattle.words.specs.declared.Row.{Row}
use Rattle.words.specs.declared.Word.{Word}
use Rattle.words.proofs.Numbers.{found}
use Rattle.words.proofs.which.Goals as goal
use denote.Ref.{Bor}

-- the word of the row that was found
mapped : (P : Bor Row → Word → Type 0) (x : Option (Bor Row)) (y : Option Word) → MatchOption x (y ≡ None) (λ r. IsSomeAnd y (P r)) → ((r : Bor Row) (w : Word) → P r w → w ≡ r.now.0) → y ≡ option_map (λ (r : Row). r.0) (option_map (λ (r : Bor Row). r.now) x)
mapped P None y h k = h
mapped P (Some r) (Some w) h k = ap Some (k r w h)
mapped P (Some r) None h k = absurd h

pub returns : goal.returns
returns c =
    let first = find_from_yields_List (λ (r : Row). bytes_eq c.args.text.now r.1.now) _ _ c.find.result c.find.ensures.ran (YieldsList-from_slice c.rows.result.now cc) (λ x b q k. search (rules, tests)) in
    mapped _ c.find.result c.map.result c.map.ensures.cases (λ r w p. search (rules, tests)) ∙ ap (option_map (λ (r : Row). r.0)) first ∙ found c.args.text.now c.rows.result.now c.rows.ensures.rows c.rows.ensures.in_order
