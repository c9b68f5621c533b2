-- The grammar of engines.
use Rattle.std.specs.Prelude.{ℕ, List, slice_get}
use Rattle.std.specs.Option.{option_map_or}
use Rattle.dk_engine.specs.Reading.Levels.{Whole}
use Rattle.dk_template.specs.declared.grammar.Grammar.{Grammar}
use Rattle.dk_template.specs.declared.grammar.Grammar.TheVariants as grammar

-- the grammar of the engine at a place
abbrev pub grammar_at : List Whole → ℕ → Grammar
grammar_at engines p = option_map_or (λ (engine : Whole). engine.grammar) (slice_get engines p) grammar.Two
