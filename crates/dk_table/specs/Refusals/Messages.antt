-- The message of a refused table.
use Rattle.std.specs.Prelude.{◌++◌, ℕ, List, codes}
use Rattle.std.specs.Fmt.{decimal}
use Rattle.dk_table.specs.Refusals.{why_text}
use Rattle.dk_table.specs.declared.faults.TableWhy.{TableWhy}

-- a row of a file is refused
abbrev pub refusal_line : List ℕ → ℕ → TableWhy → List ℕ
refusal_line file row why = codes "daikon: " ++ file ++ codes ": row " ++ decimal row ++ codes ": " ++ why_text why ++ codes "\n"
