-- The messages of programs.
use Rattle.std.specs.Prelude.{◌++◌, ℕ, List, codes}
use Rattle.std.specs.Fmt.{decimal}
use Rattle.dk_base.specs.Refusals.{why_text}
use Rattle.dk_base.specs.declared.why.Why.{Why}

-- a line of a file is refused
abbrev pub fault_line : List ℕ → ℕ → Why → List ℕ
fault_line file line why = codes "daikon: " ++ file ++ codes ":" ++ decimal line ++ codes ": " ++ why_text why ++ codes "\n"

-- a file can't be read
abbrev pub unread_line : List ℕ → List ℕ
unread_line name = codes "daikon: cannot read " ++ name ++ codes "\n"
