-- Header lines, and the comparability word that they put in force.
use Rattle.std.specs.Prelude.{◌≡◌, ℕ, Bool, true, false, List, codes, Option, Some, None, Result, Ok, Err, if◌then◌else◌}
use Rattle.std.specs.Str.{bytes_eq}
use Rattle.dk_base.specs.declared.why.Why.{Why}
use Rattle.dk_base.specs.declared.why.Why.TheVariants.{BadHeader}
use Rattle.dk_decl.specs.LineWords.{begins, operand}
use Rattle.dk_decl.specs.declared.header.Header.{Header}

-- whether the comparability word in force is `implicit`, and not `none`
abbrev pub is_implicit : Header → Bool
is_implicit h = h.implicit

-- whether the next line has to be the word of the line `VarComparability` in front of it
abbrev pub awaits_word : Header → Bool
awaits_word h = h.awaits_word

-- before any header line: `implicit`
abbrev pub first_header : Header
first_header = record { implicit = true; awaits_word = false }

abbrev pub with_word : Bool → Header
with_word implicit = record { implicit = implicit; awaits_word = false }

-- the word `none` or `implicit`
unfoldable pub comparability_word : List ℕ → Option Bool
comparability_word text =
    if bytes_eq text (codes "implicit") then Some true
    else if bytes_eq text (codes "none") then Some false
    else None

-- this word is in force from here on
abbrev pub with_text : Option Bool → Result Header Why
with_text None = Err BadHeader
with_text (Some implicit) = Ok (with_word implicit)

-- the header behind a header line, or its fault; none where the line is no header line
unfoldable pub header_line : Header → List ℕ → Option (Result Header Why)
header_line h line =
    if h.awaits_word then Some (with_text (comparability_word line))
    else if bytes_eq line (codes "VarComparability") then Some (Ok (record h { awaits_word = true }))
    else if begins (codes "var-comparability") line then Some (with_text (comparability_word (operand line)))
    else if begins (codes "decl-version") line then Some (if bytes_eq (operand line) (codes "2.0") then Ok h else Err BadHeader)
    else if begins (codes "input-language") line then Some (Ok h)
    else None

-- The answer at a line: false where it is no header line, and the fault where it is refused; these two change nothing.
abbrev pub HeaderAnswers : Option (Result Header Why) → Header → Result Bool Why → Header → Type 0
HeaderAnswers None h answer h' = (answer ≡ Ok false) × (h' ≡ h)
HeaderAnswers (Some (Ok next)) h answer h' = (answer ≡ Ok true) × (h' ≡ next)
HeaderAnswers (Some (Err why)) h answer h' = (answer ≡ Err why) × (h' ≡ h)
