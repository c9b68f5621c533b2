-- Strings that Python and C write as a trace does: each byte can be seen or is a blank, or isn't ASCII, and each backslash begins an escape
-- of these: `\\`, `\"`, `\n`, `\r`, `\t`, and three octal digits of a number below 128.
use Rattle.std.specs.Prelude.{◌==◌, ◌&&◌, ◌||◌, ℕ, nat_le, Bool, true, false, not, List, fold, if◌then◌else◌}
use Rattle.dk_languages.specs.declared.literals.escapes.Escape.{Escape}
use Rattle.dk_languages.specs.declared.literals.escapes.Escape.TheVariants.{Outside, Behind, TwoDigits, OneDigit, Unknown}

abbrev pub is_octal : ℕ → Bool
is_octal b = nat_le 48 b && nat_le b 55

-- no control byte
abbrev pub is_shown : ℕ → Bool
is_shown b = nat_le 32 b && not (b == 127)

-- a backslash (92), a quote (34), n, r or t
abbrev pub is_escaped_alone : ℕ → Bool
is_escaped_alone b = b == 92 || (b == 34 || (b == 110 || (b == 114 || b == 116)))

abbrev pub after_escape : Escape → ℕ → Escape
after_escape Outside b = if b == 92 then Behind else if is_shown b then Outside else Unknown
after_escape Behind b = if is_escaped_alone b then Outside else if b == 48 || b == 49 then TwoDigits else Unknown
after_escape TwoDigits b = if is_octal b then OneDigit else Unknown
after_escape OneDigit b = if is_octal b then Outside else Unknown
after_escape Unknown b = Unknown

abbrev pub is_outside : Escape → Bool
is_outside Outside = true
is_outside e = false

abbrev pub has_known_escapes : List ℕ → Bool
has_known_escapes bytes = is_outside (fold after_escape Outside bytes)
