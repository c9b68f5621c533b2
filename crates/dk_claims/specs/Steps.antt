-- Steps through a text, and through the lines of a file.
use Rattle.std.specs.Prelude.{◌≡◌, ◌++◌, ⊤, ℕ, Bool, true, false, List, [], ◌∷◌, length, Option, Some, None, Result, Ok, Err}
use Rattle.std.specs.Char.{is_ascii_digit}
use Rattle.std.specs.List.{list_all, suffix_len}
use Rattle.dk_base.specs.Reading.{Line}
use Rattle.dk_lines.specs.Answers.{IsNextLine}
use Rattle.dk_lines.specs.Reading.{Reading}
use Rattle.dk_lines.specs.declared.lines.LineFault.{LineFault}
use Rattle.dk_lines.specs.declared.lines.LineFault.TheVariants as fault
use Rattle.dk_claims.specs.Standing.{StandsFor}
use Rattle.dk_claims.specs.declared.sections.Sections.{Sections}

-- a text without all digits at its end
pub record IsWithoutDigits (text front : List ℕ) : Type 0 where
  pub digits : List ℕ
  pub split : text ≡ front ++ digits
  pub are_digits : list_all is_ascii_digit digits ≡ true
  pub are_all : length digits ≡ suffix_len is_ascii_digit text

-- what an answer of the reader of lines does to the sections
abbrev pub Takes : Sections → Result (Option Line) LineFault → Result Bool LineFault → Sections → Type 0
Takes old (Ok (Some line)) (Ok true) new = (lines : List (List ℕ)) → StandsFor old lines → StandsFor new (lines ++ line.bytes ∷ [])
Takes old (Ok (Some line)) (Err fault.NoMemory) new = ⊤
Takes old (Ok None) (Ok false) new = new ≡ old
Takes old (Err e) (Err e') new = e ≡ e'
Takes old answer result new = ⊥

-- a line was taken, or there is none
pub record TakesLine (old : Sections) (r : Reading) (before : Option (List ℕ))
    (result : Result Bool LineFault) (new : Sections) (r' : Reading)
    (after : Option (List ℕ)) : Type 0 where
  pub answer : Result (Option Line) LineFault
  pub is_next : IsNextLine r before answer r' after
  pub takes : Takes old answer result new
