-- Reading lines up to the first fault.
use Rattle.std.specs.Prelude.{ℕ, List, Option, Result, Ok, Err}
use Rattle.dk_base.specs.declared.why.Why.{Why}

-- a line by its number, counted from 1 in its file
pub record Line : Type 0 where
  pub number : ℕ
  pub bytes : List ℕ

-- a fault by its line and the reason
pub record LineFault : Type 0 where
  pub line : ℕ
  pub why : Why

-- one reader after another: the first fault ends the reading
infixl 10 ◌>>=◌
abbrev pub ◌>>=◌ : {A B : Type 0} → Result A LineFault → (A → Result B LineFault) → Result B LineFault
(Ok x) >>= f = f x
(Err e) >>= f = Err e

-- What reads the lines of a block that are left: up to the line of this number, which ends the block, or up to where no more is known.
abbrev pub Reads : Type 0 → Type 0
Reads A = List Line → Option ℕ → Result A LineFault
