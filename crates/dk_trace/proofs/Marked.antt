-- Values with their marks.
use Rattle.std.proofs.Common.{◌≡◌, ℕ, List, [], ◌∷◌, Option, Some, None, Result, refl}
use Rattle.std.specs.Prelude.{◌==◌, ◌&&◌, Bool, true, false}
use Rattle.std.specs.Str.{bytes_eq}
use Rattle.dk_base.specs.Reading.{Line, LineFault, Reads}
use Rattle.dk_base.specs.declared.values.Value.{Value}
use Rattle.dk_trace.specs.Values.{from_mark}

-- a text beside a text of one byte
pub empty_is_no_byte : (byte : ℕ) → false ≡ bytes_eq [] (byte ∷ [])
empty_is_no_byte byte = refl

pub one_byte : (only byte : ℕ) → (only == byte) ≡ bytes_eq (only ∷ []) (byte ∷ [])
one_byte only byte = cond_true (only == byte)
  where
    cond_true : (b : Bool) → b ≡ (b && true)
    cond_true true = refl
    cond_true false = refl

pub more_is_no_byte : (first second byte : ℕ) (rest : List ℕ) → false ≡ bytes_eq (first ∷ second ∷ rest) (byte ∷ [])
more_is_no_byte first second byte rest = cond_false (first == byte)
  where
    cond_false : (b : Bool) → false ≡ (b && false)
    cond_false true = refl
    cond_false false = refl

-- what is the same with every mark is the same in front of the lines that are left
pub same_marked : (a b : Line → Result (List Value) LineFault) (others : Reads (List Value)) → ((mark : Line) → a mark ≡ b mark)
    → (ls : List Line) (close : Option ℕ) → from_mark a others ls close ≡ from_mark b others ls close
same_marked a b others same [] None = refl
same_marked a b others same [] (Some close) = refl
same_marked a b others same (mark ∷ ls) close = rw (same mark) refl
