-- Records that stand whole at the front of some bytes.
use Rattle.std.specs.Prelude.{◌≡◌, ◌≤◌, ◌<◌, ◌+◌, ◌++◌, ℕ, ℤ, All, List, [], ◌∷◌, drop, length, take, Option, Some, Ok}
use Rattle.dk_base.specs.Reading.{Line, Reads}
use Rattle.dk_base.specs.Values.{value_of_text}
use Rattle.dk_base.specs.Words.{trim_blanks}
use Rattle.dk_base.specs.declared.kinds.Kind.{Kind}
use Rattle.dk_base.specs.declared.kinds.Kind.TheVariants as kind
use Rattle.dk_base.specs.declared.values.Value.{Value}
use Rattle.dk_base.specs.declared.values.Value.TheVariants as value
use Rattle.dk_decl.specs.declared.decls.VarDecl.{VarDecl}
use Rattle.dk_lines.specs.Left.{without_cr}
use Rattle.dk_lines.specs.Passing.{HasNoLf, joined, numbered_lines}
use Rattle.dk_points.specs.Table.{Point}
use Rattle.dk_trace.specs.Bodies.{body_of}
use Rattle.dk_trace.specs.Marks.{marked_value}
use Rattle.dk_trace.specs.MarksResumed.{with_mark}
use Rattle.dk_trace.specs.Records.{sample_of}
use Rattle.dk_trace.specs.RecordsResumed.{shown}
use Rattle.dk_trace.specs.Values.{from_name, record_values, then_values}
use Rattle.dk_trace.specs.declared.marks.Unmarked.{Unmarked}
use Rattle.dk_trace.specs.declared.whole.Whole.{Whole}

-- A line that is read as it stands: it has bytes, none of them LF, no CR behind the others, and no blank or tab at an end.
pub record IsTidy (line : List ℕ) : Type 0 where
  pub some : 0 < length line
  pub one : HasNoLf line
  pub no_cr : without_cr line ≡ line
  pub no_blanks : trim_blanks line ≡ line

-- the bytes are this line, its LF (10) and what follows
pub record IsCut (bytes line rest : List ℕ) : Type 0 where
  pub whole : bytes ≡ line ++ 10 ∷ rest
  pub tidy : IsTidy line

-- the bytes are these lines, each with its LF, and what follows
pub record AreCut (bytes : List ℕ) (lines : List (List ℕ)) (rest : List ℕ) : Type 0 where
  pub whole : bytes ≡ joined lines ++ rest
  pub tidy : All IsTidy lines

-- the first line writes a whole number
pub record NumberStands (bytes : List ℕ) (number : ℤ) (rest : List ℕ) : Type 0 where
  pub text : List ℕ
  pub cut : IsCut bytes text rest
  pub says : value_of_text kind.Int text ≡ Some (value.Int number)

-- the first line is the text of a value of the kind, and this is what it says
pub record TextStands (k : Option Kind) (bytes : List ℕ) (unmarked : Unmarked) (rest : List ℕ) : Type 0 where
  pub text : List ℕ
  pub cut : IsCut bytes text rest
  pub says : (mark : Line) → marked_value k (record { number = 0; bytes = text }) mark ≡ with_mark unmarked mark

-- the first line is a mark, and with it the text says these values
pub record MarkStands (unmarked : Unmarked) (bytes : List ℕ) (values : List Value) (rest : List ℕ) : Type 0 where
  pub mark : List ℕ
  pub cut : IsCut bytes mark rest
  pub says : (n : ℕ) → with_mark unmarked (record { number = n; bytes = mark }) ≡ Ok values

-- the first line is a mark, and what the text says with it stands behind the values so far
pub record IsPushed (unmarked : Unmarked) (bytes : List ℕ) (old new : List Value) (rest : List ℕ) : Type 0 where
  pub front : List Value
  pub mark : MarkStands unmarked bytes front rest
  pub added : new ≡ old ++ front

-- The first lines are those of the variable, and what they say stands behind the values so far.
pub record VariableStands (v : VarDecl) (bytes : List ℕ) (old new : List Value) (rest : List ℕ) : Type 0 where
  pub lines : List (List ℕ)
  pub front : List Value
  pub cut : AreCut bytes lines rest
  pub three : length lines ≡ 3
  pub added : new ≡ old ++ front
  pub reads : (others : Reads (List Value)) (n : ℕ) (ls : List Line) (close : Option ℕ)
      → from_name v others (numbered_lines n lines ++ ls) close ≡ then_values front (others ls close)

-- the first lines are those of the first so many variables, and these are the values
pub record ValuesSoFar (vs : List VarDecl) (i : ℕ) (bytes : List ℕ) (values : List Value) (rest : List ℕ) (count : ℕ) : Type 0 where
  pub lines : List (List ℕ)
  pub cut : AreCut bytes lines rest
  pub many : count ≡ length lines
  pub reads : (n : ℕ) (ls : List Line) (close : Option ℕ)
      → record_values vs (numbered_lines n lines ++ ls) close ≡ then_values values (record_values (drop i vs) ls close)

-- the first lines are those of the variables, an empty one stands behind them, and these are the values
pub record ValuesStand (vs : List VarDecl) (bytes : List ℕ) (values : List Value) (rest : List ℕ) (count : ℕ) : Type 0 where
  pub lines : List (List ℕ)
  pub cut : AreCut bytes lines (10 ∷ rest)
  pub many : count ≡ length lines
  pub reads : (n : ℕ) (close : Option ℕ) → record_values vs (numbered_lines n lines) close ≡ Ok values

-- the first lines are those of a record behind its first, and an empty one stands behind them
pub record BodyStands (vs : List VarDecl) (bytes : List ℕ) (nonce : Option ℤ) (values : List Value) (rest : List ℕ) (count : ℕ) : Type 0 where
  pub lines : List (List ℕ)
  pub cut : AreCut bytes lines (10 ∷ rest)
  pub many : count ≡ length lines
  pub reads : (n : ℕ) (close : Option ℕ) → body_of vs (numbered_lines n lines) close ≡ Ok (record { nonce = nonce; values = values })

-- The bytes begin with a whole record, the first line of which has the number n, and with the empty line behind it: they are lines that
-- are read as they stand, and the sample is that of these lines.
pub record StandsWhole (ps : List Point) (n : ℕ) (bytes : List ℕ) (w : Whole) : Type 0 where
  pub first : List ℕ
  pub rest : List (List ℕ)
  pub cut : take w.used bytes ≡ joined (first ∷ rest) ++ 10 ∷ []
  pub within : w.used ≤ length bytes
  pub tidy : All IsTidy (first ∷ rest)
  pub front : take w.first_len bytes ≡ first
  pub front_within : w.first_len ≤ length bytes
  pub many : w.count ≡ length rest + 2
  pub in_table : w.sample.point.0 < length ps
  pub reads : sample_of ps (record { number = n; bytes = first }) (numbered_lines (n + 1) rest) (Some (n + 1 + length rest)) ≡ Ok (shown w.sample)
