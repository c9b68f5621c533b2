-- What events keep from block to block, as contracts see it, and what always holds of it.
use Rattle.std.specs.Prelude.{◌≡◌, ℕ, Bool, List, length, Some, slice_get}
use Rattle.dk_base.specs.declared.kinds.VarInfo.{VarInfo}
use Rattle.dk_derive.specs.Laws.{all_vars_of}
use Rattle.dk_points.specs.Table.{Point}
use Rattle.dk_blocks.specs.Standing.{points_of as points_in}
use Rattle.dk_blocks.specs.declared.reader.Reader.{Reader}

pub record Following : Type 0 where
  pub reader : Reader
  pub vars : List (List VarInfo)
  pub ignores : Bool

-- the variables of the first points of a table, derived ones included
abbrev pub AreVarsOfFirst : List Point → List (List VarInfo) → Type 0
AreVarsOfFirst ps vars = (i : ℕ) (own : List VarInfo) → slice_get vars i ≡ Some own → own ≡ all_vars_of ps i

-- of all its points
pub record AreVarsOf (ps : List Point) (vars : List (List VarInfo)) : Type 0 where
  pub long : length vars ≡ length ps
  pub each : AreVarsOfFirst ps vars

abbrev pub IsSound : Following → Type 0
IsSound f = AreVarsOf (points_in f.reader) f.vars
