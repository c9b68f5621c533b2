-- In a `DECLARE` block each line counts by its position.
use Rattle.std.specs.Prelude.{◌≡◌, ◌*◌, ℕ, Bool, List, [], ◌∷◌, length, Some, Ok}
use Rattle.std.specs.List.{AllZip}
use Rattle.dk_base.specs.Names.{unescaped}
use Rattle.dk_base.specs.Reading.{Line}
use Rattle.dk_decl.specs.DeclareBlock.{comparability, declare_lines, representation}
use Rattle.dk_decl.specs.Types.{rep_kind}
use Rattle.dk_decl.specs.declared.declare.Represented.{Represented}
use Rattle.dk_decl.specs.declared.decls.PointDecl.{PointDecl}
use Rattle.dk_decl.specs.declared.decls.VarDecl.{VarDecl}

-- four lines
pub record Four : Type 0 where
  pub name : Line
  pub declared_type : Line
  pub representation : Line
  pub comparability : Line

-- the lines, four by four
abbrev pub fours : List Line → List Four
fours (a ∷ b ∷ c ∷ d ∷ ls) = record { name = a; declared_type = b; representation = c; comparability = d } ∷ fours ls
fours _ = []

-- the variable is what a representation says
pub record IsRepresented (v : VarDecl) (r : Represented) : Type 0 where
  pub kind : v.kind ≡ rep_kind r.rep
  pub constant : v.constant ≡ r.constant
  pub constant_line : v.constant_line ≡ r.constant_line

-- the variable of four lines
pub record IsDeclaredByFour (implicit : Bool) (f : Four) (v : VarDecl) : Type 0 where
  pub name : v.name ≡ unescaped f.name.bytes
  pub represented : (r : Represented) × (representation f.representation ≡ Ok r) × IsRepresented v r
  pub compar : comparability implicit f.comparability ≡ Ok v.compar
  pub parents : v.parents ≡ []

-- a point whose name is spelled by a line, and whose variables are those of the lines behind it, four by four, with none left
pub record IsDeclaredInOrder (implicit : Bool) (point : Line) (ls : List Line) (d : PointDecl) : Type 0 where
  pub name : d.name ≡ unescaped point.bytes
  pub edges : d.edges ≡ []
  pub none_left : length ls ≡ 4 * length d.vars
  pub vars : AllZip (IsDeclaredByFour implicit) (fours ls) d.vars

abbrev pub LinesCountByPosition : Type 0
LinesCountByPosition = (implicit : Bool) (line : ℕ) (point : Line) (ls : List Line) (close : ℕ) (d : PointDecl)
    → declare_lines implicit line (point ∷ ls) (Some close) ≡ Ok d → IsDeclaredInOrder implicit point ls d
