-- What the definitions come to.
use Rattle.std.specs.Prelude.{◌≡◌, ◌≤◌, ◌⊎◌, ◌↔◌, IsTrue, List, None, Err, length, true}
use Rattle.dk_base.specs.declared.kinds.Form.TheVariants as form
use Rattle.dk_base.specs.declared.kinds.VarInfo.{VarInfo}
use Rattle.dk_base.specs.declared.why.Why.TheVariants.{TooManyPoints}
use Rattle.dk_decl.specs.declared.decls.PointDecl.{PointDecl}
use Rattle.dk_graph.specs.Names.{place_of}
use Rattle.dk_points.specs.Declaring.{declared}
use Rattle.dk_points.specs.Partners.{plain_name}
use Rattle.dk_points.specs.Sameness.{same_decl}
use Rattle.dk_points.specs.Table.{Point, makes_exit, names}
use Rattle.dk_points.specs.Vars.{orig_name}

-- declared, or orig with the name orig(N) for its plain name N
abbrev pub IsBaseVar : VarInfo → Type 0
IsBaseVar v = (v.form ≡ form.Declared) ⊎ ((v.form ≡ form.Orig) × (v.name ≡ orig_name (plain_name v)))

-- The same declaration is an equal one.
abbrev pub SameIsEqual : Type 0
SameIsEqual = (a b : PointDecl) → IsTrue (same_decl a b) ↔ (a ≡ b)

-- The table takes 65,535 points; a new name beyond is refused, and so is one that would bring an implicit exit beyond.
pub record FullTableTakesNone : Type 0 where
  pub one : (ps : List Point) (d : PointDecl) → 65535 ≤ length ps → place_of (names ps) d.name ≡ None → declared ps d ≡ Err TooManyPoints
  pub two : (ps : List Point) (d : PointDecl) → 65534 ≤ length ps → makes_exit ps d ≡ true
      → place_of (names ps) d.name ≡ None → declared ps d ≡ Err TooManyPoints
