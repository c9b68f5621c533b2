-- What reading makes sure of in a declaration: numbers within their types, and constants that their variables can have.
use Rattle.std.specs.Prelude.{◌<◌, ◌^◌, All, IsTrue}
use Rattle.dk_base.specs.Numbers.{fits_i64}
use Rattle.dk_decl.specs.declared.decls.EdgeDecl.{EdgeDecl}
use Rattle.dk_decl.specs.declared.decls.ParentVar.{ParentVar}
use Rattle.dk_decl.specs.declared.decls.PointDecl.{PointDecl}
use Rattle.dk_decl.specs.declared.decls.VarDecl.{VarDecl}
use Rattle.dk_state.specs.Fitting.{FitsConstant}

abbrev pub IsEdgeWithin : EdgeDecl → Type 0
IsEdgeWithin e = e.id < 2 ^ 32

abbrev pub IsMappedWithin : ParentVar → Type 0
IsMappedWithin p = p.edge < 2 ^ 64

pub record IsVarWithin (v : VarDecl) : Type 0 where
  pub elem : IsTrue (fits_i64 v.compar.elem)
  pub index : IsTrue (fits_i64 v.compar.index)
  pub constant : FitsConstant v.constant_line v.kind v.constant
  pub parents : All IsMappedWithin v.parents

pub record IsPointWithin (d : PointDecl) : Type 0 where
  pub edges : All IsEdgeWithin d.edges
  pub vars : All IsVarWithin d.vars
