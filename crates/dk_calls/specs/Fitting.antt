-- What the values of an exit are.
use Rattle.std.specs.Prelude.{◌≡◌, ◌<◌, List, map, Some}
use Rattle.dk_base.specs.declared.kinds.Kind.{Kind}
use Rattle.dk_base.specs.declared.kinds.VarInfo.{VarInfo}
use Rattle.dk_decl.specs.declared.decls.PointDecl.{PointDecl}
use Rattle.dk_points.specs.Table.{Point, decl_at}
use Rattle.dk_points.specs.Vars.{entry_of, vars_of}
use Rattle.dk_trace.specs.Fitting.{FitKinds, declared_kinds}
use Rattle.dk_trace.specs.Records.{Sample}
use Rattle.dk_calls.specs.Records.{with_entry}
use Rattle.dk_calls.specs.Waiting.{Entry}

abbrev pub base_kinds : List VarInfo → List Kind
base_kinds vars = map (λ v. v.kind) vars

-- The values of an exit with those of its entry fit the base variables of its point, if each record's values fit the variables that its
-- own point declares.
abbrev pub ExitValuesFit : Type 0
ExitValuesFit = (ps : List Point) (s : Sample) (w : Entry) (exit entry : PointDecl) → entry_of ps s.point ≡ Some w.point → w.point < s.point
    → decl_at ps s.point ≡ Some exit → FitKinds (declared_kinds exit.vars) s.values
    → decl_at ps w.point ≡ Some entry → FitKinds (declared_kinds entry.vars) w.values
    → FitKinds (base_kinds (vars_of ps s.point)) (with_entry ps s w)
