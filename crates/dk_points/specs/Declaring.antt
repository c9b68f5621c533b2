-- What a declaration does to the table.
use Rattle.std.specs.Prelude.{ℕ, ◌-◌, ◌||◌, ◌++◌, nat_lt, Bool, List, length, map, Option, Some, None, Result, Ok, Err, if◌then◌else◌}
use Rattle.dk_base.specs.Reading.{LineFault}
use Rattle.dk_base.specs.Shapes.{shape_of, with_derived}
use Rattle.dk_base.specs.declared.why.Why.{Why}
use Rattle.dk_base.specs.declared.why.Why.TheVariants.{CyclicParents, DuplicatePoint, TooManyPoints, TooManyVariables}
use Rattle.dk_decl.specs.Outcomes.{refused}
use Rattle.dk_decl.specs.declared.decls.PointDecl.{PointDecl}
use Rattle.dk_graph.specs.Graphs.{has_cycle}
use Rattle.dk_graph.specs.Names.{place_of}
use Rattle.dk_points.specs.Links.{nodes}
use Rattle.dk_points.specs.Sameness.{same_decl}
use Rattle.dk_points.specs.Table.{Point, added_points, decl_at, names}
use Rattle.dk_points.specs.Vars.{base_vars}
use Rattle.dk_points.specs.declared.declared.Declared.{Declared}
use Rattle.dk_points.specs.declared.declared.Declared.TheVariants.{New, Same}

-- more points than the table takes, implicit exits counted
abbrev pub has_many_points : List Point → Bool
has_many_points ps = nat_lt 65535 (length ps)

-- more declared variables than a point may have, or more base and derived ones
unfoldable pub has_many_vars : List Point → PointDecl → Bool
has_many_vars ps d = nat_lt 1024 (length d.vars) || nat_lt 16384 (length (with_derived (map shape_of (base_vars ps d))))

-- the table with its last point as the new one, unless it has a cycle
abbrev pub grown : List Point → Result (List Point × Declared) Why
grown ps = if has_cycle (nodes ps) then Err CyclicParents else Ok (ps, New (record { 0 = length ps - 1 }))

-- a new name: the first of these refusals, or the points that are added
abbrev pub declared_new : List Point → PointDecl → Result (List Point × Declared) Why
declared_new ps d =
    if has_many_points (ps ++ added_points ps d) then Err TooManyPoints
    else if has_many_vars ps d then Err TooManyVariables
    else grown (ps ++ added_points ps d)

-- a known name: only the declaration that the point has is taken again, and it changes nothing
abbrev pub declared_again : List Point → PointDecl → ℕ → Option PointDecl → Result (List Point × Declared) Why
declared_again ps d i None = Err DuplicatePoint
declared_again ps d i (Some own) = if same_decl own d then Ok (ps, Same (record { 0 = i })) else Err DuplicatePoint

abbrev pub declared_at : List Point → PointDecl → Option ℕ → Result (List Point × Declared) Why
declared_at ps d None = declared_new ps d
declared_at ps d (Some i) = declared_again ps d i (decl_at ps i)

-- The table behind a declaration and what it was, or why it is refused.
unfoldable pub declared : List Point → PointDecl → Result (List Point × Declared) Why
declared ps d = declared_at ps d (place_of (names ps) d.name)

-- the same, with the refusal at a line
abbrev pub at_line : {A : Type 0} → ℕ → Result A Why → Result A LineFault
at_line line (Ok x) = Ok x
at_line line (Err why) = refused why line
