-- The partners of a parent's variables in a child.
use Rattle.std.specs.Prelude.{ℕ, ◌-◌, ◌==◌, ◌&&◌, Bool, List, take, length, map, find, position, Option, Some, None, option_and_then, slice_get, slice_range, bytes_eq, if◌then◌else◌}
use Rattle.std.specs.Bool.{beq}
use Rattle.std.specs.List.{list_any}
use Rattle.std.specs.Option.{option_map}
use Rattle.dk_base.specs.Shapes.{is_orig}
use Rattle.dk_base.specs.declared.kinds.VarInfo.{VarInfo}
use Rattle.dk_decl.specs.declared.decls.PointDecl.{PointDecl}
use Rattle.dk_decl.specs.declared.decls.VarDecl.{VarDecl}
use Rattle.dk_graph.specs.declared.nodes.Edge.{Edge}
use Rattle.dk_points.specs.Links.{kept_edges}
use Rattle.dk_points.specs.Table.{Point}
use Rattle.dk_points.specs.Vars.{same_kind, vars_of}

-- the name N of the variable N or orig(N)
abbrev pub plain_name : VarInfo → List ℕ
plain_name v = if is_orig v.form then slice_range v.name 5 (length v.name - 1) else v.name

-- the variable has a line of the edge at this place that gives this name
abbrev pub gives : ℕ → List ℕ → VarDecl → Bool
gives edge name v = list_any (λ p. p.edge == edge && bytes_eq name p.name) v.parents

-- The name in the child of a variable of this plain name: that of the first declared variable to which a line of the declared
-- edge gives it, or the same name through an edge that was made.
abbrev pub partner_name : PointDecl → Option ℕ → List ℕ → Option (List ℕ)
partner_name d None name = Some name
partner_name d (Some edge) name = option_map (λ v. v.name) (find (gives edge name) d.vars)

-- a variable of this plain name, of one kind and one form with w
abbrev pub is_like : VarInfo → List ℕ → VarInfo → Bool
is_like w name v = bytes_eq name (plain_name v) && (same_kind v.kind w.kind && beq (is_orig v.form) (is_orig w.form))

-- the place among the base variables of the child at i of the partner of its parent's variable w, through its edge of this number
abbrev pub partner_in : List Point → ℕ → ℕ → VarInfo → Point → Option ℕ
partner_in ps i number w p =
    option_and_then (λ name. position (is_like w name) (vars_of ps i))
    (partner_name p.decl (slice_get (map (λ e. e.0) (kept_edges (take i ps) p)) number) (plain_name w))

-- The partner, in the edge's child, of the variable at this place in the edge's parent.
unfoldable pub partner_of : List Point → Edge → ℕ → Option ℕ
partner_of ps e w =
    option_and_then (λ v. option_and_then (partner_in ps e.child.0 e.number v) (slice_get ps e.child.0))
    (slice_get (vars_of ps e.parent.0) w)
