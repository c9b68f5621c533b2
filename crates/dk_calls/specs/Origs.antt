-- The values that orig variables have at an exit.
use Rattle.std.specs.Prelude.{◌≡◌, ◌&&◌, ◌-◌, ◌++◌, ℕ, Bool, false, List, [], ◌∷◌, bytes_eq, drop, filter_map, length, option_map, slice_get, take}
use Rattle.std.specs.List.{position_or_len, zip}
use Rattle.std.specs.Option.{option_map_or}
use Rattle.dk_base.specs.Shapes.{is_orig}
use Rattle.dk_base.specs.declared.kinds.VarInfo.{VarInfo}
use Rattle.dk_base.specs.declared.values.Value.{Value}
use Rattle.dk_points.specs.Table.{Point}
use Rattle.dk_points.specs.Vars.{declared_vars, orig_var, orig_vars, same_kind}

-- of the entry's values, in order, those of the variables that have an orig variable at the exit
unfoldable pub orig_values : List VarInfo → List VarInfo → List Value → List Value
orig_values entry exit values = filter_map (λ e. option_map (λ _. e.1) (orig_var exit e.0)) (zip entry values)

-- the variables that the point at this place declares, without the opaque ones
unfoldable pub own_vars : List Point → ℕ → List VarInfo
own_vars ps p = option_map_or (λ q. declared_vars q.decl.vars) (slice_get ps p) []

-- ---- as the variables of a point stand

-- how many variables stand in front of the orig ones
abbrev pub own_len : List VarInfo → ℕ
own_len vars = position_or_len (λ v. is_orig v.form) vars

-- the name in an orig variable's name, which stands behind `orig(` and in front of `)`
abbrev pub inner_name : List ℕ → List ℕ
inner_name name = take (length name - 6) (drop 5 name)

-- the next orig variable is that of this one
abbrev pub is_next : List VarInfo → VarInfo → Bool
is_next [] v = false
is_next (o ∷ os) v = bytes_eq (inner_name o.name) v.name && same_kind v.kind o.kind

-- what is left: variables with their values and the orig variables of them, and the values that they come to, with those in front
pub record IsPassed (exit entry : List VarInfo) (kept : List Value) (origs : List VarInfo) (front whole : List Value) : Type 0 where
  pub left : origs ≡ orig_vars entry exit
  pub values : front ++ orig_values entry exit kept ≡ whole
