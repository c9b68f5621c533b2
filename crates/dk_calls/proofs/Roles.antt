-- The role of a point, as the table tells it.
use Rattle.std.proofs.Common.{◌≡◌, ◌∙◌, false, Option, Some, None, refl, ap}
use Rattle.std.specs.Option.{option_map, option_map_or}
use Rattle.dk_decl.specs.declared.decls.PointDecl.{PointDecl}
use Rattle.dk_points.specs.Names.{role_of}
use Rattle.dk_points.specs.declared.roles.Role.{Role}
use Rattle.dk_calls.specs.Records.{is_entry}

-- whether a point is an entry is told by the role of its declaration, if it has one
pub by_role : (o : Option PointDecl) (r : Option Role) → r ≡ option_map (λ d. role_of d.name) o
    → option_map_or is_entry r false ≡ option_map_or (λ d. is_entry (role_of d.name)) o false
by_role None r told = ap (λ (x : Option Role). option_map_or is_entry x false) told
by_role (Some d) r told = ap (λ (x : Option Role). option_map_or is_entry x false) told
