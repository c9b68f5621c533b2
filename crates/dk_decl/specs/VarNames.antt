-- Variables by name.
use Rattle.std.specs.Prelude.{ℕ, Bool, List}
use Rattle.std.specs.List.{list_any}
use Rattle.std.specs.Str.{bytes_eq}
use Rattle.dk_decl.specs.declared.decls.VarDecl.{VarDecl}

-- one of the variables has this name
abbrev pub has_name : List ℕ → List VarDecl → Bool
has_name name vs = list_any (λ v. bytes_eq name v.name) vs
