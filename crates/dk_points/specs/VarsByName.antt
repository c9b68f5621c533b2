-- Kinds and comparabilities of an exit's variables, looked up by name.
use Rattle.std.specs.Prelude.{ℕ, List, find, Option, Some, None, option_and_then, bytes_eq, if◌then◌else◌}
use Rattle.std.specs.Option.{option_map}
use Rattle.dk_base.specs.declared.kinds.Compar.{Compar}
use Rattle.dk_base.specs.declared.kinds.Form.TheVariants as form
use Rattle.dk_base.specs.declared.kinds.Kind.{Kind}
use Rattle.dk_base.specs.declared.kinds.VarInfo.{VarInfo}
use Rattle.dk_decl.specs.declared.decls.VarDecl.{VarDecl}
use Rattle.dk_points.specs.Vars.{orig_name, same_kind}

-- kind and comparability of the first variable of this name
abbrev pub typed_in : List VarInfo → List ℕ → Option (Kind × Compar)
typed_in vs name = option_map (λ w. (w.kind, w.compar)) (find (λ w. bytes_eq name w.name) vs)

abbrev pub orig_like : List ℕ → Kind → Kind × Compar → Option VarInfo
orig_like name k t = if same_kind k t.0 then Some (record { name = orig_name name; kind = k; form = form.Orig; compar = t.1 }) else None

-- the orig variable of an entry's declared variable, if `typed` says what the exit has of each name
abbrev pub orig_by : (List ℕ → Option (Kind × Compar)) → VarDecl → Option VarInfo
orig_by typed v = option_and_then (λ k. option_and_then (orig_like v.name k) (typed v.name)) v.kind
