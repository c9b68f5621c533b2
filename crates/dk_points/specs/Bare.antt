-- Bare names: a line that is such a name spells it.
use Rattle.std.specs.Prelude.{◌&&◌, ◌==◌, ℕ, Bool, not, List, length, nat_lt}
use Rattle.std.specs.List.{list_all}
use Rattle.dk_decl.specs.declared.decls.VarDecl.{VarDecl}

-- above the blank (32), and no backslash (92)
abbrev pub is_bare_byte : ℕ → Bool
is_bare_byte b = nat_lt 32 b && not (b == 92)

-- one byte or more, each of them so
abbrev pub is_bare_name : List ℕ → Bool
is_bare_name name = nat_lt 0 (length name) && list_all is_bare_byte name

-- each variable has such a name
abbrev pub have_bare_names : List VarDecl → Bool
have_bare_names vars = list_all (λ v. is_bare_name v.name) vars
