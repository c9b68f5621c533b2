-- The base variables of points, and the entries of exits.
use Rattle.std.specs.Prelude.{ℕ, ◌==◌, ◌++◌, Bool, List, [], codes, filter_map, find, take, Option, Some, None, option_and_then, slice_get, bytes_eq, if◌then◌else◌}
use Rattle.std.specs.Option.{option_map, option_map_or}
use Rattle.dk_base.specs.declared.kinds.Form.TheVariants as form
use Rattle.dk_base.specs.declared.kinds.Kind.{Kind}
use Rattle.dk_base.specs.declared.kinds.Kind.TheVariants as kind
use Rattle.dk_base.specs.declared.kinds.VarInfo.{VarInfo}
use Rattle.dk_decl.specs.declared.decls.PointDecl.{PointDecl}
use Rattle.dk_decl.specs.declared.decls.VarDecl.{VarDecl}
use Rattle.dk_graph.specs.Names.{place_of}
use Rattle.dk_points.specs.Names.{entry_name, is_exit, role_of}
use Rattle.dk_points.specs.Table.{Point, names}

abbrev pub number_of_kind : Kind → ℕ
number_of_kind kind.Bool = 0
number_of_kind kind.Int = 1
number_of_kind kind.Hash = 2
number_of_kind kind.Str = 3
number_of_kind kind.BoolSeq = 4
number_of_kind kind.IntSeq = 5
number_of_kind kind.HashSeq = 6
number_of_kind kind.StrSeq = 7

abbrev pub same_kind : Kind → Kind → Bool
same_kind a b = number_of_kind a == number_of_kind b

-- a declared variable as one of its point, unless it is opaque
abbrev pub declared_var : VarDecl → Option VarInfo
declared_var v = option_map (λ k. record { name = v.name; kind = k; form = form.Declared; compar = v.compar }) v.kind

abbrev pub declared_vars : List VarDecl → List VarInfo
declared_vars vs = filter_map declared_var vs

abbrev pub orig_name : List ℕ → List ℕ
orig_name name = codes "orig(" ++ (name ++ codes ")")

-- the value that the entry's variable v had at the entry, where the exit's variable of its name has its kind
abbrev pub orig_of : VarInfo → VarInfo → Option VarInfo
orig_of v w =
    if same_kind v.kind w.kind then Some (record { name = orig_name v.name; kind = v.kind; form = form.Orig; compar = w.compar }) else None

abbrev pub orig_var : List VarInfo → VarInfo → Option VarInfo
orig_var exit v = option_and_then (orig_of v) (find (λ w. bytes_eq v.name w.name) exit)

-- the orig variables of an exit, in the order of the entry's variables
unfoldable pub orig_vars : List VarInfo → List VarInfo → List VarInfo
orig_vars entry exit = filter_map (orig_var exit) entry

-- the entry that an exit of this name matches, if these points stand before it
unfoldable pub entry_before : List Point → List ℕ → Option ℕ
entry_before ps name = if is_exit (role_of name) then place_of (names ps) (entry_name name) else None

-- the declared variables of the entry that is at this place
abbrev pub vars_of_entry : List Point → Option ℕ → List VarInfo
vars_of_entry ps entry = option_map_or (λ p. declared_vars p.decl.vars) (option_and_then (slice_get ps) entry) []

-- the base variables of a declaration behind these points: the declared ones that are not opaque, then the orig ones
abbrev pub base_vars : List Point → PointDecl → List VarInfo
base_vars ps d = declared_vars d.vars ++ orig_vars (vars_of_entry ps (entry_before ps d.name)) (declared_vars d.vars)

-- the entry that the point at this place must match
unfoldable pub entry_of : List Point → ℕ → Option ℕ
entry_of ps i = option_and_then (λ p. entry_before (take i ps) p.decl.name) (slice_get ps i)

-- the base variables of the point at this place
unfoldable pub vars_of : List Point → ℕ → List VarInfo
vars_of ps i = option_map_or (λ p. base_vars (take i ps) p.decl) (slice_get ps i) []
