-- What can be written, so that it is read back: as tests that the writing makes, and as what the numbers' types give.
use Rattle.std.specs.Prelude.{◌&&◌, ◌||◌, ◌<◌, ◌^◌, ◌==◌, ◌++◌, ℕ, Bool, true, false, not, All, IsTrue, IfSome, List, [], ◌∷◌, codes, is_none, length, slice_get, Option, Some, None}
use Rattle.std.specs.List.{list_all, list_any, zip}
use Rattle.std.specs.Option.{option_map_or}
use Rattle.std.specs.Str.{bytes_eq}
use Rattle.dk_base.specs.Names.{escaped}
use Rattle.dk_base.specs.Numbers.{fits_i64}
use Rattle.dk_base.specs.Values.Items.{is_text}
use Rattle.dk_base.specs.declared.kinds.Kind.{Kind}
use Rattle.dk_base.specs.declared.kinds.Kind.TheVariants as kind
use Rattle.dk_base.specs.declared.values.Value.{Value}
use Rattle.dk_base.specs.declared.values.Value.TheVariants as value
use Rattle.dk_blocks.specs.Fronts.{is_comment}
use Rattle.dk_blocks.specs.History.{is_declaration, is_list_of_implementors}
use Rattle.dk_decl.specs.Headers.{first_header, header_line}
use Rattle.dk_decl.specs.Heads.{is_edge}
use Rattle.dk_decl.specs.Types.{is_missing}
use Rattle.dk_decl.specs.VarNames.{has_name}
use Rattle.dk_decl.specs.declared.decls.EdgeDecl.{EdgeDecl}
use Rattle.dk_decl.specs.declared.decls.ParentVar.{ParentVar}
use Rattle.dk_decl.specs.declared.decls.PointDecl.{PointDecl}
use Rattle.dk_decl.specs.declared.decls.VarDecl.{VarDecl}
use Rattle.dk_write.specs.Names.{is_line, is_word}
use Rattle.dk_write.specs.Records.{Recorded, value_text}

-- ---- values
-- a value of the kind, or the missing one
abbrev pub is_of_kind : Kind → Value → Bool
is_of_kind k value.Missing = true
is_of_kind kind.Bool (value.Bool b) = true
is_of_kind kind.Int (value.Int z) = true
is_of_kind kind.Hash (value.Hash n) = true
is_of_kind kind.Str (value.Str s) = is_text s
is_of_kind kind.BoolSeq (value.BoolSeq bs) = true
is_of_kind kind.IntSeq (value.IntSeq zs) = true
is_of_kind kind.HashSeq (value.HashSeq ns) = true
is_of_kind kind.StrSeq (value.StrSeq ss) = list_all is_text ss
is_of_kind _ _ = false

-- a value that the variable can have: any of an opaque one, which isn't read
abbrev pub is_value_of : Option Kind → Value → Bool
is_value_of k x = option_map_or (λ own. is_of_kind own x) k true && is_line (value_text x)

-- ---- declarations
-- none of them is among those in front of it
abbrev pub none_twice : {X : Type 0} → (X → List X → Bool) → List X → List X → Bool
none_twice among seen [] = true
none_twice among seen (x ∷ xs) = not (among x seen) && none_twice among (seen ++ x ∷ []) xs

abbrev pub is_known_edge : EdgeDecl → List EdgeDecl → Bool
is_known_edge e es = list_any (is_edge e.parent e.id) es

abbrev pub is_known_var : VarDecl → List VarDecl → Bool
is_known_var v vs = has_name v.name vs

-- the name of an edge's point is told as a word
abbrev pub is_told_edge : EdgeDecl → Bool
is_told_edge e = is_word (escaped e.parent)

-- a counterpart at an edge of the declaration, whose name is told as a word
abbrev pub is_told_counterpart : List EdgeDecl → ParentVar → Bool
is_told_counterpart es p = not (is_none (slice_get es p.edge)) && is_word (escaped p.name)

-- a variable has a constant, which is not missing, or has none; that of an opaque one isn't read
abbrev pub has_constant : Option Kind → Bool → Option Value → Bool
has_constant k false constant = is_none constant
has_constant None true constant = is_none constant
has_constant (Some k) true None = false
has_constant (Some k) true (Some x) = not (is_missing x) && is_value_of (Some k) x

abbrev pub is_told_var : List EdgeDecl → VarDecl → Bool
is_told_var es v = is_line (escaped v.name) && (has_constant v.kind v.constant_line v.constant && list_all (is_told_counterpart es) v.parents)

-- A declaration that its lines tell: names are lines or words, no edge and no variable comes twice, and constants are values of their kinds.
unfoldable pub can_declare : PointDecl → Bool
can_declare d =
    is_line (escaped d.name) && ((none_twice is_known_edge [] d.edges && list_all is_told_edge d.edges)
    && (none_twice is_known_var [] d.vars && list_all (is_told_var d.edges) d.vars))

-- ---- records
-- A record begins at this line: it is no comment, no header line, and begins no declaration and no list of implementors.
unfoldable pub begins_record : List ℕ → Bool
begins_record line =
    not (is_comment line)
    && (is_none (header_line first_header line) && (not (is_declaration line) && not (is_list_of_implementors line)))

abbrev pub is_nonce_name : VarDecl → Bool
is_nonce_name v = bytes_eq (escaped v.name) (codes "this_invocation_nonce")

-- a variable that stands in records, with a value that it can have
abbrev pub is_told_value : VarDecl × Value → Bool
is_told_value e = e.0.constant_line || (not (is_nonce_name e.0) && is_value_of e.0.kind e.1)

-- A record of a declared point that its lines tell: its first line is no other one, and there is a value for each variable.
unfoldable pub can_record : Recorded → Bool
can_record r =
    begins_record (escaped r.decl.name)
    && (length r.decl.vars == length r.values && list_all is_told_value (zip r.decl.vars r.values))

-- ---- numbers
-- what the types of the numbers give
pub record IsVarWithin (v : VarDecl) : Type 0 where
  pub elem : IsTrue (fits_i64 v.compar.elem)
  pub index : IsTrue (fits_i64 v.compar.index)

-- the numbers of a value have 64 bits
abbrev pub IsValueWithin : Value → Type 0
IsValueWithin (value.Int z) = IsTrue (fits_i64 z)
IsValueWithin (value.Hash n) = n < 2 ^ 64
IsValueWithin (value.IntSeq zs) = All (λ z. IsTrue (fits_i64 z)) zs
IsValueWithin (value.HashSeq ns) = All (λ n. n < 2 ^ 64) ns
IsValueWithin _ = Unit {0}

pub record IsWithin (d : PointDecl) : Type 0 where
  pub edges : All (λ e. e.id < 2 ^ 32) d.edges
  pub vars : All IsVarWithin d.vars
  pub constants : All (λ v. IfSome v.constant IsValueWithin) d.vars

pub record IsRecordWithin (r : Recorded) : Type 0 where
  pub decl : IsWithin r.decl
  pub nonce : IfSome r.nonce (λ n. IsTrue (fits_i64 n))
  pub values : All IsValueWithin r.values
