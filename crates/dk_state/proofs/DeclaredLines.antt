-- Lines of declarations, told apart by their first bytes.
use Rattle.std.specs.Prelude.{◌≡◌, ◌++◌, ◌∷◌, [], ℕ, true, false, Bool, List, Option, Some, None, codes, flat_map, nat_eq, refl, unwrap_or}
use Rattle.std.specs.List.{starts_with}
use Rattle.std.proofs.Common.{◌∙◌, ap, sym}
use Rattle.std.proofs.lemmas.Bool.{false≢true}
use Rattle.dk_base.specs.Values.Spelling.{spelling}
use Rattle.dk_base.specs.declared.kinds.Kind.{Kind}
use Rattle.dk_base.specs.declared.kinds.Kind.TheVariants as kind
use Rattle.dk_base.specs.declared.values.Value.{Value}
use Rattle.dk_base.specs.declared.values.Value.TheVariants as value
use Rattle.dk_decl.specs.declared.decls.ParentVar.{ParentVar}
use Rattle.dk_decl.specs.declared.decls.VarDecl.{VarDecl}
use Rattle.dk_state.specs.Declarations.{constant_decl_text, mapped_line, var_lines}
use Rattle.dk_write.specs.Declarations.{rep_text}
use Rattle.dk_state.specs.Fitting.{FitsConstant}
use Rattle.dk_state.specs.Lines.{behind_blank}
use Rattle.dk_state.specs.Reading.{HasNone, ends_field}
use Rattle.dk_state.proofs.Onto.{line_onto}

pub rep_plain : (k : Option Kind) → HasNone ends_field (rep_text k)
rep_plain None = refl
rep_plain (Some kind.Bool) = refl
rep_plain (Some kind.Int) = refl
rep_plain (Some kind.Hash) = refl
rep_plain (Some kind.Str) = refl
rep_plain (Some kind.BoolSeq) = refl
rep_plain (Some kind.IntSeq) = refl
rep_plain (Some kind.HashSeq) = refl
rep_plain (Some kind.StrSeq) = refl

-- a constant's line stands in front of others
pub no_constant : (ps : List ParentVar) (rest : List ℕ) → starts_with nat_eq rest (codes "constant ") ≡ false
    → starts_with nat_eq (flat_map mapped_line ps ++ rest) (codes "constant ") ≡ false
no_constant [] rest h = h
no_constant (p ∷ ps) rest h = refl

-- edges stand in front of variables
pub no_edge : (vs : List VarDecl) (rest : List ℕ) → starts_with nat_eq (flat_map var_lines vs ++ 101 ∷ 110 ∷ 100 ∷ 10 ∷ rest) (codes "edge ") ≡ false
no_edge [] rest = refl
no_edge (v ∷ vs) rest = refl

-- without a `constant` line there is none
pub without_constant : (there : Bool) (k : Option Kind) (x : Option Value) (rest front : List ℕ) → FitsConstant there k x
    → false ≡ starts_with nat_eq front (codes "constant ") → front ≡ constant_decl_text there x ++ rest
    → ◌≡◌ {A = Bool × Option Value} (false, None) (there, x) × (front ≡ rest)
without_constant false k None rest front fits ended is = (refl, is)
without_constant false k (Some x) rest front fits ended is = absurd (no_fit k x fits)
  where
    no_fit : (k : Option Kind) (x : Value) → FitsConstant false k (Some x) → ⊥
    no_fit None x fits = fits
    no_fit (Some k) x fits = fits
without_constant true k x rest front fits ended is = absurd (false≢true (ended ∙ ap (λ f. starts_with nat_eq f (codes "constant ")) is))

-- with one its value comes
pub with_constant : (there : Bool) (k : Option Kind) (x : Option Value) (rest front : List ℕ)
    → starts_with nat_eq rest (codes "constant ") ≡ false → true ≡ starts_with nat_eq front (codes "constant ") → front ≡ constant_decl_text there x ++ rest
    → (there ≡ true) × (front ≡ codes "constant" ++ (behind_blank (spelling (unwrap_or x value.Missing)) ++ 10 ∷ rest))
with_constant false k x rest front none comes is = absurd (false≢true (sym none ∙ sym (ap (λ f. starts_with nat_eq f (codes "constant ")) is) ∙ sym comes))
with_constant true k x rest front none comes is = (refl, is ∙ line_onto (codes "constant") (spelling (unwrap_or x value.Missing) ∷ []) rest)
