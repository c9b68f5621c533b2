use Rattle.std.specs.Prelude.{◌++◌, ◌∷◌, [], IsTrue, codes, flat_map, refl}
use Rattle.std.specs.Fmt.{signed_decimal}
use Rattle.std.proofs.Common.{◌∙◌, ap, append_assoc, subst, sym, w64}
use Rattle.std.proofs.lemmas.Int.{to_z-of_z}
use Rattle.dk_base.specs.Names.{escaped}
use Rattle.dk_base.specs.Numbers.{fits_i64}
use Rattle.dk_state.specs.Declarations.{constant_decl_text, constant_line, mapped_line, var_decl_line}
use Rattle.dk_write.specs.Declarations.{rep_text}
use Rattle.dk_state.specs.Fitting.{FitsConstant}
use Rattle.dk_state.proofs.DeclaredLines.{no_constant, rep_plain}
use Rattle.dk_state.proofs.Onto.{fields_onto, line_onto}
use Rattle.dk_state.proofs.reading.VarDeclEntry.read.Goals as goal

pub returns-clause-read : goal.returns-clause-read
returns-clause-read c v rest fits last is =
    let mapped = flat_map mapped_line v.parents in
    let behind = constant_decl_text v.constant_line v.constant ++ (mapped ++ rest) in
    let rep = rep_text v.kind in
    let elem = signed_decimal v.compar.elem in
    let index = signed_decimal v.compar.index in
    let line =
    is ∙ append_assoc (var_decl_line v) (constant_line v ++ mapped) rest ∙ ap (λ r. var_decl_line v ++ r) (append_assoc (constant_line v) mapped rest)
    ∙ line_onto (codes "var") (rep ∷ elem ∷ index ∷ escaped v.name ∷ []) behind in
    let passed = c.pass.ensures.read (fields_onto (rep ∷ elem ∷ index ∷ escaped v.name ∷ []) (10 ∷ behind)) line in
    let field = c.field.ensures.read rep (fields_onto (elem ∷ index ∷ escaped v.name ∷ []) (10 ∷ behind)) (rep_plain v.kind) refl passed in
    let kind = c.kind_of-kind.ensures v.kind field.0 in
    let first = c.integer-elem.ensures.read v.compar.elem (fields_onto (index ∷ escaped v.name ∷ []) (10 ∷ behind)) fits.elem refl field.1 in
    let second = c.integer-index.ensures.read v.compar.index (fields_onto (escaped v.name ∷ []) (10 ∷ behind)) fits.index refl first.1 in
    let name = c.in_ok-name.ensures.read v.name (10 ∷ behind) fits.name refl second.1 in
    let ended = c.pass-2.ensures.read behind name.1 in
    let constant = c.in_ok-constant_line.ensures.read v.constant_line v.constant (mapped ++ rest) (subst (λ k. FitsConstant v.constant_line k v.constant) (sym kind) fits.constant)
    (no_constant v.parents rest last.0) ended in
    let parents = c.in_ok-parents.ensures.read v.parents rest fits.parents last.1 tt constant.1 in
    let own_elem = to_z-of_z w64 c.integer-elem.result (record { sfits = c.integer-elem.type_inv }) ∙ first.0 in
    let own_index = to_z-of_z w64 c.integer-index.result (record { sfits = c.integer-index.type_inv }) ∙ second.0 in (
      (λ i. record {
        name = name.0 i;
        kind = kind i;
        compar = record { elem = own_elem i; index = own_index i };
        constant = (constant.0 i).1;
        constant_line = (constant.0 i).0;
        parents = parents.0 i;
      }),
      parents.1,
    )

pub returns-clause-within : goal.returns-clause-within
returns-clause-within c = record {
  elem = subst (λ z. IsTrue (fits_i64 z)) (sym (to_z-of_z w64 c.integer-elem.result (record { sfits = c.integer-elem.type_inv }))) c.integer-elem.ensures.within;
  index = subst (λ z. IsTrue (fits_i64 z)) (sym (to_z-of_z w64 c.integer-index.result (record { sfits = c.integer-index.type_inv }))) c.integer-index.ensures.within;
  constant = c.in_ok-constant_line.ensures.within;
  parents = c.in_ok-parents.ensures.within;
}
