use Rattle.std.proofs.Common.{◌≡◌, ◌++◌, ◌∙◌, ◌∷◌, [], List, ℕ, ap, flat_map}
use Rattle.dk_decl.specs.declared.decls.ParentVar.{ParentVar}
use Rattle.dk_lines.specs.Passing.{joined}
use Rattle.dk_write.specs.Declarations.{compar_line, constant_lines, counterpart_lines, rep_line, variable_line}
use Rattle.dk_write.proofs.Loops.{more_lines, on_ok}
use Rattle.dk_write.proofs.declarations.push_var.Goals as goal

pub returns : goal.returns
returns c =
    let v = c.args.var.now in
    let es = c.args.edges.now in
    let text : List ℕ = c.args.text.now in
    let named : c.push_variable.new.text ≡ text ++ joined (variable_line v.name ∷ []) =
    c.in_ok-push_variable.ensures ∙ ap (λ (name : List ℕ). text ++ joined (variable_line name ∷ [])) c.as_slice.ensures in
    let first : List (List ℕ) = variable_line v.name ∷ [] in
    let second : List (List ℕ) = variable_line v.name ∷ rep_line v.kind ∷ [] in
    let third : List (List ℕ) = variable_line v.name ∷ rep_line v.kind ∷ compar_line v.compar ∷ [] in
    let typed = more_lines text c.push_variable.new.text c.push_rep_type.new.text first (rep_line v.kind ∷ []) named c.in_ok-push_rep_type.ensures in
    let compared = more_lines text c.push_rep_type.new.text c.push_comparability.new.text second (compar_line v.compar ∷ []) typed c.in_ok-push_comparability.ensures in
    let constant = more_lines text c.push_comparability.new.text c.push_constant_line.new.text third (constant_lines v) compared c.in_ok-push_constant_line.ensures in
    on_ok c.push_counterparts.result
    (λ last. more_lines text c.push_constant_line.new.text c.push_counterparts.new.text (variable_line v.name ∷ rep_line v.kind ∷ compar_line v.compar ∷ constant_lines v) (flat_map (counterpart_lines es) v.parents) constant
    (last ∙ ap (λ (ps : List ParentVar). c.push_constant_line.new.text ++ joined (flat_map (counterpart_lines es) ps)) c.as_slice-2.ensures))
    c.push_counterparts.ensures
