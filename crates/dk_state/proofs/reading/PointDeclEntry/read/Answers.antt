use Rattle.std.specs.Prelude.{◌++◌, ◌∷◌, [], codes, flat_map, refl}
use Rattle.std.proofs.Common.{◌∙◌, ap, append_assoc}
use Rattle.dk_base.specs.Names.{escaped}
use Rattle.dk_state.specs.Declarations.{edge_line, var_lines}
use Rattle.dk_state.specs.Lines.{state_line}
use Rattle.dk_state.proofs.DeclaredLines.{no_edge}
use Rattle.dk_state.proofs.Onto.{fields_onto, line_onto}
use Rattle.dk_state.proofs.reading.PointDeclEntry.read.Goals as goal

pub returns-clause-read : goal.returns-clause-read
returns-clause-read c d rest fits last is =
    let edges = flat_map edge_line d.edges in
    let vars = flat_map var_lines d.vars in
    let behind_vars = 101 ∷ 110 ∷ 100 ∷ 10 ∷ rest in
    let name_line = state_line "point" (escaped d.name ∷ []) in
    let first =
    is ∙ append_assoc name_line (edges ++ (vars ++ codes "end\n")) rest
    ∙ ap (λ r. name_line ++ r) (append_assoc edges (vars ++ codes "end\n") rest ∙ ap (λ r. edges ++ r) (append_assoc vars (codes "end\n") rest))
    ∙ line_onto (codes "point") (escaped d.name ∷ []) (edges ++ (vars ++ behind_vars)) in
    let passed = c.pass.ensures.read (fields_onto (escaped d.name ∷ []) (10 ∷ (edges ++ (vars ++ behind_vars)))) first in
    let name = c.in_ok-name.ensures.read d.name (10 ∷ (edges ++ (vars ++ behind_vars))) fits.name refl passed in
    let ended = c.pass-2.ensures.read (edges ++ (vars ++ behind_vars)) name.1 in
    let own_edges = c.in_ok-edges.ensures.read d.edges (vars ++ behind_vars) fits.edges (no_edge d.vars rest) tt ended in
    let own_vars = c.in_ok-vars.ensures.read d.vars behind_vars fits.vars refl (refl, refl) own_edges.1 in
    ((λ i. record { name = name.0 i; edges = own_edges.0 i; vars = own_vars.0 i }), c.pass-3.ensures.read rest own_vars.1)

pub returns-clause-within : goal.returns-clause-within
returns-clause-within c = record { edges = c.in_ok-edges.ensures.within; vars = c.in_ok-vars.ensures.within }
