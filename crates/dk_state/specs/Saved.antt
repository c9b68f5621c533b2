-- The text of a state.
use Rattle.std.specs.Prelude.{◌==◌, ℕ, Bool, List, [], ◌∷◌, ◌++◌, codes, flat_map, length, if◌then◌else◌}
use Rattle.std.specs.Fmt.{decimal}
use Rattle.std.specs.List.{enumerate_from}
use Rattle.dk_decl.specs.declared.decls.PointDecl.{PointDecl}
use Rattle.dk_engine.specs.Saved.{parts_of}
use Rattle.dk_engine.specs.declared.kept.Kept.{Kept}
use Rattle.dk_points.specs.Table.{Point}
use Rattle.dk_template.specs.declared.grammar.Grammar.{Grammar}
use Rattle.dk_template.specs.declared.grammar.Grammar.TheVariants as grammar
use Rattle.dk_state.specs.Declarations.{decls_of, point_lines}
use Rattle.dk_state.specs.Kept.{parts_lines}
use Rattle.dk_state.specs.Lines.{state_line}

-- the version of states of a grammar
abbrev pub version_of : Grammar → ℕ
version_of grammar.One = 1
version_of grammar.Two = 2

-- the comparability word in force
abbrev pub comparability_text : Bool → List ℕ
comparability_text implicit = if implicit then codes "implicit" else codes "none"

-- what is kept of a point's own samples, if there are any; the point goes by its place, implicit exits counted
abbrev pub kept_lines : ℕ × Kept → List ℕ
kept_lines e = if e.1.samples == 0 then [] else parts_lines e.0 (parts_of e.1)

-- The text of a state, line by line: the version, which is the grammar's number; the comparability word; the number of declared points;
-- their declarations; what is kept of the points' own samples; and the last line.
abbrev pub state_text : Grammar → List PointDecl → Bool → List ℕ → List ℕ
state_text g decls implicit kept =
    state_line "daikon-state" (decimal (version_of g) ∷ [])
    ++ (state_line "comparability" (comparability_text implicit ∷ [])
    ++ (state_line "points" (decimal (length decls) ∷ [])
    ++ (flat_map point_lines decls
    ++ (kept
    ++ state_line "end-state" []))))

-- the text of a table of points, a comparability word, and what is kept for each point
unfoldable pub saved_text : Grammar → List Point → Bool → List Kept → List ℕ
saved_text g ps implicit kept = state_text g (decls_of ps) implicit (flat_map kept_lines (enumerate_from 0 kept))
