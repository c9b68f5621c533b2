-- The constants of a table whose state file has fewer than 2^63 bytes are short: the state file spells them.
use Rattle.std.proofs.Common.{◌≡◌, ◌+◌, ◌<◌, ◌≤◌, ◌^◌, ◌++◌, ℕ, Bool, true, false, All, List, [], ◌∷◌, Option, Some, None, arith, codes, length, length-append, map}
use Rattle.std.specs.Fmt.{decimal}
use Rattle.std.specs.List.{enumerate_from, flat_map, range_with_len}
use Rattle.std.proofs.lemmas.List.Elements.{All-cons, All-nil, All-weaker}
use Rattle.dk_base.specs.Names.{escaped}
use Rattle.dk_base.specs.Values.Spelling.{spelling}
use Rattle.dk_base.specs.declared.values.Value.{Value}
use Rattle.dk_blocks.specs.History.{History}
use Rattle.dk_core.proofs.Short.{IsShort, each_within, spelling_few}
use Rattle.dk_core.proofs.ShortRecords.{ConstantsAreShort, HasShortConstant, HasShortConstants}
use Rattle.dk_core.specs.Resuming.{state_file}
use Rattle.dk_decl.specs.Headers.{is_implicit}
use Rattle.dk_decl.specs.declared.decls.PointDecl.{PointDecl}
use Rattle.dk_decl.specs.declared.decls.VarDecl.{VarDecl}
use Rattle.dk_hierarchy.specs.Samples.{all_vars_of, own_samples_of}
use Rattle.dk_state.specs.Compact.{compact_form_of}
use Rattle.dk_state.specs.Declarations.{constant_decl_text, constant_line, decls_of, edge_line, mapped_line, point_lines, var_decl_line, var_lines}
use Rattle.dk_state.specs.Lines.{state_line}
use Rattle.dk_state.specs.Saved.{comparability_text, kept_lines, saved_text, state_text, version_of}
use Rattle.dk_state.specs.StateFile.{state_file_of}
use Rattle.dk_template.specs.declared.grammar.Grammar.{Grammar}
use Rattle.dk_trace.specs.Values.{known_values}

-- a middle part is within the whole
first_part : (a b : List ℕ) (most : ℕ) → length (a ++ b) ≤ most → length a ≤ most
first_part a b most few = omega (arith, few, length-append a b)

last_part : (a b : List ℕ) (most : ℕ) → length (a ++ b) ≤ most → length b ≤ most
last_part a b most few = omega (arith, few, length-append a b)

abbrev most_bytes : ℕ
most_bytes = 9223372036854775807

-- the line of a constant spells it
constant_spelled : (v : Value) → length (state_line "constant" (spelling v ∷ [])) ≤ most_bytes → IsShort v
constant_spelled v few =
    let elements = spelling_few v in
    let field : length (spelling v ++ []) ≤ most_bytes =
    first_part (spelling v ++ []) (codes "\n") most_bytes (last_part (codes "constant ") ((spelling v ++ []) ++ codes "\n") most_bytes few) in
    omega (arith, elements, first_part (spelling v) [] most_bytes field)

constant_saved : (there : Bool) (constant : Option Value) → length (constant_decl_text there constant) ≤ most_bytes → there ≡ true → All IsShort (known_values constant)
constant_saved there None few has = All-nil IsShort
constant_saved false (Some v) few has = absurd (cc has)
constant_saved true (Some v) few has = All-cons IsShort v [] (constant_spelled v few) (All-nil IsShort)

var_saved : (v : VarDecl) → length (var_lines v) ≤ most_bytes → HasShortConstant v
var_saved v few =
    constant_saved v.constant_line v.constant
    (first_part (constant_line v) (flat_map mapped_line v.parents) most_bytes
    (last_part (var_decl_line v) (constant_line v ++ flat_map mapped_line v.parents) most_bytes few))

point_saved : (d : PointDecl) → length (point_lines d) ≤ most_bytes → HasShortConstants d
point_saved d few =
    let vars = flat_map var_lines d.vars in
    let behind_name = last_part (state_line "point" (escaped d.name ∷ [])) (flat_map edge_line d.edges ++ (vars ++ state_line "end" [])) most_bytes few in
    let behind_edges = last_part (flat_map edge_line d.edges) (vars ++ state_line "end" []) most_bytes behind_name in
    All-weaker (λ (v : VarDecl). length (var_lines v) ≤ most_bytes) HasShortConstant var_saved d.vars
    (each_within var_lines d.vars most_bytes (first_part vars (state_line "end" []) most_bytes behind_edges))

state_saved : (g : Grammar) (ds : List PointDecl) (implicit : Bool) (kept : List ℕ) → length (state_text g ds implicit kept) ≤ most_bytes → All HasShortConstants ds
state_saved g ds implicit kept few =
    let points = flat_map point_lines ds in
    let from_kept = kept ++ state_line "end-state" [] in
    let from_points = state_line "points" (decimal (length ds) ∷ []) ++ (points ++ from_kept) in
    let from_word = state_line "comparability" (comparability_text implicit ∷ []) ++ from_points in
    let behind_version = last_part (state_line "daikon-state" (decimal (version_of g) ∷ [])) from_word most_bytes few in
    let behind_word = last_part (state_line "comparability" (comparability_text implicit ∷ [])) from_points most_bytes behind_version in
    let behind_number = last_part (state_line "points" (decimal (length ds) ∷ [])) (points ++ from_kept) most_bytes behind_word in
    All-weaker (λ (d : PointDecl). length (point_lines d) ≤ most_bytes) HasShortConstants point_saved ds (each_within point_lines ds most_bytes (first_part points from_kept most_bytes behind_number))

pub constants_saved : (h : History) → length (state_file h) < 2 ^ 63 → ConstantsAreShort h.table
unfolding state_file state_file_of saved_text
constants_saved h few =
    let kept = map (λ p. compact_form_of h.grammar (all_vars_of h.table p) (own_samples_of h.table h.samples p)) (range_with_len 0 (length h.table)) in
    let whole : length (state_text h.grammar (decls_of h.table) (is_implicit h.header) (flat_map kept_lines (enumerate_from 0 kept))) < 2 ^ 63 = few in
    state_saved h.grammar (decls_of h.table) (is_implicit h.header) (flat_map kept_lines (enumerate_from 0 kept)) (omega (arith, whole))
