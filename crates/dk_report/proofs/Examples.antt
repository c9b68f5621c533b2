-- Small reports, computed from the definitions.
use Rattle.std.specs.Prelude.{◌≡◌, ℕ, pos, negsuc, true, false, List, [], ◌∷◌, ◌++◌, codes, replicate, refl, Some, None}
use Rattle.std.specs.Fmt.{digits}
use Rattle.dk_arith.specs.Directions.{divisor}
use Rattle.dk_arith.specs.Gcd.{gcd}
use Rattle.dk_base.specs.declared.kinds.Kind.TheVariants as kind
use Rattle.dk_base.specs.declared.values.Value.{Value}
use Rattle.dk_base.specs.declared.values.Value.TheVariants as value
use Rattle.dk_decl.specs.declared.decls.EdgeDecl.{EdgeDecl}
use Rattle.dk_decl.specs.declared.decls.ParentVar.{ParentVar}
use Rattle.dk_decl.specs.declared.decls.VarDecl.{VarDecl}
use Rattle.dk_derive.specs.Partners.{partner_with_derived}
use Rattle.dk_derive.specs.Vars.{with_derived_vars}
use Rattle.dk_filters.specs.Candidates.{candidates_of}
use Rattle.dk_filters.specs.Facts.{facts_of}
use Rattle.dk_forms.specs.Known.Distinct.{put}
use Rattle.dk_forms.specs.Modulus.{class, remainder}
use Rattle.dk_forms.specs.Plane.{plane_from, plane_through}
use Rattle.dk_forms.specs.Plane.Line.{through}
use Rattle.dk_graph.specs.Graphs.{depth_of, edges, edges_from, edges_into, links}
use Rattle.dk_graph.specs.Names.{place_of}
use Rattle.dk_hierarchy.specs.Samples.{OwnSamples, partners_of, samples_of}
use Rattle.dk_instances.specs.Fits.{fit}
use Rattle.dk_instances.specs.Instances.{instances_of}
use Rattle.dk_meanings.specs.Meanings.{meanings, state_of}
use Rattle.dk_points.specs.Links.{kept_edges, nodes}
use Rattle.dk_points.specs.Names.{method_len, role_of}
use Rattle.dk_points.specs.Partners.{partner_of}
use Rattle.dk_points.specs.Table.{Point, declared_point}
use Rattle.dk_points.specs.Vars.{entry_before, orig_vars, vars_of}
use Rattle.dk_print.specs.Sections.{section_text}
use Rattle.dk_print.specs.Texts.{row_text, row_texts}
use Rattle.dk_suppress.specs.Rules.{rules}
use Rattle.dk_template.specs.Templates.{rows}
use Rattle.dk_template.specs.declared.grammar.Grammar.TheVariants as grammar
use Rattle.dk_report.specs.Reports.{kept_instances, section_of}
use Rattle.dk_report.specs.declared.options.Options.{Options}

-- ---- points and samples
abbrev int : List ℕ → ℕ → List ParentVar → VarDecl
int name comparability parents = record {
  name = name;
  kind = Some kind.Int;
  compar = record { elem = pos comparability; index = negsuc 0 };
  constant = None;
  constant_line = false;
  parents = parents;
}

abbrev point : List ℕ → List EdgeDecl → List VarDecl → Point
point name edges vars = declared_point (record { name = name; edges = edges; vars = vars })

-- a table of points, with the own samples of each
record Sampled : Type 0 where
  pub table : List Point
  pub own : OwnSamples

abbrev sampled : List Point → OwnSamples → Sampled
sampled table own = record { table = table; own = own }

abbrev i : ℕ → Value
i n = value.Int (pos n)

-- all filters on, with this least count
abbrev least : ℕ → Options
least n = record {
  least = n;
  keep_implied = false;
  keep_incomparable = false;
  keep_members = false;
  keep_constant = false;
  keep_parent = false;
  ignore_missing_entry = false;
}

abbrev section : Options → Sampled → ℕ → List ℕ
section options s p = section_of grammar.Two options s.table s.own p

abbrev bar : List ℕ
bar = replicate 75 61 ++ codes "\n"

-- ---- one value, three times
abbrev fives : Sampled
fives = sampled (point (codes "P") [] (int (codes "x") 1 [] ∷ []) ∷ []) (((i 5 ∷ []) ∷ (i 5 ∷ []) ∷ (i 5 ∷ []) ∷ []) ∷ [])

one_value : section (least 1) fives 0 ≡ bar ++ codes "P  [3]\nx == 5  [3]\n"
unfolding section_of kept_instances candidates_of facts_of section_text row_text row_texts digits samples_of with_derived_vars vars_of orig_vars entry_before role_of method_len place_of nodes kept_edges edges links edges_into edges_from depth_of partners_of partner_with_derived partner_of rows instances_of rules fit state_of meanings put class remainder gcd divisor through plane_from plane_through
one_value = refl

few_fives : section (least 5) fives 0 ≡ bar ++ codes "P  [3]\n"
unfolding section_of kept_instances candidates_of facts_of section_text row_text row_texts digits samples_of with_derived_vars vars_of orig_vars entry_before role_of method_len place_of nodes kept_edges edges links edges_into edges_from depth_of partners_of partner_with_derived partner_of rows instances_of rules fit state_of meanings put class remainder gcd divisor through plane_from plane_through
few_fives = refl

-- ---- two values with different comparabilities
abbrev apart : Sampled
apart = sampled (point (codes "P") [] (int (codes "x") 1 [] ∷ int (codes "y") 2 [] ∷ []) ∷ []) (((i 1 ∷ i 3 ∷ []) ∷ (i 2 ∷ i 4 ∷ []) ∷ []) ∷ [])

apart_incomparable : section (least 1) apart 0 ≡ bar ++ codes "P  [2]\nx one of { 1, 2 }  [2]\ny one of { 3, 4 }  [2]\n"
unfolding section_of kept_instances candidates_of facts_of section_text row_text row_texts digits samples_of with_derived_vars vars_of orig_vars entry_before role_of method_len place_of nodes kept_edges edges links edges_into edges_from depth_of partners_of partner_with_derived partner_of rows instances_of rules fit state_of meanings put class remainder gcd divisor through plane_from plane_through
apart_incomparable = refl

apart_kept : section (record (least 1) { keep_incomparable = true }) apart 0
    ≡ bar ++ codes "P  [2]\nx one of { 1, 2 }  [2]\ny one of { 3, 4 }  [2]\nx < y  [2]\nx - y + 2 == 0  [2]\ny % x == 0  [2]\n"
unfolding section_of kept_instances candidates_of facts_of section_text row_text row_texts digits samples_of with_derived_vars vars_of orig_vars entry_before role_of method_len place_of nodes kept_edges edges links edges_into edges_from depth_of partners_of partner_with_derived partner_of rows instances_of rules fit state_of meanings put class remainder gcd divisor through plane_from plane_through
apart_kept = refl

-- ---- two variables that agree but in one sample
abbrev k : ℕ → List Value
k n = i n ∷ i n ∷ []

abbrev ten : Sampled
ten = sampled (point (codes "P") [] (int (codes "x") 1 [] ∷ int (codes "y") 1 [] ∷ []) ∷ [])
    ((k 1 ∷ k 2 ∷ k 3 ∷ k 4 ∷ k 5 ∷ k 6 ∷ k 7 ∷ k 8 ∷ k 9 ∷ k 10 ∷ (i 11 ∷ value.Missing ∷ []) ∷ []) ∷ [])

ten_and_one : section (least 5) ten 0
    ≡ bar ++ codes "P  [11]\nx >= 1  [11]\ny >= 1  [10]\nx <= 11  [11]\ny <= 10  [10]\nx == y  [10]\n"
unfolding section_of kept_instances candidates_of facts_of section_text row_text row_texts digits samples_of with_derived_vars vars_of orig_vars entry_before role_of method_len place_of nodes kept_edges edges links edges_into edges_from depth_of partners_of partner_with_derived partner_of rows instances_of rules fit state_of meanings put class remainder gcd divisor through plane_from plane_through
ten_and_one = refl

-- ---- a child with two edges to its parent: its samples come to the parent twice
abbrev edge : List ℕ → ℕ → EdgeDecl
edge parent id = record { parent = parent; id = id }

abbrev at_parent : ℕ → List ℕ → List ParentVar
at_parent e name = record { edge = e; name = name } ∷ []

abbrev twice : Sampled
twice = sampled
    (point (codes "C") (edge (codes "Q") 1 ∷ edge (codes "Q") 2 ∷ []) (int (codes "a") 1 (at_parent 0 (codes "n")) ∷ int (codes "b") 1 (at_parent 1 (codes "n")) ∷ [])
    ∷ point (codes "Q") [] (int (codes "n") 1 [] ∷ [])
    ∷ [])
    (((i 1 ∷ i 4 ∷ []) ∷ (i 2 ∷ i 8 ∷ []) ∷ (i 3 ∷ i 9 ∷ []) ∷ []) ∷ [] ∷ [])

of_parent : samples_of twice.table twice.own 1 ≡ (i 1 ∷ []) ∷ (i 2 ∷ []) ∷ (i 3 ∷ []) ∷ (i 4 ∷ []) ∷ (i 8 ∷ []) ∷ (i 9 ∷ []) ∷ []
unfolding section_of kept_instances candidates_of facts_of section_text row_text row_texts digits samples_of with_derived_vars vars_of orig_vars entry_before role_of method_len place_of nodes kept_edges edges links edges_into edges_from depth_of partners_of partner_with_derived partner_of rows instances_of rules fit state_of meanings put class remainder gcd divisor through plane_from plane_through
of_parent = refl

counted_twice : section (least 1) twice 0 ++ section (least 1) twice 1
    ≡ bar ++ codes "C  [3]\na one of { 1, 2, 3 }  [3]\nb one of { 4, 8, 9 }  [3]\na < b  [3]\nb % a == 0  [3]\n"
    ++ bar ++ codes "Q  [6]\nn >= 1  [6]\nn <= 9  [6]\n"
unfolding section_of kept_instances candidates_of facts_of section_text row_text row_texts digits samples_of with_derived_vars vars_of orig_vars entry_before role_of method_len place_of nodes kept_edges edges links edges_into edges_from depth_of partners_of partner_with_derived partner_of rows instances_of rules fit state_of meanings put class remainder gcd divisor through plane_from plane_through
counted_twice = refl

-- ---- two children of one parent, of which one lacks a variable
abbrev of_o : List ℕ → VarDecl
of_o name = int name 1 (at_parent 0 name)

abbrev siblings : Sampled
siblings = sampled
    (point (codes "O") [] (int (codes "f") 1 [] ∷ int (codes "g") 1 [] ∷ [])
    ∷ point (codes "E1") (edge (codes "O") 1 ∷ []) (of_o (codes "f") ∷ of_o (codes "g") ∷ [])
    ∷ point (codes "E2") (edge (codes "O") 1 ∷ []) (of_o (codes "f") ∷ [])
    ∷ [])
    ([] ∷ ((i 1 ∷ i 2 ∷ []) ∷ (i 2 ∷ i 4 ∷ []) ∷ (i 3 ∷ i 6 ∷ []) ∷ []) ∷ ((i 10 ∷ []) ∷ (i 11 ∷ []) ∷ []) ∷ [])

stands_at_parent : section (least 1) siblings 0 ++ section (least 1) siblings 1 ++ section (least 1) siblings 2
    ≡ bar ++ codes "O  [5]\ng one of { 2, 4, 6 }  [3]\nf >= 1  [5]\nf <= 11  [5]\nf < g  [3]\n2 * f - g == 0  [3]\ng % f == 0  [3]\n"
    ++ bar ++ codes "E1  [3]\nf one of { 1, 2, 3 }  [3]\n"
    ++ bar ++ codes "E2  [2]\nf one of { 10, 11 }  [2]\n"
unfolding section_of kept_instances candidates_of facts_of section_text row_text row_texts digits samples_of with_derived_vars vars_of orig_vars entry_before role_of method_len place_of nodes kept_edges edges links edges_into edges_from depth_of partners_of partner_with_derived partner_of rows instances_of rules fit state_of meanings put class remainder gcd divisor through plane_from plane_through
stands_at_parent = refl
