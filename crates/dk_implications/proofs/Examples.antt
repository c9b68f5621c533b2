-- Small reports of implications, computed from the definitions.
use Rattle.std.specs.Prelude.{◌≡◌, ℕ, pos, negsuc, Bool, true, false, List, [], ◌∷◌, ◌++◌, codes, replicate, refl, Some, None}
use Rattle.std.specs.Fmt.{digits}
use Rattle.dk_arith.specs.Directions.{divisor}
use Rattle.dk_arith.specs.Gcd.{gcd}
use Rattle.dk_base.specs.declared.kinds.Kind.{Kind}
use Rattle.dk_base.specs.declared.kinds.Kind.TheVariants as kind
use Rattle.dk_base.specs.declared.values.Value.{Value}
use Rattle.dk_base.specs.declared.values.Value.TheVariants as value
use Rattle.dk_decl.specs.declared.decls.VarDecl.{VarDecl}
use Rattle.dk_derive.specs.Vars.{with_derived_vars}
use Rattle.dk_filters.specs.Candidates.{candidates_of}
use Rattle.dk_filters.specs.Facts.{facts_of}
use Rattle.dk_instances.specs.Fits.{fit}
use Rattle.dk_instances.specs.Instances.{instances_of}
use Rattle.dk_forms.specs.Known.Distinct.{put}
use Rattle.dk_forms.specs.Plane.Line.{through}
use Rattle.dk_forms.specs.Modulus.{class, remainder}
use Rattle.dk_forms.specs.Plane.{plane_from, plane_through}
use Rattle.dk_points.specs.Names.{method_len, role_of}
use Rattle.dk_points.specs.Table.{Point, declared_point}
use Rattle.dk_points.specs.Vars.{entry_before, orig_vars, vars_of}
use Rattle.dk_graph.specs.Names.{place_of}
use Rattle.dk_print.specs.Texts.{row_text, row_texts}
use Rattle.dk_meanings.specs.Meanings.{meanings, state_of}
use Rattle.dk_suppress.specs.Rules.{rules}
use Rattle.dk_template.specs.Templates.{rows}
use Rattle.dk_template.specs.declared.grammar.Grammar.TheVariants as grammar
use Rattle.dk_implications.specs.Implications.{implications_of}
use Rattle.dk_implications.specs.Reports.{implications_at, implications_report, implications_text}

-- ---- points and samples
abbrev var_of : Kind → List ℕ → VarDecl
var_of kind name = record {
  name = name;
  kind = Some kind;
  compar = record { elem = negsuc 0; index = negsuc 0 };
  constant = None;
  constant_line = false;
  parents = [];
}

abbrev bool : List ℕ → VarDecl
bool name = var_of kind.Bool name

abbrev int : List ℕ → VarDecl
int name = var_of kind.Int name

abbrev point : List ℕ → List VarDecl → Point
point name vars = declared_point (record { name = name; edges = []; vars = vars })

abbrev t : Value
t = value.Bool true

abbrev f : Value
f = value.Bool false

abbrev i : ℕ → Value
i n = value.Int (pos n)

-- the report of one point with these samples, by the second grammar and with the least number 1
abbrev report : Point → List (List Value) → List ℕ
report point samples = implications_report grammar.Two 1 (point ∷ []) (samples ∷ [])

abbrev bar : List ℕ
bar = replicate 75 61 ++ codes "\n"

-- ---- one number
abbrev b_x : Point
b_x = point (codes "P") (bool (codes "b") ∷ int (codes "x") ∷ [])

either_value : report b_x ((t ∷ i 1 ∷ []) ∷ (t ∷ i 1 ∷ []) ∷ (f ∷ i 5 ∷ []) ∷ (f ∷ i 7 ∷ []) ∷ [])
    ≡ bar ++ codes "P  [4]\nb == true ==> x == 1  [2]\nb == false ==> x one of { 5, 7 }  [2]\n"
unfolding implications_report implications_at implications_text implications_of candidates_of facts_of row_text row_texts digits with_derived_vars vars_of orig_vars entry_before role_of method_len place_of rows instances_of rules fit state_of meanings put class remainder gcd divisor through plane_from plane_through
either_value = refl

-- a point without samples has no section, and one without implications its heading
no_samples : report b_x [] ≡ []
unfolding implications_report implications_at
no_samples = refl

always_true : report b_x ((t ∷ i 1 ∷ []) ∷ (t ∷ i 2 ∷ []) ∷ []) ≡ bar ++ codes "P  [2]\n"
unfolding implications_report implications_at implications_text implications_of candidates_of facts_of row_text row_texts digits with_derived_vars vars_of orig_vars entry_before role_of method_len place_of rows instances_of rules fit state_of meanings put class remainder gcd divisor through plane_from plane_through
always_true = refl

without_bools : report (point (codes "P") (int (codes "x") ∷ [])) ((i 1 ∷ []) ∷ (i 2 ∷ []) ∷ []) ≡ bar ++ codes "P  [2]\n"
unfolding implications_report implications_at implications_text implications_of candidates_of facts_of row_text row_texts digits with_derived_vars vars_of orig_vars entry_before role_of method_len place_of rows instances_of rules fit state_of meanings put class remainder gcd divisor through plane_from plane_through
without_bools = refl

-- ---- two numbers, and a sample in which the Bool is missing
abbrev b_x_y : Point
b_x_y = point (codes "P") (bool (codes "b") ∷ int (codes "x") ∷ int (codes "y") ∷ [])

in_neither_half : report b_x_y
    ((t ∷ i 1 ∷ i 2 ∷ []) ∷ (t ∷ i 4 ∷ i 9 ∷ []) ∷ (t ∷ i 6 ∷ i 7 ∷ []) ∷ (f ∷ i 3 ∷ i 3 ∷ []) ∷ (f ∷ i 8 ∷ i 8 ∷ []) ∷ (f ∷ i 5 ∷ i 5 ∷ []) ∷ (value.Missing ∷ i 0 ∷ i 20 ∷ []) ∷ [])
    ≡ bar ++ codes "P  [7]\n"
    ++ codes "b == true ==> x one of { 1, 4, 6 }  [3]\nb == true ==> y one of { 2, 7, 9 }  [3]\nb == true ==> x < y  [3]\n"
    ++ codes "b == false ==> x one of { 3, 5, 8 }  [3]\nb == false ==> x == y  [3]\n"
unfolding implications_report implications_at implications_text implications_of candidates_of facts_of row_text row_texts digits with_derived_vars vars_of orig_vars entry_before role_of method_len place_of rows instances_of rules fit state_of meanings put class remainder gcd divisor through plane_from plane_through
in_neither_half = refl

-- ---- several Bools
abbrev a_b_x : Point
a_b_x = point (codes "P") (bool (codes "a") ∷ bool (codes "b") ∷ int (codes "x") ∷ [])

-- of two that agree the first stands for both
one_of_a_class : report a_b_x ((t ∷ t ∷ i 1 ∷ []) ∷ (f ∷ f ∷ i 5 ∷ []) ∷ [])
    ≡ bar ++ codes "P  [2]\na == true ==> x == 1  [1]\na == false ==> x == 5  [1]\n"
unfolding implications_report implications_at implications_text implications_of candidates_of facts_of row_text row_texts digits with_derived_vars vars_of orig_vars entry_before role_of method_len place_of rows instances_of rules fit state_of meanings put class remainder gcd divisor through plane_from plane_through
one_of_a_class = refl

-- each of two opposite ones splits
opposites : report a_b_x ((t ∷ f ∷ i 1 ∷ []) ∷ (f ∷ t ∷ i 5 ∷ []) ∷ [])
    ≡ bar ++ codes "P  [2]\n"
    ++ codes "a == true ==> x == 1  [1]\na == true ==> b == false  [1]\na == false ==> x == 5  [1]\na == false ==> b == true  [1]\n"
    ++ codes "b == true ==> x == 5  [1]\nb == true ==> a == false  [1]\nb == false ==> x == 1  [1]\nb == false ==> a == true  [1]\n"
unfolding implications_report implications_at implications_text implications_of candidates_of facts_of row_text row_texts digits with_derived_vars vars_of orig_vars entry_before role_of method_len place_of rows instances_of rules fit state_of meanings put class remainder gcd divisor through plane_from plane_through
opposites = refl

-- Where the first is true the second is so too; where the second is false, so is the first. In each half the first stands for both.
alike_in_a_half : report a_b_x ((t ∷ t ∷ i 1 ∷ []) ∷ (f ∷ t ∷ i 5 ∷ []) ∷ (f ∷ f ∷ i 5 ∷ []) ∷ [])
    ≡ bar ++ codes "P  [3]\na == true ==> x == 1  [1]\na == false ==> x == 5  [2]\nb == false ==> x == 5  [1]\nb == false ==> a == false  [1]\n"
unfolding implications_report implications_at implications_text implications_of candidates_of facts_of row_text row_texts digits with_derived_vars vars_of orig_vars entry_before role_of method_len place_of rows instances_of rules fit state_of meanings put class remainder gcd divisor through plane_from plane_through
alike_in_a_half = refl
