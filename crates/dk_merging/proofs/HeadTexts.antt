-- The front of what is saved, and what it tells.
use Rattle.std.specs.Prelude.{◌≡◌, ◌<◌, ◌^◌, ◌++◌, ◌∷◌, ◌==◌, [], ℕ, ℤ, pos, Bool, true, false, not, All, IsTrue, List, Option, Some, None, codes, drop, flat_map, length, refl}
use Rattle.std.specs.Fmt.{decimal, signed_decimal}
use Rattle.std.specs.List.{enumerate_from, list_all}
use Rattle.std.proofs.Common.{◌∙◌, ap, append_assoc, append-nil, arith, sym, ◌+◌}
use Rattle.std.proofs.lemmas.Bool.{and_parts, cond_both, not-true}
use Rattle.std.proofs.lemmas.List.Elements.{All-head, All-tail}
use Rattle.dk_base.specs.Names.{escaped}
use Rattle.dk_base.specs.Numbers.{fits_i64}
use Rattle.dk_base.specs.Values.Spelling.{spelling}
use Rattle.dk_base.specs.declared.kinds.Kind.{Kind}
use Rattle.dk_base.specs.declared.values.Value.{Value}
use Rattle.dk_base.specs.declared.values.Value.TheVariants as value
use Rattle.dk_decl.specs.declared.decls.EdgeDecl.{EdgeDecl}
use Rattle.dk_decl.specs.declared.decls.ParentVar.{ParentVar}
use Rattle.dk_decl.specs.declared.decls.PointDecl.{PointDecl}
use Rattle.dk_decl.specs.declared.decls.VarDecl.{VarDecl}
use Rattle.dk_engine.specs.Saved.{parts_of}
use Rattle.dk_engine.specs.declared.kept.Kept.{Kept}
use Rattle.dk_template.specs.declared.grammar.Grammar.{Grammar}
use Rattle.dk_template.specs.declared.grammar.Grammar.TheVariants as grammar
use Rattle.dk_points.specs.Table.{Point}
use Rattle.dk_state.specs.Declarations.{constant_decl_text, decls_of, constant_line, edge_line, mapped_line, point_lines, var_decl_line, var_lines}
use Rattle.dk_state.specs.Fitting.{FitsConstant, FitsEdge, FitsMapped, FitsPoint, FitsVar}
use Rattle.dk_merging.specs.Fronts.{begins_kept, front_from, front_of}
use Rattle.dk_state.specs.Kept.{parts_lines}
use Rattle.dk_state.specs.Lines.{behind_blank, fields_text, state_line}
use Rattle.dk_state.specs.Reading.{HasNone, ends_field, ends_line}
use Rattle.dk_state.specs.Saved.{comparability_text, kept_lines, saved_text, state_text, version_of}
use Rattle.dk_state.proofs.DeclaredLines.{rep_plain}
use Rattle.dk_state.proofs.Numerals.{number_plain}
use Rattle.dk_state.proofs.Onto.{line_onto}
use Rattle.dk_state.proofs.Plain.{fields_in_line, name_plain, none_append, small_whole, value_plain}
use Rattle.dk_merging.proofs.Telling.{field_told, number_told, points_are_told}
use Rattle.dk_write.specs.Declarations.{rep_text}

-- ---- lines that a front has
-- Whole lines, none of which says what is kept: they are all in the front.
abbrev pub ArePassed : List ℕ → Type 0
ArePassed xs = (rest : List ℕ) → front_from true (xs ++ rest) ≡ xs ++ front_from true rest

pub both_passed : (xs ys : List ℕ) → ArePassed xs → ArePassed ys → ArePassed (xs ++ ys)
both_passed xs ys h k rest =
    ap (front_from true) (append_assoc xs ys rest) ∙ h (ys ++ rest) ∙ ap (λ l. xs ++ l) (k rest) ∙ sym (append_assoc xs ys (front_from true rest))

pub all_passed : {X : Type 0} (text : X → List ℕ) (fits : X → Type 0) → ((x : X) → fits x → ArePassed (text x)) → (xs : List X) → All fits xs → ArePassed (flat_map text xs)
all_passed text fits each [] all = λ rest. refl
all_passed text fits each (x ∷ xs) all =
    both_passed (text x) (flat_map text xs) (each x (All-head fits x xs all)) (all_passed text fits each xs (All-tail fits x xs all))

in_line : (bs rest : List ℕ) → HasNone ends_line bs → front_from false (bs ++ 10 ∷ rest) ≡ bs ++ 10 ∷ front_from true rest
in_line [] rest h = refl
in_line (b ∷ bs) rest h =
    let both = and_parts (not (b == 10)) (list_all (λ c. not (ends_line c)) bs) h in
    rw (not-true (b == 10) both.0) (ap (λ l. b ∷ l) (in_line bs rest both.1))

-- a line of these fields
line_passed : (b : ℕ) (word : List ℕ) (fields : List (List ℕ)) → HasNone ends_line (b ∷ word) → HasNone ends_line (fields_text fields)
    → ((rest : List ℕ) → begins_kept (b ∷ ((word ++ (fields_text fields ++ codes "\n")) ++ rest)) ≡ false)
    → ArePassed (b ∷ (word ++ (fields_text fields ++ codes "\n")))
line_passed b word fields h k other rest =
    let own = word ++ fields_text fields in
    let both = and_parts (not (b == 10)) (list_all (λ c. not (ends_line c)) word) h in
    let onto : (l : List ℕ) → (word ++ (fields_text fields ++ codes "\n")) ++ l ≡ own ++ 10 ∷ l =
    λ l. append_assoc word (fields_text fields ++ codes "\n") l ∙ ap (λ m. word ++ m) (append_assoc (fields_text fields) (codes "\n") l) ∙ sym (append_assoc word (fields_text fields) (10 ∷ l)) in
    rw (other rest, not-true (b == 10) both.0)
    (ap (λ l. b ∷ l) (ap (front_from false) (onto rest) ∙ in_line own rest (none_append ends_line word (fields_text fields) both.1 k) ∙ sym (onto (front_from true rest))))

-- ---- fields
field_plain : (field : List ℕ) (fields : List (List ℕ)) → HasNone ends_line field → HasNone ends_line (fields_text fields) → HasNone ends_line (fields_text (field ∷ fields))
field_plain field fields h k = none_append ends_line (behind_blank field) (fields_text fields) h k

number_in_line : (n : ℕ) → n < 2 ^ 127 → HasNone ends_line (decimal n)
number_in_line n small = fields_in_line (decimal n) (number_plain (pos n) small)

name_in_line : (name : List ℕ) → HasNone ends_line name → HasNone ends_line (escaped name)
name_in_line name h = fields_in_line (escaped name) (name_plain name h)

int_in_line : (z : ℤ) → IsTrue (fits_i64 z) → HasNone ends_line (signed_decimal z)
int_in_line z fits = fields_in_line (signed_decimal z) (number_plain z (small_whole z fits))

-- ---- declarations
edge_passed : (e : EdgeDecl) → FitsEdge e → ArePassed (edge_line e)
edge_passed e fits =
    let fields = field_plain (decimal e.id) (escaped e.parent ∷ []) (number_in_line e.id (omega (arith, fits.id))) (field_plain (escaped e.parent) [] (name_in_line e.parent fits.parent) refl) in
    line_passed 101 (codes "dge") (decimal e.id ∷ escaped e.parent ∷ []) refl fields (λ rest. refl)

mapped_passed : (p : ParentVar) → FitsMapped p → ArePassed (mapped_line p)
mapped_passed p fits =
    let fields = field_plain (decimal p.edge) (escaped p.name ∷ []) (number_in_line p.edge (omega (arith, fits.edge))) (field_plain (escaped p.name) [] (name_in_line p.name fits.name) refl) in
    line_passed 109 (codes "apped") (decimal p.edge ∷ escaped p.name ∷ []) refl fields (λ rest. refl)

constant_passed : (there : Bool) (k : Option Kind) (x : Option Value) → FitsConstant there k x → ArePassed (constant_decl_text there x)
constant_passed false k x fits = λ rest. refl
constant_passed true None None fits = line_passed 99 (codes "onstant") (spelling value.Missing ∷ []) refl refl (λ rest. refl)
constant_passed true None (Some x) fits = absurd fits
constant_passed true (Some k) None fits = absurd fits
constant_passed true (Some k) (Some x) fits =
    line_passed 99 (codes "onstant") (spelling x ∷ []) refl (field_plain (spelling x) [] (value_plain x fits.1) refl) (λ rest. refl)

var_passed : (v : VarDecl) → FitsVar v → ArePassed (var_lines v)
var_passed v fits =
    let rest = field_plain (signed_decimal v.compar.elem) (signed_decimal v.compar.index ∷ escaped v.name ∷ []) (int_in_line v.compar.elem fits.elem)
    (field_plain (signed_decimal v.compar.index) (escaped v.name ∷ []) (int_in_line v.compar.index fits.index) (field_plain (escaped v.name) [] (name_in_line v.name fits.name) refl)) in
    let fields = field_plain (rep_text v.kind) (signed_decimal v.compar.elem ∷ signed_decimal v.compar.index ∷ escaped v.name ∷ []) (fields_in_line (rep_text v.kind) (rep_plain v.kind)) rest in
    both_passed (var_decl_line v) (constant_line v ++ flat_map mapped_line v.parents)
    (line_passed 118 (codes "ar") (rep_text v.kind ∷ signed_decimal v.compar.elem ∷ signed_decimal v.compar.index ∷ escaped v.name ∷ []) refl fields (λ rest. refl))
    (both_passed (constant_line v) (flat_map mapped_line v.parents) (constant_passed v.constant_line v.kind v.constant fits.constant)
    (all_passed mapped_line FitsMapped mapped_passed v.parents fits.parents))

point_passed : (d : PointDecl) → FitsPoint d → ArePassed (point_lines d)
point_passed d fits =
    let edges = flat_map edge_line d.edges in
    let vars = flat_map var_lines d.vars in
    let end = state_line "end" [] in
    both_passed (state_line "point" (escaped d.name ∷ [])) (edges ++ (vars ++ end))
    (line_passed 112 (codes "oint") (escaped d.name ∷ []) refl (field_plain (escaped d.name) [] (name_in_line d.name fits.name) refl) (λ rest. refl))
    (both_passed edges (vars ++ end) (all_passed edge_line FitsEdge edge_passed d.edges fits.edges)
    (both_passed vars end (all_passed var_lines FitsVar var_passed d.vars fits.vars) (line_passed 101 (codes "nd") [] refl refl (λ rest. refl))))

-- ---- the front of what is saved
abbrev pub word_lines : Bool → ℕ → List PointDecl → List ℕ
word_lines implicit n decls =
    state_line "comparability" (comparability_text implicit ∷ []) ++ (state_line "points" (decimal n ∷ []) ++ flat_map point_lines decls)

-- the lines in front of what is kept
abbrev pub head_text : Grammar → List PointDecl → Bool → List ℕ
head_text g decls implicit = state_line "daikon-state" (decimal (version_of g) ∷ []) ++ word_lines implicit (length decls) decls

pub text_parts : (g : Grammar) (decls : List PointDecl) (implicit : Bool) (kept : List ℕ) → state_text g decls implicit kept ≡ head_text g decls implicit ++ (kept ++ state_line "end-state" [])
text_parts g decls implicit kept =
    let first = state_line "daikon-state" (decimal (version_of g) ∷ []) in
    let second = state_line "comparability" (comparability_text implicit ∷ []) in
    let third = state_line "points" (decimal (length decls) ∷ []) in
    let lines = flat_map point_lines decls in
    let last = kept ++ state_line "end-state" [] in
    sym (append_assoc first (second ++ (third ++ lines)) last ∙ ap (λ l. first ++ l) (append_assoc second (third ++ lines) last ∙ ap (λ l. second ++ l) (append_assoc third lines last)))

version_plain : (g : Grammar) → HasNone ends_line (decimal (version_of g))
version_plain grammar.One = number_in_line 1 (omega arith)
version_plain grammar.Two = number_in_line 2 (omega arith)

word_plain : (implicit : Bool) → HasNone ends_field (comparability_text implicit)
word_plain true = refl
word_plain false = refl

head_passed : (g : Grammar) (decls : List PointDecl) (implicit : Bool) → All FitsPoint decls → length decls < 2 ^ 64 → ArePassed (head_text g decls implicit)
head_passed g decls implicit fit few =
    let lines = flat_map point_lines decls in
    let word = comparability_text implicit in
    let count = decimal (length decls) in
    both_passed (state_line "daikon-state" (decimal (version_of g) ∷ [])) (word_lines implicit (length decls) decls)
    (line_passed 100 (codes "aikon-state") (decimal (version_of g) ∷ []) refl (field_plain (decimal (version_of g)) [] (version_plain g) refl) (λ rest. refl))
    (both_passed (state_line "comparability" (word ∷ [])) (state_line "points" (count ∷ []) ++ lines)
    (line_passed 99 (codes "omparability") (word ∷ []) refl (field_plain word [] (fields_in_line word (word_plain implicit)) refl) (λ rest. refl))
    (both_passed (state_line "points" (count ∷ [])) lines
    (line_passed 112 (codes "oints") (count ∷ []) refl (field_plain count [] (number_in_line (length decls) (omega (arith, few))) refl) (λ rest. refl))
    (all_passed point_lines FitsPoint point_passed decls fit)))

-- what is kept is behind it
kept_behind : (n : ℕ) (ks : List Kept) → front_from true (flat_map kept_lines (enumerate_from n ks) ++ state_line "end-state" []) ≡ []
kept_behind n [] = refl
kept_behind n (k ∷ ks) =
    let rest = flat_map kept_lines (enumerate_from (n + 1) ks) in
    let last = state_line "end-state" [] in
    cond_both (k.samples == 0) [] (parts_lines n (parts_of k)) (λ l. front_from true ((l ++ rest) ++ last) ≡ []) (λ _. kept_behind (n + 1) ks) (λ _. refl)

pub front_of_saved : (g : Grammar) (ps : List Point) (implicit : Bool) (ks : List Kept) → All FitsPoint (decls_of ps) → length (decls_of ps) < 2 ^ 64
    → front_of (saved_text g ps implicit ks) ≡ head_text g (decls_of ps) implicit
unfolding saved_text
front_of_saved g ps implicit ks fit few =
    let decls = decls_of ps in
    let lines = flat_map kept_lines (enumerate_from 0 ks) in
    ap (front_from true) (text_parts g decls implicit lines)
    ∙ head_passed g decls implicit fit few (lines ++ state_line "end-state" [])
    ∙ ap (λ l. head_text g decls implicit ++ l) (kept_behind 0 ks)
    ∙ append-nil (head_text g decls implicit)

-- ---- what it tells
same_grammar : (g h : Grammar) → version_of g ≡ version_of h → g ≡ h
same_grammar grammar.One grammar.One e = refl
same_grammar grammar.Two grammar.Two e = refl
same_grammar grammar.One grammar.Two e = absurd (omega (arith, e))
same_grammar grammar.Two grammar.One e = absurd (omega (arith, e))

few_versions : (g : Grammar) → version_of g < 3
few_versions grammar.One = omega arith
few_versions grammar.Two = omega arith

same_word : (i j : Bool) → comparability_text i ≡ comparability_text j → i ≡ j
same_word true true e = refl
same_word false false e = refl
same_word true false e = absurd (cc e)
same_word false true e = absurd (cc e)

pub heads_told : (g h : Grammar) (ds es : List PointDecl) (i j : Bool) → All FitsPoint ds → All FitsPoint es → length ds < 2 ^ 64 → length es < 2 ^ 64
    → head_text g ds i ≡ head_text h es j → (g ≡ h) × (ds ≡ es) × (i ≡ j)
heads_told g h ds es i j fit also few less e =
    let these = word_lines i (length ds) ds in
    let those = word_lines j (length es) es in
    let first = ap (drop 12) (sym (line_onto (codes "daikon-state") (decimal (version_of g) ∷ []) these) ∙ e ∙ line_onto (codes "daikon-state") (decimal (version_of h) ∷ []) those) in
    let version = number_told (version_of g) (version_of h) (10 ∷ these) (10 ∷ those) (omega (arith, few_versions g)) (omega (arith, few_versions h)) refl refl first in
    let counted = λ (l : List PointDecl). state_line "points" (decimal (length l) ∷ []) ++ flat_map point_lines l in
    let second = ap (drop 14) (sym (line_onto (codes "comparability") (comparability_text i ∷ []) (counted ds)) ∙ ap (drop 1) version.1 ∙ line_onto (codes "comparability") (comparability_text j ∷ []) (counted es)) in
    let word = field_told ends_field (comparability_text i) (comparability_text j) (10 ∷ counted ds) (10 ∷ counted es) (word_plain i) (word_plain j) refl refl second in
    let third = ap (drop 6) (sym (line_onto (codes "points") (decimal (length ds) ∷ []) (flat_map point_lines ds)) ∙ ap (drop 1) word.1 ∙ line_onto (codes "points") (decimal (length es) ∷ []) (flat_map point_lines es)) in
    let count = number_told (length ds) (length es) (10 ∷ flat_map point_lines ds) (10 ∷ flat_map point_lines es) (omega (arith, few)) (omega (arith, less)) refl refl third in
    (same_grammar g h version.0, points_are_told ds es fit also (ap (drop 1) count.1), same_word i j word.0)
