-- The lines of a block are read as they stand.
use Rattle.std.proofs.Common.{◌≡◌, ◌≢◌, ◌<◌, ◌+◌, ◌-◌, ◌^◌, ◌∙◌, ◌==◌, ◌&&◌, ◌||◌, ◌∷◌, ◌++◌, [], ℕ, ℤ, Bool, true, false, List, All, IsTrue, Option, Some, None, codes, length, map, flat_map, slice_get, get_or, refl, sym, ap, append_assoc, length-append, if◌then◌else◌, arith}
use Rattle.std.specs.Prelude.{not, IfSome, slice_index, unwrap_or, is_none}
use Rattle.std.specs.Fmt.{decimal, signed_decimal}
use Rattle.std.specs.List.{list_all, zip}
use Rattle.std.specs.Option.{option_map_or}
use Rattle.std.proofs.lemmas.Bool.{and_parts, eqb-false, false≢true, not-true, ne_eqb}
use Rattle.std.proofs.lemmas.List.{get_or-append-add}
use Rattle.std.proofs.lemmas.List.Elements.{All-cons, All-head, All-nil, All-tail}
use Rattle.std.proofs.lemmas.List.Folds.{list_all-append}
use Rattle.dk_base.specs.Names.{escaped}
use Rattle.dk_base.specs.Numbers.{fits_i64}
use Rattle.dk_base.specs.Pieces.{is_blank, is_empty}
use Rattle.dk_base.specs.Values.Spelling.{spelling}
use Rattle.dk_base.specs.declared.kinds.Compar.{Compar}
use Rattle.dk_base.specs.declared.kinds.Kind.{Kind}
use Rattle.dk_base.specs.declared.kinds.Kind.TheVariants as kind
use Rattle.dk_base.specs.declared.values.Value.{Value}
use Rattle.dk_base.specs.declared.values.Value.TheVariants as value
use Rattle.dk_decl.specs.Types.{is_missing}
use Rattle.dk_decl.specs.declared.decls.EdgeDecl.{EdgeDecl}
use Rattle.dk_decl.specs.declared.decls.ParentVar.{ParentVar}
use Rattle.dk_decl.specs.declared.decls.PointDecl.{PointDecl}
use Rattle.dk_decl.specs.declared.decls.VarDecl.{VarDecl}
use Rattle.dk_lines.specs.Passing.{HasNoLf}
use Rattle.dk_trace.specs.Whole.{IsTidy}
use Rattle.dk_trace.proofs.Tidy.{tidy_ends}
use Rattle.dk_write.specs.Declarations.{compar_line, constant_lines, counterpart_line, counterpart_lines, declaration_lines, edge_line, point_line, rep_line, rep_text, var_lines, variable_line}
use Rattle.dk_write.specs.Names.{has_none, is_line, is_word, last_byte}
use Rattle.dk_write.specs.Records.{Recorded, mark_text, nonce_lines, record_lines, told_lines, value_text}
use Rattle.dk_write.specs.Writable.{IsVarWithin, IsWithin, can_declare, has_constant, is_known_edge, is_known_var, is_nonce_name, is_of_kind, is_told_counterpart, is_told_edge, is_told_value, is_told_var, is_value_of, none_twice}
use Rattle.dk_write.proofs.Declared.{all_of, constant_line_told, from_at}
use Rattle.dk_write.proofs.Words.{IsLine, decimal_bytes, decimal_some, is_line_parts, is_number_byte, not_none, number_range, signed_bytes, signed_some, word_is_line}

-- ---- what a line is made of

pub line_of_parts : (l : List ℕ) → IsLine l → is_line l ≡ true
unfolding is_line
line_of_parts l p = rw (p.some, p.no_lf, p.first, p.last, p.no_cr) refl

lf_append : (xs ys : List ℕ) → has_none 10 xs ≡ true → has_none 10 ys ≡ true → has_none 10 (xs ++ ys) ≡ true
lf_append xs ys h k = list_all-append (λ b. not (b == 10)) xs ys ∙ rw (h, k) refl

some_append : (xs ys : List ℕ) → is_empty xs ≡ false → is_empty (xs ++ ys) ≡ false
some_append [] ys h = absurd (false≢true (sym h))
some_append (x ∷ xs) ys h = refl

first_append : (xs ys : List ℕ) → is_empty xs ≡ false → slice_index (xs ++ ys) 0 ≡ slice_index xs 0
first_append [] ys h = absurd (false≢true (sym h))
first_append (x ∷ xs) ys h = refl

last_append : (xs ys : List ℕ) → 0 < length ys → last_byte (xs ++ ys) ≡ last_byte ys
last_append xs ys some =
    let at : length (xs ++ ys) - 1 ≡ length xs + (length ys - 1) = omega (arith, length-append xs ys) in
    ap (λ (k : ℕ). get_or (xs ++ ys) k 0) at ∙ get_or-append-add xs ys (length ys - 1) 0

-- bytes in front of a line, the first of which is neither a blank nor a tab
pub line_front : (front l : List ℕ) → is_empty front ≡ false → has_none 10 front ≡ true → is_blank (slice_index front 0) ≡ false → is_line l ≡ true
    → is_line (front ++ l) ≡ true
line_front front l some no_lf first line =
    let own : IsLine l = is_line_parts l line in
    let last : last_byte (front ++ l) ≡ last_byte l = last_append front l (not_none l own.some) in
    line_of_parts (front ++ l) (record {
      some = some_append front l some;
      no_lf = lf_append front l no_lf own.no_lf;
      first = ap is_blank (first_append front l some) ∙ first;
      last = ap is_blank last ∙ own.last;
      no_cr = ap (λ (b : ℕ). b == 13) last ∙ own.no_cr;
    })

line_behind_line : (a b : List ℕ) → is_line a ≡ true → is_line b ≡ true → is_line (a ++ b) ≡ true
line_behind_line a b h k = let own : IsLine a = is_line_parts a h in line_front a b own.some own.no_lf own.first k

-- a line, a blank and a line
line_and : (a b : List ℕ) → is_line a ≡ true → is_line b ≡ true → is_line (a ++ 32 ∷ b) ≡ true
line_and a b h k =
    let own : IsLine a = is_line_parts a h in
    ap is_line (sym (append_assoc a (32 ∷ []) b))
    ∙ line_front (a ++ 32 ∷ []) b (some_append a (32 ∷ []) own.some) (lf_append a (32 ∷ []) own.no_lf refl) (ap is_blank (first_append a (32 ∷ []) own.some) ∙ own.first) k

-- ---- numbers

number_lf : (ds : List ℕ) → list_all is_number_byte ds ≡ true → has_none 10 ds ≡ true
number_lf [] h = refl
number_lf (d ∷ ds) h =
    let both = and_parts (is_number_byte d) (list_all is_number_byte ds) h in
    let range = number_range d both.0 in
    let other : (d == 10) ≡ false = ne_eqb d 10 (λ e. absurd (omega (arith, range))) in
    rw other (number_lf ds both.1)

pub number_line : (ds : List ℕ) → list_all is_number_byte ds ≡ true → 0 < length ds → is_line ds ≡ true
number_line ds h some =
    let each : All (λ b. is_number_byte b ≡ true) ds = all_of is_number_byte ds h in
    let first = number_range (slice_index ds 0) (each 0 0 some) in
    let last = number_range (last_byte ds) (each (length ds - 1) 0 (omega arith)) in
    line_of_parts ds (record {
      some = nonempty ds some;
      no_lf = number_lf ds h;
      first = above (slice_index ds 0) first;
      last = above (last_byte ds) last;
      no_cr = ne_eqb (last_byte ds) 13 (λ e. absurd (omega (arith, last, e)));
    })
  where
    nonempty : (l : List ℕ) → 0 < length l → is_empty l ≡ false
    nonempty [] some = absurd (omega arith)
    nonempty (b ∷ bs) some = refl

    above : (b : ℕ) → (44 < b) × (b < 58) → is_blank b ≡ false
    above b range =
        let blank : (b == 32) ≡ false = ne_eqb b 32 (λ e. absurd (omega (arith, range, e))) in
        let tab : (b == 9) ≡ false = ne_eqb b 9 (λ e. absurd (omega (arith, range, e))) in
        rw (blank, tab) refl

decimal_line : (n : ℕ) → n < 2 ^ 64 → is_line (decimal n) ≡ true
decimal_line n small = number_line (decimal n) (decimal_bytes n small) (decimal_some n small)

-- ---- declarations

rep_is_line : (k : Option Kind) → is_line (rep_text k) ≡ true
unfolding is_line
rep_is_line None = refl
rep_is_line (Some kind.Bool) = refl
rep_is_line (Some kind.Int) = refl
rep_is_line (Some kind.Hash) = refl
rep_is_line (Some kind.Str) = refl
rep_is_line (Some kind.BoolSeq) = refl
rep_is_line (Some kind.IntSeq) = refl
rep_is_line (Some kind.HashSeq) = refl
rep_is_line (Some kind.StrSeq) = refl

closing_is_line : is_line (93 ∷ []) ≡ true
unfolding is_line
closing_is_line = refl

abbrev pub AreLines : List (List ℕ) → Type 0
AreLines ls = list_all is_line ls ≡ true

lines_append : (xs ys : List (List ℕ)) → AreLines xs → AreLines ys → AreLines (xs ++ ys)
lines_append xs ys h k = list_all-append is_line xs ys ∙ rw (h, k) refl

lines_cons : (x : List ℕ) (xs : List (List ℕ)) → is_line x ≡ true → AreLines xs → AreLines (x ∷ xs)
lines_cons x xs h k = rw (h, k) refl

edge_is_line : (e : EdgeDecl) → is_told_edge e ≡ true → e.id < 2 ^ 32 → is_line (edge_line e) ≡ true
edge_is_line e h small =
    line_front (codes "parent parent ") (escaped e.parent ++ 32 ∷ decimal e.id) refl refl refl
    (line_and (escaped e.parent) (decimal e.id) (word_is_line (escaped e.parent) h) (decimal_line e.id (omega arith)))

edges_are_lines : (es : List EdgeDecl) → list_all is_told_edge es ≡ true → All (λ e. e.id < 2 ^ 32) es → AreLines (map edge_line es)
edges_are_lines [] h ids = refl
edges_are_lines (e ∷ es) h ids =
    let both = and_parts (is_told_edge e) (list_all is_told_edge es) h in
    let Small : EdgeDecl → Type 0 = λ d. d.id < 2 ^ 32 in
    lines_cons (edge_line e) (map edge_line es) (edge_is_line e both.0 (All-head Small e es ids)) (edges_are_lines es both.1 (All-tail Small e es ids))

compar_is_line : (c : Compar) → IsTrue (fits_i64 c.elem) → IsTrue (fits_i64 c.index) → is_line (compar_line c) ≡ true
compar_is_line c elem index =
    let e : List ℕ = signed_decimal c.elem in
    let i : List ℕ = signed_decimal c.index in
    let e_line : is_line e ≡ true = number_line e (signed_bytes c.elem elem) (signed_some c.elem elem) in
    let i_line : is_line i ≡ true = number_line i (signed_bytes c.index index) (signed_some c.index index) in
    line_front (codes "comparability ") (e ++ 91 ∷ (i ++ 93 ∷ [])) refl refl refl
    (line_behind_line e (91 ∷ (i ++ 93 ∷ [])) e_line (line_front (91 ∷ []) (i ++ 93 ∷ []) refl refl refl (line_behind_line i (93 ∷ []) i_line closing_is_line)))

constants_are_lines : (v : VarDecl) → has_constant v.kind v.constant_line v.constant ≡ true → AreLines (constant_lines v)
constants_are_lines v h = go v.constant_line h
  where
    go : (there : Bool) → has_constant v.kind there v.constant ≡ true
        → AreLines (if there then (codes "constant " ++ spelling (unwrap_or v.constant value.Missing)) ∷ [] else [])
    go false h = refl
    go true h =
        lines_cons (codes "constant " ++ spelling (unwrap_or v.constant value.Missing)) []
        (line_front (codes "constant ") (spelling (unwrap_or v.constant value.Missing)) refl refl refl (constant_line_told v.kind v.constant h)) refl

counterparts_are_lines : (es : List EdgeDecl) (ps : List ParentVar) → list_all is_told_edge es ≡ true → All (λ e. e.id < 2 ^ 32) es → list_all (is_told_counterpart es) ps ≡ true
    → AreLines (flat_map (counterpart_lines es) ps)
counterparts_are_lines es [] told ids h = refl
counterparts_are_lines es (p ∷ ps) told ids h =
    let both = and_parts (is_told_counterpart es p) (list_all (is_told_counterpart es) ps) h in
    lines_append (counterpart_lines es p) (flat_map (counterpart_lines es) ps) (go (slice_get es p.edge) refl both.0) (counterparts_are_lines es ps told ids both.1)
  where
    go : (found : Option EdgeDecl) → slice_get es p.edge ≡ found → is_told_counterpart es p ≡ true → AreLines (option_map_or (λ e. counterpart_line p.name e ∷ []) found [])
    go None at h = refl
    go (Some e) at h =
        let word = (and_parts (not (is_none (slice_get es p.edge))) (is_word (escaped p.name)) h).1 in
        let point = word_is_line (escaped e.parent) (from_at (λ d. is_told_edge d ≡ true) es p.edge e (all_of is_told_edge es told) at) in
        let small = from_at (λ d. d.id < 2 ^ 32) es p.edge e ids at in
        lines_cons (counterpart_line p.name e) []
        (line_front (codes "parent ") (escaped e.parent ++ 32 ∷ (decimal e.id ++ 32 ∷ escaped p.name)) refl refl refl
        (line_and (escaped e.parent) (decimal e.id ++ 32 ∷ escaped p.name) point
        (line_and (decimal e.id) (escaped p.name) (decimal_line e.id (omega arith)) (word_is_line (escaped p.name) word)))) refl

vars_are_lines : (es : List EdgeDecl) (vs : List VarDecl) → list_all is_told_edge es ≡ true → All (λ e. e.id < 2 ^ 32) es → list_all (is_told_var es) vs ≡ true → All IsVarWithin vs
    → AreLines (flat_map (var_lines es) vs)
vars_are_lines es [] told ids h within = refl
vars_are_lines es (v ∷ vs) told ids h within =
    let both = and_parts (is_told_var es v) (list_all (is_told_var es) vs) h in
    let named = and_parts (is_line (escaped v.name)) (has_constant v.kind v.constant_line v.constant && list_all (is_told_counterpart es) v.parents) both.0 in
    let rest = and_parts (has_constant v.kind v.constant_line v.constant) (list_all (is_told_counterpart es) v.parents) named.1 in
    let own : IsVarWithin v = All-head IsVarWithin v vs within in
    let behind : List (List ℕ) = constant_lines v ++ flat_map (counterpart_lines es) v.parents in
    lines_append (var_lines es v) (flat_map (var_lines es) vs)
    (lines_cons (variable_line v.name) (rep_line v.kind ∷ compar_line v.compar ∷ behind) (line_front (codes "variable ") (escaped v.name) refl refl refl named.0)
    (lines_cons (rep_line v.kind) (compar_line v.compar ∷ behind) (line_front (codes "rep-type ") (rep_text v.kind) refl refl refl (rep_is_line v.kind))
    (lines_cons (compar_line v.compar) behind (compar_is_line v.compar own.elem own.index)
    (lines_append (constant_lines v) (flat_map (counterpart_lines es) v.parents) (constants_are_lines v rest.0) (counterparts_are_lines es v.parents told ids rest.1)))))
    (vars_are_lines es vs told ids both.1 (All-tail IsVarWithin v vs within))

-- the parts of a declaration that its lines tell
pub record Told (d : PointDecl) : Type 0 where
  pub name : is_line (escaped d.name) ≡ true
  pub edges : list_all is_told_edge d.edges ≡ true
  pub vars : list_all (is_told_var d.edges) d.vars ≡ true

pub told_of : (d : PointDecl) → can_declare d ≡ true → Told d
unfolding can_declare
told_of d can =
    let edges_can : Bool = none_twice is_known_edge [] d.edges && list_all is_told_edge d.edges in
    let vars_can : Bool = none_twice is_known_var [] d.vars && list_all (is_told_var d.edges) d.vars in
    let named = and_parts (is_line (escaped d.name)) (edges_can && vars_can) can in
    let both = and_parts edges_can vars_can named.1 in
    record {
      name = named.0;
      edges = (and_parts (none_twice is_known_edge [] d.edges) (list_all is_told_edge d.edges) both.0).1;
      vars = (and_parts (none_twice is_known_var [] d.vars) (list_all (is_told_var d.edges) d.vars) both.1).1;
    }

pub declaration_is_lines : (d : PointDecl) → can_declare d ≡ true → IsWithin d → AreLines (declaration_lines d)
declaration_is_lines d can within =
    let told : Told d = told_of d can in
    lines_cons (point_line d.name) (map edge_line d.edges ++ flat_map (var_lines d.edges) d.vars) (line_front (codes "ppt ") (escaped d.name) refl refl refl told.name)
    (lines_append (map edge_line d.edges) (flat_map (var_lines d.edges) d.vars) (edges_are_lines d.edges told.edges within.edges)
    (vars_are_lines d.edges d.vars told.edges within.edges told.vars within.vars))

-- ---- records

nonce_is_line : is_line (codes "this_invocation_nonce") ≡ true
unfolding is_line
nonce_is_line = refl

mark_is_line : (x : Value) → is_line (mark_text x) ≡ true
unfolding is_line
mark_is_line x = go (is_missing x)
  where
    go : (b : Bool) → is_line (if b then codes "2" else codes "1") ≡ true
    go true = refl
    go false = refl

value_is_line : (k : Option Kind) (x : Value) → is_value_of k x ≡ true → is_line (value_text x) ≡ true
value_is_line None x h = h
value_is_line (Some k) x h = (and_parts (is_of_kind k x) (is_line (value_text x)) h).1

told_are_lines : (es : List EdgeDecl) (vs : List VarDecl) (xs : List Value) → list_all (is_told_var es) vs ≡ true → list_all is_told_value (zip vs xs) ≡ true
    → AreLines (flat_map told_lines (zip vs xs))
told_are_lines es [] xs told h = refl
told_are_lines es (v ∷ vs) [] told h = refl
told_are_lines es (v ∷ vs) (x ∷ xs) told h =
    let here = and_parts (is_told_var es v) (list_all (is_told_var es) vs) told in
    let name = (and_parts (is_line (escaped v.name)) (has_constant v.kind v.constant_line v.constant && list_all (is_told_counterpart es) v.parents) here.0).0 in
    let both = and_parts (is_told_value (v, x)) (list_all is_told_value (zip vs xs)) h in
    lines_append (told_lines (v, x)) (flat_map told_lines (zip vs xs)) (go v.constant_line name both.0) (told_are_lines es vs xs here.1 both.1)
  where
    go : (there : Bool) → is_line (escaped v.name) ≡ true → (there || (not (is_nonce_name v) && is_value_of v.kind x)) ≡ true
        → AreLines (if there then [] else escaped v.name ∷ value_text x ∷ mark_text x ∷ [])
    go true name h = refl
    go false name h =
        let value = (and_parts (not (is_nonce_name v)) (is_value_of v.kind x) h).1 in
        lines_cons (escaped v.name) (value_text x ∷ mark_text x ∷ []) name
        (lines_cons (value_text x) (mark_text x ∷ []) (value_is_line v.kind x value) (lines_cons (mark_text x) [] (mark_is_line x) refl))

pub record_is_lines : (r : Recorded) → can_declare r.decl ≡ true → IfSome r.nonce (λ z. IsTrue (fits_i64 z)) → list_all is_told_value (zip r.decl.vars r.values) ≡ true
    → AreLines (record_lines r)
record_is_lines r can fits h =
    let told : Told r.decl = told_of r.decl can in
    let vars : List (List ℕ) = flat_map told_lines (zip r.decl.vars r.values) in
    lines_cons (escaped r.decl.name) (nonce_lines r.nonce ++ vars) told.name
    (lines_append (nonce_lines r.nonce) vars (go r.nonce fits) (told_are_lines r.decl.edges r.decl.vars r.values told.vars h))
  where
    go : (nonce : Option ℤ) → IfSome nonce (λ z. IsTrue (fits_i64 z)) → AreLines (nonce_lines nonce)
    go None fits = refl
    go (Some z) fits =
        lines_cons (codes "this_invocation_nonce") (signed_decimal z ∷ []) nonce_is_line
        (lines_cons (signed_decimal z) [] (number_line (signed_decimal z) (signed_bytes z fits) (signed_some z fits)) refl)

-- ---- lines that are read as they stand

has_no_lf : (l : List ℕ) → has_none 10 l ≡ true → HasNoLf l
has_no_lf [] h = All-nil (λ b. b ≢ 10)
has_no_lf (b ∷ bs) h =
    let both = and_parts (not (b == 10)) (has_none 10 bs) h in
    All-cons (λ c. c ≢ 10) b bs (eqb-false b 10 (not-true (b == 10) both.0)) (has_no_lf bs both.1)

no_blank : (b : ℕ) → is_blank b ≡ false → (b ≢ 32) × (b ≢ 9)
no_blank b h = (λ e. false≢true (sym h ∙ ap is_blank e), λ e. false≢true (sym h ∙ ap is_blank e))

tidy : (l : List ℕ) → is_line l ≡ true → IsTidy l
tidy l h =
    let own : IsLine l = is_line_parts l h in
    let first = no_blank (slice_index l 0) own.first in
    let last = no_blank (last_byte l) own.last in
    tidy_ends l (not_none l own.some) (has_no_lf l own.no_lf) first.0 first.1 last.0 last.1 (eqb-false (last_byte l) 13 own.no_cr)

pub all_tidy : (ls : List (List ℕ)) → AreLines ls → All IsTidy ls
all_tidy [] h = All-nil IsTidy
all_tidy (l ∷ ls) h =
    let both = and_parts (is_line l) (list_all is_line ls) h in
    All-cons IsTidy l ls (tidy l both.0) (all_tidy ls both.1)
