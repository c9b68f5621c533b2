-- Declarations are told by their lines.
use Rattle.std.specs.Prelude.{◌≡◌, ◌<◌, ◌^◌, ◌++◌, ◌∷◌, [], ℕ, ℤ, pos, negsuc, suc, Bool, true, false, not, All, IsTrue, List, Option, Some, None, codes, drop, flat_map, nat_eq, refl, unsigned_abs, if◌then◌else◌}
use Rattle.std.specs.Fmt.{decimal, signed_decimal}
use Rattle.std.specs.List.{list_all, starts_with}
use Rattle.std.specs.Str.{bytes_eq}
use Rattle.std.specs.Str.Parse.{AllDigits, digits_value}
use Rattle.std.proofs.Common.{◌∙◌, ap, append_assoc, append-nil, arith, subst, sym}
use Rattle.std.proofs.lemmas.Bool.{and_parts, false≢true, not-true}
use Rattle.std.proofs.lemmas.Fmt.{decimal_is_IsNumeral_wide}
use Rattle.std.proofs.lemmas.List.Elements.{All-head, All-tail}
use Rattle.std.proofs.lemmas.Str.Parse.{digit_from_value}
use Rattle.dk_base.proofs.ReadBack.{spelled_back}
use Rattle.dk_base.proofs.Spellings.{unescaped_of_escaped}
use Rattle.dk_base.specs.Names.{escaped, unescaped}
use Rattle.dk_base.specs.Numbers.{fits_i64}
use Rattle.dk_base.specs.Values.Spelling.{spelling}
use Rattle.dk_base.specs.Values.{value_of_text}
use Rattle.dk_base.specs.declared.kinds.Kind.{Kind}
use Rattle.dk_base.specs.declared.kinds.Kind.TheVariants as kind
use Rattle.dk_base.specs.declared.values.Value.{Value}
use Rattle.dk_base.specs.declared.values.Value.TheVariants as value
use Rattle.dk_decl.specs.declared.decls.PointDecl.{PointDecl}
use Rattle.dk_decl.specs.declared.decls.VarDecl.{VarDecl}
use Rattle.dk_state.specs.Declarations.{constant_decl_text, constant_line, edge_line, mapped_line, point_lines, var_decl_line, var_lines}
use Rattle.dk_state.specs.Fitting.{FitsConstant, FitsEdge, FitsMapped, FitsPoint, FitsVar, IsBehindVars}
use Rattle.dk_state.specs.Lines.{behind_blank, state_line}
use Rattle.dk_state.specs.Reading.{BeginsWith, HasNone, ends_field, ends_line}
use Rattle.dk_state.proofs.DeclaredLines.{no_constant, no_edge, rep_plain}
use Rattle.dk_state.proofs.Numerals.{number_plain}
use Rattle.dk_state.proofs.Onto.{fields_onto, line_onto}
use Rattle.dk_state.proofs.Plain.{name_plain, small_whole, value_plain}
use Rattle.dk_write.specs.Declarations.{rep_text}

-- ---- fields
in_front : (test : ℕ → Bool) (y : ℕ) (ys r : List ℕ) → HasNone test (y ∷ ys) → BeginsWith test r → (rest : List ℕ) → r ≡ y ∷ rest → ⊥
in_front test y ys r none begins rest e =
    let passes : test y ≡ true = subst (BeginsWith test) e begins in
    let other : test y ≡ false = not-true (test y) (and_parts (not (test y)) (list_all (λ b. not (test b)) ys) none).0 in
    false≢true (sym other ∙ passes)

-- bytes that don't pass the test, in front of one that does
pub field_told : (test : ℕ → Bool) (xs ys r s : List ℕ) → HasNone test xs → HasNone test ys → BeginsWith test r → BeginsWith test s → xs ++ r ≡ ys ++ s
    → (xs ≡ ys) × (r ≡ s)
field_told test [] [] r s h k a b e = (refl, e)
field_told test [] (y ∷ ys) r s h k a b e = absurd (in_front test y ys r k a (ys ++ s) e)
field_told test (x ∷ xs) [] r s h k a b e = absurd (in_front test x xs s h b (xs ++ r) (sym e))
field_told test (x ∷ xs) (y ∷ ys) r s h k a b e =
    let first : x ≡ y = cc e in
    let rest : xs ++ r ≡ ys ++ s = cc e in
    let later = field_told test xs ys r s (and_parts (not (test x)) (list_all (λ b. not (test b)) xs) h).1 (and_parts (not (test y)) (list_all (λ b. not (test b)) ys) k).1 a b rest in
    (λ i. first i ∷ later.0 i, later.1)

pub same_decimals : (m n : ℕ) → m < 2 ^ 127 → n < 2 ^ 127 → decimal m ≡ decimal n → m ≡ n
same_decimals m n p q e = sym (decimal_is_IsNumeral_wide m (omega arith)).1 ∙ ap (digits_value 10) e ∙ (decimal_is_IsNumeral_wide n (omega arith)).1

no_minus : (n : ℕ) (ds : List ℕ) → n < 2 ^ 127 → decimal n ≡ 45 ∷ ds → ⊥
no_minus n ds p e =
    let all : AllDigits 10 (45 ∷ ds) = subst (AllDigits 10) e (decimal_is_IsNumeral_wide n (omega arith)).0.1 in
    let range = digit_from_value 45 all.0 in
    omega (arith, range)

pub same_signed : (y z : ℤ) → unsigned_abs y < 2 ^ 127 → unsigned_abs z < 2 ^ 127 → signed_decimal y ≡ signed_decimal z → y ≡ z
same_signed (pos m) (pos n) p q e = ap pos (same_decimals m n p q e)
same_signed (pos m) (negsuc n) p q e = absurd (no_minus m (decimal (suc n)) p e)
same_signed (negsuc m) (pos n) p q e = absurd (no_minus n (decimal (suc m)) q (sym e))
same_signed (negsuc m) (negsuc n) p q e =
    let same : suc m ≡ suc n = same_decimals (suc m) (suc n) p q (ap (drop 1) e) in
    ap negsuc (omega (arith, same))

pub number_told : (m n : ℕ) (r s : List ℕ) → m < 2 ^ 127 → n < 2 ^ 127 → BeginsWith ends_field r → BeginsWith ends_field s → behind_blank (decimal m) ++ r ≡ behind_blank (decimal n) ++ s
    → (m ≡ n) × (r ≡ s)
number_told m n r s p q a b e =
    let same = field_told ends_field (decimal m) (decimal n) r s (number_plain (pos m) p) (number_plain (pos n) q) a b (ap (drop 1) e) in
    (same_decimals m n p q same.0, same.1)

integer_told : (y z : ℤ) (r s : List ℕ) → IsTrue (fits_i64 y) → IsTrue (fits_i64 z) → BeginsWith ends_field r → BeginsWith ends_field s
    → behind_blank (signed_decimal y) ++ r ≡ behind_blank (signed_decimal z) ++ s → (y ≡ z) × (r ≡ s)
integer_told y z r s p q a b e =
    let same = field_told ends_field (signed_decimal y) (signed_decimal z) r s (number_plain y (small_whole y p)) (number_plain z (small_whole z q)) a b (ap (drop 1) e) in
    (same_signed y z (small_whole y p) (small_whole z q) same.0, same.1)

name_told : (m n : List ℕ) (r s : List ℕ) → HasNone ends_line m → HasNone ends_line n → BeginsWith ends_field r → BeginsWith ends_field s
    → behind_blank (escaped m) ++ r ≡ behind_blank (escaped n) ++ s → (m ≡ n) × (r ≡ s)
name_told m n r s p q a b e =
    let same = field_told ends_field (escaped m) (escaped n) r s (name_plain m p) (name_plain n q) a b (ap (drop 1) e) in
    (sym (unescaped_of_escaped m) ∙ ap unescaped same.0 ∙ unescaped_of_escaped n, same.1)

-- the kind that a rep-type tells
kind_told : List ℕ → Option Kind
kind_told text =
    if bytes_eq text (rep_text (Some kind.Bool)) then Some kind.Bool
    else if bytes_eq text (rep_text (Some kind.Int)) then Some kind.Int
    else if bytes_eq text (rep_text (Some kind.Hash)) then Some kind.Hash
    else if bytes_eq text (rep_text (Some kind.Str)) then Some kind.Str
    else if bytes_eq text (rep_text (Some kind.BoolSeq)) then Some kind.BoolSeq
    else if bytes_eq text (rep_text (Some kind.IntSeq)) then Some kind.IntSeq
    else if bytes_eq text (rep_text (Some kind.HashSeq)) then Some kind.HashSeq
    else if bytes_eq text (rep_text (Some kind.StrSeq)) then Some kind.StrSeq
    else None

kind_back : (k : Option Kind) → kind_told (rep_text k) ≡ k
unfolding kind_told
kind_back None = refl
kind_back (Some kind.Bool) = refl
kind_back (Some kind.Int) = refl
kind_back (Some kind.Hash) = refl
kind_back (Some kind.Str) = refl
kind_back (Some kind.BoolSeq) = refl
kind_back (Some kind.IntSeq) = refl
kind_back (Some kind.HashSeq) = refl
kind_back (Some kind.StrSeq) = refl

rep_told : (j k : Option Kind) (r s : List ℕ) → BeginsWith ends_field r → BeginsWith ends_field s → behind_blank (rep_text j) ++ r ≡ behind_blank (rep_text k) ++ s
    → (j ≡ k) × (r ≡ s)
rep_told j k r s a b e =
    let same = field_told ends_field (rep_text j) (rep_text k) r s (rep_plain j) (rep_plain k) a b (ap (drop 1) e) in
    (sym (kind_back j) ∙ ap kind_told same.0 ∙ kind_back k, same.1)

-- ---- entries one after another
-- An entry that fits is told by its text, where both texts go on as they may.
abbrev pub Tells : {T : Type 0} (text : T → List ℕ) (fits : T → Type 0) (follows : List ℕ → Type 0) → Type 0
Tells {T} text fits follows = (x y : T) (r s : List ℕ) → fits x → fits y → follows r → follows s → text x ++ r ≡ text y ++ s → (x ≡ y) × (r ≡ s)

module _ {T : Type 0} (text : T → List ℕ) (fits : T → Type 0) (begins : List ℕ → Bool) (follows : List ℕ → Type 0)
    (first : (x : T) (rest : List ℕ) → fits x → begins (text x ++ rest) ≡ true) (follow : (x : T) (rest : List ℕ) → fits x → follows (text x ++ rest))
    (tells : Tells text fits follows) where
  behind : (ys : List T) (rest : List ℕ) → All fits ys → follows rest → follows (flat_map text ys ++ rest)
  behind [] rest all last = last
  behind (y ∷ ys) rest all last = subst follows (sym (append_assoc (text y) (flat_map text ys) rest)) (follow y (flat_map text ys ++ rest) (All-head fits y ys all))

  another : (y : T) (ys : List T) (r s : List ℕ) → All fits (y ∷ ys) → begins r ≡ false → r ≡ flat_map text (y ∷ ys) ++ s → ⊥
  another y ys r s all ended e =
      false≢true (sym ended ∙ ap begins (e ∙ append_assoc (text y) (flat_map text ys) s) ∙ first y (flat_map text ys ++ s) (All-head fits y ys all))

  pub all_told : (xs ys : List T) (r s : List ℕ) → All fits xs → All fits ys → begins r ≡ false → begins s ≡ false → follows r → follows s
      → flat_map text xs ++ r ≡ flat_map text ys ++ s → (xs ≡ ys) × (r ≡ s)
  all_told [] [] r s h k a b f g e = (refl, e)
  all_told [] (y ∷ ys) r s h k a b f g e = absurd (another y ys r s k a e)
  all_told (x ∷ xs) [] r s h k a b f g e = absurd (another x xs s r h b (sym e))
  all_told (x ∷ xs) (y ∷ ys) r s h k a b f g e =
      let of_xs = All-tail fits x xs h in
      let of_ys = All-tail fits y ys k in
      let same = tells x y (flat_map text xs ++ r) (flat_map text ys ++ s) (All-head fits x xs h) (All-head fits y ys k) (behind xs r of_xs f) (behind ys s of_ys g)
      (sym (append_assoc (text x) (flat_map text xs) r) ∙ e ∙ append_assoc (text y) (flat_map text ys) s) in
      let later = all_told xs ys r s of_xs of_ys a b f g same.1 in
      (λ i. same.0 i ∷ later.0 i, later.1)

-- ---- edges and counterparts
edge_told : Tells edge_line FitsEdge (λ _. Unit {0})
edge_told x y r s h k _ _ e =
    let fields = ap (drop 4) (sym (line_onto (codes "edge") (decimal x.id ∷ escaped x.parent ∷ []) r) ∙ e ∙ line_onto (codes "edge") (decimal y.id ∷ escaped y.parent ∷ []) s) in
    let id = number_told x.id y.id (behind_blank (escaped x.parent) ++ 10 ∷ r) (behind_blank (escaped y.parent) ++ 10 ∷ s) (omega (arith, h.id)) (omega (arith, k.id)) refl refl fields in
    let parent = name_told x.parent y.parent (10 ∷ r) (10 ∷ s) h.parent k.parent refl refl id.1 in
    (λ i. record { parent = parent.0 i; id = id.0 i }, ap (drop 1) parent.1)

mapped_told : Tells mapped_line FitsMapped (λ _. Unit {0})
mapped_told x y r s h k _ _ e =
    let fields = ap (drop 6) (sym (line_onto (codes "mapped") (decimal x.edge ∷ escaped x.name ∷ []) r) ∙ e ∙ line_onto (codes "mapped") (decimal y.edge ∷ escaped y.name ∷ []) s) in
    let edge = number_told x.edge y.edge (behind_blank (escaped x.name) ++ 10 ∷ r) (behind_blank (escaped y.name) ++ 10 ∷ s) (omega (arith, h.edge)) (omega (arith, k.edge)) refl refl fields in
    let name = name_told x.name y.name (10 ∷ r) (10 ∷ s) h.name k.name refl refl edge.1 in
    (λ i. record { edge = edge.0 i; name = name.0 i }, ap (drop 1) name.1)

-- ---- variables
-- a constant's line
constant_onto : (x : Value) (r : List ℕ) → constant_decl_text true (Some x) ++ r ≡ codes "constant" ++ (behind_blank (spelling x) ++ 10 ∷ r)
constant_onto x r = line_onto (codes "constant") (spelling x ∷ []) r

opaque_onto : (r : List ℕ) → constant_decl_text true None ++ r ≡ codes "constant" ++ (behind_blank (spelling value.Missing) ++ 10 ∷ r)
opaque_onto r = line_onto (codes "constant") (spelling value.Missing ∷ []) r

comes : (x : Option Value) (r s : List ℕ) → starts_with nat_eq s (codes "constant ") ≡ false → constant_decl_text true x ++ r ≡ s → ⊥
comes x r s none e = false≢true (sym none ∙ sym (ap (λ l. starts_with nat_eq l (codes "constant ")) e))

constant_told : (there also : Bool) (k : Option Kind) (x y : Option Value) (r s : List ℕ) → FitsConstant there k x → FitsConstant also k y
    → starts_with nat_eq r (codes "constant ") ≡ false → starts_with nat_eq s (codes "constant ") ≡ false
    → constant_decl_text there x ++ r ≡ constant_decl_text also y ++ s → (there ≡ also) × (x ≡ y) × (r ≡ s)
constant_told false false k None None r s h g a b e = (refl, refl, e)
constant_told false false None (Some x) y r s h g a b e = absurd h
constant_told false false (Some k) (Some x) y r s h g a b e = absurd h
constant_told false false None None (Some y) r s h g a b e = absurd g
constant_told false false (Some k) None (Some y) r s h g a b e = absurd g
constant_told true false k x y r s h g a b e = absurd (comes x r s b e)
constant_told false true k x y r s h g a b e = absurd (comes y s r a (sym e))
constant_told true true None None None r s h g a b e =
    let line = ap (drop 9) (sym (opaque_onto r) ∙ e ∙ opaque_onto s) in
    let same = field_told ends_line (spelling value.Missing) (spelling value.Missing) (10 ∷ r) (10 ∷ s) refl refl refl refl line in
    (refl, refl, ap (drop 1) same.1)
constant_told true true None (Some x) y r s h g a b e = absurd h
constant_told true true None None (Some y) r s h g a b e = absurd g
constant_told true true (Some k) None y r s h g a b e = absurd h
constant_told true true (Some k) (Some x) None r s h g a b e = absurd g
constant_told true true (Some k) (Some x) (Some y) r s h g a b e =
    let line = ap (drop 9) (sym (constant_onto x r) ∙ e ∙ constant_onto y s) in
    let same = field_told ends_line (spelling x) (spelling y) (10 ∷ r) (10 ∷ s) (value_plain x h.1) (value_plain y g.1) refl refl line in
    (refl, sym (spelled_back k x h.0 h.1) ∙ ap (value_of_text k) same.0 ∙ spelled_back k y g.0 g.1, ap (drop 1) same.1)

-- what stands behind a variable's own line
abbrev of_var : VarDecl → List ℕ
of_var v = constant_line v ++ flat_map mapped_line v.parents

var_onto : (v : VarDecl) (r : List ℕ) → var_lines v ++ r
    ≡ codes "var" ++ fields_onto (rep_text v.kind ∷ signed_decimal v.compar.elem ∷ signed_decimal v.compar.index ∷ escaped v.name ∷ [])
    (10 ∷ constant_line v ++ (flat_map mapped_line v.parents ++ r))
var_onto v r =
    append_assoc (var_decl_line v) (of_var v) r
    ∙ ap (λ l. var_decl_line v ++ l) (append_assoc (constant_line v) (flat_map mapped_line v.parents) r)
    ∙ line_onto (codes "var") (rep_text v.kind ∷ signed_decimal v.compar.elem ∷ signed_decimal v.compar.index ∷ escaped v.name ∷ []) (constant_line v ++ (flat_map mapped_line v.parents ++ r))

var_told : Tells var_lines FitsVar IsBehindVars
var_told v w r s h k f g e =
    let more = λ (x : VarDecl) (l : List ℕ). constant_line x ++ (flat_map mapped_line x.parents ++ l) in
    let fields = ap (drop 3) (sym (var_onto v r) ∙ e ∙ var_onto w s) in
    let kinds = rep_told v.kind w.kind (fields_onto (signed_decimal v.compar.elem ∷ signed_decimal v.compar.index ∷ escaped v.name ∷ []) (10 ∷ more v r))
    (fields_onto (signed_decimal w.compar.elem ∷ signed_decimal w.compar.index ∷ escaped w.name ∷ []) (10 ∷ more w s)) refl refl fields in
    let elems = integer_told v.compar.elem w.compar.elem (fields_onto (signed_decimal v.compar.index ∷ escaped v.name ∷ []) (10 ∷ more v r))
    (fields_onto (signed_decimal w.compar.index ∷ escaped w.name ∷ []) (10 ∷ more w s)) h.elem k.elem refl refl kinds.1 in
    let indexes = integer_told v.compar.index w.compar.index (fields_onto (escaped v.name ∷ []) (10 ∷ more v r)) (fields_onto (escaped w.name ∷ []) (10 ∷ more w s))
    h.index k.index refl refl elems.1 in
    let names = name_told v.name w.name (10 ∷ more v r) (10 ∷ more w s) h.name k.name refl refl indexes.1 in
    let fits : FitsConstant w.constant_line v.kind w.constant = subst (λ o. FitsConstant w.constant_line o w.constant) (sym kinds.0) k.constant in
    let constants = constant_told v.constant_line w.constant_line v.kind v.constant w.constant (flat_map mapped_line v.parents ++ r) (flat_map mapped_line w.parents ++ s) h.constant fits
    (no_constant v.parents r f.0) (no_constant w.parents s g.0) (ap (drop 1) names.1) in
    let parents = all_told mapped_line FitsMapped (λ l. starts_with nat_eq l (codes "mapped ")) (λ _. Unit {0}) (λ x rest _. refl) (λ x rest _. tt) mapped_told
    v.parents w.parents r s h.parents k.parents f.1 g.1 tt tt constants.2 in (
      λ i. record {
        name = names.0 i;
        kind = kinds.0 i;
        compar = record { elem = elems.0 i; index = indexes.0 i };
        constant = constants.1 i;
        constant_line = constants.0 i;
        parents = parents.0 i;
      },
      parents.1,
    )

-- ---- points
abbrev behind_vars : List ℕ → List ℕ
behind_vars r = 101 ∷ 110 ∷ 100 ∷ 10 ∷ r

point_onto : (d : PointDecl) (r : List ℕ) → point_lines d ++ r
    ≡ codes "point" ++ fields_onto (escaped d.name ∷ []) (10 ∷ flat_map edge_line d.edges ++ (flat_map var_lines d.vars ++ behind_vars r))
point_onto d r =
    let edges = flat_map edge_line d.edges in
    let vars = flat_map var_lines d.vars in
    let own = state_line "point" (escaped d.name ∷ []) in
    append_assoc own (edges ++ (vars ++ state_line "end" [])) r
    ∙ ap (λ l. own ++ l) (append_assoc edges (vars ++ state_line "end" []) r ∙ ap (λ l. edges ++ l) (append_assoc vars (state_line "end" []) r))
    ∙ line_onto (codes "point") (escaped d.name ∷ []) (edges ++ (vars ++ behind_vars r))

pub point_told : Tells point_lines FitsPoint (λ _. Unit {0})
point_told d c r s h k _ _ e =
    let more = λ (x : PointDecl) (l : List ℕ). flat_map edge_line x.edges ++ (flat_map var_lines x.vars ++ behind_vars l) in
    let fields = ap (drop 5) (sym (point_onto d r) ∙ e ∙ point_onto c s) in
    let names = name_told d.name c.name (10 ∷ more d r) (10 ∷ more c s) h.name k.name refl refl fields in
    let edges = all_told edge_line FitsEdge (λ l. starts_with nat_eq l (codes "edge ")) (λ _. Unit {0}) (λ x rest _. refl) (λ x rest _. tt) edge_told
    d.edges c.edges (flat_map var_lines d.vars ++ behind_vars r) (flat_map var_lines c.vars ++ behind_vars s) h.edges k.edges (no_edge d.vars r) (no_edge c.vars s) tt tt (ap (drop 1) names.1) in
    let vars = all_told var_lines FitsVar (λ l. starts_with nat_eq l (codes "var ")) IsBehindVars (λ x rest _. refl) (λ x rest _. (refl, refl)) var_told
    d.vars c.vars (behind_vars r) (behind_vars s) h.vars k.vars refl refl (refl, refl) (refl, refl) edges.1 in
    (λ i. record { name = names.0 i; edges = edges.0 i; vars = vars.0 i }, ap (drop 4) vars.1)

pub points_are_told : (ds es : List PointDecl) → All FitsPoint ds → All FitsPoint es → flat_map point_lines ds ≡ flat_map point_lines es → ds ≡ es
points_are_told ds es h k e =
    (all_told point_lines FitsPoint (λ l. starts_with nat_eq l (codes "point ")) (λ _. Unit {0}) (λ x rest _. refl) (λ x rest _. tt) point_told
    ds es [] [] h k refl refl tt tt (append-nil (flat_map point_lines ds) ∙ e ∙ sym (append-nil (flat_map point_lines es)))).0
