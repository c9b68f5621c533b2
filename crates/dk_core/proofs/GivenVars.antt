-- The variables that the lines of a block declare.
use Rattle.std.proofs.Common.{◌≡◌, ◌∙◌, ◌<◌, ◌^◌, ◌&&◌, ◌||◌, ◌==◌, ◌++◌, ℕ, ℤ, Bool, true, false, not, List, [], ◌∷◌, All, is_some, length, map, nat_lt, Option, Some, None, IfSome, Ok, refl, sym, ap, subst, arith, if◌then◌else◌, take, unwrap_or, ◌-◌, negsuc}
use Rattle.std.specs.List.{list_all, position}
use Rattle.std.specs.Option.{option_map_or}
use Rattle.std.specs.Str.{bytes_eq}
use Rattle.std.specs.Prelude.{IsTrue, codes, option_and_then, option_map, slice_index}
use Rattle.std.proofs.lemmas.List.Elements.{All-append, All-cons, All-head, All-nil, All-push, All-tail}
use Rattle.std.proofs.lemmas.List.Folds.{list_all-append}
use Rattle.std.proofs.lemmas.List.Quantifiers.{position-Some}
use Rattle.std.proofs.lemmas.Slice.Eq.{bytes_eq-Decides}
use Rattle.dk_base.proofs.Written.{read_is_written}
use Rattle.dk_base.specs.Names.{unescaped}
use Rattle.dk_base.specs.Numbers.{fits_i64, integer_of, whole_of}
use Rattle.dk_base.specs.Pieces.{is_empty}
use Rattle.dk_base.specs.Reading.{Line, ◌>>=◌}
use Rattle.dk_base.specs.Values.{value_of_text}
use Rattle.dk_base.specs.Words.{first_word, rest_of_line, words}
use Rattle.dk_base.specs.declared.kinds.Compar.{Compar}
use Rattle.dk_base.specs.declared.kinds.Kind.{Kind}
use Rattle.dk_base.specs.declared.values.Value.{Value}
use Rattle.dk_base.specs.declared.why.Why.TheVariants.{BadVariable}
use Rattle.dk_decl.proofs.LastLines.{bind_ok}
use Rattle.dk_decl.specs.Brackets.{bracket_parts, compar_of, first_index, index_number, index_of, is_index, no_compar, numbers_of, with_numbers}
use Rattle.dk_decl.specs.DeclareBlock.{comparability, constant_text, old_form_var, from_name, new_name as new_name_of, represented, representation}
use Rattle.dk_decl.specs.Heads.{id_of, is_edge as same_edge}
use Rattle.dk_decl.specs.LineWords.{begins, each_line, operand, operands}
use Rattle.dk_decl.specs.Outcomes.{or_refused, refused}
use Rattle.dk_decl.specs.PptBlock.{has_ended, vars_after, with_var}
use Rattle.dk_decl.specs.Types.{constant_at, constant_of, is_missing, known, rep_kind, rep_type_of}
use Rattle.dk_decl.specs.VarNames.{has_name}
use Rattle.dk_decl.specs.Variables.{at_edge, counterparts, new_var, open_var, var_decl_of, var_line, var_with, with_counterparts}
use Rattle.dk_decl.specs.declared.decls.EdgeDecl.{EdgeDecl}
use Rattle.dk_decl.specs.declared.decls.ParentVar.{ParentVar}
use Rattle.dk_decl.specs.declared.decls.VarDecl.{VarDecl}
use Rattle.dk_decl.specs.declared.declare.Represented.{Represented}
use Rattle.dk_decl.specs.declared.types.Placed.{Placed}
use Rattle.dk_decl.specs.declared.types.RepType.{RepType}
use Rattle.dk_decl.specs.declared.types.RepType.TheVariants.{Of, Opaque}
use Rattle.dk_decl.specs.declared.variables.OpenVar.{OpenVar}
use Rattle.dk_state.specs.Fitting.{FitsConstant, FitsMapped, FitsVar}
use Rattle.dk_state.specs.Given.{all_new, is_given_constant, is_given_counterpart, is_given_var}
use Rattle.dk_core.proofs.GivenEdges.{HasNoLf, all_new_push, new_name, or_none_left, or_none_right}
use Rattle.dk_core.proofs.Spelled.{IsSpelled, IsWord, are_words, both, is_name_spelled, none_rest, spelled_rest, spelled_undone, spelled_word, unescaped_none}
use Rattle.dk_core.proofs.Short.{IsShort, IsShortLine, rest_few, text_short}
use Rattle.dk_core.proofs.ShortRecords.{HasShortConstant}
use Rattle.dk_trace.specs.Values.{known_values}
use Rattle.dk_write.specs.Names.{has_none}

-- ---- constants
-- a constant that is read can be told again, and is short
abbrev IsTold : Bool → Option Kind → Option Value → Type 0
IsTold there kind constant = (is_given_constant there kind constant ≡ true) × FitsConstant there kind constant × All IsShort (known_values constant)

-- a text of a constant that isn't long
abbrev IsShortText : Option Placed → Type 0
IsShortText o = IfSome o (λ p. length p.text < 2 ^ 63)

constant_told : (rep : RepType) (o : Option Placed) (c : Option Value) → IsShortText o → constant_at rep o ≡ Ok c → IsTold (is_some o) (rep_kind rep) c
unfolding constant_at constant_of
constant_told rep None c few e = let is : None ≡ c = cc e in subst (IsTold false (rep_kind rep)) is (refl, tt, All-nil IsShort)
constant_told Opaque (Some p) c few e = let is : None ≡ c = cc e in subst (IsTold true None) is (refl, tt, All-nil IsShort)
constant_told (Of k) (Some p) c few e = by (value_of_text k p.text) refl e
  where
    there : (v : Value) → value_of_text k p.text ≡ Some v → (b : Bool) → is_missing v ≡ b → (if b then refused BadVariable p.line else Ok (Some v)) ≡ Ok c → IsTold true (Some k) c
    there v is true missing e = absurd (cc e)
    there v is false missing e = let same : Some v ≡ c = cc e in
        subst (IsTold true (Some k)) same (ap not missing, read_is_written k p.text v is, All-cons IsShort v [] (text_short k p.text v few is) (All-nil IsShort))

    by : (o : Option Value) → value_of_text k p.text ≡ o → known p.line o ≡ Ok c → IsTold true (Some k) c
    by None is e = absurd (cc e)
    by (Some v) is e = there v is (is_missing v) refl e

-- ---- comparabilities
record IsCompar (c : Compar) : Type 0 where
  elem : IsTrue (fits_i64 c.elem)
  index : IsTrue (fits_i64 c.index)

no_compar_is : IsCompar no_compar
no_compar_is = record { elem = refl; index = refl }

integer_fits : (text : List ℕ) (z : ℤ) → integer_of text ≡ Some z → fits_i64 z ≡ true
unfolding integer_of
integer_fits text z e = by (whole_of text) e
  where
    at : (y : ℤ) (b : Bool) → fits_i64 y ≡ b → (if b then Some y else None) ≡ Some z → fits_i64 z ≡ true
    at y true is e = let same : y ≡ z = cc e in subst (λ x. fits_i64 x ≡ true) same is
    at y false is e = absurd (cc e)

    by : (o : Option ℤ) → option_and_then (λ y. if fits_i64 y then Some y else None) o ≡ Some z → fits_i64 z ≡ true
    by None e = absurd (cc e)
    by (Some y) e = at y (fits_i64 y) refl e

index_fits : (part : List ℕ) (z : ℤ) → index_of part ≡ Some z → fits_i64 z ≡ true
unfolding index_of
index_fits part z e = by (nat_lt 0 (length part) && slice_index part (length part - 1) == 93) e
  where
    by : (b : Bool) → (if b then integer_of (take (length part - 1) part) else None) ≡ Some z → fits_i64 z ≡ true
    by true e = integer_fits _ z e
    by false e = absurd (cc e)

first_fits : (brackets : List (List ℕ)) → fits_i64 (first_index brackets) ≡ true
first_fits [] = refl
first_fits (part ∷ more) = by (index_of part) refl
  where
    by : (o : Option ℤ) → index_of part ≡ o → fits_i64 (unwrap_or o (negsuc 0)) ≡ true
    by None is = refl
    by (Some z) is = index_fits part z is

compar_fits : (text : List ℕ) (c : Compar) → compar_of text ≡ Some c → IsCompar c
unfolding compar_of numbers_of index_number
compar_fits text c e = by (bracket_parts text) e
  where
    at : (elem : ℤ) → fits_i64 elem ≡ true → (brackets : List (List ℕ)) (b : Bool) → with_numbers (Some elem) (if b then Some (first_index brackets) else None) ≡ Some c → IsCompar c
    at elem fits brackets true e = let same : record { elem = elem; index = first_index brackets } ≡ c = cc e in subst IsCompar same (record { elem = fits; index = first_fits brackets })
    at elem fits brackets false e = absurd (cc e)

    front : (o : Option ℤ) (f : List ℕ) → integer_of f ≡ o → (brackets : List (List ℕ)) → with_numbers o (if list_all is_index brackets then Some (first_index brackets) else None) ≡ Some c → IsCompar c
    front None f is brackets e = absurd (cc e)
    front (Some elem) f is brackets e = at elem (integer_fits f elem is) brackets (list_all is_index brackets) e

    by : (ps : List (List ℕ)) → numbers_of ps ≡ Some c → IsCompar c
    by [] e = absurd (cc e)
    by (f ∷ brackets) e = front (integer_of f) f refl brackets e

or_refused_some : {A : Type 0} (line : ℕ) (o : Option A) (x : A) → or_refused BadVariable line o ≡ Ok x → o ≡ Some x
or_refused_some line None x e = absurd (cc e)
or_refused_some line (Some y) x e = cc e

-- ---- counterparts
record AreMapped (own : List ℕ) (n : ℕ) (ps : List ParentVar) : Type 0 where
  each : list_all (is_given_counterpart own n) ps ≡ true
  fits : All FitsMapped ps

none_mapped : (own : List ℕ) (n : ℕ) → AreMapped own n []
none_mapped own n = record { each = refl; fits = All-nil FitsMapped }

more_mapped : (own : List ℕ) (n : ℕ) (ps more : List ParentVar) → AreMapped own n ps → AreMapped own n more → AreMapped own n (ps ++ more)
more_mapped own n ps more old new = record { each = list_all-append (is_given_counterpart own n) ps more ∙ both _ _ old.each new.each; fits = All-append FitsMapped ps more old.fits new.fits }

same_bytes : (bs : List ℕ) → bytes_eq bs bs ≡ true
same_bytes bs = (bytes_eq-Decides bs bs).1 refl

or_left : (a b : Bool) → a ≡ true → (a || b) ≡ true
or_left true b h = refl
or_left false b h = absurd (cc h)

or_right : (a b : Bool) → b ≡ true → (a || b) ≡ true
or_right true b h = refl
or_right false b h = h

mapped_at : (es : List EdgeDecl) (own parent name : List ℕ) (id : ℕ) → length es < 2 ^ 64 → IsSpelled name → (has_none 9 name || bytes_eq name own) ≡ true
    → AreMapped own (length es) (at_edge es parent name id)
mapped_at es own parent name id few spelled told = by (position (same_edge parent id) es) refl
  where
    by : (o : Option ℕ) → position (same_edge parent id) es ≡ o → AreMapped own (length es) (option_map_or (λ k. record { edge = k; name = name } ∷ []) o [])
    by None is = none_mapped own (length es)
    by (Some k) is =
        let within : k < length es = (position-Some (same_edge parent id) es k (record { parent = []; id = 0 }) is).0 in
        record {
          each = both _ _ (both _ _ (grind (arith, within)) (both _ _ (is_name_spelled name spelled) told)) refl;
          fits = All-cons FitsMapped (record { edge = k; name = name }) [] (record { edge = omega (arith, within, few); name = spelled.none }) (All-nil FitsMapped);
        }

counterparts_given : (es : List EdgeDecl) (own : List ℕ) (ws : List (List ℕ)) (ps : List ParentVar) → length es < 2 ^ 64 → IsSpelled own → All IsWord ws → counterparts es own ws ≡ Some ps
    → AreMapped own (length es) ps
unfolding counterparts
counterparts_given es own [] ps few spelled all e = absurd (cc e)
counterparts_given es own (a ∷ []) ps few spelled all e = absurd (cc e)
counterparts_given es own (a ∷ b ∷ c ∷ d ∷ ws) ps few spelled all e = absurd (cc e)
counterparts_given es own (parent ∷ id ∷ []) ps few spelled all e = by (id_of id) e
  where
    by : (o : Option ℕ) → option_map (at_edge es (unescaped parent) own) o ≡ Some ps → AreMapped own (length es) ps
    by None e = absurd (cc e)
    by (Some n) e =
        let same : at_edge es (unescaped parent) own n ≡ ps = cc e in
        subst (AreMapped own (length es)) same (mapped_at es own (unescaped parent) own n few spelled (or_right (has_none 9 own) _ (same_bytes own)))
counterparts_given es own (parent ∷ id ∷ name ∷ []) ps few spelled all e = by (id_of id) e
  where
    word : IsWord name
    word = All-head IsWord name [] (All-tail IsWord id (name ∷ []) (All-tail IsWord parent (id ∷ name ∷ []) all))

    by : (o : Option ℕ) → option_map (at_edge es (unescaped parent) (unescaped name)) o ≡ Some ps → AreMapped own (length es) ps
    by None e = absurd (cc e)
    by (Some n) e =
        let same : at_edge es (unescaped parent) (unescaped name) n ≡ ps = cc e in
        subst (AreMapped own (length es)) same
        (mapped_at es own (unescaped parent) (unescaped name) n few (spelled_undone name (spelled_word name word)) (or_left (has_none 9 (unescaped name)) _ (unescaped_none 9 refl refl name word.no_tab)))

-- ---- variables
pub record AreGivenVars (n : ℕ) (vs : List VarDecl) : Type 0 where
  pub new : all_new [] (map (λ v. v.name) vs) ≡ true
  pub each : list_all (is_given_var n) vs ≡ true
  pub fits : All FitsVar vs
  pub short : All HasShortConstant vs

pub no_vars : (n : ℕ) → AreGivenVars n []
no_vars n = record { new = refl; each = refl; fits = All-nil FitsVar; short = All-nil HasShortConstant }

-- one variable more
one_var : (n : ℕ) (vs : List VarDecl) (v : VarDecl) → AreGivenVars n vs → has_name v.name vs ≡ false → IsSpelled v.name → IsCompar v.compar → IsTold v.constant_line v.kind v.constant
    → AreMapped v.name n v.parents → AreGivenVars n (vs ++ v ∷ [])
one_var n vs v given none spelled compar told mapped = record {
  new = subst (λ (ks : List (List ℕ)). all_new [] ks ≡ true) (sym (map_push vs))
      (all_new_push [] (map (λ (w : VarDecl). w.name) vs) v.name given.new
      (new_name (λ (w : VarDecl). Unit {0}) (λ (w : VarDecl). w.name) (λ (w : VarDecl). bytes_eq v.name w.name) vs v.name (λ w _ same. same) (λ k d within. tt) none));
  each = list_all-append (is_given_var n) vs (v ∷ []) ∙ both _ _ given.each (both _ _ (both _ _ (is_name_spelled v.name spelled) (both _ _ told.0 mapped.each)) refl);
  fits = All-push FitsVar vs v given.fits (record { name = spelled.none; elem = compar.elem; index = compar.index; constant = told.1; parents = mapped.fits });
  short = All-push HasShortConstant vs v given.short (λ has. told.2);
}
  where
    map_push : (vs : List VarDecl) → map (λ (w : VarDecl). w.name) (vs ++ v ∷ []) ≡ map (λ (w : VarDecl). w.name) vs ++ v.name ∷ []
    map_push [] = refl
    map_push (x ∷ vs) = ap (λ (l : List (List ℕ)). x.name ∷ l) (map_push vs)

-- ---- a variable that is going
record IsGoing (n : ℕ) (vs : List VarDecl) (o : OpenVar) : Type 0 where
  new : has_name o.name vs ≡ false
  name : IsSpelled o.name
  compar : IsCompar o.compar
  constant : IsShortText o.constant
  parents : AreMapped o.name n o.parents

opened_open : (n : ℕ) (vs : List VarDecl) (l : Line) (o : OpenVar) → IsSpelled l.bytes → open_var vs l ≡ Ok o → IsGoing n vs o
unfolding open_var operand
opened_open n vs l o spelled e = by (is_empty (rest_of_line l.bytes) || has_name (unescaped (rest_of_line l.bytes)) vs) refl e
  where
    name : List ℕ
    name = unescaped (rest_of_line l.bytes)

    by : (b : Bool) → (is_empty (rest_of_line l.bytes) || has_name (unescaped (rest_of_line l.bytes)) vs) ≡ b
        → (if b then refused BadVariable l.number else Ok (new_var l.number (unescaped (rest_of_line l.bytes)))) ≡ Ok o → IsGoing n vs o
    by true is e = absurd (cc e)
    by false is e =
        let same : new_var l.number (unescaped (rest_of_line l.bytes)) ≡ o = cc e in
        subst (IsGoing n vs) same (record {
          new = or_none_right (is_empty (rest_of_line l.bytes)) _ is;
          name = spelled_undone _ (spelled_rest l.bytes spelled (or_none_left _ _ is));
          compar = no_compar_is;
          constant = tt;
          parents = none_mapped _ n;
        })

line_open : (implicit : Bool) (es : List EdgeDecl) (vs : List VarDecl) (o : OpenVar) (l : Line) (o' : OpenVar) → length es < 2 ^ 64 → HasNoLf l → IsShortLine l → IsGoing (length es) vs o
    → var_line implicit es o l ≡ Ok o' → IsGoing (length es) vs o'
unfolding var_line operand operands
line_open implicit es vs o l o' few none short going e =
    by (begins (codes "rep-type") l.bytes) (begins (codes "comparability") l.bytes && implicit) (begins (codes "constant") l.bytes) (begins (codes "parent") l.bytes) e
  where
    n : ℕ
    n = length es

    by : (a b c d : Bool) → (if a then (or_refused BadVariable l.number (rep_type_of (rest_of_line l.bytes)) >>= λ r. Ok (record o { rep = Some r }))
        else if b then (or_refused BadVariable l.number (compar_of (rest_of_line l.bytes)) >>= λ q. Ok (record o { compar = q }))
        else if c then Ok (record o { constant = Some (record { line = l.number; text = rest_of_line l.bytes }) })
        else if d then (with_counterparts o.parents l.number (counterparts es o.name (words (rest_of_line l.bytes))) >>= λ ps. Ok (record o { parents = ps }))
        else Ok o) ≡ Ok o' → IsGoing (length es) vs o'
    by true b c d e =
        bind_ok (or_refused BadVariable l.number (rep_type_of (rest_of_line l.bytes))) (λ r. Ok (record o { rep = Some r })) o' e (λ r is done.
        let same : record o { rep = Some r } ≡ o' = cc done in
        subst (IsGoing (length es) vs) same (record { new = going.new; name = going.name; compar = going.compar; constant = going.constant; parents = going.parents }))
    by false true c d e =
        bind_ok (or_refused BadVariable l.number (compar_of (rest_of_line l.bytes))) (λ q. Ok (record o { compar = q })) o' e (λ q is done.
        let same : record o { compar = q } ≡ o' = cc done in
        subst (IsGoing (length es) vs) same
        (record { new = going.new; name = going.name; compar = compar_fits _ q (or_refused_some l.number _ q is); constant = going.constant; parents = going.parents }))
    by false false true d e =
        let few_bytes : length (rest_of_line l.bytes) < 2 ^ 63 = omega (arith, short, rest_few l.bytes) in
        let same : record o { constant = Some (record { line = l.number; text = rest_of_line l.bytes }) } ≡ o' = cc e in
        subst (IsGoing (length es) vs) same
        (record { new = going.new; name = going.name; compar = going.compar; constant = few_bytes; parents = going.parents })
    by false false false true e =
        bind_ok (with_counterparts o.parents l.number (counterparts es o.name (words (rest_of_line l.bytes)))) (λ ps. Ok (record o { parents = ps })) o' e (λ ps is done.
        bind_ok (or_refused BadVariable l.number (counterparts es o.name (words (rest_of_line l.bytes)))) (λ more. Ok (o.parents ++ more)) ps is (λ more found whole.
        let all : o.parents ++ more ≡ ps = cc whole in
        let same : record o { parents = ps } ≡ o' = cc done in
        let given = counterparts_given es o.name (words (rest_of_line l.bytes)) more few going.name (are_words _ (none_rest 10 l.bytes none)) (or_refused_some l.number _ more found) in
        subst (IsGoing (length es) vs) same
        (record { new = going.new; name = going.name; compar = going.compar; constant = going.constant; parents = subst (AreMapped o.name (length es)) all (more_mapped o.name (length es) o.parents more going.parents given) })))
    by false false false false e = let same : o ≡ o' = cc e in subst (IsGoing (length es) vs) same going

lines_open : (implicit : Bool) (es : List EdgeDecl) (vs : List VarDecl) (ls : List Line) (o o' : OpenVar) → length es < 2 ^ 64 → All HasNoLf ls → All IsShortLine ls → IsGoing (length es) vs o
    → each_line (var_line implicit es) o ls ≡ Ok o' → IsGoing (length es) vs o'
lines_open implicit es vs [] o o' few none short going e = let same : o ≡ o' = cc e in subst (IsGoing (length es) vs) same going
lines_open implicit es vs (l ∷ ls) o o' few none short going e =
    bind_ok (var_line implicit es o l) (λ next. each_line (var_line implicit es) next ls) o' e (λ next first rest.
    lines_open implicit es vs ls next o' few (All-tail HasNoLf l ls none) (All-tail IsShortLine l ls short)
    (line_open implicit es vs o l next few (All-head HasNoLf l ls none) (All-head IsShortLine l ls short) going first) rest)

closed_given : (n : ℕ) (vs : List VarDecl) (o : OpenVar) (v : VarDecl) → AreGivenVars n vs → IsGoing n vs o → var_decl_of o ≡ Ok v → AreGivenVars n (vs ++ v ∷ [])
unfolding var_decl_of
closed_given n vs o v given going e =
    bind_ok (or_refused BadVariable o.line o.rep) (λ rep. constant_at rep o.constant >>= λ constant. Ok (var_with o rep constant)) v e (λ rep is rest.
    bind_ok (constant_at rep o.constant) (λ constant. Ok (var_with o rep constant)) v rest (λ constant told done.
    let same : var_with o rep constant ≡ v = cc done in
    subst (λ (w : VarDecl). AreGivenVars n (vs ++ w ∷ [])) same
    (one_var n vs (var_with o rep constant) given going.new going.name going.compar (constant_told rep o.constant constant going.constant told) going.parents)))

-- behind it there is one variable more
at_end : (n : ℕ) (vs : List VarDecl) (w : OpenVar) (next : List VarDecl) → AreGivenVars n vs → IsGoing n vs w → with_var vs w true ≡ Ok next → AreGivenVars n next
unfolding with_var
at_end n vs w next given going e =
    bind_ok (var_decl_of w) (λ v. Ok (vs ++ v ∷ [])) next e (λ v shut done.
    let same : vs ++ v ∷ [] ≡ next = cc done in
    subst (AreGivenVars n) same (closed_given n vs w v given going shut))

abbrev pub IsGroup : Line × List Line → Type 0
IsGroup g = IsSpelled g.0.bytes × All HasNoLf g.1 × All IsShortLine g.1

pub vars_given : (implicit : Bool) (es : List EdgeDecl) (vs : List VarDecl) (gs : List (Line × List Line)) (close : ℕ) (vs' : List VarDecl) → length es < 2 ^ 64 → All IsGroup gs
    → AreGivenVars (length es) vs → vars_after implicit es vs gs (Some close) ≡ Ok vs' → AreGivenVars (length es) vs'
vars_given implicit es vs [] close vs' few all given e = let same : vs ≡ vs' = cc e in subst (AreGivenVars (length es)) same given
vars_given implicit es vs (g ∷ gs) close vs' few all given e =
    let own = All-head IsGroup g gs all in
    bind_ok (open_var vs g.0) _ vs' e (λ o first rest.
    bind_ok (each_line (var_line implicit es) o g.1) _ vs' rest (λ w lines more.
    bind_ok (with_var vs w (has_ended gs (Some close))) _ vs' more (λ next ended last.
    vars_given implicit es next gs close vs' few (All-tail IsGroup g gs all)
    (at_end (length es) vs w next given (lines_open implicit es vs g.1 o w few own.1 own.2 (opened_open (length es) vs g.0 o own.0 first) lines) (sym (ap (with_var vs w) (ends gs)) ∙ ended)) last)))
  where
    ends : (gs : List (Line × List Line)) → has_ended gs (Some close) ≡ true
    ends [] = refl
    ends (g ∷ gs) = refl

-- ---- four by four
comparability_fits : (implicit : Bool) (l : Line) (c : Compar) → comparability implicit l ≡ Ok c → IsCompar c
unfolding comparability
comparability_fits true l c e = compar_fits l.bytes c (or_refused_some l.number (compar_of l.bytes) c e)
comparability_fits false l c e = let same : no_compar ≡ c = cc e in subst IsCompar same no_compar_is

constant_text_few : (l : Line) (text : Option Placed) → IsShortLine l → constant_text l ≡ Ok text → IsShortText text
unfolding constant_text operand
constant_text_few l text short e = by (is_empty (rest_of_line l.bytes)) (begins (codes "=") (rest_of_line l.bytes)) e
  where
    behind : Placed
    behind = record { line = l.number; text = rest_of_line (rest_of_line l.bytes) }

    by : (a b : Bool) → (if a then Ok None else if b then Ok (Some behind) else refused BadVariable l.number) ≡ Ok text → IsShortText text
    by true b e = let same : None ≡ text = cc e in subst IsShortText same tt
    by false true e =
        let same : Some behind ≡ text = cc e in
        let few_bytes : length (rest_of_line (rest_of_line l.bytes)) < 2 ^ 63 = omega (arith, short, rest_few l.bytes, rest_few (rest_of_line l.bytes)) in
        subst IsShortText same few_bytes
    by false false e = absurd (cc e)

represented_told : (l : Line) (r : Represented) → IsShortLine l → representation l ≡ Ok r → IsTold r.constant_line (rep_kind r.rep) r.constant
unfolding representation
represented_told l r short e =
    bind_ok (or_refused BadVariable l.number (rep_type_of (first_word l.bytes))) _ r e (λ rep is rest.
    bind_ok (constant_text l) _ r rest (λ text found more.
    bind_ok (constant_at rep text) (λ constant. Ok (represented rep text constant)) r more (λ constant told done.
    let same : represented rep text constant ≡ r = cc done in
    subst (λ (x : Represented). IsTold x.constant_line (rep_kind x.rep) x.constant) same (constant_told rep text constant (constant_text_few l text short found) told))))

new_by_line : (vs : List VarDecl) (l : Line) (name : List ℕ) → IsSpelled l.bytes → new_name_of vs l ≡ Ok name → IsSpelled name × (has_name name vs ≡ false)
unfolding new_name_of
new_by_line vs l name spelled e = by (has_name (unescaped l.bytes) vs) refl e
  where
    by : (b : Bool) → has_name (unescaped l.bytes) vs ≡ b → (if b then refused BadVariable l.number else Ok (unescaped l.bytes)) ≡ Ok name → IsSpelled name × (has_name name vs ≡ false)
    by true is e = absurd (cc e)
    by false is e =
        let same : unescaped l.bytes ≡ name = cc e in
        subst (λ (x : List ℕ). IsSpelled x × (has_name x vs ≡ false)) same (spelled_undone l.bytes spelled, is)

abbrev pub IsLineSpelled : Line → Type 0
IsLineSpelled l = IsSpelled l.bytes

pub four_given : (implicit : Bool) (vs : List VarDecl) (ls : List Line) (close : ℕ) (vs' : List VarDecl) → All IsLineSpelled ls → All IsShortLine ls → AreGivenVars 0 vs
    → from_name implicit vs ls (Some close) ≡ Ok vs'
    → AreGivenVars 0 vs'
four_given implicit vs [] close vs' all short given e = let same : vs ≡ vs' = cc e in subst (AreGivenVars 0) same given
four_given implicit vs (a ∷ []) close vs' all short given e = bind_ok (new_name_of vs a) _ vs' e (λ name is rest. absurd (cc rest))
four_given implicit vs (a ∷ b ∷ []) close vs' all short given e = bind_ok (new_name_of vs a) _ vs' e (λ name is rest. absurd (cc rest))
four_given implicit vs (a ∷ b ∷ c ∷ []) close vs' all short given e =
    bind_ok (new_name_of vs a) _ vs' e (λ name is rest. bind_ok (representation c) _ vs' rest (λ r told more. absurd (cc more)))
four_given implicit vs (a ∷ b ∷ c ∷ d ∷ ls) close vs' all short given e =
    bind_ok (new_name_of vs a) _ vs' e (λ name is rest.
    bind_ok (representation c) _ vs' rest (λ r told more.
    bind_ok (comparability implicit d) _ vs' more (λ compar fits last.
    let named = new_by_line vs a name (All-head IsLineSpelled a (b ∷ c ∷ d ∷ ls) all) is in
    let behind = All-tail IsLineSpelled d ls (All-tail IsLineSpelled c (d ∷ ls) (All-tail IsLineSpelled b (c ∷ d ∷ ls) (All-tail IsLineSpelled a (b ∷ c ∷ d ∷ ls) all))) in
    let third = All-tail IsShortLine b (c ∷ d ∷ ls) (All-tail IsShortLine a (b ∷ c ∷ d ∷ ls) short) in
    let others = All-tail IsShortLine d ls (All-tail IsShortLine c (d ∷ ls) third) in
    four_given implicit (vs ++ old_form_var name r compar ∷ []) ls close vs' behind others
    (one_var 0 vs (old_form_var name r compar) given named.1 named.0 (comparability_fits implicit d compar fits) (represented_told c r (All-head IsShortLine c (d ∷ ls) third) told)
    (none_mapped name 0)) last)))
