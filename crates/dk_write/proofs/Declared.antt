-- The lines of a declaration are read as that declaration.
use Rattle.std.proofs.Common.{◌≡◌, ◌<◌, ◌+◌, ◌^◌, ◌∙◌, ◌&&◌, ◌||◌, ◌∷◌, ◌++◌, [], ℕ, Bool, true, false, List, All, IsTrue, Option, Some, None, Result, Ok, Err, codes, zero, suc, subst, length, map, flat_map, slice_get, is_none, is_some, unwrap_or, refl, sym, ap, append-nil, append_assoc, if◌then◌else◌, arith}
use Rattle.std.specs.Prelude.{not, IfSome}
use Rattle.std.specs.Fmt.{decimal, signed_decimal}
use Rattle.std.specs.List.{list_all, list_any, position, position_or_len}
use Rattle.std.specs.Option.{option_map_or}
use Rattle.std.proofs.lemmas.Bool.{and_parts, false≢true, lt-ltb, not-true}
use Rattle.std.proofs.lemmas.List.Folds.{list_all-append}
use Rattle.std.proofs.lemmas.List.Elements.{All-cons, All-head, All-nil, All-tail}
use Rattle.std.proofs.lemmas.Slice.Eq.{bytes_eq-Decides}
use Rattle.dk_base.specs.Values.Items.{is_text}
use Rattle.dk_base.specs.Names.{escaped}
use Rattle.dk_base.specs.Numbers.{fits_i64}
use Rattle.dk_base.specs.Pieces.{is_blank}
use Rattle.dk_base.specs.Reading.{Line, LineFault, ◌>>=◌}
use Rattle.dk_base.specs.Values.Spelling.{IsWritten, spelling}
use Rattle.dk_base.specs.Values.{IsOfKind, value_of_text}
use Rattle.dk_base.specs.Words.{without_front, words}
use Rattle.dk_base.specs.declared.kinds.Compar.{Compar}
use Rattle.dk_base.specs.declared.kinds.Kind.{Kind}
use Rattle.dk_base.specs.declared.kinds.Kind.TheVariants as kind
use Rattle.dk_base.specs.declared.values.Value.{Value}
use Rattle.dk_base.specs.declared.values.Value.TheVariants as value
use Rattle.dk_base.proofs.ReadBack.{spelled_back}
use Rattle.dk_base.proofs.Spellings.{unescaped_of_escaped}
use Rattle.dk_decl.specs.Heads.{head_line, is_edge, parent_line}
use Rattle.dk_decl.specs.LineWords.{begins, each_line, operand, operands}
use Rattle.dk_decl.specs.PptBlock.{groups, has_ended, is_variable, point_name, point_with, ppt_lines, ppt_of, vars_after, with_var}
use Rattle.dk_decl.specs.Types.{constant_at, constant_of, is_missing, known, rep_kind, rep_type_of}
use Rattle.dk_decl.specs.VarNames.{has_name}
use Rattle.dk_decl.specs.Variables.{counterparts, new_var, open_var, var_decl_of, var_line, var_with}
use Rattle.dk_decl.specs.declared.decls.EdgeDecl.{EdgeDecl}
use Rattle.dk_decl.specs.declared.decls.ParentVar.{ParentVar}
use Rattle.dk_decl.specs.declared.decls.PointDecl.{PointDecl}
use Rattle.dk_decl.specs.declared.decls.VarDecl.{VarDecl}
use Rattle.dk_decl.specs.declared.types.Placed.{Placed}
use Rattle.dk_decl.specs.declared.types.RepType.{RepType}
use Rattle.dk_decl.specs.declared.types.RepType.TheVariants.{Of, Opaque}
use Rattle.dk_decl.specs.declared.variables.OpenVar.{OpenVar}
use Rattle.dk_lines.specs.Passing.{numbered_lines}
use Rattle.dk_write.specs.Declarations.{compar_line, compar_text, constant_lines, counterpart_line, counterpart_lines, edge_line, point_line, rep_line, var_lines, variable_line}
use Rattle.dk_write.specs.Names.{is_line, is_word}
use Rattle.dk_write.specs.Records.{value_text}
use Rattle.dk_write.specs.Writable.{IsValueWithin, IsVarWithin, IsWithin, can_declare, has_constant, is_known_edge, is_known_var, is_of_kind, is_told_counterpart, is_told_edge, is_told_var, is_value_of, none_twice}
use Rattle.dk_write.proofs.Words.{NoBlanks, compar_back, decimal_bytes, decimal_some, first_of_words, front_kept, id_back, is_line_parts, number_no_blanks, one_word, signed_bytes, signed_some, word_no_blanks, word_some}

-- ---- lists of lines

pub numbered_append : (m : ℕ) (xs ys : List (List ℕ)) → numbered_lines m (xs ++ ys) ≡ numbered_lines m xs ++ numbered_lines (m + length xs) ys
numbered_append m [] ys = ap (λ (k : ℕ). numbered_lines k ys) (omega arith)
numbered_append m (x ∷ xs) ys =
    let last : m + 1 + length xs ≡ m + length (x ∷ xs) = omega arith in
    ap (λ (ls : List Line). record { number = m; bytes = x } ∷ ls)
    (numbered_append (m + 1) xs ys ∙ ap (λ (k : ℕ). numbered_lines (m + 1) xs ++ numbered_lines k ys) last)

-- reading that has come to a state goes on with the other lines
each_on : {S : Type 0} (read : S → Line → Result S LineFault) (s t : S) (xs ys : List Line) → each_line read s xs ≡ Ok t
    → each_line read s (xs ++ ys) ≡ each_line read t ys
each_on {S} read s t [] ys h = ap (λ (r : Result S LineFault). r >>= λ u. each_line read u ys) h
each_on {S} read s t (x ∷ xs) ys h = go (read s x) (λ u e. each_on read u t xs ys e) h
  where
    go : (r : Result S LineFault) → ((u : S) → each_line read u xs ≡ Ok t → each_line read u (xs ++ ys) ≡ each_line read t ys)
        → (r >>= λ u. each_line read u xs) ≡ Ok t → (r >>= λ u. each_line read u (xs ++ ys)) ≡ each_line read t ys
    go (Ok u) later e = later u e
    go (Err f) later e = cc e

-- ---- the point

point_named : (n : ℕ) (name : List ℕ) → is_line (escaped name) ≡ true → point_name (record { number = n; bytes = point_line name }) ≡ Ok name
unfolding point_name operand
point_named n name h =
    rw (front_kept (escaped name) h, (is_line_parts (escaped name) h).some, unescaped_of_escaped name) refl

-- ---- edges

edge_words : (e : EdgeDecl) → is_word (escaped e.parent) ≡ true → e.id < 2 ^ 32
    → operands (edge_line e) ≡ codes "parent" ∷ escaped e.parent ∷ decimal e.id ∷ []
unfolding operands
edge_words e h small =
    let name : List ℕ = escaped e.parent in
    first_of_words (codes "parent") (name ++ 32 ∷ decimal e.id) refl (omega arith)
    ∙ ap (λ (ws : List (List ℕ)). codes "parent" ∷ ws) (first_of_words name (decimal e.id) (word_no_blanks name h) (word_some name h)
    ∙ ap (λ (ws : List (List ℕ)). name ∷ ws) (one_word (decimal e.id) (number_no_blanks (decimal e.id) (decimal_bytes e.id (omega arith))) (decimal_some e.id (omega arith))))

edge_read : (es : List EdgeDecl) (n : ℕ) (e : EdgeDecl) → is_word (escaped e.parent) ≡ true → e.id < 2 ^ 32 → is_known_edge e es ≡ false
    → head_line es (record { number = n; bytes = edge_line e }) ≡ Ok (es ++ e ∷ [])
unfolding head_line begins parent_line
edge_read es n e h small new = rw (edge_words e h small, unescaped_of_escaped e.parent, id_back e.id small, new) refl

edges_read : (before es : List EdgeDecl) (m : ℕ) → none_twice is_known_edge before es ≡ true → list_all is_told_edge es ≡ true → All (λ e. e.id < 2 ^ 32) es
    → each_line head_line before (numbered_lines m (map edge_line es)) ≡ Ok (before ++ es)
edges_read before [] m new told ids = ap (λ (es : List EdgeDecl). Ok es) (sym (append-nil before))
edges_read before (e ∷ es) m new told ids =
    let here = and_parts (not (is_known_edge e before)) (none_twice is_known_edge (before ++ e ∷ []) es) new in
    let word = and_parts (is_told_edge e) (list_all is_told_edge es) told in
    let Small : EdgeDecl → Type 0 = λ d. d.id < 2 ^ 32 in
    ap (λ (r : Result (List EdgeDecl) LineFault). r >>= λ next. each_line head_line next (numbered_lines (m + 1) (map edge_line es)))
    (edge_read before m e word.0 (All-head Small e es ids) (not-true (is_known_edge e before) here.0))
    ∙ edges_read (before ++ e ∷ []) es (m + 1) here.1 word.1 (All-tail Small e es ids)
    ∙ ap (λ (all : List EdgeDecl). Ok all) (append_assoc before (e ∷ []) es)

-- an edge that is there is the first of its point and ID
same_edge : (e : EdgeDecl) → is_edge e.parent e.id e ≡ true
same_edge e = rw ((bytes_eq-Decides e.parent e.parent).1 refl) (grind arith)

not_known : (before more : List EdgeDecl) (d e : EdgeDecl) → is_known_edge e (before ++ d ∷ more) ≡ false → is_edge e.parent e.id d ≡ false
not_known [] more d e h = go (is_edge e.parent e.id d) h
  where
    go : (b : Bool) → (b || list_any (is_edge e.parent e.id) more) ≡ false → b ≡ false
    go true h = h
    go false h = refl
not_known (b ∷ before) more d e h = not_known before more d e (go (is_edge e.parent e.id b) h)
  where
    go : (x : Bool) → (x || list_any (is_edge e.parent e.id) (before ++ d ∷ more)) ≡ false → list_any (is_edge e.parent e.id) (before ++ d ∷ more) ≡ false
    go true h = absurd (false≢true (sym h))
    go false h = h

-- an edge of those behind is not known among those in front
later_new : (before es : List EdgeDecl) (k : ℕ) (e : EdgeDecl) → none_twice is_known_edge before es ≡ true → slice_get es k ≡ Some e
    → (between : List EdgeDecl) × (is_known_edge e (before ++ between) ≡ false)
later_new before [] k e new at = absurd (cc (at))
later_new before (d ∷ es) zero e new at =
    let here = and_parts (not (is_known_edge d before)) (none_twice is_known_edge (before ++ d ∷ []) es) new in
    let same : d ≡ e = cc (at) in
    ([], ap (λ (x : List EdgeDecl). is_known_edge e x) (append-nil before) ∙ ap (λ (x : EdgeDecl). is_known_edge x before) (sym same) ∙ not-true (is_known_edge d before) here.0)
later_new before (d ∷ es) (suc k) e new at =
    let here = and_parts (not (is_known_edge d before)) (none_twice is_known_edge (before ++ d ∷ []) es) new in
    let later = later_new (before ++ d ∷ []) es k e here.1 at in
    (d ∷ later.0, ap (is_known_edge e) (sym (append_assoc before (d ∷ []) later.0)) ∙ later.1)

edge_place : (before es : List EdgeDecl) (k : ℕ) (e : EdgeDecl) → none_twice is_known_edge before es ≡ true → slice_get es k ≡ Some e
    → (position_or_len (is_edge e.parent e.id) es ≡ k) × (k < length es)
edge_place before [] k e new at = absurd (cc (at))
edge_place before (d ∷ es) zero e new at =
    let same : d ≡ e = cc (at) in
    let hit : is_edge e.parent e.id d ≡ true = ap (is_edge e.parent e.id) same ∙ same_edge e in
    (rw hit refl, omega arith)
edge_place before (d ∷ es) (suc k) e new at =
    let here = and_parts (not (is_known_edge d before)) (none_twice is_known_edge (before ++ d ∷ []) es) new in
    let later = later_new (before ++ d ∷ []) es k e here.1 at in
    let other : is_edge e.parent e.id d ≡ false = not_known before later.0 d e (ap (is_known_edge e) (sym (append_assoc before (d ∷ []) later.0)) ∙ later.1) in
    let behind = edge_place (before ++ d ∷ []) es k e here.1 at in
    (rw other (omega (arith, behind.0)), omega (arith, behind.1))

edge_found : (es : List EdgeDecl) (k : ℕ) (e : EdgeDecl) → none_twice is_known_edge [] es ≡ true → slice_get es k ≡ Some e
    → position (is_edge e.parent e.id) es ≡ Some k
edge_found es k e new at =
    let place = edge_place [] es k e new at in
    let there : position_or_len (is_edge e.parent e.id) es ≡ k = place.0 in
    rw (there, lt-ltb k (length es) place.1) refl

-- ---- what holds of each

pub all_of : {X : Type 0} (test : X → Bool) (xs : List X) → list_all test xs ≡ true → All (λ x. test x ≡ true) xs
all_of test [] h = All-nil (λ x. test x ≡ true)
all_of test (x ∷ xs) h =
    let both = and_parts (test x) (list_all test xs) h in
    All-cons (λ y. test y ≡ true) x xs both.0 (all_of test xs both.1)

pub from_at : {X : Type 0} (P : X → Type 0) (xs : List X) (k : ℕ) (x : X) → All P xs → slice_get xs k ≡ Some x → P x
from_at P [] k x all at = absurd (cc (at))
from_at P (y ∷ ys) zero x all at = let same : y ≡ x = cc (at) in subst P same (All-head P y ys all)
from_at P (y ∷ ys) (suc k) x all at = from_at P ys k x (All-tail P y ys all) at

-- ---- values

pub kind_fits : (k : Kind) (x : Value) → is_of_kind k x ≡ true → IsOfKind k x
kind_fits k value.Missing h = tt
kind_fits kind.Bool (value.Bool b) h = refl
kind_fits kind.Int (value.Int z) h = refl
kind_fits kind.Hash (value.Hash n) h = refl
kind_fits kind.Str (value.Str s) h = refl
kind_fits kind.BoolSeq (value.BoolSeq bs) h = refl
kind_fits kind.IntSeq (value.IntSeq zs) h = refl
kind_fits kind.HashSeq (value.HashSeq ns) h = refl
kind_fits kind.StrSeq (value.StrSeq ss) h = refl
kind_fits _ _ h = absurd (false≢true h)

pub is_written : (k : Kind) (x : Value) → is_of_kind k x ≡ true → IsValueWithin x → IsWritten x
is_written k value.Missing h within = tt
is_written k (value.Bool b) h within = tt
is_written k (value.Int z) h within = within
is_written k (value.Hash n) h within = within
is_written k (value.BoolSeq bs) h within = tt
is_written k (value.IntSeq zs) h within = within
is_written k (value.HashSeq ns) h within = within
is_written kind.Str (value.Str s) h within = h
is_written kind.StrSeq (value.StrSeq ss) h within = all_of is_text ss h
is_written _ _ h within = absurd (false≢true h)

pub value_back : (k : Kind) (x : Value) → is_of_kind k x ≡ true → IsValueWithin x → value_of_text k (spelling x) ≡ Some x
value_back k x h within = spelled_back k x (kind_fits k x h) (is_written k x h within)

-- ---- the lines of a variable

abbrev rep_of : Option Kind → RepType
rep_of None = Opaque
rep_of (Some k) = Of k

rep_kind_of : (k : Option Kind) → rep_kind (rep_of k) ≡ k
rep_kind_of None = refl
rep_kind_of (Some k) = refl

rep_read : (k : Option Kind) → rep_type_of (operand (rep_line k)) ≡ Some (rep_of k)
unfolding rep_type_of operand
rep_read None = refl
rep_read (Some kind.Bool) = refl
rep_read (Some kind.Int) = refl
rep_read (Some kind.Hash) = refl
rep_read (Some kind.Str) = refl
rep_read (Some kind.BoolSeq) = refl
rep_read (Some kind.IntSeq) = refl
rep_read (Some kind.HashSeq) = refl
rep_read (Some kind.StrSeq) = refl

rep_step : (es : List EdgeDecl) (o : OpenVar) (n : ℕ) (k : Option Kind)
    → var_line true es o (record { number = n; bytes = rep_line k }) ≡ Ok (record o { rep = Some (rep_of k) })
unfolding var_line begins
rep_step es o n k = rw (rep_read k) refl

word_front : (w rest : List ℕ) → NoBlanks w → 0 < length w → without_front (w ++ rest) ≡ w ++ rest
word_front [] rest h some = absurd (omega arith)
word_front (b ∷ w) rest h some =
    let both = and_parts (not (is_blank b)) (list_all (λ c. not (is_blank c)) w) h in
    rw (not-true (is_blank b) both.0) refl

compar_operand : (c : Compar) → IsTrue (fits_i64 c.elem) → operand (compar_line c) ≡ compar_text c
unfolding operand
compar_operand c elem =
    word_front (signed_decimal c.elem) (91 ∷ (signed_decimal c.index ++ 93 ∷ [])) (number_no_blanks (signed_decimal c.elem) (signed_bytes c.elem elem)) (signed_some c.elem elem)

compar_step : (es : List EdgeDecl) (o : OpenVar) (n : ℕ) (c : Compar) → IsTrue (fits_i64 c.elem) → IsTrue (fits_i64 c.index)
    → var_line true es o (record { number = n; bytes = compar_line c }) ≡ Ok (record o { compar = c })
unfolding var_line begins
compar_step es o n c elem index = rw (compar_operand c elem, compar_back c elem index) refl

constant_operand : (text : List ℕ) → is_line text ≡ true → operand (codes "constant " ++ text) ≡ text
unfolding operand
constant_operand text h = front_kept text h

constant_step : (es : List EdgeDecl) (o : OpenVar) (n : ℕ) (text : List ℕ) → is_line text ≡ true
    → var_line true es o (record { number = n; bytes = codes "constant " ++ text }) ≡ Ok (record o { constant = Some (record { line = n; text = text }) })
unfolding var_line begins
constant_step es o n text h = rw (constant_operand text h) refl

counterpart_words : (name : List ℕ) (e : EdgeDecl) → is_word (escaped name) ≡ true → is_word (escaped e.parent) ≡ true → e.id < 2 ^ 32
    → operands (counterpart_line name e) ≡ escaped e.parent ∷ decimal e.id ∷ escaped name ∷ []
unfolding operands
counterpart_words name e h k small =
    let point : List ℕ = escaped e.parent in
    let own : List ℕ = escaped name in
    let id : List ℕ = decimal e.id in
    ap words (word_front point (32 ∷ (id ++ 32 ∷ own)) (word_no_blanks point k) (word_some point k))
    ∙ first_of_words point (id ++ 32 ∷ own) (word_no_blanks point k) (word_some point k)
    ∙ ap (λ (ws : List (List ℕ)). point ∷ ws) (first_of_words id own (number_no_blanks id (decimal_bytes e.id (omega arith))) (decimal_some e.id (omega arith))
    ∙ ap (λ (ws : List (List ℕ)). id ∷ ws) (one_word own (word_no_blanks own h) (word_some own h)))

counterpart_step : (es : List EdgeDecl) (o : OpenVar) (n : ℕ) (p : ParentVar) (e : EdgeDecl) → is_word (escaped p.name) ≡ true → is_word (escaped e.parent) ≡ true
    → e.id < 2 ^ 32 → position (is_edge e.parent e.id) es ≡ Some p.edge
    → var_line true es o (record { number = n; bytes = counterpart_line p.name e }) ≡ Ok (record o { parents = o.parents ++ p ∷ [] })
unfolding var_line begins counterparts
counterpart_step es o n p e h k small found =
    rw (counterpart_words p.name e h k small, unescaped_of_escaped e.parent, unescaped_of_escaped p.name, id_back e.id small, found) refl

-- a declaration's edges, as they are told
record EdgesTold (es : List EdgeDecl) : Type 0 where
  new : none_twice is_known_edge [] es ≡ true
  told : list_all is_told_edge es ≡ true
  ids : All (λ e. e.id < 2 ^ 32) es

counterparts_read : (es : List EdgeDecl) → EdgesTold es → (ps : List ParentVar) (o : OpenVar) (m : ℕ) → list_all (is_told_counterpart es) ps ≡ true
    → each_line (var_line true es) o (numbered_lines m (flat_map (counterpart_lines es) ps)) ≡ Ok (record o { parents = o.parents ++ ps })
counterparts_read es told [] o m h = ap (λ (ps : List ParentVar). Ok (record o { parents = ps })) (sym (append-nil o.parents))
counterparts_read es told (p ∷ ps) o m h =
    let both = and_parts (is_told_counterpart es p) (list_all (is_told_counterpart es) ps) h in
    go (slice_get es p.edge) refl both.0 (λ next n. counterparts_read es told ps next n both.1)
  where
    step : (e : EdgeDecl) → slice_get es p.edge ≡ Some e → is_word (escaped p.name) ≡ true
        → var_line true es o (record { number = m; bytes = counterpart_line p.name e }) ≡ Ok (record o { parents = o.parents ++ p ∷ [] })
    step e at word =
        counterpart_step es o m p e word (from_at (λ d. is_told_edge d ≡ true) es p.edge e (all_of is_told_edge es told.told) at)
        (from_at (λ d. d.id < 2 ^ 32) es p.edge e told.ids at) (edge_found es p.edge e told.new at)

    go : (found : Option EdgeDecl) → slice_get es p.edge ≡ found → (not (is_none found) && is_word (escaped p.name)) ≡ true
        → ((next : OpenVar) (n : ℕ) → each_line (var_line true es) next (numbered_lines n (flat_map (counterpart_lines es) ps)) ≡ Ok (record next { parents = next.parents ++ ps }))
        → each_line (var_line true es) o (numbered_lines m (option_map_or (λ e. counterpart_line p.name e ∷ []) found [] ++ flat_map (counterpart_lines es) ps)) ≡ Ok (record o { parents = o.parents ++ p ∷ ps })
    go None at here later = absurd (false≢true here)
    go (Some e) at here later =
        ap (λ (r : Result OpenVar LineFault). r >>= λ next. each_line (var_line true es) next (numbered_lines (m + 1) (flat_map (counterpart_lines es) ps))) (step e at here)
        ∙ later (record o { parents = o.parents ++ p ∷ [] }) (m + 1)
        ∙ ap (λ (all : List ParentVar). Ok (record o { parents = all })) (append_assoc o.parents (p ∷ []) ps)

-- ---- constants

-- the text of a constant, at its line
abbrev placed : ℕ → Bool → Option Value → Option Placed
placed m there constant = if there then Some (record { line = m; text = spelling (unwrap_or constant value.Missing) }) else None

spelled_line : (x : Value) → is_missing x ≡ false → is_line (value_text x) ≡ true → is_line (spelling x) ≡ true
spelled_line x there h = rw there at h

pub constant_line_told : (k : Option Kind) (constant : Option Value) → has_constant k true constant ≡ true → is_line (spelling (unwrap_or constant value.Missing)) ≡ true
unfolding is_line
constant_line_told None None h = refl
constant_line_told None (Some x) h = absurd (false≢true h)
constant_line_told (Some k) None h = absurd (false≢true h)
constant_line_told (Some k) (Some x) h =
    let there = and_parts (not (is_missing x)) (is_value_of (Some k) x) h in
    spelled_line x (not-true (is_missing x) there.0) (and_parts (is_of_kind k x) (is_line (value_text x)) there.1).1

none_of : {X : Type 0} (o : Option X) → is_none o ≡ true → o ≡ None
none_of None h = refl
none_of (Some x) h = absurd (false≢true h)

constant_known : (m : ℕ) (x : Value) → is_missing x ≡ false → known m (Some x) ≡ Ok (Some x)
constant_known m x there = rw there refl

constant_read : (m : ℕ) (k : Option Kind) (there : Bool) (constant : Option Value) → has_constant k there constant ≡ true → IfSome constant IsValueWithin
    → constant_at (rep_of k) (placed m there constant) ≡ Ok constant
unfolding constant_at constant_of
constant_read m k false constant h within = ap (λ (c : Option Value). Ok c) (sym (none_of constant h))
constant_read m None true constant h within = ap (λ (c : Option Value). Ok c) (sym (none_of constant h))
constant_read m (Some k) true None h within = absurd (false≢true h)
constant_read m (Some k) true (Some x) h within =
    let there = and_parts (not (is_missing x)) (is_value_of (Some k) x) h in
    let fits = and_parts (is_of_kind k x) (is_line (value_text x)) there.1 in
    ap (known m) (value_back k x fits.0 within) ∙ constant_known m x (not-true (is_missing x) there.0)

-- ---- a variable

-- a variable that is read so far
abbrev opened : ℕ → VarDecl → Option Placed → List ParentVar → OpenVar
opened n v constant parents = record {
  line = n;
  name = v.name;
  rep = Some (rep_of v.kind);
  compar = v.compar;
  constant = constant;
  parents = parents;
}

constants_read : (es : List EdgeDecl) (n m : ℕ) (v : VarDecl) → has_constant v.kind v.constant_line v.constant ≡ true
    → each_line (var_line true es) (opened n v None []) (numbered_lines m (constant_lines v)) ≡ Ok (opened n v (placed m v.constant_line v.constant) [])
constants_read es n m v h = go v.constant_line h
  where
    go : (there : Bool) → has_constant v.kind there v.constant ≡ true
        → each_line (var_line true es) (opened n v None []) (numbered_lines m (if there then (codes "constant " ++ spelling (unwrap_or v.constant value.Missing)) ∷ [] else []))
        ≡ Ok (opened n v (placed m there v.constant) [])
    go false h = refl
    go true h =
        ap (λ (r : Result OpenVar LineFault). r >>= λ next. each_line (var_line true es) next [])
        (constant_step es (opened n v None []) m (spelling (unwrap_or v.constant value.Missing)) (constant_line_told v.kind v.constant h))

-- the lines of a variable behind its first
abbrev own_lines : List EdgeDecl → VarDecl → List (List ℕ)
own_lines es v = rep_line v.kind ∷ compar_line v.compar ∷ (constant_lines v ++ flat_map (counterpart_lines es) v.parents)

-- a variable, as it is told
record VarTold (es : List EdgeDecl) (v : VarDecl) : Type 0 where
  name : is_line (escaped v.name) ≡ true
  constant : has_constant v.kind v.constant_line v.constant ≡ true
  parents : list_all (is_told_counterpart es) v.parents ≡ true
  compar : IsVarWithin v
  within : IfSome v.constant IsValueWithin

var_lines_read : (es : List EdgeDecl) → EdgesTold es → (n m : ℕ) (v : VarDecl) → VarTold es v
    → each_line (var_line true es) (new_var n v.name) (numbered_lines m (own_lines es v)) ≡ Ok (opened n v (placed (m + 1 + 1) v.constant_line v.constant) v.parents)
var_lines_read es edges n m v told =
    let start : OpenVar = new_var n v.name in
    let typed : OpenVar = record start { rep = Some (rep_of v.kind) } in
    let others : List (List ℕ) = flat_map (counterpart_lines es) v.parents in
    let left : ℕ = m + 1 + 1 in
    let text : Option Placed = placed left v.constant_line v.constant in
    ap (λ (r : Result OpenVar LineFault). r >>= λ next. each_line (var_line true es) next (numbered_lines (m + 1) (compar_line v.compar ∷ (constant_lines v ++ others))))
    (rep_step es start m v.kind)
    ∙ ap (λ (r : Result OpenVar LineFault). r >>= λ next. each_line (var_line true es) next (numbered_lines left (constant_lines v ++ others)))
    (compar_step es typed (m + 1) v.compar told.compar.elem told.compar.index)
    ∙ ap (λ (ls : List Line). each_line (var_line true es) (opened n v None []) ls) (numbered_append left (constant_lines v) others)
    ∙ each_on (var_line true es) (opened n v None []) (opened n v text []) (numbered_lines left (constant_lines v)) (numbered_lines (left + length (constant_lines v)) others)
    (constants_read es n left v told.constant)
    ∙ counterparts_read es edges v.parents (opened n v text []) (left + length (constant_lines v)) told.parents

some_placed : (m : ℕ) (there : Bool) (constant : Option Value) → is_some (placed m there constant) ≡ there
some_placed m false constant = refl
some_placed m true constant = refl

var_closed : (es : List EdgeDecl) (n m : ℕ) (v : VarDecl) → VarTold es v → var_decl_of (opened n v (placed m v.constant_line v.constant) v.parents) ≡ Ok v
unfolding var_decl_of
var_closed es n m v told =
    let text : Option Placed = placed m v.constant_line v.constant in
    let whole : OpenVar = opened n v text v.parents in
    ap (λ (r : Result (Option Value) LineFault). r >>= λ constant. Ok (var_with whole (rep_of v.kind) constant))
    (constant_read m v.kind v.constant_line v.constant told.constant told.within)
    ∙ (λ i. Ok (record {
      name = v.name;
      kind = rep_kind_of v.kind i;
      compar = v.compar;
      constant = v.constant;
      constant_line = some_placed m v.constant_line v.constant i;
      parents = v.parents;
    }))

var_named : (before : List VarDecl) (n : ℕ) (name : List ℕ) → is_line (escaped name) ≡ true → has_name name before ≡ false
    → open_var before (record { number = n; bytes = variable_line name }) ≡ Ok (new_var n name)
unfolding open_var operand
var_named before n name h new =
    rw (front_kept (escaped name) h, (is_line_parts (escaped name) h).some, unescaped_of_escaped name, new) refl

-- ---- the variables by their lines

-- none of the lines begins a variable
abbrev Others : List (List ℕ) → Type 0
Others xs = list_all (λ l. not (begins (codes "variable") l)) xs ≡ true

groups_front : (m : ℕ) (xs : List (List ℕ)) (rest : List Line) → Others xs
    → groups (numbered_lines m xs ++ rest) ≡ (numbered_lines m xs ++ (groups rest).0, (groups rest).1)
unfolding is_variable
groups_front m [] rest h = refl
groups_front m (x ∷ xs) rest h =
    let both = and_parts (not (begins (codes "variable") x)) (list_all (λ l. not (begins (codes "variable") l)) xs) h in
    rw (not-true (begins (codes "variable") x) both.0)
    (ap (λ (g : List Line × List (Line × List Line)). (record { number = m; bytes = x } ∷ g.0, g.1)) (groups_front (m + 1) xs rest both.1))

others_append : (xs ys : List (List ℕ)) → Others xs → Others ys → Others (xs ++ ys)
others_append xs ys h k = list_all-append (λ l. not (begins (codes "variable") l)) xs ys ∙ rw (h, k) refl

edges_other : (es : List EdgeDecl) → Others (map edge_line es)
unfolding begins
edges_other [] = refl
edges_other (e ∷ es) = edges_other es

constants_other : (v : VarDecl) → Others (constant_lines v)
unfolding begins
constants_other v = go v.constant_line
  where
    go : (there : Bool) → Others (if there then (codes "constant " ++ spelling (unwrap_or v.constant value.Missing)) ∷ [] else [])
    go true = refl
    go false = refl

counterparts_other : (es : List EdgeDecl) (ps : List ParentVar) → Others (flat_map (counterpart_lines es) ps)
unfolding begins
counterparts_other es [] = refl
counterparts_other es (p ∷ ps) = others_append (counterpart_lines es p) (flat_map (counterpart_lines es) ps) (go (slice_get es p.edge)) (counterparts_other es ps)
  where
    go : (found : Option EdgeDecl) → Others (option_map_or (λ e. counterpart_line p.name e ∷ []) found [])
    go None = refl
    go (Some e) = refl

own_other : (es : List EdgeDecl) (v : VarDecl) → Others (own_lines es v)
unfolding begins
own_other es v = others_append (constant_lines v) (flat_map (counterpart_lines es) v.parents) (constants_other v) (counterparts_other es v.parents)

abbrev grouped : List EdgeDecl → ℕ → List VarDecl → List (Line × List Line)
grouped es m [] = []
grouped es m (v ∷ vs) =
    (record { number = m; bytes = variable_line v.name }, numbered_lines (m + 1) (own_lines es v)) ∷ grouped es (m + 1 + length (own_lines es v)) vs

groups_vars : (es : List EdgeDecl) (m : ℕ) (vs : List VarDecl) → groups (numbered_lines m (flat_map (var_lines es) vs)) ≡ ([], grouped es m vs)
unfolding is_variable begins
groups_vars es m [] = refl
groups_vars es m (v ∷ vs) =
    let own : List (List ℕ) = own_lines es v in
    let more : List (List ℕ) = flat_map (var_lines es) vs in
    let behind : ℕ = m + 1 + length own in
    let rest : List Line = numbered_lines behind more in
    let first : Line = record { number = m; bytes = variable_line v.name } in
    ap (λ (g : List Line × List (Line × List Line)). ([], (first, g.0) ∷ g.1))
    (ap groups (numbered_append (m + 1) own more)
    ∙ groups_front (m + 1) own rest (own_other es v)
    ∙ ap (λ (g : List Line × List (Line × List Line)). (numbered_lines (m + 1) own ++ g.0, g.1)) (groups_vars es behind vs)
    ∙ ap (λ (ls : List Line). (ls, grouped es behind vs)) (append-nil (numbered_lines (m + 1) own)))

ended : (es : List EdgeDecl) (m : ℕ) (vs : List VarDecl) (close : ℕ) → has_ended (grouped es m vs) (Some close) ≡ true
ended es m [] close = refl
ended es m (v ∷ vs) close = refl

var_taken : (es : List EdgeDecl) (before : List VarDecl) (n m : ℕ) (v : VarDecl) (is_ended : Bool) → is_ended ≡ true → VarTold es v
    → with_var before (opened n v (placed m v.constant_line v.constant) v.parents) is_ended ≡ Ok (before ++ v ∷ [])
unfolding with_var
var_taken es before n m v is_ended h told =
    ap (with_var before (opened n v (placed m v.constant_line v.constant) v.parents)) h
    ∙ ap (λ (r : Result VarDecl LineFault). r >>= λ w. Ok (before ++ w ∷ [])) (var_closed es n m v told)

vars_read : (es : List EdgeDecl) → EdgesTold es → (before vs : List VarDecl) (m close : ℕ) → none_twice is_known_var before vs ≡ true → All (VarTold es) vs
    → vars_after true es before (grouped es m vs) (Some close) ≡ Ok (before ++ vs)
vars_read es edges before [] m close new told = ap (λ (vs : List VarDecl). Ok vs) (sym (append-nil before))
vars_read es edges before (v ∷ vs) m close new told =
    let here = and_parts (not (is_known_var v before)) (none_twice is_known_var (before ++ v ∷ []) vs) new in
    let own : VarTold es v = All-head (VarTold es) v vs told in
    let behind : ℕ = m + 1 + length (own_lines es v) in
    let gs : List (Line × List Line) = grouped es behind vs in
    let lines : List Line = numbered_lines (m + 1) (own_lines es v) in
    let whole : OpenVar = opened m v (placed (m + 1 + 1 + 1) v.constant_line v.constant) v.parents in
    ap (λ (r : Result OpenVar LineFault). r >>= λ o. each_line (var_line true es) o lines
    >>= λ w. with_var before w (has_ended gs (Some close)) >>= λ more. vars_after true es more gs (Some close))
    (var_named before m v.name own.name (not-true (is_known_var v before) here.0))
    ∙ ap (λ (r : Result OpenVar LineFault). r >>= λ w. with_var before w (has_ended gs (Some close)) >>= λ more. vars_after true es more gs (Some close))
    (var_lines_read es edges m (m + 1) v own)
    ∙ ap (λ (r : Result (List VarDecl) LineFault). r >>= λ more. vars_after true es more gs (Some close))
    (var_taken es before m (m + 1 + 1 + 1) v (has_ended gs (Some close)) (ended es behind vs close) own)
    ∙ vars_read es edges (before ++ v ∷ []) vs behind close here.1 (All-tail (VarTold es) v vs told)
    ∙ ap (λ (all : List VarDecl). Ok all) (append_assoc before (v ∷ []) vs)

-- ---- the declaration

vars_told : (es : List EdgeDecl) (vs : List VarDecl) → list_all (is_told_var es) vs ≡ true → All IsVarWithin vs → All (λ v. IfSome v.constant IsValueWithin) vs → All (VarTold es) vs
vars_told es [] h within constants = All-nil (VarTold es)
vars_told es (v ∷ vs) h within constants =
    let both = and_parts (is_told_var es v) (list_all (is_told_var es) vs) h in
    let named = and_parts (is_line (escaped v.name)) (has_constant v.kind v.constant_line v.constant && list_all (is_told_counterpart es) v.parents) both.0 in
    let rest = and_parts (has_constant v.kind v.constant_line v.constant) (list_all (is_told_counterpart es) v.parents) named.1 in
    let Constant : VarDecl → Type 0 = λ w. IfSome w.constant IsValueWithin in
    All-cons (VarTold es) v vs
    (record {
      name = named.0;
      constant = rest.0;
      parents = rest.1;
      compar = All-head IsVarWithin v vs within;
      within = All-head Constant v vs constants;
    })
    (vars_told es vs both.1 (All-tail IsVarWithin v vs within) (All-tail Constant v vs constants))

pub ppt_read : (d : PointDecl) (n m close : ℕ) → can_declare d ≡ true → IsWithin d
    → ppt_of true (record { number = n; bytes = point_line d.name }) (numbered_lines m (map edge_line d.edges ++ flat_map (var_lines d.edges) d.vars)) (Some close) ≡ Ok d
unfolding can_declare ppt_of ppt_lines
ppt_read d n m close can within =
    let edges_can : Bool = none_twice is_known_edge [] d.edges && list_all is_told_edge d.edges in
    let vars_can : Bool = none_twice is_known_var [] d.vars && list_all (is_told_var d.edges) d.vars in
    let named = and_parts (is_line (escaped d.name)) (edges_can && vars_can) can in
    let both = and_parts edges_can vars_can named.1 in
    let of_edges = and_parts (none_twice is_known_edge [] d.edges) (list_all is_told_edge d.edges) both.0 in
    let of_vars = and_parts (none_twice is_known_var [] d.vars) (list_all (is_told_var d.edges) d.vars) both.1 in
    let edges : EdgesTold d.edges = record { new = of_edges.0; told = of_edges.1; ids = within.edges } in
    let heads : List (List ℕ) = map edge_line d.edges in
    let vars : List (List ℕ) = flat_map (var_lines d.edges) d.vars in
    let behind : ℕ = m + length heads in
    let parted : groups (numbered_lines m (heads ++ vars)) ≡ (numbered_lines m heads, grouped d.edges behind d.vars) =
    ap groups (numbered_append m heads vars)
    ∙ groups_front m heads (numbered_lines behind vars) (edges_other d.edges)
    ∙ ap (λ (g : List Line × List (Line × List Line)). (numbered_lines m heads ++ g.0, g.1)) (groups_vars d.edges behind d.vars)
    ∙ ap (λ (ls : List Line). (ls, grouped d.edges behind d.vars)) (append-nil (numbered_lines m heads)) in
    ap (λ (r : Result (List ℕ) LineFault). r >>= λ name. ppt_lines true name (numbered_lines m (heads ++ vars)) (Some close)) (point_named n d.name named.0)
    ∙ ap (λ (g : List Line × List (Line × List Line)). each_line head_line [] g.0 >>= λ es. point_with d.name es (vars_after true es [] g.1 (Some close))) parted
    ∙ ap (λ (r : Result (List EdgeDecl) LineFault). r >>= λ es. point_with d.name es (vars_after true es [] (grouped d.edges behind d.vars) (Some close)))
    (edges_read [] d.edges m of_edges.0 of_edges.1 within.edges)
    ∙ ap (point_with d.name d.edges) (vars_read d.edges edges [] d.vars behind close of_vars.0 (vars_told d.edges d.vars of_vars.1 within.vars within.constants))
