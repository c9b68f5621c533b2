-- The lines of a record are read as its sample.
use Rattle.std.proofs.Common.{◌≡◌, ◌+◌, ◌∙◌, ◌&&◌, ◌||◌, ◌∷◌, ◌++◌, [], ℕ, ℤ, Bool, true, false, List, All, IsTrue, Option, Some, None, Result, Ok, codes, length, flat_map, is_none, refl, sym, ap, if◌then◌else◌, arith}
use Rattle.std.specs.Prelude.{not, IfSome}
use Rattle.std.specs.Fmt.{signed_decimal}
use Rattle.std.specs.List.{list_all, zip}
use Rattle.std.proofs.lemmas.Bool.{and_parts, false≢true, not-true}
use Rattle.std.proofs.lemmas.List.Elements.{All-head, All-tail}
use Rattle.std.proofs.lemmas.Slice.Eq.{bytes_eq-Decides}
use Rattle.dk_base.specs.Names.{escaped}
use Rattle.dk_base.specs.Numbers.{fits_i64}
use Rattle.dk_base.specs.Reading.{Line, LineFault, ◌>>=◌, Reads}
use Rattle.dk_base.specs.Values.Spelling.{spelling}
use Rattle.dk_base.specs.Values.{value_of_text}
use Rattle.dk_base.specs.declared.kinds.Kind.{Kind}
use Rattle.dk_base.specs.declared.values.Value.{Value}
use Rattle.dk_base.specs.declared.values.Value.TheVariants as value
use Rattle.dk_base.specs.declared.why.Why.TheVariants.{BadValue}
use Rattle.dk_base.proofs.Spellings.{unescaped_of_escaped}
use Rattle.dk_decl.specs.Outcomes.{or_refused}
use Rattle.dk_decl.specs.Types.{is_missing}
use Rattle.dk_decl.specs.declared.decls.VarDecl.{VarDecl}
use Rattle.dk_lines.specs.Passing.{numbered_lines}
use Rattle.dk_points.specs.Table.{Point}
use Rattle.dk_trace.specs.Bodies.{body_of, body_with, is_nonce_line, nonce_of}
use Rattle.dk_trace.specs.Marks.{marked, marked_value, no_value, read_value}
use Rattle.dk_trace.specs.Records.{declared_place, point_named_by, sample_of, sample_with, var_decls_at}
use Rattle.dk_trace.specs.Values.{from_name, from_value, known_values, named_kind, record_values, then_values}
use Rattle.dk_write.specs.Records.{Recorded, mark_text, nonce_lines, sample_at, told_lines, told_values, value_text}
use Rattle.dk_write.specs.Names.{is_line}
use Rattle.dk_write.specs.Writable.{IsValueWithin, is_nonce_name, is_of_kind, is_told_value, is_value_of}
use Rattle.dk_write.proofs.Declared.{value_back}
use Rattle.dk_write.proofs.Words.{integer_back}

-- ---- one value

missing_is : (x : Value) → is_missing x ≡ true → x ≡ value.Missing
missing_is value.Missing h = refl
missing_is _ h = absurd (false≢true h)

-- what a sample has of a variable without a constant
abbrev own_values : Option Kind → Value → List Value
own_values k x = if is_none k then [] else x ∷ []

missing_read : (k : Option Kind) (n m : ℕ) → marked_value k (record { number = n; bytes = value_text value.Missing }) (record { number = m; bytes = mark_text value.Missing }) ≡ Ok (own_values k value.Missing)
unfolding marked_value
missing_read None n m = refl
missing_read (Some k) n m = refl

said : (k : Option Kind) (x : Value) (n : ℕ) (text : List ℕ) → is_value_of k x ≡ true → IsValueWithin x → text ≡ spelling x
    → read_value k (record { number = n; bytes = text }) ≡ Ok (own_values k x)
unfolding read_value
said None x n text h within is = refl
said (Some k) x n text h within is =
    let of_kind = (and_parts (is_of_kind k x) (is_line (value_text x)) h).0 in
    ap (λ (o : Option Value). or_refused BadValue n o >>= λ v. Ok (v ∷ [])) (ap (value_of_text k) is ∙ value_back k x of_kind within)

value_read : (k : Option Kind) (x : Value) (n m : ℕ) → is_value_of k x ≡ true → IsValueWithin x
    → marked_value k (record { number = n; bytes = value_text x }) (record { number = m; bytes = mark_text x }) ≡ Ok (own_values k x)
unfolding marked_value
value_read k x n m h within = go (is_missing x) refl
  where
    there : (text mark : List ℕ) → text ≡ spelling x → mark ≡ codes "1" → marked_value k (record { number = n; bytes = text }) (record { number = m; bytes = mark }) ≡ Ok (own_values k x)
    there text mark is one =
        ap (λ (b : List ℕ). marked (no_value k) (read_value k (record { number = n; bytes = text })) (record { number = m; bytes = b })) one
        ∙ said k x n text h within is

    go : (b : Bool) → is_missing x ≡ b → marked_value k (record { number = n; bytes = value_text x }) (record { number = m; bytes = mark_text x }) ≡ Ok (own_values k x)
    go true e =
        let same : x ≡ value.Missing = missing_is x e in
        ap (λ (y : Value). marked_value k (record { number = n; bytes = value_text y }) (record { number = m; bytes = mark_text y })) same
        ∙ missing_read k n m ∙ ap (λ (y : Value). Ok (own_values k y)) (sym same)
    go false e = there (value_text x) (mark_text x) (rw e refl) (rw e refl)

-- ---- the values

named : (v : VarDecl) (n : ℕ) → named_kind v (record { number = n; bytes = escaped v.name }) ≡ Ok v.kind
unfolding named_kind
named v n = rw (unescaped_of_escaped v.name, (bytes_eq-Decides v.name v.name).1 refl) refl

told_read : (v : VarDecl) (x : Value) (others : Reads (List Value)) (n : ℕ) (ls : List Line) (close : Option ℕ) → is_value_of v.kind x ≡ true → IsValueWithin x
    → from_name v others (record { number = n; bytes = escaped v.name } ∷ record { number = n + 1; bytes = value_text x } ∷ record { number = n + 1 + 1; bytes = mark_text x } ∷ ls) close
    ≡ then_values (own_values v.kind x) (others ls close)
told_read v x others n ls close h within =
    let text : Line = record { number = n + 1; bytes = value_text x } in
    let mark : Line = record { number = n + 1 + 1; bytes = mark_text x } in
    ap (λ (r : Result (Option Kind) LineFault). r >>= λ k. from_value k others (text ∷ mark ∷ ls) close) (named v n)
    ∙ ap (λ (r : Result (List Value) LineFault). r >>= λ front. then_values front (others ls close)) (value_read v.kind x (n + 1) (n + 1 + 1) h within)

values_read : (vs : List VarDecl) (xs : List Value) (n : ℕ) (close : Option ℕ) → length vs ≡ length xs → list_all is_told_value (zip vs xs) ≡ true → All IsValueWithin xs
    → record_values vs (numbered_lines n (flat_map told_lines (zip vs xs))) close ≡ Ok (flat_map told_values (zip vs xs))
values_read [] [] n close same h within = refl
values_read [] (x ∷ xs) n close same h within = absurd (omega arith)
values_read (v ∷ vs) [] n close same h within = absurd (omega arith)
values_read (v ∷ vs) (x ∷ xs) n close same h within =
    let both = and_parts (is_told_value (v, x)) (list_all is_told_value (zip vs xs)) h in
    go v.constant_line both.0 (λ m. values_read vs xs m close (omega arith) both.1 (All-tail IsValueWithin x xs within))
  where
    go : (there : Bool) → (there || (not (is_nonce_name v) && is_value_of v.kind x)) ≡ true
        → ((m : ℕ) → record_values vs (numbered_lines m (flat_map told_lines (zip vs xs))) close ≡ Ok (flat_map told_values (zip vs xs)))
        → (if there then then_values (known_values v.constant) (record_values vs (numbered_lines n ((if there then [] else escaped v.name ∷ value_text x ∷ mark_text x ∷ []) ++ flat_map told_lines (zip vs xs))) close)
        else from_name v (record_values vs) (numbered_lines n ((if there then [] else escaped v.name ∷ value_text x ∷ mark_text x ∷ []) ++ flat_map told_lines (zip vs xs))) close)
        ≡ Ok ((if there then known_values v.constant else own_values v.kind x) ++ flat_map told_values (zip vs xs))
    go true here later = ap (then_values (known_values v.constant)) (later n)
    go false here later =
        let value = and_parts (not (is_nonce_name v)) (is_value_of v.kind x) here in
        told_read v x (record_values vs) n (numbered_lines (n + 1 + 1 + 1) (flat_map told_lines (zip vs xs))) close value.1 (All-head IsValueWithin x xs within)
        ∙ ap (then_values (own_values v.kind x)) (later (n + 1 + 1 + 1))

-- ---- the lines behind the first

-- no nonce follows the first of these lines
abbrev NoNonce : List Line → Type 0
NoNonce [] = Unit {0}
NoNonce (l ∷ ls) = is_nonce_line l ≡ false

no_nonce : (vs : List VarDecl) (xs : List Value) (n : ℕ) → list_all is_told_value (zip vs xs) ≡ true → NoNonce (numbered_lines n (flat_map told_lines (zip vs xs)))
unfolding is_nonce_line
no_nonce [] xs n h = tt
no_nonce (v ∷ vs) [] n h = tt
no_nonce (v ∷ vs) (x ∷ xs) n h =
    let both = and_parts (is_told_value (v, x)) (list_all is_told_value (zip vs xs)) h in
    go v.constant_line both.0 (no_nonce vs xs n both.1)
  where
    go : (there : Bool) → (there || (not (is_nonce_name v) && is_value_of v.kind x)) ≡ true → NoNonce (numbered_lines n (flat_map told_lines (zip vs xs)))
        → NoNonce (numbered_lines n ((if there then [] else escaped v.name ∷ value_text x ∷ mark_text x ∷ []) ++ flat_map told_lines (zip vs xs)))
    go true here later = later
    go false here later = not-true (is_nonce_name v) (and_parts (not (is_nonce_name v)) (is_value_of v.kind x) here).0

body_plain : (vs : List VarDecl) (ls : List Line) (close : Option ℕ) → NoNonce ls → body_of vs ls close ≡ body_with None (record_values vs ls close)
unfolding body_of
body_plain vs [] close h = refl
body_plain vs (l ∷ ls) close h = rw h refl

nonce_read : (n : ℕ) (z : ℤ) → IsTrue (fits_i64 z) → nonce_of (record { number = n; bytes = signed_decimal z }) ≡ Ok z
unfolding nonce_of
nonce_read n z fits = rw (integer_back z fits) refl

body_nonced : (vs : List VarDecl) (n : ℕ) (z : ℤ) (lines : List (List ℕ)) (close : Option ℕ) → IsTrue (fits_i64 z)
    → body_of vs (numbered_lines n (nonce_lines (Some z) ++ lines)) close ≡ body_with (Some z) (record_values vs (numbered_lines (n + 1 + 1) lines) close)
unfolding body_of is_nonce_line
body_nonced vs n z lines close fits =
    ap (λ (r : Result ℤ LineFault). r >>= λ nonce. body_with (Some nonce) (record_values vs (numbered_lines (n + 1 + 1) lines) close)) (nonce_read (n + 1) z fits)

body_read : (vs : List VarDecl) (xs : List Value) (nonce : Option ℤ) (n : ℕ) (close : Option ℕ) → length vs ≡ length xs → list_all is_told_value (zip vs xs) ≡ true → All IsValueWithin xs
    → IfSome nonce (λ z. IsTrue (fits_i64 z))
    → body_of vs (numbered_lines n (nonce_lines nonce ++ flat_map told_lines (zip vs xs))) close ≡ Ok (record { nonce = nonce; values = flat_map told_values (zip vs xs) })
body_read vs xs None n close same h within fits =
    body_plain vs (numbered_lines n (flat_map told_lines (zip vs xs))) close (no_nonce vs xs n h) ∙ ap (body_with None) (values_read vs xs n close same h within)
body_read vs xs (Some z) n close same h within fits =
    body_nonced vs n z (flat_map told_lines (zip vs xs)) close fits ∙ ap (body_with (Some z)) (values_read vs xs (n + 1 + 1) close same h within)

-- ---- the record

point_read : (ps : List Point) (n p : ℕ) (name : List ℕ) → declared_place ps name ≡ Some p → point_named_by ps (record { number = n; bytes = escaped name }) ≡ Ok p
unfolding point_named_by
point_read ps n p name at = rw (unescaped_of_escaped name, at) refl

pub sample_read : (ps : List Point) (r : Recorded) (n p : ℕ) (close : Option ℕ) → declared_place ps r.decl.name ≡ Some p → var_decls_at ps p ≡ r.decl.vars
    → length r.decl.vars ≡ length r.values → list_all is_told_value (zip r.decl.vars r.values) ≡ true → All IsValueWithin r.values → IfSome r.nonce (λ z. IsTrue (fits_i64 z))
    → sample_of ps (record { number = n; bytes = escaped r.decl.name }) (numbered_lines (n + 1) (nonce_lines r.nonce ++ flat_map told_lines (zip r.decl.vars r.values))) close
    ≡ Ok (sample_at n p r)
unfolding sample_of
sample_read ps r n p close at vars same h within fits =
    let lines : List Line = numbered_lines (n + 1) (nonce_lines r.nonce ++ flat_map told_lines (zip r.decl.vars r.values)) in
    ap (λ (q : Result ℕ LineFault). q >>= λ place. sample_with place n (body_of (var_decls_at ps place) lines close)) (point_read ps n p r.decl.name at)
    ∙ ap (λ (vs : List VarDecl). sample_with p n (body_of vs lines close)) vars
    ∙ ap (sample_with p n) (body_read r.decl.vars r.values r.nonce (n + 1) close same h within fits)
