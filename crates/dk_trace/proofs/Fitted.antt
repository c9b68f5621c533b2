-- The values of a sample fit the declared variables of its point.
use Rattle.std.proofs.Common.{◌≡◌, ◌||◌, ◌++◌, ℕ, ℤ, Bool, true, false, All, List, [], ◌∷◌, codes, Option, Some, None, Result, Ok, Err, refl, sym, subst, if◌then◌else◌}
use Rattle.std.proofs.lemmas.List.Elements.{All-cons, All-head, All-nil, All-tail}
use Rattle.std.specs.List.{cons_option}
use Rattle.std.specs.Str.{bytes_eq}
use Rattle.dk_base.specs.Names.{unescaped}
use Rattle.dk_base.specs.Reading.{Line, LineFault, ◌>>=◌}
use Rattle.dk_base.specs.Values.Spelling.{IsWritten}
use Rattle.dk_base.specs.Values.{IsOfKind, value_of_text}
use Rattle.dk_base.specs.declared.kinds.Kind.{Kind}
use Rattle.dk_base.specs.declared.values.Value.{Value}
use Rattle.dk_base.specs.declared.values.Value.TheVariants as value
use Rattle.dk_base.specs.declared.why.Why.TheVariants.{BadMark, BadValue, WrongName}
use Rattle.dk_base.proofs.Written.{read_is_written}
use Rattle.dk_decl.proofs.LastLines.{bind_ok}
use Rattle.dk_decl.specs.Outcomes.{or_refused, refused}
use Rattle.dk_decl.specs.declared.decls.VarDecl.{VarDecl}
use Rattle.dk_trace.specs.Bodies.{Body, body_of, body_with, from_nonce, is_nonce_line, nonce_of}
use Rattle.dk_trace.specs.Fitting.{FitKinds, FitsKind, HasFittingConstant, ValuesFit, declared_kinds}
use Rattle.dk_trace.specs.Marks.{marked_value, no_value, read_value}
use Rattle.dk_trace.specs.Records.{point_named_by, sample_of, sample_with, var_decls_at}
use Rattle.dk_trace.specs.Values.{from_name, from_value, known_values, named_kind, record_values, then_values}

-- the values of one variable
abbrev FitsOne : Option Kind → List Value → Type 0
FitsOne k front = (kinds : List Kind) (back : List Value) → FitKinds kinds back → FitKinds (cons_option k kinds) (front ++ back)

fits_none : FitsOne None []
fits_none = λ (kinds : List Kind) (back : List Value) h. h

fits_some : (k : Kind) (v : Value) → IsOfKind k v → IsWritten v → FitsOne (Some k) (v ∷ [])
fits_some k v own written = λ (kinds : List Kind) (back : List Value) h. ((own, h.0), All-cons IsWritten v back written h.1)

fits_constant : (k : Option Kind) (c : Option Value) → FitsKind k c → FitsOne k (known_values c)
fits_constant None None h = fits_none
fits_constant None (Some c) h = absurd h
fits_constant (Some k) None h = absurd h
fits_constant (Some k) (Some c) h = fits_some k c h.0 h.1

fits_read : (k : Option Kind) (text : Line) (front : List Value) → read_value k text ≡ Ok front → FitsOne k front
unfolding read_value
fits_read None text front e = let same : [] ≡ front = cc e in subst (FitsOne None) same fits_none
fits_read (Some k) text front e = by (value_of_text k text.bytes) refl e
  where
    by : (o : Option Value) → value_of_text k text.bytes ≡ o → (or_refused BadValue text.number o >>= λ v. Ok (v ∷ [])) ≡ Ok front → FitsOne (Some k) front
    by None is e = absurd (cc e)
    by (Some v) is e =
        let same : v ∷ [] ≡ front = cc e in
        let fits = read_is_written k text.bytes v is in
        subst (FitsOne (Some k)) same (fits_some k v fits.0 fits.1)

fits_missing : (k : Option Kind) → FitsOne k (no_value k)
fits_missing None = fits_none
fits_missing (Some k) = fits_some k value.Missing tt tt

fits_marked : (k : Option Kind) (text mark : Line) (front : List Value) → marked_value k text mark ≡ Ok front → FitsOne k front
unfolding marked_value
fits_marked k text mark front e = by (bytes_eq mark.bytes (codes "2")) (bytes_eq mark.bytes (codes "0") || bytes_eq mark.bytes (codes "1")) e
  where
    by : (missing marked : Bool) → (if missing then Ok (no_value k) else if marked then read_value k text else refused BadMark mark.number) ≡ Ok front → FitsOne k front
    by true marked e = let same : no_value k ≡ front = cc e in subst (FitsOne k) same (fits_missing k)
    by false true e = fits_read k text front e
    by false false e = absurd (cc e)

-- the kind that the name gives is the variable's
kind_named : (v : VarDecl) (l : Line) (k : Option Kind) → named_kind v l ≡ Ok k → v.kind ≡ k
unfolding named_kind
kind_named v l k e = by (bytes_eq (unescaped l.bytes) v.name) e
  where
    by : (b : Bool) → (if b then Ok v.kind else refused WrongName l.number) ≡ Ok k → v.kind ≡ k
    by true e = cc e
    by false e = absurd (cc e)

joined : (kind : Option Kind) (vs : List VarDecl) (front : List Value) (read : Result (List Value) LineFault) (xs : List Value) → FitsOne kind front
    → ((ys : List Value) → read ≡ Ok ys → FitKinds (declared_kinds vs) ys) → then_values front read ≡ Ok xs → FitKinds (cons_option kind (declared_kinds vs)) xs
joined kind vs front (Ok ys) xs fits others e =
    let same : front ++ ys ≡ xs = cc e in
    let P : List Value → Type 0 = λ l. FitKinds (cons_option kind (declared_kinds vs)) l in
    subst P same (fits (declared_kinds vs) ys (others ys refl))
joined kind vs front (Err d) xs fits others e = absurd (cc e)

values_fit : (vs : List VarDecl) (ls : List Line) (close : ℕ) (xs : List Value) → All HasFittingConstant vs → record_values vs ls (Some close) ≡ Ok xs → FitKinds (declared_kinds vs) xs
values_fit [] [] close xs all e = let same : [] ≡ xs = cc e in let P : List Value → Type 0 = λ l. FitKinds [] l in subst P same (tt, All-nil IsWritten)
values_fit [] (l ∷ ls) close xs all e = absurd (cc e)
values_fit (v ∷ vs) ls close xs all e =
    by v.constant_line refl e (All-head HasFittingConstant v vs all) (λ (ls : List Line) (ys : List Value) read. values_fit vs ls close ys (All-tail HasFittingConstant v vs all) read)
  where
    from : (ls : List Line) → from_name v (record_values vs) ls (Some close) ≡ Ok xs
        → ((ls : List Line) (ys : List Value) → record_values vs ls (Some close) ≡ Ok ys → FitKinds (declared_kinds vs) ys) → FitKinds (cons_option v.kind (declared_kinds vs)) xs
    from [] e others = absurd (cc e)
    from (l ∷ []) e others = bind_ok (named_kind v l) (λ k. from_value k (record_values vs) [] (Some close)) xs e (λ k is short. absurd (cc short))
    from (l ∷ t ∷ []) e others = bind_ok (named_kind v l) (λ k. from_value k (record_values vs) (t ∷ []) (Some close)) xs e (λ k is short. absurd (cc short))
    from (l ∷ t ∷ m ∷ ls) e others =
        bind_ok (named_kind v l) (λ k. from_value k (record_values vs) (t ∷ m ∷ ls) (Some close)) xs e (λ k is marked.
        bind_ok (marked_value k t m) (λ front. then_values front (record_values vs ls (Some close))) xs marked (λ front given whole.
        let kind : k ≡ v.kind = sym (kind_named v l k is) in
        let P : Option Kind → Type 0 = λ o. FitsOne o front in
        joined v.kind vs front (record_values vs ls (Some close)) xs (subst P kind (fits_marked k t m front given)) (others ls) whole))

    by : (b : Bool) → v.constant_line ≡ b
        → (if b then then_values (known_values v.constant) (record_values vs ls (Some close)) else from_name v (record_values vs) ls (Some close)) ≡ Ok xs
        → HasFittingConstant v → ((ls : List Line) (ys : List Value) → record_values vs ls (Some close) ≡ Ok ys → FitKinds (declared_kinds vs) ys) → FitKinds (cons_option v.kind (declared_kinds vs)) xs
    by true has e own others = joined v.kind vs (known_values v.constant) (record_values vs ls (Some close)) xs (fits_constant v.kind v.constant (own has)) (others ls) e
    by false has e own others = from ls e others

with_nonce : (vs : List VarDecl) (n : Option ℤ) (ls : List Line) (close : ℕ) (b : Body) → All HasFittingConstant vs → body_with n (record_values vs ls (Some close)) ≡ Ok b → FitKinds (declared_kinds vs) b.values
with_nonce vs n ls close b all e =
    bind_ok (record_values vs ls (Some close)) (λ xs. Ok (record { nonce = n; values = xs })) b e (λ xs is whole.
    let same : xs ≡ b.values = cc whole in
    let P : List Value → Type 0 = λ l. FitKinds (declared_kinds vs) l in
    subst P same (values_fit vs ls close xs all is))

bodies_fit : (vs : List VarDecl) (ls : List Line) (close : ℕ) (b : Body) → All HasFittingConstant vs → body_of vs ls (Some close) ≡ Ok b → FitKinds (declared_kinds vs) b.values
unfolding body_of
bodies_fit vs [] close b all e = with_nonce vs None [] close b all e
bodies_fit vs (l ∷ ls) close b all e = by (is_nonce_line l) e
  where
    numbered : (ls : List Line) → from_nonce vs ls (Some close) ≡ Ok b → FitKinds (declared_kinds vs) b.values
    numbered [] e = absurd (cc e)
    numbered (n ∷ ls) e = bind_ok (nonce_of n) (λ z. body_with (Some z) (record_values vs ls (Some close))) b e (λ z is whole. with_nonce vs (Some z) ls close b all whole)

    by : (c : Bool) → (if c then from_nonce vs ls (Some close) else body_with None (record_values vs (l ∷ ls) (Some close))) ≡ Ok b → FitKinds (declared_kinds vs) b.values
    by true e = numbered ls e
    by false e = with_nonce vs None (l ∷ ls) close b all e

pub samples_fit : ValuesFit
unfolding sample_of
samples_fit ps first ls close s all e =
    bind_ok (point_named_by ps first) (λ p. sample_with p first.number (body_of (var_decls_at ps p) ls (Some close))) s e (λ p is read.
    bind_ok (body_of (var_decls_at ps p) ls (Some close)) (λ b. Ok (record { point = p; line = first.number; nonce = b.nonce; values = b.values })) s read (λ b body whole.
    let point : p ≡ s.point = cc whole in
    let values : b.values ≡ s.values = cc whole in
    let P : ℕ → Type 0 = λ q. body_of (var_decls_at ps q) ls (Some close) ≡ Ok b in
    let Q : List Value → Type 0 = λ l. FitKinds (declared_kinds (var_decls_at ps s.point)) l in
    subst Q values (bodies_fit (var_decls_at ps s.point) ls close b all (subst P point body))))
