-- Records whose lines have fewer than 2^63 bytes have short values, and so have the samples that they give.
use Rattle.std.proofs.Common.{◌≡◌, ◌||◌, ◌++◌, ◌^◌, ℕ, ℤ, zero, suc, Bool, true, false, All, find, is_some, List, [], ◌∷◌, codes, option_map, Option, Some, None, Result, Ok, Err, refl, subst, arith, if◌then◌else◌}
use Rattle.std.specs.Prelude.{⊤}
use Rattle.std.proofs.lemmas.List.Elements.{All-append, All-cons, All-head, All-nil, All-tail}
use Rattle.std.specs.List.{cons_option, list_any}
use Rattle.std.specs.Option.{option_map_or}
use Rattle.std.specs.Str.{bytes_eq}
use Rattle.dk_base.specs.Reading.{Line, LineFault, ◌>>=◌}
use Rattle.dk_base.specs.Values.{value_of_text}
use Rattle.dk_base.specs.declared.kinds.Kind.{Kind}
use Rattle.dk_base.specs.declared.kinds.VarInfo.{VarInfo}
use Rattle.dk_base.specs.declared.values.Value.{Value}
use Rattle.dk_base.specs.declared.values.Value.TheVariants as value
use Rattle.dk_base.specs.declared.why.Why.TheVariants.{BadMark, BadValue, UnmatchedExit}
use Rattle.dk_calls.specs.Origs.{orig_values, own_vars}
use Rattle.dk_calls.specs.Records.{call_of, entry_with, is_entry_at, values_at_exit, with_entry}
use Rattle.dk_calls.specs.Waiting.{Call, Entry, enters, entry_of_call, exits, is_of, is_plain, left_by, other, waiting_of, without_first, without_plain}
use Rattle.dk_decl.proofs.LastLines.{bind_ok}
use Rattle.dk_decl.specs.Outcomes.{or_refused, refused}
use Rattle.dk_decl.specs.declared.decls.PointDecl.{PointDecl}
use Rattle.dk_decl.specs.declared.decls.VarDecl.{VarDecl}
use Rattle.dk_points.specs.Table.{Point, decl_if_declared}
use Rattle.dk_points.specs.Vars.{entry_of, orig_var}
use Rattle.dk_state.specs.Declarations.{decls_of}
use Rattle.dk_trace.specs.Bodies.{Body, body_of, body_with, from_nonce, is_nonce_line, nonce_of}
use Rattle.dk_trace.specs.Marks.{marked_value, no_value, read_value}
use Rattle.dk_trace.specs.Records.{Sample, point_named_by, sample_of, sample_with, var_decls_at}
use Rattle.dk_trace.specs.Values.{from_name, from_value, known_values, named_kind, record_values, then_values}
use Rattle.dk_blocks.specs.History.{base_values}
use Rattle.dk_core.proofs.Short.{IsShort, IsShortLine, text_short}

-- ---- constants
-- the constant of a variable that has one is short
abbrev pub HasShortConstant : VarDecl → Type 0
HasShortConstant v = v.constant_line ≡ true → All IsShort (known_values v.constant)

abbrev pub HasShortConstants : PointDecl → Type 0
HasShortConstants d = All HasShortConstant d.vars

-- the declarations of a table have short constants
abbrev pub ConstantsAreShort : List Point → Type 0
ConstantsAreShort ps = All HasShortConstants (decls_of ps)

constants_at : (ps : List Point) (p : ℕ) → ConstantsAreShort ps → All HasShortConstant (var_decls_at ps p)
unfolding var_decls_at
constants_at [] p all = All-nil HasShortConstant
constants_at (q ∷ ps) zero all = by (decl_if_declared q) refl
  where
    by : (o : Option PointDecl) → decl_if_declared q ≡ o → All HasShortConstant (option_map_or (λ d. d.vars) o [])
    by None is = All-nil HasShortConstant
    by (Some d) is = All-head HasShortConstants d (decls_of ps) (subst (λ (o : Option PointDecl). All HasShortConstants (cons_option o (decls_of ps))) is all)
constants_at (q ∷ ps) (suc p) all = constants_at ps p (by (decl_if_declared q) all)
  where
    by : (o : Option PointDecl) → All HasShortConstants (cons_option o (decls_of ps)) → ConstantsAreShort ps
    by None all = all
    by (Some d) all = All-tail HasShortConstants d (decls_of ps) all

-- ---- the values of a record
one_short : (v : Value) → IsShort v → All IsShort (v ∷ [])
one_short v short = All-cons IsShort v [] short (All-nil IsShort)

read_short : (k : Option Kind) (text : Line) (front : List Value) → IsShortLine text → read_value k text ≡ Ok front → All IsShort front
unfolding read_value
read_short None text front few e = let same : [] ≡ front = cc e in subst (All IsShort) same (All-nil IsShort)
read_short (Some k) text front few e = by (value_of_text k text.bytes) refl e
  where
    by : (o : Option Value) → value_of_text k text.bytes ≡ o → (or_refused BadValue text.number o >>= λ v. Ok (v ∷ [])) ≡ Ok front → All IsShort front
    by None is e = absurd (cc e)
    by (Some v) is e = let same : v ∷ [] ≡ front = cc e in subst (All IsShort) same (one_short v (text_short k text.bytes v few is))

missing_short : (k : Option Kind) → All IsShort (no_value k)
missing_short None = All-nil IsShort
missing_short (Some k) = one_short value.Missing (omega arith)

marked_short : (k : Option Kind) (text mark : Line) (front : List Value) → IsShortLine text → marked_value k text mark ≡ Ok front → All IsShort front
unfolding marked_value
marked_short k text mark front few e = by (bytes_eq mark.bytes (codes "2")) (bytes_eq mark.bytes (codes "0") || bytes_eq mark.bytes (codes "1")) e
  where
    by : (missing marked : Bool) → (if missing then Ok (no_value k) else if marked then read_value k text else refused BadMark mark.number) ≡ Ok front → All IsShort front
    by true marked e = let same : no_value k ≡ front = cc e in subst (All IsShort) same (missing_short k)
    by false true e = read_short k text front few e
    by false false e = absurd (cc e)

joined_short : (front : List Value) (read : Result (List Value) LineFault) (xs : List Value) → All IsShort front → ((ys : List Value) → read ≡ Ok ys → All IsShort ys) → then_values front read ≡ Ok xs
    → All IsShort xs
joined_short front (Ok ys) xs own others e = let same : front ++ ys ≡ xs = cc e in subst (All IsShort) same (All-append IsShort front ys own (others ys refl))
joined_short front (Err fault) xs own others e = absurd (cc e)

values_short : (vs : List VarDecl) (ls : List Line) (close : ℕ) (xs : List Value) → All HasShortConstant vs → All IsShortLine ls → record_values vs ls (Some close) ≡ Ok xs → All IsShort xs
values_short [] [] close xs all few e = let same : [] ≡ xs = cc e in subst (All IsShort) same (All-nil IsShort)
values_short [] (l ∷ ls) close xs all few e = absurd (cc e)
values_short (v ∷ vs) ls close xs all few e =
    by v.constant_line refl e (All-head HasShortConstant v vs all)
    (λ (ls : List Line) (ys : List Value) (few : All IsShortLine ls) read. values_short vs ls close ys (All-tail HasShortConstant v vs all) few read)
  where
    from : (ls : List Line) → All IsShortLine ls → from_name v (record_values vs) ls (Some close) ≡ Ok xs
        → ((ls : List Line) (ys : List Value) → All IsShortLine ls → record_values vs ls (Some close) ≡ Ok ys → All IsShort ys) → All IsShort xs
    from [] few e others = absurd (cc e)
    from (l ∷ []) few e others = bind_ok (named_kind v l) (λ k. from_value k (record_values vs) [] (Some close)) xs e (λ k is cut. absurd (cc cut))
    from (l ∷ t ∷ []) few e others = bind_ok (named_kind v l) (λ k. from_value k (record_values vs) (t ∷ []) (Some close)) xs e (λ k is cut. absurd (cc cut))
    from (l ∷ t ∷ m ∷ ls) few e others =
        let behind = All-tail IsShortLine l (t ∷ m ∷ ls) few in
        bind_ok (named_kind v l) (λ k. from_value k (record_values vs) (t ∷ m ∷ ls) (Some close)) xs e (λ k is marked.
        bind_ok (marked_value k t m) (λ front. then_values front (record_values vs ls (Some close))) xs marked (λ front given whole.
        joined_short front (record_values vs ls (Some close)) xs (marked_short k t m front (All-head IsShortLine t (m ∷ ls) behind) given)
        (λ ys read. others ls ys (All-tail IsShortLine m ls (All-tail IsShortLine t (m ∷ ls) behind)) read) whole))

    by : (b : Bool) → v.constant_line ≡ b
        → (if b then then_values (known_values v.constant) (record_values vs ls (Some close)) else from_name v (record_values vs) ls (Some close)) ≡ Ok xs
        → HasShortConstant v → ((ls : List Line) (ys : List Value) → All IsShortLine ls → record_values vs ls (Some close) ≡ Ok ys → All IsShort ys) → All IsShort xs
    by true has e own others = joined_short (known_values v.constant) (record_values vs ls (Some close)) xs (own has) (λ ys read. others ls ys few read) e
    by false has e own others = from ls few e others

with_nonce_short : (vs : List VarDecl) (n : Option ℤ) (ls : List Line) (close : ℕ) (b : Body) → All HasShortConstant vs → All IsShortLine ls → body_with n (record_values vs ls (Some close)) ≡ Ok b
    → All IsShort b.values
with_nonce_short vs n ls close b all few e =
    bind_ok (record_values vs ls (Some close)) (λ xs. Ok (record { nonce = n; values = xs })) b e (λ xs is whole.
    let same : xs ≡ b.values = cc whole in subst (All IsShort) same (values_short vs ls close xs all few is))

body_short : (vs : List VarDecl) (ls : List Line) (close : ℕ) (b : Body) → All HasShortConstant vs → All IsShortLine ls → body_of vs ls (Some close) ≡ Ok b → All IsShort b.values
unfolding body_of
body_short vs [] close b all few e = with_nonce_short vs None [] close b all few e
body_short vs (l ∷ ls) close b all few e = by (is_nonce_line l) e
  where
    numbered : (ls : List Line) → All IsShortLine ls → from_nonce vs ls (Some close) ≡ Ok b → All IsShort b.values
    numbered [] few e = absurd (cc e)
    numbered (n ∷ ls) few e =
        bind_ok (nonce_of n) (λ z. body_with (Some z) (record_values vs ls (Some close))) b e (λ z is whole. with_nonce_short vs (Some z) ls close b all (All-tail IsShortLine n ls few) whole)

    by : (c : Bool) → (if c then from_nonce vs ls (Some close) else body_with None (record_values vs (l ∷ ls) (Some close))) ≡ Ok b → All IsShort b.values
    by true e = numbered ls (All-tail IsShortLine l ls few) e
    by false e = with_nonce_short vs None (l ∷ ls) close b all few e

pub sample_short : (ps : List Point) (first : Line) (ls : List Line) (close : ℕ) (s : Sample) → ConstantsAreShort ps → All IsShortLine ls → sample_of ps first ls (Some close) ≡ Ok s
    → All IsShort s.values
unfolding sample_of
sample_short ps first ls close s all few e =
    bind_ok (point_named_by ps first) (λ p. sample_with p first.number (body_of (var_decls_at ps p) ls (Some close))) s e (λ p is read.
    bind_ok (body_of (var_decls_at ps p) ls (Some close)) (λ b. Ok (record { point = p; line = first.number; nonce = b.nonce; values = b.values })) s read (λ b body whole.
    let same : b.values ≡ s.values = cc whole in
    subst (All IsShort) same (body_short (var_decls_at ps p) ls close b (constants_at ps p all) few body)))

-- ---- entries that wait
abbrev EntryIsShort : Entry → Type 0
EntryIsShort w = All IsShort w.values

-- a record that may be matched later has short values
abbrev pub CallIsShort : Call → Type 0
CallIsShort (enters w) = All IsShort w.values
CallIsShort (exits point n) = ⊤
CallIsShort other = ⊤

short_first : (p : Entry → Bool) (ws : List Entry) → All EntryIsShort ws → All EntryIsShort (without_first p ws)
short_first p [] all = all
short_first p (w ∷ ws) all = by (p w) (short_first p ws (All-tail EntryIsShort w ws all))
  where
    by : (b : Bool) → All EntryIsShort (without_first p ws) → All EntryIsShort (if b then ws else w ∷ without_first p ws)
    by true rest = All-tail EntryIsShort w ws all
    by false rest = All-cons EntryIsShort w (without_first p ws) (All-head EntryIsShort w ws all) rest

short_plain : (point : ℕ) (ws : List Entry) → All EntryIsShort ws → All EntryIsShort (without_plain point ws)
short_plain point [] all = all
short_plain point (w ∷ ws) all = by (is_of point None w) (is_plain w) (short_plain point ws (All-tail EntryIsShort w ws all))
  where
    by : (own plain : Bool) → All EntryIsShort (without_plain point ws) → All EntryIsShort (if own then ws else if plain then without_plain point ws else w ∷ without_plain point ws)
    by true plain rest = All-tail EntryIsShort w ws all
    by false true rest = rest
    by false false rest = All-cons EntryIsShort w (without_plain point ws) (All-head EntryIsShort w ws all) rest

short_left : (point : ℕ) (n : Option ℤ) (ws : List Entry) → All EntryIsShort ws → All EntryIsShort (left_by point n ws)
short_left point (Some n) ws all = short_first (is_of point (Some n)) ws all
short_left point None ws all = by (list_any (is_of point None) ws)
  where
    by : (b : Bool) → All EntryIsShort (if b then without_plain point ws else ws)
    by true = short_plain point ws all
    by false = all

waiting_short : (earlier : List Call) → All CallIsShort earlier → All EntryIsShort (waiting_of earlier)
waiting_short [] all = All-nil EntryIsShort
waiting_short (enters w ∷ earlier) all = All-cons EntryIsShort w _ (All-head CallIsShort (enters w) earlier all) (waiting_short earlier (All-tail CallIsShort (enters w) earlier all))
waiting_short (exits point n ∷ earlier) all = short_left point n (waiting_of earlier) (waiting_short earlier (All-tail CallIsShort (exits point n) earlier all))
waiting_short (other ∷ earlier) all = waiting_short earlier (All-tail CallIsShort other earlier all)

found_short : (p : Entry → Bool) (ws : List Entry) (w : Entry) → All EntryIsShort ws → find p ws ≡ Some w → EntryIsShort w
found_short p [] w all e = absurd (cc e)
found_short p (v ∷ ws) w all e = by (p v) e (λ more. found_short p ws w (All-tail EntryIsShort v ws all) more)
  where
    by : (b : Bool) → (if b then Some v else find p ws) ≡ Some w → (find p ws ≡ Some w → EntryIsShort w) → EntryIsShort w
    by true e rest = let same : v ≡ w = cc e in subst EntryIsShort same (All-head EntryIsShort v ws all)
    by false e rest = rest e

taken_short : (call : Call) (earlier : List Call) (w : Entry) → All CallIsShort earlier → entry_of_call call earlier ≡ Some w → EntryIsShort w
taken_short (exits point n) earlier w all e = found_short (is_of point n) (waiting_of earlier) w (waiting_short earlier all) e
taken_short (enters v) earlier w all e = absurd (cc e)
taken_short other earlier w all e = absurd (cc e)

pub call_short : (ps : List Point) (s : Sample) → All IsShort s.values → CallIsShort (call_of ps s)
unfolding call_of
call_short ps s short = by (entry_of ps s.point) (is_entry_at ps s.point)
  where
    by : (o : Option ℕ) (b : Bool) → CallIsShort (option_map_or (λ e. exits e s.nonce) o (if b then enters (entry_with s) else other))
    by (Some e) b = tt
    by None true = short
    by None false = tt

-- ---- base values
origs_short : (exit entry : List VarInfo) (values : List Value) → All IsShort values → All IsShort (orig_values entry exit values)
unfolding orig_values
origs_short exit [] values all = All-nil IsShort
origs_short exit (v ∷ vars) [] all = All-nil IsShort
origs_short exit (v ∷ vars) (x ∷ xs) all = by (orig_var exit v) (origs_short exit vars xs (All-tail IsShort x xs all))
  where
    by : (o : Option VarInfo) → All IsShort (orig_values vars exit xs) → All IsShort (cons_option (option_map (λ _. x) o) (orig_values vars exit xs))
    by None rest = rest
    by (Some w) rest = All-cons IsShort x (orig_values vars exit xs) (All-head IsShort x xs all) rest

pub base_short : (ps : List Point) (s : Sample) (earlier : List Call) (values : List Value) → All IsShort s.values → All CallIsShort earlier → base_values ps s earlier ≡ Ok values → All IsShort values
unfolding base_values values_at_exit
base_short ps s earlier values own all e = by (is_some (entry_of ps s.point)) e
  where
    at_exit : (o : Option Entry) → entry_of_call (call_of ps s) earlier ≡ o → (or_refused UnmatchedExit s.line o >>= λ w. Ok (with_entry ps s w)) ≡ Ok values → All IsShort values
    at_exit None is e = absurd (cc e)
    at_exit (Some w) is e =
        let same : with_entry ps s w ≡ values = cc e in
        let entered = taken_short (call_of ps s) earlier w all is in
        subst (All IsShort) same
        (All-append IsShort s.values (orig_values (own_vars ps w.point) (own_vars ps s.point) w.values) own (origs_short (own_vars ps s.point) (own_vars ps w.point) w.values entered))

    by : (b : Bool) → (if b then (or_refused UnmatchedExit s.line (entry_of_call (call_of ps s) earlier) >>= λ w. Ok (with_entry ps s w)) else Ok s.values) ≡ Ok values → All IsShort values
    by true e = at_exit (entry_of_call (call_of ps s) earlier) refl e
    by false e = let same : s.values ≡ values = cc e in subst (All IsShort) same own
