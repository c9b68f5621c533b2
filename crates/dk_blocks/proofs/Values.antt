-- The values of records are of the variables that their points declare, and with the orig ones of all base variables.
use Rattle.std.proofs.Common.{◌≡◌, ◌∙◌, ◌&&◌, ◌==◌, ◌<◌, ◌≤◌, ◌++◌, ℕ, ℤ, zero, suc, Bool, true, false, All, find, is_none, is_some, List, [], ◌∷◌, length, slice_get, take, option_and_then, option_map, Option, Some, None, IfSome, Result, Ok, Err, refl, sym, ap, subst, arith, if◌then◌else◌}
use Rattle.std.proofs.lemmas.List.{length-take}
use Rattle.std.proofs.lemmas.List.Elements.{All-cons, All-head, All-nil, All-tail}
use Rattle.std.specs.List.{cons_option, list_any}
use Rattle.std.specs.Option.{option_map_or}
use Rattle.dk_base.specs.Names.{unescaped}
use Rattle.dk_base.specs.Reading.{Line, LineFault, ◌>>=◌}
use Rattle.dk_base.specs.declared.kinds.Form.TheVariants as form
use Rattle.dk_base.specs.declared.kinds.Kind.{Kind}
use Rattle.dk_base.specs.declared.kinds.VarInfo.{VarInfo}
use Rattle.dk_base.specs.declared.values.Value.{Value}
use Rattle.dk_base.specs.declared.why.Why.TheVariants.{UnknownPoint, UnmatchedExit}
use Rattle.dk_calls.proofs.Fitted.{exit_values_fit}
use Rattle.dk_calls.specs.Fitting.{base_kinds}
use Rattle.dk_calls.specs.Records.{call_of, entry_with, is_entry_at, values_at_exit, with_entry}
use Rattle.dk_calls.specs.Waiting.{Call, Entry, enters, entry_of_call, exits, is_of, is_plain, left_by, other, same_nonce, taken_by, waiting_of, without_first, without_plain}
use Rattle.dk_decl.proofs.LastLines.{bind_ok}
use Rattle.dk_decl.specs.Outcomes.{or_refused}
use Rattle.dk_decl.specs.declared.decls.PointDecl.{PointDecl}
use Rattle.dk_decl.specs.declared.decls.VarDecl.{VarDecl}
use Rattle.dk_graph.specs.Names.{place_of}
use Rattle.dk_points.proofs.Keeping.{base-vars-none, entry-within}
use Rattle.dk_points.specs.Table.{Point, decl_at, decl_if_declared, names}
use Rattle.dk_points.specs.Vars.{base_vars, declared_vars, entry_before, entry_of, vars_of}
use Rattle.dk_trace.proofs.Fitted.{samples_fit}
use Rattle.dk_trace.specs.Bodies.{body_of}
use Rattle.dk_trace.specs.Fitting.{FitKinds, HasFittingConstant, declared_kinds}
use Rattle.dk_trace.specs.Records.{Sample, declared_place, point_named_by, sample_of, sample_with, var_decls_at as vars_declared}
use Rattle.dk_blocks.specs.Fitting.{CallFits, ConstantsFit, FitAt, HasFittingConstants}
use Rattle.dk_blocks.specs.History.{base_values}

-- ---- records
-- the declaration of a declared point is that of the point
decl_constants : (ps : List Point) (p : ℕ) (d : PointDecl) → ConstantsFit ps → decl_at ps p ≡ Some d → HasFittingConstants d
decl_constants [] p d all is = absurd (cc is)
decl_constants (q ∷ ps) zero d all is = by q.is_implicit is
  where
    by : (b : Bool) → (if b then None else Some q.decl) ≡ Some d → HasFittingConstants d
    by true is = absurd (cc is)
    by false is = let same : q.decl ≡ d = cc is in subst HasFittingConstants same (All-head (λ (x : Point). HasFittingConstants x.decl) q ps all)
decl_constants (q ∷ ps) (suc p) d all is = decl_constants ps p d (All-tail (λ (x : Point). HasFittingConstants x.decl) q ps all) is

-- a record is of a declared point
declared_there : (ps : List Point) (first : Line) (p : ℕ) → point_named_by ps first ≡ Ok p → (d : PointDecl) × (decl_at ps p ≡ Some d)
unfolding point_named_by
declared_there ps first p e = by (place_of (names ps) (unescaped first.bytes)) e
  where
    at : (q : ℕ) (o : Option PointDecl) → decl_at ps q ≡ o → or_refused UnknownPoint first.number (option_map (λ _. q) o) ≡ Ok p → (d : PointDecl) × (decl_at ps p ≡ Some d)
    at q None is e = absurd (cc e)
    at q (Some d) is e = let same : q ≡ p = cc e in (d, subst (λ (k : ℕ). decl_at ps k ≡ Some d) same is)

    by : (o : Option ℕ) → or_refused UnknownPoint first.number (option_and_then (λ q. option_map (λ _. q) (decl_at ps q)) o) ≡ Ok p → (d : PointDecl) × (decl_at ps p ≡ Some d)
    by None e = absurd (cc e)
    by (Some q) e = at q (decl_at ps q) refl e

pub sample_fits : (ps : List Point) (first : Line) (ls : List Line) (close : ℕ) (s : Sample) → ConstantsFit ps → sample_of ps first ls (Some close) ≡ Ok s → FitAt ps s.point s.values
unfolding sample_of vars_declared
sample_fits ps first ls close s all e =
    bind_ok (point_named_by ps first) (λ p. sample_with p first.number (body_of (vars_declared ps p) ls (Some close))) s e (λ p is read.
    bind_ok (body_of (vars_declared ps p) ls (Some close)) (λ b. Ok (record { point = p; line = first.number; nonce = b.nonce; values = b.values })) s read (λ b body whole.
    let point : p ≡ s.point = cc whole in
    let there = declared_there ps first p is in
    let here : decl_at ps s.point ≡ Some there.0 = subst (λ (k : ℕ). decl_at ps k ≡ Some there.0) point there.1 in
    let vars : vars_declared ps s.point ≡ there.0.vars = ap (λ (o : Option PointDecl). option_map_or (λ d. d.vars) o []) here in
    let P : List VarDecl → Type 0 = λ vs. FitKinds (declared_kinds vs) s.values in
    (there.0, here, subst P vars (samples_fit ps first ls close s (subst (All HasFittingConstant) (sym vars) (decl_constants ps s.point there.0 all here)) e))))

-- ---- entries
abbrev EntryFits : List Point → Entry → Type 0
EntryFits ps w = FitAt ps w.point w.values

all_left_first : (ps : List Point) (p : Entry → Bool) (ws : List Entry) → All (EntryFits ps) ws → All (EntryFits ps) (without_first p ws)
all_left_first ps p [] all = all
all_left_first ps p (w ∷ ws) all = by (p w) (all_left_first ps p ws (All-tail (EntryFits ps) w ws all))
  where
    by : (b : Bool) → All (EntryFits ps) (without_first p ws) → All (EntryFits ps) (if b then ws else w ∷ without_first p ws)
    by true rest = All-tail (EntryFits ps) w ws all
    by false rest = All-cons (EntryFits ps) w (without_first p ws) (All-head (EntryFits ps) w ws all) rest

all_left_plain : (ps : List Point) (point : ℕ) (ws : List Entry) → All (EntryFits ps) ws → All (EntryFits ps) (without_plain point ws)
all_left_plain ps point [] all = all
all_left_plain ps point (w ∷ ws) all = by (is_of point None w) (is_plain w) (all_left_plain ps point ws (All-tail (EntryFits ps) w ws all))
  where
    by : (own plain : Bool) → All (EntryFits ps) (without_plain point ws) → All (EntryFits ps) (if own then ws else if plain then without_plain point ws else w ∷ without_plain point ws)
    by true plain rest = All-tail (EntryFits ps) w ws all
    by false true rest = rest
    by false false rest = All-cons (EntryFits ps) w (without_plain point ws) (All-head (EntryFits ps) w ws all) rest

all_left : (ps : List Point) (point : ℕ) (n : Option ℤ) (ws : List Entry) → All (EntryFits ps) ws → All (EntryFits ps) (left_by point n ws)
all_left ps point (Some n) ws all = all_left_first ps (is_of point (Some n)) ws all
all_left ps point None ws all = by (list_any (is_of point None) ws)
  where
    by : (b : Bool) → All (EntryFits ps) (if b then without_plain point ws else ws)
    by true = all_left_plain ps point ws all
    by false = all

waiting_fit : (ps : List Point) (earlier : List Call) → All (CallFits ps) earlier → All (EntryFits ps) (waiting_of earlier)
waiting_fit ps [] all = All-nil (EntryFits ps)
waiting_fit ps (enters w ∷ earlier) all = All-cons (EntryFits ps) w _ (All-head (CallFits ps) (enters w) earlier all) (waiting_fit ps earlier (All-tail (CallFits ps) (enters w) earlier all))
waiting_fit ps (exits point n ∷ earlier) all = all_left ps point n (waiting_of earlier) (waiting_fit ps earlier (All-tail (CallFits ps) (exits point n) earlier all))
waiting_fit ps (other ∷ earlier) all = waiting_fit ps earlier (All-tail (CallFits ps) other earlier all)

-- what is found passes, and is as all are
found : {X : Type 0} (P : X → Type 0) (p : X → Bool) (xs : List X) (x : X) → All P xs → find p xs ≡ Some x → P x × (p x ≡ true)
found P p [] x all e = absurd (cc e)
found P p (y ∷ ys) x all e = by (p y) refl e (λ more. found P p ys x (All-tail P y ys all) more)
  where
    by : (b : Bool) → p y ≡ b → (if b then Some y else find p ys) ≡ Some x → (find p ys ≡ Some x → P x × (p x ≡ true)) → P x × (p x ≡ true)
    by true is e rest = let same : y ≡ x = cc e in (subst P same (All-head P y ys all), subst (λ z. p z ≡ true) same is)
    by false is e rest = rest e

both_true : (a b : Bool) → (a && b) ≡ true → a ≡ true
both_true true b e = refl
both_true false b e = absurd (cc e)

-- ---- base values
-- an entry stands before its exits
entry_first : (ps : List Point) (p e : ℕ) → entry_of ps p ≡ Some e → e < p
unfolding entry_of
entry_first ps p e is = by (slice_get ps p) is
  where
    by : (o : Option Point) → option_and_then (λ q. entry_before (take p ps) q.decl.name) o ≡ Some e → e < p
    by None is = absurd (cc is)
    by (Some q) is =
        let within : e < length (take p ps) = subst (λ (o : Option ℕ). IfSome o (λ i. i < length (take p ps))) is (entry-within (take p ps) q.decl.name) in
        omega (arith, within, length-take p ps)

kinds_declared : (vs : List VarDecl) → base_kinds (declared_vars vs) ≡ declared_kinds vs
kinds_declared [] = refl
kinds_declared (v ∷ vs) = by v.kind (kinds_declared vs)
  where
    by : (k : Option Kind) → base_kinds (declared_vars vs) ≡ declared_kinds vs
        → base_kinds (cons_option (option_map (λ k. record { name = v.name; kind = k; form = form.Declared; compar = v.compar }) k) (declared_vars vs)) ≡ cons_option k (declared_kinds vs)
    by None h = h
    by (Some k) h = ap (λ (ks : List Kind). k ∷ ks) h

-- a point without an entry has the variables that it declares
plain_kinds : (ps : List Point) (p : ℕ) (d : PointDecl) → decl_at ps p ≡ Some d → entry_of ps p ≡ None → base_kinds (vars_of ps p) ≡ declared_kinds d.vars
unfolding vars_of entry_of
plain_kinds ps p d is none = by (slice_get ps p) is none
  where
    declared : (q : Point) (b : Bool) → (if b then None else Some q.decl) ≡ Some d → q.decl ≡ d
    declared q true is = absurd (cc is)
    declared q false is = cc is

    by : (o : Option Point) → option_and_then decl_if_declared o ≡ Some d → option_and_then (λ q. entry_before (take p ps) q.decl.name) o ≡ None
        → base_kinds (option_map_or (λ q. base_vars (take p ps) q.decl) o []) ≡ declared_kinds d.vars
    by None is none = absurd (cc is)
    by (Some q) is none =
        let same : q.decl ≡ d = declared q q.is_implicit is in
        ap base_kinds (base-vars-none (take p ps) q.decl none) ∙ kinds_declared q.decl.vars ∙ ap (λ (x : PointDecl). declared_kinds x.vars) same

-- the call of a record
pub call_fits : (ps : List Point) (s : Sample) → FitAt ps s.point s.values → CallFits ps (call_of ps s)
unfolding call_of
call_fits ps s fits = by (entry_of ps s.point) (is_entry_at ps s.point)
  where
    by : (o : Option ℕ) (b : Bool) → CallFits ps (option_map_or (λ e. exits e s.nonce) o (if b then enters (entry_with s) else other))
    by (Some e) b = tt
    by None true = fits
    by None false = tt

pub base_fit : (ps : List Point) (s : Sample) (earlier : List Call) (values : List Value) → FitAt ps s.point s.values → All (CallFits ps) earlier
    → base_values ps s earlier ≡ Ok values → FitKinds (base_kinds (vars_of ps s.point)) values
unfolding base_values values_at_exit call_of
base_fit ps s earlier values fits all e = by (entry_of ps s.point) refl e
  where
    at_exit : (p : ℕ) → entry_of ps s.point ≡ Some p → (o : Option Entry) → find (is_of p s.nonce) (waiting_of earlier) ≡ o
        → (or_refused UnmatchedExit s.line o >>= λ w. Ok (with_entry ps s w)) ≡ Ok values → FitKinds (base_kinds (vars_of ps s.point)) values
    at_exit p is None taken e = absurd (cc e)
    at_exit p is (Some w) taken e =
        let own = found (EntryFits ps) (is_of p s.nonce) (waiting_of earlier) w (waiting_fit ps earlier all) taken in
        let point : w.point ≡ p = grind (arith, both_true (w.point == p) (same_nonce w.nonce s.nonce) own.1) in
        let entered : entry_of ps s.point ≡ Some w.point = is ∙ ap (λ k. Some k) (sym point) in
        let same : with_entry ps s w ≡ values = cc e in
        subst (FitKinds (base_kinds (vars_of ps s.point))) same
        (exit_values_fit ps s w fits.0 own.0.0 entered (entry_first ps s.point w.point entered) fits.1 fits.2 own.0.1 own.0.2)

    by : (o : Option ℕ) → entry_of ps s.point ≡ o
        → (if is_some o then (or_refused UnmatchedExit s.line (entry_of_call (option_map_or (λ e. exits e s.nonce) o (if is_entry_at ps s.point then enters (entry_with s) else other)) earlier) >>= λ w. Ok (with_entry ps s w)) else Ok s.values) ≡ Ok values
        → FitKinds (base_kinds (vars_of ps s.point)) values
    by None is e =
        let same : s.values ≡ values = cc e in
        let P : List Kind → Type 0 = λ ks. FitKinds ks values in
        subst P (sym (plain_kinds ps s.point fits.0 fits.1 is)) (subst (FitKinds (declared_kinds fits.0.vars)) same fits.2)
    by (Some p) is e = at_exit p is (find (is_of p s.nonce) (waiting_of earlier)) refl e
