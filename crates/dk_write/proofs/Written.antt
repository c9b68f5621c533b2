-- What a writer has declared, the table of the reader has, too; so what it writes is readable.
use Rattle.std.proofs.Common.{◌≡◌, ◌∙◌, ◌∷◌, ◌++◌, [], ℕ, zero, suc, Bool, true, false, if◌then◌else◌, List, All, IsTrue, Option, Some, None, Result, Ok, Err, length, option_and_then, option_map, bytes_eq, refl, sym, ap, subst, append-nil, append_assoc}
use Rattle.std.specs.Prelude.{IfOk}
use Rattle.std.specs.Option.{option_map_or}
use Rattle.std.proofs.lemmas.Bool.{false≢true}
use Rattle.std.proofs.lemmas.List.{map-append}
use Rattle.std.proofs.lemmas.List.Elements.{All-append, All-cons, All-contains, All-nil, All-weaker}
use Rattle.std.proofs.lemmas.Slice.Eq.{bytes_eq-Decides}
use Rattle.dk_base.specs.Reading.{LineFault, ◌>>=◌}
use Rattle.dk_base.specs.declared.values.Value.{Value}
use Rattle.dk_base.specs.declared.why.Why.{Why}
use Rattle.dk_base.specs.declared.why.Why.TheVariants.{DuplicatePoint, UnknownPoint}
use Rattle.dk_blocks.specs.Fitting.{Extends}
use Rattle.dk_blocks.specs.History.{History, Taken, base_values, block, block_by, declared_effect, or_left_out, with_declaration, with_record, with_table, with_values}
use Rattle.dk_blocks.proofs.Growing.{again_points, declared_points, new_points, not_refused}
use Rattle.dk_decl.specs.Headers.{first_header}
use Rattle.dk_decl.specs.Outcomes.{or_refused}
use Rattle.dk_decl.specs.declared.decls.PointDecl.{PointDecl}
use Rattle.dk_decl.proofs.LastLines.{bind_ok}
use Rattle.dk_graph.specs.Names.{place_of}
use Rattle.dk_graph.proofs.Positions.{or_last, place_of-push}
use Rattle.dk_points.specs.Declaring.{at_line, declared, declared_again, declared_at}
use Rattle.dk_points.specs.Names.{combined_name}
use Rattle.dk_points.specs.Sameness.{same_decl}
use Rattle.dk_points.specs.Table.{Point, added_points, decl_at, declared_point, implicit_exit, makes_exit, names}
use Rattle.dk_points.specs.declared.declared.Declared.{Declared}
use Rattle.dk_points.specs.declared.declared.Declared.TheVariants.{Same}
use Rattle.dk_points.proofs.Declarations.{added-one, added-two}
use Rattle.dk_points.proofs.Exits.{combined-differs, makes-subexit}
use Rattle.dk_points.proofs.SameValues.{same-is-equal}
use Rattle.dk_trace.specs.Records.{Sample, declared_place, var_decls_at}
use Rattle.dk_write.specs.Course.{AreReadable, AreWritten, HasDeclared, done, line_behind}
use Rattle.dk_write.specs.Laws.{WrittenAreRead}
use Rattle.dk_write.specs.Records.{Recorded, sample_at}
use Rattle.dk_write.specs.Texts.{Begins, Declares, Records, Write}
use Rattle.dk_write.specs.Writable.{can_declare}
use Rattle.dk_write.proofs.Traces.{traces_read}

-- ---- names and declarations in a longer table

still_at : (all more : List (List ℕ)) (name : List ℕ) (q : ℕ) → place_of all name ≡ Some q → place_of (all ++ more) name ≡ Some q
still_at all [] name q h = ap (λ (l : List (List ℕ)). place_of l name) (append-nil all) ∙ h
still_at all (n ∷ more) name q h =
    ap (λ (l : List (List ℕ)). place_of l name) (sym (append_assoc all (n ∷ []) more))
    ∙ still_at (all ++ n ∷ []) more name q (place_of-push all n name ∙ ap (λ (o : Option ℕ). or_last o (bytes_eq name n) (length all)) h)

still_there : (ps more : List Point) (p : ℕ) (d : PointDecl) → decl_at ps p ≡ Some d → decl_at (ps ++ more) p ≡ Some d
still_there [] more p d at = absurd (cc at)
still_there (q ∷ ps) more zero d at = at
still_there (q ∷ ps) more (suc p) d at = still_there ps more p d at

-- the point of this name is declared at this place
record IsAt (ps : List Point) (name : List ℕ) (p : ℕ) (d : PointDecl) : Type 0 where
  place : place_of (names ps) name ≡ Some p
  decl : decl_at ps p ≡ Some d

has_declared : (ps : List Point) (d own : PointDecl) (p : ℕ) → own.vars ≡ d.vars → IsAt ps d.name p own → HasDeclared ps d
unfolding var_decls_at
has_declared ps d own p vars at = (
  p,
  ap (λ (o : Option ℕ). option_and_then (λ q. option_map (λ _. q) (decl_at ps q)) o) at.place ∙ ap (λ (o : Option PointDecl). option_map (λ _. p) o) at.decl,
  ap (λ (o : Option PointDecl). option_map_or (λ e. e.vars) o []) at.decl ∙ vars,
)

placed_at : (ps : List Point) (name : List ℕ) (p : ℕ) → declared_place ps name ≡ Some p → (own : PointDecl) × IsAt ps name p own
placed_at ps name p e = by (place_of (names ps) name) refl e
  where
    at : (q : ℕ) (o : Option PointDecl) → place_of (names ps) name ≡ Some q → decl_at ps q ≡ o → option_map (λ _. q) o ≡ Some p → (own : PointDecl) × IsAt ps name p own
    at q None place is e = absurd (cc e)
    at q (Some own) place is e =
        let same : q ≡ p = cc e in
        (own, record { place = place ∙ ap (λ (k : ℕ). Some k) same; decl = subst (λ (k : ℕ). decl_at ps k ≡ Some own) same is })

    by : (o : Option ℕ) → place_of (names ps) name ≡ o → option_and_then (λ q. option_map (λ _. q) (decl_at ps q)) o ≡ Some p → (own : PointDecl) × IsAt ps name p own
    by None place e = absurd (cc e)
    by (Some q) place e = at q (decl_at ps q) place refl e

still_declared : (ps ps' : List Point) (d : PointDecl) → Extends ps ps' → HasDeclared ps d → HasDeclared ps' d
unfolding var_decls_at
still_declared ps ps' d (more, is) has =
    let own = placed_at ps d.name has.0 has.1 in
    let vars : own.0.vars ≡ d.vars = sym (ap (λ (o : Option PointDecl). option_map_or (λ e. e.vars) o []) own.1.decl) ∙ has.2 in
    let at : IsAt (ps ++ more) d.name has.0 own.0 = record {
      place = ap (λ (all : List (List ℕ)). place_of all d.name) (map-append _ ps more) ∙ still_at (names ps) (names more) d.name has.0 own.1.place;
      decl = still_there ps more has.0 own.0 own.1.decl;
    } in
    subst (λ (qs : List Point). HasDeclared qs d) (sym is) (has_declared (ps ++ more) d own.0 has.0 vars at)

-- ---- a declaration that is taken

at_end : (ps : List Point) (d : PointDecl) → decl_at (ps ++ declared_point d ∷ []) (length ps) ≡ Some d
at_end [] d = refl
at_end (q ∷ ps) d = at_end ps d

length_names : (ps : List Point) → length (names ps) ≡ length ps
length_names [] = refl
length_names (q ∷ ps) = ap (λ (n : ℕ). suc n) (length_names ps)

unequal : (a b : List ℕ) → bytes_eq a b ≡ false → bytes_eq b a ≡ false
unequal a b h = go (bytes_eq b a) refl
  where
    go : (x : Bool) → bytes_eq b a ≡ x → x ≡ false
    go false e = refl
    go true e = absurd (false≢true (sym h ∙ (bytes_eq-Decides a b).1 (sym ((bytes_eq-Decides b a).0 e))))

one_behind : (ps : List Point) (d : PointDecl) → place_of (names ps) d.name ≡ None → HasDeclared (ps ++ declared_point d ∷ []) d
one_behind ps d new =
    has_declared (ps ++ declared_point d ∷ []) d d (length ps) refl
    (record {
      place =
          ap (λ (all : List (List ℕ)). place_of all d.name) (map-append _ ps (declared_point d ∷ []))
          ∙ place_of-push (names ps) d.name d.name
          ∙ ap (λ (o : Option ℕ). or_last o (bytes_eq d.name d.name) (length (names ps))) new
          ∙ ap (λ (b : Bool). or_last None b (length (names ps))) ((bytes_eq-Decides d.name d.name).1 refl)
          ∙ ap (λ (n : ℕ). Some n) (length_names ps);
      decl = at_end ps d;
    })

with_exit : (ps : List Point) (d : PointDecl) → makes_exit ps d ≡ true → place_of (names ps) d.name ≡ None → place_of (names (ps ++ implicit_exit d ∷ [])) d.name ≡ None
with_exit ps d exit new =
    ap (λ (all : List (List ℕ)). place_of all d.name) (map-append _ ps (implicit_exit d ∷ []))
    ∙ place_of-push (names ps) (combined_name d.name) d.name
    ∙ ap (λ (o : Option ℕ). or_last o (bytes_eq d.name (combined_name d.name)) (length (names ps))) new
    ∙ ap (λ (b : Bool). or_last None b (length (names ps))) (unequal (combined_name d.name) d.name (combined-differs d.name (makes-subexit ps d exit)))

added_has : (ps : List Point) (d : PointDecl) → place_of (names ps) d.name ≡ None → HasDeclared (ps ++ added_points ps d) d
added_has ps d new = by (makes_exit ps d) refl
  where
    by : (b : Bool) → makes_exit ps d ≡ b → HasDeclared (ps ++ added_points ps d) d
    by false is = subst (λ (more : List Point). HasDeclared (ps ++ more) d) (sym (added-one ps d is)) (one_behind ps d new)
    by true is =
        subst (λ (more : List Point). HasDeclared (ps ++ more) d) (sym (added-two ps d is))
        (subst (λ (qs : List Point). HasDeclared qs d) (append_assoc ps (implicit_exit d ∷ []) (declared_point d ∷ []))
        (one_behind (ps ++ implicit_exit d ∷ []) d (with_exit ps d is new)))

taken : {A : Type 0} (b : Bool) (why : Why) (r x : A) → (if b then Ok r else Err why) ≡ Ok x → b ≡ true
taken true why r x e = refl
taken false why r x e = absurd (cc e)

again_has : (ps ps' : List Point) (d : PointDecl) (i : ℕ) (x : Declared) (own : Option PointDecl) → place_of (names ps) d.name ≡ Some i → decl_at ps i ≡ own
    → declared_again ps d i own ≡ Ok (ps', x) → HasDeclared ps' d
again_has ps ps' d i x None place is e = absurd (cc e)
again_has ps ps' d i x (Some own) place is e =
    let known : List Point × Declared = (ps, Same (record { 0 = i })) in
    let next : List Point × Declared = (ps', x) in
    let same : own ≡ d = (same-is-equal own d).0 (taken (same_decl own d) DuplicatePoint known next e) in
    subst (λ (qs : List Point). HasDeclared qs d) (sym (again_points ps ps' d i x (Some own) e))
    (has_declared ps d own i (ap (λ (c : PointDecl). c.vars) same) (record { place = place; decl = is }))

-- the table has each declaration that is taken
taken_has : (ps ps' : List Point) (d : PointDecl) (line : ℕ) (x : Declared) → at_line line (declared ps d) ≡ Ok (ps', x) → HasDeclared ps' d
unfolding declared
taken_has ps ps' d line x e = by (place_of (names ps) d.name) refl (not_refused line (declared ps d) (ps', x) e)
  where
    by : (o : Option ℕ) → place_of (names ps) d.name ≡ o → declared_at ps d o ≡ Ok (ps', x) → HasDeclared ps' d
    by None place e = subst (λ (qs : List Point). HasDeclared qs d) (sym (new_points ps ps' d x e)) (added_has ps d place)
    by (Some i) place e = again_has ps ps' d i x (decl_at ps i) place refl e

-- ---- what stays as it is

-- the history has the header lines of a trace, and each of these declarations, which their lines tell
record Knows (h : History) (ds : List PointDecl) : Type 0 where
  header : h.header ≡ first_header
  told : All (λ d. IsTrue (can_declare d)) ds
  declared : All (HasDeclared h.table) ds

knows_more : (h : History) (line : ℕ) (d : PointDecl) (ds : List PointDecl) (t : Taken) → Knows h ds → IsTrue (can_declare d) → with_declaration h line d ≡ Ok t
    → Knows t.history (ds ++ d ∷ [])
knows_more h line d ds t knows can e =
    bind_ok (at_line line (declared h.table d)) (λ r. Ok (block_by (declared_effect r.1) (with_table h r.0))) t e (λ r told done.
    let same : block_by (declared_effect r.1) (with_table h r.0) ≡ t = cc done in
    let Can : PointDecl → Type 0 = λ c. IsTrue (can_declare c) in
    let extends = declared_points h.table r.0 d line r.1 told in
    let own : All (HasDeclared r.0) (ds ++ d ∷ []) =
    All-append (HasDeclared r.0) ds (d ∷ [])
    (All-weaker (HasDeclared h.table) (HasDeclared r.0) (λ c has. still_declared h.table r.0 c extends has) ds knows.declared)
    (All-cons (HasDeclared r.0) d [] (taken_has h.table r.0 d line r.1 told) (All-nil (HasDeclared r.0))) in
    subst (λ (u : Taken). Knows u.history (ds ++ d ∷ [])) same
    (record { header = knows.header; told = All-append Can ds (d ∷ []) knows.told (All-cons Can d [] can (All-nil Can)); declared = own }))

knows_still : (ignores : Bool) (h : History) (s : Sample) (ds : List PointDecl) (t : Taken) → Knows h ds → with_record ignores h s ≡ Ok t → Knows t.history ds
knows_still ignores h s ds t knows e = by ignores (base_values h.table s h.calls) e
  where
    sampled : (values : List Value) → Knows (with_values h s values).history ds
    sampled values = record { header = knows.header; told = knows.told; declared = knows.declared }

    by : (b : Bool) (r : Result (List Value) LineFault) → or_left_out b h (r >>= λ values. Ok (with_values h s values)) ≡ Ok t → Knows t.history ds
    by true (Ok values) e = let same : with_values h s values ≡ t = cc e in subst (λ (u : Taken). Knows u.history ds) same (sampled values)
    by false (Ok values) e = let same : with_values h s values ≡ t = cc e in subst (λ (u : Taken). Knows u.history ds) same (sampled values)
    by true (Err fault) e = let same : block h ≡ t = cc e in subst (λ (u : Taken). Knows u.history ds) same knows
    by false (Err fault) e = absurd (cc e)

if_ok : {A : Type 0} (P : A → Type 0) (r : Result A LineFault) → ((x : A) → r ≡ Ok x → P x) → IfOk r P
if_ok P (Ok x) h = h x refl
if_ok P (Err fault) h = tt

-- ---- what a writer writes

recorded_still : (ignores : Bool) (h : History) (line : ℕ) (r : Recorded) (ds : List PointDecl) (t : Taken) → Knows h ds → done ignores h line (Records r) ≡ Ok t → Knows t.history ds
unfolding done
recorded_still ignores h line r ds t knows e =
    bind_ok (or_refused UnknownPoint line (declared_place h.table r.decl.name)) (λ p. with_record ignores h (sample_at line p r)) t e
    (λ p at rest. knows_still ignores h (sample_at line p r) ds t knows rest)

readable : (ignores : Bool) (h : History) (line : ℕ) (ds : List PointDecl) (ws : List Write) → Knows h ds → AreWritten ds ws → AreReadable ignores h line ws
unfolding done
readable ignores h line ds [] knows written = tt
readable ignores h line ds (Begins ∷ ws) knows written = absurd written
readable ignores h line ds (Declares d ∷ ws) knows written = (
  (knows.header, written.0, written.1),
  if_ok (λ t. AreReadable ignores t.history (line_behind line (Declares d)) ws) (done ignores h line (Declares d))
      (λ t e. readable ignores t.history (line_behind line (Declares d)) (ds ++ d ∷ []) ws (knows_more h line d ds t knows written.0 e) written.2),
)
readable ignores h line ds (Records r ∷ ws) knows written =
    let can = All-contains (λ d. IsTrue (can_declare d)) ds r.decl knows.told written.0 in
    let has = All-contains (HasDeclared h.table) ds r.decl knows.declared written.0 in (
      (knows.header, can, written.1, written.2, has),
      if_ok (λ t. AreReadable ignores t.history (line_behind line (Records r)) ws) (done ignores h line (Records r))
          (λ t e. readable ignores t.history (line_behind line (Records r)) ds ws (recorded_still ignores h line r ds t knows e) written.3),
    )

pub written_read : WrittenAreRead
unfolding done
written_read ignores h ws awaits written =
    let next : History = record h { header = first_header } in
    let knows : Knows next [] = record { header = refl; told = All-nil (λ d. IsTrue (can_declare d)); declared = All-nil (HasDeclared next.table) } in
    traces_read ignores h (Begins ∷ ws) (awaits, readable ignores next (line_behind 1 Begins) [] ws knows written)
