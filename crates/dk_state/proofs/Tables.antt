-- Tables that declarations make.
use Rattle.std.specs.Prelude.{◌≡◌, ◌<◌, ◌≤◌, ◌+◌, ◌++◌, ◌∷◌, [], ℕ, All, Bool, true, false, List, Option, Some, None, Result, Ok, Err, length, nat_lt, option_and_then, refl, if◌then◌else◌}
use Rattle.std.specs.Prelude.{◌-◌}
use Rattle.std.proofs.Common.{◌∙◌, ap, append-nil, append_assoc, arith, length-append, subst, sym}
use Rattle.std.proofs.lemmas.Bool.{cond_both, ltb-false}
use Rattle.std.proofs.lemmas.List.Elements.{filter_map-append}
use Rattle.dk_decl.specs.declared.decls.PointDecl.{PointDecl}
use Rattle.dk_graph.specs.Graphs.{has_cycle}
use Rattle.dk_graph.specs.Names.{place_of}
use Rattle.dk_base.specs.declared.why.Why.{Why}
use Rattle.dk_base.specs.declared.why.Why.TheVariants.{CyclicParents, DuplicatePoint, TooManyPoints, TooManyVariables}
use Rattle.dk_graph.proofs.Places.{some-injective}
use Rattle.dk_points.specs.declared.declared.Declared.{Declared}
use Rattle.dk_points.specs.declared.declared.Declared.TheVariants.{New, Same}
use Rattle.dk_points.specs.Declaring.{declared, declared_again, declared_at, has_many_points, has_many_vars}
use Rattle.dk_points.specs.Links.{nodes}
use Rattle.dk_points.specs.Sameness.{same_decl}
use Rattle.dk_points.specs.Table.{Point, added_points, decl_at, decl_if_declared, declared_point, implicit_exit, makes_exit, names}
use Rattle.dk_state.specs.Declarations.{decls_of}
use Rattle.dk_state.specs.Given.{CanBeGiven}
use Rattle.dk_state.specs.Spelling.{IsOwnTable, if_new, table_behind}

pub table_append : (xs ys : List PointDecl) (ps : List Point) → table_behind ps (xs ++ ys) ≡ option_and_then (λ q. table_behind q ys) (table_behind ps xs)
table_append [] ys ps = refl
table_append (x ∷ xs) ys ps = go (if_new (declared ps x)) (table_append xs ys)
  where
    go : (o : Option (List Point)) → ((next : List Point) → table_behind next (xs ++ ys) ≡ option_and_then (λ q. table_behind q ys) (table_behind next xs))
        → option_and_then (λ next. table_behind next (xs ++ ys)) o ≡ option_and_then (λ q. table_behind q ys) (option_and_then (λ next. table_behind next xs) o)
    go None later = refl
    go (Some next) later = later next

-- one declaration more
pub table_push : (xs : List PointDecl) (x : PointDecl) (ps q next : List Point) → table_behind ps xs ≡ Some q → if_new (declared q x) ≡ Some next → table_behind ps (xs ++ x ∷ []) ≡ Some next
table_push xs x ps q next made new =
    table_append xs (x ∷ []) ps ∙ ap (option_and_then (λ r. table_behind r (x ∷ []))) made ∙ ap (option_and_then (λ r. table_behind r [])) new

-- the next one of declarations that make a table
pub table_next : (xs ys : List PointDecl) (x : PointDecl) (ps q all : List Point) → table_behind ps xs ≡ Some q → table_behind ps (xs ++ x ∷ ys) ≡ Some all
    → option_and_then (λ next. table_behind next ys) (if_new (declared q x)) ≡ Some all
table_next xs ys x ps q all made whole = ap (option_and_then (λ r. table_behind r (x ∷ ys))) (sym made) ∙ sym (table_append xs (x ∷ ys) ps) ∙ whole

-- what the next one makes
pub next_made : (ys : List PointDecl) (o : Option (List Point)) (all : List Point) → option_and_then (λ next. table_behind next ys) o ≡ Some all → (next : List Point) × (o ≡ Some next)
next_made ys None all e = absurd (cc)
next_made ys (Some next) all e = (next, refl)

-- a new point's declaration adds its points to the table, which stays short enough
pub new_adds : (ps : List Point) (d : PointDecl) (next : List Point) → if_new (declared ps d) ≡ Some next → (ps ++ added_points ps d ≡ next) × (length next ≤ 65535)
unfolding declared
new_adds ps d next e = go (place_of (names ps) d.name) e
  where
    again : (i : ℕ) (own : Option PointDecl) → if_new (declared_again ps d i own) ≡ Some next → ⊥
    again i None e = cc
    again i (Some own) e =
        cond_both (same_decl own d) (Ok (ps, Same (record { 0 = i }))) (Err DuplicatePoint) (λ (r : Result (List Point × Declared) Why). if_new r ≡ Some next → ⊥)
        (λ _ h. cc) (λ _ h. cc) e

    pick : (many vars cycle : Bool) → nat_lt 65535 (length (ps ++ added_points ps d)) ≡ many
        → if_new (if many then Err TooManyPoints else if vars then Err TooManyVariables else if cycle then Err CyclicParents else Ok (ps ++ added_points ps d, New (record { 0 = length (ps ++ added_points ps d) - 1 }))) ≡ Some next
        → (ps ++ added_points ps d ≡ next) × (length next ≤ 65535)
    pick true vars cycle few e = absurd (cc)
    pick false true cycle few e = absurd (cc)
    pick false false true few e = absurd (cc)
    pick false false false few e =
        let same : ps ++ added_points ps d ≡ next = some-injective e in
        (same, omega (arith, ap length same, ltb-false 65535 (length (ps ++ added_points ps d)) few))

    go : (o : Option ℕ) → if_new (declared_at ps d o) ≡ Some next → (ps ++ added_points ps d ≡ next) × (length next ≤ 65535)
    go None e = pick (has_many_points (ps ++ added_points ps d)) (has_many_vars ps d) (has_cycle (nodes (ps ++ added_points ps d))) refl e
    go (Some i) e = absurd (again i (decl_at ps i) e)

-- so the table grows
new_grows : (ps : List Point) (d : PointDecl) (next : List Point) → if_new (declared ps d) ≡ Some next → (length ps < length next) × (length next ≤ 65535)
new_grows ps d next e =
    let adds = new_adds ps d next e in
    (omega (arith, ap length adds.0, more), adds.1)
  where
    more : length ps < length (ps ++ added_points ps d)
    more =
        cond_both (makes_exit ps d) (implicit_exit d ∷ declared_point d ∷ []) (declared_point d ∷ []) (λ qs. length ps < length (ps ++ qs))
        (λ _. omega (arith, length-append ps (implicit_exit d ∷ declared_point d ∷ []))) (λ _. omega (arith, length-append ps (declared_point d ∷ [])))

-- so declarations that make a table are few
pub few_made : (ds : List PointDecl) (ps all : List Point) → length ps ≤ 65535 → table_behind ps ds ≡ Some all → length ps + length ds ≤ 65535
few_made [] ps all few e = omega (arith, few)
few_made (d ∷ ds) ps all few e =
    let next = next_made ds (if_new (declared ps d)) all e in
    let grown = new_grows ps d next.0 next.1 in
    omega (arith, grown.0, few_made ds next.0 all grown.1 (ap (option_and_then (λ q. table_behind q ds)) (sym next.1) ∙ e))

-- ---- the declarations of a table
-- of what a declaration adds it is the only one
added_declares : (ps : List Point) (d : PointDecl) → decls_of (added_points ps d) ≡ d ∷ []
added_declares ps d =
    cond_both (makes_exit ps d) (implicit_exit d ∷ declared_point d ∷ []) (declared_point d ∷ []) (λ qs. decls_of qs ≡ d ∷ []) (λ _. refl) (λ _. refl)

-- a table that declarations make has these, behind those that were there
declares_more : (ds : List PointDecl) (ps all : List Point) → table_behind ps ds ≡ Some all → decls_of all ≡ decls_of ps ++ ds
declares_more [] ps all e = ap decls_of (sym (some-injective e)) ∙ sym (append-nil (decls_of ps))
declares_more (d ∷ ds) ps all e =
    let next = next_made ds (if_new (declared ps d)) all e in
    let adds = (new_adds ps d next.0 next.1).0 in
    let grown : decls_of next.0 ≡ decls_of ps ++ d ∷ [] =
    ap decls_of (sym adds) ∙ filter_map-append decl_if_declared ps (added_points ps d) ∙ ap (λ own. decls_of ps ++ own) (added_declares ps d) in
    declares_more ds next.0 all (ap (option_and_then (λ q. table_behind q ds)) (sym next.1) ∙ e)
    ∙ ap (λ own. own ++ ds) grown ∙ append_assoc (decls_of ps) (d ∷ []) ds

-- so the table that declarations make of the empty one is its own, where a block can give each of them
pub own_table : (ds : List PointDecl) (ps : List Point) → table_behind [] ds ≡ Some ps → All CanBeGiven ds → IsOwnTable ps
own_table ds ps made given =
    let same : ds ≡ decls_of ps = sym (declares_more ds [] ps made) in
    record {
      made = subst (λ own. table_behind [] own ≡ Some ps) same made;
      given = subst (All CanBeGiven) same given;
    }
