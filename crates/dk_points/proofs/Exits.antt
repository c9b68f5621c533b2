-- Subexits and their combined exits.
use Rattle.std.proofs.Common.{◌≡◌, ◌≢◌, ◌∙◌, ℕ, zero, suc, ◌+◌, ◌<◌, ◌&&◌, ◌||◌, nat_eq, nat_lt, Bool, true, false, not, List, [], ◌∷◌, ◌++◌, length, map, drop, filter, slice_get, Option, Some, None, IfSome, is_none, length-append, length-take, length-drop, if◌then◌else◌, codes, bytes_eq, refl, sym, ap, subst, append_assoc, arith}
use Rattle.std.proofs.lemmas.Bool.Decides.{Decides-eqb}
use Rattle.std.proofs.lemmas.List.{append-nil, length-map, map-append}
use Rattle.std.proofs.lemmas.List.Folds.{list_any-append}
use Rattle.std.proofs.lemmas.Slice.Eq.{bytes_eq-Decides}
use Rattle.std.specs.List.{enumerate_from, list_all, list_any, starts_with}
use Rattle.std.specs.Option.{option_map_or}
use Rattle.dk_base.specs.Shapes.{shape_of, with_derived}
use Rattle.dk_decl.specs.declared.decls.EdgeDecl.{EdgeDecl}
use Rattle.dk_decl.specs.declared.decls.PointDecl.{PointDecl}
use Rattle.dk_graph.specs.Names.{place_of}
use Rattle.dk_graph.specs.declared.nodes.Node.{Node}
use Rattle.dk_points.proofs.Keeping.{entry-within}
use Rattle.dk_points.proofs.KeptBy.{kept-implicit}
use Rattle.dk_points.proofs.PlacesOfNames.{place-push_new, place-push_other}
use Rattle.dk_points.specs.Declaring.{has_many_vars}
use Rattle.dk_points.specs.Kept.{IsKept, IsOwnBehind, IsPlaceBehind, point_of_place, points_of_places}
use Rattle.dk_points.specs.KeptEdges.{kept_by}
use Rattle.dk_points.specs.Links.{edges_of_implicit, is_to, kept_edges, links_of, node_of, same_edge}
use Rattle.dk_points.specs.Next.{IsNext}
use Rattle.dk_points.specs.Names.{combined_name, entry_name, is_digit, is_exit, is_subexit, is_subexit_tag, method_len, method_of, role_of, tag_of}
use Rattle.dk_points.specs.Table.{Point, declared_point, implicit_exit, makes_exit, name_of, names}
use Rattle.dk_points.specs.Vars.{base_vars, declared_vars, entry_before, orig_vars, vars_of_entry}
use Rattle.dk_points.specs.declared.growing.Added.{Added}
use Rattle.dk_points.specs.declared.places.Own.{Own}
use Rattle.dk_points.specs.declared.places.KeptPoint.{KeptPoint}
use Rattle.dk_points.specs.declared.roles.Role.TheVariants.{Entry, Combined, Subexit, Plain}

-- ---- names

subexit-last : (a b c : Bool) → is_subexit (if a then Entry else if b then Combined else if c then Subexit else Plain) ≡ true → c ≡ true
subexit-last true b c h = cc
subexit-last false true c h = cc
subexit-last false false true h = refl
subexit-last false false false h = cc

and-left : (a b : Bool) → (a && b) ≡ true → a ≡ true
and-left true b h = refl
and-left false b h = cc

and-right : (a b : Bool) → (a && b) ≡ true → b ≡ true
and-right true b h = h
and-right false b h = cc

-- a subexit's tag has more bytes than a combined exit's
subexit-tag : (name : List ℕ) → is_subexit (role_of name) ≡ true → 4 < length (tag_of name)
unfolding role_of
subexit-tag name h =
    let tag = tag_of name in
    let is : is_subexit_tag tag ≡ true = subexit-last (bytes_eq tag (codes "ENTER")) (bytes_eq tag (codes "EXIT")) (is_subexit_tag tag) h in
    let long : nat_lt 4 (length tag) ≡ true = and-left (nat_lt 4 (length tag)) (list_all is_digit (drop 4 tag)) (and-right (starts_with nat_eq tag (codes "EXIT")) (nat_lt 4 (length tag) && list_all is_digit (drop 4 tag)) is) in
    grind (arith, long)

combined-shorter : (name : List ℕ) → is_subexit (role_of name) ≡ true → length (combined_name name) < length name
combined-shorter name h =
    omega (arith, subexit-tag name h, length-drop (method_len name + 3) name, length-append (method_of name) (codes ":::EXIT"), length-take (method_len name) name)

unequal : (a b : List ℕ) → length a ≢ length b → bytes_eq a b ≡ false
unequal a b h = go (bytes_eq a b) refl
  where
    go : (x : Bool) → bytes_eq a b ≡ x → x ≡ false
    go false e = refl
    go true e = absurd (h (ap length ((bytes_eq-Decides a b).0 e)))

pub combined-differs : (name : List ℕ) → is_subexit (role_of name) ≡ true → bytes_eq (combined_name name) name ≡ false
combined-differs name h = unequal (combined_name name) name (λ e. omega (arith, e, combined-shorter name h))

entry-differs : (name : List ℕ) → bytes_eq (entry_name name) (combined_name name) ≡ false
entry-differs name = unequal (entry_name name) (combined_name name)
    (λ e. omega (arith, e, length-append (method_of name) (codes ":::ENTER"), length-append (method_of name) (codes ":::EXIT")))

pub makes-subexit : (ps : List Point) (d : PointDecl) → makes_exit ps d ≡ true → is_subexit (role_of d.name) ≡ true
makes-subexit ps d h = and-left _ _ h

pub makes-new : (ps : List Point) (d : PointDecl) → makes_exit ps d ≡ true → place_of (names ps) (combined_name d.name) ≡ None
makes-new ps d h = go (place_of (names ps) (combined_name d.name)) (and-right _ _ h)
  where
    go : (o : Option ℕ) → is_none o ≡ true → o ≡ None
    go None e = refl
    go (Some x) e = cc

-- ---- what the implicit exit leaves as it is

module _ (ps : List Point) (d : PointDecl) where
  abbrev longer : List Point
  longer = ps ++ implicit_exit d ∷ []

  names-longer : names longer ≡ names ps ++ combined_name d.name ∷ []
  names-longer = map-append name_of ps (implicit_exit d ∷ [])

  entry-same : entry_before longer d.name ≡ entry_before ps d.name
  unfolding entry_before
  entry-same = go (is_exit (role_of d.name))
    where
      go : (b : Bool) → (if b then place_of (names longer) (entry_name d.name) else None) ≡ (if b then place_of (names ps) (entry_name d.name) else None)
      go true = ap (λ all. place_of all (entry_name d.name)) names-longer ∙ place-push_other (names ps) (combined_name d.name) (entry_name d.name) (entry-differs d.name)
      go false = refl

  get-before : {X : Type 0} (xs : List X) (y : X) (i : ℕ) → i < length xs → slice_get (xs ++ y ∷ []) i ≡ slice_get xs i
  get-before [] y i h = absurd (omega (arith, h))
  get-before (x ∷ xs) y zero h = refl
  get-before (x ∷ xs) y (suc i) h = get-before xs y i (omega (arith, h))

  get-last : {X : Type 0} (xs : List X) (y : X) → slice_get (xs ++ y ∷ []) (length xs) ≡ Some y
  get-last [] y = refl
  get-last (x ∷ xs) y = get-last xs y

  entry-vars-same : vars_of_entry longer (entry_before longer d.name) ≡ vars_of_entry ps (entry_before ps d.name)
  entry-vars-same = ap (vars_of_entry longer) entry-same ∙ go (entry_before ps d.name) (entry-within ps d.name)
    where
      go : (o : Option ℕ) → IfSome o (λ i. i < length ps) → vars_of_entry longer o ≡ vars_of_entry ps o
      go None h = refl
      go (Some i) h = ap (λ p. option_map_or (λ q. declared_vars q.decl.vars) p []) (get-before ps (implicit_exit d) i h)

  pub vars-same : base_vars longer d ≡ base_vars ps d
  vars-same = ap (λ entry. declared_vars d.vars ++ orig_vars entry (declared_vars d.vars)) entry-vars-same

  many-same : has_many_vars longer d ≡ has_many_vars ps d
  unfolding has_many_vars
  many-same = ap (λ vs. nat_lt 1024 (length d.vars) || nat_lt 16384 (length (with_derived (map shape_of vs)))) vars-same

  own-same : (o : Own) → o.decl ≡ d → IsOwnBehind ps o → IsOwnBehind longer o
  own-same o is own = record {
    role = own.role;
    vars = ap (base_vars longer) is ∙ vars-same ∙ ap (base_vars ps) (sym is) ∙ own.vars;
    entry = ap (λ x. entry_before longer x.name) is ∙ entry-same ∙ ap (λ x. entry_before ps x.name) (sym is) ∙ own.entry;
    bare = own.bare;
  }

  -- ---- the edges

  same-edge-itself : (e : EdgeDecl) → same_edge e e ≡ true
  same-edge-itself e = rw ((bytes_eq-Decides e.parent e.parent).1 refl, (Decides-eqb e.id e.id).1 refl) refl

  or-true : (b : Bool) → (b || true) ≡ true
  or-true true = refl
  or-true false = refl

  here : (before after : List EdgeDecl) (e : EdgeDecl) → list_any (same_edge e) (before ++ e ∷ after) ≡ true
  here before after e = list_any-append (same_edge e) before (e ∷ after) ∙ rw (same-edge-itself e) (or-true (list_any (same_edge e) before))

  none-kept : (name : List ℕ) (before es all : List EdgeDecl) (n : ℕ) → before ++ es ≡ all → filter (λ e. not (is_to name e.1 || list_any (same_edge e.1) all)) (enumerate_from n es) ≡ []
  none-kept name before [] all n is = refl
  none-kept name before (e ∷ es) all n is =
      let found : list_any (same_edge e) all ≡ true = ap (list_any (same_edge e)) (sym is) ∙ here before es e in
      let drops : not (is_to name e || list_any (same_edge e) all) ≡ false = rw found (ap not (or-true (is_to name e))) in
      rw drops (none-kept name (before ++ e ∷ []) es all (n + 1) (append_assoc before (e ∷ []) es ∙ is))

  module _ (makes : makes_exit ps d ≡ true) where
    maker-edges : edges_of_implicit longer (combined_name d.name) ≡ d.edges
    maker-edges =
        let at : place_of (names longer) (combined_name d.name) ≡ Some (length ps) =
        ap (λ all. place_of all (combined_name d.name)) names-longer
        ∙ place-push_new (names ps) (combined_name d.name) (combined_name d.name) (makes-new ps d makes) ((bytes_eq-Decides (combined_name d.name) (combined_name d.name)).1 refl)
        ∙ ap Some (length-map ps name_of) in
        rw (at, get-last ps (implicit_exit d)) refl

    -- the subexit keeps no declared edge, since its implicit exit has them all
    no-edges : kept_edges longer (declared_point d) ≡ []
    unfolding kept_edges
    no-edges = rw (makes-subexit ps d makes, maker-edges) (none-kept (combined_name d.name) [] d.edges d.edges 0 refl)

    subexit-links : links_of longer (declared_point d) ≡ combined_name d.name ∷ []
    subexit-links = rw (no-edges, makes-subexit ps d makes) refl

    exit-links : links_of ps (implicit_exit d) ≡ map (λ e. e.1.parent) (kept_edges ps (implicit_exit d))
    exit-links = append-nil (map (λ e. e.1.parent) (kept_edges ps (implicit_exit d)))

-- ---- both points

pub exit-point : (o : Own) (l : KeptPoint) → l.own.value ≡ o → l.is_implicit ≡ true → point_of_place l ≡ implicit_exit o.decl
exit-point o l lo li = λ i. record { decl = (lo i).decl; is_implicit = li i }

pub exit-next : (self : List Point) (o : Own) → makes_exit self o.decl ≡ true → IsOwnBehind self o → has_many_vars self o.decl ≡ false
    → (a : Added) → a.place.own.value ≡ o → a.place.is_implicit ≡ true → (combined : List ℕ) → combined ≡ combined_name o.decl.name → a.node.name ≡ combined
    → a.place.kept ≡ map (λ e. e.0) (kept_by (Some combined) [] o.decl.edges) → a.node.links ≡ map (λ e. e.1.parent) (kept_by (Some combined) [] o.decl.edges)
    → IsNext self a
exit-next self o makes own few_vars a lo li combined c n lk ls =
    let d = o.decl in
    let l = a.place in
    let kept-same : kept_by (Some combined) [] d.edges ≡ kept_edges self (implicit_exit d) = ap (λ x. kept_by (Some x) [] d.edges) c ∙ kept-implicit self d in
    let links-are : a.node.links ≡ links_of self (implicit_exit d) = ls ∙ ap (map (λ e. e.1.parent)) kept-same ∙ sym (exit-links self d makes) in
    let name-is : a.node.name ≡ combined_name d.name = n ∙ c in
    let node-is : a.node ≡ node_of self (implicit_exit d) = λ i. record { name = name-is i; links = links-are i } in
    record {
      node = node-is ∙ ap (node_of self) (sym (exit-point o l lo li));
      place = record {
        own = subst (IsOwnBehind self) (sym lo) own;
        kept = ap (λ p. map (λ e. e.0) (kept_edges self p)) (exit-point o l lo li) ∙ ap (map (λ e. e.0)) (sym kept-same) ∙ sym lk;
        few_vars = ap (λ x. has_many_vars self x.decl) lo ∙ few_vars;
      };
    }

pub subexit-next : (self : List Point) (o : Own) → makes_exit self o.decl ≡ true → IsOwnBehind self o → has_many_vars self o.decl ≡ false
    → (a : Added) → a.place.own.value ≡ o → a.place.is_implicit ≡ false → a.node.name ≡ o.decl.name → (combined : List ℕ) → combined ≡ combined_name o.decl.name
    → a.place.kept ≡ [] → a.node.links ≡ combined ∷ [] → IsNext (self ++ implicit_exit o.decl ∷ []) a
subexit-next self o makes own few_vars a mo mi n combined c mk ms =
    let d = o.decl in
    let m = a.place in
    let behind = self ++ implicit_exit d ∷ [] in
    let point : point_of_place m ≡ declared_point d = λ i. record { decl = (mo i).decl; is_implicit = mi i } in
    let links-are : a.node.links ≡ links_of behind (declared_point d) = ms ∙ ap (λ x. x ∷ []) c ∙ sym (subexit-links self d makes) in
    let node-is : a.node ≡ node_of behind (declared_point d) = λ i. record { name = n i; links = links-are i } in
    record {
      node = node-is ∙ ap (node_of behind) (sym point);
      place = record {
        own = subst (IsOwnBehind behind) (sym mo) (own-same self d o refl own);
        kept = ap (λ p. map (λ e. e.0) (kept_edges behind p)) point ∙ ap (map (λ e. e.0)) (no-edges self d makes) ∙ sym mk;
        few_vars = ap (λ x. has_many_vars behind x.decl) mo ∙ many-same self d ∙ few_vars;
      };
    }
