-- The table with one point more.
use Rattle.std.proofs.Common.{◌≡◌, ◌∙◌, ℕ, zero, suc, ◌<◌, ◌≤◌, ◌⊎◌, inl, inr, ⊎_elim, false, true, Bool, List, [], ◌∷◌, ◌++◌, length, map, take, slice_get, if◌then◌else◌, Option, Some, None, length-append, refl, sym, ap, subst, arith}
use Rattle.std.proofs.lemmas.List.{map-append, take-append-le, take_all}
use Rattle.std.specs.Option.{option_to_list}
use Rattle.dk_decl.specs.declared.decls.PointDecl.{PointDecl}
use Rattle.dk_graph.specs.declared.nodes.Node.{Node}
use Rattle.dk_points.proofs.Keeping.{length-seen}
use Rattle.dk_points.proofs.Nodes.{nodes-push}
use Rattle.dk_points.specs.Declaring.{has_many_vars}
use Rattle.dk_points.specs.Kept.{IsKept, IsOwnBehind, IsPlaceBehind, point_of_place, points_of_places}
use Rattle.dk_points.specs.Links.{kept_edges, links_of, node_of, nodes}
use Rattle.dk_points.specs.Next.{IsNext}
use Rattle.dk_points.specs.Names.{combined_name, combined_of, is_subexit, role_of}
use Rattle.dk_points.specs.Table.{Point, declared_point}
use Rattle.dk_points.specs.declared.growing.Added.{Added}
use Rattle.dk_points.specs.declared.places.Own.{Own}
use Rattle.dk_points.specs.declared.places.KeptPoint.{KeptPoint}

get_push : {X : Type 0} (xs : List X) (x y : X) (i : ℕ) → slice_get (xs ++ x ∷ []) i ≡ Some y → ((i < length xs) × (slice_get xs i ≡ Some y)) ⊎ ((i ≡ length xs) × (x ≡ y))
get_push [] x y zero at = inr (refl, cc)
get_push [] x y (suc i) at = absurd (cc)
get_push (z ∷ xs) x y zero at = inl (omega arith, at)
get_push (z ∷ xs) x y (suc i) at = ⊎_elim (λ h. inl (omega (arith, h.0), h.1)) (λ h. inr (ap suc h.0, h.1)) (get_push xs x y i at)

pub seen-push : (places : List KeptPoint) (l : KeptPoint) → points_of_places (places ++ l ∷ []) ≡ points_of_places places ++ point_of_place l ∷ []
unfolding points_of_places
seen-push places l = map-append point_of_place places (l ∷ [])

-- what is kept of one point more, and the node that it makes
pub kept-more : (graph : List Node) (places : List KeptPoint) (l : KeptPoint) → IsKept graph places → length places < 65535 → IsPlaceBehind (points_of_places places) l
    → IsKept (graph ++ node_of (points_of_places places) (point_of_place l) ∷ []) (places ++ l ∷ [])
kept-more graph places l kept few behind = record {
  joined = ap (λ ns. ns ++ node_of (points_of_places places) (point_of_place l) ∷ []) kept.joined ∙ sym (nodes-push (points_of_places places) (point_of_place l)) ∙ ap nodes (sym (seen-push places l));
  places_are = λ i m at. ⊎_elim
      (λ h. let before : i ≤ length (points_of_places places) = omega (arith, h.0, length-seen places) in
      subst (λ ps. IsPlaceBehind ps m) (sym (ap (take i) (seen-push places l) ∙ take-append-le i (points_of_places places) (point_of_place l ∷ []) before)) (kept.places_are i m h.1))
      (λ h. let all : take i (points_of_places (places ++ l ∷ [])) ≡ points_of_places places =
      ap (take i) (seen-push places l) ∙ take-append-le i (points_of_places places) (point_of_place l ∷ []) (omega (arith, h.0, length-seen places)) ∙ take_all i (points_of_places places) (omega (arith, h.0, length-seen places)) in
      subst (λ ps. IsPlaceBehind ps m) (sym all) (subst (IsPlaceBehind (points_of_places places)) h.1 behind))
      (get_push places l m i at);
  few = omega (arith, few, length-append places (l ∷ []));
}

-- the table with one point more, whose node the graph has
pub record IsMore (self : List Point) (graph : List Node) (places : List KeptPoint) (q : Point) (l : KeptPoint) (node : Node) : Type 0 where
  pub kept : IsKept (graph ++ node ∷ []) (places ++ l ∷ [])
  pub sees : points_of_places (places ++ l ∷ []) ≡ self ++ q ∷ []
  pub are_nodes : graph ++ node ∷ [] ≡ nodes (self ++ q ∷ [])

pub more : (self : List Point) (graph : List Node) (places : List KeptPoint) → points_of_places places ≡ self → IsKept graph places
    → (q : Point) (l : KeptPoint) → point_of_place l ≡ q → IsPlaceBehind self l → length self < 65535 → (node : Node) → node ≡ node_of self q → IsMore self graph places q l node
more self graph places is kept q l point-is behind few node node-is =
    let more-graph : graph ++ node ∷ [] ≡ graph ++ node_of (points_of_places places) (point_of_place l) ∷ [] =
    ap (λ n. graph ++ n ∷ []) (node-is ∙ ap (λ ps. node_of ps q) (sym is) ∙ ap (node_of (points_of_places places)) (sym point-is)) in
    let both : IsKept (graph ++ node ∷ []) (places ++ l ∷ []) =
    subst (λ g. IsKept g (places ++ l ∷ [])) (sym more-graph)
    (kept-more graph places l kept (omega (arith, few, ap length is, length-seen places)) (subst (λ ps. IsPlaceBehind ps l) (sym is) behind)) in
    let sees : points_of_places (places ++ l ∷ []) ≡ self ++ q ∷ [] =
    seen-push places l ∙ ap (λ ps. ps ++ point_of_place l ∷ []) is ∙ ap (λ p. self ++ p ∷ []) point-is in
    record { kept = both; sees = sees; are_nodes = both.joined ∙ ap nodes sees }

-- a declared point, from the parts that the code makes
pub declared-point-at : (o : Own) (l : KeptPoint) → l.own.value ≡ o → l.is_implicit ≡ false → point_of_place l ≡ declared_point o.decl
declared-point-at o l own plain = λ i. record { decl = (own i).decl; is_implicit = plain i }

pub declared-behind : (self : List Point) (o : Own) (l : KeptPoint) → l.own.value ≡ o → l.is_implicit ≡ false → IsOwnBehind self o → has_many_vars self o.decl ≡ false
    → l.kept ≡ map (λ e. e.0) (kept_edges self (declared_point o.decl)) → IsPlaceBehind self l
declared-behind self o l own plain behind few kept = record {
  own = subst (IsOwnBehind self) (sym own) behind;
  kept = ap (λ p. map (λ e. e.0) (kept_edges self p)) (declared-point-at o l own plain) ∙ sym kept;
  few_vars = ap (λ x. has_many_vars self x.decl) own ∙ few;
}

option_list-if : (b : Bool) (x : List ℕ) → option_to_list (if b then Some x else None) ≡ (if b then x ∷ [] else [])
option_list-if true x = refl
option_list-if false x = refl

pub declared-node : (self : List Point) (d : PointDecl) (name : List ℕ) (links kept : List (List ℕ)) (combined : Option (List ℕ)) → name ≡ d.name
    → links ≡ kept ++ option_to_list combined → kept ≡ map (λ e. e.1.parent) (kept_edges self (declared_point d)) → combined ≡ combined_of d.name
    → record { name = name; links = links } ≡ node_of self (declared_point d)
declared-node self d name links kept combined n ls k c =
    let all : links ≡ links_of self (declared_point d) = ls ∙ ap (λ x. x ++ option_to_list combined) k
    ∙ ap (λ x. map (λ e. e.1.parent) (kept_edges self (declared_point d)) ++ option_to_list x) c
    ∙ ap (λ x. map (λ e. e.1.parent) (kept_edges self (declared_point d)) ++ x) (option_list-if (is_subexit (role_of d.name)) (combined_name d.name)) in
    λ i. record { name = n i; links = all i }

pub declared-next : (self : List Point) (o : Own) → IsOwnBehind self o → has_many_vars self o.decl ≡ false
    → (a : Added) → a.place.own.value ≡ o → a.place.is_implicit ≡ false → a.node.name ≡ o.decl.name
    → (kept : List (List ℕ)) (combined : Option (List ℕ)) → a.node.links ≡ kept ++ option_to_list combined
    → kept ≡ map (λ e. e.1.parent) (kept_edges self (declared_point o.decl)) → combined ≡ combined_of o.decl.name
    → a.place.kept ≡ map (λ e. e.0) (kept_edges self (declared_point o.decl)) → IsNext self a
declared-next self o behind few_vars a own plain n kept combined ls k c edges = record {
  node = declared-node self o.decl a.node.name a.node.links kept combined n ls k c ∙ ap (node_of self) (sym (declared-point-at o a.place own plain));
  place = declared-behind self o a.place own plain behind few_vars edges;
}

-- the table with what comes next
pub next-more : (self : List Point) (graph : List Node) (places : List KeptPoint) → points_of_places places ≡ self → IsKept graph places → length self < 65535
    → (a : Added) → IsNext self a → IsMore self graph places (point_of_place a.place) a.place a.node
next-more self graph places is kept few a next = more self graph places is kept (point_of_place a.place) a.place refl next.place few a.node next.node
