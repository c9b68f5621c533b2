-- What the table keeps, against its points.
use Rattle.std.proofs.Common.{◌≡◌, ◌∙◌, ℕ, zero, suc, ◌<◌, ◌≤◌, ◌||◌, nat_lt, false, Bool, true, List, [], ◌∷◌, length, map, take, get_or, slice_get, Option, Some, None, IfSome, option_map, option_and_then, position, length-take, if◌then◌else◌, refl, sym, ap, subst, arith}
use Rattle.std.proofs.lemmas.List.{append-nil, length-map}
use Rattle.std.proofs.lemmas.List.Quantifiers.{position-Some}
use Rattle.std.specs.Str.{bytes_eq}
use Rattle.dk_base.specs.Shapes.{shape_of, with_derived}
use Rattle.dk_base.specs.declared.kinds.PointId.{PointId}
use Rattle.dk_base.specs.declared.kinds.VarInfo.{VarInfo}
use Rattle.dk_graph.specs.Graphs.{place_in}
use Rattle.dk_graph.specs.Names.{place_of}
use Rattle.dk_graph.specs.declared.nodes.Edge.{Edge}
use Rattle.dk_graph.specs.declared.nodes.Node.{Node}
use Rattle.dk_decl.specs.declared.decls.PointDecl.{PointDecl}
use Rattle.dk_points.proofs.Counting.{length-with_derived}
use Rattle.dk_points.specs.Declaring.{has_many_vars}
use Rattle.dk_points.specs.Kept.{IsKept, IsPlaceBehind, point_of_place, points_of_places}
use Rattle.dk_points.specs.Names.{entry_name, is_exit, role_of}
use Rattle.dk_points.specs.Partners.{is_like, partner_name, partner_of, plain_name}
use Rattle.dk_points.specs.Table.{Point, decl_at, decl_if_declared, name_of, names}
use Rattle.dk_points.specs.Vars.{base_vars, declared_vars, entry_before, entry_of, orig_vars, vars_of}
use Rattle.dk_points.specs.declared.places.KeptPoint.{KeptPoint}
use Rattle.dk_points.specs.Links.{nodes}

pub kept-nothing : (graph : List Node) (places : List KeptPoint) → graph ≡ [] → places ≡ [] → IsKept graph places
unfolding points_of_places nodes
kept-nothing graph places g p = rw (g, p) (record { joined = refl; places_are = λ i l at. absurd (cc); few = omega arith })

pub length-seen : (places : List KeptPoint) → length (points_of_places places) ≡ length places
unfolding points_of_places
length-seen places = length-map places point_of_place

get-map : {X Y : Type 0} (f : X → Y) (xs : List X) (i : ℕ) (x : X) → slice_get xs i ≡ Some x → slice_get (map f xs) i ≡ Some (f x)
get-map f [] i x at = absurd (cc)
get-map f (y ∷ xs) zero x at = let same : y ≡ x = cc in ap (λ z. Some (f z)) same
get-map f (y ∷ xs) (suc i) x at = get-map f xs i x at

pub get_at : {X : Type 0} (xs : List X) (i : ℕ) (x : X) → i < length xs → x ≡ get_or xs i x → slice_get xs i ≡ Some x
get_at [] i x h e = absurd (omega (arith, h))
get_at (y ∷ xs) zero x h e = ap Some (sym e)
get_at (y ∷ xs) (suc i) x h e = get_at xs i x (omega (arith, h)) e

-- what is kept at a point's place
pub kept-at : (graph : List Node) (places : List KeptPoint) (ps : List Point) (p : ℕ) (l : KeptPoint) → IsKept graph places → points_of_places places ≡ ps → p < length places → l ≡ get_or places p l
    → (slice_get ps p ≡ Some (point_of_place l)) × IsPlaceBehind (take p ps) l
unfolding points_of_places
kept-at graph places ps p l kept is h e =
    let at : slice_get places p ≡ Some l = get_at places p l h e in
    (sym (ap (λ xs. slice_get xs p) is) ∙ get-map point_of_place places p l at, subst (λ xs. IsPlaceBehind (take p xs) l) is (kept.places_are p l at))

pub vars-at : (ps : List Point) (p : ℕ) (l : KeptPoint) → slice_get ps p ≡ Some (point_of_place l) → IsPlaceBehind (take p ps) l → vars_of ps p ≡ l.own.value.vars
unfolding vars_of
vars-at ps p l at kept = rw at kept.own.vars

pub entry-at : (ps : List Point) (p : ℕ) (l : KeptPoint) → slice_get ps p ≡ Some (point_of_place l) → IsPlaceBehind (take p ps) l → entry_of ps p ≡ option_map place_in l.own.value.entry
unfolding entry_of
entry-at ps p l at kept = rw at kept.own.entry

pub decl-at : (ps : List Point) (p : ℕ) (l : KeptPoint) → slice_get ps p ≡ Some (point_of_place l) → decl_at ps p ≡ decl_if_declared (point_of_place l)
decl-at ps p l at = rw at refl

-- a place that a look-up finds is one of the names
pub place-within : (all : List (List ℕ)) (name : List ℕ) → IfSome (place_of all name) (λ i. i < length all)
unfolding place_of
place-within all name = go (place_of all name) refl
  where
    go : (o : Option ℕ) → place_of all name ≡ o → IfSome o (λ i. i < length all)
    go None e = tt
    go (Some i) e = (position-Some (bytes_eq name) all i [] e).0

pub entry-within : (ps : List Point) (name : List ℕ) → IfSome (entry_before ps name) (λ i. i < length ps)
unfolding entry_before
entry-within ps name = go (is_exit (role_of name))
  where
    go : (b : Bool) → IfSome (if b then place_of (names ps) (entry_name name) else None) (λ i. i < length ps)
    go true = subst (λ n. IfSome (place_of (names ps) (entry_name name)) (λ i. i < n)) (length-map ps name_of) (place-within (names ps) (entry_name name))
    go false = tt

-- an entry stands before its exits
pub entry-before : (ps : List Point) (p : ℕ) (l : KeptPoint) → IsPlaceBehind (take p ps) l → IfSome l.own.value.entry (λ e. e.0 < p)
entry-before ps p l kept = go l.own.value.entry kept.own.entry
  where
    go : (o : Option PointId) → entry_before (take p ps) l.own.value.decl.name ≡ option_map place_in o → IfSome o (λ e. e.0 < p)
    go None is = tt
    go (Some e) is =
        let within : e.0 < length (take p ps) = subst (λ o. IfSome o (λ i. i < length (take p ps))) is (entry-within (take p ps) l.own.value.decl.name) in
        omega (arith, within, length-take p ps)

-- the partner, by what is kept of the child
pub partner-at : (ps : List Point) (e : Edge) (w : ℕ) (v : VarInfo) (l : KeptPoint) → slice_get (vars_of ps e.parent.0) w ≡ Some v → slice_get ps e.child.0 ≡ Some (point_of_place l)
    → IsPlaceBehind (take e.child.0 ps) l
    → partner_of ps e w ≡ option_and_then (λ name. position (is_like v name) l.own.value.vars) (partner_name l.own.value.decl (slice_get l.kept e.number) (plain_name v))
unfolding partner_of
partner-at ps e w v l var child kept = rw (var, child, kept.kept, vars-at ps e.child.0 l child kept) refl

or_right : (a b : Bool) → (a || b) ≡ false → b ≡ false
or_right true b h = cc
or_right false b h = h

-- with the derived ones there are few variables
pub few-vars-at : (ps : List Point) (l : KeptPoint) → IsPlaceBehind ps l → length (with_derived (map shape_of l.own.value.vars)) ≤ 16384
unfolding has_many_vars
few-vars-at ps l kept =
    let few : nat_lt 16384 (length (with_derived (map shape_of (base_vars ps l.own.value.decl)))) ≡ false = or_right (nat_lt 1024 (length l.own.value.decl.vars)) _ kept.few_vars in
    subst (λ vs. length (with_derived (map shape_of vs)) ≤ 16384) kept.own.vars (grind (arith, few))

pub few-base-vars-at : (ps : List Point) (l : KeptPoint) → IsPlaceBehind ps l → length l.own.value.vars ≤ 16384
few-base-vars-at ps l kept =
    let few = few-vars-at ps l kept in
    let all = length-with_derived l.own.value.vars in
    omega (arith, few, all)

pub base-vars-none : (ps : List Point) (d : PointDecl) → entry_before ps d.name ≡ None → base_vars ps d ≡ declared_vars d.vars
unfolding orig_vars
base-vars-none ps d none = rw none (append-nil (declared_vars d.vars))
