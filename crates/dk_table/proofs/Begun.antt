-- What the declaration of a table comes to, where no other point is declared.
use Rattle.std.proofs.Common.{◌≡◌, ◌≢◌, ◌-◌, ◌∙◌, ◌∷◌, ◌++◌, [], ℕ, Bool, true, false, List, Option, Some, None, Ok, codes, length, option_and_then, option_map, replicate, refl, sym, ap, subst, length-append, if◌then◌else◌, arith}
use Rattle.std.specs.Prelude.{◌&&◌, filter_map, nat_le}
use Rattle.std.specs.Str.{bytes_eq}
use Rattle.std.proofs.lemmas.Bool.{false≢true}
use Rattle.std.proofs.lemmas.Slice.Eq.{bytes_eq-Decides}
use Rattle.dk_base.specs.declared.values.Value.{Value}
use Rattle.dk_decl.specs.declared.decls.PointDecl.{PointDecl}
use Rattle.dk_graph.specs.Graphs.{Link, depth_of, edges, has_cycle, height, links, some_below}
use Rattle.dk_graph.specs.Names.{place_of}
use Rattle.dk_graph.specs.declared.nodes.Edge.{Edge}
use Rattle.dk_graph.proofs.Positions.{or_last, place_of-push}
use Rattle.dk_points.specs.Declaring.{declared, has_many_points, has_many_vars}
use Rattle.dk_points.specs.Links.{kept_edges, nodes}
use Rattle.dk_points.specs.Names.{combined_name, entry_name, is_exit, is_subexit, method_of, role_of}
use Rattle.dk_points.specs.Table.{Point, added_points, decl_at, declared_point, implicit_exit, makes_exit}
use Rattle.dk_points.specs.Vars.{entry_before, entry_of}
use Rattle.dk_points.specs.declared.declared.Declared.TheVariants.{New}
use Rattle.dk_points.proofs.Declarations.{added-one, added-two, new-added}
use Rattle.dk_points.proofs.Exits.{combined-differs, makes-subexit}
use Rattle.dk_trace.specs.Records.{declared_place}
use Rattle.dk_table.specs.Traces.{declaration_of}
use Rattle.dk_table.specs.declared.columns.ColumnKind.{ColumnKind}

-- ---- names

unequal : (a b : List ℕ) → a ≢ b → bytes_eq a b ≡ false
unequal a b h = go (bytes_eq a b) refl
  where
    go : (x : Bool) → bytes_eq a b ≡ x → x ≡ false
    go false e = refl
    go true e = absurd (h ((bytes_eq-Decides a b).0 e))

same : (a : List ℕ) → bytes_eq a a ≡ true
same a = (bytes_eq-Decides a a).1 refl

entry_differs : (name : List ℕ) → bytes_eq (entry_name name) (combined_name name) ≡ false
entry_differs name = unequal (entry_name name) (combined_name name)
    (λ e. omega (arith, ap length e, length-append (method_of name) (codes ":::ENTER"), length-append (method_of name) (codes ":::EXIT")))

name_differs : (name : List ℕ) → is_subexit (role_of name) ≡ true → bytes_eq name (combined_name name) ≡ false
name_differs name sub =
    unequal name (combined_name name) (λ e. absurd (false≢true (sym (combined-differs name sub) ∙ (bytes_eq-Decides (combined_name name) name).1 (sym e))))

only : (name x : List ℕ) → place_of (name ∷ []) x ≡ (if bytes_eq x name then Some 0 else None)
unfolding place_of
only name x = place_of-push [] name x

-- ---- the points

-- a table of these points, the last of which is declared so, behind others that have no samples
pub record IsBegun (d : PointDecl) (ps : List Point) (front : List (List (List Value))) : Type 0 where
  pub place : declared_place ps d.name ≡ Some (length front)
  pub entry : entry_of ps (length front) ≡ None
  pub few : has_many_points ps ≡ false
  pub fine : has_cycle (nodes ps) ≡ false
  pub others : replicate (length ps) [] ≡ front ++ [] ∷ []
  pub front_is : front ≡ replicate (length ps - 1) []

module _ (point : List ℕ) (columns : List (List ℕ)) (kinds : List ColumnKind) where
  abbrev d : PointDecl
  d = declaration_of point columns kinds

  one_place : declared_place (declared_point d ∷ []) point ≡ Some 0
  one_place =
      ap (λ (o : Option ℕ). option_and_then (λ p. option_map (λ _. p) (decl_at (declared_point d ∷ []) p)) o)
      (only point point ∙ ap (λ (b : Bool). if b then Some 0 else None) (same point))

  one_entry : entry_of (declared_point d ∷ []) 0 ≡ None
  unfolding entry_of entry_before place_of
  one_entry = go (is_exit (role_of point))
    where
      go : (b : Bool) → (if b then place_of [] (entry_name point) else None) ≡ None
      go true = refl
      go false = refl

  alone : has_cycle (record { name = point; links = [] } ∷ []) ≡ false
  unfolding has_cycle depth_of edges links
  alone = refl

  one_fine : is_subexit (role_of point) ≡ false → has_cycle (nodes (declared_point d ∷ [])) ≡ false
  unfolding nodes kept_edges
  one_fine plain =
      ap (λ (b : Bool). has_cycle (record { name = point; links = if b then combined_name point ∷ [] else [] } ∷ [])) plain ∙ alone

  plain_of : makes_exit [] d ≡ false → is_subexit (role_of point) ≡ false
  unfolding place_of
  plain_of h = go (is_subexit (role_of point)) h
    where
      go : (b : Bool) → (b && true) ≡ false → b ≡ false
      go false e = refl
      go true e = e

  two_place : is_subexit (role_of point) ≡ true → declared_place (implicit_exit d ∷ declared_point d ∷ []) point ≡ Some 1
  two_place sub =
      ap (λ (o : Option ℕ). option_and_then (λ p. option_map (λ _. p) (decl_at (implicit_exit d ∷ declared_point d ∷ []) p)) o)
      (place_of-push (combined_name point ∷ []) point point
      ∙ ap (λ (o : Option ℕ). or_last o (bytes_eq point point) 1) (only (combined_name point) point ∙ ap (λ (b : Bool). if b then Some 0 else None) (name_differs point sub))
      ∙ ap (λ (b : Bool). or_last None b 1) (same point))

  two_entry : entry_of (implicit_exit d ∷ declared_point d ∷ []) 1 ≡ None
  unfolding entry_of entry_before
  two_entry = go (is_exit (role_of point))
    where
      go : (b : Bool) → (if b then place_of (combined_name point ∷ []) (entry_name point) else None) ≡ None
      go true = only (combined_name point) (entry_name point) ∙ ap (λ (b : Bool). if b then Some 0 else None) (entry_differs point)
      go false = refl

  combined_place : place_of (combined_name point ∷ point ∷ []) (combined_name point) ≡ Some 0
  combined_place =
      place_of-push (combined_name point ∷ []) point (combined_name point)
      ∙ ap (λ (o : Option ℕ). or_last o (bytes_eq (combined_name point) point) 1)
      (only (combined_name point) (combined_name point) ∙ ap (λ (b : Bool). if b then Some 0 else None) (same (combined_name point)))

  -- the edge of a subexit to its combined exit, which is at a place or is none
  abbrev linked : Option ℕ → List Edge
  linked o = filter_map (λ (l : Link). option_map (λ j. record { child = record { 0 = l.child }; parent = record { 0 = j }; number = l.number }) o) (record { child = 1; number = 0; parent = combined_name point } ∷ [])

  below : has_cycle (record { name = combined_name point; links = [] } ∷ record { name = point; links = combined_name point ∷ [] } ∷ []) ≡ false
  unfolding has_cycle depth_of edges links
  below = ap (λ (o : Option ℕ). some_below (λ q. nat_le 2 (height (linked o) 2 q)) 2) combined_place

  two_fine : is_subexit (role_of point) ≡ true → has_cycle (nodes (implicit_exit d ∷ declared_point d ∷ [])) ≡ false
  unfolding nodes kept_edges
  two_fine sub =
      ap (λ (b : Bool). has_cycle (record { name = combined_name point; links = [] } ∷ record { name = point; links = if b then combined_name point ∷ [] else [] } ∷ [])) sub ∙ below

  pub begun : (front : List (List (List Value))) × IsBegun d (added_points [] d) front
  begun = by (makes_exit [] d) refl
    where
      by : (b : Bool) → makes_exit [] d ≡ b → (front : List (List (List Value))) × IsBegun d (added_points [] d) front
      by false is = (
        [],
        subst (λ (ps : List Point). IsBegun d ps []) (sym (added-one [] d is))
            (record { place = one_place; entry = one_entry; few = refl; fine = one_fine (plain_of is); others = refl; front_is = refl }),
      )
      by true is =
          let sub = makes-subexit [] d is in (
            [] ∷ [],
            subst (λ (ps : List Point). IsBegun d ps ([] ∷ [])) (sym (added-two [] d is))
                (record { place = two_place sub; entry = two_entry; few = refl; fine = two_fine sub; others = refl; front_is = refl }),
          )

  pub begins : (front : List (List (List Value))) → IsBegun d (added_points [] d) front → has_many_vars [] d ≡ false
      → declared [] d ≡ Ok (added_points [] d, New (record { 0 = length (added_points [] d) - 1 }))
  unfolding declared place_of
  begins front first few = new-added [] d first.few few first.fine (added_points [] d) (length (added_points [] d) - 1) refl refl
