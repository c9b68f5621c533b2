-- What a declaration of a new name comes to.
use Rattle.std.proofs.Common.{◌≡◌, ◌∙◌, ℕ, ◌+◌, ◌≤◌, ◌-◌, ◌&&◌, ◌||◌, nat_lt, Bool, true, false, List, [], ◌∷◌, ◌++◌, length, map, Option, Some, None, is_none, Ok, Err, length-append, if◌then◌else◌, refl, sym, ap, arith}
use Rattle.dk_base.specs.Shapes.{shape_of, with_derived}
use Rattle.dk_base.specs.declared.faults.BlockFault.{BlockFault}
use Rattle.dk_base.specs.declared.faults.BlockFault.TheVariants.{NoMemory, Refused}
use Rattle.dk_base.specs.declared.kinds.VarInfo.{VarInfo}
use Rattle.dk_base.specs.declared.why.Why.TheVariants.{CyclicParents, TooManyPoints, TooManyVariables}
use Rattle.dk_decl.specs.Outcomes.{FaultAgrees, refused}
use Rattle.dk_decl.specs.declared.decls.PointDecl.{PointDecl}
use Rattle.dk_graph.specs.Graphs.{has_cycle}
use Rattle.dk_graph.specs.Names.{place_of}
use Rattle.dk_points.specs.Declaring.{at_line, declared, declared_at, declared_new, has_many_points, has_many_vars}
use Rattle.dk_points.specs.Kept.{IsOwnBehind, Judges}
use Rattle.dk_points.specs.Links.{nodes}
use Rattle.dk_points.specs.Names.{combined_name, combined_of, is_subexit, role_of}
use Rattle.dk_points.specs.Table.{Point, added_points, declared_point, implicit_exit, makes_exit, names}
use Rattle.dk_points.specs.Vars.{base_vars}
use Rattle.dk_points.specs.declared.declared.Declared.TheVariants.{New}
use Rattle.dk_points.specs.declared.places.Own.{Own}

pub added-one : (ps : List Point) (d : PointDecl) → makes_exit ps d ≡ false → added_points ps d ≡ declared_point d ∷ []
added-one ps d h = ap (λ b. if b then implicit_exit d ∷ declared_point d ∷ [] else declared_point d ∷ []) h

pub added-two : (ps : List Point) (d : PointDecl) → makes_exit ps d ≡ true → added_points ps d ≡ implicit_exit d ∷ declared_point d ∷ []
added-two ps d h = ap (λ b. if b then implicit_exit d ∷ declared_point d ∷ [] else declared_point d ∷ []) h

pub no-exit : (ps : List Point) (d : PointDecl) → combined_of d.name ≡ None → makes_exit ps d ≡ false
no-exit ps d h = go (is_subexit (role_of d.name)) h
  where
    go : (b : Bool) → (if b then Some (combined_name d.name) else None) ≡ None → (b && is_none (place_of (names ps) (combined_name d.name))) ≡ false
    go true e = cc
    go false e = refl

pub length-added : (ps : List Point) (d : PointDecl) (b : Bool) → b ≡ makes_exit ps d → length (ps ++ added_points ps d) ≡ length ps + (if b then 2 else 1)
length-added ps d true h = length-append ps (added_points ps d) ∙ ap (λ xs. length ps + length xs) (added-two ps d (sym h))
length-added ps d false h = length-append ps (added_points ps d) ∙ ap (λ xs. length ps + length xs) (added-one ps d (sym h))

pub few-added : (ps : List Point) (d : PointDecl) → has_many_points (ps ++ added_points ps d) ≡ false → length (ps ++ added_points ps d) ≤ 65535
few-added ps d h = grind (arith, h)

pub new-points : (ps : List Point) (d : PointDecl) → has_many_points (ps ++ added_points ps d) ≡ true → declared_new ps d ≡ Err TooManyPoints
new-points ps d h = rw h refl

pub new-vars : (ps : List Point) (d : PointDecl) → has_many_points (ps ++ added_points ps d) ≡ false → has_many_vars ps d ≡ true → declared_new ps d ≡ Err TooManyVariables
new-vars ps d h k = rw (h, k) refl

pub new-cyclic : (ps : List Point) (d : PointDecl) → has_many_points (ps ++ added_points ps d) ≡ false → has_many_vars ps d ≡ false → has_cycle (nodes (ps ++ added_points ps d)) ≡ true
    → declared_new ps d ≡ Err CyclicParents
new-cyclic ps d h k c = rw (h, k, c) refl

pub new-added : (ps : List Point) (d : PointDecl) → has_many_points (ps ++ added_points ps d) ≡ false → has_many_vars ps d ≡ false → has_cycle (nodes (ps ++ added_points ps d)) ≡ false
    → (t : List Point) (n : ℕ) → t ≡ ps ++ added_points ps d → n ≡ length t - 1 → declared_new ps d ≡ Ok (t, New (record { 0 = n }))
new-added ps d h k c t n is at =
    let last : length (ps ++ added_points ps d) - 1 ≡ n = ap (λ x. length x - 1) (sym is) ∙ sym at in
    rw (h, k, c) (λ i. Ok (sym is i, New (record { 0 = last i })))

pub vars-are-many : (ps : List Point) (d : PointDecl) (o : Own) (declared : ℕ) (vs : List VarInfo) (r : Bool) → o.decl ≡ d → IsOwnBehind ps o → declared ≡ length o.decl.vars → vs ≡ o.vars
    → r ≡ (nat_lt 1024 declared || nat_lt 16384 (length (with_derived (map shape_of vs)))) → r ≡ has_many_vars ps d
unfolding has_many_vars
vars-are-many ps d o declared vs r is own n are h =
    h ∙ ap (λ x. nat_lt 1024 x || nat_lt 16384 (length (with_derived (map shape_of vs)))) (n ∙ ap (λ x. length x.vars) is)
    ∙ ap (λ xs. nat_lt 1024 (length d.vars) || nat_lt 16384 (length (with_derived (map shape_of xs)))) (are ∙ sym own.vars ∙ ap (base_vars ps) is)

-- the refusal that judging gives is the declaration's
pub judged-told : (fault : BlockFault) (line : ℕ) (ps : List Point) (d : PointDecl) → Judges (Err fault) line ps d → FaultAgrees fault (at_line line (declared_new ps d))
judged-told (Refused l why) line ps d h = rw h.1 (ap (refused why) (sym h.0))
judged-told NoMemory line ps d h = tt

pub known-at : (ps : List Point) (d : PointDecl) (o : Option ℕ) → place_of (names ps) d.name ≡ o → declared ps d ≡ declared_at ps d o
unfolding declared
known-at ps d o h = ap (declared_at ps d) h

pub one-added : (ps : List Point) (d : PointDecl) (t : List Point) → t ≡ ps ++ added_points ps d → 1 ≤ length t
one-added ps d t is = go (makes_exit ps d) refl
  where
    go : (b : Bool) → b ≡ makes_exit ps d → 1 ≤ length t
    go true h = omega (arith, ap length is, length-added ps d true h)
    go false h = omega (arith, ap length is, length-added ps d false h)
