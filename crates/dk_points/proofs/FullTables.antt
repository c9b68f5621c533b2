-- A table that is full takes no new point.
use Rattle.std.proofs.Common.{◌≡◌, ◌∙◌, ℕ, ◌≤◌, ◌++◌, nat_lt, Bool, true, false, List, length, None, Err, sym, refl, arith}
use Rattle.dk_base.specs.declared.why.Why.TheVariants.{TooManyPoints}
use Rattle.dk_decl.specs.declared.decls.PointDecl.{PointDecl}
use Rattle.dk_graph.specs.Names.{place_of}
use Rattle.dk_points.proofs.Declarations.{known-at, length-added, new-points}
use Rattle.dk_points.specs.Declaring.{declared}
use Rattle.dk_points.specs.Laws.{FullTableTakesNone}
use Rattle.dk_points.specs.Table.{Point, added_points, makes_exit, names}

more-than : (n : ℕ) → 65536 ≤ n → nat_lt 65535 n ≡ true
more-than n h = grind arith

refused-by : (ps : List Point) (d : PointDecl) → 65536 ≤ length (ps ++ added_points ps d) → place_of (names ps) d.name ≡ None → declared ps d ≡ Err TooManyPoints
refused-by ps d many none = known-at ps d None none ∙ new-points ps d (more-than (length (ps ++ added_points ps d)) many)

one-more : (ps : List Point) (d : PointDecl) → 65535 ≤ length ps → 65536 ≤ length (ps ++ added_points ps d)
one-more ps d full = go (makes_exit ps d) refl
  where
    go : (b : Bool) → b ≡ makes_exit ps d → 65536 ≤ length (ps ++ added_points ps d)
    go true h = omega (arith, full, length-added ps d true h)
    go false h = omega (arith, full, length-added ps d false h)

pub full-table : FullTableTakesNone
full-table = record {
  one = λ ps d full none. refused-by ps d (one-more ps d full) none;
  two = λ ps d full makes none. refused-by ps d (omega (arith, full, length-added ps d true (sym makes))) none;
}
