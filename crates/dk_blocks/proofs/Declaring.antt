-- A declaration, and the points that it adds.
use Rattle.std.proofs.Common.{◌≡◌, ℕ, List, Ok, refl, subst}
use Rattle.dk_decl.specs.declared.decls.PointDecl.{PointDecl}
use Rattle.dk_points.specs.Declaring.{at_line, declared}
use Rattle.dk_points.specs.Table.{Point}
use Rattle.dk_points.specs.declared.declared.Declared.{Declared}
use Rattle.dk_blocks.proofs.Growing.{constants_still, declared_points, more_points}
use Rattle.dk_blocks.proofs.Keeping.{declared_ok, many_samples, waiting_still}
use Rattle.dk_blocks.specs.Fitting.{Extends, HasFittingConstants}
use Rattle.dk_blocks.specs.History.{History, with_declaration, with_table}
use Rattle.dk_blocks.specs.Keeping.{IsSound, Keeping}
use Rattle.dk_blocks.specs.Standing.{DeclaredAs, Stands}

-- with these points
abbrev pub grown_to : Keeping → List Point → Keeping
grown_to k ps = record k { points = ps }

pub sound_grown : (k : Keeping) (ps : List Point) (d : PointDecl) (line : ℕ) (x : Declared) → IsSound k → HasFittingConstants d → at_line line (declared k.points d) ≡ Ok (ps, x) → IsSound (grown_to k ps)
sound_grown k ps d line x sound own is =
    let extends : Extends k.points ps = declared_points k.points ps d line x is in
    record { constants = constants_still k.points ps d line x is sound.constants own; calls = waiting_still k.points ps k.calls extends sound.calls }

pub declaration_closes : (k : Keeping) (ps : List Point) (d : PointDecl) (line : ℕ) (x : Declared) (h : History) → at_line line (declared k.points d) ≡ Ok (ps, x)
    → Stands k h → DeclaredAs (Ok (grown_to k ps, x)) (with_declaration h line d)
unfolding Stands
declaration_closes k ps d line x h is stands =
    let extends : Extends h.table ps = subst (λ (qs : List Point). Extends qs ps) stands.table (declared_points k.points ps d line x is) in (
      with_table h ps,
      record { table = refl; header = stands.header; calls = stands.calls; many = many_samples h.table ps h.samples (more_points h.table ps extends) stands.many },
      declared_ok h k.points ps line d x stands.table is,
    )
