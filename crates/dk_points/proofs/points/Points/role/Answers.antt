use Rattle.std.proofs.Common.{◌≡◌, ◌∙◌, None, Option, Some, ap, refl, sym}
use Rattle.std.specs.Option.{option_map}
use Rattle.dk_decl.specs.declared.decls.PointDecl.{PointDecl}
use Rattle.dk_points.specs.Names.{role_of}
use Rattle.dk_points.specs.Table.{decl_at}
use Rattle.dk_points.specs.declared.roles.Role.{Role}
use Rattle.dk_points.proofs.Keeping.{decl-at}
use Rattle.dk_points.proofs.points.Points.role.Goals as goal

pub returns-then-place : goal.returns-then-place
returns-then-place c =
    let none : decl_at c.args.self.now c.args.p.0 ≡ None =
    decl-at c.args.self.now c.args.p.0 c.place-place.result.now c.place-place.ensures.point ∙ rw (c.if-place.true) refl in
    sym (ap (option_map (λ (d : PointDecl). role_of d.name)) none)

pub returns-else-place : goal.returns-else-place
returns-else-place c =
    let own : decl_at c.args.self.now c.args.p.0 ≡ Some c.place-place.result.now.own.value.decl =
    decl-at c.args.self.now c.args.p.0 c.place-place.result.now c.place-place.ensures.point ∙ rw (c.if-place.false) refl in
    let role : Some (role_of c.place-place.result.now.own.value.decl.name) ≡ Some c.place-place.result.now.own.value.role =
    ap (λ (r : Role). Some r) c.place-place.ensures.kept.own.role in
    rw (c.deref.ensures) (sym (ap (option_map (λ (d : PointDecl). role_of d.name)) own ∙ role))
