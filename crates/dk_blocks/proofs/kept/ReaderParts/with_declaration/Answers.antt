use Rattle.std.proofs.Common.{◌≡◌, ap, subst, sym, List}
use Rattle.dk_points.specs.Table.{Point}
use Rattle.dk_blocks.proofs.Declaring.{declaration_closes, sound_grown}
use Rattle.dk_blocks.proofs.Growing.{declared_points}
use Rattle.dk_blocks.proofs.Keeping.{declared_told}
use Rattle.dk_blocks.specs.Fitting.{Extends}
use Rattle.dk_blocks.specs.Keeping.{Keeping}
use Rattle.dk_blocks.specs.Standing.{Stands}
use Rattle.dk_blocks.proofs.kept.ReaderParts.with_declaration.Goals as goal

pub invariant_of-result : goal.invariant_of-result
invariant_of-result c =
    let k : Keeping = record { points = c.self.inside.points; header = c.self.inside.header; calls = c.self.inside.calls } in
    sound_grown k c.in-Ok.points c.args.decl c.args.line c.in-Ok.declared c.self.invariant c.requires c.in-Ok.ensures

pub returns-in-Ok-clause-gives : goal.returns-in-Ok-clause-gives
returns-in-Ok-clause-gives c h stands =
    let k : Keeping = record { points = c.self.inside.points; header = c.self.inside.header; calls = c.self.inside.calls } in
    declaration_closes k c.in-Ok.points c.args.decl c.args.line c.in-Ok.declared h c.in-Ok.ensures (subst (λ (x : Keeping). Stands x h) (sym c.self.view_is) stands)

pub returns-in-Ok-clause-points : goal.returns-in-Ok-clause-points
returns-in-Ok-clause-points c =
    let points : c.self.inside.points ≡ c.args.self.points = ap (λ (k : Keeping). k.points) c.self.view_is in
    subst (λ (ps : List Point). Extends ps c.in-Ok.points) points
    (declared_points c.self.inside.points c.in-Ok.points c.args.decl c.args.line c.in-Ok.declared c.in-Ok.ensures)

pub returns-in-Err-clause-gives : goal.returns-in-Err-clause-gives
unfolding Stands
returns-in-Err-clause-gives c h stands =
    let own = subst (λ (x : Keeping). Stands x h) (sym c.self.view_is) stands in
    declared_told h c.self.inside.points c.args.line c.args.decl c.in-Err.fault own.table c.in-Err.ensures
