use Rattle.std.proofs.Common.{◌≡◌, ◌<◌, ◌++◌, ◌∙◌, ℕ, List, ap, arith, refl, subst}
use Rattle.std.proofs.lemmas.Result.{err_from_is_err_and}
use Rattle.dk_blocks.specs.History.{History}
use Rattle.dk_driver.proofs.Taking.{table_of}
use Rattle.dk_driver.specs.Consuming.{Record}
use Rattle.dk_driver.specs.Standing.{StandsFor, points_of, told_by}
use Rattle.dk_points.specs.Table.{Point}
use Rattle.dk_program.proofs.Writing.{cut_short, cut_then, parts_behind, parts_more, parts_to, told_nothing, told_same, told_then}
use Rattle.dk_program.specs.Telling.{in_parts}
use Rattle.dk_program.proofs.reporting.write_parts.Goals as goal

pub loop-place-init : goal.loop-place-init
loop-place-init g c = told_nothing (StandsFor g.P.Kept.Consumer.stands c.args.feed.now) _ _ _ (λ h records stands. refl)

pub loop-place-preserved : goal.loop-place-preserved
loop-place-preserved g c =
    let at : History → List Record → ℕ → List ℕ = λ h records. g.P.InParts.part c.args.program.now (told_by h records) in
    let Stands : History → List Record → Type 0 = StandsFor g.P.Kept.Consumer.stands c.args.feed.now in
    told_same Stands (λ h records. parts_to (at h records) c.loop-place.place ++ at h records c.loop-place.place) _ _ _ _ _
    (λ h records stands. parts_more (at h records) c.loop-place.place)
    (told_then Stands (λ h records. parts_to (at h records) c.loop-place.place) (λ h records. at h records c.loop-place.place) _ _ _ _ _ _ c.loop-place.invariant c.in_ok-tell_part.ensures)

pub returns-in_err-tell_part : goal.returns-in_err-tell_part
returns-in_err-tell_part g c =
    let p = err_from_is_err_and c.from_residual.result c.from_residual.ensures.1 in
    let at : History → List Record → ℕ → List ℕ = λ h records. g.P.InParts.part c.args.program.now (told_by h records) in
    let Stands : History → List Record → Type 0 = StandsFor g.P.Kept.Consumer.stands c.args.feed.now in
    let count : List Point → ℕ = g.P.InParts.part_count c.args.program.now in
    let within : c.loop-place.place < count (points_of c.args.feed.now) = omega (arith, c.part_count-place-end.ensures) in
    rw (p.1, p.2) (cut_short Stands (λ h records. parts_to (at h records) c.loop-place.place ++ at h records c.loop-place.place)
    (λ h records. in_parts g.P.InParts.part_count g.P.InParts.part c.args.program.now (told_by h records)) _ _ _ _ _
    (λ h records stands. parts_behind (at h records) c.loop-place.place (count h.table)
    (subst (λ (ps : List Point). c.loop-place.place < count ps) (table_of c.args.feed.now.events.reader h stands.events) within))
    (cut_then Stands (λ h records. parts_to (at h records) c.loop-place.place) (λ h records. at h records c.loop-place.place) _ _ _ _ _ _ _ c.loop-place.invariant c.in_err-tell_part.ensures))

pub returns : goal.returns
returns g c =
    let at : History → List Record → ℕ → List ℕ = λ h records. g.P.InParts.part c.args.program.now (told_by h records) in
    let Stands : History → List Record → Type 0 = StandsFor g.P.Kept.Consumer.stands c.args.feed.now in
    let count : List Point → ℕ = g.P.InParts.part_count c.args.program.now in
    let all : c.loop-place.place ≡ count (points_of c.args.feed.now) = omega (arith, c.part_count-place-end.ensures) in
    told_same Stands (λ h records. parts_to (at h records) c.loop-place.place)
    (λ h records. in_parts g.P.InParts.part_count g.P.InParts.part c.args.program.now (told_by h records)) _ _ _ _
    (λ h records stands. ap (parts_to (at h records)) (all ∙ ap count (table_of c.args.feed.now.events.reader h stands.events)))
    c.loop-place.invariant
