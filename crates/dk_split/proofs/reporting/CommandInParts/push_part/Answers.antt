use Rattle.std.proofs.Common.{◌≡◌, ◌++◌, List, subst, sym}
use Rattle.dk_implications.specs.Reports.{implications_at}
use Rattle.dk_points.specs.Table.{Point}
use Rattle.dk_template.specs.declared.grammar.Grammar.TheVariants.{Two}
use Rattle.dk_split.proofs.Sections.{on_ok}
use Rattle.dk_split.specs.Standing.{StandsFor}
use Rattle.dk_split.specs.declared.splits.Splits.{Splits}
use Rattle.dk_split.proofs.reporting.CommandInParts.push_part.Goals as goal

pub returns : goal.returns
returns c =
    on_ok c.push_section.result _ _
    (λ says h records stands.
    let table : c.points-points.result.now ≡ h.table = c.points-points.ensures.table h records stands in
    subst (λ (ps : List Point). c.push_section.new.text ≡ c.args.text.now ++ implications_at Two c.args.self.now.least ps h.samples c.args.place) table
    (says h.samples (subst (λ (ps : List Point). StandsFor c.consumer.result.now ps h.samples) (sym table)
    (subst (λ (s : Splits). StandsFor s h.table h.samples) (sym c.consumer.ensures) stands.consumer))))
    c.push_section.ensures
