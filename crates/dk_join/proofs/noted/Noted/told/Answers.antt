use Rattle.std.specs.Prelude.{◌≡◌}
use Rattle.std.proofs.Common.{◌∙◌, ap, subst, sym}
use Rattle.std.proofs.lemmas.Option.{IfSome_then}
use Rattle.dk_engine.specs.Reading.{state_read}
use Rattle.dk_template.specs.Premises.{IsUsable, premise_fits}
use Rattle.dk_template.specs.declared.answers.Premise.{Premise}
use Rattle.dk_template.specs.declared.answers.Premise.TheVariants.{Holds}
use Rattle.dk_template.specs.declared.grammar.RowId.{RowId}
use Rattle.dk_join.specs.Noted.{equal_row}
use Rattle.dk_join.proofs.Noting.{equal_asked}
use Rattle.dk_join.proofs.noted.Noted.told.Goals as goal

pub returns-then-row-eq-EQ_INT : goal.returns-then-row-eq-EQ_INT
returns-then-row-eq-EQ_INT c =
    let e = c.args.self.now.engine.now in
    let vars = c.args.vars.now in
    let roles = c.in-Holds.roles in
    let row : c.in-Holds.row ≡ equal_row = ap (λ n. record { 0 = n }) c.if-row-eq-EQ_INT.true in
    let is : c.args.premise.now ≡ Holds equal_row roles = c.in-Holds.is ∙ ap (λ (r : RowId). Holds r roles) row in
    let usable = subst (λ (p : Premise). IsUsable e.grammar e.infos p vars) is c.requires in
    IfSome_then c.told_equal.result c.told_equal.ensures (λ b told.
    told ∙ (sym (equal_asked e roles vars usable) ∙ ap (λ (p : Premise). premise_fits (state_read e.kept) p vars) (sym is)))
