use Rattle.std.specs.Prelude.{◌≡◌, ℤ}
use Rattle.std.proofs.Common.{subst, sym}
use Rattle.dk_forms.specs.declared.states.State.TheVariants.{Least}
use Rattle.dk_template.specs.Proper.{IsProper}
use Rattle.dk_template.specs.Templates.{form_of, rows}
use Rattle.dk_template.specs.declared.grammar.RowId.{RowId}
use Rattle.dk_test_engine.proofs.filters.LeastAloneAnswers.answer.Goals as goal

least_proper : (row : RowId) → row.0 ≡ 2 → (k : ℤ) → IsProper (form_of row) (Least k)
unfolding rows
least_proper row e k = subst (λ n. IsProper (form_of (record { 0 = n })) (Least k)) (sym e) tt

pub returns-then-row-eq2-clause-proper : goal.returns-then-row-eq2-clause-proper
returns-then-row-eq2-clause-proper c = least_proper c.args.row c.if-row-eq2.true _
