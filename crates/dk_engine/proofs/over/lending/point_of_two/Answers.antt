use Rattle.std.specs.Prelude.{[], ◌∷◌}
use Rattle.std.proofs.Common.{ap, sym, ◌∙◌}
use Rattle.std.proofs.lemmas.Bool.{false≢true}
use Rattle.dk_template.specs.declared.grammar.RowId.{RowId}
use Rattle.dk_engine.proofs.Memories.{on_err, other_told, same_told, strings_in_tuple}
use Rattle.dk_engine.proofs.over.lending.point_of_two.Goals as goal
use Rattle.dk_engine.proofs.over.lending.point_of_two.Goals.{then-same_kept, else-same_kept}

pub returns-then-row-eq-EQ_STR_SEQ-clause-state : goal.returns-then-row-eq-EQ_STR_SEQ-clause-state
returns-then-row-eq-EQ_STR_SEQ-clause-state c = elim c.if-same_kept.branch [
  | then-same_kept w ↦ w.result-is ∙ same_told c.args.row c.if-row-eq-EQ_STR_SEQ.true c.args.a.now c.args.b.now c.requires.tuple (c.same_kept.ensures.0 w.if-same_kept.true)
  | else-same_kept w ↦ w.result-is ∙ other_told c.args.row c.if-row-eq-EQ_STR_SEQ.true c.args.a.now c.args.b.now c.requires.tuple (λ e. absurd (false≢true (sym w.if-same_kept.false ∙ c.same_kept.ensures.1 e)))
]

pub returns-in_err-first-clause-err : goal.returns-in_err-first-clause-err
returns-in_err-first-clause-err c =
    on_err c.from_residual.result (strings_in_tuple c.args.row c.requires.row (c.args.a.now ∷ c.args.b.now ∷ []) c.requires.tuple (λ e. c.if-row-eq-EQ_STR_SEQ.false (ap (λ (r : RowId). r.0) e)) 0 c.in_err-first.ensures.err)

pub returns-in_err-second-clause-err : goal.returns-in_err-second-clause-err
returns-in_err-second-clause-err c =
    on_err c.from_residual-in_err-second.result (strings_in_tuple c.args.row c.requires.row (c.args.a.now ∷ c.args.b.now ∷ []) c.requires.tuple (λ e. c.if-row-eq-EQ_STR_SEQ.false (ap (λ (r : RowId). r.0) e)) 1 c.in_err-second.ensures.err)
