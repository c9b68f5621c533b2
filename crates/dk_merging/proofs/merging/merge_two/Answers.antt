use Rattle.std.specs.Prelude.{List, Ok, ℕ}
use Rattle.std.proofs.Common.{◌∙◌, subst, sym}
use Rattle.std.proofs.lemmas.Result.{err_from_is_err_and}
use Rattle.dk_merging.specs.Loading.{text_of}
use Rattle.dk_merging.specs.Merging.{AnswersMerge, GivesBoth, file_of_both}
use Rattle.dk_merging.specs.declared.merging.MergeFault.TheVariants.{BadFirst}
use Rattle.dk_merging.proofs.MergedStates.{history_spelled, none_bad}
use Rattle.dk_merging.proofs.merging.merge_two.Goals as goal

pub returns-clause-answers : goal.returns-clause-answers
returns-clause-answers c =
    subst (λ (text : List ℕ). AnswersMerge c.args.first.now c.args.second.now (Ok text)) (sym c.in_ok-text.ensures)
    (subst (λ (text : List ℕ). AnswersMerge text c.args.second.now (Ok (text_of c.in_ok-both.both))) c.in_ok-one.ensures.text c.in_ok-both.ensures.answers)

pub returns-clause-both : goal.returns-clause-both
returns-clause-both c g ps implicit own others can this that =
    subst (λ (text : List ℕ). GivesBoth (file_of_both g ps implicit own others) (Ok text)) (sym c.in_ok-text.ensures)
    (c.in_ok-both.ensures.both g ps implicit own others can (this ∙ sym c.in_ok-one.ensures.text) that)

pub returns-in_err-one-clause-both : goal.returns-in_err-one-clause-both
returns-in_err-one-clause-both c g ps implicit own others can this that =
    let fault = err_from_is_err_and c.from_residual.result c.from_residual.ensures.1 in
    let spelled = history_spelled g ps implicit own c.args.first.now can.first this in
    rw (fault.1, fault.2) (none_bad (file_of_both g ps implicit own others) c.args.first.now BadFirst c.in_err-one.field-0.0 spelled c.in_err-one.ensures.bad)

pub returns-in_err-text-clause-answers : goal.returns-in_err-text-clause-answers
returns-in_err-text-clause-answers c =
    let fault = err_from_is_err_and c.from_residual-in_err-text.result c.from_residual-in_err-text.ensures.1 in
    rw (fault.1, fault.2) tt

pub returns-in_err-text-clause-both : goal.returns-in_err-text-clause-both
returns-in_err-text-clause-both c g ps implicit own others can this that =
    let fault = err_from_is_err_and c.from_residual-in_err-text.result c.from_residual-in_err-text.ensures.1 in
    rw (fault.1, fault.2) tt
