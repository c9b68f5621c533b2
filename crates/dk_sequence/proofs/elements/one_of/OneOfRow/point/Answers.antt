use Rattle.std.proofs.Common.{◌≡◌, [], ◌∷◌, ap, sym, ◌∙◌}
use Rattle.std.proofs.lemmas.Result.{IfOk-weaker, on_err_weaker}
use Rattle.dk_base.specs.Values.{values_of}
use Rattle.dk_meanings.specs.Meanings.{state_of}
use Rattle.dk_sequence.proofs.ElementRows.Relating.{one_of_elements}
use Rattle.dk_sequence.proofs.ElementRows.Takes.{one_of_strings, one_of_takes}
use Rattle.dk_sequence.specs.Elements.{one_of_row}
use Rattle.dk_template.specs.Templates.{form_of}
use Rattle.dk_sequence.proofs.elements.one_of.OneOfRow.point.Goals as goal

pub state_of_elements-requires : goal.state_of_elements-requires
state_of_elements-requires c = one_of_takes c.args.self.now (values_of c.args.tuple.now) c.requires

pub returns-clause-state : goal.returns-clause-state
returns-clause-state c =
    let r = c.args.self.now in
    let t = values_of c.args.tuple.now in
    IfOk-weaker c.state_of_elements.result _ (λ state. state ≡ state_of (one_of_row r) (t ∷ [])) (λ s e. e ∙ sym (one_of_elements r t)) c.state_of_elements.ensures.state

-- only the row of strings wants memory
pub returns-clause-err : goal.returns-clause-err
returns-clause-err c = on_err_weaker c.state_of_elements.result (λ e. ap (λ r. form_of (one_of_row r)) e ∙ one_of_strings) c.state_of_elements.ensures.err
