use Rattle.std.specs.Prelude.{◌≡◌, [], ◌∷◌}
use Rattle.std.proofs.Common.{ap, ◌∙◌, rules, subst, sym}
use Rattle.std.proofs.lemmas.List.Elements.{All-cons, All-nil}
use Rattle.dk_base.specs.Values.{values_of}
use Rattle.dk_meanings.proofs.RowLaws.{laws_of}
use Rattle.dk_template.specs.Proper.{IsProper}
use Rattle.dk_template.specs.Rows.{IsTuple}
use Rattle.dk_template.specs.Templates.{form_of, role_kinds}
use Rattle.dk_template.specs.declared.templates.Template.{Template}
use Rattle.dk_engine.proofs.Memories.{on_err, texts_want}
use Rattle.dk_engine.proofs.feed.after.with_tuple.Goals as goal

pub returns-in_err-one-clause-err : goal.returns-in_err-one-clause-err
returns-in_err-one-clause-err c = on_err c.from_residual.result (texts_want c.args.row c.requires.row c.in_err-one.ensures.err)

pub join_states-requires-clause-b : goal.join_states-requires-clause-b
join_states-requires-clause-b c =
    let row = c.args.row in
    let t = values_of c.args.tuple.now in
    let tuple : IsTuple (role_kinds row) t = c.requires.tuple (search rules) in
    let form : c.template_at.result.form ≡ form_of row = ap (λ (i : Template). i.form) c.template_at.ensures in
    subst (λ f. IsProper f c.in_ok-one.one) (sym form) (subst (IsProper (form_of row)) (sym c.in_ok-one.ensures.state)
    ((laws_of row c.requires.row).proper (t ∷ []) (All-cons (IsTuple (role_kinds row)) t [] tuple (All-nil (IsTuple (role_kinds row))))))

pub returns-in_err-state-clause-err : goal.returns-in_err-state-clause-err
returns-in_err-state-clause-err c =
    on_err c.from_residual-in_err-state.result (texts_want c.args.row c.requires.row (ap (λ (i : Template). i.form) (sym c.template_at.ensures) ∙ c.in_err-state.ensures.err))
