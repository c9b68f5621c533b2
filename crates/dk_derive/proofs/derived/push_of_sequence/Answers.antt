use Rattle.std.proofs.Common.{◌≡◌, ◌∙◌, ◌++◌, List, [], ◌∷◌, OnOk, ap, subst, sym}
use Rattle.dk_base.specs.Shapes.{shape}
use Rattle.dk_base.specs.declared.kinds.Form.TheVariants as form
use Rattle.dk_base.specs.declared.kinds.VarInfo.{VarInfo}
use Rattle.dk_derive.proofs.Deriving.{sequence_given}
use Rattle.dk_derive.specs.Vars.{var_over}
use Rattle.dk_derive.proofs.derived.push_of_sequence.Goals as goal

pub returns : goal.returns
returns c =
    let P : List VarInfo → Type 0 = λ l. OnOk c.push_by_indices.result (c.push_by_indices.new.vars ≡ l) in
    subst P
    (sequence_given c.args.base.now c.args.sequence.now c.args.s.0 c.args.vars.now c.push_var.new.vars c.push_var-2.new.vars c.push_var-3.new.vars
    c.requires.there (sym c.is_sequence.ensures ∙ c.if-not-is_sequence.false)
    c.in_ok-push_var.ensures
    (c.in_ok-push_var-2.ensures ∙ ap (λ k. c.push_var.new.vars ++ var_over c.args.sequence.now c.args.sequence.now (shape k (form.First c.args.s)) ∷ []) c.element_kind-element.ensures)
    (c.in_ok-push_var-3.ensures ∙ ap (λ k. c.push_var-2.new.vars ++ var_over c.args.sequence.now c.args.sequence.now (shape k (form.Last c.args.s)) ∷ []) c.element_kind-element.ensures))
    c.push_by_indices.ensures
