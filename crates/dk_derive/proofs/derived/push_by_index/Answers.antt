use Rattle.std.proofs.Common.{◌≡◌, ◌∙◌, ◌++◌, List, [], ◌∷◌, OnOk, ap, subst, sym}
use Rattle.dk_base.specs.Shapes.{shape, shape_of}
use Rattle.dk_base.specs.declared.kinds.Form.TheVariants as form
use Rattle.dk_base.specs.declared.kinds.VarInfo.{VarInfo}
use Rattle.dk_derive.proofs.Deriving.{five_pushed}
use Rattle.dk_derive.specs.Vars.{var_over}
use Rattle.dk_derive.proofs.derived.push_by_index.Goals as goal

pub returns : goal.returns
returns c =
    let P : List VarInfo → Type 0 = λ l. OnOk c.push_var-5.result (c.push_var-5.new.vars ≡ l) in
    subst P
    (five_pushed c.args.sequence.now c.args.index.now (c.args.s.0, shape_of c.args.sequence.now) (c.args.i.0, shape_of c.args.index.now) c.args.vars.now
    c.push_var.new.vars c.push_var-2.new.vars c.push_var-3.new.vars c.push_var-4.new.vars (sym c.is_index.ensures ∙ c.if-not-is_index.false)
    (c.in_ok-push_var.ensures ∙ ap (λ k. c.args.vars.now ++ var_over c.args.sequence.now c.args.index.now (shape k (form.At c.args.s c.args.i)) ∷ []) c.element_kind.ensures)
    c.in_ok-push_var-2.ensures c.in_ok-push_var-3.ensures c.in_ok-push_var-4.ensures)
    c.push_var-5.ensures
