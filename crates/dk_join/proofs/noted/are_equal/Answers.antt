use Rattle.std.specs.Prelude.{◌∷◌, [], List}
use Rattle.std.proofs.Common.{◌∙◌, ap, sym}
use Rattle.dk_base.specs.declared.kinds.VarInfo.{VarInfo}
use Rattle.dk_template.specs.Admitted.{admits}
use Rattle.dk_join.specs.Noted.{equal_row}
use Rattle.dk_join.proofs.Noting.{equal_usable}
use Rattle.dk_join.proofs.noted.are_equal.Goals as goal

pub premise-requires : goal.premise-requires
premise-requires c =
    let e = c.args.engine.now in
    equal_usable e.grammar e.infos c.args.v c.args.w
    (ap (λ (infos : List VarInfo). admits equal_row infos (c.args.v ∷ c.args.w ∷ [])) (sym c.vars.ensures) ∙ (sym c.admits.ensures ∙ c.if-not-admits.false))
