use Rattle.std.proofs.Common.{◌∙◌, sym, []}
use Rattle.std.proofs.lemmas.Bool.{ltb-false, ltb-true}
use Rattle.dk_base.specs.declared.kinds.VarId.{VarId}
use Rattle.dk_filters.specs.Facts.{info_at}
use Rattle.dk_print.proofs.Reading.{shown_past, shown_there}
use Rattle.dk_print.proofs.instances.name_at.Goals as goal

pub returns-in-Some : goal.returns-in-Some
returns-in-Some c =
    c.name_of.ensures
    ∙ shown_there (λ (v : VarId). (info_at c.args.vars.now v).name) c.args.tuple.now c.args.role [] c.in-Some.var.now (ltb-true _ _ (sym c.in-Some.ensures.lookup.0)) c.in-Some.ensures.lookup.1

pub returns-in-None : goal.returns-in-None
returns-in-None c =
    shown_past (λ (v : VarId). (info_at c.args.vars.now v).name) c.args.tuple.now c.args.role [] (ltb-false _ _ (sym c.in-None.ensures.lookup.0))
