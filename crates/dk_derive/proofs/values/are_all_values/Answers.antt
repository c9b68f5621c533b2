use Rattle.std.proofs.Common.{◌∙◌, arith, sym}
use Rattle.std.proofs.lemmas.List.{length-map}
use Rattle.dk_base.specs.Values.{value_of, values_of}
use Rattle.dk_derive.proofs.Bases.{base_values}
use Rattle.dk_derive.proofs.values.are_all_values.Goals as goal

pub returns-then-vars-base : goal.returns-then-vars-base
returns-then-vars-base c = λ all.
    base_values c.args.vars.now (values_of c.args.base.now) (omega (arith, c.if-vars-base.true, length-map c.args.base.now value_of)) (sym c.are_base_vars.ensures ∙ all)
