use Rattle.std.proofs.Common.{[]}
use Rattle.dk_languages.specs.Bases.{parameters_of}
use Rattle.dk_languages.proofs.Growing.{one_more}
use Rattle.dk_languages.proofs.variables.parameters.Goals as goal

pub loop-info-preserved : goal.loop-info-preserved
loop-info-preserved c =
    one_more c.args.infos.now c.loop-info.info-index c.info-item.result c.loop-info-test.true c.info-item.is
    (parameters_of c.args.language) [] c.loop-info.found c.push_parameters_of.new.found c.loop-info.invariant c.in_ok-push_parameters_of.ensures
