use Rattle.std.specs.Prelude.{◌≡◌}
use Rattle.std.proofs.Common.{ap, subst, sym, ◌∙◌}
use Rattle.dk_base.specs.Values.{values_of}
use Rattle.dk_instances.proofs.Whole.{is_tuple}
use Rattle.dk_instances.specs.Fits.{is_whole, tuple_in}
use Rattle.dk_template.specs.Rows.{IsTuple}
use Rattle.dk_template.specs.Templates.{role_kinds}
use Rattle.dk_replay.proofs.listed.Listed.with_values.Goals as goal

pub with_tuple-requires-clause-tuple : goal.with_tuple-requires-clause-tuple
with_tuple-requires-clause-tuple c whole =
    let s = values_of c.args.sample.now in
    let same : values_of c.args.tuple.now ≡ tuple_in c.args.vars.now s = c.requires.tuple in
    subst (IsTuple (role_kinds c.args.row)) (sym same) (is_tuple c.args.self.now.infos s c.requires.sample c.args.row c.args.vars.now c.requires.vars (ap is_whole (sym same) ∙ whole))
