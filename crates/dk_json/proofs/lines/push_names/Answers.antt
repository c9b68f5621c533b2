use Rattle.std.specs.Prelude.{slice_get}
use Rattle.dk_base.specs.declared.kinds.VarId.{VarId}
use Rattle.dk_json.specs.Lines.{name_in}
use Rattle.dk_json.specs.Texts.{text_json}
use Rattle.dk_json.proofs.Adding.{around_items, wrote}
use Rattle.dk_json.proofs.lines.push_names.Goals as goal

pub returns : goal.returns
returns c =
    around_items (λ (v : VarId). text_json (name_in (slice_get c.args.infos.now v.0))) c.args.vars.now
    (wrote c.in_ok-begin_array.ensures) c.in_ok-push_each_name.ensures (wrote c.in_ok-end_array.ensures)
