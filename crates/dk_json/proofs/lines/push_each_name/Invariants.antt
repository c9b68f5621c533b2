use Rattle.std.proofs.Common.{take}
use Rattle.std.specs.List.{flat_map}
use Rattle.std.specs.Prelude.{slice_get}
use Rattle.json.specs.Tree.{json_tokens}
use Rattle.dk_base.specs.declared.kinds.VarId.{VarId}
use Rattle.dk_json.specs.Lines.{name_in}
use Rattle.dk_json.specs.Texts.{text_json}
use Rattle.dk_json.specs.Trees.{Adds}
use Rattle.dk_json.proofs.lines.push_each_name.Given as goal

abbrev pub invariant-loop-var : goal.invariant-loop-var
invariant-loop-var l = Adds l.fn.writer l.writer (flat_map (λ (v : VarId). json_tokens (text_json (name_in (slice_get l.infos v.0)))) (take l.var-index l.vars))
