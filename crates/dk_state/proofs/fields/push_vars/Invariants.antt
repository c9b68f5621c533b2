use Rattle.std.proofs.Common.{◌≡◌, ◌++◌, map, take}
use Rattle.std.specs.Fmt.{decimal}
use Rattle.dk_state.specs.Lines.{fields_text}
use Rattle.dk_state.proofs.fields.push_vars.Given as goal

abbrev pub invariant-loop-v : goal.invariant-loop-v
invariant-loop-v l = l.text ≡ l.fn.text ++ fields_text (map (λ v. decimal v.0) (take l.v-index l.vars))
