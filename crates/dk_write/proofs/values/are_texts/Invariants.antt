use Rattle.std.proofs.Common.{◌≡◌, drop}
use Rattle.std.specs.List.{list_all}
use Rattle.dk_base.specs.Values.Items.{is_text}
use Rattle.dk_write.proofs.values.are_texts.Given as goal

abbrev pub invariant-loop-text : goal.invariant-loop-text
invariant-loop-text l = list_all (λ t. is_text t.now) (drop l.text-index l.texts) ≡ list_all (λ t. is_text t.now) l.texts
