use Rattle.std.proofs.Common.{◌≡◌, drop, map}
use Rattle.std.specs.List.{list_all}
use Rattle.dk_decl.specs.Brackets.{is_index}
use Rattle.dk_decl.proofs.brackets.are_indices.Given as goal

abbrev pub invariant-loop-part : goal.invariant-loop-part
invariant-loop-part l = list_all is_index (map (λ part. part.now) (drop l.part-index l.brackets)) ≡ list_all is_index (map (λ part. part.now) l.brackets)
