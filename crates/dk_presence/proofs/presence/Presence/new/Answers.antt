use Rattle.std.proofs.Common.{sym, subst, List}
use Rattle.std.proofs.lemmas.List.Elements.{All-nil}
use Rattle.std.specs.Prelude.{nat_eq}
use Rattle.dk_base.specs.declared.kinds.VarId.{VarId}
use Rattle.indexmap.specs.IndexMap.{ContainsKey}
use Rattle.dk_presence.specs.Hashes.{AreKeyed, hash_of}
use Rattle.dk_presence.specs.Patterns.{AreHeld, held_patterns}
use Rattle.dk_presence.proofs.Placing.{held_none}
use Rattle.dk_presence.proofs.presence.Presence.new.Goals as goal

pub invariant_of-result : goal.invariant_of-result
invariant_of-result c =
    let none = sym c.new.ensures.items in
    (subst AreHeld none held_none, subst (λ hs. AreKeyed c.new-2.result (held_patterns hs)) none (All-nil (λ (p : List VarId). ContainsKey nat_eq c.new-2.result (hash_of p))))
