-- Leaders of classes, and what comes of them where classes split.
use Rattle.std.specs.Prelude.{◌↔◌, ◌<◌, ◌==◌, Contains, List, [], ◌∷◌, if◌then◌else◌}
use Rattle.std.specs.List.{AllPairs}
use Rattle.dk_base.specs.declared.kinds.VarId.{VarId}
use Rattle.dk_base.specs.declared.values.Value.{Value}
use Rattle.dk_samples.specs.Samples.{Agree}

-- each variable stands before the later ones of the list
abbrev pub VarsAscend : List VarId → Type 0
VarsAscend vars = AllPairs (λ v w. v.0 < w.0) vars

-- the old leader of a new one; any other variable is its own old one
abbrev pub old_of : List (VarId × VarId) → VarId → VarId
old_of [] v = v
old_of (n ∷ new) v = if n.0.0 == v.0 then n.1 else old_of new v

-- Leaders before and after classes were split: a variable leads now where its old leader led, and has had the same values as that one.
pub record LeadNow (leaders : List VarId) (new : List (VarId × VarId)) (samples : List (List Value)) (now : List VarId) : Type 0 where
  pub led : (v : VarId) → Contains now v ↔ Contains leaders (old_of new v)
  pub agree : (v : VarId) → Contains now v → Agree samples v (old_of new v)
