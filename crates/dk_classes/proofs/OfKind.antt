-- The first variable of a kind.
use Rattle.std.proofs.Common.{◌≡◌, ◌≢◌, ℕ, ◌<◌, List, [], length, get_or, inl, inr}
use Rattle.std.proofs.lemmas.Bool.{cases_lt}
use Rattle.std.proofs.lemmas.List.{get_or-map}
use Rattle.std.proofs.lemmas.List.Elements.{All-nil}
use Rattle.dk_base.specs.declared.kinds.Kind.{Kind}
use Rattle.dk_base.specs.declared.kinds.Kind.TheVariants as kind
use Rattle.dk_base.specs.declared.kinds.VarInfo.{VarInfo}
use Rattle.dk_samples.specs.Samples.{value_in}
use Rattle.dk_classes.specs.Leaders.{var}
use Rattle.dk_classes.specs.Classes.{InClass, IsFirst, kind_at, var_kinds}

-- the kind of the variable that was read
pub kind_read : (vars : List VarInfo) (v : ℕ) (info : VarInfo) → v < length vars → kind_at (var_kinds vars) v ≡ (get_or vars v info).kind
kind_read vars v info l = get_or-map (λ (i : VarInfo). i.kind) vars v info kind.Bool l

-- without samples, the first variable of the kind is the first of the class
pub first_kind : (kinds : List Kind) (v w : ℕ) → w < length kinds → kind_at kinds w ≡ kind_at kinds v → ((k : ℕ) → k < w → kind_at kinds k ≢ kind_at kinds v) → IsFirst (InClass kinds [] v) w
first_kind kinds v w l e other = record {
  holds = record { within = l; kind = e; agree = All-nil (λ s. value_in s (var w) ≡ value_in s (var v)) };
  first = λ k c. elim (cases_lt k w) [
    | inl lt ↦ absurd (other k lt c.kind)
    | inr ge ↦ ge
  ];
}
