-- Which way a decided test goes, and what its choice is.
use Rattle.std.specs.Prelude.{◌≡◌, Bool, if◌then◌else◌, ◌⊎◌}
use Rattle.std.specs.Bool.{Decides}
use Rattle.std.proofs.Common.{ap, inl, inr}
use Rattle.std.proofs.lemmas.Bool.{cases_Bool}
use Rattle.std.proofs.lemmas.Bool.Decides.{not_from_Decides}

pub choice : {P S : Type 0} (b : Bool) → Decides b P → (s t : S) → (P × ((if b then s else t) ≡ s)) ⊎ ((P → ⊥) × ((if b then s else t) ≡ t))
choice {P = P} b d s t =
    elim (cases_Bool b) as (λ _. (P × ((if b then s else t) ≡ s)) ⊎ ((P → ⊥) × ((if b then s else t) ≡ t))) [
      | inl e ↦ inl (d.0 e, ap (λ c. if c then s else t) e)
      | inr e ↦ inr (not_from_Decides b d e, ap (λ c. if c then s else t) e)
    ]
