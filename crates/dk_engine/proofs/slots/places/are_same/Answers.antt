use Rattle.std.specs.Prelude.{◌≡◌, ◌==◌, ◌&&◌, Bool, true, false, List, [], ◌∷◌, length, suc, refl}
use Rattle.std.proofs.Common.{ap}
use Rattle.dk_base.specs.declared.kinds.VarId.{VarId}
use Rattle.dk_presence.specs.Patterns.{same_vars}
use Rattle.dk_engine.proofs.slots.places.are_same.Goals as goal

unequal : (vs ws : List VarId) → (length vs ≡ length ws → ⊥) → false ≡ same_vars vs ws
unequal [] [] h = absurd (h refl)
unequal [] (w ∷ ws) h = refl
unequal (v ∷ vs) [] h = refl
unequal (v ∷ vs) (w ∷ ws) h =
    let rest = unequal vs ws (λ e. h (ap suc e)) in
    elim (v.0 == w.0) as (λ b. ◌≡◌ {A = Bool} false (b && same_vars vs ws)) [ true ↦ rest | false ↦ refl ]

pub returns-then-vs-ws : goal.returns-then-vs-ws
returns-then-vs-ws c = unequal c.args.vs.now c.args.ws.now c.if-vs-ws.true
