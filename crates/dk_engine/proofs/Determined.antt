-- The slots of samples are one list.
use Rattle.std.specs.Prelude.{List, [], ◌∷◌}
use Rattle.std.proofs.Common.{ap, arith, inl, inr}
use Rattle.dk_base.specs.declared.kinds.VarId.{VarId}
use Rattle.dk_samples.proofs.Members.{same_members}
use Rattle.dk_instances.specs.Instances.{ComesBefore, Precedes}
use Rattle.dk_template.specs.declared.grammar.RowId.{RowId}
use Rattle.dk_engine.specs.Exact.{SlotBefore}
use Rattle.dk_engine.specs.Laws.{SlotsAreDetermined}

-- ---- slots
precedes_one_way : (vars others : List VarId) → Precedes vars others → Precedes others vars → ⊥
precedes_one_way [] others h k = h
precedes_one_way (v ∷ vars) [] h k = h
precedes_one_way (v ∷ vars) (w ∷ others) (inl l) (inl m) = omega (arith, l, m)
precedes_one_way (v ∷ vars) (w ∷ others) (inl l) (inr m) = let e = m.0 in omega (arith, l, e)
precedes_one_way (v ∷ vars) (w ∷ others) (inr l) (inl m) = let e = l.0 in omega (arith, m, e)
precedes_one_way (v ∷ vars) (w ∷ others) (inr l) (inr m) = precedes_one_way vars others l.1 m.1

before_one_way : (a b : RowId × List VarId) → ComesBefore a b → ComesBefore b a → ⊥
before_one_way a b (inl l) (inl m) = omega (arith, l, m)
before_one_way a b (inl l) (inr m) = let e = ap (λ (r : RowId). r.0) m.0 in omega (arith, l, e)
before_one_way a b (inr l) (inl m) = let e = ap (λ (r : RowId). r.0) l.0 in omega (arith, m, e)
before_one_way a b (inr l) (inr m) = precedes_one_way a.1 b.1 l.1 m.1

pub slots_are_determined : SlotsAreDetermined
slots_are_determined g infos samples leaders known slots others is also =
    same_members SlotBefore (λ a b. before_one_way (a.row, a.leaders) (b.row, b.leaders)) slots others is.ascend also.ascend
    (λ s h. (also.each s).1 ((is.each s).0 h)) (λ s h. (is.each s).1 ((also.each s).0 h))
