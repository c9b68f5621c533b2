-- Tuples by what may stand at each role: how touched and freed tuples are come by without looking at all tuples.
use Rattle.std.specs.Prelude.{◌==◌, ◌+◌, ℕ, zero, suc, not, List, [], ◌∷◌, filter, flat_map, map, replicate, if◌then◌else◌}
use Rattle.std.specs.List.{list_any}
use Rattle.dk_base.specs.declared.kinds.VarId.{VarId}
use Rattle.dk_classes.specs.Leaders.{own_leaders}
use Rattle.dk_template.specs.Premises.{roles_read}
use Rattle.dk_template.specs.declared.answers.Premise.{Premise}
use Rattle.dk_engine.specs.Feeding.Step.{touches}
use Rattle.dk_engine.specs.declared.feed.now.Now.{Now}

-- all tuples with a variable of each of the lists in turn
abbrev pub tuples_from : List (List VarId) → List (List VarId)
tuples_from [] = [] ∷ []
tuples_from (first ∷ rest) = flat_map (λ v. map (λ vars. v ∷ vars) (tuples_from rest)) first

-- the leaders that touch a tuple, and the others
abbrev pub touching_leaders : Now → List VarId
touching_leaders now = filter (touches now) (own_leaders now.leaders)

abbrev pub other_leaders : Now → List VarId
other_leaders now = filter (λ v. not (touches now v)) (own_leaders now.leaders)

-- for the touched tuples of n roles: a leader that touches at the role k, others at the roles before it, any leaders behind it
abbrev pub touched_choices : Now → ℕ → ℕ → List (List VarId)
touched_choices now k zero = []
touched_choices now zero (suc n) = touching_leaders now ∷ replicate n (own_leaders now.leaders)
touched_choices now (suc k) (suc n) = other_leaders now ∷ touched_choices now k n

-- for the freed tuples, at n roles from the role k on: the variables of a lost premise's slot at the roles that the premise reads, and
-- at the others any leaders that don't touch
abbrev pub freed_choices : Now → Premise → List VarId → ℕ → ℕ → List (List VarId)
freed_choices now p lost k zero = []
freed_choices now p lost k (suc n) =
    (if list_any (λ role. role == k) (roles_read p) then lost else other_leaders now) ∷ freed_choices now p lost (k + 1) n
