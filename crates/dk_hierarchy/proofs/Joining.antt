-- The states that ways bring, one after another.
use Rattle.std.specs.Prelude.{◌≡◌, ◌<◌, ◌+◌, ◌&&◌, ℕ, true, false, All, List, length, min, sum_by, take, ◌^◌, ◌-◌}
use Rattle.std.proofs.Common.{◌∙◌, ap, arith, get_or, subst, sym}
use Rattle.std.specs.List.{list_all}
use Rattle.std.proofs.lemmas.List.Folds.{fold_stays, list_all_at, list_all_more}
use Rattle.std.proofs.lemmas.List.Sums.{sum_by_more}
use Rattle.dk_base.specs.declared.kinds.VarId.{VarId}
use Rattle.dk_forms.specs.declared.states.State.TheVariants.{Broken}
use Rattle.dk_presence.specs.Patterns.{capped}
use Rattle.dk_template.proofs.Absorbing.{broken_absorbs}
use Rattle.dk_template.specs.Joins.{joined}
use Rattle.dk_template.specs.Templates.{form_of}
use Rattle.dk_template.specs.declared.grammar.RowId.{RowId}
use Rattle.dk_hierarchy.specs.Merging.{AreWays, IsWay, Joint, agree_through, count_through, state_through, states_joined}
use Rattle.dk_hierarchy.specs.declared.way.Way.{Way}

-- Broken stays
pub broken_stays : (joint : Joint) (row : RowId) (vars : List VarId) (ways : List Way) → states_joined joint row vars Broken ways ≡ Broken
broken_stays joint row vars ways =
    fold_stays (λ s way. joined (form_of row) s (state_through joint row vars way)) Broken (λ way. broken_absorbs (form_of row) (state_through joint row vars way)) ways

-- one way more counts
pub count_more : (joint : Joint) (vars : List VarId) (ways : List Way) (i : ℕ) (d : Way) → i < length ways
    → min (capped (sum_by (count_through joint vars) (take i ways)) + capped (count_through joint vars (get_or ways i d))) (2 ^ 64 - 1) ≡ capped (sum_by (count_through joint vars) (take (i + 1) ways))
count_more joint vars ways i d l =
    let more = sum_by_more (count_through joint vars) ways i d l in
    ends (sum_by (count_through joint vars) (take i ways)) (count_through joint vars (get_or ways i d)) ∙ ap capped (sym more)
  where
    ends : (a b : ℕ) → min (capped a + capped b) (2 ^ 64 - 1) ≡ capped (a + b)
    ends a b = omega arith

-- a way of those that can be asked
pub way_at : (joint : Joint) → AreWays joint → (ways : List Way) → ways ≡ joint.ways → (i : ℕ) (way : Way) → i < length ways → way ≡ get_or ways i way → IsWay joint way
way_at joint are ways same i way within is = subst (IsWay joint) (sym is) (subst (All (IsWay joint)) (sym same) are i way within)

-- one way more agrees
pub agree_more : (joint : Joint) (v w : VarId) (ways : List Way) (i : ℕ) (d : Way) → i < length ways → agree_through joint v w (get_or ways i d) ≡ true
    → list_all (agree_through joint v w) (take i ways) ≡ true → list_all (agree_through joint v w) (take (i + 1) ways) ≡ true
agree_more joint v w ways i d within one before =
    list_all_more (agree_through joint v w) ways i d within ∙ (ap (λ b. b && agree_through joint v w (get_or ways i d)) before ∙ one)

-- one that doesn't settles it
pub one_apart : (joint : Joint) (v w : VarId) (ways : List Way) (i : ℕ) (d : Way) → i < length ways → agree_through joint v w (get_or ways i d) ≡ false → list_all (agree_through joint v w) ways ≡ false
one_apart joint v w ways i d within apart = list_all_at (agree_through joint v w) ways i d within apart
