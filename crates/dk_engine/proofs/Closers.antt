-- The row of which a rule asks for the least or the greatest element, and rows that no rule concludes.
use Rattle.std.specs.Prelude.{◌≡◌, ◌&&◌, ◌||◌, ◌==◌, ℕ, Bool, true, false, List, [], ◌∷◌, cond, filter, map, refl}
use Rattle.std.specs.List.{list_all, list_any}
use Rattle.std.proofs.Common.{ap, ◌∙◌, inl, inr, subst, sym}
use Rattle.std.proofs.lemmas.Bool.{cases_eq, ne_eqb, or_parts}
use Rattle.dk_base.specs.declared.kinds.VarId.{VarId}
use Rattle.dk_forms.specs.declared.states.State.{State}
use Rattle.dk_suppress.specs.Rules.{Rule, has_rule, is_suppressed, rules}
use Rattle.dk_template.specs.Premises.{premise_fits}
use Rattle.dk_template.specs.declared.grammar.RowId.{RowId}
use Rattle.dk_engine.specs.Feeding.Step.{asks_elements}

abbrev conclusion : Rule → ℕ
conclusion r = r.0.0

asking_rows : map conclusion (filter asks_elements rules) ≡ 38 ∷ 38 ∷ []
unfolding rules
asking_rows = refl

and_true : (b : Bool) → (b && true) ≡ b
and_true true = refl
and_true false = refl

and_false : (b : Bool) → (b && false) ≡ false
and_false true = refl
and_false false = refl

any_asking : (n : ℕ) (rs : List Rule) → list_any (λ (r : Rule). r.0.0 == n && asks_elements r) rs ≡ list_any (λ m. m == n) (map conclusion (filter asks_elements rs))
any_asking n [] = refl
any_asking n (r ∷ rs) =
    let later = list_any (λ (q : Rule). q.0.0 == n && asks_elements q) rs in
    elim (asks_elements r) as (λ b. ((r.0.0 == n && b) || later) ≡ list_any (λ m. m == n) (map conclusion (cond b (r ∷ filter asks_elements rs) (filter asks_elements rs)))) [
      | true ↦ ap (λ b. b || later) (and_true (r.0.0 == n)) ∙ ap (λ b. (r.0.0 == n) || b) (any_asking n rs)
      | false ↦ ap (λ b. b || later) (and_false (r.0.0 == n)) ∙ any_asking n rs
    ]

pub asks_for_elements : (n : ℕ) → list_any (λ (r : Rule). r.0.0 == n && asks_elements r) rules ≡ (n == 38)
asks_for_elements n = any_asking n rules ∙ (ap (list_any (λ m. m == n)) asking_rows ∙ elim (cases_eq n 38) as (λ _. ((38 == n) || ((38 == n) || false)) ≡ (n == 38)) [
  | inl e ↦ subst (λ m. ((38 == m) || ((38 == m) || false)) ≡ (m == 38)) (sym e) refl
  | inr ne ↦ ap (λ b. b || (b || false)) (ne_eqb 38 n (λ e. ne (sym e))) ∙ sym (ne_eqb n 38 ne)
])

-- ---- rows that no rule concludes
none_of : (rs : List Rule) (n : ℕ) (test : Rule → Bool) → list_any (λ (r : Rule). r.0.0 == n) rs ≡ false → list_any (λ (r : Rule). r.0.0 == n && test r) rs ≡ false
none_of [] n test h = refl
none_of (r ∷ rs) n test h =
    let later = list_any (λ (q : Rule). q.0.0 == n && test q) rs in
    let parts = or_parts (r.0.0 == n) (list_any (λ (q : Rule). q.0.0 == n) rs) h in
    ap (λ b. (b && test r) || later) parts.0 ∙ none_of rs n test parts.1

pub unconcluded : (answered : RowId → List VarId → State) (row : RowId) (vars : List VarId) → has_rule row ≡ false → is_suppressed answered row vars ≡ false
unconcluded answered row vars none = none_of rules row.0 (λ r. list_all (λ p. premise_fits answered p vars) r.1) none
