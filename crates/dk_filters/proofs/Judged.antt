-- All facts of an instance, from what is found once for its point.
use Rattle.std.specs.Prelude.{◌≡◌, ℕ, Bool, true, List}
use Rattle.std.proofs.Common.{ap, ◌∙◌}
use Rattle.dk_base.specs.declared.kinds.VarId.{VarId}
use Rattle.dk_template.specs.Admitted.{admits}
use Rattle.dk_template.specs.declared.grammar.RowId.{RowId}
use Rattle.dk_filters.proofs.Asked.{admitted-there}
use Rattle.dk_filters.proofs.FromFound.{constants_found, members_found}
use Rattle.dk_filters.specs.Answers.{Answers, Parent}
use Rattle.dk_filters.specs.Facts.{facts_of, has_few_samples, is_at_parent, is_constant_instance, is_constant_instance_by, is_further_member, is_further_member_by, is_implied, is_incomparable}
use Rattle.dk_filters.specs.Found.{first_in, found_of, one_value_in}
use Rattle.dk_filters.specs.declared.found.PointFacts.{PointFacts}

module _ (least : ℕ) (here : Answers) (parents : List Parent) (r : RowId) (vars : List VarId) (found : PointFacts) (is : found ≡ found_of here parents) (h : admits r here.infos vars ≡ true) where
  member-is : is_further_member_by (first_in found.firsts) r vars ≡ is_further_member here r vars
  member-is = ap (λ (f : PointFacts). is_further_member_by (first_in f.firsts) r vars) is ∙ members_found here r vars (admitted-there here.infos r vars h)

  constant-is : is_constant_instance_by (first_in found.firsts) (one_value_in found.one_values) r vars ≡ is_constant_instance here r vars
  constant-is = ap (λ (f : PointFacts). is_constant_instance_by (first_in f.firsts) (one_value_in f.one_values) r vars) is ∙ constants_found here r vars (admitted-there here.infos r vars h)

  pub all_facts : (few incomparable member implied constant parent : Bool)
      → few ≡ has_few_samples least here vars → incomparable ≡ is_incomparable here.infos vars → member ≡ is_further_member_by (first_in found.firsts) r vars
      → implied ≡ is_implied here r vars → constant ≡ is_constant_instance_by (first_in found.firsts) (one_value_in found.one_values) r vars
      → parent ≡ is_at_parent here parents r vars
      → record { few = few; incomparable = incomparable; member = member; implied = implied; constant = constant; parent = parent } ≡ facts_of least here parents r vars
  unfolding facts_of
  all_facts few incomparable member implied constant parent f i m im c p =
      let m' = m ∙ member-is in
      let c' = c ∙ constant-is in
      λ k. record { few = f k; incomparable = i k; member = m' k; implied = im k; constant = c' k; parent = p k }
