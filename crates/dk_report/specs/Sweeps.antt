-- The candidates of tuples of variables, one of a list at each role.
use Rattle.std.specs.Prelude.{Bool, List, [], ◌∷◌, flat_map, if◌then◌else◌}
use Rattle.dk_base.specs.declared.kinds.VarId.{VarId}
use Rattle.dk_base.specs.declared.kinds.VarInfo.{VarInfo}
use Rattle.dk_engine.specs.Sweeps.Suited.{suited_vars}
use Rattle.dk_filters.specs.declared.candidate.Candidate.{Candidate}
use Rattle.dk_template.specs.declared.templates.Role.{Role}
use Rattle.dk_template.specs.declared.templates.Takes.{Takes}
use Rattle.dk_template.specs.declared.templates.Takes.TheVariants.{One, Two, Three}

module _ (listed : List VarId → List Candidate) where
  -- of one variable of the list; of a variable and one of the list; of two and one of the list
  abbrev pub firsts : List VarId → List Candidate
  firsts first = flat_map (λ v. listed (v ∷ [])) first

  abbrev pub seconds : VarId → List VarId → List Candidate
  seconds v second = flat_map (λ w. listed (v ∷ w ∷ [])) second

  abbrev pub thirds : VarId → VarId → List VarId → List Candidate
  thirds v w third = flat_map (λ x. listed (v ∷ w ∷ x ∷ [])) third

  -- of two variables, of a variable and two more, and of three, one of each list
  abbrev pub pairs : List VarId → List VarId → List Candidate
  pairs first second = flat_map (λ v. seconds v second) first

  abbrev pub behind : VarId → List VarId → List VarId → List Candidate
  behind v second third = flat_map (λ w. thirds v w third) second

  abbrev pub triples : List VarId → List VarId → List VarId → List Candidate
  triples first second third = flat_map (λ v. behind v second third) first

  -- of a row that takes these, over variables that suit its roles
  abbrev pub over_takes : List VarInfo → Takes → List VarId → List Candidate
  over_takes infos (One a) of = firsts (suited_vars a infos of)
  over_takes infos (Two a b) of = pairs (suited_vars a infos of) (suited_vars b infos of)
  over_takes infos (Three a b c) of = triples (suited_vars a infos of) (suited_vars b infos of) (suited_vars c infos of)

  -- of two variables, one of each list, that pass a test together
  abbrev pub equals : (VarId → VarId → Bool) → VarId → List VarId → List Candidate
  equals may v second = flat_map (λ w. if may v w then listed (v ∷ w ∷ []) else []) second

  abbrev pub equal_pairs : (VarId → VarId → Bool) → List VarId → List VarId → List Candidate
  equal_pairs may first second = flat_map (λ v. equals may v second) first

  -- the same of a row of two variables, over variables that suit its roles; other rows are over those of the second list alone
  abbrev pub equal_takes : (VarId → VarId → Bool) → List VarInfo → Takes → List VarId → List VarId → List Candidate
  equal_takes may infos (Two a b) leading of = equal_pairs may (suited_vars a infos leading) (suited_vars b infos of)
  equal_takes may infos takes leading of = over_takes infos takes of
