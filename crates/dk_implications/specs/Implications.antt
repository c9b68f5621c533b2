-- Implications: what holds in the samples in which a Bool is true, or in those in which it is false.
use Rattle.std.specs.Prelude.{◌&&◌, ◌||◌, ℕ, Bool, true, false, not, List, [], ◌∷◌, filter, flat_map, map}
use Rattle.std.specs.List.{list_any}
use Rattle.dk_base.specs.declared.kinds.VarId.{VarId}
use Rattle.dk_base.specs.declared.kinds.VarInfo.{VarInfo}
use Rattle.dk_base.specs.declared.values.Value.{Value}
use Rattle.dk_filters.specs.Candidates.{candidates_kept, candidates_of}
use Rattle.dk_filters.specs.OfSamples.{agrees, answers_of}
use Rattle.dk_filters.specs.Sameness.{same_state}
use Rattle.dk_filters.specs.declared.candidate.Candidate.{Candidate}
use Rattle.dk_filters.specs.declared.facts.Facts.{Facts}
use Rattle.dk_instances.specs.Fits.{fit}
use Rattle.dk_template.specs.declared.grammar.Grammar.{Grammar}
use Rattle.dk_implications.specs.Conditions.{conditions}
use Rattle.dk_implications.specs.Halves.{half_of}

-- On the half in which the Bool has this truth value the instance holds, with its state, its count and its facts there.
pub record Implication : Type 0 where
  pub condition : VarId
  pub truth : Bool
  pub instance : Candidate

abbrev pub implication : VarId → Bool → Candidate → Implication
implication b truth c = record { condition = b; truth = truth; instance = c }

-- there is something to say against it; parents aren't asked
abbrev pub is_left_out : Facts → Bool
is_left_out facts = facts.few || facts.incomparable || facts.member || facts.implied || facts.constant

-- the instances that hold in samples and that aren't dropped there
abbrev pub kept_in : Grammar → ℕ → List VarInfo → List (List Value) → List Candidate
kept_in grammar least infos samples =
    candidates_kept (λ c. not (is_left_out c.facts)) (candidates_of grammar least (answers_of infos samples) [])

-- None of its variables agrees with the Bool in all samples, and its state isn't the one that it has in all of them.
abbrev pub is_told_by : List VarInfo → List (List Value) → VarId → Candidate → Bool
is_told_by infos samples b c = not (list_any (agrees infos samples b) c.vars) && not (same_state c.state (fit c.row c.vars samples))

-- what a half tells, by row and then by variables
abbrev pub implied_by : Grammar → ℕ → List VarInfo → List (List Value) → VarId → Bool → List Implication
implied_by grammar least infos samples b truth =
    map (implication b truth) (filter (is_told_by infos samples b) (kept_in grammar least infos (half_of samples b truth)))

-- what both halves by a Bool tell, that in which it is true first
abbrev pub told_by_halves : Grammar → ℕ → List VarInfo → List (List Value) → VarId → List Implication
told_by_halves grammar least infos samples b = flat_map (implied_by grammar least infos samples b) (true ∷ false ∷ [])

-- the implications of samples, by their Bools
unfoldable pub implications_of : Grammar → ℕ → List VarInfo → List (List Value) → List Implication
implications_of grammar least infos samples = flat_map (told_by_halves grammar least infos samples) (conditions infos samples)
