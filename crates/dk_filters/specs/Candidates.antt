-- The candidates for a section.
use Rattle.std.specs.Prelude.{ℕ, Bool, List, filter, map}
use Rattle.dk_base.specs.declared.kinds.VarId.{VarId}
use Rattle.dk_instances.specs.Instances.{instances_of}
use Rattle.dk_template.specs.Fitting.{fits}
use Rattle.dk_template.specs.declared.grammar.Grammar.{Grammar}
use Rattle.dk_template.specs.declared.grammar.RowId.{RowId}
use Rattle.dk_filters.specs.Answers.{Answers, Parent}
use Rattle.dk_filters.specs.Facts.{facts_of}
use Rattle.dk_filters.specs.declared.candidate.Candidate.{Candidate}

-- the state of an instance fits
abbrev pub it_holds : Answers → RowId × List VarId → Bool
it_holds here i = fits (here.answered i.0 i.1)

-- an instance with its state, its count and its facts
abbrev pub candidate_of : ℕ → Answers → List Parent → RowId × List VarId → Candidate
candidate_of least here parents i = record {
  row = i.0;
  vars = i.1;
  state = here.answered i.0 i.1;
  count = here.counted i.1;
  facts = facts_of least here parents i.0 i.1;
}

-- the instances of the grammar that hold, in their order
unfoldable pub candidates_of : Grammar → ℕ → Answers → List Parent → List Candidate
candidates_of grammar least here parents = map (candidate_of least here parents) (filter (it_holds here) (instances_of grammar here.infos))

-- those that a filter keeps, in order
abbrev pub candidates_kept : (Candidate → Bool) → List Candidate → List Candidate
candidates_kept keeps candidates = filter keeps candidates
