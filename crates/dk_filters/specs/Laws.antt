-- What facts are made of.
use Rattle.std.specs.Prelude.{◌≡◌, ◌↔◌, ◌<◌, ◌≤◌, ℕ, Bool, Contains, IsTrue, List, length}
use Rattle.std.specs.List.{AllPairs, AllZip}
use Rattle.dk_base.specs.Shapes.{is_base_form}
use Rattle.dk_base.specs.declared.kinds.VarId.{VarId}
use Rattle.dk_base.specs.declared.kinds.VarInfo.{VarInfo}
use Rattle.dk_base.specs.declared.values.Value.{Value}
use Rattle.dk_forms.specs.declared.states.State.{State}
use Rattle.dk_instances.specs.Instances.{ComesBefore, IsInstance}
use Rattle.dk_samples.specs.Samples.{Agree}
use Rattle.dk_template.specs.Admitted.{admits}
use Rattle.dk_template.specs.Premises.{AreThere}
use Rattle.dk_template.specs.Templates.{IsRowOf}
use Rattle.dk_template.specs.declared.grammar.Grammar.{Grammar}
use Rattle.dk_template.specs.declared.grammar.RowId.{RowId}
use Rattle.dk_filters.specs.Answers.{Answers, Parent}
use Rattle.dk_filters.specs.Candidates.{candidate_of, candidates_kept, candidates_of, it_holds}
use Rattle.dk_filters.specs.Facts.{facts_of, has_partner, info_at}
use Rattle.dk_filters.specs.OfSamples.{agrees}
use Rattle.dk_filters.specs.Sameness.{same_state}
use Rattle.dk_filters.specs.declared.candidate.Candidate.{Candidate}

-- Two tell the same of all that may be asked: rows of the grammar over variables that they admit, and variables that are there.
pub record TellTheSame (grammar : Grammar) (a b : Answers) : Type 0 where
  pub infos : a.infos ≡ b.infos
  pub answered : (row : RowId) → IsRowOf grammar row → (vars : List VarId) → IsTrue (admits row a.infos vars)
      → a.answered row vars ≡ b.answered row vars
  pub counted : (vars : List VarId) → length vars ≤ 3 → AreThere a.infos vars → a.counted vars ≡ b.counted vars
  pub agreeing : (v w : VarId) → v.0 < length a.infos → w.0 < length a.infos → a.agreeing v w ≡ b.agreeing v w

-- each variable of the parent that has a partner is of its kind, and is a base one exactly where the partner is
abbrev pub PartnersAreLike : List VarInfo → Parent → Type 0
PartnersAreLike infos parent =
    (v w : VarId) → v.0 < length infos → w.0 < length parent.answers.infos → IsTrue (has_partner parent v w)
    → ((info_at parent.answers.infos w).kind ≡ (info_at infos v).kind)
    × (is_base_form (info_at parent.answers.infos w).form ≡ is_base_form (info_at infos v).form)

-- two show the same parent of a point with these variables
pub record ShowTheSame (grammar : Grammar) (infos : List VarInfo) (p q : Parent) : Type 0 where
  pub partners : p.partners ≡ q.partners
  pub alike : PartnersAreLike infos p
  pub answers : TellTheSame grammar p.answers q.answers

-- Facts look at nothing but what may be asked.
abbrev pub FactsAreOfWhatMayBeAsked : Type 0
FactsAreOfWhatMayBeAsked =
    (grammar : Grammar) (a b : Answers) → TellTheSame grammar a b → (ps qs : List Parent) → AllZip (ShowTheSame grammar a.infos) ps qs
    → (least : ℕ) (row : RowId) → IsRowOf grammar row
    → (vars : List VarId) → IsTrue (admits row a.infos vars) → facts_of least a ps row vars ≡ facts_of least b qs row vars

-- The test of states tells equality.
abbrev pub SameStatesAreEqual : Type 0
SameStatesAreEqual = (s t : State) → IsTrue (same_state s t) ↔ (s ≡ t)

-- Two variables agree on samples exactly where they are of one kind and have equal values in each.
abbrev pub AgreesIsAgreement : Type 0
AgreesIsAgreement =
    (infos : List VarInfo) (samples : List (List Value)) (v w : VarId)
    → IsTrue (agrees infos samples v w) ↔ (((info_at infos v).kind ≡ (info_at infos w).kind) × Agree samples v w)

-- The candidates are exactly the instances of the grammar that hold, each with its state, its count and its facts.
abbrev pub CandidatesAreInstancesThatHold : Type 0
CandidatesAreInstancesThatHold =
    (grammar : Grammar) (least : ℕ) (here : Answers) (parents : List Parent) (c : Candidate)
    → Contains (candidates_of grammar least here parents) c
    ↔ ((i : RowId × List VarId) × IsInstance grammar here.infos i.0 i.1 × IsTrue (it_holds here i)
    × (c ≡ candidate_of least here parents i))

-- a candidate of an earlier row, or of the same row with variables that precede
abbrev pub StandsBefore : Candidate → Candidate → Type 0
StandsBefore c d = ComesBefore (c.row, c.vars) (d.row, d.vars)

-- Each stands before the later ones, so none comes twice; and so do those that are kept.
abbrev pub CandidatesAscend : Type 0
CandidatesAscend =
    (grammar : Grammar) (least : ℕ) (here : Answers) (parents : List Parent)
    → AllPairs StandsBefore (candidates_of grammar least here parents)

abbrev pub KeptCandidatesAscend : Type 0
KeptCandidatesAscend =
    (grammar : Grammar) (least : ℕ) (here : Answers) (parents : List Parent) (keeps : Candidate → Bool)
    → AllPairs StandsBefore (candidates_kept keeps (candidates_of grammar least here parents))
