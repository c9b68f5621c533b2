-- What the answers of a predicate come to.
use Rattle.std.specs.Prelude.{◌≡◌, Bool}
use denote.Ref.{Bor}
use Rattle.dk_filters.specs.declared.candidate.Candidate.{Candidate}

-- the predicate answers by a test of the candidate alone
abbrev pub AnswersBy : (Bor Candidate → Bool → Type 0) → (Candidate → Bool) → Type 0
AnswersBy answers test = (candidate : Bor Candidate) (answer : Bool) → answers candidate answer → answer ≡ test candidate.now
