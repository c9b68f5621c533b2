-- One file more, behind those that were taken.
use Rattle.std.proofs.Common.{◌≡◌, ◌≤◌, ◌++◌, ℕ, List, [], ◌∷◌, inl, inr, Option, Some, None, Result, Ok, Err, refl, sym, ap, subst}
use Rattle.std.specs.Prelude.{IfErr, IfOk}
use Rattle.dk_base.specs.declared.why.Why.{Why}
use Rattle.dk_driver.specs.declared.fault.FileFault.TheVariants.{Read, Refused, Start}
use Rattle.dk_merging.specs.Loading.{IsBadOr, text_of, texts_of}
use Rattle.dk_merging.specs.declared.merging.MergeFault.{MergeFault}
use Rattle.dk_merging.specs.declared.merging.MergeFault.TheVariants as merge
use Rattle.dk_state.specs.Spelling.{IsSpelling}
use Rattle.dk_state.specs.declared.loading.Loaded.{Loaded}
use Rattle.dk_merge.specs.Gathering.{FaultGives, HoldsAll, StatesGive, TakesFile, fault_of_merge, state_of, turns_by}
use Rattle.dk_merge.specs.Merged.{AreTaken, IsNoState, IsReason, IsStateBehind, MergeAnswers, MergesTo, bytes_in, refusal_by, whole_limit}
use Rattle.dk_merge.specs.declared.gathered.Gathered.{Gathered}
use Rattle.dk_merge.specs.declared.gathered.Gathered.TheVariants.{State, Traces}

-- ---- states
-- why one file alone is no state
bad_gives : (file : List ℕ) (e : MergeFault) → IsBadOr file merge.BadFirst e → FaultGives None file (fault_of_merge e)
bad_gives file merge.BadFirst h = (refl, (refl, h.1))
bad_gives file merge.BadSecond h = absurd (cc h.0)
bad_gives file merge.Different h = absurd (cc h.0)
bad_gives file merge.Joined h = absurd (cc h.0)
bad_gives file merge.NoMemory h = tt

pub first_gives : (file : List ℕ) (r : Result Loaded MergeFault) → IfOk r (λ states. text_of states ≡ file) → IfOk r (λ states. IsSpelling file) → IfErr r (IsBadOr file merge.BadFirst) → StatesGive None file r
first_gives file (Ok states) text spelled bad = (spelled, text)
first_gives file (Err e) text spelled bad = bad_gives file e bad

-- what those before and one more give, by what is said of both
pub more_give : (before : Loaded) (file : List ℕ) (r : Result Loaded MergeFault) → IsSpelling (text_of before) → MergeAnswers (text_of before) file (texts_of r) → StatesGive (Some before) file r
more_give before file (Ok states) spelled answers = answers
more_give before file (Err merge.BadFirst) spelled answers = absurd (answers.says spelled)
more_give before file (Err merge.BadSecond) spelled answers = (refl, (merge.BadSecond, refl, answers))
more_give before file (Err merge.Different) spelled answers = (refl, (merge.Different, refl, answers))
more_give before file (Err merge.Joined) spelled answers = (refl, (merge.Joined, refl, answers))
more_give before file (Err merge.NoMemory) spelled answers = tt

merged_more : (before : Option (List ℕ)) (files : List (List ℕ)) (mid : Option (List ℕ)) (file state : List ℕ) → MergesTo before files mid → IsStateBehind mid file state → MergesTo before (files ++ file ∷ []) (Some state)
merged_more before [] mid file state merges behind = (state, subst (λ (o : Option (List ℕ)). IsStateBehind o file state) merges behind, refl)
merged_more before (f ∷ fs) mid file state (next, first, rest) behind = (next, first, merged_more (Some next) fs mid file state rest behind)

-- ---- what is kept
pub holds_more : (g next : Gathered) (contents : List (List ℕ)) (file : List ℕ) → TakesFile g file (Ok next) → HoldsAll contents g → HoldsAll (contents ++ file ∷ []) next
holds_more (State before) next contents file (states, behind, is) holds =
    subst (HoldsAll (contents ++ file ∷ [])) (sym is) (merged_more None contents (state_of before) file (text_of states) holds behind)
holds_more (Traces n files) next contents file is holds = subst (HoldsAll (contents ++ file ∷ [])) (sym is) (ap (λ (l : List (List ℕ)). l ++ file ∷ []) holds)

pub turns_kept : (g next : Gathered) (file : List ℕ) → TakesFile g file (Ok next) → turns_by next ≡ turns_by g
turns_kept (State before) next file (states, behind, is) = ap turns_by is
turns_kept (Traces n files) next file is = ap turns_by is

pub taken_of : (turns : Option ℕ) (contents : List (List ℕ)) (g : Gathered) → turns_by g ≡ turns → HoldsAll contents g → bytes_in contents ≤ whole_limit → AreTaken turns contents
taken_of None contents (State states) is holds short = (short, (state_of states, holds))
taken_of (Some n) contents (State state) is holds short = absurd (cc is)
taken_of None contents (Traces m files) is holds short = absurd (cc is)
taken_of (Some n) contents (Traces m files) is holds short = short

pub not_start : (g : Gathered) (file : List ℕ) → TakesFile g file (Err Start) → ⊥
not_start (State before) file takes = takes
not_start (Traces n files) file takes = takes

pub not_unread : (g : Gathered) (file : List ℕ) → TakesFile g file (Err Read) → ⊥
not_unread (State before) file takes = takes
not_unread (Traces n files) file takes = takes

-- ---- reasons
no_state_reason : (before : Option (List ℕ)) (file : List ℕ) (why : Why) → IsNoState before file why → IsReason why
no_state_reason None file why (is, none) = inr (inl is)
no_state_reason (Some before) file why (fault, refused, answers) = by fault refused where
  by : (fault : MergeFault) → refusal_by fault ≡ Some why → IsReason why
  by merge.BadFirst refused = absurd (cc refused)
  by merge.BadSecond refused = inr (inl (sym (cc refused)))
  by merge.Different refused = inr (inr (inl (sym (cc refused))))
  by merge.Joined refused = inr (inr (inr (sym (cc refused))))
  by merge.NoMemory refused = absurd (cc refused)

pub refused_reason : (g : Gathered) (file : List ℕ) (line : ℕ) (why : Why) → TakesFile g file (Err (Refused line why)) → (line ≡ 0) × IsReason why
refused_reason (State before) file line why (at, none) = (at, no_state_reason (state_of before) file why none)
refused_reason (Traces n files) file line why none = absurd none
