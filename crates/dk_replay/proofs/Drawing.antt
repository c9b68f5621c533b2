-- Variables that are made one after another, the base ones first, and their samples.
use Rattle.std.specs.Prelude.{◌≡◌, ◌↔◌, ◌<◌, ◌^◌, ℕ, zero, suc, All, IsTrue, List, [], ◌∷◌, ◌++◌, Some, length, slice_get}
use Rattle.std.specs.List.{AllPairs}
use Rattle.std.proofs.Common.{arith, get_or, inl, inr, subst, sym}
use Rattle.std.proofs.lemmas.Bool.{cases_lt}
use Rattle.std.proofs.lemmas.List.{get_or_append_left, get_or_push, length-append, length-map, map-append}
use Rattle.std.proofs.lemmas.List.Elements.{All-get_or, All-head, All-push, All-tail}
use Rattle.std.proofs.lemmas.List.Quantifiers.{all_pairs_push}
use Rattle.dk_base.specs.Shapes.{is_base_form}
use Rattle.dk_base.specs.Values.{value_of, values_of}
use Rattle.dk_base.specs.Values.Spelling.{IsWritten}
use Rattle.dk_base.specs.declared.kinds.VarInfo.{VarInfo}
use Rattle.dk_base.specs.declared.values.View.{View}
use Rattle.dk_engine.proofs.OfKinds.{value_got}
use Rattle.dk_engine.specs.Exact.{AreOfPoint}
use Rattle.dk_instances.specs.Laws.{IsSample}
use Rattle.dk_replay.specs.Samples.{samples_of}

-- a base variable behind another one wants that one to be a base one
abbrev pub BaseBefore : VarInfo → VarInfo → Type 0
BaseBefore a b = IsTrue (is_base_form b.form) → IsTrue (is_base_form a.form)

-- so many base variables, and behind them only derived ones
pub record AreBases (bases : ℕ) (vars : List VarInfo) : Type 0 where
  pub ordered : AllPairs BaseBefore vars
  pub first : (k : ℕ) (d : VarInfo) → k < length vars → k < bases → IsTrue (is_base_form (get_or vars k d).form)

pub no_variables : (bases : ℕ) → AreBases bases []
no_variables bases = record { ordered = λ i j d l m. absurd (omega (arith, m)); first = λ k d l m. absurd (omega (arith, l)) }

pub one_more : (bases : ℕ) (vars : List VarInfo) (y : VarInfo) → AreBases bases vars → IsTrue (is_base_form y.form) ↔ (length vars < bases) → AreBases bases (vars ++ y ∷ [])
one_more bases vars y are base =
    let long = length-append vars (y ∷ []) in
    record {
      ordered = all_pairs_push BaseBefore vars y are.ordered (λ k d l is. let m = base.0 is in are.first k d l (omega (arith, l, m)));
      first = λ k d l m. elim (cases_lt k (length vars)) as (λ _. IsTrue (is_base_form (get_or (vars ++ y ∷ []) k d).form)) [
        | inl h ↦ subst (λ (v : VarInfo). IsTrue (is_base_form v.form)) (sym (get_or_append_left vars (y ∷ []) d k h)) (are.first k d h m)
        | inr h ↦
            let e : length vars ≡ k = omega (arith, long, l, h) in
            subst (λ (v : VarInfo). IsTrue (is_base_form v.form)) (sym (get_or_push vars y d k e)) (base.1 (omega (arith, e, m)))
      ];
    }

pub of_point : (bases : ℕ) (vars : List VarInfo) → AreBases bases vars → length vars < 2 ^ 32 → AreOfPoint vars
of_point bases vars are few = record { few = few; base_first = are.ordered }

-- ---- samples
-- a value of one of them
pub one_value : (views : List View) (k : ℕ) (d : View) → k < length views → All IsWritten (values_of views) → IsWritten (value_of (get_or views k d))
one_value views k d within all =
    let long = length-map views value_of in
    subst IsWritten (value_got views k d (value_of d) within) (All-get_or IsWritten (values_of views) k (value_of d) (omega (arith, long, within)) all)

-- a value more
pub value_more : (views : List View) (v : View) → All IsWritten (values_of views) → IsWritten (value_of v) → All IsWritten (values_of (views ++ v ∷ []))
value_more views v all is = subst (All IsWritten) (sym (map-append value_of views (v ∷ []))) (All-push IsWritten (values_of views) (value_of v) all is)

-- a sample more
pub sample_more : (infos : List VarInfo) (samples : List (List View)) (s : List View) → All (IsSample infos) (samples_of samples) → IsSample infos (values_of s) → All (IsSample infos) (samples_of (samples ++ s ∷ []))
sample_more infos samples s all is = subst (All (IsSample infos)) (sym (map-append values_of samples (s ∷ []))) (All-push (IsSample infos) (samples_of samples) (values_of s) all is)

-- the values of one of them
pub written_got : (infos : List VarInfo) (samples : List (List View)) (k : ℕ) (s : List View) → slice_get samples k ≡ Some s → All (IsSample infos) (samples_of samples) → All IsWritten (values_of s)
written_got infos [] k s e all = absurd (cc)
written_got infos (t ∷ samples) zero s e all =
    let same : t ≡ s = cc in
    subst (λ (x : List View). All IsWritten (values_of x)) same (All-head (IsSample infos) (values_of t) (samples_of samples) all).written
written_got infos (t ∷ samples) (suc k) s e all = written_got infos samples k s e (All-tail (IsSample infos) (values_of t) (samples_of samples) all)
