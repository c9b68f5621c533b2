-- The engines of a table's points, one point more at a time.
use Rattle.std.specs.Prelude.{◌≡◌, ◌<◌, ◌^◌, ◌++◌, ◌⊎◌, ℕ, zero, suc, List, [], ◌∷◌, length, refl, slice_get, Some}
use Rattle.std.proofs.Common.{◌∙◌, ap, get_or, inl, inr, subst, sym}
use Rattle.std.proofs.lemmas.Option.{slice_get_read}
use Rattle.dk_engine.specs.Exact.{AreOfPoint}
use Rattle.dk_engine.specs.Reading.Levels.{Whole}
use Rattle.dk_graph.proofs.Places.{some-injective}
use Rattle.dk_points.specs.Table.{Point}
use Rattle.dk_template.specs.declared.grammar.Grammar.{Grammar}
use Rattle.dk_hierarchy.specs.Samples.{all_vars_of}
use Rattle.dk_hierarchy.specs.Standing.{AreEnginesOf}

-- the engine of the point at a place, in this grammar
abbrev pub IsEngineOf : List Point → Grammar → ℕ → Whole → Type 0
IsEngineOf ps grammar i engine = (engine.infos ≡ all_vars_of ps i) × AreOfPoint engine.infos × (engine.grammar ≡ grammar)

-- engines of the first points
pub record AreFirst (ps : List Point) (grammar : Grammar) (engines : List Whole) : Type 0 where
  pub each : (i : ℕ) (engine : Whole) → slice_get engines i ≡ Some engine → IsEngineOf ps grammar i engine

pub none_first : (ps : List Point) (grammar : Grammar) → AreFirst ps grammar []
none_first ps grammar = record { each = λ i engine at. absurd (cc) }

got_push : (xs : List Whole) (x : Whole) (i : ℕ) (y : Whole) → slice_get (xs ++ x ∷ []) i ≡ Some y → (slice_get xs i ≡ Some y) ⊎ ((i ≡ length xs) × (x ≡ y))
got_push [] x zero y at = inr (refl, some-injective at)
got_push [] x (suc i) y at = absurd (cc)
got_push (z ∷ xs) x zero y at = inl at
got_push (z ∷ xs) x (suc i) y at = elim (got_push xs x i y at) as (λ _. (slice_get xs i ≡ Some y) ⊎ ((suc i ≡ suc (length xs)) × (x ≡ y))) [
  | inl here ↦ inl here
  | inr last ↦ inr (ap suc last.0, last.1)
]

pub one_more : (ps : List Point) (grammar : Grammar) (engines : List Whole) (engine : Whole) → AreFirst ps grammar engines → IsEngineOf ps grammar (length engines) engine → AreFirst ps grammar (engines ++ engine ∷ [])
one_more ps grammar engines engine first is = record {
  each = λ i e at. elim (got_push engines engine i e at) as (λ _. IsEngineOf ps grammar i e) [
    | inl here ↦ first.each i e here
    | inr last ↦ subst (IsEngineOf ps grammar i) last.1 (subst (λ n. IsEngineOf ps grammar n engine) (sym last.0) is)
  ];
}

pub all_engines : (ps : List Point) (grammar : Grammar) (engines : List Whole) → AreFirst ps grammar engines → length engines ≡ length ps → AreEnginesOf ps engines
all_engines ps grammar engines first long = record {
  long = long;
  variables = λ i engine at. let is = first.each i engine at in (is.0, is.1);
  grammar = λ i j engine other at there. (first.each i engine at).2 ∙ sym (first.each j other there).2;
}

-- ---- the engine of a point
module _ (ps : List Point) (engines : List Whole) (are : AreEnginesOf ps engines) (p : ℕ) (engine : Whole) (within : p < length ps) (is : engine ≡ get_or engines p engine) where
  pub engine_got : slice_get engines p ≡ Some engine
  engine_got = slice_get_read engines (length ps) p engine (sym are.long) within is

  pub vars_are : engine.infos ≡ all_vars_of ps p
  vars_are = (are.variables p engine engine_got).0

  pub vars_few : length engine.infos < 2 ^ 32
  vars_few = (are.variables p engine engine_got).1.few
