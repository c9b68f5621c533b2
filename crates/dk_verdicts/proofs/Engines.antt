-- The engines of the points, one more at a time.
use Rattle.std.specs.Prelude.{◌≡◌, ◌+◌, ◌≤◌, ℕ, List, [], ◌∷◌, ◌++◌, length, take, refl}
use Rattle.std.proofs.Common.{◌∙◌, ap, arith, length-append, sym}
use Rattle.dk_blocks.proofs.Growing.{same_all_vars}
use Rattle.dk_engine.specs.Exact.{AreOfPoint}
use Rattle.dk_engine.specs.Reading.Levels.{Whole}
use Rattle.dk_hierarchy.proofs.TableEngines.{AreFirst, all_engines, one_more}
use Rattle.dk_hierarchy.specs.Samples.{all_vars_of}
use Rattle.dk_points.specs.Table.{Point}
use Rattle.dk_template.specs.declared.grammar.Grammar.TheVariants.{Two}
use Rattle.dk_verdicts.proofs.Checked.{get_within}
use Rattle.dk_verdicts.proofs.Growth.{length_take, take_front}
use Rattle.dk_verdicts.specs.Standing.{AreUnfed}

-- those of the first points
pub record AreFirstUnfed (ps : List Point) (engines : List Whole) (place : ℕ) : Type 0 where
  pub first : AreFirst ps Two engines
  pub many : length engines ≡ place

pub those_known : (ps : List Point) (engines : List Whole) → length engines ≤ length ps → AreUnfed (take (length engines) ps) engines → AreFirstUnfed ps engines (length engines)
those_known ps engines few are = record {
  first = record {
    each = λ i engine at.
        let v = are.are.variables i engine at in
        let within = get_within engines i engine at in
        let long = length_take (length engines) ps few in
        (v.0 ∙ sym (same_all_vars (take (length engines) ps) ps i (take_front (length engines) ps) (omega (arith, within, long))), v.1, are.by_grammar i engine at);
  };
  many = refl;
}

pub one_engine_more : (ps : List Point) (engines : List Whole) (place : ℕ) (engine : Whole) → AreFirstUnfed ps engines place → engine.infos ≡ all_vars_of ps place → AreOfPoint engine.infos → engine.grammar ≡ Two
    → AreFirstUnfed ps (engines ++ engine ∷ []) (place + 1)
one_engine_more ps engines place engine are infos point by = record {
  first = one_more ps Two engines engine are.first (infos ∙ ap (all_vars_of ps) (sym are.many), point, by);
  many = let n = length-append engines (engine ∷ []) in let m = are.many in omega (arith, n, m);
}

pub all_unfed : (ps : List Point) (engines : List Whole) (place : ℕ) → AreFirstUnfed ps engines place → place ≡ length ps → AreUnfed ps engines
all_unfed ps engines place are ends = record {
  are = all_engines ps Two engines are.first (are.many ∙ ends);
  by_grammar = λ i engine at. (are.first.each i engine at).2;
}
