-- Engines of a point's samples and of their halves.
use Rattle.std.specs.Prelude.{◌≡◌, Bool, true, false, All, List, [], ◌∷◌, ◌++◌, map}
use Rattle.dk_base.specs.declared.kinds.VarInfo.{VarInfo}
use Rattle.dk_base.specs.declared.values.Value.{Value}
use Rattle.dk_engine.specs.Exact.{AreOfPoint}
use Rattle.dk_engine.specs.Reading.Levels.{Whole}
use Rattle.dk_hierarchy.specs.Standing.{EngineStandsFor}
use Rattle.dk_template.specs.declared.grammar.Grammar.{Grammar}
use Rattle.dk_implications.specs.Conditions.{base_bools}
use Rattle.dk_implications.specs.Halves.{half_of}
use Rattle.dk_implications.specs.declared.halves.Halves.{Halves}

-- what the engines of a point are seen as: the one of all its samples, and those of the halves by each of its base Bools
pub record Engines : Type 0 where
  pub whole : Whole
  pub halves : List Halves

-- the engine of a half
abbrev pub half_by : Halves → Bool → Whole
half_by halves true = halves.when_true
half_by halves false = halves.when_false

-- ---- what they stand for
-- each engine stands for its half of the samples
pub record HalvesStandFor (halves : Halves) (samples : List (List Value)) : Type 0 where
  pub when_true : EngineStandsFor halves.when_true (half_of samples halves.condition true)
  pub when_false : EngineStandsFor halves.when_false (half_of samples halves.condition false)

-- the engines stand for these samples, and for their halves
pub record StandFor (engines : Engines) (samples : List (List Value)) : Type 0 where
  pub whole : EngineStandsFor engines.whole samples
  pub halves : All (λ halves. HalvesStandFor halves samples) engines.halves

-- ---- what they are over
-- both engines go by the grammar, over these variables
pub record AreOver (grammar : Grammar) (infos : List VarInfo) (halves : Halves) : Type 0 where
  pub true_grammar : halves.when_true.grammar ≡ grammar
  pub true_infos : halves.when_true.infos ≡ infos
  pub false_grammar : halves.when_false.grammar ≡ grammar
  pub false_infos : halves.when_false.infos ≡ infos

-- Halves by each base Bool of the point, in order, whose engines go by the grammar of the one of all samples, over the same variables.
pub record AreEngines (engines : Engines) : Type 0 where
  pub point : AreOfPoint engines.whole.infos
  pub conditions : map (λ halves. halves.condition) engines.halves ≡ base_bools engines.whole.infos
  pub over : All (AreOver engines.whole.grammar engines.whole.infos) engines.halves

-- ---- one sample more
-- halves by the same Bool, whose engines go by the same grammars over the same variables
pub record AreAlike (halves others : Halves) : Type 0 where
  pub condition : others.condition ≡ halves.condition
  pub true_grammar : others.when_true.grammar ≡ halves.when_true.grammar
  pub true_infos : others.when_true.infos ≡ halves.when_true.infos
  pub false_grammar : others.when_false.grammar ≡ halves.when_false.grammar
  pub false_infos : others.when_false.infos ≡ halves.when_false.infos

-- halves with one sample more
pub record AreFed (sample : List Value) (halves others : Halves) : Type 0 where
  pub alike : AreAlike halves others
  pub stand : (samples : List (List Value)) → HalvesStandFor halves samples → HalvesStandFor others (samples ++ sample ∷ [])
