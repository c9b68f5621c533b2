-- An engine alone, as what is merged at a point without children.
use Rattle.std.specs.Prelude.{◌≡◌, ◌<◌, ◌++◌, zero, suc, All, [], ◌∷◌, length, map, refl}
use Rattle.std.proofs.Common.{◌∙◌, arith, subst}
use Rattle.std.proofs.lemmas.List.{append-nil}
use Rattle.std.proofs.lemmas.List.Elements.{All-cons, All-nil, All-weaker}
use Rattle.std.proofs.lemmas.Slice.Zip.{AllZip-long}
use Rattle.dk_base.specs.Values.{IsOfKind}
use Rattle.dk_base.specs.declared.kinds.VarInfo.{VarInfo}
use Rattle.dk_engine.specs.Reading.Levels.{Whole}
use Rattle.dk_graph.proofs.Places.{some-injective}
use Rattle.dk_hierarchy.proofs.Merging.{merged_stand}
use Rattle.dk_hierarchy.proofs.Onward.{all_mapped_own, own_are_partners}
use Rattle.dk_hierarchy.proofs.Telling.{Samples}
use Rattle.dk_hierarchy.specs.Descent.{first_way, own_partners}
use Rattle.dk_hierarchy.specs.Merging.{AreWays, IsWay, Joint}
use Rattle.dk_hierarchy.specs.Samples.{mapped_sample}
use Rattle.dk_hierarchy.specs.Standing.{EngineStandsFor, EnginesStandFor, JointStandsFor}
use Rattle.dk_hierarchy.specs.Ways.{samples_through_all, repeated_samples}
use Rattle.dk_hierarchy.specs.declared.way.Way.{Way}
use Rattle.dk_instances.specs.Laws.{IsSample}

module _ (engine : Whole) where
  abbrev way : Way
  way = first_way 0 (length engine.infos)

  abbrev pub alone : Joint
  alone = record { here = engine; engines = engine ∷ []; ways = way ∷ [] }

  is_way : IsWay alone way
  is_way = record { within = omega arith; grammar = refl; partners = own_are_partners engine.infos }

  pub are_ways : AreWays alone
  are_ways = All-cons (IsWay alone) way [] is_way (All-nil (IsWay alone))

  pub some_paths : All (λ (w : Way). 0 < w.paths) alone.ways
  some_paths = All-cons (λ (w : Way). 0 < w.paths) way [] (omega arith) (All-nil (λ (w : Way). 0 < w.paths))

  module _ (samples : Samples) (stands : EngineStandsFor engine samples) where
    pub each_stands : EnginesStandFor (engine ∷ []) (λ i. samples)
    each_stands zero other at = subst (λ (e : Whole). EngineStandsFor e samples) (some-injective at) stands
    each_stands (suc i) other at = absurd (cc)

    long : All (λ s. length s ≡ length engine.infos) samples
    long = All-weaker (IsSample engine.infos) (λ s. length s ≡ length engine.infos) (λ s is. AllZip-long (λ (info : VarInfo) x. IsOfKind info.kind x) engine.infos s is.kinds) samples stands.samples_are

    brought_are : samples_through_all (λ i. samples) alone.ways ≡ samples
    unfolding repeated_samples
    brought_are =
        append-nil (map (mapped_sample (own_partners (length engine.infos))) samples ++ [])
        ∙ (append-nil (map (mapped_sample (own_partners (length engine.infos))) samples)
        ∙ all_mapped_own (length engine.infos) samples long)

    pub alone_stands : JointStandsFor alone samples
    alone_stands = subst (JointStandsFor alone) brought_are (merged_stand alone are_ways some_paths (λ i. samples) each_stands)
