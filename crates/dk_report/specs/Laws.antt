-- What reports come to.
use Rattle.std.specs.Prelude.{◌≡◌, ℕ, All, List}
use Rattle.dk_base.specs.declared.kinds.VarInfo.{VarInfo}
use Rattle.dk_base.specs.declared.values.Value.{Value}
use Rattle.dk_engine.specs.Exact.{IsKeptOf}
use Rattle.dk_engine.specs.declared.kept.Kept.{Kept}
use Rattle.dk_filters.specs.Laws.{PartnersAreLike}
use Rattle.dk_hierarchy.specs.Samples.{OwnSamples, all_vars_of}
use Rattle.dk_points.specs.Table.{Point}
use Rattle.dk_template.specs.declared.grammar.Grammar.{Grammar}
use Rattle.dk_report.specs.Reports.{parents_of}
use Rattle.dk_report.specs.Sizes.{counts_of, sizes_of}

-- A point's parents are as facts want them: each variable of a parent that has a partner is of its kind, and a base one exactly where the
-- partner is.
abbrev pub ParentsAreLike : Type 0
ParentsAreLike = (ps : List Point) (own : OwnSamples) (p : ℕ) → All (PartnersAreLike (all_vars_of ps p)) (parents_of ps own p)

-- What is kept of samples is as much as their sizes say.
abbrev pub KeptPartsHaveSizes : Type 0
KeptPartsHaveSizes =
    (grammar : Grammar) (infos : List VarInfo) (samples : List (List Value)) (kept : Kept) → IsKeptOf grammar infos samples kept
    → counts_of kept ≡ sizes_of grammar infos samples
