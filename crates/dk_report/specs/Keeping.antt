-- Which candidates options keep.
use Rattle.std.specs.Prelude.{◌&&◌, ◌||◌, Bool, not}
use Rattle.dk_filters.specs.declared.candidate.Candidate.{Candidate}
use Rattle.dk_filters.specs.declared.facts.Facts.{Facts}
use Rattle.dk_report.specs.declared.options.Options.{Options}

-- a filter that is on has its fact
abbrev pub drops : Options → Facts → Bool
drops options facts =
    facts.few
    || (facts.incomparable && not options.keep_incomparable)
    || (facts.member && not options.keep_members)
    || (facts.implied && not options.keep_implied)
    || (facts.constant && not options.keep_constant)
    || (facts.parent && not options.keep_parent)

abbrev pub keeps : Options → Candidate → Bool
keeps options candidate = not (drops options candidate.facts)
