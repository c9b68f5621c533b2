use Rattle.std.proofs.Common.{ap, ◌∙◌, ◌∷◌, []}
use Rattle.std.specs.Option.{option_or}
use Rattle.dk_constants.specs.Known.{known_at}
use Rattle.dk_constants.proofs.Lookups.{known_more}
use Rattle.dk_constants.proofs.steps.with_entries.Goals as goal

pub loop-entry-preserved : goal.loop-entry-preserved
loop-entry-preserved c = record {
  ascend = c.in_ok-more.ensures.ascend;
  known = λ v. known_more _ c.args.known.items c.loop-entry.yielded c.in-Some.entry v
      (c.in_ok-more.ensures.known v ∙ ap (λ o. option_or o (known_at (c.in-Some.entry ∷ []) v)) (c.loop-entry.invariant.known v));
}
