use Rattle.std.proofs.Common.{◌∙◌, List, ap, subst}
use Rattle.dk_blocks.specs.Standing.{points_of as points_in}
use Rattle.dk_engine.specs.Reading.Levels.{Whole}
use Rattle.dk_hierarchy.specs.Shortcuts.{AreShortcuts}
use Rattle.dk_points.specs.Table.{Point}
use Rattle.dk_core.proofs.Asking.{if_ok_map}
use Rattle.dk_core.specs.Keeping.{Keeping}
use Rattle.dk_core.proofs.kept.SessionParts.shortcuts.Goals as goal

pub returns : goal.returns
returns c =
    if_ok_map c.shortcuts.result _ _ c.shortcuts.ensures
    (λ found are.
    subst (λ (ps : List Point). AreShortcuts ps c.args.self.now.engines found.items) (c.points.ensures.points ∙ ap (λ (x : Keeping). points_in x.reader) c.self.view_is)
    (subst (λ (es : List Whole). AreShortcuts c.points.result.now es found.items) (c.as_slice.ensures.value ∙ ap (λ (x : Keeping). x.engines) c.self.view_is) are))
