use Rattle.std.specs.Prelude.{ℕ, List}
use Rattle.std.specs.BTreeMap.{insert_entry, is_at}
use Rattle.std.specs.Map.{remove_entry}
use Rattle.std.specs.Ordering.{nat_cmp}
use Rattle.std.proofs.Common.{◌∙◌, ap}
use Rattle.dk_hierarchy.proofs.Ranks.{added_at}
use Rattle.dk_hierarchy.specs.Ways.{with_way}
use Rattle.dk_hierarchy.specs.declared.way.Way.{Way}
use Rattle.dk_hierarchy.proofs.levels.Levels.add.Goals as goal

pub returns-in-Ok : goal.returns-in-Ok
returns-in-Ok c =
    let old = c.args.self.now in
    let rank = c.args.rank in
    c.in-Ok.ensures.entries
    ∙ (ap (λ (ls : List (ℕ × List Way)). insert_entry nat_cmp ls rank c.in_ok-with_way.field-0) (c.self.view_is ∙ c.take-level.ensures.others)
    ∙ (ap (insert_entry nat_cmp (remove_entry (is_at (nat_cmp rank)) old) rank) (c.in_ok-with_way.ensures ∙ ap (λ (ws : List Way). with_way ws c.args.way) c.take-level.ensures.ways)
    ∙ added_at old rank c.args.way c.take-level.ensures.sorted))
