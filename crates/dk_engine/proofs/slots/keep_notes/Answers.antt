use Rattle.std.specs.Prelude.{◌≡◌, ℕ, false, List, fold}
use Rattle.std.specs.List.{list_any}
use Rattle.std.proofs.Common.{rules, subst, sym}
use Rattle.dk_engine.proofs.Passing.{changes_unpassed, growths_unpassed, none_passed}
use Rattle.dk_engine.specs.Feeding.Narrow.{with_change, with_growth}
use Rattle.dk_engine.specs.Idle.{AreSkips, is_passed}
use Rattle.dk_engine.specs.declared.feed.changes.Change.{Change}
use Rattle.dk_engine.specs.declared.feed.changes.SlotChanges.{SlotChanges}
use Rattle.dk_engine.specs.declared.feed.growing.Growth.{Growth}
use Rattle.dk_engine.proofs.slots.keep_notes.Goals as goal

pub returns-then-some_found_passed : goal.returns-then-some_found_passed
returns-then-some_found_passed c slots are =
    let found : SlotChanges = c.args.found.now in
    let watch = c.none.result.watch in
    let changed = fold with_change (fold with_growth slots found.growths) found.changes in
    subst (AreSkips watch changed) (sym c.none.ensures) (none_passed watch changed)

pub returns-else-some_found_passed : goal.returns-else-some_found_passed
returns-else-some_found_passed c slots are =
    let found : SlotChanges = c.args.found.now in
    let skips = c.args.notes.now.skips.items in
    let watch = c.args.notes.now.watch in
    let same : c.as_slice.result.now ≡ skips = search rules in
    let grown : list_any (λ (g : Growth). is_passed skips g.place) found.growths ≡ false =
    subst (λ (ks : List ℕ). list_any (λ (g : Growth). is_passed ks g.place) found.growths ≡ false) same (c.some_found_passed.ensures.growths c.if-some_found_passed.false) in
    let changed : list_any (λ (d : Change). is_passed skips d.place) found.changes ≡ false =
    subst (λ (ks : List ℕ). list_any (λ (d : Change). is_passed ks d.place) found.changes ≡ false) same (c.some_found_passed.ensures.changes c.if-some_found_passed.false) in
    changes_unpassed watch skips found.changes changed (fold with_growth slots found.growths) (growths_unpassed watch skips found.growths grown slots are)
