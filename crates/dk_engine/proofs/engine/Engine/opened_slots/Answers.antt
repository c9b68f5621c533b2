use Rattle.std.specs.Prelude.{◌≡◌, ◌++◌}
use Rattle.std.proofs.Common.{ap, ◌∙◌, rules}
use Rattle.dk_base.specs.Values.{values_of}
use Rattle.dk_classes.specs.Leaders.{own_leaders}
use Rattle.dk_engine.specs.Feeding.{read_after}
use Rattle.dk_engine.specs.Feeding.Narrow.{freed_by_all, opened_slots}
use Rattle.dk_engine.specs.Reading.Levels.{Whole}
use Rattle.dk_engine.specs.Sweeps.{touched_slots}
use Rattle.dk_engine.specs.Sweeps.Choices.{other_leaders, touching_leaders}
use Rattle.dk_engine.proofs.engine.Engine.opened_slots.Goals as goal

pub returns : goal.returns
unfolding opened_slots
returns c =
    let w : Whole = c.args.self.now in
    let after = read_after w.kept (values_of c.args.sample.now) in
    let now = c.args.now.now in
    let leaders = own_leaders now.leaders in
    let t = touched_slots w.grammar w.infos now.known after (touching_leaders now) (other_leaders now) leaders in
    let f = freed_by_all w.infos now.known after leaders w.kept.slots c.args.lost.now in
    let touched : c.in_ok-slots.slots ≡ t = search rules in
    let freed : c.freed_by_all.new.slots ≡ c.in_ok-slots.slots ++ f = search rules in
    freed ∙ ap (λ ss. ss ++ f) touched
