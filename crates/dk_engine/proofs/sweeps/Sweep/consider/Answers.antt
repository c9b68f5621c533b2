use Rattle.std.specs.Prelude.{◌++◌}
use Rattle.std.proofs.Common.{ap, ◌∙◌, sym}
use Rattle.std.proofs.lemmas.List.{append-nil}
use Rattle.dk_engine.proofs.Slotless.{broken_out, not_considered}
use Rattle.dk_engine.specs.Feeding.{read_after}
use Rattle.dk_engine.proofs.sweeps.Sweep.consider.Goals as goal

pub returns-then-breaks : goal.returns-then-breaks
returns-then-breaks c =
    let s = c.args.self.now in
    let answered = read_after s.answers.now.whole.kept s.answers.now.sample in
    let row = c.args.row in
    let vars = c.args.vars.now in
    let none = not_considered s.infos.now s.known.now answered row vars (broken_out s.infos.now s.known.now answered row vars (c.breaks.ensures c.if-breaks.true)) in
    sym (append-nil c.args.slots.now) ∙ ap (λ ss. c.args.slots.now ++ ss) (sym none)
