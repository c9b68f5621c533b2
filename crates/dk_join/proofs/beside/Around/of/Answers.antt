use Rattle.std.proofs.lemmas.Result.{IfOk-weaker}
use Rattle.dk_join.proofs.Companions.{none_left_out}
use Rattle.dk_join.specs.Beside.{AreAround, LeavesNoneOut}
use Rattle.dk_join.proofs.beside.Around.of.Goals as goal
use Rattle.std.specs.Prelude.{◌≡◌, refl}

pub returns-then-are_many-clause-all : goal.returns-then-are_many-clause-all
returns-then-are_many-clause-all c row hand w stands = refl

pub returns-clause-engine : goal.returns-clause-engine
returns-clause-engine c =
    let engine = c.args.engine.now in
    IfOk-weaker c.by_slots.result (AreAround engine c.args.hand.now c.args.v) (λ around. around.engine.now ≡ engine) (λ around is. is.engine_is) c.by_slots.ensures

pub returns-clause-all : goal.returns-clause-all
returns-clause-all c =
    let engine = c.args.engine.now in
    IfOk-weaker c.by_slots.result (AreAround engine c.args.hand.now c.args.v) (LeavesNoneOut engine.kept c.args.hand.now c.args.v) (none_left_out engine c.args.hand.now c.args.v) c.by_slots.ensures
