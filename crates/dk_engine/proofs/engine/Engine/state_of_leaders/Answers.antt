use Rattle.std.specs.Prelude.{◌≡◌, true}
use Rattle.std.proofs.Common.{ap, ◌∙◌, subst, sym}
use Rattle.std.proofs.lemmas.Result.{IfOk-weaker}
use Rattle.dk_template.specs.Admitted.{admits}
use Rattle.dk_engine.specs.Reading.{read_leaders}
use Rattle.dk_engine.specs.Reading.Levels.{Level, Whole}
use Rattle.dk_engine.proofs.engine.Engine.state_of_leaders.Goals as goal

pub state-requires-clause-vars : goal.state-requires-clause-vars
state-requires-clause-vars c =
    let w : Whole = c.args.self.now in
    subst (λ i. admits c.args.row i c.args.leaders.now ≡ true) (sym (ap (λ (l : Level). l.infos) c.over-levels.ensures)) c.requires.leaders

pub returns-clause-state : goal.returns-clause-state
returns-clause-state c =
    let w : Whole = c.args.self.now in
    let row = c.args.row in
    let vars = c.args.leaders.now in
    let told : read_leaders c.over-levels.result.ranks c.over-levels.result.kept row vars ≡ read_leaders 4 w.kept row vars = ap (λ (l : Level). read_leaders l.ranks l.kept row vars) c.over-levels.ensures in
    IfOk-weaker c.state.result (λ s. s ≡ read_leaders c.over-levels.result.ranks c.over-levels.result.kept row vars) (λ s. s ≡ read_leaders 4 w.kept row vars) (λ s e. e ∙ told) c.state.ensures.state
