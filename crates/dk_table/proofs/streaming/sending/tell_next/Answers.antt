use Rattle.std.proofs.Common.{◌≡◌, ◌∙◌, ◌∷◌, [], ap, List, Ok, Bool, subst, sym, ℕ}
use Rattle.dk_table.proofs.Told.{Gathered}
use Rattle.dk_table.specs.Streams.{Step, row_steps, told_steps}
use Rattle.dk_table.specs.Streams.Stages.{steps_by}
use Rattle.dk_table.proofs.streaming.sending.tell_next.Goals as goal

pub returns-in-Ok-true : goal.returns-in-Ok-true
returns-in-Ok-true g c =
    let body = c.args.body.now in
    let row = c.args.rows.now.row in
    let is : Ok row ∷ [] ≡ row_steps c.args.has_header body.names row =
    ap (λ (b : Bool). steps_by row (Ok b)) (sym c.in-Ok-true.field-0-test) ∙ c.in-Ok-true.ensures
    ∙ ap (λ (ns : List (List ℕ)). row_steps c.args.has_header ns row) c.as_slice.ensures in
    subst (λ (steps : List Step). Gathered {A = Unit {0}} body.form (told_steps body.plan.kinds steps) c.args.gathered.now.text.items c.tell_fitting.new.gathered.text.items
    (g.S.Sinks.written c.args.sinks.now) (g.S.Sinks.written c.tell_fitting.new.sinks) (g.S.Sinks.faults c.args.sinks.now) (g.S.Sinks.faults c.tell_fitting.new.sinks) c.tell_fitting.result) is c.tell_fitting.ensures
