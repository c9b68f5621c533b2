use Rattle.std.proofs.Common.{◌∙◌, ◌∷◌, List, Option, ℕ, drop, ap}
use Rattle.dk_base.specs.Reading.{Line}
use Rattle.dk_base.specs.Values.{values_of as shown_by}
use Rattle.dk_trace.specs.Values.{then_values}
use Rattle.dk_trace.specs.ValuesResumed.{from_value_line, values_resumed}
use Rattle.dk_trace.specs.declared.values.ValueLine.{ValueLine}
use Rattle.dk_trace.proofs.values.ValueReader.name_line.Goals as goal

pub returns : goal.returns
unfolding values_resumed
returns c = λ (ls : List Line) (close : Option ℕ).
    let l : Line = record { number = c.args.line; bytes = c.args.bytes.now } in
    ap (λ (p : ValueLine). then_values (shown_by c.args.self.now.values.items) (from_value_line p (drop c.args.self.now.index c.args.vars.now) (l ∷ ls) close)) c.requires
    ∙ c.in_ok-index.ensures.same (l ∷ ls) close
    ∙ ap (then_values (shown_by c.past_constants.new.values.items)) (c.in_ok-kind.ensures.goes_on ls close)
