use Rattle.std.specs.Prelude.{◌≡◌, IfOk}
use Rattle.std.proofs.Common.{◌∙◌, ap, subst, sym}
use Rattle.dk_engine.specs.Feeding.{slots_of}
use Rattle.dk_template.specs.declared.grammar.Grammar.{Grammar}
use Rattle.dk_join.specs.Beside.{AreLed, HaveSamples}
use Rattle.dk_join.specs.Joining.{Pair, answer_of}
use Rattle.dk_join.proofs.joining.joined_slots.Goals as goal

pub all-requires-clause-some : goal.all-requires-clause-some
all-requires-clause-some c = subst HaveSamples (sym c.in_ok-both.ensures) c.requires.some

pub all-requires-clause-leaders : goal.all-requires-clause-leaders
all-requires-clause-leaders c = subst (λ p. AreLed p c.args.leaders.now) (sym c.in_ok-both.ensures) c.requires.leaders

pub all-requires-clause-grammar : goal.all-requires-clause-grammar
all-requires-clause-grammar c = ap (λ (p : Pair). p.first.grammar) c.in_ok-both.ensures ∙ sym c.grammar.ensures

pub returns : goal.returns
returns c =
    let pair : Pair = record { first = c.args.first.now; second = c.args.second.now } in
    let Are : Pair → Grammar → Type 0 = λ p g. IfOk c.all.result (λ slots. slots ≡ slots_of g p.first.infos c.args.leaders.now c.args.known.now (answer_of p)) in
    subst (Are pair) c.grammar.ensures (subst (λ p. Are p c.grammar.result) c.in_ok-both.ensures c.all.ensures)
