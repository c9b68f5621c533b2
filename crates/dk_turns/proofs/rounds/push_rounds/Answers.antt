use Rattle.std.proofs.Common.{◌≡◌, ◌∙◌, ◌<◌, List, ap, drop, flat_map, fold, length, map, rules, sym, take}
use Rattle.dk_turns.specs.Blocks.{Block}
use Rattle.dk_turns.specs.Reading.{some_left, with_block}
use Rattle.dk_turns.proofs.Rounding.{counted, lighter, no_rounds, round_on, samples_of}
use Rattle.dk_turns.proofs.rounds.push_rounds.Goals as goal

pub rounds-smaller : goal.rounds-smaller
rounds-smaller c =
    let some : 0 < length c.rounds.left.items = search rules in
    let same : samples_of c.deref.result.now ≡ samples_of c.rounds.left.items = ap samples_of c.deref.ensures.value in
    lighter c.args.n (samples_of c.rounds.left.items) (samples_of c.in_ok-left.left.items) c.requires (counted c.rounds.left.items some)
    (c.in_ok-left.ensures.left ∙ ap (λ (ls : List (List Block)). some_left (map (drop c.args.n) ls)) same)

pub rounds-preserved : goal.rounds-preserved
rounds-preserved c =
    let same : samples_of c.deref.result.now ≡ samples_of c.rounds.left.items = ap samples_of c.deref.ensures.value in
    round_on c.rounds.text c.push_round.new.text c.args.n (samples_of c.rounds.left.items) (samples_of c.in_ok-left.left.items) c.requires
    (c.in_ok-left.ensures.text ∙ ap (λ (ls : List (List Block)). fold with_block c.rounds.text (flat_map (take c.args.n) ls)) same)
    (c.in_ok-left.ensures.left ∙ ap (λ (ls : List (List Block)). some_left (map (drop c.args.n) ls)) same)
    ∙ c.rounds.invariant

pub returns : goal.returns
returns c =
    let none : length c.rounds.left.items ≡ 0 = search rules in
    sym (ap (fold with_block c.rounds.text) (no_rounds c.args.n c.rounds.left.items none)) ∙ c.rounds.invariant
