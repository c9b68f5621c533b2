use Rattle.std.specs.Prelude.{length, nat_eq, take}
use Rattle.std.specs.Cmp.Lexicographic.{pointwise}
use Rattle.std.proofs.Common.{◌∙◌, ap, sym}
use Rattle.std.proofs.lemmas.Bool.{false≢true}
use Rattle.dk_state.proofs.Fronts.{own_front}
use Rattle.dk_state.proofs.front.Front.pass.Goals as goal

pub returns-in-None-clause-read : goal.returns-in-None-clause-read
returns-in-None-clause-read c rest is =
    let word = c.args.bytes.now in
    absurd (false≢true (sym c.in-None.ensures.cases ∙ ap (λ left. pointwise nat_eq (take (length word) left) word) (c.self.view_is ∙ is) ∙ own_front word rest))
