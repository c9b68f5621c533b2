use Rattle.std.proofs.Common.{◌∙◌, ap, arith, get_or, List}
use Rattle.dk_table.proofs.Rowed.{tail_there}
use Rattle.dk_table.specs.declared.writing.Form.{Form}
use Rattle.dk_table.specs.declared.writing.tails.Tail.{Tail}
use Rattle.dk_table.proofs.writing.Form.tail.Goals as goal

pub returns-then-place-width : goal.returns-then-place-width
returns-then-place-width c =
    let form = c.args.self.now in
    let here : Tail = c.index-as_slice-place.result in
    c.index-as_slice-place.is ∙ ap (λ (ts : List Tail). get_or ts c.args.place here) (c.as_slice.ensures ∙ ap (λ (f : Form). f.tails) c.requires.formed)
    ∙ tail_there form.headings c.args.place c.args.width here (omega (arith, c.if-place-width.true)) c.requires.within.1
