use Rattle.std.proofs.Common.{◌≡◌, ◌++◌, ◌∙◌, ap, List, ℕ, rules, sym, true}
use Rattle.std.specs.Result.{is_ok}
use Rattle.dk_table.proofs.Plain.{plain_bytes}
use Rattle.dk_table.proofs.columns.cells.push_inside.Goals as goal

pub returns-then-are_plain : goal.returns-then-are_plain
returns-then-are_plain c =
    let good : is_ok c.extend_from_slice.result ≡ true = search rules in
    let items = rw good at c.extend_from_slice.ensures.items in
    items ∙ ap (λ (l : List ℕ). c.args.text.now.items ++ l) (sym (plain_bytes c.args.cell.now (sym c.are_plain.ensures ∙ c.if-are_plain.true)))
