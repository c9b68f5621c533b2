use Rattle.std.proofs.Common.{◌∙◌, ◌≤◌, ◌+◌, ◌-◌, arith, drop, length, List, ℕ, refl, sym, take}
use Rattle.dk_table.proofs.Pushed.{dot_unpushed, joined_pushed, to_end}
use Rattle.dk_table.proofs.writing.pushing.push_decimal.Goals as goal

pub returns-in-None : goal.returns-in-None
returns-in-None c =
    dot_unpushed c.args.places c.args.cell.now c.args.tail.now c.args.text.now.items (sym c.dot_of.ensures.dot ∙ c.in-None.is)

pub returns-in_ok-push_joined-in-Some : goal.returns-in_ok-push_joined-in-Some
returns-in_ok-push_joined-in-Some c =
    let cell = c.args.cell.now in
    let dot : ℕ = c.in-Some.dot in
    let few : length cell ≤ 18 = omega (arith, c.if-cell-gt-SURE.false) in
    let back : List ℕ = take (length cell - (dot + 1)) (drop (dot + 1) cell) in
    joined_pushed c.args.places cell (take dot cell) back dot c.args.tail.now c.args.text.now.items c.push_joined.new.text.items (sym c.dot_of.ensures.dot ∙ c.in-Some.is) few refl
    (to_end cell (dot + 1)) (c.leads.ensures c.if-not-leads.false back) c.in_ok-push_joined-in-Some.ensures
