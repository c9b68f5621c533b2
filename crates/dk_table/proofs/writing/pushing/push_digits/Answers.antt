use Rattle.std.proofs.Common.{◌≡◌, List, OnOk, ℕ, subst, sym, ◌∙◌}
use Rattle.dk_table.proofs.Pushed.{digits_with}
use Rattle.dk_table.proofs.writing.pushing.push_digits.Goals as goal

pub returns-then-is_shortest : goal.returns-then-is_shortest
returns-then-is_shortest c =
    subst (λ (l : List ℕ). OnOk c.push_told.result (c.push_told.new.text.items ≡ l))
    (digits_with c.args.text.now.items c.args.digits.now c.args.number c.args.tail.now c.requires (sym c.is_shortest.ensures ∙ c.if-is_shortest.true)) c.push_told.ensures
