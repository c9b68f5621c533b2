use Rattle.std.proofs.Common.{◌∙◌, ℤ, w64, SFits, ap, rules}
use Rattle.std.proofs.lemmas.Int.{to_z-of_z}
use Rattle.dk_base.specs.declared.values.items.Item.{Item}
use Rattle.dk_base.specs.declared.values.items.Item.TheVariants.{Present}
use Rattle.dk_base.proofs.Digits.{all_number, nothing}
use Rattle.dk_base.proofs.numbers.whole.Goals as goal

pub returns-in-Some-default-empty : goal.returns-in-Some-default-empty
returns-in-Some-default-empty c =
    let fits : SFits w64 c.in-Some-default-empty.number = search rules in
    ap (λ (z : ℤ). let item : Item ℤ = Present z in item) (to_z-of_z w64 c.in-Some-default-empty.number fits)
    ∙ all_number c.args.text.now c.in-Some-default-empty.field-0-1.now c.in-Some-default-empty.number c.in-Some-default-empty.ensures (nothing c.in-Some-default-empty.field-0-1.now c.in-Some-default-empty.len_below)
