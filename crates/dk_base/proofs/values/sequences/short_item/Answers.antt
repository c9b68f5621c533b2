use Rattle.std.proofs.Common.{◌≡◌, ◌-◌, ℕ, ℤ, List, get_or, take, drop, length, w64, SFits, sym, subst, arith, rules}
use Rattle.std.proofs.lemmas.Int.{to_z-of_z}
use Rattle.dk_base.specs.Values.Items.{int_item}
use Rattle.dk_base.specs.Values.Sequences.{IsFrontItem}
use Rattle.dk_base.proofs.Digits.{item_in_front, item_to_end, nothing, one_front}
use Rattle.dk_base.proofs.values.sequences.short_item.Goals as goal

pub returns-in-empty : goal.returns-in-empty
returns-in-empty c =
    let fits : SFits w64 c.in-Some.number = search rules in
    subst (λ (z : ℤ). IsFrontItem int_item c.args.text.now z c.in-Some.rest.now) (sym (to_z-of_z w64 c.in-Some.number fits))
    (item_to_end c.args.text.now c.in-Some.rest.now c.in-Some.number c.in-Some.ensures (nothing c.in-Some.rest.now c.in-empty.len_below))

pub returns-in-32 : goal.returns-in-32
returns-in-32 c =
    let fits : SFits w64 c.in-Some.number = search rules in
    let blank : get_or c.in-Some.rest.now 0 0 ≡ 32 = search rules in
    let left : List ℕ = take (length c.in-Some.rest.now - 1) (drop 1 c.in-Some.rest.now) in
    subst (λ (z : ℤ). IsFrontItem int_item c.args.text.now z left) (sym (to_z-of_z w64 c.in-Some.number fits))
    (item_in_front c.args.text.now c.in-Some.rest.now left c.in-Some.number (search rules) (one_front c.in-Some.rest.now 32 (omega (arith, c.in-32.len_at_least)) blank))
