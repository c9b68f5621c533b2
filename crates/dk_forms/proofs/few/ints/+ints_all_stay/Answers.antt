use Rattle.std.proofs.Common.{rules, ◌≡◌, ◌∷◌, ℤ, List, SFits, w64, ap, sym, ◌∙◌, get_or, pos}
use Rattle.std.proofs.lemmas.Int.{to_z-of_z}
use Rattle.dk_arith.proofs.Registers.{kept64}
use Rattle.dk_forms.proofs.IntsLaws.{ints_laws, ints_summary}
use Rattle.dk_forms.proofs.ListStays.{first_moves_of, more_stay_of, others, split}
use Rattle.dk_forms.proofs.few.ints.+ints_all_stay.Goals as goal

pub returns-then-ints_stays : goal.returns-then-ints_stays
returns-then-ints_stays t c =
    let xs = c.args.values.now in
    let x = get_or xs 0 (pos 0) in
    let fits : SFits w64 x = search rules in
    let whole : xs ≡ kept64 x ∷ others xs = split (pos 0) xs c.in-len1-up.len_at_least ∙ ap (λ v. v ∷ others xs) (sym (to_z-of_z w64 x fits)) in
    more_stay_of ints_laws ints_summary c.args.state.now c.requires (kept64 x) (others xs) whole c.ints_stays.ensures c.if-ints_stays.true c.ints_all_stay.ensures

pub returns-else-ints_stays : goal.returns-else-ints_stays
returns-else-ints_stays t c =
    let xs = c.args.values.now in
    let x = get_or xs 0 (pos 0) in
    let fits : SFits w64 x = search rules in
    let whole : xs ≡ kept64 x ∷ others xs = split (pos 0) xs c.in-len1-up.len_at_least ∙ ap (λ v. v ∷ others xs) (sym (to_z-of_z w64 x fits)) in
    first_moves_of ints_laws ints_summary c.args.state.now c.requires (kept64 x) (others xs) whole c.ints_stays.ensures c.if-ints_stays.false
