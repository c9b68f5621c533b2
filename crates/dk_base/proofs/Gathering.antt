-- The items of a sequence, one by one.
use Rattle.std.proofs.Common.{◌++◌, ◌||◌, Bool, List, filter_map, if◌then◌else◌}
use Rattle.std.specs.List.{list_any}
use Rattle.dk_base.specs.Values.Sequences.{is_bad, is_missing, present}
use Rattle.dk_base.specs.declared.values.items.Item.{Item}
use Rattle.dk_base.specs.declared.values.items.Item.TheVariants.{Bad, Missing, Present}

-- the whole, where these values stand in front of the items that are left, with a missing item among them or not
abbrev pub gathered : {A : Type 0} → Bool → List A → List (Item A) → Item (List A)
gathered missing front items =
    if list_any is_bad items then Bad
    else if missing || list_any is_missing items then Missing
    else Present (front ++ filter_map present items)
