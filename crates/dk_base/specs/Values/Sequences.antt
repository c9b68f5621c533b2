-- What a text is as a sequence.
use Rattle.std.specs.Prelude.{◌≡◌, ◌<◌, ◌||◌, ◌&&◌, ◌==◌, ◌-◌, ℕ, Bool, true, false, List, [], ◌∷◌, codes, length, map, nat_lt, slice_index, take, filter_map, Option, Some, None, if◌then◌else◌}
use Rattle.std.specs.List.{list_any}
use Rattle.std.specs.Str.{bytes_eq}
use Rattle.dk_base.specs.Pieces.{pieces}
use Rattle.dk_base.specs.Values.Items.{is_missing_word}
use Rattle.dk_base.specs.declared.splitting.Cut.TheVariants.{AtBlanksOutsideQuotes}
use Rattle.dk_base.specs.declared.values.items.Item.{Item}
use Rattle.dk_base.specs.declared.values.items.Item.TheVariants.{Bad, Missing, Present}

abbrev pub is_bad : {A : Type 0} → Item A → Bool
is_bad Bad = true
is_bad Missing = false
is_bad (Present x) = false

abbrev pub is_missing : {A : Type 0} → Item A → Bool
is_missing Bad = false
is_missing Missing = true
is_missing (Present x) = false

abbrev pub present : {A : Type 0} → Item A → Option A
present Bad = None
present Missing = None
present (Present x) = Some x

-- a bad item makes the whole bad, and else a missing one makes it missing
abbrev pub all_of : {A : Type 0} → List (Item A) → Item (List A)
all_of items =
    if list_any is_bad items then Bad
    else if list_any is_missing items then Missing
    else Present (filter_map present items)

-- what stands between the brackets (91 and 93)
abbrev pub inside : List ℕ → Option (List ℕ)
inside [] = None
inside (b ∷ bs) =
    if b == 91 && (nat_lt 0 (length bs) && slice_index bs (length bs - 1) == 93) then Some (take (length bs - 1) bs)
    else None

-- the items between brackets, separated by blanks
abbrev pub bracketed : {A : Type 0} → (List ℕ → Item A) → Option (List ℕ) → Item (List A)
bracketed item None = Bad
bracketed item (Some text) = all_of (map item (pieces AtBlanksOutsideQuotes text))

-- a sequence whose items are what `item` says; `null` is missing
unfoldable pub sequence : {A : Type 0} → (List ℕ → Item A) → List ℕ → Item (List A)
sequence item text =
    if is_missing_word text || bytes_eq text (codes "null") then Missing
    else bracketed item (inside text)

-- the first piece of the text writes this item, and what is left has the others
abbrev pub IsFrontItem : {A : Type 0} → (List ℕ → Item A) → List ℕ → A → List ℕ → Type 0
IsFrontItem item text x left =
    (map item (pieces AtBlanksOutsideQuotes text) ≡ Present x ∷ map item (pieces AtBlanksOutsideQuotes left)) × (length left < length text)
