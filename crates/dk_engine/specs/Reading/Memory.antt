-- Which answers want memory.
use Rattle.std.specs.Prelude.{◌≡◌, ◌==◌, ℕ, Bool, List, [], ◌∷◌, map}
use Rattle.std.specs.Borrow.{Bor}
use Rattle.std.specs.List.{list_any}
use Rattle.dk_base.specs.declared.values.Value.{Value}
use Rattle.dk_base.specs.declared.values.Value.TheVariants as value
use Rattle.dk_template.specs.Numbers as number
use Rattle.dk_template.specs.declared.grammar.RowId.{RowId}

-- the rows whose states are texts, or that ask more of a sequence of strings than whether two are the same
abbrev pub wants_memory : RowId → Bool
wants_memory row =
    list_any (λ r. row.0 == r)
    (number.one_of_str ∷ number.elt_one_of_str ∷ number.elt_non_null_str ∷ number.member_str ∷ number.subset_str ∷ [])

-- the row that asks whether two sequences of strings are the same
abbrev pub same_texts_row : RowId
same_texts_row = record { 0 = number.eq_str_seq }

-- the strings of a sequence, laid out one beside another; any other value needs none
abbrev pub IsLaidOut : Value → List (Bor (List ℕ)) → Type 0
IsLaidOut (value.StrSeq ss) texts = map (λ (t : Bor (List ℕ)). t.now) texts ≡ ss
IsLaidOut _ texts = Unit {0}
