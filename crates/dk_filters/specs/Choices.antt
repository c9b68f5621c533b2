-- Choices of one item from each of several lists, behind items that are chosen already.
use Rattle.std.specs.Prelude.{◌++◌, Bool, List}
use Rattle.std.specs.List.{list_all, list_any}
use Rattle.dk_filters.specs.Facts.{one_of_each}

-- some choice, and each one, passes a test
abbrev pub some_from : {A : Type 0} → (List A → Bool) → List A → List (List A) → Bool
some_from test front lists = list_any (λ more. test (front ++ more)) (one_of_each lists)

abbrev pub all_from : {A : Type 0} → (List A → Bool) → List A → List (List A) → Bool
all_from test front lists = list_all (λ more. test (front ++ more)) (one_of_each lists)
