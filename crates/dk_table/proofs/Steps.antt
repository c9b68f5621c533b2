-- Steps of loops.
use Rattle.std.proofs.Common.{◌≡◌, ◌<◌, ◌+◌, ◌∙◌, ◌∷◌, ◌++◌, [], ℕ, zero, suc, List, length, replicate, take, refl, sym, ap, append_assoc, arith}
use Rattle.std.proofs.lemmas.List.{replicate-append-replicate, take_more}
use Rattle.std.proofs.lemmas.List.FromFn.{map-range_with_len_more}
use Rattle.std.proofs.lemmas.Option.{unwrap_or-slice_get}
use Rattle.dk_base.specs.Values.{values_of}
use Rattle.dk_base.specs.declared.values.Value.{Value}
use Rattle.dk_base.specs.declared.values.Value.TheVariants as value
use Rattle.dk_base.specs.declared.values.View.TheVariants as view
use Rattle.dk_table.specs.Tables.{made_name, made_names}
use Rattle.dk_table.specs.Tables.PlacedRows.{Placed, cell_at}

-- one cell more
pub cells_more : (row : Placed) (i : ℕ) (cells : List (List ℕ)) → i < length row.cells → cells ≡ take i row.cells → cells ++ cell_at i row ∷ [] ≡ take (i + 1) row.cells
cells_more row i cells lt is =
    ap (λ (l : List (List ℕ)). l ++ cell_at i row ∷ []) is ∙ ap (λ (c : List ℕ). take i row.cells ++ c ∷ []) (unwrap_or-slice_get row.cells i []) ∙ sym (take_more row.cells i [] lt)

-- one made name more
pub names_more : (i : ℕ) (names : List (List ℕ)) → names ≡ made_names i → names ++ made_name i ∷ [] ≡ made_names (i + 1)
names_more i names is = ap (λ (l : List (List ℕ)). l ++ made_name i ∷ []) is ∙ sym (map-range_with_len_more made_name 0 i i (omega arith))

-- one zero more
pub zeros_more : (start text : List ℕ) (n : ℕ) → text ≡ start ++ replicate n 48 → text ++ 48 ∷ [] ≡ start ++ replicate (n + 1) 48
zeros_more start text n is =
    ap (λ (l : List ℕ). l ++ 48 ∷ []) is ∙ append_assoc start (replicate n 48) (48 ∷ []) ∙ ap (λ (l : List ℕ). start ++ l) (replicate-append-replicate n 1 48)

-- views that show missing values
pub shown_missing : (n : ℕ) → values_of (replicate n view.Missing) ≡ replicate n value.Missing
shown_missing zero = refl
shown_missing (suc n) = ap (λ (l : List Value). value.Missing ∷ l) (shown_missing n)
