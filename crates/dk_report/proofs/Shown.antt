-- What an engine shows, made once, gives each level.
use Rattle.std.specs.Prelude.{◌≡◌, ◌+◌, ◌||◌, ℕ, suc, Bool, true, false, List, [], ◌∷◌, filter, if◌then◌else◌, map, refl}
use Rattle.std.proofs.Common.{◌∙◌, ap, arith, inl, inr}
use Rattle.dk_base.specs.declared.kinds.VarId.{VarId}
use Rattle.dk_engine.specs.declared.kept.Kept.{Kept}
use Rattle.dk_forms.specs.Laws.{IsIn}
use Rattle.dk_instances.proofs.Listing.{row_of_grammar}
use Rattle.dk_instances.specs.Instances.{rows_of}
use Rattle.dk_template.specs.declared.grammar.Grammar.{Grammar}
use Rattle.dk_template.specs.declared.grammar.RowId.{RowId}
use Rattle.dk_report.proofs.Told.{row-at}
use Rattle.dk_report.specs.Viewing.{is_shown, left_of_shown, may_follow, shown_level, shown_row, shown_rows, told_level, told_row, told_rows}

-- maps by functions that agree
pub maps-agree : {X Y : Type 0} (f g : X → Y) (xs : List X) → ((x : X) → IsIn x xs → f x ≡ g x) → map f xs ≡ map g xs
maps-agree f g [] same = refl
maps-agree f g (x ∷ xs) same = ap (λ y. y ∷ map f xs) (same x (inl refl)) ∙ ap (λ ys. g x ∷ ys) (maps-agree f g xs (λ y i. same y (inr i)))

firsts-shown : (test : VarId × VarId → Bool) (q : VarId → Bool) (led : List (VarId × VarId))
    → map (λ (pair : VarId × Bool). pair.0) (filter (λ (pair : VarId × Bool). pair.1 || q pair.0) (map (λ (pair : VarId × VarId). (pair.0, test pair)) led))
    ≡ map (λ (pair : VarId × VarId). pair.0) (filter (λ (pair : VarId × VarId). test pair || q pair.0) led)
firsts-shown test q [] = refl
firsts-shown test q (pair ∷ led) = at (test pair || q pair.0) (firsts-shown test q led)
  where
    shown : List (VarId × Bool)
    shown = filter (λ (p : VarId × Bool). p.1 || q p.0) (map (λ (p : VarId × VarId). (p.0, test p)) led)

    told : List (VarId × VarId)
    told = filter (λ (p : VarId × VarId). test p || q p.0) led

    at : (b : Bool) → map (λ (p : VarId × Bool). p.0) shown ≡ map (λ (p : VarId × VarId). p.0) told
        → map (λ (p : VarId × Bool). p.0) (if b then (pair.0, test pair) ∷ shown else shown) ≡ map (λ (p : VarId × VarId). p.0) (if b then pair ∷ told else told)
    at true same = ap (λ (vs : List VarId). pair.0 ∷ vs) same
    at false same = same

module _ (g : Grammar) (kept : Kept) (led : List (VarId × VarId)) where
  row-is : (below : List (List VarId)) (row : RowId) → IsIn row (rows_of g) → left_of_shown (shown_rows g kept led) below row ≡ told_row kept led below row
  row-is below row i =
      ap (λ (ps : List (VarId × Bool)). map (λ (pair : VarId × Bool). pair.0) (filter (λ (pair : VarId × Bool). pair.1 || may_follow below row pair.0) ps))
      (row-at g (shown_row kept led) row (row_of_grammar g row i))
      ∙ firsts-shown (is_shown kept led row) (may_follow below row) led

  level-is : (below : List (List VarId)) → shown_level g (shown_rows g kept led) below ≡ told_level g kept led below
  level-is below =
      ap (λ (rows : List (List VarId)). [] ∷ rows)
      (maps-agree (left_of_shown (shown_rows g kept led) below) (told_row kept led below) (rows_of g) (λ row i. row-is below row i))

  -- a level more
  pub level-more : (shown : List (List (VarId × Bool))) (below rows : List (List VarId)) (n : ℕ) → shown ≡ shown_rows g kept led → below ≡ told_rows n g kept led → rows ≡ shown_level g shown below → rows ≡ told_rows (n + 1) g kept led
  unfolding told_rows
  level-more shown below rows n all same is =
      let next : suc n ≡ n + 1 = omega arith in
      is ∙ (ap (λ (s : List (List (VarId × Bool))). shown_level g s below) all
      ∙ (level-is below ∙ (ap (λ (b : List (List VarId)). told_level g kept led b) same ∙ ap (λ m. told_rows m g kept led) next)))
