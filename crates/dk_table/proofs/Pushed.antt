-- Values of cells behind a text.
use Rattle.std.proofs.Common.{◌≡◌, ◌≤◌, ◌+◌, ◌-◌, ◌∙◌, ◌∷◌, ◌++◌, [], ℕ, ℤ, Bool, true, false, List, Option, Some, None, append_assoc, arith, codes, drop, length, length-drop, refl, sym, take, ap, subst, if◌then◌else◌}
use Rattle.std.proofs.lemmas.List.{take_all}
use Rattle.std.specs.Prelude.{is_some, option_and_then, option_map}
use Rattle.dk_base.specs.Numbers.{integer_of}
use Rattle.dk_base.specs.declared.values.Value.{Value}
use Rattle.dk_base.specs.declared.values.Value.TheVariants as value
use Rattle.dk_base.specs.Values.Spelling.{spelling}
use Rattle.dk_decl.specs.Types.{is_missing}
use Rattle.dk_lines.specs.Passing.{joined}
use Rattle.dk_table.specs.Columns.Cells.{decimal_of, dot_of, is_shortest, whole}
use Rattle.dk_table.specs.Columns.{cell_value, option_lines, value_lines, written_value}
use Rattle.dk_table.specs.Writing.Forms.{cell_lines, tail_of}
use Rattle.dk_table.specs.Writing.Pushing.{Pushes, value_with}
use Rattle.dk_table.specs.declared.columns.ColumnKind.TheVariants as kind
use Rattle.dk_table.specs.declared.writing.tails.Tail.{Tail}
use Rattle.dk_table.specs.declared.writing.Heading.{Heading}
use Rattle.dk_table.proofs.Few.{decimal_few}
use Rattle.dk_table.proofs.Spelled.{as_printed, shortest_is}

-- what is left behind a place, as a slice without an end gives it
pub to_end : (xs : List ℕ) (k : ℕ) → take (length xs - k) (drop k xs) ≡ drop k xs
to_end xs k = take_all (length xs - k) (drop k xs) (omega (arith, length-drop k xs))

-- ---- any value
none_pushed : (v : Option Value) (tail : Tail) (text : List ℕ) → v ≡ None → Pushes v tail text text false
none_pushed v tail text is = subst (λ (o : Option Value). Pushes o tail text text false) (sym is) (refl, refl)

some_pushed : (v : Option Value) (x : Value) (tail : Tail) (old new : List ℕ) → v ≡ Some x → new ≡ old ++ value_with tail x → Pushes v tail old new true
some_pushed v x tail old new is added = subst (λ (o : Option Value). Pushes o tail old new true) (sym is) (refl, added)

-- ---- whole numbers
abbrev int : Option ℤ → Option Value
int o = option_map (λ z. value.Int z) o

-- a cell that writes a whole number is how it is printed
pub whole_pushed : (cell : List ℕ) (tail : Tail) (old new : List ℕ) → is_some (whole cell) ≡ true → new ≡ old ++ (cell ++ tail.told)
    → Pushes (written_value kind.Whole cell) tail old new true
whole_pushed cell tail old new h added = go (whole cell) refl h
  where
    go : (o : Option ℤ) → whole cell ≡ o → is_some o ≡ true → Pushes (written_value kind.Whole cell) tail old new true
    go None is h = absurd (cc h)
    go (Some z) is h =
        some_pushed (written_value kind.Whole cell) (value.Int z) tail old new (ap int is)
        (added ∙ ap (λ (l : List ℕ). old ++ (l ++ tail.told)) (sym (as_printed cell z is)))

-- ---- decimals
pub digits_with : (old digits : List ℕ) (z : ℤ) (tail : Tail) → integer_of digits ≡ Some z → is_shortest digits ≡ true
    → old ++ (digits ++ tail.told) ≡ old ++ value_with tail (value.Int z)
digits_with old digits z tail h short = ap (λ (l : List ℕ). old ++ (l ++ tail.told)) (sym (shortest_is digits z h short))

decimal_unpushed : (places : ℕ) (cell : List ℕ) (tail : Tail) (text : List ℕ) → decimal_of places cell ≡ None
    → Pushes (written_value (kind.Decimal places) cell) tail text text false
decimal_unpushed places cell tail text is = none_pushed (written_value (kind.Decimal places) cell) tail text (ap int is)

decimal_pushed : (places : ℕ) (cell : List ℕ) (z : ℤ) (tail : Tail) (old new : List ℕ) → decimal_of places cell ≡ Some z
    → new ≡ old ++ value_with tail (value.Int z) → Pushes (written_value (kind.Decimal places) cell) tail old new true
decimal_pushed places cell z tail old new is added = some_pushed (written_value (kind.Decimal places) cell) (value.Int z) tail old new (ap int is) added

-- where no dot is found
pub dot_unpushed : (places : ℕ) (cell : List ℕ) (tail : Tail) (text : List ℕ) → dot_of places cell ≡ None
    → Pushes (written_value (kind.Decimal places) cell) tail text text false
unfolding decimal_of
dot_unpushed places cell tail text none =
    decimal_unpushed places cell tail text (ap (λ (o : Option ℕ). option_and_then (λ dot. integer_of (take dot cell ++ drop (dot + 1) cell)) o) none)

-- few digits in front of a decimal's dot and behind it
pub joined_pushed : (places : ℕ) (cell front back : List ℕ) (dot : ℕ) (tail : Tail) (old new : List ℕ) → dot_of places cell ≡ Some dot → length cell ≤ 18
    → front ≡ take dot cell → back ≡ drop (dot + 1) cell → is_shortest (front ++ back) ≡ true → new ≡ old ++ ((front ++ back) ++ tail.told)
    → Pushes (written_value (kind.Decimal places) cell) tail old new true
unfolding decimal_of
joined_pushed places cell front back dot tail old new at few in_front behind short added = go (decimal_of places cell) refl (sym (decimal_few places cell few) ∙ ap is_some at)
  where
    digits : integer_of (front ++ back) ≡ decimal_of places cell
    digits =
        ap (λ (l : List ℕ). integer_of (l ++ back)) in_front ∙ ap (λ (l : List ℕ). integer_of (take dot cell ++ l)) behind
        ∙ sym (ap (λ (o : Option ℕ). option_and_then (λ d. integer_of (take d cell ++ drop (d + 1) cell)) o) at)

    go : (o : Option ℤ) → decimal_of places cell ≡ o → is_some o ≡ true → Pushes (written_value (kind.Decimal places) cell) tail old new true
    go None is h = absurd (cc h)
    go (Some z) is h =
        decimal_pushed places cell z tail old new is (added ∙ digits_with old (front ++ back) z tail (digits ∙ is) short)

-- ---- a value's lines, and those behind them
pub tail_lines : (next : List ℕ) (v : Value) → value_with (tail_of next) v ≡ value_lines v ++ next
tail_lines next v = by (is_missing v)
  where
    by : (b : Bool) → (if b then value_lines value.Missing ++ next else (if b then codes "nonsensical" else spelling v) ++ ((10 ∷ joined (codes "1" ∷ [])) ++ next))
        ≡ joined ((if b then codes "nonsensical" else spelling v) ∷ (if b then codes "2" else codes "1") ∷ []) ++ next
    by true = refl
    by false =
        sym (append_assoc (spelling v ++ 10 ∷ []) (joined (codes "1" ∷ [])) next ∙ append_assoc (spelling v) (10 ∷ []) (joined (codes "1" ∷ []) ++ next))

-- ---- what a push says
pub pushed_fits : (o : Option Value) (tail : Tail) (old new : List ℕ) (fits : Bool) → Pushes o tail old new fits → is_some o ≡ fits
pushed_fits None tail old new fits (is, same) = sym is
pushed_fits (Some v) tail old new fits (is, added) = sym is

pub pushed_none : (o : Option Value) (tail : Tail) (old new : List ℕ) → Pushes o tail old new false → new ≡ old
pushed_none None tail old new (is, same) = same
pushed_none (Some v) tail old new (is, added) = absurd (cc is)

-- behind the line of a column's name
pub pushed_cell : (h : Heading) (cell follows start front old new : List ℕ) (tail : Tail) → Pushes (cell_value h.kind cell) tail old new true → tail ≡ tail_of follows
    → old ≡ start ++ (front ++ h.line) → new ≡ start ++ ((front ++ cell_lines (h, cell)) ++ follows)
pushed_cell h cell follows start front old new tail pushed is was = go (cell_value h.kind cell) refl pushed
  where
    go : (o : Option Value) → cell_value h.kind cell ≡ o → Pushes o tail old new true → new ≡ start ++ ((front ++ cell_lines (h, cell)) ++ follows)
    go None same (fits, _) = absurd (cc fits)
    go (Some v) same (_, added) =
        let lines : List ℕ = value_lines v in
        added ∙ ap (λ (t : Tail). old ++ value_with t v) is ∙ ap (λ (l : List ℕ). old ++ l) (tail_lines follows v)
        ∙ ap (λ (l : List ℕ). l ++ (lines ++ follows)) was ∙ append_assoc start (front ++ h.line) (lines ++ follows)
        ∙ ap (λ (l : List ℕ). start ++ l)
        (append_assoc front h.line (lines ++ follows) ∙ ap (λ (l : List ℕ). front ++ l) (sym (append_assoc h.line lines follows)) ∙ sym (append_assoc front (h.line ++ lines) follows))
        ∙ ap (λ (x : Option Value). start ++ ((front ++ (h.line ++ option_lines x)) ++ follows)) (sym same)
