-- The state of a row over tuples with two neighbouring roles exchanged, where the row may exchange them.
use Rattle.std.specs.Prelude.{◌≡◌, ◌<◌, ◌-◌, ℕ, zero, suc, ℤ, nat_eq, bit_and, bit_or, bit_xor, Bool, true, false, if◌then◌else◌, All, List, [], ◌∷◌, ◌++◌, flat_map, length, map, refl, Option, slice_index_or}
use Rattle.std.specs.Bool.{Decides}
use Rattle.std.specs.Cmp.{booleans_Decides}
use Rattle.std.specs.List.{list_all}
use Rattle.std.specs.Ordering.{int_eq}
use Rattle.std.specs.Str.{bytes_eq}
use Rattle.std.proofs.Common.{sym, ap, ◌∙◌, arith}
use Rattle.std.proofs.Math.Bool.{beq}
use Rattle.std.proofs.lemmas.Bool.{false≢true}
use Rattle.std.proofs.lemmas.Bool.Decides.{Decides-eqb, Decides-int_eq}
use Rattle.std.proofs.lemmas.List.Elements.{All-head, All-tail}
use Rattle.std.proofs.lemmas.List.Folds.{flat_map-map}
use Rattle.std.proofs.lemmas.Simd.{map-map}
use Rattle.std.proofs.lemmas.Slice.Eq.{bytes_eq-Decides}
use Rattle.dk_base.specs.Values.Tuples.{bool_of, bools_of, hash_of, hashes_of, int_of, ints_of, text_of, texts_of, value_at}
use Rattle.dk_base.specs.declared.values.Value.{Value}
use Rattle.dk_forms.specs.Known.{Known, broken, fact, nothing}
use Rattle.dk_forms.specs.Offset.{differences, offset_known_of, offset_of, offset_state}
use Rattle.dk_forms.specs.Plain.{plain_of}
use Rattle.dk_forms.specs.Plane.{plane_of}
use Rattle.dk_forms.specs.Plane.Line.{Line, line_known_of, line_of, line_state, spot, straight}
use Rattle.dk_forms.specs.declared.states.State.TheVariants.{Holds, Broken}
use Rattle.dk_instances.proofs.Alike.{and_alike, differ_alike, equal_alike, gcd_alike, maximum_alike, minimum_alike, or_alike, pairwise_tells, product_alike, reverse_alike, sum_alike, xor_alike}
use Rattle.dk_instances.specs.Laws.{may_exchange}
use Rattle.dk_meanings.specs.Meaning.{Meaning, relation, line, plane, offset, state_by}
use Rattle.dk_meanings.specs.Meanings.{meaning_of, meanings, of_three, of_two}
use Rattle.dk_meanings.specs.Relations.{are_pairwise, differ, is_bitwise, is_gcd, is_maximum, is_minimum, is_product, is_reverse, is_sum}
use Rattle.dk_template.proofs.Exchanges.{lines_exchange, offsets_exchange, planes_exchange}
use Rattle.dk_template.proofs.Table.{length-rows}
use Rattle.dk_template.specs.Exchange.{exchange, exchanged_state, swap, swapped}
use Rattle.dk_template.specs.Templates.{IsRow, arity_of, roles_of, rows, template_of}
use Rattle.dk_template.specs.declared.exchange.Exchange.{Exchange}
use Rattle.dk_template.specs.declared.exchange.Exchange.TheVariants.{First, Last}
use Rattle.dk_template.specs.declared.grammar.RowId.{RowId}
use Rattle.dk_template.specs.declared.templates.Symmetry.{Symmetry}
use Rattle.dk_template.specs.declared.templates.Symmetry.TheVariants as symmetry
use Rattle.dk_template.specs.declared.templates.Template.{Template}

-- ---- tuples of an arity
abbrev pub HasArity : ℕ → List Value → Type 0
HasArity n t = length t ≡ n

module _ {X : Type 0} (P : List X → Type 0) where
  two_values : ((x y : X) → P (x ∷ y ∷ [])) → (t : List X) → length t ≡ 2 → P t
  two_values each [] l = absurd (omega (arith, l))
  two_values each (x ∷ []) l = absurd (omega (arith, l))
  two_values each (x ∷ y ∷ []) l = each x y
  two_values each (x ∷ y ∷ z ∷ rest) l = absurd (omega (arith, l))

  three_values : ((x y z : X) → P (x ∷ y ∷ z ∷ [])) → (t : List X) → length t ≡ 3 → P t
  three_values each [] l = absurd (omega (arith, l))
  three_values each (x ∷ []) l = absurd (omega (arith, l))
  three_values each (x ∷ y ∷ []) l = absurd (omega (arith, l))
  three_values each (x ∷ y ∷ z ∷ []) l = each x y z
  three_values each (x ∷ y ∷ z ∷ w ∷ rest) l = absurd (omega (arith, l))

-- what tuples give when they are moved
module _ {B : Type 0} (n : ℕ) (move : List Value → List Value) where
  maps_move : (f g : List Value → B) → ((t : List Value) → length t ≡ n → f (move t) ≡ g t) → (ts : List (List Value)) → All (HasArity n) ts → map f (map move ts) ≡ map g ts
  maps_move f g each [] all = refl
  maps_move f g each (t ∷ ts) all =
      ap (λ x. x ∷ map f (map move ts)) (each t (All-head (HasArity n) t ts all)) ∙ ap (λ xs. g t ∷ xs) (maps_move f g each ts (All-tail (HasArity n) t ts all))

  values_move : (f g : List Value → List B) → ((t : List Value) → length t ≡ n → f (move t) ≡ g t) → (ts : List (List Value)) → All (HasArity n) ts → flat_map f (map move ts) ≡ flat_map g ts
  values_move f g each [] all = refl
  values_move f g each (t ∷ ts) all =
      ap (λ xs. xs ++ flat_map f (map move ts)) (each t (All-head (HasArity n) t ts all)) ∙ ap (λ xs. g t ++ xs) (values_move f g each ts (All-tail (HasArity n) t ts all))

-- ---- what is said of tuples
-- the state of tuples with two neighbours exchanged is the exchanged state
abbrev pub Exchanges : Symmetry → ℕ → Meaning → Type 0
Exchanges s n m = (e : Exchange) → may_exchange s e ≡ true → (tuples : List (List Value)) → All (HasArity n) tuples → state_by m (map (exchange e) tuples) ≡ exchanged_state e (state_by m tuples)

fixed : (n : ℕ) (m : Meaning) → Exchanges symmetry.Fixed n m
fixed n m e may tuples all = absurd (false≢true may)

-- ---- relations
plain_still : (e : Exchange) (bs : List Bool) → exchanged_state e (plain_of bs) ≡ plain_of bs
plain_still First [] = refl
plain_still First (b ∷ bs) = elim (list_all (λ h. h) (b ∷ bs)) as (λ c. exchanged_state First (if c then Holds else Broken) ≡ (if c then Holds else Broken)) [ true ↦ refl | false ↦ refl ]
plain_still Last [] = refl
plain_still Last (b ∷ bs) = elim (list_all (λ h. h) (b ∷ bs)) as (λ c. exchanged_state Last (if c then Holds else Broken) ≡ (if c then Holds else Broken)) [ true ↦ refl | false ↦ refl ]

relation_exchanges : (s : Symmetry) (n : ℕ) (r : List Value → Bool) → ((e : Exchange) → may_exchange s e ≡ true → (t : List Value) → length t ≡ n → r (exchange e t) ≡ r t) → Exchanges s n (relation r)
relation_exchanges s n r each e may tuples all = ap plain_of (maps_move n (exchange e) r r (each e may) tuples all) ∙ sym (plain_still e (map r tuples))

-- of two roles
pairs_exchange : {A : Type 0} (get : Value → A) (R : A → A → Bool) → ((x y : A) → R x y ≡ R y x) → Exchanges symmetry.All 2 (relation (of_two get get R))
pairs_exchange {A} get R alike = relation_exchanges symmetry.All 2 (of_two get get R) each
  where
    each : (e : Exchange) → may_exchange symmetry.All e ≡ true → (t : List Value) → length t ≡ 2 → of_two get get R (exchange e t) ≡ of_two get get R t
    each First may = two_values (λ t. of_two get get R (exchange First t) ≡ of_two get get R t) (λ x y. alike (get y) (get x))
    each Last may = two_values (λ t. of_two get get R (exchange Last t) ≡ of_two get get R t) (λ x y. refl)

sequences_exchange : {A : Type 0} (get : Value → List A) (same : A → A → Bool) → ((x y : A) → Decides (same x y) (x ≡ y)) → Exchanges symmetry.All 2 (relation (of_two get get (are_pairwise same)))
sequences_exchange get same tells = pairs_exchange get (are_pairwise same) (equal_alike (are_pairwise same) (pairwise_tells same tells))

-- of a result and two arguments
arguments_exchange : (R : ℤ → ℤ → ℤ → Bool) → ((z x y : ℤ) → R z x y ≡ R z y x) → Exchanges symmetry.Arguments 3 (relation (of_three R))
arguments_exchange R alike = relation_exchanges symmetry.Arguments 3 (of_three R) each
  where
    each : (e : Exchange) → may_exchange symmetry.Arguments e ≡ true → (t : List Value) → length t ≡ 3 → of_three R (exchange e t) ≡ of_three R t
    each First may t l = absurd (false≢true may)
    each Last may t l = three_values (λ u. of_three R (exchange Last u) ≡ of_three R u) (λ z x y. alike (int_of z) (int_of y) (int_of x)) t l

-- ---- lines, planes and offsets
abbrev point_of : List Value → ℤ × ℤ
point_of = of_two int_of int_of (λ x y. (x, y))

line_still : (k : Known Line) → exchanged_state Last (line_state k) ≡ line_state k
line_still nothing = refl
line_still broken = refl
line_still (fact (spot p)) = refl
line_still (fact (straight l)) = refl

line_exchanges : Exchanges symmetry.All 2 (line point_of)
line_exchanges First may tuples all =
    ap line_of (maps_move 2 (exchange First) point_of (λ t. swap (point_of t)) (two_values (λ t. point_of (exchange First t) ≡ swap (point_of t)) (λ x y. refl)) tuples all)
    ∙ (ap line_of (sym (map-map swap point_of tuples)) ∙ lines_exchange (map point_of tuples))
line_exchanges Last may tuples all =
    ap line_of (maps_move 2 (exchange Last) point_of point_of (two_values (λ t. point_of (exchange Last t) ≡ point_of t) (λ x y. refl)) tuples all)
    ∙ sym (line_still (line_known_of (map point_of tuples)))

abbrev space_of : List Value → ℤ × ℤ × ℤ
space_of = of_three (λ x y z. (x, y, z))

space_moves : (e : Exchange) (t : List Value) → length t ≡ 3 → space_of (exchange e t) ≡ swapped e (space_of t)
space_moves First = three_values (λ t. space_of (exchange First t) ≡ swapped First (space_of t)) (λ x y z. refl)
space_moves Last = three_values (λ t. space_of (exchange Last t) ≡ swapped Last (space_of t)) (λ x y z. refl)

plane_exchanges : Exchanges symmetry.All 3 (plane space_of)
plane_exchanges e may tuples all =
    ap plane_of (maps_move 3 (exchange e) space_of (λ t. swapped e (space_of t)) (space_moves e) tuples all)
    ∙ (ap plane_of (sym (map-map (swapped e) space_of tuples)) ∙ planes_exchange e (map space_of tuples))

abbrev differences_of : List Value → List (Option ℤ)
differences_of = of_two ints_of ints_of differences

abbrev pair_of : List Value → List ℤ × List ℤ
pair_of t = (ints_of (value_at t 0), ints_of (value_at t 1))

abbrev forth : List ℤ × List ℤ → List (Option ℤ)
forth p = differences p.0 p.1

abbrev turned_round : List ℤ × List ℤ → List (Option ℤ)
turned_round p = differences p.1 p.0

offset_still : (k : Known ℤ) → exchanged_state Last (offset_state k) ≡ offset_state k
offset_still nothing = refl
offset_still broken = refl
offset_still (fact k) = refl

offset_exchanges : Exchanges symmetry.All 2 (offset differences_of)
offset_exchanges First may tuples all =
    let pairs = map pair_of tuples in
    let one : flat_map differences_of (map (exchange First) tuples) ≡ flat_map (λ t. turned_round (pair_of t)) tuples =
    values_move 2 (exchange First) differences_of (λ t. turned_round (pair_of t)) (two_values (λ t. differences_of (exchange First t) ≡ turned_round (pair_of t)) (λ x y. refl)) tuples all in
    let two : flat_map turned_round pairs ≡ flat_map (λ t. turned_round (pair_of t)) tuples = flat_map-map turned_round pair_of tuples in
    let three : flat_map forth pairs ≡ flat_map differences_of tuples = flat_map-map forth pair_of tuples in
    ap offset_of (one ∙ sym two) ∙ (offsets_exchange pairs ∙ ap (λ ds. exchanged_state First (offset_of ds)) three)
offset_exchanges Last may tuples all =
    ap offset_of (values_move 2 (exchange Last) differences_of differences_of (two_values (λ t. differences_of (exchange Last t) ≡ differences_of t) (λ x y. refl)) tuples all)
    ∙ sym (offset_still (offset_known_of (flat_map differences_of tuples)))

-- ---- the table
-- where roles may be exchanged the state exchanges with them, and the rest too
abbrev And : Symmetry → ℕ → Meaning → Type 0 → Type 0
And symmetry.Fixed n m rest = rest
And symmetry.All n m rest = Exchanges symmetry.All n m × rest
And symmetry.Arguments n m rest = Exchanges symmetry.Arguments n m × rest

abbrev ExchangeAll : List Template → List Meaning → Type 0
ExchangeAll [] [] = Unit {0}
ExchangeAll (t ∷ ts) (m ∷ ms) = And t.symmetry (length (roles_of t.takes)) m (ExchangeAll ts ms)
ExchangeAll _ _ = ⊥

first_of : (s : Symmetry) (n : ℕ) (m : Meaning) (rest : Type 0) → And s n m rest → Exchanges s n m
first_of symmetry.Fixed n m rest h = fixed n m
first_of symmetry.All n m rest h = h.0
first_of symmetry.Arguments n m rest h = h.0

rest_of : (s : Symmetry) (n : ℕ) (m : Meaning) (rest : Type 0) → And s n m rest → rest
rest_of symmetry.Fixed n m rest h = h
rest_of symmetry.All n m rest h = h.1
rest_of symmetry.Arguments n m rest h = h.1

-- what is so of one row, and of the rest
infixr 5 ◌&◌
abbrev ◌&◌ : {A B : Type 0} → A → B → A × B
a & b = (a, b)

-- the rows whose roles may be exchanged, the first one first
rows_exchange : ExchangeAll rows meanings
unfolding rows meanings
rows_exchange =
    pairs_exchange int_of int_eq (equal_alike int_eq Decides-int_eq)  -- 11 EqInt
    & pairs_exchange int_of (differ int_eq) (differ_alike int_eq Decides-int_eq)  -- 12 NeInt
    & line_exchanges  -- 15 Linear
    & pairs_exchange bool_of beq (equal_alike beq booleans_Decides)  -- 18 EqBool
    & pairs_exchange bool_of (differ beq) (differ_alike beq booleans_Decides)  -- 19 NeBool
    & pairs_exchange hash_of nat_eq (equal_alike nat_eq Decides-eqb)  -- 20 EqHash
    & pairs_exchange hash_of (differ nat_eq) (differ_alike nat_eq Decides-eqb)  -- 21 NeHash
    & pairs_exchange text_of bytes_eq (equal_alike bytes_eq bytes_eq-Decides)  -- 22 EqStr
    & pairs_exchange text_of (differ bytes_eq) (differ_alike bytes_eq bytes_eq-Decides)  -- 23 NeStr
    & arguments_exchange is_sum sum_alike  -- 24 Sum
    & arguments_exchange is_product product_alike  -- 26 Product
    & arguments_exchange is_minimum minimum_alike  -- 27 Minimum
    & arguments_exchange is_maximum maximum_alike  -- 28 Maximum
    & arguments_exchange (is_bitwise bit_and) and_alike  -- 31 And
    & arguments_exchange (is_bitwise bit_or) or_alike  -- 32 Or
    & arguments_exchange (is_bitwise bit_xor) xor_alike  -- 33 Xor
    & arguments_exchange is_gcd gcd_alike  -- 34 Gcd
    & sequences_exchange ints_of int_eq Decides-int_eq  -- 57 EqIntSeq
    & sequences_exchange bools_of beq booleans_Decides  -- 58 EqBoolSeq
    & sequences_exchange hashes_of nat_eq Decides-eqb  -- 59 EqHashSeq
    & sequences_exchange texts_of bytes_eq bytes_eq-Decides  -- 60 EqStrSeq
    & pairs_exchange ints_of (is_reverse int_eq) (reverse_alike int_eq Decides-int_eq)  -- 66 Reverse
    & plane_exchanges  -- 67 LinearTernary
    & offset_exchanges  -- 68 PairOffset
    & tt

exchange_at : (ts : List Template) (ms : List Meaning) → ExchangeAll ts ms → (i : ℕ) → i < length ts → (d : Template) (f : Meaning)
    → Exchanges (slice_index_or ts i d).symmetry (length (roles_of (slice_index_or ts i d).takes)) (slice_index_or ms i f)
exchange_at [] ms all i within d f = absurd (omega (arith, within))
exchange_at (t ∷ ts) [] all i within d f = absurd all
exchange_at (t ∷ ts) (m ∷ ms) all zero within d f = first_of t.symmetry (length (roles_of t.takes)) m (ExchangeAll ts ms) all
exchange_at (t ∷ ts) (m ∷ ms) all (suc i) within d f =
    exchange_at ts ms (rest_of t.symmetry (length (roles_of t.takes)) m (ExchangeAll ts ms) all) i (omega (arith, within)) d f

pub row_exchanges : (row : RowId) → IsRow row → Exchanges (template_of row).symmetry (arity_of row) (meaning_of row)
row_exchanges row is =
    let low = is.0 in
    let high = is.1 in
    let long = length-rows in
    exchange_at rows meanings rows_exchange (row.0 - 1) (omega (arith, low, high, long)) _ _
