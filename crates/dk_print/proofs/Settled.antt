-- When two lines that spell one text are one row's over the same names.
use Rattle.std.specs.Prelude.{◌≡◌, ◌==◌, ◌&&◌, ◌||◌, ◌<◌, ℕ, zero, suc, Bool, true, false, not, List, [], ◌∷◌, length, slice_index_or, refl}
use Rattle.std.specs.List.{list_any}
use Rattle.std.proofs.Common.{inl, inr, sym, ◌∙◌, ap, arith}
use Rattle.std.proofs.lemmas.Bool.{and_parts, eq-eqb, eqb-true, false≢true, not-true, or_cases}
use Rattle.dk_print.specs.Names.{is_plain_name}
use Rattle.dk_print.proofs.Apart.{AllLinked, Linked, all-linked, apart, apart-apart, end_apart, ends-differ, linked}
use Rattle.dk_print.proofs.TokenWords.{AllShared, LineSpells, Words, all-shared, is_uneven, pairs, uneven-differ}
use Rattle.dk_print.specs.Parts.{name_at}
use Rattle.dk_print.proofs.Tokens.{Token}

-- a row by its number, the kinds that it takes, by numbers, and one of its lines
pub record Entry : Type 0 where
  pub row : ℕ
  pub kinds : List ℕ
  pub line : Words

abbrev pub kind_at : List ℕ → ℕ → ℕ
kind_at kinds role = slice_index_or kinds role 0

-- the two variables are of different kinds
abbrev pub other_kinds : Entry → Entry → ℕ × ℕ → Bool
other_kinds e f p = not (kind_at e.kinds p.0 == kind_at f.kinds p.1)

-- one variable of one line is two variables of the other one
abbrev pub crosses : ℕ × ℕ → ℕ × ℕ → Bool
crosses p q = (p.0 == q.0 && not (p.1 == q.1)) || (p.1 == q.1 && not (p.0 == q.0))

abbrev pub crossed : List (ℕ × ℕ) → Bool
crossed ps = list_any (λ p. list_any (crosses p) ps) ps

-- both lines have the name of this role at one place; of each role below a number
abbrev pub is_told : List (ℕ × ℕ) → ℕ → Bool
is_told ps role = list_any (λ p. p.0 == role && p.1 == role) ps

abbrev pub are_told : List (ℕ × ℕ) → ℕ → Bool
are_told ps zero = true
are_told ps (suc n) = is_told ps n && are_told ps n

abbrev pub is_decided : Entry → Entry → List (ℕ × ℕ) → Bool
is_decided e f ps = list_any (other_kinds e f) ps || (crossed ps || (e.row == f.row && are_told ps (length e.kinds)))

abbrev pub is_settled_by : Entry → Entry → List (List Token × List Token) → Bool
is_settled_by e f ps = list_any (λ p. apart p.0 p.1) ps || is_decided e f (linked ps)

abbrev pub are_uneven : Words → Words → Bool
are_uneven l m = is_uneven l.0 l.1 m.0 m.1 || end_apart l.0 l.1 m.0 m.1

abbrev pub is_settled : Entry → Entry → Bool
is_settled e f = are_uneven e.line f.line || is_settled_by e f (pairs e.line.0 e.line.1 f.line.0 f.line.1)

module _ (names others : List (List ℕ)) where
  some-apart : (ps : List (List Token × List Token)) → list_any (λ p. apart p.0 p.1) ps ≡ true → AllShared names others ps → ⊥
  some-apart [] e all = false≢true e
  some-apart (p ∷ ps) e (s, all) = elim (or_cases (apart p.0 p.1) (list_any (λ p. apart p.0 p.1) ps) e) as (λ _. ⊥) [
    | inl h ↦ apart-apart names others p.0 p.1 h s
    | inr h ↦ some-apart ps h all
  ]

  -- a test that some linked pair passes
  pub record Passing (test : ℕ × ℕ → Bool) : Type 0 where
    pub pair : ℕ × ℕ
    pub is : Linked names others pair
    pub passes : test pair ≡ true

  passing : (test : ℕ × ℕ → Bool) (ps : List (ℕ × ℕ)) → list_any test ps ≡ true → AllLinked names others ps → Passing test
  passing test [] e all = absurd (false≢true e)
  passing test (p ∷ ps) e (l, all) = elim (or_cases (test p) (list_any test ps) e) as (λ _. Passing test) [
    | inl h ↦ record { pair = p; is = l; passes = h }
    | inr h ↦ passing test ps h all
  ]

  -- What is known of the names: those of one line differ, and variables of one name are of one kind.
  pub record Known (e f : Entry) : Type 0 where
    pub distinct : (i j : ℕ) → is_plain_name (name_at names i) ≡ true → name_at names i ≡ name_at names j → i ≡ j
    pub distinct_others : (i j : ℕ) → is_plain_name (name_at others i) ≡ true → name_at others i ≡ name_at others j → i ≡ j
    pub one_kind : (i j : ℕ) → is_plain_name (name_at names i) ≡ true → name_at names i ≡ name_at others j → kind_at e.kinds i ≡ kind_at f.kinds j

  -- one row, and the same names
  pub record Same (e f : Entry) : Type 0 where
    pub row : e.row ≡ f.row
    pub names_are : (i : ℕ) → i < length e.kinds → name_at names i ≡ name_at others i

  differs : (a b : ℕ) → not (a == b) ≡ true → a ≡ b → ⊥
  differs a b h e = false≢true (sym (not-true (a == b) h) ∙ eq-eqb a b e)

  module _ (e f : Entry) (known : Known e f) (ps : List (ℕ × ℕ)) (all : AllLinked names others ps) where
    of-kinds : list_any (other_kinds e f) ps ≡ true → ⊥
    of-kinds h =
        let p = passing (other_kinds e f) ps h all in
        differs (kind_at e.kinds p.pair.0) (kind_at f.kinds p.pair.1) p.passes (known.one_kind p.pair.0 p.pair.1 p.is.plain p.is.same)

    of-crossing : crossed ps ≡ true → ⊥
    of-crossing h =
        let p = passing (λ p. list_any (crosses p) ps) ps h all in
        let q = passing (crosses p.pair) ps p.passes all in
        elim (or_cases (p.pair.0 == q.pair.0 && not (p.pair.1 == q.pair.1)) (p.pair.1 == q.pair.1 && not (p.pair.0 == q.pair.0)) q.passes) as (λ _. ⊥) [
          | inl k ↦ let both = and_parts (p.pair.0 == q.pair.0) (not (p.pair.1 == q.pair.1)) k in
              differs p.pair.1 q.pair.1 both.1 (known.distinct_others p.pair.1 q.pair.1 (sym (ap is_plain_name p.is.same) ∙ p.is.plain)
              (sym p.is.same ∙ ap (name_at names) (eqb-true p.pair.0 q.pair.0 both.0) ∙ q.is.same))
          | inr k ↦ let both = and_parts (p.pair.1 == q.pair.1) (not (p.pair.0 == q.pair.0)) k in
              differs p.pair.0 q.pair.0 both.1 (known.distinct p.pair.0 q.pair.0 p.is.plain (p.is.same ∙ ap (name_at others) (eqb-true p.pair.1 q.pair.1 both.0) ∙ sym q.is.same))
        ]

    told-name : (role : ℕ) → is_told ps role ≡ true → name_at names role ≡ name_at others role
    told-name role h =
        let p = passing (λ p. p.0 == role && p.1 == role) ps h all in
        let both = and_parts (p.pair.0 == role) (p.pair.1 == role) p.passes in
        sym (ap (name_at names) (eqb-true p.pair.0 role both.0)) ∙ p.is.same ∙ ap (name_at others) (eqb-true p.pair.1 role both.1)

    told-names : (n : ℕ) → are_told ps n ≡ true → (i : ℕ) → i < n → name_at names i ≡ name_at others i
    told-names zero h i below = absurd (omega arith)
    told-names (suc n) h i below =
        let both = and_parts (is_told ps n) (are_told ps n) h in
        by (i == n) refl (told-names n both.1 i) (told-name n both.0)
      where
        by : (b : Bool) → (i == n) ≡ b → (i < n → name_at names i ≡ name_at others i) → name_at names n ≡ name_at others n → name_at names i ≡ name_at others i
        by true eq below_n at_n = ap (name_at names) (eqb-true i n eq) ∙ at_n ∙ sym (ap (name_at others) (eqb-true i n eq))
        by false eq below_n at_n = below_n (grind arith)

    decided : is_decided e f ps ≡ true → Same e f
    decided h = elim (or_cases (list_any (other_kinds e f) ps) (crossed ps || (e.row == f.row && are_told ps (length e.kinds))) h) as (λ _. Same e f) [
      | inl k ↦ absurd (of-kinds k)
      | inr k ↦ elim (or_cases (crossed ps) (e.row == f.row && are_told ps (length e.kinds)) k) as (λ _. Same e f) [
        | inl m ↦ absurd (of-crossing m)
        | inr m ↦ let both = and_parts (e.row == f.row) (are_told ps (length e.kinds)) m in
            record { row = eqb-true e.row f.row both.0; names_are = told-names (length e.kinds) both.1 }
      ]
    ]

  uneven-lines : (l m : Words) (t : List ℕ) → are_uneven l m ≡ true → LineSpells names l.0 l.1 t → LineSpells others m.0 m.1 t → ⊥
  uneven-lines l m t h p q = elim (or_cases (is_uneven l.0 l.1 m.0 m.1) (end_apart l.0 l.1 m.0 m.1) h) as (λ _. ⊥) [
    | inl k ↦ uneven-differ names others l.0 l.1 m.0 m.1 t k p q
    | inr k ↦ ends-differ names others l.0 l.1 m.0 m.1 t k p q
  ]

  pub settled : (e f : Entry) → is_settled e f ≡ true → Known e f → (t : List ℕ) → LineSpells names e.line.0 e.line.1 t → LineSpells others f.line.0 f.line.1 t → Same e f
  settled e f h known t l r =
      let ps = pairs e.line.0 e.line.1 f.line.0 f.line.1 in
      let all = all-shared names others e.line.0 e.line.1 f.line.0 f.line.1 t l r in
      elim (or_cases (are_uneven e.line f.line) (is_settled_by e f ps) h) as (λ _. Same e f) [
        | inl k ↦ absurd (uneven-lines e.line f.line t k l r)
        | inr k ↦ elim (or_cases (list_any (λ p. apart p.0 p.1) ps) (is_decided e f (linked ps)) k) as (λ _. Same e f) [
          | inl m ↦ absurd (some-apart ps m all)
          | inr m ↦ decided e f known (linked ps) (all-linked names others ps all) m
        ]
      ]
