-- The fields of a state.
use Rattle.std.specs.Prelude.{◌≡◌, ◌++◌, ◌∷◌, [], ℕ, ℤ, Bool, false, List, codes, refl}
use Rattle.std.specs.List.{join_with_byte}
use Rattle.std.proofs.Common.{ap, append-nil, subst}
use Rattle.dk_state.specs.Lines.{behind_blank, fields_text}
use Rattle.dk_state.specs.Reading.{BeginsWith, HasNone, begins_number, ends_field}
use Rattle.dk_state.specs.StateWords.{state_word, state_word_in, told_fields}
use Rattle.dk_state.specs.States.{state_fields}
use Rattle.dk_state.specs.declared.reading_states.Word.{Word}
use Rattle.dk_state.specs.declared.reading_states.Word.TheVariants as word
use Rattle.dk_forms.specs.declared.states.State.{State}
use Rattle.dk_forms.specs.declared.states.State.TheVariants as state

-- the word in front, and what it tells
pub record HasWord (s : State) : Type 0 where
  pub text : List ℕ
  pub fields : state_fields s ≡ text ∷ told_fields s
  pub word : state_word_in text ≡ state_word s
  pub plain : HasNone ends_field text

pub word_first : (s : State) → HasWord s
word_first state.Empty = record { text = codes "empty"; fields = refl; word = refl; plain = refl }
word_first state.Broken = record { text = codes "broken"; fields = refl; word = refl; plain = refl }
word_first state.Holds = record { text = codes "holds"; fields = refl; word = refl; plain = refl }
word_first (state.Least k) = record { text = codes "least"; fields = refl; word = refl; plain = refl }
word_first (state.Greatest k) = record { text = codes "greatest"; fields = refl; word = refl; plain = refl }
word_first (state.Ints ks) = record { text = codes "ints"; fields = refl; word = refl; plain = refl }
word_first (state.Truth b) = record { text = codes "truth"; fields = refl; word = refl; plain = refl }
word_first (state.Code h) = record { text = codes "code"; fields = refl; word = refl; plain = refl }
word_first (state.Texts ts) = record { text = codes "texts"; fields = refl; word = refl; plain = refl }
word_first (state.One k) = record { text = codes "one"; fields = refl; word = refl; plain = refl }
word_first (state.Modulus m r) = record { text = codes "modulus"; fields = refl; word = refl; plain = refl }
word_first (state.Spot x y) = record { text = codes "spot"; fields = refl; word = refl; plain = refl }
word_first (state.Straight a b c) = record { text = codes "straight"; fields = refl; word = refl; plain = refl }
word_first (state.Span x1 y1 z1 x2 y2 z2) = record { text = codes "span"; fields = refl; word = refl; plain = refl }
word_first (state.Plane a b c d) = record { text = codes "plane"; fields = refl; word = refl; plain = refl }
word_first (state.Offset k) = record { text = codes "offset"; fields = refl; word = refl; plain = refl }

-- a state begins with a field that is no number
pub state_first : (s : State) (more : List ℕ) → BeginsWith ends_field (fields_text (state_fields s) ++ more)
state_first state.Empty more = refl
state_first state.Broken more = refl
state_first state.Holds more = refl
state_first (state.Least k) more = refl
state_first (state.Greatest k) more = refl
state_first (state.Ints ks) more = refl
state_first (state.Truth b) more = refl
state_first (state.Code h) more = refl
state_first (state.Texts ts) more = refl
state_first (state.One k) more = refl
state_first (state.Modulus m r) more = refl
state_first (state.Spot x y) more = refl
state_first (state.Straight a b c) more = refl
state_first (state.Span x1 y1 z1 x2 y2 z2) more = refl
state_first (state.Plane a b c d) more = refl
state_first (state.Offset k) more = refl

pub state_no_number : (s : State) (more : List ℕ) → begins_number (fields_text (state_fields s) ++ more) ≡ false
state_no_number state.Empty more = refl
state_no_number state.Broken more = refl
state_no_number state.Holds more = refl
state_no_number (state.Least k) more = refl
state_no_number (state.Greatest k) more = refl
state_no_number (state.Ints ks) more = refl
state_no_number (state.Truth b) more = refl
state_no_number (state.Code h) more = refl
state_no_number (state.Texts ts) more = refl
state_no_number (state.One k) more = refl
state_no_number (state.Modulus m r) more = refl
state_no_number (state.Spot x y) more = refl
state_no_number (state.Straight a b c) more = refl
state_no_number (state.Span x1 y1 z1 x2 y2 z2) more = refl
state_no_number (state.Plane a b c d) more = refl
state_no_number (state.Offset k) more = refl

-- what is told is ended by a field or the line
pub told_first : (fs : List (List ℕ)) (rest : List ℕ) → BeginsWith ends_field (fields_text fs ++ 10 ∷ rest)
told_first [] rest = refl
told_first (f ∷ fs) rest = refl

-- one field or more, with single blanks between them
pub fields_joined : (f : List ℕ) (fs : List (List ℕ)) → fields_text (f ∷ fs) ≡ behind_blank (join_with_byte 32 (f ∷ fs))
fields_joined f [] = append-nil (behind_blank f)
fields_joined f (g ∷ fs) = ap (λ r. behind_blank f ++ r) (fields_joined g fs)

-- what a state of a word tells
abbrev pub Cases : Word → (State → Type 0) → Type 0
Cases word.Empty P = P state.Empty
Cases word.Holds P = P state.Holds
Cases word.Least P = (k : ℤ) → P (state.Least k)
Cases word.Greatest P = (k : ℤ) → P (state.Greatest k)
Cases word.Ints P = (ks : List ℤ) → P (state.Ints ks)
Cases word.Truth P = (b : Bool) → P (state.Truth b)
Cases word.Code P = (h : ℕ) → P (state.Code h)
Cases word.Texts P = (ts : List (List ℕ)) → P (state.Texts ts)
Cases word.One P = (k : ℤ) → P (state.One k)
Cases word.Modulus P = (m : ℕ) (r : ℕ) → P (state.Modulus m r)
Cases word.Spot P = (x : ℤ) (y : ℤ) → P (state.Spot x y)
Cases word.Straight P = (a : ℤ) (b : ℤ) (c : ℤ) → P (state.Straight a b c)
Cases word.Span P = (x1 : ℤ) (y1 : ℤ) (z1 : ℤ) (x2 : ℤ) (y2 : ℤ) (z2 : ℤ) → P (state.Span x1 y1 z1 x2 y2 z2)
Cases word.Plane P = (a : ℤ) (b : ℤ) (c : ℤ) (d : ℤ) → P (state.Plane a b c d)
Cases word.Offset P = (k : ℤ) → P (state.Offset k)
Cases word.Other P = P state.Broken

pub by_word : (P : State → Type 0) (w : Word) (s : State) → Cases w P → w ≡ state_word s → P s
by_word P w s cases e = go s (subst (λ v. Cases v P) e cases)
  where
    go : (s : State) → Cases (state_word s) P → P s
    go state.Empty given = given
    go state.Broken given = given
    go state.Holds given = given
    go (state.Least k) given = given k
    go (state.Greatest k) given = given k
    go (state.Ints ks) given = given ks
    go (state.Truth b) given = given b
    go (state.Code h) given = given h
    go (state.Texts ts) given = given ts
    go (state.One k) given = given k
    go (state.Modulus m r) given = given m r
    go (state.Spot x y) given = given x y
    go (state.Straight a b c) given = given a b c
    go (state.Span x1 y1 z1 x2 y2 z2) given = given x1 y1 z1 x2 y2 z2
    go (state.Plane a b c d) given = given a b c d
    go (state.Offset k) given = given k
