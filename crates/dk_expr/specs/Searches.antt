-- What searches in the front of a text find.
use Rattle.std.specs.Prelude.{◌≡◌, ◌∷◌, ◌++◌, ◌<◌, ◌^◌, ℕ, ℤ, pos, Bool, true, Contains, List, Option, Some, codes, drop, length, unsigned_abs}
use Rattle.std.specs.Fmt.{decimal, signed_decimal}
use Rattle.dk_base.specs.declared.kinds.VarId.{VarId}
use Rattle.dk_forms.specs.declared.states.State.{State}
use Rattle.dk_graph.specs.Notes.{noted_under}
use Rattle.dk_print.specs.Parts.{Part, constant_term_text, step_text, term_text, text_by, times_text}
use Rattle.dk_expr.specs.Following.{IsSought, all_followed, followed, past, with_factor, with_sign, with_var}
use Rattle.dk_expr.specs.Naming.{Listed}
use Rattle.dk_expr.specs.Readable.{are_ended, begins_behind_number, may_be}
use Rattle.dk_expr.specs.declared.found.Parsed.{Parsed}

-- what was found still is
abbrev pub KeepsAll : List Parsed → List Parsed → Type 0
KeepsAll old new = (x : Parsed) → Contains old x → Contains new x

-- ---- numbers
-- the number behind what is found, with what is told of it
abbrev pub FindsNumber : List ℕ → Parsed → (ℤ → Parsed) → Option Parsed → Type 0
FindsNumber text f told found =
    (z : ℤ) (more : List ℕ) → unsigned_abs z < 2 ^ 127 → begins_behind_number more ≡ true → drop f.at text ≡ signed_decimal z ++ more
    → found ≡ Some (past (length (signed_decimal z)) (told z))

-- the number with its sign
abbrev pub FindsStep : List ℕ → Parsed → (ℤ → Parsed) → Option Parsed → Type 0
FindsStep text f told found =
    (k : ℤ) (more : List ℕ) → unsigned_abs k < 2 ^ 127 → begins_behind_number more ≡ true → drop f.at text ≡ step_text k ++ more
    → found ≡ Some (past (length (step_text k)) (told k))

-- the constant with its sign, which may be left out
abbrev pub FindsConstant : List ℕ → Parsed → (ℤ → Parsed) → List Parsed → Type 0
FindsConstant text f told new =
    (k : ℤ) (more : List ℕ) → unsigned_abs k < 2 ^ 127 → begins_behind_number more ≡ true → drop f.at text ≡ constant_term_text k ++ more
    → Contains new (past (length (constant_term_text k)) (told k))

-- ---- names, of variables at this role, with what the parts say behind them
module _ (listed : Listed) (text : List ℕ) (role : ℕ) (ps : List Part) (f : Parsed) (new : List Parsed) where
  abbrev pub FindsName : Type 0
  FindsName =
      (name more : List ℕ) (v : VarId) → drop f.at text ≡ name ++ more → may_be ps more ≡ true → Contains (noted_under listed name) v
      → Contains new (with_var role v (past (length name) f))

  -- with a factor of this sign
  abbrev pub FindsProduct : Bool → Type 0
  FindsProduct is_negative =
      (n : ℕ) (name more : List ℕ) (v : VarId) → n < 2 ^ 127 → drop f.at text ≡ decimal n ++ codes " * " ++ name ++ more
      → may_be ps more ≡ true → Contains (noted_under listed name) v
      → Contains new
      (with_var role v (with_factor role (with_sign is_negative (pos n)) (past (length (decimal n ++ codes " * " ++ name)) f)))

  -- with a factor of this sign, which is left out where it is 1
  abbrev pub FindsTimes : Bool → Type 0
  FindsTimes is_negative =
      (n : ℕ) (name more : List ℕ) (v : VarId) → n < 2 ^ 127 → drop f.at text ≡ times_text n name ++ more
      → may_be ps more ≡ true → Contains (noted_under listed name) v
      → Contains new (with_var role v (with_factor role (with_sign is_negative (pos n)) (past (length (times_text n name)) f)))

  -- with a factor behind its sign
  abbrev pub FindsTerm : Type 0
  FindsTerm =
      (k : ℤ) (name more : List ℕ) (v : VarId) → unsigned_abs k < 2 ^ 127 → drop f.at text ≡ term_text k name ++ more
      → may_be ps more ≡ true → Contains (noted_under listed name) v
      → Contains new (with_var role v (with_factor role k (past (length (term_text k name)) f)))

-- ---- parts
-- what a part, with the others behind it, tells of what is sought
abbrev pub FindsPart : Listed → List ℕ → Part → List Part → Parsed → List Parsed → Type 0
FindsPart listed text p ps f new =
    (called : List (List ℕ)) (vars : List VarId) (s : State) → IsSought listed called vars s → are_ended (length vars) (p ∷ ps) ≡ true
    → drop f.at text ≡ text_by (p ∷ ps) called s → Contains new (followed called vars s p f)

-- what parts tell, one after another
abbrev pub FindsParts : Listed → List ℕ → List Part → Parsed → List Parsed → Type 0
FindsParts listed text ps f ends =
    (called : List (List ℕ)) (vars : List VarId) (s : State) → IsSought listed called vars s → are_ended (length vars) ps ≡ true
    → drop f.at text ≡ text_by ps called s → Contains ends (all_followed called vars s ps f)
