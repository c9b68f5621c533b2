-- What the first two bytes of a line show.
use Rattle.std.proofs.Common.{◌≡◌, ◌∙◌, ℕ, suc, zero, Bool, true, false, ◌&&◌, ◌||◌, ◌==◌, not, List, [], ◌∷◌, length, take, codes, cond, if◌then◌else◌, Option, Some, None, Result, Ok, Err, IsTrue, refl, sym, ap, subst}
use Rattle.std.specs.Str.{bytes_eq}
use Rattle.dk_base.specs.Words.{first_word, word_len}
use Rattle.std.specs.Prelude.{is_err}
use Rattle.dk_base.specs.declared.why.Why.{Why}
use Rattle.dk_base.specs.declared.why.Why.TheVariants.{BadHeader}
use Rattle.dk_decl.specs.Headers.{header_line}
use Rattle.dk_decl.specs.LineWords.{begins}
use Rattle.dk_decl.specs.declared.header.Header.{Header}
use Rattle.dk_blocks.specs.History.{is_declaration, is_list_of_implementors}

-- no front of the line is this word
abbrev pub NoFront : List ℕ → List ℕ → Type 0
NoFront bytes word = (len : ℕ) → bytes_eq (take len bytes) word ≡ false

pub empty_front : (first second len : ℕ) (rest : List ℕ) → bytes_eq (take len []) (first ∷ second ∷ rest) ≡ false
empty_front first second zero rest = refl
empty_front first second (suc len) rest = refl

pub short_front : (a first second len : ℕ) (rest : List ℕ) → bytes_eq (take len (a ∷ [])) (first ∷ second ∷ rest) ≡ false
short_front a first second zero rest = refl
short_front a first second (suc zero) rest = both (a == first)
  where
    both : (p : Bool) → (p && false) ≡ false
    both true = refl
    both false = refl
short_front a first second (suc (suc len)) rest = both (a == first)
  where
    both : (p : Bool) → (p && false) ≡ false
    both true = refl
    both false = refl

pub other_front : (a b first second : ℕ) (bytes rest : List ℕ) (len : ℕ) → (a == first && b == second) ≡ false → bytes_eq (take len (a ∷ b ∷ bytes)) (first ∷ second ∷ rest) ≡ false
other_front a b first second bytes rest zero differ = refl
other_front a b first second bytes rest (suc zero) differ = both (a == first)
  where
    both : (p : Bool) → (p && false) ≡ false
    both true = refl
    both false = refl
other_front a b first second bytes rest (suc (suc len)) differ = all (a == first) (b == second) (bytes_eq (take len bytes) rest) differ
  where
    all : (p q r : Bool) → (p && q) ≡ false → (p && (q && r)) ≡ false
    all true true r h = absurd (cc (h))
    all true false r h = refl
    all false q r h = refl

pub not_true : (b : Bool) → not b ≡ true → b ≡ false
not_true true is = absurd (cc (is))
not_true false is = refl

-- a header whose end is no fault awaits no word
pub awaits_none : (b : Bool) (r : Result Unit Why) → r ≡ (if b then Err BadHeader else Ok tt) → is_err r ≡ false → b ≡ false
awaits_none true r is passes = let err : true ≡ false = sym (ap (λ (x : Result Unit Why). is_err x) is) ∙ passes in absurd (cc (err))
awaits_none false r is passes = refl

-- the whole line is no such word
whole : (bytes word : List ℕ) → NoFront bytes word → bytes_eq bytes word ≡ false
whole bytes word none = subst (λ (line : List ℕ). bytes_eq line word ≡ false) (take_all bytes) (none (length bytes))
  where
    take_all : (xs : List ℕ) → take (length xs) xs ≡ xs
    take_all [] = refl
    take_all (x ∷ xs) = ap (λ (ys : List ℕ). x ∷ ys) (take_all xs)

pub no_header : (h : Header) (bytes : List ℕ) → h.awaits_word ≡ false → NoFront bytes (codes "VarComparability") → NoFront bytes (codes "var-comparability")
    → NoFront bytes (codes "decl-version") → NoFront bytes (codes "input-language") → header_line h bytes ≡ None
unfolding header_line begins
no_header h bytes awaits next word version language =
    rw (awaits, whole bytes (codes "VarComparability") next, word (word_len bytes), version (word_len bytes), language (word_len bytes)) refl

pub no_declaration : (bytes : List ℕ) → NoFront bytes (codes "ppt") → NoFront bytes (codes "DECLARE") → is_declaration bytes ≡ false
unfolding is_declaration
no_declaration bytes point declare = rw (point (word_len bytes), whole bytes (codes "DECLARE") declare) refl

pub no_list : (bytes : List ℕ) → NoFront bytes (codes "ListImplementors") → is_list_of_implementors bytes ≡ false
unfolding is_list_of_implementors
no_list bytes list = whole bytes (codes "ListImplementors") list
