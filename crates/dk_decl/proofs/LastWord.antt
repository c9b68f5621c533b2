-- The last comparability word holds.
use Rattle.std.proofs.Common.{◌≡◌, ◌∙◌, ◌++◌, ℕ, Bool, true, false, List, [], ◌∷◌, codes, option_and_then, Option, Some, None, Ok, Err, refl, sym, ap, if◌then◌else◌, bytes_eq}
use Rattle.std.specs.List.{last_or}
use Rattle.std.specs.Option.{option_to_list}
use Rattle.std.proofs.lemmas.Slice.Eq.{bytes_eq-Decides}
use Rattle.dk_base.specs.declared.why.Why.TheVariants.{BadHeader}
use Rattle.dk_decl.specs.HeaderLaw.{LastWordHolds, header_after, header_taken, words_said}
use Rattle.dk_decl.specs.Headers.{awaits_word, comparability_word, header_line, is_implicit, with_text, with_word}
use Rattle.dk_decl.specs.LineWords.{begins, operand}
use Rattle.dk_decl.specs.declared.header.Header.{Header}

-- what is said from here on
abbrev said : Header → List (List ℕ) → Option Bool
said h lines = last_or (Some (is_implicit h)) (words_said (awaits_word h) lines)

other_word : (line : List ℕ) → bytes_eq line (codes "VarComparability") ≡ true → begins (codes "var-comparability") line ≡ false
unfolding begins
other_word line h = ap (begins (codes "var-comparability")) ((bytes_eq-Decides line (codes "VarComparability")).0 h)

-- a header line moves its word into the header
one : (h m : Header) (lines : List (List ℕ)) (awaited is_form is_word is_version is_other version : Bool) (own rest : Option Bool)
    → awaits_word h ≡ awaited → (is_form ≡ true → is_word ≡ false)
    → header_taken (if awaited then Some (with_text own)
    else if is_form then Some (Ok (record h { awaits_word = true }))
    else if is_word then Some (with_text rest)
    else if is_version then Some (if version then Ok h else Err BadHeader)
    else if is_other then Some (Ok h)
    else None) ≡ Some m
    → last_or (Some (is_implicit h)) (if awaited then option_to_list own ++ words_said false lines else (if is_word then option_to_list rest else []) ++ words_said is_form lines)
    ≡ said m lines
one h m lines true is_form is_word is_version is_other version None rest a x e = cc
one h m lines true is_form is_word is_version is_other version (Some w) rest a x e =
    let s : with_word w ≡ m = cc in ap (λ k. said k lines) s
one h m lines false true true is_version is_other version own rest a x e = let no : true ≡ false = x refl in cc
one h m lines false true false is_version is_other version own rest a x e =
    let s : record h { awaits_word = true } ≡ m = cc in ap (λ k. said k lines) s
one h m lines false false true is_version is_other version own None a x e = cc
one h m lines false false true is_version is_other version own (Some w) a x e =
    let s : with_word w ≡ m = cc in ap (λ k. said k lines) s
one h m lines false false false true is_other true own rest a x e =
    let s : h ≡ m = cc in ap (λ b. last_or (Some (is_implicit h)) (words_said b lines)) (sym a) ∙ ap (λ k. said k lines) s
one h m lines false false false true is_other false own rest a x e = cc
one h m lines false false false false true version own rest a x e =
    let s : h ≡ m = cc in ap (λ b. last_or (Some (is_implicit h)) (words_said b lines)) (sym a) ∙ ap (λ k. said k lines) s
one h m lines false false false false false version own rest a x e = cc

step : (h m : Header) (line : List ℕ) (lines : List (List ℕ)) → header_taken (header_line h line) ≡ Some m → said h (line ∷ lines) ≡ said m lines
unfolding header_line
step h m line lines e =
    one h m lines (awaits_word h) (bytes_eq line (codes "VarComparability")) (begins (codes "var-comparability") line) (begins (codes "decl-version") line)
    (begins (codes "input-language") line) (bytes_eq (operand line) (codes "2.0")) (comparability_word line) (comparability_word (operand line)) refl (other_word line) e

pub last_word_holds : LastWordHolds
last_word_holds h last [] e = let s : h ≡ last = cc in ap (λ k. Some (is_implicit k)) (sym s)
last_word_holds h last (line ∷ lines) e = go (header_taken (header_line h line)) refl e (λ m. last_word_holds m last lines)
  where
    go : (t : Option Header) → header_taken (header_line h line) ≡ t → option_and_then (λ next. header_after next lines) t ≡ Some last
        → ((m : Header) → header_after m lines ≡ Some last → Some (is_implicit last) ≡ said m lines) → Some (is_implicit last) ≡ said h (line ∷ lines)
    go None t_is whole again = cc
    go (Some m) t_is whole again = again m whole ∙ sym (step h m line lines t_is)
