-- Names with factors and signs in front of them, and constants.
use Rattle.std.specs.Prelude.{◌≡◌, ◌==◌, ◌<◌, ◌^◌, ◌++◌, ◌+◌, ◌-◌, ℕ, ℤ, pos, negsuc, int_lt, Bool, true, false, Contains, List, [], Err, Ok, OnOk, Option, Result, Some, codes, drop, if◌then◌else◌, length, take, unsigned_abs, refl}
use Rattle.std.specs.Fmt.{decimal}
use Rattle.std.specs.Ordering.{int_eq}
use Rattle.std.proofs.Common.{◌∙◌, ap, append_assoc, arith, subst, sym}
use Rattle.std.proofs.lemmas.Bool.{eqb-true, le-ltb}
use Rattle.std.proofs.lemmas.Bool.Decides.{Decides-int_eq}
use Rattle.std.proofs.lemmas.List.{drop-drop, drop_at, length-append, take_rest}
use Rattle.dk_base.specs.declared.kinds.VarId.{VarId}
use Rattle.dk_graph.specs.Notes.{noted_under}
use Rattle.dk_print.specs.Parts.{Part, sign_text, step_text, term_text, times_text}
use Rattle.dk_expr.specs.Following.{past, with_factor, with_sign, with_var}
use Rattle.dk_expr.specs.Naming.{Listed}
use Rattle.dk_expr.specs.Readable.{may_be}
use Rattle.dk_expr.specs.Searches.{FindsConstant, FindsName, FindsProduct, FindsStep, FindsTimes, KeepsAll}
use Rattle.dk_expr.specs.declared.found.Parsed.{Parsed}

-- what stands behind the front of a text
pub behind_front : (text front more : List ℕ) (at len : ℕ) → len ≡ length front → drop at text ≡ front ++ more → drop (at + len) text ≡ more
behind_front text front more at len long is = sym (drop-drop len at text) ∙ ap (drop len) is ∙ drop_at front more len (sym long)

pub slice_behind : (bytes front more : List ℕ) (len : ℕ) → len ≡ length front → bytes ≡ front ++ more → take (length bytes - len) (drop len bytes) ≡ more
slice_behind bytes front more len long is = take_rest bytes len ∙ ap (drop len) is ∙ drop_at front more len (sym long)

-- two clauses of one call
pub on_both : {T E P Q R : Type 0} (r : Result T E) → (P → Q → R) → OnOk r P → OnOk r Q → OnOk r R
on_both (Ok x) f h k = f h k
on_both (Err e) f h k = tt

-- ---- signs
pub sign_long : (k : ℤ) → length (sign_text k) ≡ 3
sign_long k = by (int_lt k (pos 0))
  where
    by : (b : Bool) → length (if b then codes " - " else codes " + ") ≡ 3
    by true = refl
    by false = refl

pub signed_back : (k : ℤ) → with_sign (int_lt k (pos 0)) (pos (unsigned_abs k)) ≡ k
signed_back (pos n) = ap (λ b. with_sign b (pos n)) (le-ltb n 0 (omega arith))
signed_back (negsuc n) = refl

module _ (listed : Listed) (text : List ℕ) (role : ℕ) (ps : List Part) (f : Parsed) (new : List Parsed) where
  -- ---- a product
  module _ (n : ℕ) (name more : List ℕ) (is : drop f.at text ≡ decimal n ++ codes " * " ++ name ++ more) where
    -- a number, and the sign of a product behind it
    pub number_first : drop f.at text ≡ decimal n ++ (codes " * " ++ (name ++ more))
    number_first = is ∙ append_assoc (decimal n ++ codes " * ") name more ∙ append_assoc (decimal n) (codes " * ") (name ++ more)

    pub product_found : (is_negative : Bool) (v : VarId) (len : ℕ) (factor : ℤ) (behind : Parsed) → len ≡ length (decimal n) → factor ≡ with_sign is_negative (pos n)
        → behind ≡ with_factor role factor (past (len + 3) f) → FindsName listed text role ps behind new → may_be ps more ≡ true → Contains (noted_under listed name) v
        → Contains new (with_var role v (with_factor role (with_sign is_negative (pos n)) (past (length (decimal n ++ codes " * " ++ name)) f)))
    product_found is_negative v len factor behind long own there finds may known =
        let front : len + 3 ≡ length (decimal n ++ codes " * ") = omega (arith, long, length-append (decimal n) (codes " * ")) in
        let rest : drop (f.at + (len + 3)) text ≡ name ++ more = behind_front text (decimal n ++ codes " * ") (name ++ more) f.at (len + 3) front (is ∙ append_assoc (decimal n ++ codes " * ") name more) in
        let at : f.at + (len + 3) + length name ≡ f.at + length (decimal n ++ codes " * " ++ name) = omega (arith, front, length-append (decimal n ++ codes " * ") name) in
        let found = finds name more v (ap (λ (g : Parsed). drop g.at text) there ∙ rest) may known in
        let same : with_var role v (past (length name) behind) ≡ with_var role v (with_factor role (with_sign is_negative (pos n)) (past (length (decimal n ++ codes " * " ++ name)) f)) =
        ap (λ g. with_var role v (past (length name) g)) there
        ∙ (λ i. with_var role v (with_factor role (own i) (record f { at = at i })))
        in
        subst (Contains new) same found

  -- ---- a factor that is left out where it is 1
  pub times_found : (is_negative : Bool) (mid : List Parsed) (one : Parsed) → one ≡ with_factor role (with_sign is_negative (pos 1)) f → FindsName listed text role ps one mid
      → KeepsAll mid new → FindsProduct listed text role ps f new is_negative → FindsTimes listed text role ps f new is_negative
  times_found is_negative mid one there named keeps product n name more v small is may known = by (n == 1) refl is
    where
      by : (b : Bool) → (n == 1) ≡ b → drop f.at text ≡ (if b then name else decimal n ++ codes " * " ++ name) ++ more
          → Contains new (with_var role v (with_factor role (with_sign is_negative (pos n)) (past (length (if b then name else decimal n ++ codes " * " ++ name)) f)))
      by true e is =
          let found = named name more v (ap (λ (g : Parsed). drop g.at text) there ∙ is) may known in
          let single : 1 ≡ n = sym (eqb-true n 1 e) in
          let same : with_var role v (past (length name) one) ≡ with_var role v (with_factor role (with_sign is_negative (pos n)) (past (length name) f)) =
          ap (λ g. with_var role v (past (length name) g)) there ∙ ap (λ m. with_var role v (with_factor role (with_sign is_negative (pos m)) (past (length name) f))) single
          in
          subst (Contains new) same (keeps _ found)
      by false e is = product n name more v small is may known

  -- ---- a sign in front of it
  module _ (k : ℤ) (name more : List ℕ) (is : drop f.at text ≡ term_text k name ++ more) where
    pub sign_first : drop f.at text ≡ sign_text k ++ (times_text (unsigned_abs k) name ++ more)
    sign_first = is ∙ append_assoc (sign_text k) (times_text (unsigned_abs k) name) more

    pub term_found : (v : VarId) (is_negative : Bool) (behind : Parsed) → is_negative ≡ int_lt k (pos 0) → behind ≡ past 3 f → FindsTimes listed text role ps behind new is_negative
        → unsigned_abs k < 2 ^ 127 → may_be ps more ≡ true → Contains (noted_under listed name) v → Contains new (with_var role v (with_factor role k (past (length (term_text k name)) f)))
    term_found v is_negative behind signed there finds small may known =
        let times = times_text (unsigned_abs k) name in
        let rest : drop (f.at + 3) text ≡ times ++ more = behind_front text (sign_text k) (times ++ more) f.at 3 (sym (sign_long k)) sign_first in
        let at : f.at + 3 + length times ≡ f.at + length (term_text k name) = omega (arith, sign_long k, length-append (sign_text k) times) in
        let own : with_sign is_negative (pos (unsigned_abs k)) ≡ k = ap (λ b. with_sign b (pos (unsigned_abs k))) signed ∙ signed_back k in
        let found = finds (unsigned_abs k) name more v small (ap (λ (g : Parsed). drop g.at text) there ∙ rest) may known in
        let same : with_var role v (with_factor role (with_sign is_negative (pos (unsigned_abs k))) (past (length times) behind)) ≡ with_var role v (with_factor role k (past (length (term_text k name)) f)) =
        ap (λ g. with_var role v (with_factor role (with_sign is_negative (pos (unsigned_abs k))) (past (length times) g))) there
        ∙ (λ i. with_var role v (with_factor role (own i) (record f { at = at i })))
        in
        subst (Contains new) same found

-- ---- a constant, which is left out where it is 0
module _ (text : List ℕ) (f : Parsed) (mid new : List Parsed) where
  abbrev told : ℤ → Parsed
  told k = record f { constant = k }

  pub constant_found : (none : Parsed) (some : Option Parsed) → none ≡ told (pos 0) → ((x : Parsed) → Some none ≡ Some x → Contains mid x) → KeepsAll mid new
      → FindsStep text f told some → ((x : Parsed) → some ≡ Some x → Contains new x) → FindsConstant text f told new
  constant_found none some there first keeps step second k more small behind is = by (int_eq k (pos 0)) refl is
    where
      by : (b : Bool) → int_eq k (pos 0) ≡ b → drop f.at text ≡ (if b then [] else step_text k) ++ more → Contains new (past (length (if b then [] else step_text k)) (told k))
      by true e is =
          let nothing : k ≡ pos 0 = (Decides-int_eq k (pos 0)).0 e in
          let at : f.at ≡ f.at + 0 = omega arith in
          let same : none ≡ past 0 (told k) = there ∙ (λ i. record f { at = at i; constant = (sym nothing) i }) in
          subst (Contains new) same (keeps none (first none refl))
      by false e is = second _ (step k more small behind is)
