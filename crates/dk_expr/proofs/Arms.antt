-- What each kind of part lets be found, from what its own call finds.
use Rattle.std.specs.Prelude.{◌≡◌, ◌==◌, ◌++◌, ℕ, pos, true, false, Contains, List, [], ◌∷◌, OnOk, Option, Result, Some, drop, length, unsigned_abs}
use Rattle.std.proofs.Common.{◌∙◌, ap, subst, sym}
use Rattle.std.proofs.lemmas.Bool.{and_parts, false≢true, ltb-true}
use Rattle.std.proofs.lemmas.List.{append-nil}
use Rattle.std.proofs.lemmas.Result.{on_ok_weaker}
use Rattle.dk_base.specs.Pieces.{is_empty}
use Rattle.dk_forms.specs.declared.states.State.{State}
use Rattle.dk_print.specs.Parts.{Part, word, named, bound, values, null_or, remainder, modulus, lead, term, constant, step, bound_in, constant_term_in, factor_at, known_text, modulus_in, name_at, offset_in, part_text, remainder_in, text_by}
use Rattle.dk_print.specs.Shown.{part_shown}
use Rattle.dk_print.specs.declared.parts.Part as coded
use Rattle.dk_expr.specs.Following.{past}
use Rattle.dk_expr.specs.Naming.{Listed, var_at}
use Rattle.dk_expr.specs.Readable.{are_ended, ends_name, is_ended}
use Rattle.dk_expr.specs.Searches.{FindsConstant, FindsName, FindsNumber, FindsPart, FindsStep, FindsTerm, FindsTimes}
use Rattle.dk_expr.specs.declared.found.Parsed.{Parsed}
use Rattle.dk_expr.proofs.Ends.{name_ended, number_ended}

module _ {T E : Type 0} (listed : Listed) (text : List ℕ) (ps : List Part) (f : Parsed) (new : List Parsed) (r : Result T E) where
  abbrev Finds : Part → Type 0
  Finds p = FindsPart listed text p ps f new

  -- the part, as the code has it
  pub shown_arm : (part own : coded.Part) → part ≡ own → OnOk r (Finds (part_shown own)) → OnOk r (Finds (part_shown part))
  shown_arm part own is some = subst (λ p. OnOk r (Finds (part_shown p))) (sym is) some

  -- what a call finds that gives at most one
  abbrev pub FindsSome : Option Parsed → Type 0
  FindsSome found = OnOk r ((x : Parsed) → found ≡ Some x → Contains new x)

  here : (n : ℕ) (p : Part) → are_ended n (p ∷ ps) ≡ true → is_ended n p ps ≡ true
  here n p h = (and_parts (is_ended n p ps) (are_ended n ps) h).0

  pub word_arm : (bytes : List ℕ) (found : Option Parsed) → ((more : List ℕ) → drop f.at text ≡ bytes ++ more → found ≡ Some (past (length bytes) f)) → FindsSome found → OnOk r (Finds (word bytes))
  word_arm bytes found one some = on_ok_weaker r (λ finds called vars s sought ended is. finds _ (one (text_by ps called s) is)) some

  pub bound_arm : (found : Option Parsed) → FindsNumber text f (λ z. record f { bound = z }) found → FindsSome found → OnOk r (Finds bound)
  bound_arm found one some = on_ok_weaker r (λ finds called vars s sought ended is. finds _ (one (bound_in s) (text_by ps called s) sought.small.bound (number_ended called s ps (here (length vars) bound ended)) is)) some

  pub remainder_arm : (found : Option Parsed) → FindsNumber text f (λ z. record f { remainder = z }) found → FindsSome found → OnOk r (Finds remainder)
  remainder_arm found one some = on_ok_weaker r (λ finds called vars s sought ended is. finds _ (one (pos (remainder_in s)) (text_by ps called s) sought.small.remainder (number_ended called s ps (here (length vars) remainder ended)) is)) some

  pub modulus_arm : (found : Option Parsed) → FindsNumber text f (λ z. record f { modulus = z }) found → FindsSome found → OnOk r (Finds modulus)
  modulus_arm found one some = on_ok_weaker r (λ finds called vars s sought ended is. finds _ (one (pos (modulus_in s)) (text_by ps called s) sought.small.modulus (number_ended called s ps (here (length vars) modulus ended)) is)) some

  pub step_arm : (found : Option Parsed) → FindsStep text f (λ k. record f { offset = k }) found → FindsSome found → OnOk r (Finds step)
  step_arm found one some = on_ok_weaker r (λ finds called vars s sought ended is. finds _ (one (offset_in s) (text_by ps called s) sought.small.offset (number_ended called s ps (here (length vars) step ended)) is)) some

  pub constant_arm : OnOk r (FindsConstant text f (λ k. record f { constant = k }) new) → OnOk r (Finds constant)
  constant_arm some = on_ok_weaker r (λ finds called vars s sought ended is. finds (constant_term_in s) (text_by ps called s) sought.small.constant (number_ended called s ps (here (length vars) constant ended)) is) some

  -- ---- all that is left
  all_left : (qs : List Part) (names : List (List ℕ)) (s : State) (own : List ℕ) → is_empty qs ≡ true → drop f.at text ≡ own ++ text_by qs names s → drop f.at text ≡ own
  all_left [] names s own h is = is ∙ append-nil own
  all_left (q ∷ qs) names s own h is = absurd (false≢true h)

  pub values_arm : (found : Parsed) → found ≡ past (length (drop f.at text)) (record f { values = f.at }) → FindsSome (Some found) → OnOk r (Finds values)
  values_arm found one some =
      on_ok_weaker r
      (λ finds called vars s sought ended is.
      finds _ (ap (λ g. Some g) (one ∙ ap (λ l. past (length l) (record f { values = f.at })) (all_left ps called s (known_text s) (here (length vars) values ended) is))))
      some

  pub code_arm : (bytes : List ℕ) (found : Parsed) → found ≡ past (length (drop f.at text)) (record f { code = f.at }) → FindsSome (Some found) → OnOk r (Finds (null_or bytes))
  code_arm bytes found one some =
      on_ok_weaker r
      (λ finds called vars s sought ended is.
      finds _
      (ap (λ g. Some g) (one ∙ ap (λ l. past (length l) (record f { code = f.at })) (all_left ps called s (part_text called s (null_or bytes)) (and_parts _ (is_empty ps) (here (length vars) (null_or bytes) ended)).1 is))))
      some

  -- ---- names
  pub named_arm : (role : ℕ) → OnOk r (FindsName listed text role ps f new) → OnOk r (Finds (named role))
  named_arm role some =
      on_ok_weaker r
      (λ finds called vars s sought ended is.
      let both = and_parts _ (ends_name ps) (here (length vars) (named role) ended) in
      finds (name_at called role) (text_by ps called s) (var_at vars role) is (name_ended called s ps both.1) (sought.listed_so role (ltb-true role (length vars) both.0)))
      some

  pub lead_arm : (role : ℕ) → OnOk r (FindsTimes listed text role ps f new false) → OnOk r (Finds (lead role))
  lead_arm role some =
      on_ok_weaker r
      (λ finds called vars s sought ended is.
      let all = and_parts (role == 0) _ (here (length vars) (lead role) ended) in
      let both = and_parts _ (ends_name ps) all.1 in
      finds (unsigned_abs (factor_at s role)) (name_at called role) (text_by ps called s) (var_at vars role) (sought.small.factor role) is (name_ended called s ps both.1) (sought.listed_so role (ltb-true role (length vars) both.0)))
      some

  pub term_arm : (role : ℕ) → OnOk r (FindsTerm listed text role ps f new) → OnOk r (Finds (term role))
  term_arm role some =
      on_ok_weaker r
      (λ finds called vars s sought ended is.
      let both = and_parts _ (ends_name ps) (here (length vars) (term role) ended) in
      finds (factor_at s role) (name_at called role) (text_by ps called s) (var_at vars role) (sought.small.factor role) is (name_ended called s ps both.1) (sought.listed_so role (ltb-true role (length vars) both.0)))
      some
