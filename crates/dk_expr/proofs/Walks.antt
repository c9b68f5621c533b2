-- Parts that are read one after another.
use Rattle.std.specs.Prelude.{◌≡◌, ◌+◌, ◌<◌, ◌≤◌, ℕ, IfOk, Contains, List, ◌∷◌, Result, length}
use Rattle.std.specs.List.{AllWithin}
use Rattle.std.proofs.Common.{arith, get_or, subst, sym}
use Rattle.std.proofs.lemmas.List.{get_or_default}
use Rattle.std.proofs.lemmas.Bool.{and_parts}
use Rattle.std.proofs.lemmas.List.Elements.{AllWithin-more, All-contains, All-from_all_within, at_read}
use Rattle.std.proofs.lemmas.Result.{IfOk-weaker}
use Rattle.dk_print.specs.Parts.{Part}
use Rattle.dk_expr.specs.Following.{followed}
use Rattle.dk_expr.specs.Naming.{Listed}
use Rattle.dk_expr.specs.Readable.{are_ended, is_ended}
use Rattle.dk_expr.specs.Searches.{FindsPart, FindsParts, KeepsAll}
use Rattle.dk_expr.specs.declared.found.Parsed.{Parsed}
use Rattle.dk_expr.proofs.Followed.{behind}

module _ (listed : Listed) (text : List ℕ) (p : Part) (ps : List Part) where
  -- what is found behind each of so many
  abbrev pub Behind : List Parsed → List Parsed → ℕ → Type 0
  Behind before new n = AllWithin (λ f. FindsPart listed text p ps f new) before 0 n

  pub one_more : (before mid new : List Parsed) (i : ℕ) (d : Parsed) → i < length before → KeepsAll mid new → FindsPart listed text p ps (get_or before i d) new → Behind before mid i
      → Behind before new (i + 1)
  one_more before mid new i d lt keeps here so_far =
      AllWithin-more (λ g. FindsPart listed text p ps g new) before 0 i
      (λ k e low high called vars s a b h. keeps _ (so_far k e low high called vars s a b h))
      (at_read before (λ g. FindsPart listed text p ps g new) i (get_or before i d) lt (get_or_default before i d (get_or before i d) lt) here)

  pub all_behind : (before new : List Parsed) (n : ℕ) → length before ≤ n → Behind before new n → (f : Parsed) → Contains before f → FindsPart listed text p ps f new
  all_behind before new n all behind f there =
      All-contains (λ g. FindsPart listed text p ps g new) before f (All-from_all_within (λ g. FindsPart listed text p ps g new) before (λ k e low high. behind k e low (omega (arith, all, high)))) there

  -- and what is found behind all
  pub behind_then : {E : Type 0} (before next : List Parsed) (r : Result (List Parsed) E) → ((f : Parsed) → Contains before f → FindsPart listed text p ps f next)
      → IfOk r (λ ends. (f : Parsed) → Contains next f → FindsParts listed text ps f ends)
      → IfOk r (λ ends. (f : Parsed) → Contains before f → FindsParts listed text (p ∷ ps) f ends)
  behind_then before next r first rest =
      IfOk-weaker r _ _
      (λ ends finds f there called vars s sought ended is.
      finds (followed called vars s p f) (first f there called vars s sought ended is) called vars s sought
      (and_parts (is_ended (length vars) p ps) (are_ended (length vars) ps) ended).1 (behind text called vars s p ps f is))
      rest

-- the first of some parts, and the others behind it
pub parts_behind : {E : Type 0} (listed : Listed) (text : List ℕ) (parts : List Part) (p : Part) (ps : List Part) (before next : List Parsed) (r : Result (List Parsed) E) → parts ≡ p ∷ ps
    → ((f : Parsed) → Contains before f → FindsPart listed text p ps f next) → IfOk r (λ ends. (f : Parsed) → Contains next f → FindsParts listed text ps f ends)
    → IfOk r (λ ends. (f : Parsed) → Contains before f → FindsParts listed text parts f ends)
parts_behind listed text parts p ps before next r whole first rest =
    subst (λ l. IfOk r (λ ends. (f : Parsed) → Contains before f → FindsParts listed text l f ends)) (sym whole) (behind_then listed text p ps before next r first rest)
