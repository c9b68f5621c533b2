use Rattle.std.proofs.Common.{◌≡◌, ◌++◌, Bor, MatchOption, Option, List, ℕ, codes, subst}
use Rattle.std.proofs.lemmas.Bool.Decides.{Decides-eqb}
use Rattle.std.proofs.lemmas.Slice.Eq.{strip_suffix_is}
use Rattle.dk_claims.proofs.Counting.{front_is, no_bracket, no_digits}
use Rattle.dk_claims.proofs.counts.front_of_count.Goals as goal

-- what is told of a text that is cut off at its end
abbrev IsCut : List ℕ → List ℕ → Option (Bor (List ℕ)) → Type 0
IsCut text end r = MatchOption r ((front : List ℕ) → text ≡ front ++ end → ⊥) (λ x. text ≡ x.now ++ end)

pub returns-in_err-numbered : goal.returns-in_err-numbered
returns-in_err-numbered c =
    rw c.from_residual.ensures
    (no_bracket c.args.text.now
    (subst (IsCut c.args.text.now (codes "]")) c.in_err-numbered.was
    (strip_suffix_is Decides-eqb c.args.text.now (codes "]") c.strip_suffix.result c.strip_suffix.ensures.cases)))

pub returns-then-opened-numbered : goal.returns-then-opened-numbered
returns-then-opened-numbered c =
    let closes = subst (IsCut c.args.text.now (codes "]")) c.in_ok-numbered.was
    (strip_suffix_is Decides-eqb c.args.text.now (codes "]") c.strip_suffix.result c.strip_suffix.ensures.cases) in
    no_digits c.args.text.now _ _ closes c.without_digits-opened.ensures c.if-opened-numbered.true

pub returns : goal.returns
returns c =
    let closes = subst (IsCut c.args.text.now (codes "]")) c.in_ok-numbered.was
    (strip_suffix_is Decides-eqb c.args.text.now (codes "]") c.strip_suffix.result c.strip_suffix.ensures.cases) in
    let opened : List ℕ = c.without_digits-opened.result.now in
    front_is c.args.text.now _ _ closes c.without_digits-opened.ensures c.if-opened-numbered.false c.strip_suffix-2.result
    (strip_suffix_is Decides-eqb opened (codes "  [") c.strip_suffix-2.result c.strip_suffix-2.ensures.cases)
