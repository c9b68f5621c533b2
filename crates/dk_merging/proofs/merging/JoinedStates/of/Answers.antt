use Rattle.std.specs.Prelude.{List, ℕ}
use Rattle.std.proofs.Common.{◌∙◌, ap, subst, sym}
use Rattle.dk_merging.specs.Fronts.{front_of}
use Rattle.dk_merging.specs.Loading.{IsLoadOf}
use Rattle.dk_merging.proofs.merging.JoinedStates.of.Goals as goal

pub invariant_of-result : goal.invariant_of-result
invariant_of-result c =
    let l = c.in_ok-loaded.loaded in
    let is = c.in_ok-loaded.ensures.loaded in
    let same = sym is.says.text in
    (subst (λ (bytes : List ℕ). IsLoadOf bytes l) same is, c.in_ok-front.ensures ∙ c.front_of.ensures ∙ ap front_of same)
