use Rattle.std.proofs.Common.{◌≡◌, ◌∙◌, ◌++◌, List, ℕ, Bool, true, false, length, take, drop, ap, subst, sym}
use Rattle.dk_graph.specs.Graphs.{edges, has_cycle}
use Rattle.dk_graph.specs.Kept.{HasRanks}
use Rattle.dk_graph.specs.Raising.{Rises, HasLongPath}
use Rattle.dk_graph.specs.declared.nodes.Node.{Node}
use Rattle.dk_graph.proofs.LongPaths.{cycle}
use Rattle.dk_graph.proofs.Places.{whole}
use Rattle.dk_graph.proofs.Ranked.{are-ranks, no-cycle}
use Rattle.dk_graph.proofs.growing.Growing.into_graph.Goals as goal

-- the points with their ranks, as the code meets them
module _ (ns : List Node) (old : List ℕ) (kept : length old ≡ length ns) (slice : List ℕ) (slice-is : slice ≡ old)
    (ds : List ℕ) (same : length ds ≡ length slice) (b : Bool) (rises : Rises b (length ns) (edges ns) ds) where
  all : length ds ≡ length ns
  all = same ∙ ap length slice-is ∙ kept

  ranks : b ≡ true → HasRanks ns ds
  ranks is = record { all = all; risen = subst (λ x. Rises x (length ns) (edges ns) ds) is rises }

  ranks-whole : b ≡ true → (n : ℕ) → length slice ≡ n → HasRanks ns (take n (ds ++ drop (length ds) old))
  ranks-whole is n long = subst (HasRanks ns) (sym (whole n ds old (same ∙ long) (same ∙ ap length slice-is))) (ranks is)

  acyclic : (self : List Node) → ns ≡ self → b ≡ true → has_cycle self ≡ false
  acyclic self view is = subst (λ xs. has_cycle xs ≡ false) view (no-cycle ns ds (are-ranks ns ds (ranks is)))

  cyclic : (self : List Node) → ns ≡ self → b ≡ false → has_cycle self ≡ true
  cyclic self view is =
      subst (λ xs. has_cycle xs ≡ true) view
      (cycle ns (subst (λ k. HasLongPath (length ns) k (edges ns)) all (subst (λ x. Rises x (length ns) (edges ns) ds) is rises)))

pub invariant_of-result : goal.invariant_of-result
invariant_of-result c =
    ranks-whole c.self.inside.edges c.self.inside.ranks.items c.self.invariant.all c.as_mut_slice.result.now c.as_mut_slice.ensures.value
    c.raise_all.new.ranks c.raise_all.auto.ranks c.in_ok-raise_all.field-0 c.in_ok-raise_all.ensures c.if-branch.true
    c.self.inside.ranks.len c.as_mut_slice.ensures.len

pub returns-then-branch : goal.returns-then-branch
returns-then-branch c = (
  c.self.view_is,
  acyclic c.self.inside.edges c.self.inside.ranks.items c.self.invariant.all c.as_mut_slice.result.now c.as_mut_slice.ensures.value
      c.raise_all.new.ranks c.raise_all.auto.ranks c.in_ok-raise_all.field-0 c.in_ok-raise_all.ensures c.args.self c.self.view_is c.if-branch.true,
)

pub returns-else-branch : goal.returns-else-branch
returns-else-branch c =
    cyclic c.self.inside.edges c.self.inside.ranks.items c.self.invariant.all c.as_mut_slice.result.now c.as_mut_slice.ensures.value
    c.raise_all.new.ranks c.raise_all.auto.ranks c.in_ok-raise_all.field-0 c.in_ok-raise_all.ensures c.args.self c.self.view_is c.if-branch.false
