use Rattle.std.specs.Prelude.{List, ℕ, map}
use Rattle.std.proofs.Common.{subst, sym}
use Rattle.dk_graph.proofs.Noting.{entry}
use Rattle.dk_expr.specs.Naming.{HaveLengths, Listed}
use Rattle.dk_expr.proofs.names.VarNames.lengths.Goals as goal

pub returns : goal.returns
returns c =
    let old : Listed = map (entry (λ k. k.items)) c.self.inside.table.entries in
    subst (λ (l : Listed). HaveLengths l c.as_slice.result.now) c.self.view_is (subst (λ (ls : List ℕ). HaveLengths old ls) (sym c.as_slice.ensures) c.self.invariant)
