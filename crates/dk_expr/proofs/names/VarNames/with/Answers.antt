use Rattle.std.specs.Prelude.{List, ℕ, map}
use Rattle.std.proofs.Common.{◌∙◌, ap, subst, sym}
use Rattle.dk_graph.proofs.Noting.{entry}
use Rattle.dk_graph.specs.Notes.{noted}
use Rattle.dk_expr.proofs.Listing.{more_lengths}
use Rattle.dk_expr.specs.Naming.{HaveLengths, Listed}
use Rattle.dk_expr.proofs.names.VarNames.with.Goals as goal

pub invariant_of-result : goal.invariant_of-result
invariant_of-result c =
    let old : Listed = map (entry (λ k. k.items)) c.self.inside.table.entries in
    let lengths = c.self.inside.lengths in
    let more = more_lengths old lengths c.args.name.now c.args.v c.self.invariant in
    subst (λ (l : Listed). HaveLengths l c.in_ok-lengths.lengths) (sym c.in_ok-table.ensures)
    (subst (λ (ls : List ℕ). HaveLengths (noted old c.args.name.now c.args.v) ls) (sym c.in_ok-lengths.ensures) more)

pub returns : goal.returns
returns c = c.in_ok-table.ensures ∙ ap (λ (l : Listed). noted l c.args.name.now c.args.v) c.self.view_is
