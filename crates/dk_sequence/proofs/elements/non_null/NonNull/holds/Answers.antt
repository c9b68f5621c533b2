use Rattle.std.specs.Prelude.{ℕ, List}
use Rattle.std.specs.Borrow.{Bor}
use Rattle.std.specs.List.{list_all}
use Rattle.std.proofs.Common.{ap, sym, ◌∙◌}
use Rattle.std.proofs.lemmas.List.Folds.{list_all-map}
use Rattle.dk_base.specs.Values.{values_of}
use Rattle.dk_base.specs.Values.Tuples.{value_at}
use Rattle.dk_meanings.specs.Relations.{is_nonnull}
use Rattle.dk_sequence.specs.Elements.{has_no_null}
use Rattle.dk_sequence.proofs.elements.non_null.NonNull.holds.Goals as goal

pub returns-in-Str : goal.returns-in-Str
returns-in-Str c =
    let v = value_at (values_of c.args.tuple.now) 0 in
    c.are_nonnull.ensures ∙ sym (list_all-map is_nonnull (λ (t : Bor (List ℕ)). t.now) c.texts_at.result.now) ∙ ap (list_all is_nonnull) c.texts_at.ensures ∙ ap (λ r. has_no_null r v) (sym c.in-Str.is)
