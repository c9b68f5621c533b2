use Rattle.std.specs.Prelude.{Some, None}
use Rattle.std.proofs.Common.{◌∙◌, refl, subst, sym}
use Rattle.std.proofs.lemmas.Bool.{false≢true}
use Rattle.dk_constants.specs.Known.{EntriesAscend}
use Rattle.dk_snapshot.proofs.Restoring.{no_entries, some_entries}
use Rattle.dk_snapshot.proofs.entries.constants_from.Goals as goal

pub returns-then-not-ascend : goal.returns-then-not-ascend
returns-then-not-ascend c =
    no_entries c.args.known c.in_ok-entries.entries c.in_ok-entries.ensures
    (λ up. false≢true (sym c.if-not-ascend.true ∙ c.ascend.ensures.1 (subst EntriesAscend (sym c.as_slice.ensures) up))) None refl

pub returns : goal.returns
returns c =
    some_entries c.args.known c.in_ok-from_known.field-0 (c.in_ok-from_known.ensures ∙ c.in_ok-entries.ensures)
    (subst EntriesAscend (c.as_slice.ensures ∙ sym c.in_ok-from_known.ensures) (c.ascend.ensures.0 c.if-not-ascend.false)) (Some c.in_ok-from_known.field-0) refl
