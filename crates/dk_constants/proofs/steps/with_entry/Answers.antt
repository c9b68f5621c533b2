use Rattle.std.proofs.Common.{ap, sym, subst, ◌∙◌}
use Rattle.dk_constants.specs.Known.{EntriesAscend, IsAt, IsGapFor, known_at}
use Rattle.dk_constants.proofs.Gaps.{absent_in_gap, ascend_in_gap, found_at, known_in_gap}
use Rattle.dk_constants.proofs.Lookups.{known_added, known_already}
use Rattle.dk_constants.proofs.steps.with_entry.Goals as goal

pub returns-in-Ok-clause-known : goal.returns-in-Ok-clause-known
returns-in-Ok-clause-known c =
    let known = c.args.known.items in
    let e = c.args.entry in
    let at = subst (λ ks. IsAt ks e.0 c.in-Ok.field-0) c.as_slice.ensures.value c.in-Ok.ensures.found in
    λ v. known_already known e _ v (sym (found_at known c.requires e.0 c.in-Ok.field-0 at e))

pub returns-in_ok-insert-in-Err-clause-ascend : goal.returns-in_ok-insert-in-Err-clause-ascend
returns-in_ok-insert-in-Err-clause-ascend c =
    let gap = subst (λ ks. IsGapFor ks c.args.entry.0 c.in-Err.place) c.as_slice.ensures.value c.in-Err.ensures.absent in
    subst EntriesAscend (sym c.in_ok-insert-in-Err.ensures.items) (ascend_in_gap c.args.known.items c.args.entry c.in-Err.place gap c.requires)

pub returns-in_ok-insert-in-Err-clause-known : goal.returns-in_ok-insert-in-Err-clause-known
returns-in_ok-insert-in-Err-clause-known c =
    let known = c.args.known.items in
    let e = c.args.entry in
    let gap = subst (λ ks. IsGapFor ks e.0 c.in-Err.place) c.as_slice.ensures.value c.in-Err.ensures.absent in
    λ v. known_added _ known e v (absent_in_gap known e c.in-Err.place gap) (ap (λ ks. known_at ks v) c.in_ok-insert-in-Err.ensures.items ∙ known_in_gap known e c.in-Err.place gap v)
