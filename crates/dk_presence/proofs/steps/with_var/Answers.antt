use Rattle.std.proofs.Common.{◌≡◌, ◌∙◌, ap, sym, rules, subst, arith, true, false, leb}
use Rattle.std.specs.List.{insert}
use Rattle.std.specs.List.Sorted.{IsPartitionPoint}
use Rattle.std.proofs.lemmas.Bool.Decides.{nat_tests}
use Rattle.std.proofs.lemmas.List.Sorted.{IsPartitionPoint-from_clause, IsPartitionedBy-leb}
use Rattle.dk_base.specs.declared.kinds.VarId.{VarId}
use Rattle.dk_samples.specs.Leaders.{VarsAscend}
use Rattle.dk_presence.specs.Steps.{put}
use Rattle.dk_presence.proofs.Finding.{numbers_rise, put_at}
use Rattle.dk_presence.proofs.steps.with_var.Goals as goal

pub returns : goal.returns
returns c =
    let vars = c.as_slice.result.now in
    let place = c.partition_point-place.result in
    let up = subst VarsAscend (sym c.as_slice.ensures.value) c.requires.ascend in
    let parted : IsPartitionPoint (λ (w : VarId). leb w.0 c.args.v.0 ≡ true) (λ w. leb w.0 c.args.v.0 ≡ false) vars place =
    IsPartitionPoint-from_clause (λ w. leb w.0 c.args.v.0) vars place c.partition_point-place.ensures.partitioned (IsPartitionedBy-leb (λ w. w.0) vars c.args.v.0 (numbers_rise vars up)) (λ a r f called. search rules) in
    let none : VarId = record { 0 = 0 } in
    let behind = put_at c.args.v vars place c.partition_point-place.ensures.bound
    (λ k lt. let low = parted.0 k none (omega arith) lt in grind (arith, nat_tests, low))
    (λ k le lt. let high = parted.1 k none le lt in grind (arith, nat_tests, high)) in
    c.in_ok-insert.ensures.items ∙ (ap (λ xs. insert xs place c.args.v) (sym c.as_slice.ensures.value) ∙ (sym behind ∙ ap (put c.args.v) c.as_slice.ensures.value))
