use Rattle.std.proofs.Common.{◌≡◌, List, ap, subst}
use Rattle.dk_points.specs.Table.{Point}
use Rattle.dk_trace.specs.Whole.{StandsWhole}
use Rattle.dk_blocks.specs.Fitting.{FitAt}
use Rattle.dk_base.specs.Values.{values_of}
use Rattle.dk_blocks.specs.Keeping.{Keeping}
use Rattle.dk_blocks.proofs.AtHand.{hand_fits}
use Rattle.dk_blocks.proofs.kept.ReaderParts.whole_record.Goals as goal

pub returns-then-begins_record : goal.returns-then-begins_record
returns-then-begins_record c =
    let points : c.self.inside.points ≡ c.args.self.now.points = ap (λ (k : Keeping). k.points) c.self.view_is in
    let stands : StandsWhole c.self.inside.points c.args.number c.args.bytes.now c.in-Ok-Some.whole = rw c.in-Ok-Some.field-0-is at c.in-Ok-Some.ensures in
    record {
      stands = subst (λ (ps : List Point). StandsWhole ps c.args.number c.args.bytes.now c.in-Ok-Some.whole) points stands;
      begins = c.begins_record.ensures c.if-begins_record.true;
      fits = subst (λ (ps : List Point). FitAt ps c.in-Ok-Some.whole.sample.point.0 (values_of c.in-Ok-Some.whole.sample.values.now)) points
          (hand_fits c.self.inside.points c.args.number c.args.bytes.now c.in-Ok-Some.whole c.self.invariant.constants stands);
    }
