use Rattle.std.proofs.Common.{length, refl}
use Rattle.std.proofs.lemmas.Option.{slice_get_read}
use Rattle.dk_base.specs.Shapes.{shape_of}
use Rattle.dk_derive.proofs.Deriving.{index_pushed}
use Rattle.dk_derive.proofs.derived.push_by_indices.Goals as goal

pub loop-place-preserved : goal.loop-place-preserved
loop-place-preserved c =
    index_pushed c.args.base.now (c.args.s.0, shape_of c.args.sequence.now) c.args.sequence.now c.index-base-place.result c.loop-place.place
    c.loop-place.vars c.push_by_index.new.vars _ c.requires.there
    (slice_get_read c.args.base.now (length c.args.base.now) c.loop-place.place c.index-base-place.result refl c.loop-place-test.true c.index-base-place.is)
    c.in_ok-push_by_index.ensures c.loop-place.invariant
