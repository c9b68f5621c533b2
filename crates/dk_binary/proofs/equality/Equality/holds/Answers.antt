use Rattle.std.proofs.Common.{ap, sym, ◌∙◌, not, if◌then◌else◌}
use Rattle.dk_base.specs.Values.{values_of}
use Rattle.dk_binary.proofs.Relating.{equality_relation}
use Rattle.dk_binary.proofs.Takes.{equality_takes}
use Rattle.dk_binary.proofs.equality.Equality.holds.Goals as goal

pub are_equal-requires : goal.are_equal-requires
are_equal-requires c = equality_takes c.args.self.kind c.args.self.equal (values_of c.args.tuple.now) c.requires

pub returns : goal.returns
returns c =
    let r = c.args.self in
    c.same_or_opposite.ensures ∙ ap (λ s. if r.equal then s else not s) c.are_equal.ensures ∙ sym (equality_relation r.kind r.equal (values_of c.args.tuple.now))
