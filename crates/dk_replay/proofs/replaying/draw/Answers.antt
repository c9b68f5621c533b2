use Rattle.std.specs.Prelude.{◌≡◌, ◌-◌, All, List, Some, length, option_copied, slice_get}
use Rattle.std.proofs.Common.{ap, subst, sym, ◌∙◌}
use Rattle.dk_base.specs.Values.{values_of}
use Rattle.dk_base.specs.Values.Spelling.{IsWritten}
use Rattle.dk_base.specs.declared.values.View.{View}
use Rattle.dk_replay.proofs.Drawing.{written_got}
use Rattle.dk_replay.proofs.replaying.draw.Goals as goal

pub sample-requires : goal.sample-requires
sample-requires c =
    let all : List (List View) = c.args.samples.now in
    let k = length all - 1 in
    let got : slice_get all k ≡ Some c.in-Some.last.now = sym c.last.ensures.value ∙ ap option_copied c.in-Some.is in
    subst (λ (s : List View). All IsWritten (values_of s)) (sym c.as_slice.ensures) (written_got c.args.engine.now.infos all k c.in-Some.last.now got c.requires)
