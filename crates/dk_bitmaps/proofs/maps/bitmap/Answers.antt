use Rattle.std.proofs.Common.{◌*◌, All, List, ap, arith, drop, length, subst, sym}
use Rattle.std.proofs.lemmas.List.{length-take}
use Rattle.std.proofs.lemmas.List.Elements.{All-drop, All-take}
use Rattle.dk_presence.specs.declared.held.Held.{Held}
use Rattle.dk_samples.specs.Leaders.{VarsAscend}
use Rattle.dk_bitmaps.proofs.maps.bitmap.Goals as goal

pub word-requires-clause-few : goal.word-requires-clause-few
word-requires-clause-few c =
    let long = ap (λ (hs : List Held). length hs) c.block.ensures in
    let most = length-take 64 (drop (c.loop-j.j * 64) c.args.held.now) in
    omega (arith, long, most)

pub word-requires-clause-ascend : goal.word-requires-clause-ascend
word-requires-clause-ascend c =
    let Ascend = λ (h : Held). VarsAscend h.leaders in
    subst (All Ascend) (sym c.block.ensures) (All-take Ascend 64 (drop (c.loop-j.j * 64) c.args.held.now) (All-drop Ascend (c.loop-j.j * 64) c.args.held.now c.requires))
