use Rattle.std.proofs.Common.{◌≡◌, ◌+◌, ◌*◌, ◌/◌, All, List, ap, arith, drop, length, rules, subst, sym}
use Rattle.std.proofs.lemmas.List.{length-take}
use Rattle.std.proofs.lemmas.List.Elements.{All-drop, All-take}
use Rattle.dk_presence.specs.declared.held.Held.{Held}
use Rattle.dk_samples.specs.Leaders.{VarsAscend}
use Rattle.dk_engine.specs.Saved.Bitmaps.{AreBegun, IsRowOf}
use Rattle.dk_engine.proofs.MappingFacts.{begun_more}
use Rattle.dk_engine.proofs.saved.mapping.bitmaps.Goals as goal

pub block_row-requires-clause-few : goal.block_row-requires-clause-few
block_row-requires-clause-few c =
    let long = ap (λ (hs : List Held). length hs) c.block.ensures in
    let most = length-take 64 (drop (c.loop-j.j * 64) c.args.held.now) in
    omega (arith, long, most)

pub block_row-requires-clause-ascend : goal.block_row-requires-clause-ascend
block_row-requires-clause-ascend c =
    subst (All (λ (h : Held). VarsAscend h.leaders)) (sym c.block.ensures)
    (All-take (λ (h : Held). VarsAscend h.leaders) 64 (drop (c.loop-j.j * 64) c.args.held.now) (All-drop (λ (h : Held). VarsAscend h.leaders) (c.loop-j.j * 64) c.args.held.now c.requires.ascend))

pub loop-j-preserved : goal.loop-j-preserved
loop-j-preserved c =
    let leaders = c.args.leaders.now in
    let block = c.block.result.now in
    let row = c.as_slice.result.now in
    let same : row ≡ c.in_ok-row.row.items = search rules in
    begun_more c.args.held.now leaders c.loop-j.j block c.loop-j.maps.items c.push_row.new.maps.items row c.loop-j.invariant c.block.ensures
    (subst (IsRowOf leaders block) (sym same) c.in_ok-row.ensures) c.in_ok-push_row.ensures.long c.in_ok-push_row.ensures.each

pub returns : goal.returns
returns c =
    let past = c.loop-j-test.false in
    let most = c.loop-j.auto.j-end in
    let whole : c.loop-j.j ≡ length c.args.held.now / 64 + 1 = omega (arith, past, most) in
    subst (λ n. AreBegun c.args.held.now c.args.leaders.now n c.loop-j.maps.items) whole c.loop-j.invariant
