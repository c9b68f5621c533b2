use Rattle.std.specs.Prelude.{◌≡◌, ◌<◌, ◌+◌, ◌≤◌, ◌++◌, [], ◌∷◌, List, false, length, min, slice_index_or, slice_set, true}
use Rattle.std.proofs.Common.{◌∙◌, ap, arith, get_or, sym}
use Rattle.std.proofs.lemmas.List.{get_or_read, take_all}
use Rattle.dk_hierarchy.proofs.Adding.{like_found, none_like, unlike_stays}
use Rattle.dk_hierarchy.specs.Ways.{same_way}
use Rattle.dk_hierarchy.specs.declared.way.Way.{Way}
use Rattle.dk_hierarchy.proofs.levels.with_way.Goals as goal

pub returns-then-same_way : goal.returns-then-same_way
returns-then-same_way c =
    let ways = c.args.ways in
    let way = c.args.way in
    let i = c.loop-i.i in
    let d : Way = c.index.result.now in
    let same = c.loop-i.invariant.0 in
    let now = ap length same in
    let first = ap length c.into_vec-all.ensures in
    let within : i < length ways = omega (arith, now, first, c.loop-i-test.true) in
    let at : (x : Way) → x ≡ slice_index_or c.loop-i.all.items i x → x ≡ get_or ways i d = λ x is. get_or_read ways i x within (is ∙ ap (λ (ws : List Way). slice_index_or ws i x) same) d in
    let like : same_way (get_or ways i d) way ≡ true = ap (λ (w : Way). same_way w way) (sym (at d c.index.ensures)) ∙ sym c.if-same_way.ensures in
    let paths = c.saturating_add.ensures ∙ ap (λ (w : Way). min (w.paths + way.paths) 18446744073709551615) (at c.index-then-same_way.result.now c.index-then-same_way.ensures) in
    c.from_vec.ensures
    ∙ (ap (λ (ws : List Way). slice_set ws i (record { point = c.index_mut.result.now.point; partners = c.index_mut.result.now.partners; paths = c.saturating_add.result })) same
    ∙ (ap (λ (w : Way). slice_set ways i (record { point = w.point; partners = w.partners; paths = c.saturating_add.result })) (at c.index_mut.result.now c.index_mut.ensures.value)
    ∙ (ap (λ n. slice_set ways i (record { point = (get_or ways i d).point; partners = (get_or ways i d).partners; paths = n })) paths
    ∙ like_found ways way i d within like c.loop-i.invariant.1)))

pub loop-i-preserved : goal.loop-i-preserved
loop-i-preserved c =
    let ways = c.args.ways in
    let way = c.args.way in
    let i = c.loop-i.i in
    let d : Way = c.index.result.now in
    let same = c.loop-i.invariant.0 in
    let now = ap length same in
    let first = ap length c.into_vec-all.ensures in
    let within : i < length ways = omega (arith, now, first, c.loop-i-test.true) in
    let at : d ≡ get_or ways i d = get_or_read ways i d within (c.index.ensures ∙ ap (λ (ws : List Way). slice_index_or ws i d) same) d in
    let unlike : same_way (get_or ways i d) way ≡ false = ap (λ (w : Way). same_way w way) (sym at) ∙ (sym c.same_way.ensures ∙ c.if-same_way.false) in
    (same, unlike_stays ways way i d within unlike c.loop-i.invariant.1)

pub returns : goal.returns
returns c =
    let ways = c.args.ways in
    let first = ap length c.into_vec-all.ensures in
    let past : length ways ≤ c.loop-i.i = omega (arith, first, c.loop-i-test.false) in
    c.from_vec-2.ensures
    ∙ (c.in_ok-push.ensures.items ∙ (ap (λ (ws : List Way). ws ++ c.args.way ∷ []) c.loop-i.invariant.0 ∙ none_like ways c.args.way c.loop-i.i past (take_all c.loop-i.i ways past) c.loop-i.invariant.1))
