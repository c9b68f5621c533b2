use Rattle.std.proofs.Common.{◌≡◌, ◌∙◌, ◌<◌, ℕ, Bool, List, ap, arith, false, length, slice_index_or, subst, sym}
use Rattle.std.proofs.lemmas.List.{nil_from_length}
use Rattle.dk_graph.proofs.Places.{get_or-any, whole}
use Rattle.dk_hierarchy.proofs.Marks.{IsGoing, ended, going-first, going-left, going-on, less-on, parents-below, point-within, to_do}
use Rattle.dk_hierarchy.specs.Having.{Marking, marked_all}
use Rattle.dk_hierarchy.proofs.having.have_samples.Goals as goal

pub loop-child-init : goal.loop-child-init
loop-child-init c =
    going-first c.args.points.now c.len.ensures.acyclic c.args.engines.now c.requires c.in_ok-marks.marks.items c.in_ok-marks.ensures
    c.len.result c.len.ensures.len c.in_ok-waiting.waiting.items c.in_ok-waiting.ensures

pub index-requires : goal.index-requires
index-requires c =
    let within = point-within c.args.points.now c.len.ensures.acyclic c.args.engines.now c.loop-child.marks.items c.loop-child.waiting.items c.pop.new.self.items
    c.in-Some.child c.in-Some.ensures.items c.loop-child.invariant in
    let long = c.loop-child.invariant.0 in
    let len = c.loop-child.marks.ok.0 in
    omega (arith, within, long, len)

pub loop-child-preserved-then-not-index : goal.loop-child-preserved-then-not-index
loop-child-preserved-then-not-index c =
    let ps = c.args.points.now in
    let marks : List Bool = c.loop-child.marks.items in
    let within = point-within ps c.len.ensures.acyclic c.args.engines.now marks c.loop-child.waiting.items c.pop.new.self.items
    c.in-Some.child c.in-Some.ensures.items c.loop-child.invariant in
    let long = c.loop-child.invariant.0 in
    let mark : slice_index_or marks c.in-Some.child false ≡ c.index.result.now =
    get_or-any marks c.in-Some.child false c.index.result.now (omega (arith, within, long)) ∙ sym c.index.ensures in
    going-left ps c.len.ensures.acyclic c.args.engines.now marks c.loop-child.waiting.items c.pop.new.self.items
    c.in-Some.child c.in-Some.ensures.items c.loop-child.invariant (mark ∙ c.if-not-index.true)

pub from-row-requires : goal.from-row-requires
from-row-requires c =
    point-within c.args.points.now c.len.ensures.acyclic c.args.engines.now c.loop-child.marks.items c.loop-child.waiting.items c.pop.new.self.items
    c.in-Some.child c.in-Some.ensures.items c.loop-child.invariant

pub mark_parents-requires : goal.mark_parents-requires
mark_parents-requires c =
    parents-below (length c.args.points.now) c.in-Some.child c.from-row.result.now (length c.as_mut_slice.result.now) c.from-row.ensures.ends
    (ap length c.as_mut_slice.ensures.value ∙ c.loop-child.invariant.0)

pub loop-child-preserved : goal.loop-child-preserved
loop-child-preserved c =
    let ps = c.args.points.now in
    let old : List Bool = c.loop-child.marks.items in
    let new : List Bool = c.mark_parents.new.marks in
    let rest : List ℕ = c.pop.new.self.items in
    let row = c.from-row.result.now in
    let within = point-within ps c.len.ensures.acyclic c.args.engines.now old c.loop-child.waiting.items rest c.in-Some.child c.in-Some.ensures.items c.loop-child.invariant in
    let count = c.loop-child.invariant.0 in
    let mark : slice_index_or old c.in-Some.child false ≡ c.index.result.now =
    get_or-any old c.in-Some.child false c.index.result.now (omega (arith, within, count)) ∙ sym c.index.ensures in
    let slice : length new ≡ length c.as_mut_slice.result.now = c.mark_parents.auto.marks in
    let same : length new ≡ length old = slice ∙ ap length c.as_mut_slice.ensures.value in
    let long : length new ≡ c.loop-child.marks.len = slice ∙ c.as_mut_slice.ensures.len in
    let t : Marking = record { marks = new; waiting = c.mark_parents.new.waiting.items } in
    let is : t ≡ marked_all row (record { marks = old; waiting = rest }) =
    c.in_ok-mark_parents.ensures ∙ ap (λ (ms : List Bool). marked_all row (record { marks = ms; waiting = rest })) c.as_mut_slice.ensures.value in
    subst (λ (ms : List Bool). IsGoing ps c.args.engines.now ms c.mark_parents.new.waiting.items) (sym (whole c.loop-child.marks.len new old long same))
    (going-on ps c.len.ensures.acyclic c.args.engines.now old c.loop-child.waiting.items rest c.in-Some.child c.in-Some.ensures.items c.loop-child.invariant
    row c.from-row.ensures.edges c.from-row.ensures.ends t is (mark ∙ c.if-not-index.false))

pub loop-child-smaller : goal.loop-child-smaller
loop-child-smaller c =
    let ps = c.args.points.now in
    let old : List Bool = c.loop-child.marks.items in
    let new : List Bool = c.mark_parents.new.marks in
    let rest : List ℕ = c.pop.new.self.items in
    let row = c.from-row.result.now in
    let slice : length new ≡ length c.as_mut_slice.result.now = c.mark_parents.auto.marks in
    let same : length new ≡ length old = slice ∙ ap length c.as_mut_slice.ensures.value in
    let long : length new ≡ c.loop-child.marks.len = slice ∙ c.as_mut_slice.ensures.len in
    let t : Marking = record { marks = new; waiting = c.mark_parents.new.waiting.items } in
    let is : t ≡ marked_all row (record { marks = old; waiting = rest }) =
    c.in_ok-mark_parents.ensures ∙ ap (λ (ms : List Bool). marked_all row (record { marks = ms; waiting = rest })) c.as_mut_slice.ensures.value in
    subst (λ (ms : List Bool). to_do (record { marks = ms; waiting = c.mark_parents.new.waiting.items }) < to_do (record { marks = old; waiting = c.loop-child.waiting.items }))
    (sym (whole c.loop-child.marks.len new old long same))
    (less-on ps c.len.ensures.acyclic c.args.engines.now old c.loop-child.waiting.items rest c.in-Some.child c.in-Some.ensures.items c.loop-child.invariant
    row c.from-row.ensures.edges c.from-row.ensures.ends t is)

pub returns-clause-long : goal.returns-clause-long
returns-clause-long c = c.loop-child.invariant.0

pub returns-clause-marks : goal.returns-clause-marks
returns-clause-marks c =
    let none : length c.loop-child.waiting.items ≡ 0 = omega (arith, c.in_default.ensures.cases, c.loop-child.waiting.ok.0) in
    ended c.args.points.now c.len.ensures.acyclic c.args.engines.now c.loop-child.marks.items c.loop-child.waiting.items (nil_from_length c.loop-child.waiting.items none) c.loop-child.invariant
