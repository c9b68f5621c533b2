use Rattle.std.specs.Prelude.{◌≡◌, ◌+◌, ◌<◌, drop, length, map, slice_index_or, take, true}
use Rattle.std.proofs.Common.{arith, rules, set, sym, ◌∙◌}
use Rattle.std.proofs.lemmas.List.{get_or_default}
use Rattle.dk_base.specs.declared.kinds.VarId.{VarId}
use Rattle.dk_template.specs.Admitted.{admits}
use Rattle.dk_filters.proofs.Somewhere.{admitted_all, admitted_items, any_fails, any_none, any_passes, next, somewhere_items, told_next}
use Rattle.dk_filters.specs.Choices.{all_from}
use Rattle.dk_filters.specs.Facts.{stands_there}
use Rattle.dk_filters.specs.Found.{listed_at}
use Rattle.dk_filters.specs.Parents.{answers_by}
use Rattle.dk_filters.proofs.parents.Sought.+stands_somewhere.Goals as goal

pub stands-requires : goal.stands-requires
stands-requires g t c =
    let s = c.args.self.now in
    admitted_all (admits s.row s.vars.now) c.args.listed.now c.args.tuple.now c.args.chosen c.args.role (omega (arith, c.if-role-tuple.true)) c.requires.admitted

pub stands_somewhere-requires : goal.stands_somewhere-requires
stands_somewhere-requires g t c =
    let s = c.args.self.now in
    let within : c.args.role < length c.args.tuple.now = omega (arith, c.if-role-tuple.false, c.requires.within) in
    let items = c.listed_for-w-items.result.now in
    let long : c.args.role < length c.args.chosen = omega (arith, within, c.requires.few) in
    let w : VarId = slice_index_or items c.loop-w.w-index (record { 0 = 0 }) in
    let admitted : all_from (admits s.row s.vars.now) (take (c.args.role + 1) (set c.args.chosen c.args.role w)) (map (listed_at c.args.listed.now) (drop (c.args.role + 1) c.args.tuple.now)) ≡ true =
    admitted_items (admits s.row s.vars.now) c.args.listed.now c.args.tuple.now c.args.chosen c.args.role items within c.listed_for-w-items.ensures c.requires.admitted long c.loop-w.w-index c.loop-w-test.true in
    λ κs low. (omega arith, (search rules, (c.requires.few, (omega arith, admitted))))

pub returns-then-branch-clause-state : goal.returns-then-branch-clause-state
returns-then-branch-clause-state g t c =
    let s = c.args.self.now in
    let stands = stands_there (answers_by s.vars.now (g.P.Answers.answered s.there.now) (g.P.Answers.counted s.there.now) (g.P.Answers.agreeing s.there.now)) s.row s.state.now in
    let within : c.args.role < length c.args.tuple.now = omega (arith, c.if-role-tuple.false, c.requires.within) in
    let items = c.listed_for-w-items.result.now in
    let long : c.args.role < length c.args.chosen = omega (arith, within, c.requires.few) in
    let w : VarId = slice_index_or items c.loop-w.w-index (record { 0 = 0 }) in
    let at : w ≡ slice_index_or items c.loop-w.w-index w = get_or_default items c.loop-w.w-index (record { 0 = 0 }) w c.loop-w-test.true in
    let answer : c.in_ok-stands_somewhere.field-0 ≡ next stands c.args.listed.now c.args.tuple.now c.args.chosen c.args.role w =
    c.in_ok-stands_somewhere.ensures.state ∙ told_next stands c.args.listed.now c.args.tuple.now c.args.chosen c.args.role w long in
    sym (somewhere_items stands c.args.listed.now c.args.tuple.now c.args.chosen c.args.role items within c.listed_for-w-items.ensures
    ∙ any_passes (next stands c.args.listed.now c.args.tuple.now c.args.chosen c.args.role) items c.loop-w.w-index w c.loop-w-test.true at c.loop-w.invariant (sym answer ∙ c.if-branch.true))

pub loop-w-preserved : goal.loop-w-preserved
loop-w-preserved g t c =
    let s = c.args.self.now in
    let stands = stands_there (answers_by s.vars.now (g.P.Answers.answered s.there.now) (g.P.Answers.counted s.there.now) (g.P.Answers.agreeing s.there.now)) s.row s.state.now in
    let within : c.args.role < length c.args.tuple.now = omega (arith, c.if-role-tuple.false, c.requires.within) in
    let items = c.listed_for-w-items.result.now in
    let long : c.args.role < length c.args.chosen = omega (arith, within, c.requires.few) in
    let w : VarId = slice_index_or items c.loop-w.w-index (record { 0 = 0 }) in
    let at : w ≡ slice_index_or items c.loop-w.w-index w = get_or_default items c.loop-w.w-index (record { 0 = 0 }) w c.loop-w-test.true in
    let answer : c.in_ok-stands_somewhere.field-0 ≡ next stands c.args.listed.now c.args.tuple.now c.args.chosen c.args.role w =
    c.in_ok-stands_somewhere.ensures.state ∙ told_next stands c.args.listed.now c.args.tuple.now c.args.chosen c.args.role w long in
    any_fails (next stands c.args.listed.now c.args.tuple.now c.args.chosen c.args.role) items c.loop-w.w-index w c.loop-w-test.true at c.loop-w.invariant (sym answer ∙ c.if-branch.false)

pub returns-clause-state : goal.returns-clause-state
returns-clause-state g t c =
    let s = c.args.self.now in
    let stands = stands_there (answers_by s.vars.now (g.P.Answers.answered s.there.now) (g.P.Answers.counted s.there.now) (g.P.Answers.agreeing s.there.now)) s.row s.state.now in
    let within : c.args.role < length c.args.tuple.now = omega (arith, c.if-role-tuple.false, c.requires.within) in
    let items = c.listed_for-w-items.result.now in
    sym (somewhere_items stands c.args.listed.now c.args.tuple.now c.args.chosen c.args.role items within c.listed_for-w-items.ensures
    ∙ any_none (next stands c.args.listed.now c.args.tuple.now c.args.chosen c.args.role) items c.loop-w.w-index c.loop-w-test.false c.loop-w.invariant)
