use Rattle.std.specs.Prelude.{◌≡◌, ◌<◌, ◌+◌, ◌-◌, ◌++◌, ℕ, suc, List}
use Rattle.std.proofs.Common.{◌∙◌, ap, append-nil, append_assoc, arith, sym}
use Rattle.dk_template.specs.declared.answers.Premise.{Premise}
use Rattle.dk_join.specs.Watched.{premises_below, watched, with_below}
use Rattle.dk_join.proofs.watching.watched.Goals as goal

-- a level goes behind the list
level_more : (n counter : ℕ) → counter < n → (list level : List Premise) → (list ++ level) ++ with_below (n - (counter + 1)) (premises_below level) ≡ list ++ with_below (n - counter) level
level_more n counter l list level =
    let less : n - counter ≡ suc (n - (counter + 1)) = omega (arith, l) in
    append_assoc list level (with_below (n - (counter + 1)) (premises_below level)) ∙ ap (λ k. list ++ with_below k level) (sym less)

pub loop-init : goal.loop-init
unfolding watched
loop-init c = ap (λ ps. ps ++ with_below 3 c.in_ok-level.level.items) c.new-list.ensures.items ∙ ap (with_below 3) c.in_ok-level.ensures

pub loop-preserved : goal.loop-preserved
loop-preserved c =
    let list = c.loop.list.items in
    let level = c.loop.level.items in
    let counter = c.loop.counter in
    let test = c.loop-test.true in
    let before : c.extend_from_slice.new.self.items ≡ list ++ level = c.in_ok-extend_from_slice.ensures.items ∙ ap (λ ps. list ++ ps) c.as_slice.ensures.value in
    let below : c.in_ok-level-2.level.items ≡ premises_below level = c.in_ok-level-2.ensures ∙ ap premises_below c.as_slice-in-loop.ensures.value in
    ap (λ ps. ps ++ with_below (3 - (counter + 1)) c.in_ok-level-2.level.items) before
    ∙ (ap (λ ps. (list ++ level) ++ with_below (3 - (counter + 1)) ps) below
    ∙ (level_more 3 counter (omega (arith, test)) list level ∙ c.loop.invariant))

pub returns : goal.returns
returns c =
    let list = c.loop.list.items in
    let level = c.loop.level.items in
    let test = c.loop-test.false in
    let end = c.loop.auto.counter-end in
    let last : c.loop.counter ≡ 3 = omega (arith, test, end) in
    sym (append-nil list) ∙ (sym (ap (λ k. list ++ with_below (3 - k) level) last) ∙ c.loop.invariant)
