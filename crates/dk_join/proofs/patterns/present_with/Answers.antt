use Rattle.std.specs.Prelude.{◌≡◌, ◌<◌, ◌+◌, ◌++◌, [], ◌∷◌, Bool, true, false, if◌then◌else◌, length, slice_index_or, take}
use Rattle.std.proofs.Common.{◌∙◌, ap, arith, sym}
use Rattle.std.proofs.lemmas.List.{append-nil, get_or_default}
use Rattle.dk_base.specs.declared.kinds.VarId.{VarId}
use Rattle.dk_engine.specs.Reading.Parts.{leader_of}
use Rattle.dk_join.proofs.Lists.{filter_step}
use Rattle.dk_join.specs.Joined.{present_with}
use Rattle.dk_presence.specs.Patterns.{has}
use Rattle.dk_join.proofs.patterns.present_with.Goals as goal
use Rattle.dk_join.proofs.patterns.present_with.Goals.{then-is_present_with+in_ok-push, else-is_present_with}

pub loop-v-preserved : goal.loop-v-preserved
loop-v-preserved c =
    let old = c.args.old.now in
    let leaders = c.args.leaders.now in
    let present = c.args.present.now in
    let i = c.loop-v.v-index in
    let none : VarId = record { 0 = 0 } in
    let d : VarId = slice_index_or leaders i none in
    let test = c.loop-v-test.true in
    let l : i < length leaders = omega (arith, test) in
    let more : (b : Bool) → has present (leader_of old d) ≡ b → present_with old (take (i + 1) leaders) present ≡ c.loop-v.now ++ (if b then d ∷ [] else []) =
    λ b e. filter_step (λ v. has present (leader_of old v)) leaders i d l (get_or_default leaders i none d l) b e ∙ ap (λ vs. vs ++ (if b then d ∷ [] else [])) (sym c.loop-v.invariant)
    in
    elim c.if-is_present_with.branch [
      | then-is_present_with+in_ok-push w ↦ w.now-is ∙ (w.in_ok-push.ensures.ok ∙ sym (more true (sym c.is_present_with.ensures ∙ w.if-is_present_with.true)))
      | else-is_present_with w ↦ w.now-is ∙ (sym (append-nil c.loop-v.now) ∙ sym (more false (sym c.is_present_with.ensures ∙ w.if-is_present_with.false)))
    ]
