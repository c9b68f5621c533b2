use Rattle.std.specs.Prelude.{◌≡◌, ◌+◌, ◌++◌, ◌∷◌, [], Bool, if◌then◌else◌, slice_index_or, take, true, false}
use Rattle.std.proofs.Common.{◌∙◌, ap, get_or, sym}
use Rattle.dk_classes.specs.Leaders.{var}
use Rattle.dk_snapshot.proofs.Restoring.{chosen_more}
use Rattle.dk_snapshot.specs.Restored.{chosen_leaders}
use Rattle.std.proofs.lemmas.List.{append-nil}
use Rattle.dk_snapshot.proofs.presence.chosen_leaders.Goals as goal
use Rattle.dk_snapshot.proofs.presence.chosen_leaders.Goals.{then-is_true+in_ok-push, else-is_true}

pub loop-i-preserved : goal.loop-i-preserved
loop-i-preserved c =
    let leaders = c.args.leaders.now in
    let truths = c.args.truths.now in
    let i = c.loop-i.i in
    let leader = get_or leaders i (var 0) in
    let so_far = c.loop-i.invariant in
    let more : (b : Bool) → slice_index_or truths i false ≡ b → chosen_leaders (take (i + 1) leaders) truths ≡ c.loop-i.present ++ (if b then leader ∷ [] else []) =
    λ b e. chosen_more leaders truths i (var 0) c.loop-i-test.true ∙ (ap (λ vs. vs ++ (if slice_index_or truths i false then leader ∷ [] else [])) (sym so_far) ∙ ap (λ t. c.loop-i.present ++ (if t then leader ∷ [] else [])) e)
    in
    elim c.if-is_true.branch [
      | then-is_true+in_ok-push w ↦ w.present-is ∙ (w.in_ok-push.ensures.ok ∙ sym (more true (sym c.is_true.ensures ∙ w.if-is_true.true)))
      | else-is_true w ↦ w.present-is ∙ (sym (append-nil c.loop-i.present) ∙ sym (more false (sym c.is_true.ensures ∙ w.if-is_true.false)))
    ]
