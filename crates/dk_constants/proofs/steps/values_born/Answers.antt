use Rattle.std.proofs.Common.{◌≡◌, ap, sym, ◌∙◌, ◌∷◌, [], ◌++◌, get_or, take, append-nil}
use Rattle.std.specs.Option.{option_to_list}
use Rattle.dk_base.specs.declared.kinds.VarId.{VarId}
use Rattle.dk_constants.specs.Known.{born_of, born_one}
use Rattle.dk_constants.proofs.Lookups.{born_more}
use Rattle.dk_constants.proofs.steps.values_born.Goals as goal
use Rattle.dk_constants.proofs.steps.values_born.Goals.{in-Some+in_ok-push, in_default}

pub loop-leader-preserved : goal.loop-leader-preserved
loop-leader-preserved c =
    let known = c.args.known.now in
    let new = c.args.new.now in
    let i = c.loop-leader.leader-index in
    let d : VarId × VarId = (record { 0 = 0 }, record { 0 = 0 }) in
    let more = born_more known new i d c.loop-leader-test.true in
    let told : c.in_ok-entry.field-0 ≡ born_one known (get_or new i d) = c.in_ok-entry.ensures in
    elim c.match-branch-2.branch [
      | in-Some+in_ok-push w ↦
          ap (λ b. b.items) w.born-is ∙ (w.in_ok-push.ensures.items ∙ (ap (λ es. es ++ w.in-Some.entry ∷ []) c.loop-leader.invariant
          ∙ (ap (λ o. born_of known (take i new) ++ option_to_list o) (sym w.in-Some.is ∙ told) ∙ sym more)))
      | in_default w ↦
          ap (λ b. b.items) w.born-is ∙ (c.loop-leader.invariant ∙ (sym (append-nil (born_of known (take i new)))
          ∙ (ap (λ o. born_of known (take i new) ++ option_to_list o) (sym w.in_default.is ∙ told) ∙ sym more)))
    ]
