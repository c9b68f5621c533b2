use Rattle.std.specs.Prelude.{◌++◌, [], ◌∷◌, slice_index_or}
use Rattle.std.proofs.Common.{◌∙◌, ap, arith}
use Rattle.dk_base.specs.declared.kinds.VarId.{VarId}
use Rattle.dk_constants.specs.Known.{Entries}
use Rattle.dk_join.proofs.KnownSteps.{known_more}
use Rattle.dk_join.specs.Joined.{joined_known}
use Rattle.dk_join.proofs.constants.joined_known.Goals as goal

pub loop-v-preserved : goal.loop-v-preserved
loop-v-preserved c =
    let first = c.args.first.now.kept in
    let second = c.args.second.now.kept in
    let leaders = c.args.leaders.now in
    let i = c.loop-v.v-index in
    let d : VarId = record { 0 = 0 } in
    let test = c.loop-v-test.true in
    c.in_ok-known.ensures
    ∙ (ap (λ (known : Entries). known ++ joined_known first second (slice_index_or leaders i d ∷ [])) c.loop-v.invariant
    ∙ known_more first second leaders i d (omega (arith, test)))
