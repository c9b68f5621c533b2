use Rattle.std.specs.Prelude.{◌<◌, All, length}
use Rattle.std.proofs.Common.{◌∙◌, ap, subst, sym}
use Rattle.dk_base.specs.declared.kinds.VarId.{VarId}
use Rattle.dk_constants.specs.Known.{EntriesAscend}
use Rattle.dk_snapshot.specs.Entries.{all_known_of}
use Rattle.dk_snapshot.specs.Patterns.{patterns_of}
use Rattle.dk_join.proofs.Joins.{parts_are_joined}
use Rattle.dk_join.proofs.Knowing.{known_ascend}
use Rattle.dk_join.proofs.Leading.{all_within_first, all_within_second}
use Rattle.dk_join.specs.Joined.{AreJoinedLeaders}
use Rattle.dk_presence.specs.Patterns.{AreHeld}
use Rattle.dk_join.proofs.joining.joined_parts.Goals as goal

pub joined_leaders-requires-clause-first : goal.joined_leaders-requires-clause-first
joined_leaders-requires-clause-first c = ap length c.classes.ensures ∙ (c.requires.one.first_leaders ∙ sym (ap length c.vars-count.ensures))

pub joined_leaders-requires-clause-second : goal.joined_leaders-requires-clause-second
joined_leaders-requires-clause-second c = ap length c.classes-2.ensures ∙ (c.requires.one.second_leaders ∙ sym (ap length c.vars-count.ensures))

pub joined_known-requires-clause-first : goal.joined_known-requires-clause-first
joined_known-requires-clause-first c =
    let first = c.args.first.now.kept.leaders in
    let second = c.args.second.now.kept.leaders in
    let joined = c.in_ok-joined.joined in
    let are : AreJoinedLeaders first second joined = subst (λ ls. AreJoinedLeaders first ls joined) c.classes-2.ensures (subst (λ ls. AreJoinedLeaders ls c.classes-2.result.now joined) c.classes.ensures c.in_ok-joined.ensures) in
    subst (λ ls. All (λ (v : VarId). v.0 < length first) ls) (sym c.leaders-leaders.ensures.all) (all_within_first first second joined are)

pub joined_known-requires-clause-second : goal.joined_known-requires-clause-second
joined_known-requires-clause-second c =
    let first = c.args.first.now.kept.leaders in
    let second = c.args.second.now.kept.leaders in
    let joined = c.in_ok-joined.joined in
    let are : AreJoinedLeaders first second joined = subst (λ ls. AreJoinedLeaders first ls joined) c.classes-2.ensures (subst (λ ls. AreJoinedLeaders ls c.classes-2.result.now joined) c.classes.ensures c.in_ok-joined.ensures) in
    subst (λ ls. All (λ (v : VarId). v.0 < length second) ls) (sym c.leaders-leaders.ensures.all) (all_within_second first second joined (c.requires.one.second_leaders ∙ sym c.requires.one.first_leaders) are)

pub joined_slots-requires-clause-leaders : goal.joined_slots-requires-clause-leaders
joined_slots-requires-clause-leaders c =
    let first = c.args.first.now.kept.leaders in
    let second = c.args.second.now.kept.leaders in
    let joined = c.in_ok-joined.joined in
    let are : AreJoinedLeaders first second joined = subst (λ ls. AreJoinedLeaders first ls joined) c.classes-2.ensures (subst (λ ls. AreJoinedLeaders ls c.classes-2.result.now joined) c.classes.ensures c.in_ok-joined.ensures) in
    record {
      first = subst (λ ls. All (λ (v : VarId). v.0 < length first) ls) (sym c.leaders-leaders.ensures.all) (all_within_first first second joined are);
      second = subst (λ ls. All (λ (v : VarId). v.0 < length second) ls) (sym c.leaders-leaders.ensures.all) (all_within_second first second joined (c.requires.one.second_leaders ∙ sym c.requires.one.first_leaders) are);
    }

pub from_known-requires : goal.from_known-requires
from_known-requires c =
    subst EntriesAscend (sym c.in_ok-values.ensures) (known_ascend c.args.first.now.kept c.args.second.now.kept c.leaders-leaders.result.now c.leaders-leaders.ensures.ascend)

pub joined_patterns-requires-clause-first : goal.joined_patterns-requires-clause-first
joined_patterns-requires-clause-first c =
    let first = c.args.first.now.kept.leaders in
    let second = c.args.second.now.kept.leaders in
    let joined = c.in_ok-joined.joined in
    let are : AreJoinedLeaders first second joined = subst (λ ls. AreJoinedLeaders first ls joined) c.classes-2.ensures (subst (λ ls. AreJoinedLeaders ls c.classes-2.result.now joined) c.classes.ensures c.in_ok-joined.ensures) in
    subst (λ ls. All (λ (v : VarId). v.0 < length first) ls) (sym c.leaders-leaders.ensures.all) (all_within_first first second joined are)

pub joined_patterns-requires-clause-second : goal.joined_patterns-requires-clause-second
joined_patterns-requires-clause-second c =
    let first = c.args.first.now.kept.leaders in
    let second = c.args.second.now.kept.leaders in
    let joined = c.in_ok-joined.joined in
    let are : AreJoinedLeaders first second joined = subst (λ ls. AreJoinedLeaders first ls joined) c.classes-2.ensures (subst (λ ls. AreJoinedLeaders ls c.classes-2.result.now joined) c.classes.ensures c.in_ok-joined.ensures) in
    subst (λ ls. All (λ (v : VarId). v.0 < length second) ls) (sym c.leaders-leaders.ensures.all) (all_within_second first second joined (c.requires.one.second_leaders ∙ sym c.requires.one.first_leaders) are)

pub classes_in_order-requires : goal.classes_in_order-requires
classes_in_order-requires c =
    ap length c.vars-count.ensures ∙ (sym c.requires.one.first_leaders ∙ (ap length (sym c.classes.ensures) ∙ sym c.in_ok-joined.ensures.long))

pub patterns_in_order-requires-clause-held : goal.patterns_in_order-requires-clause-held
patterns_in_order-requires-clause-held c = subst AreHeld (sym c.as_slice.ensures) c.in_ok-held.ensures.form

pub returns : goal.returns
returns c =
    let first = c.args.first.now in
    let second = c.args.second.now.kept in
    let joined = c.in_ok-joined.joined in
    let own = c.leaders-leaders.result.now in
    let are : AreJoinedLeaders first.kept.leaders second.leaders joined = subst (λ ls. AreJoinedLeaders first.kept.leaders ls joined) c.classes-2.ensures (subst (λ ls. AreJoinedLeaders ls c.classes-2.result.now joined) c.classes.ensures c.in_ok-joined.ensures) in
    parts_are_joined first.grammar first.infos first.kept second joined own c.leaders-leaders.ensures.all are
    c.in_ok-known.known (c.in_ok-known.ensures ∙ c.in_ok-values.ensures)
    c.in_ok-held.held c.in_ok-held.ensures
    c.in_ok-slots.slots c.in_ok-slots.ensures
    c.number_of_both.result c.number_of_both.ensures
    c.in_ok-members.members c.in_ok-members.ensures
    c.in_ok-patterns.patterns (c.in_ok-patterns.ensures ∙ ap (patterns_of own) c.as_slice.ensures)
    c.in_ok-constants.constants (c.in_ok-constants.ensures ∙ ap all_known_of c.entries.ensures.all)
