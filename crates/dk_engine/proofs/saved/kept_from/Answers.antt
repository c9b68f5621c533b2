use Rattle.std.specs.Prelude.{◌≡◌, IfSome}
use Rattle.std.specs.List.Sorted.{IsPermutation}
use Rattle.std.proofs.Common.{◌∙◌, ap, refl, subst, sym}
use Rattle.std.proofs.lemmas.Option.{none-some, same_Some}
use Rattle.dk_classes.specs.Leaders.{own_leaders}
use Rattle.dk_snapshot.specs.Restored.{HaveEntries, HaveMembers, HavePatterns}
use Rattle.dk_engine.proofs.Saving.{entries_kept, have_all, members_kept, patterns_kept}
use Rattle.dk_engine.specs.declared.kept.Kept.{Kept}
use Rattle.dk_engine.specs.declared.saved.parts.Parts.{Parts}
use Rattle.dk_engine.proofs.saved.kept_from.Goals as goal

pub returns-in-None-2-clause-any : goal.returns-in-None-2-clause-any
returns-in-None-2-clause-any c = λ kept have.
    let count = c.args.count in
    let parts = c.args.parts in
    let found = c.in-Some.leaders in
    let leaders : found ≡ kept.leaders = same_Some found kept.leaders (sym c.in-Some.is ∙ (c.in_ok-leaders.ensures kept.leaders).1 (subst (λ cs. HaveMembers count cs kept.leaders) (sym c.as_slice.ensures) (members_kept count parts kept have))) in
    let own : c.leaders-2.result.now ≡ own_leaders kept.leaders = c.leaders-2.ensures.all ∙ ap own_leaders leaders in
    let patterns = subst (λ ls. HavePatterns ls parts.patterns kept.held) (sym own) (patterns_kept count parts kept have) in
    absurd ((c.in_ok-held.ensures.any kept.held patterns).0 c.in-None-2.is)

pub returns-clause-saved : goal.returns-clause-saved
returns-clause-saved c =
    let count = c.args.count in
    let parts = c.args.parts in
    let leaders = c.in-Some.leaders in
    let held = c.in-Some-2.held in
    let known = c.in-Some-3.known in
    let kept : Kept = record { samples = parts.samples; leaders = leaders; known = known; held = held; slots = c.of.result } in
    let members : HaveMembers count parts.classes leaders = subst (λ cs. HaveMembers count cs leaders) c.as_slice.ensures ((c.in_ok-leaders.ensures leaders).0 c.in-Some.is) in
    let patterns : HavePatterns c.leaders-2.result.now parts.patterns held = subst (λ r. IfSome r (HavePatterns c.leaders-2.result.now parts.patterns)) c.in-Some-2.is c.in_ok-held.ensures.saved in
    let over : HavePatterns (own_leaders leaders) parts.patterns held = subst (λ ls. HavePatterns ls parts.patterns held) c.leaders-2.ensures.all patterns in
    let entries : HaveEntries parts.known known = (c.in_ok-known.ensures known).0 c.in-Some-3.is in
    have_all count parts kept refl members over entries (c.of.ensures ∙ c.into_vec.ensures)

pub returns-clause-any : goal.returns-clause-any
returns-clause-any c = λ kept have.
    let count = c.args.count in
    let parts = c.args.parts in
    let found = c.in-Some.leaders in
    let held = c.in-Some-2.held in
    let known = c.in-Some-3.known in
    let leaders : found ≡ kept.leaders = same_Some found kept.leaders (sym c.in-Some.is ∙ (c.in_ok-leaders.ensures kept.leaders).1 (subst (λ cs. HaveMembers count cs kept.leaders) (sym c.as_slice.ensures) (members_kept count parts kept have))) in
    let own : c.leaders-2.result.now ≡ own_leaders kept.leaders = c.leaders-2.ensures.all ∙ ap own_leaders leaders in
    let patterns = subst (λ ls. HavePatterns ls parts.patterns kept.held) (sym own) (patterns_kept count parts kept have) in
    let entries : known ≡ kept.known = same_Some known kept.known (sym c.in-Some-3.is ∙ (c.in_ok-known.ensures kept.known).1 (entries_kept count parts kept have)) in
    let slots : c.of.result ≡ kept.slots = c.of.ensures ∙ (c.into_vec.ensures ∙ sym (ap (λ (p : Parts). p.slots) have.saved)) in (
      λ e. none-some _ (sym e),
      record {
        number = ap (λ (p : Parts). p.samples) have.saved;
        leaders = sym leaders;
        known = sym entries;
        held = subst (λ r. IfSome r (IsPermutation kept.held)) c.in-Some-2.is (c.in_ok-held.ensures.any kept.held patterns).1;
        slots = sym slots;
      },
    )
