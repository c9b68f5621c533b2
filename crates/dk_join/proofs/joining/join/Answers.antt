use Rattle.std.specs.Prelude.{◌≡◌, Err, List, length}
use Rattle.std.proofs.Common.{◌∙◌, ap, subst, sym}
use Rattle.dk_base.specs.declared.kinds.VarInfo.{VarInfo}
use Rattle.dk_base.specs.declared.values.Value.{Value}
use Rattle.dk_engine.specs.Exact.{AreOfPoint, AreSamples, IsKeptOf}
use Rattle.dk_engine.specs.Saved.{AreSavedParts, parts_of}
use Rattle.dk_engine.specs.declared.kept.Kept.{Kept}
use Rattle.dk_engine.specs.declared.saved.PartsFault.{PartsFault}
use Rattle.dk_template.specs.declared.grammar.Grammar.{Grammar}
use Rattle.dk_join.proofs.Joins.{few_are_saved, none_is_saved, stands_for_both}
use Rattle.dk_join.specs.Joined.{AreJoinedParts}
use Rattle.dk_join.proofs.joining.join.Goals as goal

pub joined_parts-requires-clause-one : goal.joined_parts-requires-clause-one
joined_parts-requires-clause-one c = record {
  alike = c.requires.alike;
  point = c.tell_leaders.ensures.point;
  first_leaders = c.tell_leaders.ensures.long;
  second_leaders = c.tell_leaders-2.ensures.long ∙ ap length c.requires.alike.infos;
}

pub from_parts-requires : goal.from_parts-requires
from_parts-requires c = subst AreOfPoint (sym (c.in_ok-vars.ensures ∙ c.vars.ensures)) c.tell_leaders.ensures.point

pub returns-in-Ok-clause-parts : goal.returns-in-Ok-clause-parts
returns-in-Ok-clause-parts c =
    let first = c.args.first.now in
    subst (AreJoinedParts first.grammar first.infos first.kept c.args.second.now.kept) (sym c.in-Ok.ensures.parts) c.in_ok-parts.ensures

pub returns-in-Ok-clause-saved : goal.returns-in-Ok-clause-saved
returns-in-Ok-clause-saved c =
    let first = c.args.first.now in
    let own : c.in_ok-vars.vars ≡ first.infos = c.in_ok-vars.ensures ∙ c.vars.ensures in
    let by : AreSavedParts first.grammar first.infos c.in_ok-parts.parts = subst (λ g. AreSavedParts g first.infos c.in_ok-parts.parts) c.grammar.ensures
    (subst (λ vars. AreSavedParts c.grammar.result vars c.in_ok-parts.parts) own c.in-Ok.ensures.conditions) in
    subst (AreSavedParts first.grammar first.infos) (sym c.in-Ok.ensures.parts) by

pub returns-in-Ok-clause-stands : goal.returns-in-Ok-clause-stands
returns-in-Ok-clause-stands c = λ samples others are.
    let first = c.args.first.now in
    let own : c.in_ok-vars.vars ≡ first.infos = c.in_ok-vars.ensures ∙ c.vars.ensures in
    let e = c.in-Ok.engine in
    let Stands : Grammar → List VarInfo → Type 0 = λ g vars. (all : List (List Value)) (kept : Kept) → AreSamples vars all → IsKeptOf g vars all kept
    → parts_of kept ≡ c.in_ok-parts.parts → IsKeptOf g vars all e.kept in
    let stands : Stands first.grammar first.infos = subst (λ g. Stands g first.infos) c.grammar.ensures (subst (Stands c.grammar.result) own c.in-Ok.ensures.stands) in
    stands_for_both first.grammar first.infos first.kept c.args.second.now.kept c.in_ok-parts.parts c.in_ok-parts.ensures c.tell_leaders.ensures.point c.requires.first c.requires.second samples others are e.kept stands

pub returns-in-Err-Bad-clause-joined : goal.returns-in-Err-Bad-clause-joined
returns-in-Err-Bad-clause-joined c = λ _ parts joined saved.
    let first = c.args.first.now in
    let own : c.in_ok-vars.vars ≡ first.infos = c.in_ok-vars.ensures ∙ c.vars.ensures in
    none_is_saved first.grammar first.infos first.kept c.args.second.now.kept c.in_ok-parts.parts c.in_ok-parts.ensures
    (λ s. c.in-Err-Bad.ensures.bad (ap (λ (e : PartsFault). Err e) c.in-Err-Bad.field-0-is)
    (subst (λ g. AreSavedParts g c.in_ok-vars.vars c.in_ok-parts.parts) (sym c.grammar.ensures) (subst (λ vars. AreSavedParts first.grammar vars c.in_ok-parts.parts) (sym own) s)))
    parts joined saved

pub returns-in-Err-Bad-clause-few : goal.returns-in-Err-Bad-clause-few
returns-in-Err-Bad-clause-few c = λ samples others are few _.
    let first = c.args.first.now in
    let own : c.in_ok-vars.vars ≡ first.infos = c.in_ok-vars.ensures ∙ c.vars.ensures in
    let saved = few_are_saved first.grammar first.infos first.kept c.args.second.now.kept c.in_ok-parts.parts c.in_ok-parts.ensures c.tell_leaders.ensures.point c.requires.first c.requires.second samples others are few in
    c.in-Err-Bad.ensures.bad (ap (λ (e : PartsFault). Err e) c.in-Err-Bad.field-0-is)
    (subst (λ g. AreSavedParts g c.in_ok-vars.vars c.in_ok-parts.parts) (sym c.grammar.ensures) (subst (λ vars. AreSavedParts first.grammar vars c.in_ok-parts.parts) (sym own) saved))
