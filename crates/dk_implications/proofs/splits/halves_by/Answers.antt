use Rattle.std.specs.Prelude.{◌≡◌, ◌++◌, ◌∷◌, All, [], map, take}
use Rattle.std.proofs.Common.{ap, subst, sym, ◌∙◌}
use Rattle.std.proofs.lemmas.List.{map-append, take_more}
use Rattle.std.proofs.lemmas.List.Elements.{All-push}
use Rattle.dk_base.specs.declared.kinds.VarId.{VarId}
use Rattle.dk_hierarchy.specs.Samples.{all_vars_of}
use Rattle.dk_implications.specs.Standing.{AreOver, HalvesStandFor}
use Rattle.dk_implications.specs.declared.halves.Halves.{Halves}
use Rattle.dk_implications.proofs.splits.halves_by.Goals as goal

pub loop-b-preserved : goal.loop-b-preserved
loop-b-preserved c =
    let all = c.loop-b.all.items in
    let bools = c.args.bools.now in
    let i = c.loop-b.b-index in
    let halves : Halves = c.in_ok-new.field-0 in
    let none : VarId = record { 0 = 0 } in
    let Over : Halves → Type 0 = AreOver c.args.grammar (all_vars_of c.args.points.now c.args.p.0) in
    let Stand : Halves → Type 0 = λ h. HalvesStandFor h [] in
    let items : c.push.new.self.items ≡ all ++ halves ∷ [] = c.in_ok-push.ensures.items in
    record {
      conditions =
          ap (map (λ (h : Halves). h.condition)) items
          ∙ (map-append (λ (h : Halves). h.condition) all (halves ∷ [])
          ∙ (ap (λ vs. vs ++ halves.condition ∷ []) c.loop-b.invariant.conditions
          ∙ (ap (λ v. take i bools ++ v ∷ []) c.in_ok-new.ensures.condition
          ∙ sym (take_more bools i none c.loop-b-test.true))));
      over = subst (All Over) (sym items) (All-push Over all halves c.loop-b.invariant.over c.in_ok-new.ensures.over);
      stand = subst (All Stand) (sym items) (All-push Stand all halves c.loop-b.invariant.stand c.in_ok-new.ensures.stand);
    }
