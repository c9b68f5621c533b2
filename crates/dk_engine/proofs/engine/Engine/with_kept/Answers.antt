use Rattle.std.specs.Prelude.{All, List}
use Rattle.std.proofs.Common.{◌∙◌, subst, sym}
use Rattle.std.proofs.lemmas.Bool.{false≢true}
use Rattle.dk_base.specs.declared.kinds.VarInfo.{VarInfo}
use Rattle.dk_presence.specs.declared.held.Held.{Held}
use Rattle.dk_samples.specs.Leaders.{VarsAscend}
use Rattle.dk_engine.proofs.Saving.{open_can_be_fed, open_parts, parts_from_open}
use Rattle.dk_engine.specs.Saved.Restored.{AreOpen}
use Rattle.dk_engine.proofs.engine.Engine.with_kept.Goals as goal

pub bitmaps-requires-clause-ascend : goal.bitmaps-requires-clause-ascend
bitmaps-requires-clause-ascend c = subst (λ (hs : List Held). All (λ (h : Held). VarsAscend h.leaders) hs) (sym c.held.ensures.all) c.held.ensures.held.ascend

pub returns-then-not-is_open-clause-none : goal.returns-then-not-is_open-clause-none
returns-then-not-is_open-clause-none c = λ _ are.
    absurd (false≢true (sym c.if-not-is_open.true
    ∙ c.is_open.ensures.1 (subst (λ (infos : List VarInfo). AreOpen c.args.grammar infos c.args.kept) (sym c.as_slice.ensures) (open_parts c.args.grammar c.args.vars c.args.kept are))))

pub invariant_of-engine : goal.invariant_of-engine
invariant_of-engine c =
    let met : AreOpen c.args.grammar c.args.vars c.args.kept = subst (λ (infos : List VarInfo). AreOpen c.args.grammar infos c.args.kept) c.as_slice.ensures (c.is_open.ensures.0 c.if-not-is_open.false) in
    (c.requires.point, open_can_be_fed c.args.grammar c.args.vars c.args.kept c.requires.shaped met)

pub invariant_of-engine-then-suppresses_none : goal.invariant_of-engine-then-suppresses_none
invariant_of-engine-then-suppresses_none c =
    let met : AreOpen c.args.grammar c.args.vars c.args.kept = subst (λ (infos : List VarInfo). AreOpen c.args.grammar infos c.args.kept) c.as_slice.ensures (c.is_open.ensures.0 c.if-not-is_open.false) in
    (c.requires.point, open_can_be_fed c.args.grammar c.args.vars c.args.kept c.requires.shaped met)

pub returns-then-suppresses_none-clause-meets : goal.returns-then-suppresses_none-clause-meets
returns-then-suppresses_none-clause-meets c =
    let met : AreOpen c.args.grammar c.args.vars c.args.kept = subst (λ (infos : List VarInfo). AreOpen c.args.grammar infos c.args.kept) c.as_slice.ensures (c.is_open.ensures.0 c.if-not-is_open.false) in
    parts_from_open c.args.grammar c.args.vars c.args.kept c.requires.shaped met c.requires.some (c.suppresses_none.ensures.0 c.if-suppresses_none.true)
