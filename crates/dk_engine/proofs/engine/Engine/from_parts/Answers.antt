use Rattle.std.specs.Prelude.{◌≡◌, IfSome}
use Rattle.std.proofs.Common.{subst, sym}
use Rattle.dk_engine.proofs.PartsOfSamples.{kept_parts_meet}
use Rattle.dk_engine.proofs.Saving.{have_parts, kept_rearranged, parts_rearranged}
use Rattle.dk_engine.specs.Exact.{IsKeptOf}
use Rattle.dk_engine.specs.Saved.Restored.{HaveParts, IsRearranged}
use Rattle.dk_engine.proofs.engine.Engine.from_parts.Goals as goal

pub returns-in-Some-2-clause-stands : goal.returns-in-Some-2-clause-stands
returns-in-Some-2-clause-stands c = λ samples kept sampled is saved.
    let are = kept_parts_meet c.args.grammar c.args.vars c.requires samples sampled kept is in
    let have : HaveParts c.len.result c.args.parts kept = subst (λ n. HaveParts n c.args.parts kept) (sym c.len.ensures) (have_parts c.args.grammar c.args.vars c.args.parts kept are saved) in
    let same : IsRearranged kept c.in-Some.kept = subst (λ r. IfSome r (IsRearranged kept)) c.in-Some.is (c.in_ok-kept.ensures.any kept have).1 in
    let made : c.in-Some-2.engine.kept ≡ c.in-Some.kept = subst (λ r. IfSome r (λ e. e.kept ≡ c.in-Some.kept)) c.in-Some-2.is c.in_ok-engine-in-Some.ensures.kept in
    subst (IsKeptOf c.args.grammar c.args.vars samples) (sym made) (kept_rearranged c.args.grammar c.args.vars samples kept c.in-Some.kept same is)

pub returns-in-None-2-clause-bad : goal.returns-in-None-2-clause-bad
returns-in-None-2-clause-bad c = λ _ of.
    let have : HaveParts c.len.result c.args.parts of.kept = subst (λ n. HaveParts n c.args.parts of.kept) (sym c.len.ensures) (have_parts c.args.grammar c.args.vars c.args.parts of.kept of.meets of.saved) in
    let same : IsRearranged of.kept c.in-Some.kept = subst (λ r. IfSome r (IsRearranged of.kept)) c.in-Some.is (c.in_ok-kept.ensures.any of.kept have).1 in
    c.in_ok-engine-in-Some.ensures.none c.in-None-2.is (parts_rearranged c.args.grammar c.args.vars of.kept c.in-Some.kept same of.meets)
