use Rattle.std.specs.Prelude.{◌≡◌, ◌*◌, Some}
use Rattle.std.proofs.Common.{◌∙◌, ap, subst, sym}
use Rattle.dk_engine.specs.Reading.{count_read}
use Rattle.dk_presence.specs.Patterns.{capped}
use Rattle.dk_template.specs.Premises.{AreThere}
use Rattle.dk_hierarchy.proofs.Answering.{are_there, count_is}
use Rattle.dk_hierarchy.specs.Edges.{partners_at}
use Rattle.dk_hierarchy.proofs.merged.Merged.count_through.Goals as goal

pub count-once-requires-clause-there : goal.count-once-requires-clause-there
count-once-requires-clause-there c =
    let way = c.args.way.now in
    let vars = c.args.vars.now in
    let told : partners_at way.partners vars ≡ Some c.in-Some.there = sym (c.partners_at.ensures ∙ ap (λ ps. partners_at ps vars) c.as_slice.ensures) ∙ c.in-Some.is in
    subst (AreThere c.engine_at.result.now.infos) (sym c.as_slice-in-Some.ensures.items)
    (are_there c.args.self.now way c.requires.way c.engine_at.result.now c.engine_at.ensures vars c.in-Some.there told)

pub returns-in-Some : goal.returns-in-Some
returns-in-Some c =
    let way = c.args.way.now in
    let vars = c.args.vars.now in
    let kept = c.engine_at.result.now.kept in
    let told : partners_at way.partners vars ≡ Some c.in-Some.there = sym (c.partners_at.ensures ∙ ap (λ ps. partners_at ps vars) c.as_slice.ensures) ∙ c.in-Some.is in
    c.saturating_mul.ensures
    ∙ ap capped
    (ap (λ n. n * way.paths) (c.count-once.ensures ∙ ap (count_read kept) c.as_slice-in-Some.ensures.items)
    ∙ count_is c.args.self.now way c.requires.way c.engine_at.result.now c.engine_at.ensures vars c.in-Some.there told)
