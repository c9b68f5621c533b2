use Rattle.std.specs.Prelude.{◌≡◌, Some}
use Rattle.std.proofs.Common.{◌∙◌, ap, sym}
use Rattle.dk_hierarchy.proofs.Answering.{all_there, one_there}
use Rattle.dk_hierarchy.specs.Edges.{partner_at}
use Rattle.dk_hierarchy.proofs.merged.Merged.agree_through.Goals as goal

pub count-requires-clause-there : goal.count-requires-clause-there
count-requires-clause-there c =
    let way = c.args.way.now in
    let told : partner_at way.partners c.args.w ≡ Some c.in-None-Some.w = sym (c.partner_at-2.ensures ∙ ap (λ ps. partner_at ps c.args.w) c.as_slice-partners.ensures) ∙ c.in-None-Some.is-1 in
    all_there c.args.self.now way c.requires c.engine_at-engine.result.now c.engine_at-engine.ensures c.args.w c.in-None-Some.w told

pub count-requires-in-Some-None-clause-there : goal.count-requires-in-Some-None-clause-there
count-requires-in-Some-None-clause-there c =
    let way = c.args.way.now in
    let told : partner_at way.partners c.args.v ≡ Some c.in-Some-None.v = sym (c.partner_at.ensures ∙ ap (λ ps. partner_at ps c.args.v) c.as_slice-partners.ensures) ∙ c.in-Some-None.is-0 in
    all_there c.args.self.now way c.requires c.engine_at-engine.result.now c.engine_at-engine.ensures c.args.v c.in-Some-None.v told

pub agree-requires-clause-v : goal.agree-requires-clause-v
agree-requires-clause-v c =
    let way = c.args.way.now in
    let told : partner_at way.partners c.args.v ≡ Some c.in-Some-Some.v = sym (c.partner_at.ensures ∙ ap (λ ps. partner_at ps c.args.v) c.as_slice-partners.ensures) ∙ c.in-Some-Some.is-0 in
    one_there c.args.self.now way c.requires c.engine_at-engine.result.now c.engine_at-engine.ensures c.args.v c.in-Some-Some.v told

pub agree-requires-clause-w : goal.agree-requires-clause-w
agree-requires-clause-w c =
    let way = c.args.way.now in
    let told : partner_at way.partners c.args.w ≡ Some c.in-Some-Some.w = sym (c.partner_at-2.ensures ∙ ap (λ ps. partner_at ps c.args.w) c.as_slice-partners.ensures) ∙ c.in-Some-Some.is-1 in
    one_there c.args.self.now way c.requires c.engine_at-engine.result.now c.engine_at-engine.ensures c.args.w c.in-Some-Some.w told
