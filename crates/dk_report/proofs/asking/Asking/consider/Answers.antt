use Rattle.std.proofs.Common.{sym, ◌∙◌}
use Rattle.dk_report.proofs.Considered.{admitted, considered, dropped, scarce, there, unasked, unfitting}
use Rattle.dk_report.proofs.asking.Asking.consider.Goals as goal

pub returns-then-not-is_asked : goal.returns-then-not-is_asked
returns-then-not-is_asked c =
    unasked c.args.self.now c.args.row c.args.vars.now c.vars-infos.result.now c.vars-infos.ensures c.args.list (sym c.is_asked.ensures ∙ c.if-not-is_asked.true)

pub answer-requires-clause-vars : goal.answer-requires-clause-vars
answer-requires-clause-vars c =
    admitted c.args.self.now c.args.row c.args.vars.now c.vars-infos.result.now c.vars-infos.ensures (sym c.is_asked.ensures ∙ c.if-not-is_asked.false)

pub returns-then-not-fits : goal.returns-then-not-fits
returns-then-not-fits c =
    unfitting c.args.self.now c.args.row c.args.vars.now c.vars-infos.result.now c.vars-infos.ensures c.args.list c.in_ok-state.state c.in_ok-state.ensures.state (sym c.fits.ensures ∙ c.if-not-fits.true)

pub returns-then-count-self : goal.returns-then-count-self
returns-then-count-self c =
    scarce c.args.self.now c.args.row c.args.vars.now c.vars-infos.result.now c.vars-infos.ensures c.args.list c.count-count.result c.count-count.ensures c.if-count-self.true

pub returns-then-not-keeps : goal.returns-then-not-keeps
returns-then-not-keeps c =
    dropped c.args.self.now c.args.row c.args.vars.now c.vars-infos.result.now c.vars-infos.ensures c.args.list c.in_ok-facts.facts c.in_ok-facts.ensures.facts (sym c.keeps.ensures ∙ c.if-not-keeps.true)

pub count-count-requires-clause-there : goal.count-count-requires-clause-there
count-count-requires-clause-there c =
    there c.args.self.now c.args.row c.args.vars.now c.vars-infos.result.now c.vars-infos.ensures (sym c.is_asked.ensures ∙ c.if-not-is_asked.false)

pub returns : goal.returns
returns c =
    c.in_ok-push.ensures.ok
    ∙ considered c.args.self.now c.args.row c.args.vars.now c.vars-infos.result.now c.vars-infos.ensures c.args.list c.in_ok-state.state c.in_ok-facts.facts c.of.result c.count-count.result
    (sym c.is_asked.ensures ∙ c.if-not-is_asked.false) c.in_ok-state.ensures.state (sym c.fits.ensures ∙ c.if-not-fits.false) c.in_ok-facts.ensures.facts (sym c.keeps.ensures ∙ c.if-not-keeps.false)
    c.of.ensures c.count-count.ensures
