use Rattle.std.specs.Prelude.{◌<◌, ℕ, List, [], ◌∷◌, length}
use Rattle.std.proofs.Common.{◌∙◌, ap, arith, subst, sym}
use Rattle.dk_base.specs.Shapes.{var}
use Rattle.dk_base.specs.declared.kinds.VarInfo.{VarInfo}
use Rattle.dk_classes.specs.Leaders.{leader_at}
use Rattle.dk_engine.specs.declared.kept.Kept.{Kept}
use Rattle.dk_presence.specs.Patterns.{counted_by}
use Rattle.dk_report.proofs.counting.leader_count.Goals as goal

pub leader-requires : goal.leader-requires
leader-requires c =
    let long = c.kept-kept.ensures.fed.readable.leaders.long in
    let within = c.if-vars-v.false in
    let vars = ap (λ (infos : List VarInfo). length infos) c.vars.ensures in
    subst (λ (kept : Kept). c.args.v.0 < length kept.leaders) (sym c.kept-kept.ensures.kept) (omega (arith, long, within, vars))

pub returns-in-Some : goal.returns-in-Some
returns-in-Some c =
    let at = c.in-Some.ensures.lookup.3 in
    let engine = c.args.engine.now in
    at.1 0
    ∙ (c.requires c.leader.result at.0
    ∙ ap (λ (n : ℕ). counted_by engine.kept.held (var n ∷ [])) (c.leader.ensures ∙ ap (λ (kept : Kept). leader_at kept.leaders c.args.v.0) c.kept-kept.ensures.kept))
