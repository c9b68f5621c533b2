use Rattle.std.specs.Prelude.{◌≡◌, ◌<◌, true, false, length, unwrap_or}
use Rattle.std.proofs.Common.{ap, arith, sym, ◌∙◌}
use Rattle.dk_filters.proofs.Listed.{found_here, none_more}
use Rattle.dk_filters.specs.Facts.{are_alike}
use Rattle.dk_filters.specs.Parents.{answers_by}
use Rattle.dk_filters.proofs.found.first_like.Goals as goal

pub returns-then-is_like : goal.returns-then-is_like
returns-then-is_like g c =
    let here = answers_by c.args.vars.now (g.A.Answers.answered c.args.here.now) (g.A.Answers.counted c.args.here.now) (g.A.Answers.agreeing c.args.here.now) in
    let within : c.loop-n.n < length c.args.vars.now = omega arith in
    let passes : are_alike here c.args.v (record { 0 = c.loop-n.n }) ≡ true = sym c.is_like.ensures ∙ c.if-is_like.true in
    sym (ap (λ found. unwrap_or found c.args.v) (found_here (are_alike here c.args.v) c.loop-n.n (length c.args.vars.now) within c.loop-n.invariant passes))

pub loop-n-preserved : goal.loop-n-preserved
loop-n-preserved g c =
    let here = answers_by c.args.vars.now (g.A.Answers.answered c.args.here.now) (g.A.Answers.counted c.args.here.now) (g.A.Answers.agreeing c.args.here.now) in
    let fails : are_alike here c.args.v (record { 0 = c.loop-n.n }) ≡ false = sym c.is_like.ensures ∙ c.if-is_like.false in
    none_more (are_alike here c.args.v) c.loop-n.n c.loop-n.invariant fails
