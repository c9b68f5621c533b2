use Rattle.std.specs.Prelude.{◌≡◌, ℕ, List}
use Rattle.std.proofs.Common.{◌∙◌, ap, arith, subst, sym}
use Rattle.dk_base.specs.declared.kinds.VarId.{VarId}
use Rattle.dk_join.specs.Joined.{times_present}
use Rattle.dk_presence.specs.Patterns.{AreHeld, capped, pattern_count}
use Rattle.dk_presence.specs.declared.held.Held.{Held}
use Rattle.dk_join.proofs.patterns.joined_patterns.Goals as goal

pub returns : goal.returns
returns c =
    let first = c.args.first.now.kept in
    let leaders = c.args.leaders.now in
    let times : List VarId → ℕ = λ p. times_present first.leaders leaders first.held p in
    let one : (p : List VarId) → pattern_count c.in_ok-one.one p ≡ capped (times p) =
    λ p. c.in_ok-one.ensures (λ _. 0) (λ q. ap (λ (held : List Held). pattern_count held q) c.new-none.ensures) p ∙ ap capped (omega arith)
    in
    record {
      form = subst AreHeld (sym c.into_held.ensures.all) c.into_held.ensures.form;
      counted = λ p. ap (λ (held : List Held). pattern_count held p) c.into_held.ensures.all ∙ c.in_ok-both.ensures times one p;
    }
