use Rattle.std.specs.Prelude.{◌≡◌, []}
use Rattle.std.proofs.Common.{rules, subst, sym}
use Rattle.std.proofs.lemmas.List.Elements.{All-nil}
use Rattle.dk_instances.specs.Laws.{IsSample}
use Rattle.dk_engine.proofs.Beginning.{is_nothing, nothing, nothing_kept}
use Rattle.dk_engine.proofs.Turned.{parts_can_be_fed}
use Rattle.dk_engine.proofs.PartsOfSamples.{parts_of_kept}
use Rattle.dk_engine.specs.Saved.Conditions.{CanBeFed}
use Rattle.dk_engine.specs.declared.kept.Kept.{Kept}
use Rattle.dk_engine.proofs.engine.Engine.new.Goals as goal

pub invariant_of-result : goal.invariant_of-result
invariant_of-result c =
    let kept : Kept = record { samples = 0; leaders = c.in_ok-leaders.leaders; known = c.in_ok-known.known; held = c.in_ok-held.held; slots = c.new-4.result } in
    let same : kept ≡ nothing c.in_ok-leaders.leaders = is_nothing c.in_ok-leaders.leaders c.in_ok-known.known c.in_ok-held.held c.new-4.result (search rules) c.in_ok-held.ensures.exact c.new-4.ensures in (
      c.requires,
      subst (CanBeFed c.args.grammar c.args.vars) (sym same)
          (parts_can_be_fed c.args.grammar c.args.vars (nothing c.in_ok-leaders.leaders) (parts_of_kept c.args.grammar c.args.vars c.requires [] (All-nil (IsSample c.args.vars)) (nothing c.in_ok-leaders.leaders) (nothing_kept c.args.grammar c.args.vars c.in_ok-leaders.leaders (search rules)))),
    )
