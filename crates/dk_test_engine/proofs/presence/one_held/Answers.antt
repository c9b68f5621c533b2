use Rattle.std.proofs.Common.{ap, sym, subst, ◌∙◌, [], ◌∷◌, ◌++◌}
use Rattle.dk_samples.specs.Leaders.{VarsAscend}
use Rattle.dk_presence.specs.declared.held.Held.{Held}
use Rattle.dk_presence.specs.Patterns.{AreHeld}
use Rattle.dk_presence.proofs.Placing.{held_one}
use Rattle.dk_test_engine.proofs.presence.one_held.Goals as goal

pub returns : goal.returns
returns c =
    let h : Held = record { count = c.args.count; leaders = c.in_ok-from_slice.field-0 } in
    subst AreHeld (sym (c.in_ok-push.ensures.ok ∙ ap (λ hs. hs ++ h ∷ []) c.new-held.ensures))
    (held_one h c.requires.count (subst VarsAscend (sym c.in_ok-from_slice.ensures) c.requires.leaders))
