-- Samples have one compact form, but for the order of the patterns.
use Rattle.std.specs.Prelude.{◌≡◌}
use Rattle.std.proofs.Common.{◌∙◌, sym, subst}
use Rattle.dk_classes.proofs.Determined.{leaders_are_determined}
use Rattle.dk_classes.specs.Classes.{var_kinds}
use Rattle.dk_classes.specs.Leaders.{own_leaders}
use Rattle.dk_constants.proofs.Determined.{constants_are_determined}
use Rattle.dk_constants.specs.Constants.{AreConstants}
use Rattle.dk_presence.proofs.Determined.{patterns_are_determined}
use Rattle.dk_presence.specs.Patterns.{patterns_of}
use Rattle.dk_engine.proofs.Determined.{slots_are_determined}
use Rattle.dk_engine.specs.Exact.{ArePatterns, AreSlots}
use Rattle.dk_engine.specs.Laws.{KeptPartsAreDetermined}

pub kept_parts_determined : KeptPartsAreDetermined
kept_parts_determined g infos samples kept other is also =
    let leaders = leaders_are_determined (var_kinds infos) samples kept.leaders other.leaders is.leaders also.leaders in
    let known : kept.known ≡ other.known = constants_are_determined (own_leaders kept.leaders) samples kept.known other.known is.known (subst (λ ls. AreConstants (own_leaders ls) samples other.known) (sym leaders) also.known) in
    let held : ArePatterns (own_leaders kept.leaders) samples other.held = subst (λ ls. ArePatterns (own_leaders ls) samples other.held) (sym leaders) also.held in
    let slots : AreSlots g infos samples kept.leaders kept.known other.slots =
    subst (λ k. AreSlots g infos samples kept.leaders k other.slots) (sym known) (subst (λ ls. AreSlots g infos samples ls other.known other.slots) (sym leaders) also.slots) in
    record {
      number = is.number ∙ sym also.number;
      leaders = leaders;
      known = known;
      slots = slots_are_determined g infos samples kept.leaders kept.known kept.slots other.slots is.slots slots;
      held = patterns_are_determined (patterns_of (own_leaders kept.leaders) samples) kept.held other.held is.held.form held.form is.held.counted held.counted;
    }
