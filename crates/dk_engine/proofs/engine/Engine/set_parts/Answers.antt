use Rattle.std.specs.Prelude.{◌≡◌, ◌+◌, [], List, map, refl}
use Rattle.std.proofs.Common.{rules, subst, sym, ◌∙◌}
use Rattle.dk_base.specs.Values.{values_of}
use Rattle.dk_base.specs.declared.kinds.VarId.{VarId}
use Rattle.dk_classes.specs.Leaders.{own_leaders}
use Rattle.dk_instances.specs.Laws.{IsSample}
use Rattle.dk_presence.specs.Patterns.{capped, present_in}
use Rattle.dk_presence.specs.Steps.{AreUnheld, refined, with_sample_of}
use Rattle.dk_presence.specs.declared.held.Held.{Held}
use Rattle.dk_engine.proofs.Emptied.{parts, patterns_out, same_parts}
use Rattle.dk_engine.proofs.StillFed.{can_be_fed_after}
use Rattle.dk_engine.proofs.Turned.{unheld}
use Rattle.dk_engine.specs.Feeding.{IsTurned}
use Rattle.dk_engine.specs.Reading.Levels.{Whole}
use Rattle.dk_engine.specs.Saved.Conditions.{AreFormed, CanBeFed}
use Rattle.dk_engine.proofs.engine.Engine.set_parts.Goals as goal

pub held_after-requires-clause-unheld : goal.held_after-requires-clause-unheld
held_after-requires-clause-unheld c =
    let e = c.self.inside in
    let sample = values_of c.args.sample.now in
    let turned : IsTurned e.kept sample c.args.now = subst (λ (w : Whole). IsTurned w.kept sample c.args.now) (sym c.self.view_is) c.requires.turned in
    let held : c.replace-held.result ≡ e.kept.held = c.replace-held.ensures.value in
    subst (λ (h : List Held). AreUnheld c.as_slice.result.now h) (sym held)
    (subst (λ (ns : List (VarId × VarId)). AreUnheld ns e.kept.held) (sym c.as_slice.ensures) (unheld e.grammar e.infos e.kept c.self.invariant.1 c.args.now.leaders c.args.now.new turned.born))

pub invariant_of-self : goal.invariant_of-self
invariant_of-self c =
    let e = c.self.inside in
    let none : c.replace-held.new.dest ≡ [] = c.replace-held.ensures.after ∙ c.in_ok-none.ensures.exact in
    (c.self.invariant.0, subst (λ (h : List Held). CanBeFed e.grammar e.infos (parts e.kept.leaders e.kept.known e.kept.samples h e.kept.slots)) (sym none) (patterns_out e.grammar e.infos e.kept c.self.invariant.1))

pub invariant_of-self-2 : goal.invariant_of-self-2
invariant_of-self-2 c =
    let e = c.self.inside in
    let sample = values_of c.args.sample.now in
    let now = c.args.now in
    let turned : IsTurned e.kept sample now = subst (λ (w : Whole). IsTurned w.kept sample now) (sym c.self.view_is) c.requires.turned in
    let sampled : IsSample e.infos sample = subst (λ (w : Whole). IsSample w.infos sample) (sym c.self.view_is) c.requires.sampled in
    let formed : AreFormed e.grammar e.infos now.leaders c.args.slots = subst (λ (w : Whole). AreFormed w.grammar w.infos now.leaders c.args.slots) (sym c.self.view_is) c.requires.formed in
    let more = with_sample_of (present_in (own_leaders now.leaders) sample) (map (refined now.new) e.kept.held) in
    let number : c.saturating_add.result ≡ capped (e.kept.samples + 1) = search rules in
    let held : c.in_ok-held.held ≡ more = search rules in (
      c.self.invariant.0,
      subst (CanBeFed e.grammar e.infos) (sym (same_parts now.leaders now.known c.saturating_add.result (capped (e.kept.samples + 1)) c.in_ok-held.held more c.args.slots c.args.slots number held refl))
          (can_be_fed_after e.grammar e.infos c.self.invariant.0 e.kept c.self.invariant.1 sample sampled now turned c.args.slots formed),
    )
