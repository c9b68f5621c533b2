use Rattle.std.proofs.Common.{◌≡◌, ◌∙◌, ◌<◌, IfOk, ap, is_some, length, refl, true, subst, sym, List, Option, Result}
use Rattle.dk_base.specs.Values.{values_of}
use Rattle.dk_base.specs.declared.faults.BlockFault.{BlockFault}
use Rattle.dk_points.specs.Table.{Point}
use Rattle.dk_trace.specs.Records.{Sample}
use Rattle.dk_trace.specs.RecordsResumed.{shown}
use Rattle.dk_blocks.proofs.Recording.{base_given, called, record_closes, record_refused, refused_fits, refused_some, sound_alike, sound_called}
use Rattle.dk_blocks.specs.Finding.{FoundFits}
use Rattle.dk_blocks.specs.Fitting.{FitAt}
use Rattle.dk_blocks.specs.History.{with_record}
use Rattle.dk_blocks.specs.Keeping.{Keeping}
use Rattle.dk_blocks.specs.Standing.{Closes, Stands, left_with_answer}
use Rattle.dk_blocks.specs.declared.found.Found.{Found}
use Rattle.dk_blocks.specs.declared.found.Found.TheVariants as found
use Rattle.dk_blocks.proofs.kept.ReaderParts.with_record.Goals as goal
use Rattle.dk_blocks.proofs.kept.ReaderParts.with_record.Goals.{in-Ok, in-Err}

pub invariant_of-self : goal.invariant_of-self
invariant_of-self c =
    let k : Keeping = record { points = c.self.inside.points; header = c.self.inside.header; calls = c.self.inside.calls } in
    let s : Sample = shown c.args.sample.now in
    let points : c.self.inside.points ≡ c.args.self.now.points = ap (λ (x : Keeping). x.points) c.self.view_is in
    elim c.match-base_values.branch [
      | in-Ok w ↦ sound_called k s c.base_values.new.calls c.self.invariant (subst (λ (ps : List Point). FitAt ps s.point s.values) (sym points) c.requires.fits) w.in-Ok.ensures.ok
      | in-Err w ↦ sound_alike k c.base_values.new.calls c.self.invariant w.in-Err.ensures.err
    ]

pub returns-clause-closes : goal.returns-clause-closes
unfolding Stands
returns-clause-closes c h stands =
    let k : Keeping = record { points = c.self.inside.points; header = c.self.inside.header; calls = c.self.inside.calls } in
    let s : Sample = shown c.args.sample.now in
    let own : Stands k h = subst (λ (x : Keeping). Stands x h) (sym c.self.view_is) stands in
    let P : Result (Option Found) BlockFault → Type 0 = λ r. Closes (left_with_answer (called k c.base_values.new.calls) r) (with_record c.args.ignores h s) in
    elim c.match-base_values.branch [
      | in-Ok w ↦ subst P (sym w.result-is)
          (record_closes c.args.ignores k s (values_of w.in-Ok.values.now) c.base_values.new.calls h w.in-Ok.ensures.values w.in-Ok.ensures.ok own
          (found.Sample c.args.sample.now.point c.args.sample.now.line w.in-Ok.values) (λ now. refl))
      | in-Err w ↦ subst P (sym (w.result-is ∙ w.or_left_out.ensures))
          (record_refused c.args.ignores k s c.base_values.new.calls w.in-Err.fault h (w.in-Err.ensures.values h.calls own.calls) w.in-Err.ensures.err own)
    ]

pub returns-clause-fits : goal.returns-clause-fits
returns-clause-fits c =
    let k : Keeping = record { points = c.self.inside.points; header = c.self.inside.header; calls = c.self.inside.calls } in
    let s : Sample = shown c.args.sample.now in
    let points : c.self.inside.points ≡ c.args.self.now.points = ap (λ (x : Keeping). x.points) c.self.view_is in
    let P : Result (Option Found) BlockFault → Type 0 = λ r. IfOk r (λ found. FoundFits c.self.inside.points found) in
    elim c.match-base_values.branch [
      | in-Ok w ↦ subst P (sym w.result-is) (
        subst (λ (ps : List Point). s.point < length ps) (sym points) c.requires.within,
        base_given k s (values_of w.in-Ok.values.now) c.self.invariant (subst (λ (ps : List Point). FitAt ps s.point s.values) (sym points) c.requires.fits) w.in-Ok.ensures.values,
      )
      | in-Err w ↦ subst P (sym (w.result-is ∙ w.or_left_out.ensures)) (refused_fits c.args.ignores w.in-Err.fault c.self.inside.points)
    ]

pub returns-clause-some : goal.returns-clause-some
returns-clause-some c =
    let P : Result (Option Found) BlockFault → Type 0 = λ r. IfOk r (λ found. is_some found ≡ true) in
    elim c.match-base_values.branch [
      | in-Ok w ↦ subst P (sym w.result-is) refl
      | in-Err w ↦ subst P (sym (w.result-is ∙ w.or_left_out.ensures)) (refused_some c.args.ignores w.in-Err.fault)
    ]
