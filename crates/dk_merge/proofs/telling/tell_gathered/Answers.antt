use Rattle.std.proofs.Common.{◌≡◌, ℕ, None, inl, refl, rules, subst, sym}
use Rattle.dk_events.specs.declared.ended.Ended.TheVariants.{Done}
use Rattle.dk_io.specs.Streams.{Texts}
use Rattle.dk_merge.proofs.Ending.{followed_nothing}
use Rattle.dk_merge.specs.Outputs.{no_output}
use Rattle.dk_merge.specs.Running.{GatheredEnds}
use Rattle.dk_merge.specs.declared.gathered.Gathered.{Gathered}
use Rattle.dk_merge.specs.declared.gathered.Gathered.TheVariants.{State}
use Rattle.dk_merge.proofs.telling.tell_gathered.Goals as goal

-- no files come to nothing
no_files : (least : ℕ) (g : Gathered) (old : Texts) (faults : ℕ) → g ≡ State None → GatheredEnds least g old old faults faults Done
no_files least g old faults is = subst (λ (k : Gathered). GatheredEnds least k old old faults faults Done) (sym is) (inl (refl, (no_output, refl, followed_nothing old), refl))

pub returns-in-State-None : goal.returns-in-State-None
returns-in-State-None g c =
    let is : c.args.gathered ≡ State None = search rules in
    no_files c.args.least c.args.gathered _ _ is
