use Rattle.std.specs.Prelude.{◌≡◌, All, take}
use Rattle.dk_engine.specs.Reading.Parts.{leader_of}
use Rattle.dk_join.proofs.threes.all_lead.Given as goal

abbrev pub invariant-loop-v : goal.invariant-loop-v
invariant-loop-v l = All (λ v. leader_of l.engine.kept.leaders v ≡ v) (take l.v-index l.vars)
