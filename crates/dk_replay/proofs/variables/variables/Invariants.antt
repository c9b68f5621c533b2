use Rattle.std.specs.Prelude.{◌≡◌, length}
use Rattle.dk_replay.proofs.Drawing.{AreBases}
use Rattle.dk_replay.proofs.variables.variables.Given as goal

abbrev pub invariant-loop-place : goal.invariant-loop-place
invariant-loop-place l = record {
  bases : AreBases l.bases l.vars;
  long : length l.vars ≡ l.place;
}
