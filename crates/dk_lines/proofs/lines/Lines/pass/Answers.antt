use Rattle.std.proofs.Common.{◌≡◌, ◌≤◌, ◌+◌, ◌-◌, ap, arith}
use Rattle.dk_lines.specs.Gathering.{gathered_line}
use Rattle.dk_lines.specs.Reading.{Reading, room_of}
use Rattle.dk_lines.proofs.Passing.{lines_within, passes_lines, used_within}
use Rattle.dk_lines.proofs.lines.Lines.pass.Goals as goal

pub overflow_add-self : goal.overflow_add-self
overflow_add-self c =
    let count : c.args.count ≤ c.args.used = (lines_within c.args.self.now c.args.used c.args.count c.requires.lines.0 c.requires.within c.requires.lines.1).1 in
    let used : c.args.used ≤ room_of c.args.self.now = (used_within c.args.self.now c.args.used c.requires.within).1 in
    let room : c.self.inside.limits.total - c.self.inside.total ≡ room_of c.args.self.now = ap room_of c.self.view_is in
    omega (arith, count, used, room, c.self.invariant)

pub invariant_of-self : goal.invariant_of-self
invariant_of-self c =
    let count : c.args.count ≤ c.args.used = (lines_within c.args.self.now c.args.used c.args.count c.requires.lines.0 c.requires.within c.requires.lines.1).1 in
    let used : c.args.used ≤ room_of c.args.self.now = (used_within c.args.self.now c.args.used c.requires.within).1 in
    let room : c.self.inside.limits.total - c.self.inside.total ≡ room_of c.args.self.now = ap room_of c.self.view_is in
    (omega (arith, c.self.invariant), omega (arith, used, room, c.self.invariant), omega (arith, count, c.self.invariant), omega (arith, count, used, room, c.self.invariant))

pub returns-clause-passes : goal.returns-clause-passes
returns-clause-passes c = λ ls are.
    let limits : c.self.inside.limits ≡ c.args.self.now.limits = ap (λ (r : Reading). r.limits) c.self.view_is in
    let number : c.self.inside.number ≡ c.args.self.now.number = ap (λ (r : Reading). r.number) c.self.view_is in
    let total : c.self.inside.total ≡ c.args.self.now.total = ap (λ (r : Reading). r.total) c.self.view_is in
    let new : Reading = record {
      limits = c.self.inside.limits;
      is_started = c.self.inside.is_started;
      number = c.self.inside.number + c.args.count;
      total = c.self.inside.total + c.args.used;
      ahead = c.pass.new.self.bytes;
      line = gathered_line c.clear.new.self.items c.pass.new.self.line;
    } in
    passes_lines c.args.self.now new c.args.used c.args.count ls c.requires.within are limits (omega (arith, number)) (omega (arith, total))
