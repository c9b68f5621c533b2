use Rattle.std.proofs.Common.{ap, ℕ, arith, ◌∙◌, ◌≤◌, ◌+◌, ◌-◌, take, drop, length, length-take}
use Rattle.dk_lines.specs.Gathering.{CutLine}
use Rattle.dk_lines.proofs.Cut.{cut_off}
use Rattle.dk_lines.proofs.ahead.Ahead.cut.Goals as goal

pub returns : goal.returns
returns c =
    let long : c.args.len + 1 ≤ c.self.inside.to - c.self.inside.from = omega (arith, c.requires, ap (λ (a : CutLine). length a.bytes) c.self.view_is, length-take {A = ℕ}) in
    cut_off c.self.inside.piece.items c.self.inside.from c.self.inside.to c.args.len long ∙ ap (λ (a : CutLine). record { bytes = drop (c.args.len + 1) a.bytes; line = take c.args.len a.bytes }) c.self.view_is
