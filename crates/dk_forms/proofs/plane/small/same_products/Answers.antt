use Rattle.std.proofs.Common.{arith, ◌*ℤ◌}
use Rattle.dk_arith.proofs.Registers.{tiny_product, kept64}
use Rattle.dk_forms.proofs.SmallNumbers.{eq_of, factors64}
use Rattle.dk_forms.proofs.plane.small.same_products.Goals as goal

pub returns : goal.returns
returns c =
    let a = c.args.a in let b = c.args.b in let x = c.args.c in let y = c.args.d in
    let he = tiny_product a b c.requires.a c.requires.b in
    let hf = tiny_product x y c.requires.c c.requires.d in
    eq_of (kept64 a *ℤ kept64 b) (kept64 x *ℤ kept64 y) (a *ℤ b) (x *ℤ y) (factors64 a b c.ranges.a c.ranges.b) (factors64 x y c.ranges.c c.ranges.d) (omega arith) (omega arith)
