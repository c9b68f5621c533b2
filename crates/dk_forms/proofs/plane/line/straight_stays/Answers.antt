use Rattle.std.proofs.Common.{rules, ◌≡◌, [], ◌∷◌, true, ap, arith, sym, subst, unsigned_abs, ◌&&◌, ◌≤◌, ◌^◌, ◌∙◌, w64}
use Rattle.std.specs.Int.{w128}
use Rattle.std.proofs.lemmas.Int.{to_z-of_z}
use Rattle.dk_arith.proofs.Registers.{kept, kept64}
use Rattle.dk_forms.proofs.LineFacts.{decides_limit}
use Rattle.dk_forms.proofs.LineStays.{straight_stays}
use Rattle.dk_forms.proofs.SmallNumbers.{narrow_is}
use Rattle.dk_forms.proofs.Stays.{stays_by}
use Rattle.dk_forms.specs.Plane.Line.{in_limit, is_on, line_join, line_of}
use Rattle.dk_forms.proofs.plane.line.straight_stays.Goals as goal

pub is_level-requires-clause-a : goal.is_level-requires-clause-a
is_level-requires-clause-a c =
    let h : unsigned_abs c.args.a ≤ 2 ^ 30 = search rules in subst (λ t. unsigned_abs t ≤ 2 ^ 31) (sym (narrow_is c.args.a (omega arith))) (omega arith)

pub is_level-requires-clause-b : goal.is_level-requires-clause-b
is_level-requires-clause-b c =
    let h : unsigned_abs c.args.b ≤ 2 ^ 30 = search rules in subst (λ t. unsigned_abs t ≤ 2 ^ 31) (sym (narrow_is c.args.b (omega arith))) (omega arith)

pub returns-then-are_four_small : goal.returns-then-are_four_small
returns-then-are_four_small c =
    let a = c.args.a in let b = c.args.b in let d = c.args.c in let x = c.args.x in let y = c.args.y in
    let ha : unsigned_abs a ≤ 2 ^ 30 = search rules in let hb : unsigned_abs b ≤ 2 ^ 30 = search rules in
    let hx : unsigned_abs x ≤ 2 ^ 30 = search rules in let hy : unsigned_abs y ≤ 2 ^ 30 = search rules in
    let near : in_limit (x, y) ≡ true = (decides_limit (x, y)).1 (omega arith, omega arith) in
    let e : c.is_level.result ≡ (in_limit (x, y) && is_on (a, b, d) (x, y)) =
    c.is_level.ensures
    ∙ ap (λ t. is_on (t, kept64 (kept b), kept d) (kept64 x, kept64 y)) (narrow_is a (omega arith))
    ∙ ap (λ t. is_on (a, t, kept d) (kept64 x, kept64 y)) (narrow_is b (omega arith))
    ∙ ap (λ t. is_on (a, b, t) (kept64 x, kept64 y)) (to_z-of_z w128 d c.ranges.c)
    ∙ ap (λ t. is_on (a, b, d) (t, kept64 y)) (to_z-of_z w64 x c.ranges.x) ∙ ap (λ t. is_on (a, b, d) (x, t)) (to_z-of_z w64 y c.ranges.y)
    ∙ ap (λ t. t && is_on (a, b, d) (x, y)) (sym near) in
    stays_by line_join (line_of ((x, y) ∷ [])) c.requires.state e (straight_stays a b d x y)
