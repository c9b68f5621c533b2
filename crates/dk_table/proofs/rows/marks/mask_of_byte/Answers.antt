use Rattle.std.proofs.Common.{◌≡◌, ◌<◌, ◌∙◌, ap, arith, cond, eqb, false, get_or, length, map, subst, sym, w8, Bool, ℕ}
use Rattle.std.specs.Int.{bit_at}
use Rattle.std.proofs.lemmas.List.{get_or_default, length-map}
use Rattle.std.proofs.lemmas.Simd.{bit_mask_l, bitmask_splat}
use Rattle.std.proofs.Math.ListN.{get_or-map}
use Rattle.dk_table.proofs.rows.marks.mask_of_byte.Goals as goal

pub returns : goal.returns
returns c k lt =
    let lanes = c.args.lanes in
    let test = λ (x : ℕ). eqb x c.args.byte in
    let within : k < length (map test lanes) = omega (arith, length-map lanes test, c.fits-lanes.0) in
    subst (λ (m : ℕ). bit_at m k ≡ cond (eqb (get_or lanes k 0) c.args.byte) 1 0) (sym (bitmask_splat w8 eqb lanes 64 c.args.byte c.fits-lanes.0 (omega arith)))
    (bit_mask_l (map test lanes) k
    ∙ ap (λ (b : Bool). cond b 1 0) (get_or_default (map test lanes) k false (test 0) within ∙ get_or-map test lanes k 0))
