use Rattle.std.proofs.Common.{◌≡◌, ◌≤◌, ◌<◌, ◌/◌, ◌%◌, ◌^◌, ◌==◌, ap, arith, inl, inr, sym}
use Rattle.std.proofs.Math.Nat.{div-eq_of_lt}
use Rattle.std.proofs.Math.Pow.{pow_mono}
use Rattle.std.proofs.lemmas.Bool.{cases_lt}
use Rattle.dk_bitmaps.proofs.marks.is_one_at.Goals as goal

pub returns-in-None : goal.returns-in-None
returns-in-None c =
    let past : 64 ≤ c.args.place = elim (cases_lt c.args.place 64) as (λ _. 64 ≤ c.args.place) [
      | inl within ↦ absurd (c.in-None.ensures within)
      | inr beyond ↦ beyond
    ] in
    let below : c.args.number < 2 ^ c.args.place = omega (arith, pow_mono past, c.ranges.number.fits) in
    let none : c.args.number / 2 ^ c.args.place ≡ 0 = div-eq_of_lt below in
    sym (ap (λ n. n % 2 == 1) none)
