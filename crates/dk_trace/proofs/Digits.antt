-- Lines that write short whole numbers.
use Rattle.std.proofs.Common.{◌≡◌, ◌++◌, ◌∙◌, ℕ, ℤ, List, ◌∷◌, Some, sym, ap, arith}
use Rattle.dk_base.specs.Numbers.{short_number}
use Rattle.dk_base.specs.Values.{valued}
use Rattle.dk_base.specs.declared.values.Value.TheVariants as value
use Rattle.dk_base.proofs.Digits.{number_item, short_stands}
use Rattle.dk_trace.specs.Whole.{NumberStands}
use Rattle.dk_trace.proofs.Tidy.{tidy_plain}

pub number_stands : (bytes behind rest : List ℕ) (z : ℤ) → Some (z, behind) ≡ short_number bytes → behind ≡ 10 ∷ rest → NumberStands bytes z rest
number_stands bytes behind rest z is lf =
    let stands = short_stands bytes behind z (sym is) in
    record {
      text = stands.text;
      cut = record {
        whole = stands.whole ∙ ap (λ (l : List ℕ). stands.text ++ l) lf;
        tidy = tidy_plain stands.text stands.some (λ k lt. let low = stands.low k lt in omega (arith, low));
      };
      says = ap (valued (λ z. value.Int z)) (number_item stands.text z stands.reads);
    }
