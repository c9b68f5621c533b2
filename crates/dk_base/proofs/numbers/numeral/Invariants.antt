use Rattle.std.proofs.Common.{◌≡◌, drop, take}
use Rattle.std.specs.Char.{is_digit}
use Rattle.std.specs.List.{list_all}
use Rattle.std.specs.Str.Parse.{digits_value}
use Rattle.dk_base.specs.Numbers.{in_u64}
use Rattle.dk_base.proofs.numbers.numeral.Given as goal

abbrev pub invariant-loop-byte : goal.invariant-loop-byte
invariant-loop-byte l = record {
  so_far : l.total ≡ in_u64 (digits_value l.radix (take l.byte-index l.text));
  others : list_all (λ d. is_digit d l.radix) (drop l.byte-index l.text) ≡ list_all (λ d. is_digit d l.radix) l.text;
}
