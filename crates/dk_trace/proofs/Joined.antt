-- Values behind others.
use Rattle.std.proofs.Common.{◌≡◌, ◌++◌, List, [], Result, Ok, Err, refl, sym, ap, append_assoc}
use Rattle.dk_base.specs.Reading.{LineFault}
use Rattle.dk_base.specs.declared.values.Value.{Value}
use Rattle.dk_trace.specs.Values.{then_values}

pub then_values_nil : (read : Result (List Value) LineFault) → then_values [] read ≡ read
then_values_nil (Ok xs) = refl
then_values_nil (Err e) = refl

pub then_values_append : (xs ys : List Value) (read : Result (List Value) LineFault) → then_values xs (then_values ys read) ≡ then_values (xs ++ ys) read
then_values_append xs ys (Ok zs) = ap (λ (vs : List Value). Ok vs) (sym (append_assoc xs ys zs))
then_values_append xs ys (Err e) = refl
