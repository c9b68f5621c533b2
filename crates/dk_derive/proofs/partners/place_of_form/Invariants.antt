use Rattle.std.proofs.Common.{◌≡◌, ◌+◌, drop}
use Rattle.std.specs.List.{position_or_len}
use Rattle.dk_derive.specs.Partners.{same_form}
use Rattle.dk_derive.proofs.partners.place_of_form.Given as goal

abbrev pub invariant-loop-place : goal.invariant-loop-place
invariant-loop-place l = l.place + position_or_len (λ v. same_form l.form v.form) (drop l.place l.child) ≡ position_or_len (λ v. same_form l.form v.form) l.child
