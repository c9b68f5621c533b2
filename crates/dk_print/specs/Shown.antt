-- The parts of the code's table.
use Rattle.dk_print.specs.Parts.{Part, word, named, bound, values, null_or, remainder, modulus, lead, term, constant, step}
use Rattle.dk_print.specs.declared.parts.Part as coded
use Rattle.dk_print.specs.declared.parts.Part.TheVariants as code

-- what a part of the code says
abbrev pub part_shown : coded.Part → Part
part_shown (code.Word bytes) = word bytes.now
part_shown (code.Named role) = named role
part_shown code.Bound = bound
part_shown code.Values = values
part_shown (code.NullOr bytes) = null_or bytes.now
part_shown code.Remainder = remainder
part_shown code.Modulus = modulus
part_shown (code.Lead role) = lead role
part_shown (code.Term role) = term role
part_shown code.Constant = constant
part_shown code.Step = step
