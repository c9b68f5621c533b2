-- States of a report as JSON, worked.
use Rattle.std.specs.Prelude.{◌≡◌, pos, negsuc, codes, refl}
use Rattle.std.specs.Fmt.{digits}
use Rattle.json.specs.Print.{escape_byte, print_from}
use Rattle.dk_forms.specs.declared.states.State.TheVariants as state
use Rattle.dk_json.specs.Lines.{written}
use Rattle.dk_json.specs.States.{state_json}

least : written (state_json (state.Least (pos 1))) ≡ codes "{\"least\":1}"
unfolding print_from escape_byte digits
least = refl

line : written (state_json (state.Straight (pos 2) (negsuc 0) (pos 3))) ≡ codes "{\"a\":2,\"b\":-1,\"c\":3}"
unfolding print_from escape_byte digits
line = refl
