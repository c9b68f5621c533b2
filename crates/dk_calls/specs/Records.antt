-- Records, as calls see them.
use Rattle.std.specs.Prelude.{◌++◌, ℕ, Bool, true, false, List, Result, Ok, if◌then◌else◌}
use Rattle.std.specs.Option.{option_map_or}
use Rattle.dk_base.specs.Reading.{LineFault, ◌>>=◌}
use Rattle.dk_base.specs.declared.values.Value.{Value}
use Rattle.dk_base.specs.declared.why.Why.TheVariants.{UnmatchedExit}
use Rattle.dk_decl.specs.Outcomes.{or_refused}
use Rattle.dk_points.specs.Names.{role_of}
use Rattle.dk_points.specs.Table.{Point, decl_at}
use Rattle.dk_points.specs.Vars.{entry_of}
use Rattle.dk_points.specs.declared.roles.Role.{Role}
use Rattle.dk_points.specs.declared.roles.Role.TheVariants as role
use Rattle.dk_trace.specs.Records.{Sample}
use Rattle.dk_calls.specs.Origs.{orig_values, own_vars}
use Rattle.dk_calls.specs.Waiting.{Call, Entry, enters, exits, other, entry_of_call}

abbrev pub is_entry : Role → Bool
is_entry role.Entry = true
is_entry role.Combined = false
is_entry role.Subexit = false
is_entry role.Plain = false

-- the point at this place is an entry that is declared
unfoldable pub is_entry_at : List Point → ℕ → Bool
is_entry_at ps p = option_map_or (λ d. is_entry (role_of d.name)) (decl_at ps p) false

-- the entry of a record
abbrev pub entry_with : Sample → Entry
entry_with s = record { point = s.point; nonce = s.nonce; values = s.values }

-- A record is an exit if its point must match an entry, and an entry if its point is one.
unfoldable pub call_of : List Point → Sample → Call
call_of ps s = option_map_or (λ e. exits e s.nonce) (entry_of ps s.point) (if is_entry_at ps s.point then enters (entry_with s) else other)

abbrev pub with_entry : List Point → Sample → Entry → List Value
with_entry ps s w = s.values ++ orig_values (own_vars ps w.point) (own_vars ps s.point) w.values

-- The base values of an exit's record behind these records of its file, which stand with the latest first: its own values, and then those
-- that its entry has for the orig variables. Without an entry it is refused at its first line.
unfoldable pub values_at_exit : List Point → Sample → List Call → Result (List Value) LineFault
values_at_exit ps s earlier = or_refused UnmatchedExit s.line (entry_of_call (call_of ps s) earlier) >>= λ w. Ok (with_entry ps s w)
