use Rattle.std.proofs.Common.{◌≡◌, ◌≤◌, ◌-◌, [], drop, length}
use Rattle.csv.specs.Machine.{next_record}
use Rattle.csv.specs.declared.parser.State.TheVariants as st
use Rattle.dk_table.specs.Tables.{config_by}
use Rattle.dk_table.specs.Tables.Marks.{AreAhead}
use Rattle.dk_table.proofs.rows.lines.row_marks.Given as goal

abbrev pub invariant-blank : goal.invariant-blank
invariant-blank l = record {
  ahead : AreAhead l.separator l.bytes l.ahead;
  later : l.fn.marks.place ≤ l.ahead.place;
  same : next_record (config_by l.separator) st.StartRecord [] [] (drop l.ahead.place l.bytes) ≡ next_record (config_by l.separator) st.StartRecord [] [] (drop l.fn.marks.place l.bytes);
}

abbrev pub decreases-blank : goal.decreases-blank
decreases-blank l = length l.bytes - l.ahead.place
