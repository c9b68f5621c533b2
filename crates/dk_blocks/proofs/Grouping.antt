-- The groups of lines are runs of lines that aren't blank.
use Rattle.std.proofs.Common.{◌≡◌, Bool, true, false, List, [], ◌∷◌, refl, ap, if◌then◌else◌}
use Rattle.std.proofs.lemmas.List.Elements.{All-cons, All-nil}
use Rattle.dk_base.specs.Reading.{Line}
use Rattle.dk_lines.specs.Left.{Left, Ends, Next}
use Rattle.dk_blocks.specs.Blocks.{Groups, Group, Last, groups_of, is_blank_line, onto_group, trimmed_line}
use Rattle.dk_blocks.specs.Runs.{AreRuns, GroupsAreLongestRuns, IsRun}

no_run : (left : Left) → IsRun [] left left
no_run left = record { lines = []; none_blank = All-nil (λ l. is_blank_line l ≡ false); are_taken = refl; stand = refl }

longer : (l : Line) (ls : List Line) (left rest : Left) → is_blank_line l ≡ false → IsRun ls left rest → IsRun (trimmed_line l ∷ ls) (Next l left) rest
longer l ls left rest is run = record {
  lines = l ∷ run.lines;
  none_blank = All-cons (λ l. is_blank_line l ≡ false) l run.lines is run.none_blank;
  are_taken = ap (λ (xs : List Line). trimmed_line l ∷ xs) run.are_taken;
  stand = ap (λ (x : Left). Next l x) run.stand;
}

onto : (l : Line) (left : Left) (groups : Groups) → is_blank_line l ≡ false → AreRuns groups left → AreRuns (onto_group (trimmed_line l) groups) (Next l left)
onto l left (Group ls close more) is (blank, (rest, ends, at, run, others)) = (blank, (rest, ends, at, longer l ls left (Next blank rest) is run, others))
onto l left (Last ls end) is run = longer l ls left (Ends end) is run

pub longest_runs : GroupsAreLongestRuns
longest_runs (Ends end) = no_run (Ends end)
longest_runs (Next l rest) = by (is_blank_line l) refl (longest_runs rest)
  where
    by : (b : Bool) → is_blank_line l ≡ b → AreRuns (groups_of rest) rest
        → AreRuns (if b then Group [] l.number (groups_of rest) else onto_group (trimmed_line l) (groups_of rest)) (Next l rest)
    by true is more = (l, (rest, is, refl, no_run (Next l rest), more))
    by false is more = onto l rest (groups_of rest) is more
