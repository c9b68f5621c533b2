-- Steps of a reader.
use Rattle.std.proofs.Common.{◌≡◌, ◌≤◌, ◌<◌, ◌+◌, ◌-◌, ℕ, List, [], ◌∷◌, ◌++◌, length, inl, inr, Bool, true, false, is_some, Option, Some, None, Result, Ok, Err, if◌then◌else◌, IfSome, IsErrOf, not, refl, sym, ◌∙◌, ap, subst, arith, length-append, append_assoc}
use Rattle.dk_base.specs.Reading.{Line, LineFault, Reads, ◌>>=◌}
use Rattle.dk_base.specs.declared.faults.Fault.{Fault}
use Rattle.dk_base.specs.declared.faults.Fault.TheVariants as whole
use Rattle.dk_lines.specs.Left.{Left, End, Over, Broken, LongLine, TooLong, Ends, Next, lines_left, OneLine}
use Rattle.dk_lines.specs.Reading.{Reading, room_of}
use Rattle.dk_lines.specs.Answers.{IsNextLine, NextGives}
use Rattle.dk_lines.specs.declared.lines.Limits.{Limits}
use Rattle.dk_lines.specs.declared.lines.LineFault as fault
use Rattle.dk_lines.specs.declared.lines.LineFault.TheVariants as line
use Rattle.dk_lines.proofs.Lined.{at_break, at_end}
use Rattle.dk_blocks.specs.LastLines.{LeavesBlank}
use Rattle.dk_blocks.proofs.LastLines.{blank_at_last, last_behind, nothing_lacks, nothing_left, some_left}
use Rattle.dk_blocks.specs.LineSteps.{stop_of_unread, TurnCounts, BlockCounts, BlockGives, LineShape, EndShape, ShapeAt, ClosesAt, LineStep, LineStepShape, StepShape, StepGives, StepCounts}
use Rattle.dk_blocks.specs.Steps.{Grown, NextBlock}
use Rattle.std.specs.Prelude.{◌==◌}
use Rattle.dk_base.specs.Pieces.{is_empty}
use Rattle.std.proofs.Math.Dec.{eqb-suc-zero}
use Rattle.dk_blocks.specs.Blocks.{Groups, Group, Last, onto_group, is_blank_line, trimmed_line, groups_of}
use Rattle.dk_blocks.specs.Finding.{outcome_of}
use Rattle.dk_blocks.specs.History.{Effect, History, Taken, block_by, declared_effect, effect_of, with_table}
use Rattle.dk_blocks.specs.Reading.{after_last, after_all, after_next, stepped, stop_or, Stepped}
use Rattle.dk_blocks.specs.Standing.{Fits, Stands, block_resumed}
use Rattle.dk_blocks.proofs.BlockLaws.{IsNone, no_block_yet, no_lines}
use Rattle.dk_blocks.specs.LineSteps.{Moves, LineGives, EndGives, BlankGives, WordsGive, TurnGives}
use Rattle.dk_blocks.specs.Steps.{FaultAnswers, IsCutAlikeOr, IsNoBlock, RefusedAs, behind_block, Steps, Stops, groups_left}
use Rattle.dk_base.specs.declared.why.Why.{Why}
use Rattle.dk_base.specs.declared.why.Why.TheVariants.{LongLine as WhyLong, TooLong as WhyMany}
use Rattle.dk_blocks.specs.declared.reader.Step.{Step}
use Rattle.dk_blocks.specs.declared.reader.Step.TheVariants.{More, Ended}
use Rattle.dk_blocks.specs.declared.reader.Stop.{Stop}
use Rattle.dk_blocks.specs.declared.reader.Stop.TheVariants.{Refused, Read, NoMemory}
use Rattle.dk_blocks.specs.declared.block.Block.{Block}
use Rattle.dk_points.specs.Declaring.{at_line, declared}
use Rattle.dk_points.specs.Table.{Point}
use Rattle.dk_points.specs.declared.declared.Declared.{Declared}
use Rattle.dk_blocks.specs.declared.found.Found.{Found}
use Rattle.dk_blocks.specs.declared.found.Found.TheVariants as found
use Rattle.dk_blocks.specs.declared.kept.ReaderParts.{ReaderParts}
use Rattle.dk_blocks.specs.Turns.{Turn, Goes, Ends as Stands_end, Ending}
use Rattle.dk_blocks.specs.declared.reader.Reader.{Reader}

-- ---- what is known of reading blocks

-- ---- the first line of a group

pub next_onto : (ignores : Bool) (read : Reads Taken) (l : Line) (gs : Groups) → after_next ignores read (onto_group l gs) ≡ after_next ignores (λ ls close. read (l ∷ ls) close) gs
next_onto ignores read l (Group ls close rest) = refl
next_onto ignores read l (Last ls (Over n)) = refl
next_onto ignores read l (Last ls Broken) = refl
next_onto ignores read l (Last ls (LongLine n)) = refl
next_onto ignores read l (Last ls (TooLong n)) = refl

abbrev then_fault : ℕ → Why → Result Taken LineFault → Result Taken LineFault
then_fault n why r = r >>= λ _. Err (record { line = n; why = why })

-- two that read the same
pub next_same : (ignores : Bool) (read more : Reads Taken) (gs : Groups) → ((ls : List Line) (close : Option ℕ) → read ls close ≡ more ls close) → after_next ignores read gs ≡ after_next ignores more gs
next_same ignores read more (Group ls close rest) e = ap (λ (r : Result Taken LineFault). r >>= λ t. stop_or t rest (after_next ignores (effect_of ignores t.history) rest)) (e ls (Some close))
next_same ignores read more (Last ls end) e = ap (λ (r : Result Taken LineFault). r >>= λ t. Ok (stepped t (Last [] end))) (last_same end) where
  last_same : (end : End) → after_last read ls end ≡ after_last more ls end
  last_same (Over n) = e ls (Some n)
  last_same Broken = e ls None
  last_same (LongLine n) = ap (λ (r : Result Taken LineFault). then_fault n WhyLong r) (e ls None)
  last_same (TooLong n) = ap (λ (r : Result Taken LineFault). then_fault n WhyMany r) (e ls None)

-- ---- one line

pub grouped_blank : (line : Line) (rest : Left) → is_blank_line line ≡ true → groups_of (Next line rest) ≡ Group [] line.number (groups_of rest)
grouped_blank line rest e = ap (λ (b : Bool). if b then Group [] line.number (groups_of rest) else onto_group (trimmed_line line) (groups_of rest)) e

pub grouped_words : (line : Line) (rest : Left) → is_blank_line line ≡ false → groups_of (Next line rest) ≡ onto_group (trimmed_line line) (groups_of rest)
grouped_words line rest e = ap (λ (b : Bool). if b then Group [] line.number (groups_of rest) else onto_group (trimmed_line line) (groups_of rest)) e

abbrev pub next_from : Bool → Groups → Result Taken LineFault → Result Stepped LineFault
next_from ignores rest r = r >>= λ t. stop_or t rest (after_next ignores (effect_of ignores t.history) rest)

-- what was found stops here
pub stops : (ignores : Bool) (h : History) (found : Option Found) (rest : Groups) → is_some found ≡ true → next_from ignores rest (outcome_of h found) ≡ behind_block (outcome_of h found) rest
stops ignores h None rest some = absurd (cc some)
stops ignores h (Some found.Nothing) rest some = refl
stops ignores h (Some (found.Declaration line decl)) rest some = go (at_line line (declared h.table decl)) where
  go : (r : Result (List Point × Declared) LineFault) → next_from ignores rest (r >>= λ t. Ok (block_by (declared_effect t.1) (with_table h t.0))) ≡ behind_block (r >>= λ t. Ok (block_by (declared_effect t.1) (with_table h t.0))) rest
  go (Ok t) = refl
  go (Err e) = refl
stops ignores h (Some (found.Sample point line values)) rest some = refl

pub blank_line : (ignores : Bool) (read : Reads Taken) (line : Line) (result : Result Turn Stop) → is_blank_line line ≡ true → BlankGives ignores read line.number result → LineGives ignores read line result
blank_line ignores read line (Ok (Goes kept block)) blank (h, stands, closes, begins) = (
  h,
  stands,
  λ rest. ap (after_next ignores read) (grouped_blank line rest blank) ∙ ap (next_from ignores (groups_of rest)) closes ∙ sym (next_same ignores (block_resumed ignores h block) (effect_of ignores h) (groups_of rest) begins),
)
blank_line ignores read line (Ok (Stands_end end)) blank (h, stands, over, found, closes) = (
  blank,
  h,
  stands,
  over,
  λ rest. ap (after_next ignores read) (grouped_blank line rest blank) ∙ ap (next_from ignores (groups_of rest)) closes ∙ stops ignores h end.found (groups_of rest) found,
)
blank_line ignores read line (Err (Refused n why)) blank closes = λ rest. ap (after_next ignores read) (grouped_blank line rest blank) ∙ ap (next_from ignores (groups_of rest)) closes
blank_line ignores read line (Err Read) blank gives = absurd gives
blank_line ignores read line (Err NoMemory) blank gives = tt

pub words_line : (ignores : Bool) (read : Reads Taken) (line : Line) (result : Result Turn Stop) → is_blank_line line ≡ false → WordsGive ignores read (trimmed_line line) result → LineGives ignores read line result
words_line ignores read line (Ok (Goes kept block)) words (h, stands, goes) = (
  h,
  stands,
  λ rest. ap (after_next ignores read) (grouped_words line rest words) ∙ next_onto ignores read (trimmed_line line) (groups_of rest) ∙ next_same ignores (λ ls close. read (trimmed_line line ∷ ls) close) (block_resumed ignores h block) (groups_of rest) goes,
)
words_line ignores read line (Ok (Stands_end end)) words gives = absurd gives
words_line ignores read line (Err (Refused n why)) words gives = λ rest. ap (after_next ignores read) (grouped_words line rest words) ∙ next_onto ignores read (trimmed_line line) (groups_of rest)
    ∙ next_same ignores (λ ls close. read (trimmed_line line ∷ ls) close) (λ ls close. Err (record { line = n; why = why })) (groups_of rest) gives ∙ refused (groups_of rest) where
      refused : (gs : Groups) → after_next ignores (λ ls close. Err (record { line = n; why = why })) gs ≡ Err (record { line = n; why = why })
      refused (Group ls close rest) = refl
      refused (Last ls (Over m)) = refl
      refused (Last ls Broken) = refl
      refused (Last ls (LongLine m)) = refl
      refused (Last ls (TooLong m)) = refl
words_line ignores read line (Err Read) words gives = absurd gives
words_line ignores read line (Err NoMemory) words gives = tt

-- ---- one line of the bytes that are left

-- the groups that a broken line leaves are no block, and have no fault
none_broken : (ignores : Bool) (h : History) (b : Block) → IsNoBlock (after_next ignores (block_resumed ignores h b) (groups_of (Ends Broken)))
none_broken ignores h b = go (block_resumed ignores h b [] None) (no_block_yet ignores h b) where
  go : (r : Result Taken LineFault) → IsNone r → IsNoBlock (r >>= λ t. Ok (stepped t (Last [] Broken)))
  go (Ok t) none = none
  go (Err e) none = none

pub turn_line : (ignores : Bool) (h : History) (b : Block) (old new : Reading) (xs ys : List ℕ) (line : Line) (result : Result Turn Stop) (left : Option (List ℕ))
    → left ≡ Some ys → OneLine old xs line new ys → LineGives ignores (block_resumed ignores h b) line result → TurnGives ignores (block_resumed ignores h b) old xs result new left
turn_line ignores h b old new xs ys line (Ok (Goes kept block)) left is one (h', stands, gives) = (
  h',
  stands,
  (
    ys,
    is,
    record {
      front = one.front;
      split = one.split;
      room = one.room;
      last = last_behind old new xs ys line one;
      same = ap (λ (l : Left). after_next ignores (block_resumed ignores h b) (groups_of l)) one.ended ∙ gives (lines_left new true ys);
      cut = λ d rest e. elim (one.cut d rest e) [
        | inl s ↦ inl (ap (λ (l : Left). after_next ignores (block_resumed ignores h b) (groups_of l)) s ∙ gives (lines_left new false d))
        | inr s ↦ inr (s.0, subst (λ (l : Left). IsNoBlock (after_next ignores (block_resumed ignores h b) (groups_of l))) (sym s.1) (none_broken ignores h b))
      ];
    },
  ),
)
turn_line ignores h b old new xs ys line (Ok (Stands_end end)) left is one (blank, h', stands, over, gives) = (
  h',
  stands,
  (
    ys,
    is,
    record {
      front = one.front;
      split = one.split;
      room = one.room;
      nothing = λ first last. absurd (cc (last, over));
      ends = λ none. absurd (some_left old new xs ys line one none);
      last = last_behind old new xs ys line one;
      takes = ap (λ (l : Left). after_next ignores (block_resumed ignores h b) (groups_of l)) one.ended ∙ gives (lines_left new true ys)
          ∙ ap (λ (o : Bool). behind_block (outcome_of h' end.found) (groups_left o new true ys)) (sym over);
      cut = λ d rest e. elim (one.cut d rest e) [
        | inl s ↦ inl (ap (λ (l : Left). after_next ignores (block_resumed ignores h b) (groups_of l)) s ∙ gives (lines_left new false d)
            ∙ ap (λ (o : Bool). behind_block (outcome_of h' end.found) (groups_left o new false d)) (sym over))
        | inr s ↦ inr ((s.0, λ goes. blank_at_last old new xs ys d rest line one blank e s.0 s.1), subst (λ (l : Left). IsNoBlock (after_next ignores (block_resumed ignores h b) (groups_of l))) (sym s.1) (none_broken ignores h b))
      ];
    },
  ),
)
turn_line ignores h b old new xs ys line (Err (Refused n why)) left is one gives = ap (λ (l : Left). after_next ignores (block_resumed ignores h b) (groups_of l)) one.ended ∙ gives (lines_left new true ys)
turn_line ignores h b old new xs ys line (Err Read) left is one gives = absurd gives
turn_line ignores h b old new xs ys line (Err NoMemory) left is one gives = tt

nothing_behind : (front zs : List ℕ) → [] ≡ front ++ zs → zs ≡ []
nothing_behind [] zs e = sym e
nothing_behind (b ∷ bs) zs e = absurd (cc (e))

pub turn_end : (ignores : Bool) (h : History) (b : Block) (old new : Reading) (xs : List ℕ) (result : Result Turn Stop) (left : Option (List ℕ))
    → left ≡ Some [] → xs ≡ [] → lines_left old true xs ≡ Ends (Over (old.number + 1)) → new.number ≡ old.number → room_of new ≡ room_of old
    → EndGives ignores (block_resumed ignores h b) (old.number + 1) result → TurnGives ignores (block_resumed ignores h b) old xs result new left
turn_end ignores h b old new xs (Ok (Goes kept block)) left is none over number room gives = absurd gives
turn_end ignores h b old new xs (Ok (Stands_end end)) left is none over number room (h', stands, ends, gives) = (
  h',
  stands,
  (
    [],
    is,
    record {
      front = [];
      split = none;
      room = room ∙ omega arith;
      nothing = λ first last. refl;
      ends = λ none. ends;
      last = λ leaves. absurd (nothing_lacks new [] refl leaves);
      takes = ap (λ (l : Left). after_next ignores (block_resumed ignores h b) (groups_of l)) over ∙ gives
          ∙ ap (λ (n : ℕ). behind_block (outcome_of h' end.found) (Last [] (Over (n + 1)))) (sym number)
          ∙ ap (λ (o : Bool). behind_block (outcome_of h' end.found) (groups_left o new true [])) (sym ends);
      cut = λ d rest e. let none = nothing_left d rest e in
          inr (
            (refl, λ goes. absurd (cc (goes, ends))),
            subst (λ (l : List ℕ). IsNoBlock (after_next ignores (block_resumed ignores h b) (groups_of (lines_left old false l)))) (sym none)
                (subst (λ (l : Left). IsNoBlock (after_next ignores (block_resumed ignores h b) (groups_of l))) (sym (at_break old)) (none_broken ignores h b)),
          );
    },
  ),
)
turn_end ignores h b old new xs (Err (Refused n why)) left is none over number room gives = ap (λ (l : Left). after_next ignores (block_resumed ignores h b) (groups_of l)) over ∙ gives
turn_end ignores h b old new xs (Err Read) left is none over number room gives = absurd gives
turn_end ignores h b old new xs (Err NoMemory) left is none over number room gives = tt

-- the fault of a line that is too long, behind a block that holds none
faulty : (ignores : Bool) (h : History) (b : Block) (n : ℕ) (why : Why) → then_fault n why (block_resumed ignores h b [] None) ≡ Err (record { line = n; why = why })
faulty ignores h b n why = go (block_resumed ignores h b [] None) (no_block_yet ignores h b) where
  go : (r : Result Taken LineFault) → IsNone r → then_fault n why r ≡ Err (record { line = n; why = why })
  go (Ok t) none = refl
  go (Err e) none = absurd none

pub turn_fault : (ignores : Bool) (h : History) (b : Block) (old new : Reading) (xs : List ℕ) (left : Option (List ℕ)) (fault : fault.LineFault)
    → NextGives old xs (Err fault) new left → TurnGives ignores (block_resumed ignores h b) old xs (Err (stop_of_unread fault)) new left
turn_fault ignores h b old new xs left line.Read gives = record {
  goes_on = refl;
  front = gives.0;
  rest = gives.1.0;
  split = gives.1.1;
  left_is = gives.1.2;
  fine = subst (λ (l : Left). IsNoBlock (after_next ignores (block_resumed ignores h b) (groups_of l))) (sym gives.1.3) (none_broken ignores h b);
}
turn_fault ignores h b old new xs left (line.LongLine n) gives =
    ap (λ (l : Left). after_next ignores (block_resumed ignores h b) (groups_of l)) (gives true)
    ∙ ap (λ (r : Result Taken LineFault). r >>= λ t. Ok (stepped t (Last [] (LongLine n)))) (faulty ignores h b n WhyLong)
turn_fault ignores h b old new xs left (line.TooLong n) gives =
    ap (λ (l : Left). after_next ignores (block_resumed ignores h b) (groups_of l)) (gives true)
    ∙ ap (λ (r : Result Taken LineFault). r >>= λ t. Ok (stepped t (Last [] (TooLong n)))) (faulty ignores h b n WhyMany)
turn_fault ignores h b old new xs left line.NoMemory gives = tt

-- ---- what one call of `next` tells

pub told_line : (ignores : Bool) (h : History) (b : Block) (old new : Reading) (o left : Option (List ℕ)) (line : Line) (result : Result Turn Stop)
    → IsNextLine old o (Ok (Some line)) new left → LineGives ignores (block_resumed ignores h b) line result → IfSome o (λ xs. TurnGives ignores (block_resumed ignores h b) old xs result new left)
told_line ignores h b old new None left line result next does = tt
told_line ignores h b old new (Some xs) left line result next does =
    turn_line ignores h b old new xs next.gives.0 line result left next.gives.1 next.gives.2 does

pub told_end : (ignores : Bool) (h : History) (b : Block) (old new : Reading) (o left : Option (List ℕ)) (result : Result Turn Stop)
    → IsNextLine old o (Ok None) new left → EndGives ignores (block_resumed ignores h b) (old.number + 1) result → IfSome o (λ xs. TurnGives ignores (block_resumed ignores h b) old xs result new left)
told_end ignores h b old new None left result next does = tt
told_end ignores h b old new (Some xs) left result next does =
    let room : room_of new ≡ room_of old = ap (λ (l : Limits). l.total - new.total) next.limits_stay ∙ ap (λ (t : ℕ). old.limits.total - t) next.counts.1 in
    turn_end ignores h b old new xs result left next.gives.1 next.gives.0 (ap (lines_left old true) next.gives.0 ∙ at_end old) next.counts.2 room does

pub told_fault : (ignores : Bool) (h : History) (b : Block) (old new : Reading) (o left : Option (List ℕ)) (fault : fault.LineFault)
    → IsNextLine old o (Err fault) new left → IfSome o (λ xs. TurnGives ignores (block_resumed ignores h b) old xs (Err (stop_of_unread fault)) new left)
told_fault ignores h b old new None left fault next = tt
told_fault ignores h b old new (Some xs) left fault next = turn_fault ignores h b old new xs left fault next.gives

-- ---- counts

grown_false : (over : Bool) (r new : Reading) → over ≡ false → r.total < new.total → new.total ≤ r.limits.total → Grown over r new
grown_false over r new e a b = subst (λ (o : Bool). Grown o r new) (sym e) (a, b)

grown_true : (over : Bool) (r new : Reading) → over ≡ true → r.total ≤ new.total → Grown over r new
grown_true over r new e a = subst (λ (o : Bool). Grown o r new) (sym e) a

pub counts_line : (old new : Reading) (o left : Option (List ℕ)) (line : Line) (result : Result Turn Stop)
    → IsNextLine old o (Ok (Some line)) new left → LineShape result → TurnCounts old result new
counts_line old new o left line (Ok (Goes kept block)) gives shape = (gives.limits_stay, gives.counts.2, gives.counts.4, gives.counts.5)
counts_line old new o left line (Ok (Stands_end end)) gives shape = (gives.limits_stay, (gives.counts.2 ∙ ap not (sym shape.0), grown_false end.is_over old new shape.0 gives.counts.4 gives.counts.5, λ none. let lacks : is_some end.found ≡ false = ap is_some none in absurd (cc (lacks, shape.1))))
counts_line old new o left line (Err e) gives shape = gives.limits_stay

pub counts_end : (old new : Reading) (o left : Option (List ℕ)) (result : Result Turn Stop)
    → IsNextLine old o (Ok None) new left → EndShape result → TurnCounts old result new
counts_end old new o left (Ok (Goes kept block)) gives shape = absurd shape
counts_end old new o left (Ok (Stands_end end)) gives shape = (gives.limits_stay, (gives.counts.0 ∙ ap not (sym shape), grown_true end.is_over old new shape (omega (arith, gives.counts.1)), λ none. shape))
counts_end old new o left (Err e) gives shape = gives.limits_stay

pub never_read_line : (result : Result Turn Stop) → LineShape result → IsErrOf result Read → ⊥
never_read_line (Ok (Goes kept block)) shape e = cc (e)
never_read_line (Ok (Stands_end end)) shape e = cc (e)
never_read_line (Err (Refused line why)) shape e = cc (e)
never_read_line (Err Read) shape e = shape
never_read_line (Err NoMemory) shape e = cc (e)

pub never_read_end : (result : Result Turn Stop) → EndShape result → IsErrOf result Read → ⊥
never_read_end (Ok (Goes kept block)) shape e = cc (e)
never_read_end (Ok (Stands_end end)) shape e = cc (e)
never_read_end (Err (Refused line why)) shape e = cc (e)
never_read_end (Err Read) shape e = shape
never_read_end (Err NoMemory) shape e = cc (e)

-- ---- line after line

abbrev pub Goes_to : Bool → Reads Taken → Reading → List ℕ → ReaderParts → Block → Reading → Option (List ℕ) → Type 0
Goes_to ignores read r xs kept block new left = TurnGives ignores read r xs (Ok (Goes kept block)) new left

-- no line was read yet
pub begun : (ignores : Bool) (h : History) (kept : ReaderParts) (block : Block) (r : Reading) (o : Option (List ℕ)) → Stands kept h
    → ((ls : List Line) (close : Option ℕ) → block_resumed ignores h block ls close ≡ effect_of ignores h ls close) → IfSome o (λ xs. Goes_to ignores (effect_of ignores h) r xs kept block r o)
begun ignores h kept block r None stands begins = tt
begun ignores h kept block r (Some xs) stands begins = (
  h,
  stands,
  (
    xs,
    refl,
    record {
      front = [];
      split = refl;
      room = omega arith;
      last = λ leaves. leaves;
      same = sym (next_same ignores (block_resumed ignores h block) (effect_of ignores h) (groups_left false r true xs) begins);
      cut = λ d rest e. inl (sym (next_same ignores (block_resumed ignores h block) (effect_of ignores h) (groups_left false r false d) begins));
    },
  ),
)

pub split_on : (xs front ys more zs : List ℕ) → xs ≡ front ++ ys → ys ≡ more ++ zs → xs ≡ (front ++ more) ++ zs
split_on xs front ys more zs e f = e ∙ ap (λ (l : List ℕ). front ++ l) f ∙ sym (append_assoc front more zs)

pub room_on : (a b c : ℕ) (front more : List ℕ) → b ≡ a - length front → c ≡ b - length more → c ≡ a - length (front ++ more)
room_on a b c front more e f = omega (arith, e, f, length-append front more)

-- a cut behind one step is a cut behind two
cut_on : {A B C : Type 0} (first mid last : Result Stepped LineFault) → (A → C) → (B → C) → IsCutAlikeOr A first mid → IsCutAlikeOr B mid last → IsCutAlikeOr C first last
cut_on first mid last one two (inl same) (inl more) = inl (same ∙ more)
cut_on first mid last one two (inl same) (inr none) = inr (two none.0, subst IsNoBlock (sym same) none.1)
cut_on first mid last one two (inr none) more = inr (one none.0, none.1)

moves_on : (ignores : Bool) (read mid read' : Reads Taken) (r new last : Reading) (xs ys zs : List ℕ) → Moves ignores read r xs mid new ys → Moves ignores mid new ys read' last zs → Moves ignores read r xs read' last zs
moves_on ignores read mid read' r new last xs ys zs a b = record {
  front = a.front ++ b.front;
  split = split_on xs a.front ys b.front zs a.split b.split;
  room = room_on (room_of r) (room_of new) (room_of last) a.front b.front a.room b.room;
  last = λ leaves. a.last (b.last leaves);
  same = a.same ∙ b.same;
  cut = λ d rest e. subst (λ (l : List ℕ). IsCutAlikeOr (zs ≡ []) (after_next ignores read (groups_left false r false l)) (after_next ignores read' (groups_left false last false d))) (sym (append_assoc a.front b.front d))
      (cut_on _ _ _ (λ none. nothing_behind b.front zs (sym none ∙ b.split)) (λ none. none) (a.cut (b.front ++ d) rest (split_on ys b.front zs d rest b.split e)) (b.cut d rest e));
}

steps_on : (ignores : Bool) (read mid : Reads Taken) (r new last : Reading) (xs ys zs : List ℕ) (outcome : Result Taken LineFault) (over : Bool) → Moves ignores read r xs mid new ys → Steps ignores mid false new ys outcome over last zs → Steps ignores read false r xs outcome over last zs
steps_on ignores read mid r new last xs ys zs outcome over a b = record {
  front = a.front ++ b.front;
  split = split_on xs a.front ys b.front zs a.split b.split;
  room = room_on (room_of r) (room_of new) (room_of last) a.front b.front a.room b.room;
  nothing = λ first. b.nothing (λ e. absurd (cc (e)));
  ends = λ none. b.ends (nothing_behind a.front ys (sym none ∙ a.split));
  last = λ leaves. a.last (b.last leaves);
  takes = a.same ∙ b.takes;
  cut = λ d rest e. subst (λ (l : List ℕ). IsCutAlikeOr ((zs ≡ []) × (over ≡ false → LeavesBlank r xs)) (after_next ignores read (groups_left false r false l)) (behind_block outcome (groups_left over last false d))) (sym (append_assoc a.front b.front d))
      (cut_on _ _ _ (λ none. (nothing_behind b.front zs (sym none ∙ b.split), λ goes. absurd (cc (goes, b.ends none)))) (λ none. (none.0, λ goes. a.last (none.1 goes))) (a.cut (b.front ++ d) rest (split_on ys b.front zs d rest b.split e)) (b.cut d rest e));
}

stops_on : (ignores : Bool) (read mid : Reads Taken) (r new : Reading) (xs ys : List ℕ) (left : Option (List ℕ)) → Moves ignores read r xs mid new ys → Stops ignores mid false new ys left → Stops ignores read false r xs left
stops_on ignores read mid r new xs ys left a b = record {
  goes_on = refl;
  front = a.front ++ b.front;
  rest = b.rest;
  split = split_on xs a.front ys b.front b.rest a.split b.split;
  left_is = b.left_is;
  fine = elim (a.cut b.front b.rest b.split) [ inl same ↦ subst IsNoBlock (sym same) b.fine | inr none ↦ none.1 ];
}

pub turn_on : (ignores : Bool) (read : Reads Taken) (r new last : Reading) (xs : List ℕ) (kept : ReaderParts) (block : Block) (mid left : Option (List ℕ)) (result : Result Turn Stop)
    → Goes_to ignores read r xs kept block new mid
    → ((h : History) → Stands kept h → IfSome mid (λ ys. TurnGives ignores (block_resumed ignores h block) new ys result last left))
    → TurnGives ignores read r xs result last left
turn_on ignores read r new last xs kept block mid left result (h, stands, (ys, is, moves)) turn = go result (subst (λ (o : Option (List ℕ)). IfSome o (λ ys. TurnGives ignores (block_resumed ignores h block) new ys result last left)) is (turn h stands)) where
  go : (result : Result Turn Stop) → TurnGives ignores (block_resumed ignores h block) new ys result last left → TurnGives ignores read r xs result last left
  go (Ok (Goes k b)) (h', s, (zs, e, m)) = (h', s, (zs, e, moves_on ignores read (block_resumed ignores h block) (block_resumed ignores h' b) r new last xs ys zs moves m))
  go (Ok (Stands_end end)) (h', s, (zs, e, m)) = (h', s, (zs, e, steps_on ignores read (block_resumed ignores h block) r new last xs ys zs (outcome_of h' end.found) end.is_over moves m))
  go (Err (Refused line why)) gives = moves.same ∙ gives
  go (Err Read) gives = stops_on ignores read (block_resumed ignores h block) r new xs ys left moves gives
  go (Err NoMemory) gives = tt

pub told_on : (ignores : Bool) (read : Reads Taken) (r new last : Reading) (o mid left : Option (List ℕ)) (kept : ReaderParts) (block : Block) (result : Result Turn Stop)
    → IfSome o (λ xs. Goes_to ignores read r xs kept block new mid)
    → ((h : History) → Stands kept h → IfSome mid (λ ys. TurnGives ignores (block_resumed ignores h block) new ys result last left))
    → IfSome o (λ xs. TurnGives ignores read r xs result last left)
told_on ignores read r new last None mid left kept block result goes turn = tt
told_on ignores read r new last (Some xs) mid left kept block result goes turn = turn_on ignores read r new last xs kept block mid left result goes turn

pub told_stop : (ignores : Bool) (read : Reads Taken) (r last : Reading) (o left : Option (List ℕ)) (stop : Stop) → IfSome o (λ xs. TurnGives ignores read r xs (Err stop) last left) → IfSome o (λ xs. BlockGives ignores read false r xs (Err stop) last left)
told_stop ignores read r last None left stop gives = tt
told_stop ignores read r last (Some xs) left (Refused line why) gives = gives
told_stop ignores read r last (Some xs) left Read gives = gives
told_stop ignores read r last (Some xs) left NoMemory gives = gives

-- at the file's end nothing is read
pub still_over : (ignores : Bool) (s : Reader) (h : History) (r : Reading) (o : Option (List ℕ)) → s.is_over ≡ true → Stands s.kept h → IfSome o (λ xs. NextBlock ignores s h r xs (Ok (s, None)) r o)
still_over ignores s h r None over stands = tt
still_over ignores s h r (Some xs) over stands = (
  h,
  stands,
  (
    xs,
    refl,
    record {
      front = [];
      split = refl;
      room = omega arith;
      nothing = λ first last. first last;
      ends = λ none. over;
      last = λ leaves. leaves;
      takes = subst (λ (o : Bool). after_next ignores (effect_of ignores h) (groups_left o r true xs) ≡ Ok (record { effect = None; history = h; left = groups_left o r true xs })) (sym over)
          (ap (λ (t : Result Taken LineFault). t >>= λ t. Ok (stepped t (Last [] (Over (r.number + 1))))) (no_lines ignores h (Some (r.number + 1))));
      cut = λ d rest e. inl (subst (λ (o : Bool). after_next ignores (effect_of ignores h) (groups_left o r false d) ≡ Ok (record { effect = None; history = h; left = groups_left o r false d })) (sym over)
          (ap (λ (t : Result Taken LineFault). t >>= λ t. Ok (stepped t (Last [] (Over (r.number + 1))))) (no_lines ignores h (Some (r.number + 1)))));
    },
  ),
)

-- what is refused behind a block is the next block's fault
pub refused_behind : (ignores : Bool) (s reader : Reader) (h : History) (r new : Reading) (xs : List ℕ) (left : Option (List ℕ)) (found : Option Found) (fault : Fault)
    → ((h1 : History) → Stands reader.kept h1 → RefusedAs fault (outcome_of h1 found))
    → NextBlock ignores s h r xs (Ok (reader, found)) new left → FaultAnswers ignores (effect_of ignores h) s.is_over r xs fault left
refused_behind ignores s reader h r new xs left found (whole.Refused file at why) refuses (h1, stands, (ys, is, steps)) =
    steps.takes ∙ ap (λ (outcome : Result Taken LineFault). behind_block outcome (groups_left reader.is_over new true ys)) (refuses h1 stands)
refused_behind ignores s reader h r new xs left found (whole.Read file) refuses (h1, stands, gives) = absurd (refuses h1 stands)
refused_behind ignores s reader h r new xs left found whole.NoMemory refuses gives = tt

-- ---- block after block

abbrev then_all : Bool → Groups → Result Taken LineFault → Result History LineFault
then_all ignores rest r = r >>= λ t. after_all ignores (effect_of ignores t.history) rest

never : (n : ℕ) (why : Why) (r : Result Taken LineFault) (t : Taken) → then_fault n why r ≡ Ok t → ⊥
never n why (Ok u) t e = cc (e)
never n why (Err f) t e = cc (e)

-- what a step through the groups says of all of them
abbrev pub Follows : Bool → Reads Taken → Groups → Result Stepped LineFault → Type 0
Follows ignores read gs (Ok step) = (after_all ignores read gs ≡ after_all ignores (effect_of ignores step.history) step.left) × (step.effect ≡ None → after_all ignores read gs ≡ Ok step.history)
Follows ignores read gs (Err e) = after_all ignores read gs ≡ Err e

pub follows : (ignores : Bool) (read : Reads Taken) (gs : Groups) → Follows ignores read gs (after_next ignores read gs)
follows ignores read (Group ls close rest) = go (read ls (Some close)) (λ h. follows ignores (effect_of ignores h) rest) refl where
  counted : (t : Taken) (o : Option Effect) → t.effect ≡ o → read ls (Some close) ≡ Ok t → Follows ignores (effect_of ignores t.history) rest (after_next ignores (effect_of ignores t.history) rest)
      → Follows ignores read (Group ls close rest) (if is_some o then Ok (record { effect = o; history = t.history; left = rest }) else after_next ignores (effect_of ignores t.history) rest)
  counted t (Some effect) e is more = (ap (then_all ignores rest) is, λ f. absurd (cc (f)))
  counted t None e is more = on (after_next ignores (effect_of ignores t.history) rest) more where
    on : (r : Result Stepped LineFault) → Follows ignores (effect_of ignores t.history) rest r → Follows ignores read (Group ls close rest) r
    on (Ok step) f = (ap (then_all ignores rest) is ∙ f.0, λ n. ap (then_all ignores rest) is ∙ f.1 n)
    on (Err e) f = ap (then_all ignores rest) is ∙ f

  go : (r : Result Taken LineFault) → ((h : History) → Follows ignores (effect_of ignores h) rest (after_next ignores (effect_of ignores h) rest)) → read ls (Some close) ≡ r
      → Follows ignores read (Group ls close rest) (r >>= λ t. stop_or t rest (after_next ignores (effect_of ignores t.history) rest))
  go (Err e) more is = ap (then_all ignores rest) is
  go (Ok t) more is = counted t t.effect refl is (more t.history)
follows ignores read (Last ls end) = go (after_last read ls end) refl where
  empty : (h : History) (end : End) → (t : Taken) → after_last read ls end ≡ Ok t → after_all ignores (effect_of ignores h) (Last [] end) ≡ Ok h
  empty h (Over n) t e = ap (λ (r : Result Taken LineFault). r >>= λ t. Ok t.history) (no_lines ignores h (Some n))
  empty h Broken t e = ap (λ (r : Result Taken LineFault). r >>= λ t. Ok t.history) (no_lines ignores h None)
  empty h (LongLine n) t e = absurd (never n WhyLong (read ls None) t e)
  empty h (TooLong n) t e = absurd (never n WhyMany (read ls None) t e)

  go : (r : Result Taken LineFault) → after_last read ls end ≡ r → Follows ignores read (Last ls end) (r >>= λ t. Ok (stepped t (Last [] end)))
  go (Err e) is = ap (λ (r : Result Taken LineFault). r >>= λ t. Ok t.history) is
  go (Ok t) is = let all = ap (λ (r : Result Taken LineFault). r >>= λ t. Ok t.history) is in (all ∙ sym (empty t.history end t is), λ n. all)

pub empty_len : (bytes : List ℕ) → (length bytes == 0) ≡ is_empty bytes
empty_len [] = refl
empty_len (b ∷ bs) = eqb-suc-zero (length bs)

-- ---- one line, whose end of a block is made apart

pub words_step : (ignores : Bool) (kept : ReaderParts) (read : Reads Taken) (line : Line) (block : Block) → is_blank_line line ≡ false → WordsGive ignores read (trimmed_line line) (Ok (Goes kept block)) → LineStep ignores kept block read line (Ok More)
words_step ignores kept read line block words gives = words_line ignores read line (Ok (Goes kept block)) words gives

pub words_fault : (ignores : Bool) (kept : ReaderParts) (block : Block) (read : Reads Taken) (line : Line) (stop : Stop) → is_blank_line line ≡ false → WordsGive ignores read (trimmed_line line) (Err stop) → LineStep ignores kept block read line (Err stop)
words_fault ignores kept block read line stop words gives = words_line ignores read line (Err stop) words gives

pub blank_step : (ignores : Bool) (kept : ReaderParts) (read : Reads Taken) (line : Line) (block : Block) → is_blank_line line ≡ true → LineStep ignores kept block read line (Ok (Ended line.number false))
blank_step ignores kept read line block blank turn gives = blank_line ignores read line turn blank gives

pub step_line : (ignores : Bool) (h : History) (kept : ReaderParts) (b block : Block) (old new : Reading) (o left : Option (List ℕ)) (line : Line) (result : Result Step Stop)
    → IsNextLine old o (Ok (Some line)) new left → LineStep ignores kept block (block_resumed ignores h b) line result → IfSome o (λ xs. StepGives ignores kept block (block_resumed ignores h b) old xs result new left)
step_line ignores h kept b block old new None left line result next does = tt
step_line ignores h kept b block old new (Some xs) left line (Ok More) next does = told_line ignores h b old new (Some xs) left line (Ok (Goes kept block)) next does
step_line ignores h kept b block old new (Some xs) left line (Ok (Ended number over)) next does = λ turn closes. told_line ignores h b old new (Some xs) left line turn next (does turn closes)
step_line ignores h kept b block old new (Some xs) left line (Err stop) next does = told_line ignores h b old new (Some xs) left line (Err stop) next does

pub step_end : (ignores : Bool) (h : History) (kept : ReaderParts) (b block : Block) (old new : Reading) (o left : Option (List ℕ)) (number : ℕ) → number ≡ old.number + 1
    → IsNextLine old o (Ok None) new left → IfSome o (λ xs. StepGives ignores kept block (block_resumed ignores h b) old xs (Ok (Ended number true)) new left)
step_end ignores h kept b block old new None left number is next = tt
step_end ignores h kept b block old new (Some xs) left number is next =
    λ turn closes. told_end ignores h b old new (Some xs) left turn next (subst (λ (n : ℕ). EndGives ignores (block_resumed ignores h b) n turn) is closes)

pub step_fault : (ignores : Bool) (h : History) (kept : ReaderParts) (b block : Block) (old new : Reading) (o left : Option (List ℕ)) (fault : fault.LineFault)
    → IsNextLine old o (Err fault) new left → IfSome o (λ xs. StepGives ignores kept block (block_resumed ignores h b) old xs (Err (stop_of_unread fault)) new left)
step_fault ignores h kept b block old new None left fault next = tt
step_fault ignores h kept b block old new (Some xs) left fault next = told_fault ignores h b old new (Some xs) left fault next

pub step_counts : (kept : ReaderParts) (b block : Block) (old new : Reading) (o left : Option (List ℕ)) (line : Line) (result : Result Step Stop)
    → IsNextLine old o (Ok (Some line)) new left → LineStepShape kept b block result → StepCounts old result new
step_counts kept b block old new o left line (Ok More) gives shape = (gives.limits_stay, gives.counts.2, gives.counts.4, gives.counts.5)
step_counts kept b block old new o left line (Ok (Ended number over)) gives shape = λ turn closes. counts_line old new o left line turn gives (subst (λ (o : Bool). ShapeAt o turn) shape.1 closes)
step_counts kept b block old new o left line (Err e) gives shape = gives.limits_stay

pub end_counts : (old new : Reading) (o left : Option (List ℕ)) (number : ℕ) → IsNextLine old o (Ok None) new left → StepCounts old (Ok (Ended number true)) new
end_counts old new o left number gives = λ turn closes. counts_end old new o left turn gives closes

pub line_step_shape : (kept : ReaderParts) (b block : Block) (result : Result Step Stop) → LineStepShape kept b block result → StepShape kept b block result
line_step_shape kept b block (Ok More) shape = shape
line_step_shape kept b block (Ok (Ended number over)) shape = shape.0
line_step_shape kept b block (Err stop) shape = tt

pub never_read_step : (kept : ReaderParts) (b block : Block) (result : Result Step Stop) → LineStepShape kept b block result → IsErrOf result Read → ⊥
never_read_step kept b block (Ok More) shape e = cc (e)
never_read_step kept b block (Ok (Ended number over)) shape e = cc (e)
never_read_step kept b block (Err (Refused line why)) shape e = cc (e)
never_read_step kept b block (Err Read) shape e = shape
never_read_step kept b block (Err NoMemory) shape e = cc (e)

-- ---- the end of a block

pub never_read_at : (over : Bool) (turn : Result Turn Stop) → ShapeAt over turn → IsErrOf turn Read → ⊥
never_read_at true turn shape e = never_read_end turn shape e
never_read_at false turn shape e = never_read_line turn shape e

pub fits_at : (over : Bool) (kept : ReaderParts) (block : Block) → ShapeAt over (Ok (Goes kept block)) → Fits kept block
fits_at true kept block shape = absurd shape
fits_at false kept block shape = shape

-- the turn that a line and the end of its block make
pub closed_on : (ignores : Bool) (h : History) (kept : ReaderParts) (b block : Block) (r new : Reading) (number : ℕ) (over : Bool) (o left : Option (List ℕ)) (turn : Result Turn Stop)
    → block ≡ b → IfSome o (λ xs. StepGives ignores kept block (block_resumed ignores h b) r xs (Ok (Ended number over)) new left) → ClosesAt ignores over (block_resumed ignores h block) number turn
    → IfSome o (λ xs. TurnGives ignores (block_resumed ignores h b) r xs turn new left)
closed_on ignores h kept b block r new number over None left turn same gives closes = tt
closed_on ignores h kept b block r new number over (Some xs) left turn same gives closes = gives turn (subst (λ (c : Block). ClosesAt ignores over (block_resumed ignores h c) number turn) same closes)

-- ---- the reader behind the end of a block

pub block_answers : (ignores : Bool) (s : Reader) (h : History) (r new : Reading) (o left : Option (List ℕ)) (end : Ending) (a : Reader × Option Found) → s.is_over ≡ false
    → a.0.kept ≡ end.kept → a.0.is_over ≡ end.is_over → a.1 ≡ end.found
    → IfSome o (λ xs. BlockGives ignores (effect_of ignores h) false r xs (Ok end) new left) → IfSome o (λ xs. NextBlock ignores s h r xs (Ok a) new left)
block_answers ignores s h r new None left end a begun kept over found gives = tt
block_answers ignores s h r new (Some xs) left end a begun kept over found (h', stands, (ys, is, steps)) = (
  h',
  subst (λ (k : ReaderParts). Stands k h') (sym kept) stands,
  (
    ys,
    is,
    subst (λ (b : Bool). Steps ignores (effect_of ignores h) b r xs (outcome_of h' a.1) a.0.is_over new ys) (sym begun)
        (subst (λ (b : Option Found). Steps ignores (effect_of ignores h) false r xs (outcome_of h' b) a.0.is_over new ys) (sym found)
        (subst (λ (b : Bool). Steps ignores (effect_of ignores h) false r xs (outcome_of h' end.found) b new ys) (sym over) steps)),
  ),
)

grown_on : (over : Bool) (first r new : Reading) → r.limits ≡ first.limits → first.total ≤ r.total → Grown over r new → Grown over first new
grown_on true first r new same most grown = omega (arith, grown, most)
grown_on false first r new same most grown = (omega (arith, grown.0, most), subst (λ (l : Limits). new.total ≤ l.total) same grown.1)

-- the counts of the last line of a block are those of the block
pub block_counts : (first r new : Reading) (end : Ending) → r.limits ≡ first.limits → first.total ≤ r.total → TurnCounts r (Ok (Stands_end end)) new → BlockCounts first (Ok end) new
block_counts first r new end same most counts = (counts.0 ∙ same, (counts.1.0, grown_on end.is_over first r new same most counts.1.1, counts.1.2))
