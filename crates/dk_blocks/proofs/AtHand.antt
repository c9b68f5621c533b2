-- Records that stand whole in the bytes at hand.
use Rattle.std.proofs.Common.{◌≡◌, ◌≤◌, ◌<◌, ◌+◌, ◌++◌, ◌∙◌, ℕ, Bool, true, false, List, [], ◌∷◌, length, map, min, take, drop, All, inl, is_some, Option, Some, None, Result, Ok, Err, refl, sym, ap, arith, append_assoc, length-append, take-append-drop, length-take}
use Rattle.std.proofs.lemmas.Grind.{flat_map-append}
use Rattle.std.proofs.lemmas.List.{length-take-le, take-take}
use Rattle.std.proofs.lemmas.List.Elements.{All-append, All-cons, All-head, All-nil, All-tail}
use Rattle.dk_base.specs.Pieces.{is_empty}
use Rattle.dk_base.specs.Reading.{Line, LineFault, Reads, ◌>>=◌}
use Rattle.dk_base.specs.declared.faults.BlockFault.{BlockFault}
use Rattle.dk_base.specs.declared.faults.BlockFault.TheVariants as fault
use Rattle.dk_base.specs.Values.{values_of}
use Rattle.dk_lines.specs.Left.{Left, Next, lines_left, without_cr}
use Rattle.dk_lines.specs.Passing.{AreLines, HasNoLf, PassesLines, in_front, joined, numbered_lines, ready_of}
use Rattle.dk_lines.specs.Reading.{Reading, left_of, room_of}
use Rattle.dk_lines.proofs.Passing.{lines_within, used_within}
use Rattle.dk_decl.specs.Comments.{is_comment}
use Rattle.dk_decl.specs.Headers.{HeaderAnswers, header_line}
use Rattle.dk_decl.specs.declared.header.Header.{Header}
use Rattle.dk_points.specs.Table.{Point}
use Rattle.dk_trace.specs.Records.{Sample, sample_of}
use Rattle.dk_trace.specs.RecordsResumed.{shown}
use Rattle.dk_trace.specs.Whole.{IsTidy, StandsWhole}
use Rattle.dk_trace.specs.declared.whole.Whole.{Whole}
use Rattle.dk_blocks.specs.AtHand.{HandCounts, HandGives, IsAtHand}
use Rattle.dk_blocks.specs.Blocks.{Group, groups_of, is_blank_line, onto_group, trimmed_line}
use Rattle.dk_blocks.specs.Finding.{outcome_of}
use Rattle.dk_blocks.specs.Fitting.{ConstantsFit, FitAt}
use Rattle.dk_blocks.specs.History.{History, Taken, after_record, after_sample, effect_of, is_declaration, is_list_of_implementors, with_record}
use Rattle.dk_blocks.specs.LineSteps.{stop_of_fault}
use Rattle.dk_blocks.specs.Reading.{after_next}
use Rattle.dk_blocks.specs.Standing.{Closes, Stands, left_with_answer}
use Rattle.dk_blocks.specs.Steps.{Steps, behind_block, groups_left}
use Rattle.dk_blocks.specs.declared.found.Found.{Found}
use Rattle.dk_blocks.specs.declared.kept.ReaderParts.{ReaderParts}
use Rattle.dk_blocks.specs.declared.reader.Stop.TheVariants.{Read}
use Rattle.dk_blocks.proofs.Fronting.{at_record, samples}
use Rattle.dk_blocks.proofs.LastLines.{last_passed}
use Rattle.dk_blocks.proofs.Stepping.{grouped_blank, grouped_words, next_from, stops}
use Rattle.dk_blocks.proofs.Values.{sample_fits}

-- ---- lines that are read as they stand, and an empty one behind them

not_empty : (l : List ℕ) → 0 < length l → is_empty l ≡ false
not_empty [] some = absurd (omega arith)
not_empty (b ∷ bs) some = refl

no_blank : (n : ℕ) (l : List ℕ) → IsTidy l → is_blank_line (record { number = n; bytes = l }) ≡ false
no_blank n l tidy = ap is_empty tidy.no_blanks ∙ not_empty l tidy.some

grouped_lines : (n : ℕ) (ls : List (List ℕ)) (blank : Line) (left : Left) → All IsTidy ls → is_blank_line blank ≡ true
    → groups_of (in_front (numbered_lines n ls) (Next blank left)) ≡ Group (numbered_lines n ls) blank.number (groups_of left)
grouped_lines n [] blank left tidy is = grouped_blank blank left is
grouped_lines n (l ∷ ls) blank left tidy is =
    let own : IsTidy l = All-head IsTidy l ls tidy in
    let line : Line = record { number = n; bytes = l } in
    grouped_words line (in_front (numbered_lines (n + 1) ls) (Next blank left)) (no_blank n l own)
    ∙ ap (onto_group (trimmed_line line)) (grouped_lines (n + 1) ls blank left (All-tail IsTidy l ls tidy) is)
    ∙ ap (λ (b : List ℕ). Group (record { number = n; bytes = b } ∷ numbered_lines (n + 1) ls) blank.number (groups_of left)) own.no_blanks

empty_last : (n : ℕ) (ls : List (List ℕ)) (left : Left)
    → in_front (numbered_lines n (ls ++ [] ∷ [])) left ≡ in_front (numbered_lines n ls) (Next (record { number = n + length ls; bytes = [] }) left)
empty_last n [] left = ap (λ (m : ℕ). Next (record { number = m; bytes = [] }) left) (omega arith)
empty_last n (l ∷ ls) left =
    let last : n + 1 + length ls ≡ n + length (l ∷ ls) = omega arith in
    ap (λ (x : Left). Next (record { number = n; bytes = l }) x)
    (empty_last (n + 1) ls left ∙ ap (λ (m : ℕ). in_front (numbered_lines (n + 1) ls) (Next (record { number = m; bytes = [] }) left)) last)

no_cr_left : (ls : List (List ℕ)) → All IsTidy ls → map without_cr (ls ++ [] ∷ []) ≡ ls ++ [] ∷ []
no_cr_left [] tidy = refl
no_cr_left (l ∷ ls) tidy =
    ap (λ (b : List ℕ). b ∷ map without_cr (ls ++ [] ∷ [])) (All-head IsTidy l ls tidy).no_cr
    ∙ ap (λ (bs : List (List ℕ)). l ∷ bs) (no_cr_left ls (All-tail IsTidy l ls tidy))

-- ---- the lines of the record

abbrev pub all_lines : {ps : List Point} {n : ℕ} {bytes : List ℕ} {w : Whole} → StandsWhole ps n bytes w → List (List ℕ)
all_lines s = (s.first ∷ s.rest) ++ [] ∷ []

pub are_lines : (r : Reading) (ps : List Point) (n : ℕ) (w : Whole) (s : StandsWhole ps n (ready_of r) w) → AreLines (all_lines s) (take w.used r.ahead) w.count
are_lines r ps n w s =
    let most : ℕ = min r.limits.line (room_of r) in
    let within : w.used ≤ most = omega (arith, s.within, length-take most r.ahead) in
    record {
      all = flat_map-append (λ (l : List ℕ). l ++ 10 ∷ []) (s.first ∷ s.rest) ([] ∷ []) ∙ sym s.cut ∙ take-take w.used most r.ahead within;
      apart = All-append HasNoLf (s.first ∷ s.rest) ([] ∷ []) (λ k d lt. (s.tidy k d lt).one) (All-cons HasNoLf [] [] (All-nil (λ b. b ≡ 10 → ⊥)) (All-nil HasNoLf));
      many = omega (arith, s.many, length-append (s.first ∷ s.rest) ([] ∷ []));
    }

-- ---- what the record does

sampled : (ignores : Bool) (kept : ReaderParts) (h : History) (n : ℕ) (bytes : List ℕ) (w : Whole) → Stands kept h → (at : IsAtHand kept n bytes w)
    → effect_of ignores h (numbered_lines n (at.stands.first ∷ at.stands.rest)) (Some (n + length (at.stands.first ∷ at.stands.rest))) ≡ with_record ignores h (shown w.sample)
unfolding Stands
sampled ignores kept h n bytes w stands at =
    let s = at.stands in
    let close : ℕ = n + length (s.first ∷ s.rest) in
    let same : n + 1 + length s.rest ≡ close = omega arith in
    ap (λ (l : List ℕ). effect_of ignores h (record { number = n; bytes = l } ∷ numbered_lines (n + 1) s.rest) (Some close)) (sym s.front)
    ∙ at.begins ignores h stands n (numbered_lines (n + 1) s.rest) (Some close)
    ∙ ap (λ (l : List ℕ). after_sample ignores h (record { number = n; bytes = l }) (numbered_lines (n + 1) s.rest) (Some close)) s.front
    ∙ ap (λ (r : Result Sample LineFault). r >>= λ x. with_record ignores h x)
    (ap (λ (ps : List Point). sample_of ps (record { number = n; bytes = s.first }) (numbered_lines (n + 1) s.rest) (Some close)) (sym stands.table)
    ∙ ap (λ (m : ℕ). sample_of kept.points (record { number = n; bytes = s.first }) (numbered_lines (n + 1) s.rest) (Some m)) (sym same)
    ∙ s.reads)

-- reading on, of a file that ends or is cut off
pub taken : (ignores : Bool) (kept : ReaderParts) (h : History) (r new : Reading) (w : Whole) → Stands kept h → (at : IsAtHand kept (r.number + 1) (ready_of r) w) → PassesLines r (all_lines at.stands) new
    → (is_ended : Bool) (ys : List ℕ) → after_next ignores (effect_of ignores h) (groups_left false r is_ended (take w.used r.ahead ++ ys))
    ≡ next_from ignores (groups_left false new is_ended ys) (with_record ignores h (shown w.sample))
taken ignores kept h r new w stands at passes is_ended ys =
    let s = at.stands in
    let are : AreLines (all_lines s) (take w.used r.ahead) w.count = are_lines r kept.points (r.number + 1) w s in
    let left : Left = lines_left new is_ended ys in
    let next : Reads Taken = effect_of ignores h in
    ap (λ (l : List ℕ). after_next ignores next (groups_of (lines_left r is_ended (l ++ ys)))) (sym are.all)
    ∙ ap (λ (l : Left). after_next ignores next (groups_of l)) (passes is_ended ys
    ∙ ap (λ (ls : List (List ℕ)). in_front (numbered_lines (r.number + 1) ls) left) (no_cr_left (s.first ∷ s.rest) s.tidy)
    ∙ empty_last (r.number + 1) (s.first ∷ s.rest) left)
    ∙ ap (after_next ignores next) (grouped_lines (r.number + 1) (s.first ∷ s.rest) (record { number = r.number + 1 + length (s.first ∷ s.rest); bytes = [] }) left s.tidy refl)
    ∙ ap (next_from ignores (groups_of left)) (sampled ignores kept h (r.number + 1) (ready_of r) w stands at)

-- ---- what is answered

-- the reader behind these bytes
abbrev pub IsBehind : Reading → Whole → Reading → Type 0
IsBehind r w new = new ≡ record r { number = r.number + w.count; total = r.total + w.used; ahead = drop w.used r.ahead; line = [] }

front_len : (r : Reading) (w : Whole) (ps : List Point) (n : ℕ) → StandsWhole ps n (ready_of r) w → length (take w.used r.ahead) ≡ w.used
front_len r w ps n s = length-take-le w.used r.ahead (used_within r w.used s.within).2

some_used : (r : Reading) (w : Whole) (ps : List Point) (n : ℕ) → StandsWhole ps n (ready_of r) w → 0 < w.used
some_used r w ps n s =
    let lines : (length (joined (all_lines s)) ≡ w.used) × (w.count ≤ w.used) = lines_within r w.used w.count (all_lines s) s.within (are_lines r ps n w s) in
    let many = s.many in
    omega (arith, lines.1, many)

found_steps : (ignores : Bool) (kept : ReaderParts) (h h' : History) (r new : Reading) (w : Whole) (found : Found) (bs : List ℕ) → Stands kept h → (at : IsAtHand kept (r.number + 1) (ready_of r) w)
    → IsBehind r w new → PassesLines r (all_lines at.stands) new → with_record ignores h (shown w.sample) ≡ outcome_of h' (Some found)
    → Steps ignores (effect_of ignores h) false r (r.ahead ++ bs) (outcome_of h' (Some found)) false new (drop w.used r.ahead ++ bs)
found_steps ignores kept h h' r new w found bs stands at behind passes closes =
    let s = at.stands in
    let are : AreLines (all_lines s) (take w.used r.ahead) w.count = are_lines r kept.points (r.number + 1) w s in
    let many : 0 < w.used = some_used r w kept.points (r.number + 1) s in
    let on : (is_ended : Bool) (ys : List ℕ) → after_next ignores (effect_of ignores h) (groups_left false r is_ended (take w.used r.ahead ++ ys))
    ≡ behind_block (outcome_of h' (Some found)) (groups_left false new is_ended ys) = λ is_ended ys.
    taken ignores kept h r new w stands at passes is_ended ys
    ∙ ap (next_from ignores (groups_left false new is_ended ys)) closes
    ∙ stops ignores h' (Some found) (groups_left false new is_ended ys) refl in
    let parted : r.ahead ++ bs ≡ take w.used r.ahead ++ (drop w.used r.ahead ++ bs) =
    ap (λ (l : List ℕ). l ++ bs) (sym (take-append-drop w.used r.ahead)) ∙ append_assoc (take w.used r.ahead) (drop w.used r.ahead) bs in
    record {
      front = take w.used r.ahead;
      split = parted;
      room = ap room_of behind ∙ omega (arith, front_len r w kept.points (r.number + 1) at.stands);
      nothing = λ first last. absurd (cc (last));
      ends = λ none. absurd (omega (arith, ap length none, length-append r.ahead bs, (used_within r w.used s.within).2, many));
      last = last_passed r new (all_lines s) (r.ahead ++ bs) (drop w.used r.ahead ++ bs) passes (parted ∙ ap (λ (l : List ℕ). l ++ (drop w.used r.ahead ++ bs)) (sym are.all));
      takes = ap (λ (l : List ℕ). after_next ignores (effect_of ignores h) (groups_left false r true l)) parted ∙ on true (drop w.used r.ahead ++ bs);
      cut = λ d rest e. inl (on false d);
    }

refused_here : (ignores : Bool) (kept : ReaderParts) (h : History) (r new : Reading) (w : Whole) (fault : LineFault) (bs : List ℕ) → Stands kept h → (at : IsAtHand kept (r.number + 1) (ready_of r) w)
    → PassesLines r (all_lines at.stands) new → with_record ignores h (shown w.sample) ≡ Err fault
    → after_next ignores (effect_of ignores h) (groups_left false r true (r.ahead ++ bs)) ≡ Err fault
refused_here ignores kept h r new w fault bs stands at passes closes =
    let parted : r.ahead ++ bs ≡ take w.used r.ahead ++ (drop w.used r.ahead ++ bs) =
    ap (λ (l : List ℕ). l ++ bs) (sym (take-append-drop w.used r.ahead)) ∙ append_assoc (take w.used r.ahead) (drop w.used r.ahead) bs in
    ap (λ (l : List ℕ). after_next ignores (effect_of ignores h) (groups_left false r true l)) parted
    ∙ taken ignores kept h r new w stands at passes true (drop w.used r.ahead ++ bs)
    ∙ ap (next_from ignores (groups_left false new true (drop w.used r.ahead ++ bs))) closes

left_now : (r : Reading) (w : Whole) (new : Reading) (bs : List ℕ) → IsBehind r w new → left_of new (Some bs) ≡ Some (drop w.used r.ahead ++ bs)
left_now r w new bs behind = ap (λ (x : Reading). left_of x (Some bs)) behind

-- a record that is found
pub found_gives : (ignores : Bool) (kept after : ReaderParts) (h : History) (r new : Reading) (w : Whole) (found : Option Found) → Stands kept h → (at : IsAtHand kept (r.number + 1) (ready_of r) w)
    → IsBehind r w new → PassesLines r (all_lines at.stands) new → is_some found ≡ true → (h' : History) → Stands after h' → with_record ignores h (shown w.sample) ≡ outcome_of h' found
    → (rest : Option (List ℕ)) → HandGives ignores h r after (Ok found) new rest
found_gives ignores kept after h r new w None stands at behind passes some h' stands' closes rest = absurd (cc (some))
found_gives ignores kept after h r new w (Some found) stands at behind passes some h' stands' closes None = tt
found_gives ignores kept after h r new w (Some found) stands at behind passes some h' stands' closes (Some bs) = (
  h',
  stands',
  (
    drop w.used r.ahead ++ bs,
    left_now r w new bs behind,
    found_steps ignores kept h h' r new w found bs stands at behind passes closes,
  ),
)

-- a record that is refused
pub fault_gives : (ignores : Bool) (kept after : ReaderParts) (h : History) (r new : Reading) (w : Whole) (f : BlockFault) → Stands kept h → (at : IsAtHand kept (r.number + 1) (ready_of r) w)
    → PassesLines r (all_lines at.stands) new → Closes (left_with_answer after (let e : Result (Option Found) BlockFault = Err f in e)) (with_record ignores h (shown w.sample))
    → (rest : Option (List ℕ)) → HandGives ignores h r after (Err (stop_of_fault f)) new rest
fault_gives ignores kept after h r new w (fault.Refused line why) stands at passes closes None = tt
fault_gives ignores kept after h r new w (fault.Refused line why) stands at passes closes (Some bs) = refused_here ignores kept h r new w (record { line = line; why = why }) bs stands at passes closes
fault_gives ignores kept after h r new w fault.NoMemory stands at passes closes None = tt
fault_gives ignores kept after h r new w fault.NoMemory stands at passes closes (Some bs) = tt

pub found_counts : (r new : Reading) (ps : List Point) (n : ℕ) (w : Whole) (found : Option Found) → StandsWhole ps n (ready_of r) w → IsBehind r w new → is_some found ≡ true → HandCounts r (Ok found) new
found_counts r new ps n w None s behind some = absurd (cc (some))
found_counts r new ps n w (Some found) s behind some =
    let total : new.total ≡ r.total + w.used = ap (λ (x : Reading). x.total) behind in
    let most : w.used ≤ room_of r = (used_within r w.used s.within).1 in
    let lines : (length (joined (all_lines s)) ≡ w.used) × (w.count ≤ w.used) = lines_within r w.used w.count (all_lines s) s.within (are_lines r ps n w s) in
    let many = s.many in
    (ap (λ (x : Reading). x.limits) behind, ap (λ (x : Reading). x.is_started) behind, (omega (arith, total, lines.1, many), omega (arith, total, most, lines.1, many)))

pub never_read : (f : BlockFault) → stop_of_fault f ≡ Read → ⊥
never_read (fault.Refused line why) e = cc (e)
never_read fault.NoMemory e = cc (e)

-- ---- where the block stands at hand

pub hand_fits : (ps : List Point) (n : ℕ) (bytes : List ℕ) (w : Whole) → ConstantsFit ps → StandsWhole ps n bytes w → FitAt ps w.sample.point.0 (values_of w.sample.values.now)
hand_fits ps n bytes w all s = sample_fits ps (record { number = n; bytes = s.first }) (numbered_lines (n + 1) s.rest) (n + 1 + length s.rest) (shown w.sample) all s.reads

pub begins_here : (ignores : Bool) (h : History) (header : Header) (l : Line) (ls : List Line) (close : Option ℕ) → is_comment l.bytes ≡ false
    → HeaderAnswers (header_line h.header l.bytes) h.header (Ok false) header → header ≡ h.header → is_declaration l.bytes ≡ false → is_list_of_implementors l.bytes ≡ false
    → effect_of ignores h (l ∷ ls) close ≡ after_sample ignores h l ls close
unfolding effect_of
begins_here ignores h header l ls close comment answers same declares lists =
    at_record ignores h header None l ls close comment answers
    ∙ ap (λ (x : Header). after_record ignores (record h { header = x }) l ls close) same
    ∙ samples ignores h l ls close declares lists
