-- What sample blocks come to, one after another.
use Rattle.std.proofs.Common.{◌≡◌, ◌&&◌, ℕ, Bool, true, false, not, All, List, [], ◌∷◌, is_some, map, Option, Some, None, option_and_then, option_map, Result, Ok, Err, refl, ap, ◌∙◌, if◌then◌else◌}
use Rattle.std.proofs.lemmas.List.Elements.{All-head, All-tail}
use Rattle.std.specs.Result.{result_ok}
use Rattle.dk_base.specs.Reading.{Line, LineFault, ◌>>=◌}
use Rattle.dk_base.specs.declared.why.Why.{Why}
use Rattle.dk_base.specs.declared.why.Why.TheVariants.{UnmatchedExit}
use Rattle.dk_decl.specs.Comments.{is_comment}
use Rattle.dk_decl.specs.Headers.{header_line}
use Rattle.dk_decl.specs.Outcomes.{or_refused}
use Rattle.dk_decl.specs.declared.header.Header.{Header}
use Rattle.dk_points.specs.Vars.{entry_of}
use Rattle.dk_trace.specs.Records.{Sample, sample_of}
use Rattle.dk_calls.specs.Records.{call_of, values_at_exit, with_entry}
use Rattle.dk_calls.specs.Waiting.{Entry, entry_of_call}
use Rattle.dk_blocks.specs.Fronts.{at_header_line, block_front}
use Rattle.dk_blocks.specs.History.{History, Taken, after_declaration, after_front, after_record, after_sample, base_values, block, effect_of, is_declaration, is_list_of_implementors, or_left_out, with_record, with_values}
use Rattle.dk_turns.specs.Blocks.{Block, at_line, begins_sample, block_behind, bytes_of, in_force}
use Rattle.dk_recorders.specs.Blocks.{EndedBlock, IsSampleAlone, after_blocks, content_of, contents_of, sample_in, unnumbered}
use Rattle.dk_recorders.proofs.Numbers.{begun_at, plain, same_sample}
use Rattle.dk_recorders.proofs.Orders.{run}
use Rattle.dk_recorders.proofs.Taking.{Kept, step, take_sample, took}

abbrev pub kept_of : History → Kept
kept_of h = record { own = h.samples; calls = h.calls }

abbrev pub with_kept : History → Kept → History
with_kept h k = record h { samples = k.own; calls = k.calls }

-- the history with a block, if it is accepted
abbrev accepted : Result Taken LineFault → Option History
accepted r = option_map (λ (t : Taken). t.history) (result_ok r)

-- ---- the record of a block
-- where a record stands doesn't matter
recorded : (ignores : Bool) (h : History) (s : Sample) (n : ℕ)
    → accepted (with_record ignores h (begun_at n s)) ≡ option_map (with_kept h) (take_sample ignores h.table (kept_of h) s)
unfolding base_values values_at_exit call_of
recorded ignores h s n = by ignores (is_some (entry_of h.table s.point)) (entry_of_call (call_of h.table s) h.calls)
  where
    by : (i b : Bool) (o : Option Entry)
        → accepted (or_left_out i h ((if b then (or_refused UnmatchedExit n o >>= λ w. Ok (with_entry h.table s w)) else Ok s.values) >>= λ values. Ok (with_values h (begun_at n s) values)))
        ≡ option_map (with_kept h) (took i h.table (kept_of h) s (if b then (or_refused UnmatchedExit s.line o >>= λ w. Ok (with_entry h.table s w)) else Ok s.values))
    by true true None = refl
    by false true None = refl
    by true true (Some w) = refl
    by false true (Some w) = refl
    by true false o = refl
    by false false o = refl

sample_taken : (ignores : Bool) (h : History) (n : ℕ) (r : Result Sample LineFault) (o : Option Sample) → result_ok r ≡ option_map (begun_at n) o
    → accepted (r >>= λ s. with_record ignores h s) ≡ option_map (with_kept h) (option_and_then (take_sample ignores h.table (kept_of h)) o)
sample_taken ignores h n (Ok x) (Some s) e =
    let same : x ≡ begun_at n s = cc e in
    ap (λ (y : Sample). accepted (with_record ignores h y)) same ∙ recorded ignores h s n
sample_taken ignores h n (Ok x) None e = absurd (cc e)
sample_taken ignores h n (Err fault) (Some s) e = absurd (cc e)
sample_taken ignores h n (Err fault) None e = refl

plain_lines : (ls : List Line) → plain ls ≡ map unnumbered (bytes_of ls)
plain_lines [] = refl
plain_lines (l ∷ ls) = ap (λ (ks : List Line). unnumbered l.bytes ∷ ks) (plain_lines ls)

both_not : (a b : Bool) → (not a && not b) ≡ true → (a ≡ false) × (b ≡ false)
both_not true b e = absurd (cc e)
both_not false true e = absurd (cc e)
both_not false false e = (refl, refl)

record_taken : (ignores : Bool) (h : History) (l : Line) (ls : List Line) (c : ℕ) → begins_sample l.bytes ≡ true
    → accepted (after_record ignores h l ls (Some c))
    ≡ option_map (with_kept h) (option_and_then (take_sample ignores h.table (kept_of h)) (sample_in h.table (l.bytes ∷ bytes_of ls)))
record_taken ignores h l ls c sample =
    let kind = both_not (is_declaration l.bytes) (is_list_of_implementors l.bytes) sample in
    ap (λ (b : Bool). accepted (if b then after_declaration h l ls (Some c) else if is_list_of_implementors l.bytes then Ok (block h) else after_sample ignores h l ls (Some c))) kind.0
    ∙ ap (λ (b : Bool). accepted (if b then Ok (block h) else after_sample ignores h l ls (Some c))) kind.1
    ∙ sample_taken ignores h l.number (sample_of h.table l ls (Some c)) (sample_in h.table (l.bytes ∷ bytes_of ls))
    (same_sample h.table l ls c
    ∙ ap (λ (ks : List Line). option_map (begun_at l.number) (result_ok (sample_of h.table (unnumbered l.bytes) ks (Some 0)))) (plain_lines ls))

-- ---- what stands in front of it
-- a block by whether its first line is a comment, and what that line comes to as a header line
abbrev content_by : Header → Line → List Line → Bool → Option (Result Header Why) → Block
content_by header l ls b o =
    if b then block_behind header (bytes_of ls) else at_line l.bytes (bytes_of ls) (in_force header o) (λ next. block_behind next (bytes_of ls))

front_taken : (ignores : Bool) (h : History) (ls : List Line) (c : ℕ) → IsSampleAlone (block_behind h.header (bytes_of ls))
    → accepted (block_front h.header None ls >>= λ front. after_front ignores h front (Some c))
    ≡ option_map (with_kept h) (step ignores h.table (kept_of h) (block_behind h.header (bytes_of ls)))
front_taken ignores h [] c alone = absurd (cc alone.sample)
front_taken ignores h (l ∷ ls) c alone = by (is_comment l.bytes) (header_line h.header l.bytes) (front_taken ignores h ls c) alone
  where
    by : (b : Bool) (o : Option (Result Header Why))
        → (IsSampleAlone (block_behind h.header (bytes_of ls))
        → accepted (block_front h.header None ls >>= λ front. after_front ignores h front (Some c))
        ≡ option_map (with_kept h) (step ignores h.table (kept_of h) (block_behind h.header (bytes_of ls))))
        → IsSampleAlone (content_by h.header l ls b o)
        → accepted ((if b then block_front h.header None ls
        else at_header_line o l.number (record { header = h.header; last = None; lines = l ∷ ls }) (λ next. block_front next (Some l.number) ls))
        >>= λ front. after_front ignores h front (Some c))
        ≡ option_map (with_kept h) (step ignores h.table (kept_of h) (content_by h.header l ls b o))
    by true o more own = more own
    by false None more own = record_taken ignores h l ls c own.sample
    by false (Some (Ok next)) more own = absurd (cc own.no_headers)
    by false (Some (Err why)) more own = absurd (cc own.no_headers)

block_taken : (ignores : Bool) (h : History) (b : EndedBlock) → IsSampleAlone (content_of h.header b)
    → accepted (effect_of ignores h b.lines (Some b.close)) ≡ option_map (with_kept h) (step ignores h.table (kept_of h) (content_of h.header b))
unfolding effect_of
block_taken ignores h b alone = front_taken ignores h b.lines b.close alone

-- ---- blocks
then_taken : (ignores : Bool) (h : History) (bs : List EndedBlock) (r : Result Taken LineFault) (o : Option Kept) → accepted r ≡ option_map (with_kept h) o
    → ((k : Kept) → result_ok (after_blocks ignores (with_kept h k) bs) ≡ option_map (with_kept h) (run (step ignores h.table) k (contents_of h.header bs)))
    → result_ok (r >>= λ t. after_blocks ignores t.history bs)
    ≡ option_map (with_kept h) (option_and_then (λ k. run (step ignores h.table) k (contents_of h.header bs)) o)
then_taken ignores h bs (Ok t) (Some k) e more =
    let same : t.history ≡ with_kept h k = cc e in
    ap (λ (j : History). result_ok (after_blocks ignores j bs)) same ∙ more k
then_taken ignores h bs (Ok t) None e more = absurd (cc e)
then_taken ignores h bs (Err fault) (Some k) e more = absurd (cc e)
then_taken ignores h bs (Err fault) None e more = refl

-- such blocks come to what they do, one after another
pub blocks_taken : (ignores : Bool) (bs : List EndedBlock) (h : History) → All IsSampleAlone (contents_of h.header bs)
    → result_ok (after_blocks ignores h bs) ≡ option_map (with_kept h) (run (step ignores h.table) (kept_of h) (contents_of h.header bs))
blocks_taken ignores [] h alone = refl
blocks_taken ignores (b ∷ bs) h alone =
    then_taken ignores h bs (effect_of ignores h b.lines (Some b.close)) (step ignores h.table (kept_of h) (content_of h.header b))
    (block_taken ignores h b (All-head IsSampleAlone (content_of h.header b) (contents_of h.header bs) alone))
    (λ k. blocks_taken ignores bs (with_kept h k) (All-tail IsSampleAlone (content_of h.header b) (contents_of h.header bs) alone))
