-- Behind a block no word is awaited.
use Rattle.std.proofs.Common.{◌≡◌, ◌+◌, ℕ, Bool, true, false, List, [], ◌∷◌, codes, Option, Some, None, Result, Ok, Err, refl, sym, ap, ◌∙◌, subst, if◌then◌else◌}
use Rattle.std.specs.Str.{bytes_eq}
use Rattle.dk_base.specs.Reading.{Line, LineFault, ◌>>=◌}
use Rattle.dk_base.specs.declared.values.Value.{Value}
use Rattle.dk_base.specs.declared.why.Why.{Why}
use Rattle.dk_base.specs.declared.why.Why.TheVariants.{BadHeader}
use Rattle.dk_lines.specs.Left.{Broken, End, LongLine, Over, TooLong, numbered}
use Rattle.dk_decl.proofs.LastLines.{bind_ok}
use Rattle.dk_decl.specs.Blocks.{block_decl}
use Rattle.dk_decl.specs.Comments.{is_comment}
use Rattle.dk_decl.specs.Headers.{awaits_word, comparability_word, header_line, is_implicit, with_text}
use Rattle.dk_decl.specs.LineWords.{begins, operand}
use Rattle.dk_decl.specs.Outcomes.{refused}
use Rattle.dk_decl.specs.declared.header.Header.{Header}
use Rattle.dk_points.specs.Declaring.{at_line, declared}
use Rattle.dk_trace.specs.Records.{Sample, sample_of}
use Rattle.dk_blocks.specs.Blocks.{Group, Groups, Last, groups_of}
use Rattle.dk_blocks.specs.Fronts.{Front, at_header_line, block_front}
use Rattle.dk_blocks.specs.History.{History, Taken, after_declaration, after_front, after_lines, after_record, after_sample, base_values, block, block_by, declared_effect, effect_of, is_declaration, is_list_of_implementors, no_block, or_left_out, with_table, with_values, without_record}
use Rattle.dk_blocks.specs.Reading.{after_all}
use Rattle.dk_recorders.proofs.Groups.{groups_end, groups_end_alike, read_on}
use Rattle.dk_recorders.proofs.Lines.{end_of}

abbrev pub NoWord : History → Type 0
NoWord h = awaits_word h.header ≡ false

-- ---- fronts
awaits_none : (h : Header) (bytes : List ℕ) → header_line h bytes ≡ None → awaits_word h ≡ false
unfolding header_line
awaits_none h bytes e = by h.awaits_word e
  where
    by : (b : Bool) → (if b then Some (with_text (comparability_word bytes))
        else if bytes_eq bytes (codes "VarComparability") then Some (Ok (record h { awaits_word = true }))
        else if begins (codes "var-comparability") bytes then Some (with_text (comparability_word (operand bytes)))
        else if begins (codes "decl-version") bytes then Some (if bytes_eq (operand bytes) (codes "2.0") then Ok h else Err BadHeader)
        else if begins (codes "input-language") bytes then Some (Ok h)
        else None) ≡ None → b ≡ false
    by true e = absurd (cc e)
    by false e = refl

-- the record begins where no word is awaited; without header lines the header is as before
record IsFront (header : Header) (last : Option ℕ) (front : Front) : Type 0 where
  none : front.lines ≡ [] → front.last ≡ None → (last ≡ None) × (front.header ≡ header)
  word : (front.lines ≡ [] → ⊥) → awaits_word front.header ≡ false

front_is : (header : Header) (last : Option ℕ) (ls : List Line) (front : Front) → block_front header last ls ≡ Ok front → IsFront header last front
front_is header last [] front e =
    let same : record { header = header; last = last; lines = [] } ≡ front = cc e in
    subst (IsFront header last) same (record { none = λ empty is. (is, refl); word = λ some. absurd (some refl) })
front_is header last (l ∷ ls) front e =
    by (is_comment l.bytes) e (λ next from read. front_is next from ls front read)
  where
    at : (o : Option (Result Header Why)) → header_line header l.bytes ≡ o
        → at_header_line o l.number (record { header = header; last = last; lines = l ∷ ls }) (λ next. block_front next (Some l.number) ls) ≡ Ok front
        → ((next : Header) (from : Option ℕ) → block_front next from ls ≡ Ok front → IsFront next from front) → IsFront header last front
    at None is e later =
        let same : record { header = header; last = last; lines = l ∷ ls } ≡ front = cc e in
        subst (IsFront header last) same (record { none = λ empty _. absurd (cc empty); word = λ _. awaits_none header l.bytes is })
    at (Some (Err why)) is e later = absurd (cc e)
    at (Some (Ok next)) is e later =
        let own = later next (Some l.number) e in
        record { none = λ empty ends. absurd (cc (own.none empty ends).0); word = own.word }

    by : (b : Bool) → (if b then block_front header last ls
        else at_header_line (header_line header l.bytes) l.number (record { header = header; last = last; lines = l ∷ ls }) (λ next. block_front next (Some l.number) ls)) ≡ Ok front
        → ((next : Header) (from : Option ℕ) → block_front next from ls ≡ Ok front → IsFront next from front) → IsFront header last front
    by true e later = later header last e
    by false e later = at (header_line header l.bytes) refl e later

-- ---- blocks
declared_word : (h : History) (first : Line) (ls : List Line) (c : ℕ) (t : Taken) → NoWord h → after_declaration h first ls (Some c) ≡ Ok t → NoWord t.history
declared_word h first ls c t none e =
    bind_ok (block_decl (is_implicit h.header) first ls (Some c)) _ t e (λ d is rest.
    bind_ok (at_line first.number (declared h.table d)) _ t rest (λ r told done.
    let same : block_by (declared_effect r.1) (with_table h r.0) ≡ t = cc done in
    subst (λ (v : Taken). NoWord v.history) same none))

sampled_word : (ignores : Bool) (h : History) (first : Line) (ls : List Line) (c : ℕ) (t : Taken) → NoWord h → after_sample ignores h first ls (Some c) ≡ Ok t → NoWord t.history
sampled_word ignores h first ls c t none e =
    bind_ok (sample_of h.table first ls (Some c)) _ t e (λ s is rest. by s ignores (base_values h.table s h.calls) rest)
  where
    by : (s : Sample) (i : Bool) (r : Result (List Value) LineFault) → or_left_out i h (r >>= λ values. Ok (with_values h s values)) ≡ Ok t → NoWord t.history
    by s true (Ok values) e = let same : with_values h s values ≡ t = cc e in subst (λ (v : Taken). NoWord v.history) same none
    by s false (Ok values) e = let same : with_values h s values ≡ t = cc e in subst (λ (v : Taken). NoWord v.history) same none
    by s true (Err unmatched) e = let same : block h ≡ t = cc e in subst (λ (v : Taken). NoWord v.history) same none
    by s false (Err unmatched) e = absurd (cc e)

recorded_word : (ignores : Bool) (h : History) (first : Line) (ls : List Line) (c : ℕ) (t : Taken) → NoWord h → after_record ignores h first ls (Some c) ≡ Ok t → NoWord t.history
recorded_word ignores h first ls c t none e = by (is_declaration first.bytes) (is_list_of_implementors first.bytes) e
  where
    by : (a b : Bool) → (if a then after_declaration h first ls (Some c) else if b then Ok (block h) else after_sample ignores h first ls (Some c)) ≡ Ok t → NoWord t.history
    by true b e = declared_word h first ls c t none e
    by false true e = let same : block h ≡ t = cc e in subst (λ (v : Taken). NoWord v.history) same none
    by false false e = sampled_word ignores h first ls c t none e

lines_word : (ignores : Bool) (h : History) (front : Front) (c : ℕ) (t : Taken) → NoWord h → IsFront h.header None front → after_front ignores h front (Some c) ≡ Ok t → NoWord t.history
lines_word ignores h front c t none is e = by front.lines refl e
  where
    word : (b : Bool) → awaits_word front.header ≡ b → (last : ℕ) → (if b then refused BadHeader last else Ok (block (record h { header = front.header }))) ≡ Ok t → NoWord t.history
    word true is last e = absurd (cc e)
    word false is last e = let same : block (record h { header = front.header }) ≡ t = cc e in subst (λ (v : Taken). NoWord v.history) same is

    alone : front.lines ≡ [] → (o : Option ℕ) → front.last ≡ o → without_record (record h { header = front.header }) o (Some c) ≡ Ok t → NoWord t.history
    alone empty None last e =
        let same : no_block (record h { header = front.header }) ≡ t = cc e in
        let before : front.header ≡ h.header = (is.none empty last).1 in
        subst (λ (v : Taken). NoWord v.history) same (ap awaits_word before ∙ none)
    alone empty (Some last) some e = word (awaits_word front.header) refl last e

    by : (ls : List Line) → front.lines ≡ ls → after_lines ignores (record h { header = front.header }) front.last ls (Some c) ≡ Ok t → NoWord t.history
    by [] empty e = alone empty front.last refl e
    by (l ∷ ls) some e = recorded_word ignores (record h { header = front.header }) l ls c t (is.word (λ empty. absurd (cc (some, empty)))) e

block_word : (ignores : Bool) (h : History) (ls : List Line) (c : ℕ) (t : Taken) → NoWord h → effect_of ignores h ls (Some c) ≡ Ok t → NoWord t.history
unfolding effect_of
block_word ignores h ls c t none e =
    front (block_front h.header None ls) refl e
  where
    front : (r : Result Front LineFault) → block_front h.header None ls ≡ r → (r >>= λ f. after_front ignores h f (Some c)) ≡ Ok t → NoWord t.history
    front (Ok f) is e = lines_word ignores h f c t none (front_is h.header None ls f is) e
    front (Err fault) is e = absurd (cc e)

-- ---- whole texts
abbrev pub Ended : End → Type 0
Ended (Over line) = Unit {0}
Ended Broken = ⊥
Ended (LongLine line) = ⊥
Ended (TooLong line) = ⊥

numbered_end : (n : ℕ) (lines : List (List ℕ)) → Ended (end_of (numbered n lines))
numbered_end n [] = tt
numbered_end n (l ∷ ls) = numbered_end (n + 1) ls

groups_word : (ignores : Bool) (h : History) (g : Groups) (t : History) → NoWord h → Ended (groups_end g) → after_all ignores (effect_of ignores h) g ≡ Ok t → NoWord t
groups_word ignores h (Group ls close rest) t none ended e =
    by (effect_of ignores h ls (Some close)) refl e (λ u word. groups_word ignores u rest t word ended)
  where
    by : (r : Result Taken LineFault) → effect_of ignores h ls (Some close) ≡ r → (r >>= λ u. after_all ignores (effect_of ignores u.history) rest) ≡ Ok t
        → ((u : History) → NoWord u → after_all ignores (effect_of ignores u) rest ≡ Ok t → NoWord t) → NoWord t
    by (Ok u) is e more = more u.history (block_word ignores h ls close u none is) e
    by (Err fault) is e more = absurd (cc e)
groups_word ignores h (Last ls (Over line)) t none ended e = by (effect_of ignores h ls (Some line)) refl e
  where
    by : (r : Result Taken LineFault) → effect_of ignores h ls (Some line) ≡ r → (r >>= λ u. Ok u.history) ≡ Ok t → NoWord t
    by (Ok u) is e = let same : u.history ≡ t = cc e in subst NoWord same (block_word ignores h ls line u none is)
    by (Err fault) is e = absurd (cc e)
groups_word ignores h (Last ls Broken) t none ended e = absurd ended
groups_word ignores h (Last ls (LongLine line)) t none ended e = absurd ended
groups_word ignores h (Last ls (TooLong line)) t none ended e = absurd ended

-- the groups of numbered lines end where the lines are over
pub groups_over : (n : ℕ) (lines : List (List ℕ)) → Ended (groups_end (groups_of (numbered n lines)))
groups_over n lines = subst Ended (sym (groups_end_alike (numbered n lines))) (numbered_end n lines)

pub text_word : (ignores : Bool) (h : History) (n : ℕ) (lines : List (List ℕ)) (t : History) → NoWord h → read_on ignores (effect_of ignores h) n lines ≡ Ok t → NoWord t
text_word ignores h n lines t none e =
    groups_word ignores h (groups_of (numbered n lines)) t none (groups_over n lines) e
